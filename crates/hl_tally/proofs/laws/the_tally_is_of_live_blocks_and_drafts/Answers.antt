use Rattle.hl_tally.proofs.ReachLaws.{live_tally, log_tally, room_tally, slots_tally, uses_tally}
use Rattle.hl_tally.proofs.laws.the_tally_is_of_live_blocks_and_drafts.Goals as goal

pub returns : goal.returns
returns r = record {
  live = λ g a b c o n has same t. live_tally g a b c o n has same t;
  log = λ g a b c o n has same t. log_tally g a b c o n has same t;
  room = λ g image c o room n t. room_tally g image c o room n t;
  slots = λ g image c o slots n t. slots_tally g image c o slots n t;
  uses = λ g image c o whole uses ino n others high t. uses_tally g image c o whole uses ino others high n t;
}
