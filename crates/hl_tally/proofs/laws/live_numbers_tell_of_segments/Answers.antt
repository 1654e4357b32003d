use Rattle.hl_tally.proofs.NumberLaws.{number_most, number_none, number_parts}
use Rattle.hl_tally.proofs.laws.live_numbers_tell_of_segments.Goals as goal

pub returns : goal.returns
returns r = record {
  most = λ g image c o n segment sound t low high. number_most g image c o n segment t low high sound;
  none = λ g image c o n segment t low high none x. number_none g image c o n segment t low high none x;
  parts = λ g image c o n segment t low high none. number_parts g image c o n segment t low high none;
}
