use Rattle.hl_overlaid.proofs.UseLemmas.{use_over, use_shows, use_waits}
use Rattle.hl_overlaid.proofs.change_laws.a_use_shows_in_a_changed_draft.Goals as goal

pub returns-clause-shows : goal.returns-clause-shows
returns-clause-shows r g o whole uses ino others c high is = use_shows g o whole uses ino others c high is

pub returns-clause-waits : goal.returns-clause-waits
returns-clause-waits r g o whole uses ino others last none = use_waits g o whole uses ino others last none

pub returns-clause-over : goal.returns-clause-over
returns-clause-over r g image c o whole uses ino others high over = use_over g image c o whole uses ino others high over
