-- What the rules of a site tell of an event: the answer, and the site that it leaves.
use Rattle.std.specs.Prelude.{◌-◌, Result, Ok, Err}
use Rattle.hl_addr.specs.Layout.{Layout}
use Rattle.hl_tree.specs.declared.call.Limits.{Limits}
use Rattle.hl_tree.specs.declared.call.Refusal.{Refusal}
use Rattle.hl_model.specs.Site.{SiteState}
use Rattle.hl_model.specs.Answers.{SiteAnswer}

-- an answer that leaves the site as it is, or one with the site that it leaves
abbrev pub Ruled : Type 0
Ruled = Result (SiteAnswer × SiteState) SiteAnswer

-- a refusal by the file rules, as the site answers it
abbrev pub by_rules : {A : Type 0} → Result A Refusal → (Refusal → SiteAnswer) → Result A SiteAnswer
by_rules (Ok a) answer = Ok a
by_rules (Err why) answer = Err (answer why)

abbrev pub limits_of : Layout → Limits
limits_of g = record { nodes = g.inodes - 1; bytes = 4243456 }

abbrev pub told_of : SiteState → Ruled → SiteAnswer × SiteState
told_of s (Ok told) = told
told_of s (Err answer) = (answer, s)
