-- What a closing leaves.
use Rattle.std.specs.Prelude.{◌≡◌, ◌⊎◌, ◌<◌, ◌≤◌, true, false, [], None}
use Rattle.hl_model.specs.Cleaning.{LogUse}
use Rattle.hl_model.specs.Mounted.{OpeningTables}
use Rattle.hl_model.specs.Site.{SiteState}
use Rattle.hl_model.specs.Steps.{State}

-- the tables of a site, as its images have them behind a checkpoint
abbrev pub tables_of : SiteState → OpeningTables
tables_of s = record { slots = s.slots; full = s.full; next_serial = s.next_serial }

-- a checkpoint was written, for which six segments were clean, and no pass follows it
pub record HasCheckpointed (before after : LogUse) : Type 0 where
  pub room : before.left ≡ false → 6 ≤ before.clean
  pub number : before.number < after.number
  pub cleaned : after.cleaned ≡ []
  pub tidy : after.tidy ≡ true
  pub ran : after.left ≡ false

-- nothing was dirty and the log was full, so that nothing was written
pub record HasNothingToWrite (before after : LogUse) : Type 0 where
  pub tidy : before.tidy ≡ true
  pub ran : before.left ≡ false
  pub full : before.clean < 6
  pub stays : after ≡ before

-- What a closing leaves that met no fault: the tree and the tables stay, each job that was out is over, and its volume back.
pub record IsClosed (before after : State) : Type 0 where
  pub running : before.site.stopped ≡ None
  pub tree : after.site.tree ≡ before.site.tree
  pub tables : tables_of after.site ≡ tables_of before.site
  pub jobs : after.site.jobs ≡ []
  pub log : HasCheckpointed before.log after.log ⊎ HasNothingToWrite before.log after.log
  pub calm : after.write_faults ≡ before.write_faults
