-- What a step writes in the log before its rules.
use Rattle.std.specs.Prelude.{Bool, false, ◌&&◌, ◌||◌, not, nat_le, nat_lt, is_none}
use Rattle.hl_addr.specs.Layout.{Layout}
use Rattle.hl_tree.specs.declared.call.Call.{Call}
use Rattle.hl_tree.specs.declared.call.Call.TheVariants as calls
use Rattle.hl_model.specs.Causes.{may_write}
use Rattle.hl_model.specs.Cleaning.{LogUse}
use Rattle.hl_model.specs.Events.{SiteEvent, FileCall}
use Rattle.hl_model.specs.Site.{SiteState}

module _ (g : Layout) (s : SiteState) (log : LogUse) where
  -- A sync writes a unit where anything is dirty, and a call that changes files where as much is as a segment has blocks.
  abbrev pub call_is_due : Call → Bool
  call_is_due (calls.Read path at len) = false
  call_is_due (calls.Stat path) = false
  call_is_due (calls.List path) = false
  call_is_due calls.Sync = not log.tidy
  call_is_due call = nat_le g.k log.dirty

  -- all else that writes in the log writes a unit first where anything is dirty
  abbrev pub unit_is_due : SiteEvent → Bool
  unit_is_due (FileCall now call) = is_none s.stopped && call_is_due call
  unit_is_due event = may_write g s event && not log.tidy

  -- passes that were left come first of all; a sync doesn't run them, since nothing is dirty then
  abbrev pub passes_are_due : SiteEvent → Bool
  passes_are_due (FileCall now calls.Sync) = false
  passes_are_due event = may_write g s event && log.left

  abbrev pub is_due : SiteEvent → Bool
  is_due event = unit_is_due event || passes_are_due event

  -- a unit is due, and fewer than six segments are clean
  abbrev pub finds_full : SiteEvent → Bool
  finds_full event = unit_is_due event && nat_lt log.clean 6
