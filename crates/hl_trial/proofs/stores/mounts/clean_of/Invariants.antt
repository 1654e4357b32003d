use Rattle.std.proofs.Common.{◌≡◌, ◌+◌, ◌≤◌}
use Rattle.hl_trial.specs.Parts.{AreCleanTo}
use Rattle.hl_trial.proofs.stores.mounts.clean_of.Given as goal

abbrev pub invariant-segments : goal.invariant-segments
invariant-segments l = AreCleanTo l.head l.seg l.clean.items × (l.seg ≤ l.site.log + 1) × (l.seg-end ≡ l.site.log + 1)
