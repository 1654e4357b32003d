use Rattle.std.proofs.Common.{ℕ, List, subst}
use Rattle.hl_media.specs.History.{content}
use Rattle.hl_recovery.specs.TablePlaces.{IsMisplaced}
use Rattle.hl_recovery.proofs.TableReads.{misplaced_stops}
use Rattle.hl_recovery.proofs.tables.find_tables.Goals as goal

pub returns-in-Some-clause-stopped : goal.returns-in-Some-clause-stopped
returns-in-Some-clause-stopped g c = λ h e.
    let site = c.args.site.now in
    misplaced_stops site.geometry (content h) site.rec c.in-Some.block
    (subst (λ (l : List ℕ). IsMisplaced site.geometry l c.in-Some.block) c.items.ensures c.in-Some.ensures)
