use Rattle.std.proofs.Common.{ap, subst}
use Rattle.hl_bytes.specs.Buffers.{block_of}
use Rattle.hl_found.specs.Found.{FindsContents, contents_found}
use Rattle.hl_nodes.proofs.LaidTables.{laid_are_tables}
use Rattle.hl_trial.proofs.PartLemmas.{parts_of_log}
use Rattle.hl_trial.proofs.stores.mounts.open_over.Goals as goal

pub open-requires-2 : goal.open-requires-2
open-requires-2 g c = parts_of_log c.in-Ok.log _ _ _ (ap (λ l. l.geometry) c.in-Ok.ensures.opened) (ap (λ l. l.at.head.seg) c.in-Ok.ensures.opened) c.in_ok-parts.ensures

pub parts_of-requires : goal.parts_of-requires
parts_of-requires g c = let found = subst (λ o. FindsContents c.args.site.now (block_of c.args.image.now) o) c.in-Some.is c.in_ok-found.ensures in
    laid_are_tables c.args.site.now (block_of c.args.image.now) (contents_found c.in-Some.found) found.has
