use Rattle.std.proofs.Common.{subst}
use Rattle.hl_summary.specs.Parts.{Checks}
use Rattle.hl_summary.specs.declared.parts.Summary.{Summary}
use Rattle.hl_summary.proofs.SealLemmas.{same_summary}
use Rattle.hl_summary.proofs.parts.seal.Goals as goal

pub returns-clause-checks : goal.returns-clause-checks
returns-clause-checks c =
    let same = same_summary c.args.summary.now c.heading_of-heading.result c.items.result.now c.items-2.result.now c.items.ensures c.items-2.ensures c.heading_of-heading.ensures in
    subst (λ (s : Summary). Checks s c.seal_with.new.part) same c.seal_with.ensures.checks
