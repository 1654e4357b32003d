use Rattle.std.proofs.Common.{◌≡◌, ◌↔◌, Some, None, Option, refl, sym, subst}
use Rattle.hl_bytes.proofs.Decoding.{refused, none_exactly, some_is}
use Rattle.hl_summary.specs.declared.parts.Summary.{Summary}
use Rattle.hl_summary.specs.Parts.{Spells, summary_in}
use Rattle.hl_summary.proofs.SummaryLemmas.{only}
use Rattle.hl_summary.proofs.parts.check.Goals as goal

missing : (c : goal.Then-not-is_part) (v : Summary) → (let nothing : Option Summary = None in nothing ≡ Some v) ↔ Spells c.args.geometry.now c.args.seg c.args.block c.args.serial c.args.part.now v
missing c =
    let g = c.args.geometry.now in
    let part = c.args.part.now in
    refused (Spells g c.args.seg c.args.block c.args.serial part) (summary_in part) c.is_part.result c.if-not-is_part.true c.is_part.ensures.1 (only g c.args.seg c.args.block c.args.serial part (summary_in part) refl)

pub returns-then-not-is_part-clause-found : goal.returns-then-not-is_part-clause-found
returns-then-not-is_part-clause-found c = missing c

pub returns-then-not-is_part-clause-none : goal.returns-then-not-is_part-clause-none
returns-then-not-is_part-clause-none c = none_exactly (Spells c.args.geometry.now c.args.seg c.args.block c.args.serial c.args.part.now) None (missing c)

pub returns : goal.returns
returns c =
    let x = c.in_ok-summary.summary in
    let g = c.args.geometry.now in
    let part = c.args.part.now in
    let P = Spells g c.args.seg c.args.block c.args.serial part in
    let found : (v : Summary) → (Some x ≡ Some v) ↔ P v =
    some_is P x (subst P (sym c.in_ok-summary.ensures) (c.is_part.ensures.0 c.if-not-is_part.false)) (only g c.args.seg c.args.block c.args.serial part x c.in_ok-summary.ensures) in
    record { found = found; none = none_exactly P (Some x) found }
