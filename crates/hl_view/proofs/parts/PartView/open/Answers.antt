use Rattle.std.proofs.Common.{◌≡◌, ◌*◌, ◌-◌, ◌↔◌, Some, None, Option, ℕ, length, refl, ◌+◌, ◌≤◌, arith}
use Rattle.hl_bytes.proofs.Decoding.{accepted, refused, none_exactly}
use Rattle.hl_summary.specs.Parts.{Spells, summary_in}
use Rattle.hl_summary.specs.declared.parts.Summary.{Summary}
use Rattle.hl_summary.proofs.SummaryLemmas.{only}
use Rattle.hl_view.proofs.parts.PartView.open.Goals as goal

found : (c : goal.Then-is_part) (v : Summary) → (Some (summary_in c.args.part.now) ≡ Some v) ↔ Spells c.args.geometry.now c.args.seg c.args.block c.args.serial c.args.part.now v
found c =
    let part = c.args.part.now in
    let g = c.args.geometry.now in
    accepted (Spells g c.args.seg c.args.block c.args.serial part) (summary_in part) c.is_part.result c.if-is_part.true c.is_part.ensures.0 (only g c.args.seg c.args.block c.args.serial part (summary_in part) refl)

missing : (c : goal.Else-is_part) (v : Summary) → (let nothing : Option Summary = None in nothing ≡ Some v) ↔ Spells c.args.geometry.now c.args.seg c.args.block c.args.serial c.args.part.now v
missing c =
    let part = c.args.part.now in
    let g = c.args.geometry.now in
    refused (Spells g c.args.seg c.args.block c.args.serial part) (summary_in part) c.is_part.result c.if-is_part.false c.is_part.ensures.1 (only g c.args.seg c.args.block c.args.serial part (summary_in part) refl)

pub returns-then-is_part-clause-found : goal.returns-then-is_part-clause-found
returns-then-is_part-clause-found c = found c

pub returns-then-is_part-clause-none : goal.returns-then-is_part-clause-none
returns-then-is_part-clause-none c = none_exactly (Spells c.args.geometry.now c.args.seg c.args.block c.args.serial c.args.part.now) (Some (summary_in c.args.part.now)) (found c)

pub returns-else-is_part-clause-found : goal.returns-else-is_part-clause-found
returns-else-is_part-clause-found c = missing c

pub returns-else-is_part-clause-none : goal.returns-else-is_part-clause-none
returns-else-is_part-clause-none c = none_exactly (Spells c.args.geometry.now c.args.seg c.args.block c.args.serial c.args.part.now) None (missing c)

-- a part has its blocks before the segment's end
seen : (part k block n : ℕ) → part ≡ 4096 * (k - block) → block + n + 1 ≤ k → 4096 * (1 + n) ≤ part
seen part k block n size within = omega arith

pub invariant_of-result : goal.invariant_of-result
invariant_of-result c =
    let part = c.args.part.now in
    let n = length (summary_in part).blocks in
    record { blocks = seen (length part) c.args.geometry.now.k c.args.block n c.requires (c.is_part.ensures.0 c.if-is_part.true).value.ranges.within }
