use Rattle.std.proofs.Common.{◌≡◌, ◌≤◌, ◌-◌, ◌+◌, ◌++◌, length, ap, ◌∙◌, refl, arith, ℕ}
use Rattle.hl_bytes.specs.Fields.{le32, le64, zeros, written}
use Rattle.hl_bytes.specs.Records.{table_record_bytes}
use Rattle.hl_bytes.proofs.Places.{written_on}
use Rattle.hl_bytes.proofs.records.put_table_record.Goals as goal

pub returns-clause-bytes : goal.returns-clause-bytes
unfolding table_record_bytes le32 le64 zeros
returns-clause-bytes c =
    let r = c.args.change.now in
    let old = c.args.bytes.now in
    let at = c.args.at in
    let low : at ≤ length old = omega (arith, c.requires) in
    let gap : at + 16 - (at + 12) ≡ 4 = omega arith in
    let A = le32 r.kind in
    let B = A ++ le32 r.a in
    let C = B ++ le32 r.b in
    let D = C ++ zeros 4 in
    let b = written_on old c.put_u32.new.bytes c.put_u32-2.new.bytes A (le32 r.a) at (at + 4) c.put_u32.ensures.whole c.put_u32-2.ensures.whole refl low in
    let d = written_on old c.put_u32-2.new.bytes c.put_u32-3.new.bytes B (le32 r.b) at (at + 8) b c.put_u32-3.ensures.whole refl low in
    let z = c.put_zeros.ensures.whole ∙ ap (λ (n : ℕ). written c.put_u32-3.new.bytes (at + 12) (zeros n)) gap in
    let e = written_on old c.put_u32-3.new.bytes c.put_zeros.new.bytes C (zeros 4) at (at + 12) d z refl low in
    written_on old c.put_zeros.new.bytes c.put_u64.new.bytes D (le64 r.serial) at (at + 16) e c.put_u64.ensures.whole refl low
