use Rattle.std.proofs.Common.{◌+◌, ◌≤◌, ◌++◌, length, refl, ap, ◌∙◌, ℕ, arith}
use Rattle.hl_bytes.specs.Fields.{le32, le64, written}
use Rattle.hl_bytes.proofs.Places.{written_on}
use Rattle.hl_tables.specs.Entries.{slot_bytes, state_field, line_field, serial_field}
use Rattle.hl_tables.proofs.entries.put_slot.Goals as goal

pub returns : goal.returns
unfolding slot_bytes le32 le64
returns c =
    let s = c.args.slot in
    let old = c.args.bytes.now in
    let at = c.args.at in
    let low : at ≤ length old = omega (arith, c.requires) in
    let A = le32 (state_field s) in
    let B = A ++ le32 (line_field s) in
    let a = c.put_u32.ensures.whole ∙ ap (λ (n : ℕ). written old at (le32 n)) c.state_field.ensures in
    let b = c.put_u32-2.ensures.whole ∙ ap (λ (n : ℕ). written c.put_u32.new.bytes (at + 4) (le32 n)) c.line_field.ensures in
    let e = c.put_u64.ensures.whole ∙ ap (λ (n : ℕ). written c.put_u32-2.new.bytes (at + 8) (le64 n)) c.serial_field.ensures in
    let ab = written_on old c.put_u32.new.bytes c.put_u32-2.new.bytes A (le32 (line_field s)) at (at + 4) a b refl low in
    written_on old c.put_u32-2.new.bytes c.put_u64.new.bytes B (le64 (serial_field s)) at (at + 8) ab e refl low
