use Rattle.std.proofs.Common.{arith, ◌≡◌, ◌+◌, ◌≤◌, [], ◌∷◌, ◌++◌, length, length-append}
use Rattle.hl_bytes.specs.Fields.{le32}
use Rattle.hl_bytes.proofs.Places.{written_on}
use Rattle.hl_bytes.proofs.RunLemmas.{length-le32}
use Rattle.hl_entries.proofs.editing.put_fields.Goals as goal

pub returns : goal.returns
returns c =
    let bytes = c.args.bytes.now in
    let name = c.args.name.now in
    let at = c.args.at in
    let number = length-le32 c.args.ino in
    let head = length-append (le32 c.args.ino) (length name ∷ []) in
    let low : at ≤ length bytes = omega arith in
    let four : at + 4 ≡ at + length (le32 c.args.ino) = omega arith in
    let five : at + 5 ≡ at + length (le32 c.args.ino ++ length name ∷ []) = omega arith in
    written_on bytes c.put_bytes.new.bytes c.put_bytes-2.new.bytes (le32 c.args.ino ++ length name ∷ []) name at (at + 5)
    (written_on bytes c.put_u32.new.bytes c.put_bytes.new.bytes (le32 c.args.ino) (length name ∷ []) at (at + 4) c.put_u32.ensures.whole c.put_bytes.ensures.whole four low)
    c.put_bytes-2.ensures.whole five low
