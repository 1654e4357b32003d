-- How many bytes entries and dumps are.
use Rattle.std.proofs.Common.{◌≡◌, ◌+◌, List, [], ◌∷◌, ◌++◌, length, refl, arith, length-append}
use Rattle.std.specs.List.{flat_map, sum_by}
use Rattle.std.proofs.lemmas.List.Sums.{sum_by-cons}
use Rattle.std.specs.FinMap.{entries}
use Rattle.hl_bytes.specs.Fields.{le32}
use Rattle.hl_tree.specs.declared.node.Node.TheVariants.{Dir, File}
use Rattle.hl_tree.specs.Rules.{Files}
use Rattle.hl_dump.specs.Dumps.{path_bytes, entry_bytes, dump_bytes, dump_size}
use Rattle.hl_dump.specs.Reading.{Row}
use Rattle.hl_dump.specs.Sizes.{entry_size}
use Rattle.hl_dump.proofs.Entries.{length-path_bytes}

-- the bytes of an entry are as many as its size says
pub length-entry_bytes : (e : Row) → length (entry_bytes e) ≡ entry_size e
unfolding le32
length-entry_bytes ([], node) = refl
length-entry_bytes (name ∷ names, Dir) = let path = length-path_bytes (name ∷ names) in omega (arith, path)
length-entry_bytes (name ∷ names, File bytes) =
    let path = length-path_bytes (name ∷ names) in
    let p = path_bytes (name ∷ names) in
    let whole : length (((p ++ le32 (length bytes)) ++ bytes)) ≡ length p + 4 + length bytes = omega (arith, length-append (p ++ le32 (length bytes)) bytes, length-append p (le32 (length bytes))) in
    omega (arith, path, whole)

-- the bytes of rows, one after the other
pub length-rows : (es : List Row) → length (flat_map entry_bytes es) ≡ sum_by entry_size es
length-rows [] = refl
length-rows (e ∷ es) = omega (arith, length-append (entry_bytes e) (flat_map entry_bytes es), length-entry_bytes e, length-rows es, sum_by-cons entry_size e es)

-- the size of a dump is the sum over the rows
pub dump_size-rows : (t : Files) → dump_size t ≡ sum_by entry_size (entries t)
unfolding dump_bytes
dump_size-rows t = length-rows (entries t)
