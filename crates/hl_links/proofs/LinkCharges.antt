-- What a directory of other entries is charged, and the tree with it.
use Rattle.std.proofs.Common.{arith, ◌≡◌, inl, inr, ℕ, ◌+◌, ◌<◌, ◌≤◌, Bool, true, false, ◌&&◌, nat_lt, List, length, refl, ap, ◌∙◌, sym}
use Rattle.std.specs.Int.{div_ceil}
use Rattle.std.specs.FinMap.{insert, remove}
use Rattle.std.proofs.lemmas.Bool.{cases_lt}
use Rattle.std.proofs.lemmas.Bool.Decides.{nat_tests}
use Rattle.hl_dir.specs.Dirs.{dir_bytes}
use Rattle.hl_placed.specs.Blocks.{PlacedFile}
use Rattle.hl_paths.specs.Charges.{nodes_charge, numbered_charge}
use Rattle.hl_paths.specs.Numbered.{Directory, Numbering}
use Rattle.hl_calls.specs.Growths.{directory_charge, exceeds}
use Rattle.hl_calls.proofs.ChargeSums.{charge-few, charge-many}
use Rattle.hl_calls.proofs.Quotas.{nodes_charge-remove, nodes_charge-replaced, numbered_charge-directory}
use Rattle.hl_links.specs.declared.changing.DirectoryChange.{DirectoryChange}
use Rattle.hl_links.specs.Links.{Relinks}

none : (b c : Bool) → c ≡ false → (b && c) ≡ false
none true c e = e
none false c e = refl

-- a charge that doesn't grow exceeds nothing
pub exceeds_less : (quota before after : ℕ) → after ≤ before → exceeds quota before after ≡ false
exceeds_less quota before after le =
    let grows : nat_lt before after ≡ false = grind (arith, nat_tests) in
    none (nat_lt quota after) (nat_lt before after) grows

-- so many bytes are charged at most
pub charge_most : (size : ℕ) → size ≤ 4243456 → directory_charge size ≤ 1038
charge_most size most = elim (cases_lt 12 (div_ceil size 4096)) as (λ _. directory_charge size ≤ 1038) [
  | inl many ↦ (let is = charge-many size (div_ceil size 4096) refl many in omega arith)
  | inr few ↦ (let is = charge-few size (div_ceil size 4096) refl few in omega arith)
]

-- fewer bytes are charged no more
pub charge_less : (less more : ℕ) → less ≤ more → directory_charge less ≤ directory_charge more
charge_less less more le = elim (cases_lt 12 (div_ceil less 4096)) as (λ _. directory_charge less ≤ directory_charge more) [
  | inl many ↦
      let one = charge-many less (div_ceil less 4096) refl many in
      let some : 12 < div_ceil more 4096 = omega arith in
      let two = charge-many more (div_ceil more 4096) refl some in
      omega arith
  | inr few ↦
      let one = charge-few less (div_ceil less 4096) refl few in
      elim (cases_lt 12 (div_ceil more 4096)) as (λ _. directory_charge less ≤ directory_charge more) [
        | inl many ↦ (let two = charge-many more (div_ceil more 4096) refl many in omega arith)
        | inr some ↦ (let two = charge-few more (div_ceil more 4096) refl some in omega arith)
      ]
]

-- A DIRECTORY OF OTHER ENTRIES is charged by its bytes, in place of those that it had
pub charge_relinked : (change : DirectoryChange) (before after : Numbering PlacedFile) → (links : Relinks change before after)
    → nodes_charge after + directory_charge (length (dir_bytes links.had)) ≡ nodes_charge before + directory_charge (length change.bytes.items)
charge_relinked change before after links =
    let replaced = nodes_charge-replaced before change.number (Directory links.had) (Directory links.has) links.there in
    let left = ap nodes_charge links.left in
    let had = numbered_charge-directory links.had in
    let has = numbered_charge-directory links.has ∙ sym (ap (λ (b : List ℕ). directory_charge (length b)) links.spelled) in
    sum (nodes_charge after) (nodes_charge (insert before change.number (Directory links.has))) (nodes_charge before) (numbered_charge (Directory links.had)) (numbered_charge (Directory links.has))
    (directory_charge (length (dir_bytes links.had))) (directory_charge (length change.bytes.items)) left replaced had has
  where
    sum : (after put before had has had_bytes has_bytes : ℕ) → after ≡ put → put + had ≡ before + has → had ≡ had_bytes → has ≡ has_bytes → after + had_bytes ≡ before + has_bytes
    sum after put before had has had_bytes has_bytes a b c d = omega arith

-- a number that is freed is charged no more
pub charge_freed : (nodes : Numbering PlacedFile) (number : ℕ) → nodes_charge (remove nodes number) ≤ nodes_charge nodes
charge_freed nodes number =
    let less = nodes_charge-remove nodes number in
    omega arith
