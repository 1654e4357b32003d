-- The content of a directory: its bytes, its blocks and its charge.
use Rattle.std.proofs.Common.{arith, ◌≡◌, ℕ, zero, suc, ◌+◌, nat_lt, true, cond, not, List, [], ◌∷◌, ◌++◌, map, length, drop, refl, ap, ◌∙◌, sym, subst, length-append, ◌<◌, get_or}
use Rattle.std.proofs.lemmas.Bool.Decides.{nat_tests}
use Rattle.std.proofs.lemmas.Grind.{same_number_lists}
use Rattle.std.proofs.lemmas.List.{same_lists, get_or_default}
use Rattle.std.proofs.lemmas.List.FromFn.{length-map-range_with_len, get_or-map-range_with_len}
use Rattle.std.proofs.lemmas.List.Sums.{sum_by-cons}
use Rattle.std.specs.List.{range_with_len, list_any, count_by}
use Rattle.hl_bytes.specs.Fields.{le32}
use Rattle.hl_bytes.proofs.RunLemmas.{length-le32}
use Rattle.hl_dir.specs.declared.entry.Entry.{Entry}
use Rattle.hl_dir.specs.Dirs.{dir_bytes, entry_bytes, AreEntries, Spells}
use Rattle.hl_placed.specs.Blocks.{Block, Here, IsPlacedFile, Shelf, plain_bytes, blocks_of, padded_block, is_hole, is_here, Hole, Away, PlacedFile, file_block, byte_of, listed}
use Rattle.hl_placed.specs.Changes.{rewritten, new_file}
use Rattle.hl_placed.specs.Charges.{parts_charge, blocks_charge, names_size, names_charge}
use Rattle.hl_placed.proofs.Blocks.{length-padded_block, byte_of-plain_bytes}
use Rattle.hl_placed.proofs.Changes.{length-plain_bytes, plain_bytes-rewritten}
use Rattle.hl_placed.proofs.Kept.{IsPlacedFile-rewritten, IsPlacedFile-new}
use Rattle.hl_paths.specs.Entries.{entry_names}
use Rattle.hl_paths.proofs.Links.{true_false}
use Rattle.hl_paths.specs.Nodes.{directory_content}

-- a directory's content is as the writing of all its bytes leaves it
written_whole : (es : List Entry) → directory_content es ≡ rewritten (new_file 0) (dir_bytes es) (λ i. true) 0
unfolding directory_content rewritten
written_whole es = refl

module _ (shelf : Shelf) (es : List Entry) where
  -- the bytes of a directory spell its entries
  pub plain_bytes-directory : plain_bytes shelf (directory_content es) ≡ dir_bytes es
  plain_bytes-directory = ap (plain_bytes shelf) (written_whole es) ∙ plain_bytes-rewritten shelf (new_file 0) (dir_bytes es) (λ i. true) 0 (λ j within untouched. cc)

  pub IsPlacedFile-directory : IsPlacedFile shelf (directory_content es)
  IsPlacedFile-directory = subst (IsPlacedFile shelf) (sym (written_whole es))
      (IsPlacedFile-rewritten shelf (new_file 0) (dir_bytes es) (λ i. true) 0 (IsPlacedFile-new shelf (new_file 0) 0) (λ j past within untouched. cc))

  pub Spells-directory : AreEntries es → Spells (plain_bytes shelf (directory_content es)) es
  Spells-directory are = record { value = are; spelled = plain_bytes-directory }

-- THE CHARGE

abbrev here_from : (ℕ → List ℕ) → ℕ → ℕ → List Block
here_from bytes from n = map (λ i. Here (bytes i)) (range_with_len from n)

count-here : (bytes : ℕ → List ℕ) (from n : ℕ) → count_by is_here (here_from bytes from n) ≡ n
count-here bytes from zero = refl
count-here bytes from (suc n) =
    let one = sum_by-cons (λ block. cond (is_here block) 1 0) (Here (bytes from)) (here_from bytes (from + 1) n) in
    let rest : count_by is_here (here_from bytes (from + 1) n) ≡ n = count-here bytes (from + 1) n in
    omega arith

any-here : (bytes : ℕ → List ℕ) (k from n : ℕ) → list_any (λ block. not (is_hole block)) (drop k (here_from bytes from n)) ≡ nat_lt k n
any-here bytes zero from zero = refl
any-here bytes zero from (suc n) = grind (arith, nat_tests)
any-here bytes (suc k) from zero = grind (arith, nat_tests)
any-here bytes (suc k) from (suc n) = any-here bytes k (from + 1) n ∙ grind (arith, nat_tests)

pub length-dir_bytes : (es : List Entry) → length (dir_bytes es) ≡ names_size (entry_names es)
unfolding dir_bytes
length-dir_bytes [] = refl
length-dir_bytes (e ∷ es) =
    let whole = length-append (entry_bytes e) (dir_bytes es) in
    let one = length-entry e in
    let rest = length-dir_bytes es in
    let sum = sum_by-cons (λ (name : List ℕ). 5 + length name) e.name (entry_names es) in
    omega arith
  where
    length-entry : (e : Entry) → length (entry_bytes e) ≡ 5 + length e.name
    length-entry e =
        let outer = length-append (le32 e.ino ++ length e.name ∷ []) e.name in
        let front = length-append (le32 e.ino) (length e.name ∷ []) in
        let number = length-le32 e.ino in
        omega arith

-- a directory is charged by its names
pub blocks_charge-directory : (es : List Entry) → blocks_charge (directory_content es).blocks ≡ names_charge (entry_names es)
unfolding directory_content
blocks_charge-directory es =
    (λ i. parts_charge (any-here (padded_block (dir_bytes es)) 12 0 (blocks_of (length (dir_bytes es))) i) (count-here (padded_block (dir_bytes es)) 0 (blocks_of (length (dir_bytes es))) i))
    ∙ ap (λ n. parts_charge (nat_lt 12 (blocks_of n)) (blocks_of n)) (length-dir_bytes es)

-- THE ONE SPELLING

-- a placed file that is never used, whose blocks are all resident and whose bytes spell entries, is their content
module _ (shelf : Shelf) (file : PlacedFile) (es : List Entry) (is : IsPlacedFile shelf file) (resident : (i : ℕ) → i < length file.blocks → is_here (file_block file i) ≡ true) (spelled : plain_bytes shelf file ≡ dir_bytes es) (unused : file.used ≡ 0) where
  size_is : file.size ≡ length (dir_bytes es)
  size_is = sym (length-plain_bytes shelf file) ∙ ap length spelled

  bytes_at : (i : ℕ) (bytes : List ℕ) → file_block file i ≡ Here bytes → bytes ≡ padded_block (dir_bytes es) i
  bytes_at i bytes e =
      let one = is.full i bytes e in
      let two = length-padded_block (dir_bytes es) i in
      same_number_lists bytes (padded_block (dir_bytes es) i) (one ∙ sym two) (λ k h.
      sym (ap (λ b. get_or (padded_block b i) k 0) (sym spelled) ∙ byte_of-plain_bytes shelf file i k is (omega arith) ∙ ap (λ b. byte_of shelf b k) e))

  one_block : (i : ℕ) (block : Block) → file_block file i ≡ block → is_here block ≡ true → block ≡ Here (padded_block (dir_bytes es) i)
  one_block i Hole e here = absurd (true_false (sym here))
  one_block i (Away serial position) e here = absurd (true_false (sym here))
  one_block i (Here bytes) e here = ap Here (bytes_at i bytes e)

  count_is : length file.blocks ≡ blocks_of (length (dir_bytes es))
  count_is = is.count ∙ ap blocks_of size_is

  blocks_are : file.blocks ≡ listed (blocks_of (length (dir_bytes es))) (λ i. Here (padded_block (dir_bytes es) i))
  blocks_are =
      let count = count_is in
      same_lists file.blocks (listed (blocks_of (length (dir_bytes es))) (λ i. Here (padded_block (dir_bytes es) i)))
      (count ∙ sym (length-map-range_with_len (λ i. Here (padded_block (dir_bytes es) i)) 0 (blocks_of (length (dir_bytes es)))))
      (λ k d h.
      get_or_default file.blocks k d Hole h
      ∙ one_block k (file_block file k) refl (resident k h)
      ∙ sym (get_or-map-range_with_len (λ i. Here (padded_block (dir_bytes es) i)) 0 (blocks_of (length (dir_bytes es))) k k d (omega arith) (omega arith)))

  pub directory_content-only : file ≡ directory_content es
  unfolding directory_content
  directory_content-only = λ i. record { size = size_is i; used = unused i; blocks = blocks_are i }
