-- A tree is told by its dump.
use Rattle.std.proofs.Common.{◌≡◌, ◌≢◌, ℕ, ◌^◌, ◌<◌, ◌≤◌, ◌&&◌, Bool, true, false, T, List, [], ◌∷◌, ◌++◌, length, All, Some, refl, sym, ap, subst, ◌∙◌, arith, append_assoc}
use Rattle.std.specs.List.{AllByRecursion, flat_map, sum_by}
use Rattle.std.specs.FinMap.{entries, get-entries, entries_sorted, same_entries_map}
use Rattle.std.specs.FinMap.Entries.{find, is_sorted, below_all}
use Rattle.std.specs.declared.cmp.Ordering.TheVariants.{Less}
use Rattle.std.proofs.lemmas.List.{append-nil}
use Rattle.std.proofs.lemmas.List.Sums.{sum_by-cons}
use Rattle.std.proofs.lemmas.List.Elements.{All-head, All-tail}
use Rattle.hl_tree.specs.declared.node.Node.TheVariants.{Dir, File}
use Rattle.hl_tree.specs.Names.{AreNames, path_cmp, path_length}
use Rattle.hl_tree.specs.Rules.{Files}
use Rattle.hl_tree.specs.Tree.{IsTree}
use Rattle.hl_tree.proofs.Places.{all_above, find_above}
use Rattle.hl_dump.specs.Dumps.{entry_bytes, dump_bytes, dump_size, HasDump, IsDump}
use Rattle.hl_dump.specs.Reading.{Row, IsEntry, content_of}
use Rattle.hl_dump.specs.Sizes.{entry_size}
use Rattle.hl_dump.proofs.Entries.{same_entry}
use Rattle.hl_dump.proofs.Sizes.{length-entry_bytes, dump_size-rows}

abbrev pub AreEntries : List Row → Type 0
AreEntries = AllByRecursion IsEntry

pub left : (a b : Bool) → T (a && b) → T a
left true b p = tt
left false b p = p

pub right : (a b : Bool) → T (a && b) → T b
right true b p = p
right false b p = absurd p

-- an entry has bytes
entry_has_bytes : (e : Row) → e.0 ≢ [] → 0 < entry_size e
entry_has_bytes ([], node) some = absurd (some refl)
entry_has_bytes (name ∷ names, node) some = omega arith

pub no_bytes : (e : Row) (rest : List ℕ) → e.0 ≢ [] → (let l : List ℕ = [] in l ≡ entry_bytes e ++ rest) → ⊥
no_bytes e rest some h = nothing (entry_bytes e) rest (length-entry_bytes e) (entry_has_bytes e some) h
  where
    nothing : (bytes rest : List ℕ) {n : ℕ} → length bytes ≡ n → 0 < n → (let l : List ℕ = [] in l ≡ bytes ++ rest) → ⊥
    nothing [] rest size more h = omega (arith, size, more)
    nothing (b ∷ bytes) rest size more h = cc

-- what stands behind some entries in the bytes of entries are entries
pub rest_is : (done es : List Row) (rest : List ℕ) → AreEntries done → AreEntries es → flat_map entry_bytes es ≡ flat_map entry_bytes done ++ rest → (more : List Row) × (es ≡ done ++ more) × (rest ≡ flat_map entry_bytes more) × AreEntries more
rest_is [] es rest a b h = (es, refl, sym h, b)
rest_is (d ∷ ds) [] rest a b h = absurd (no_bytes d (flat_map entry_bytes ds ++ rest) a.0.some (h ∙ append_assoc (entry_bytes d) (flat_map entry_bytes ds) rest))
rest_is (d ∷ ds) (e ∷ es) rest a b h =
    let s = same_entry e d (flat_map entry_bytes es) (flat_map entry_bytes ds ++ rest) b.0 a.0 (h ∙ append_assoc (entry_bytes d) (flat_map entry_bytes ds) rest) in
    let r = rest_is ds es rest a.1 b.1 s.1 in
    let whole : e ∷ es ≡ d ∷ (ds ++ r.0) = λ i. s.0 i ∷ r.1 i in
    (r.0, whole, r.2, r.3)

none_left : (more : List Row) → AreEntries more → (let l : List ℕ = [] in l ≡ flat_map entry_bytes more) → more ≡ []
none_left [] a h = refl
none_left (e ∷ es) a h = absurd (no_bytes e (flat_map entry_bytes es) a.0.some h)

-- entries are told by their bytes
pub entries_once : (es fs : List Row) → AreEntries es → AreEntries fs → flat_map entry_bytes es ≡ flat_map entry_bytes fs → es ≡ fs
entries_once es fs a b h =
    let r = rest_is fs es [] b a (h ∙ sym (append-nil (flat_map entry_bytes fs))) in
    r.1 ∙ ap (λ (l : List Row). fs ++ l) (none_left r.0 r.3 r.2) ∙ append-nil fs

-- the root's row comes first, and the others have names
pub record IsRooted (rows : List Row) : Type 0 where
  pub rest : List Row
  pub is : rows ≡ ([], Dir) ∷ rest
  pub named : All (λ e. e.0 ≢ []) rest

no_root : (x : List (List ℕ)) → path_cmp [] x ≡ Less → x ≢ []
no_root [] h e = cc
no_root (name ∷ names) h e = cc

above_named : (name : List ℕ) (names x : List (List ℕ)) → path_cmp (name ∷ names) x ≡ Less → path_cmp [] x ≡ Less
above_named name names [] h = absurd cc
above_named name names (m ∷ ms) h = refl

root_first : (es : List Row) → T (is_sorted path_cmp es) → find path_cmp [] es ≡ Some Dir → IsRooted es
root_first [] h found = absurd cc
root_first (([], node) ∷ es) h found =
    let same : node ≡ Dir = cc in
    let above : All (λ (e : Row). path_cmp [] e.0 ≡ Less) es = all_above [] es (left (below_all path_cmp [] es) _ h) in
    record { rest = es; is = (λ i. ([], same i) ∷ es); named = λ k d lt. no_root _ (above k d lt) }
root_first ((name ∷ names, node) ∷ es) h found =
    let above : All (λ (e : Row). path_cmp (name ∷ names) e.0 ≡ Less) es = all_above (name ∷ names) es (left (below_all path_cmp (name ∷ names) es) _ h) in
    let none = find_above [] es (λ k d lt. above_named name names _ (above k d lt)) in
    absurd cc

pub rooted : (t : Files) → IsTree t → IsRooted (entries t)
rooted t is = root_first (entries t) (entries_sorted t) (sym (get-entries t []) ∙ is.root)

-- an entry's lengths are no more than its size
lengths_fit : (e : Row) → e.0 ≢ [] → (path_length e.0 ≤ entry_size e) × (length (content_of e.1) ≤ entry_size e)
lengths_fit ([], node) some = absurd (some refl)
lengths_fit (name ∷ names, Dir) some = (omega arith, omega arith)
lengths_fit (name ∷ names, File bytes) some = (omega arith, omega arith)

pub small_entry : (e : Row) → e.0 ≢ [] → AreNames e.0 → entry_size e < 2 ^ 32 → IsEntry e
small_entry e some named small = let f = lengths_fit e some in record { some = some; named = named; path = omega (arith, f.0, small); content = omega (arith, f.1, small) }

small_entries : (es : List Row) → All (λ e. e.0 ≢ []) es → All (λ e. AreNames e.0) es → sum_by entry_size es < 2 ^ 32 → AreEntries es
small_entries [] some named small = tt
small_entries (e ∷ es) some named small =
    let sum = sum_by-cons entry_size e es in (
      small_entry e (All-head (λ (e : Row). e.0 ≢ []) e es some) (All-head (λ (e : Row). AreNames e.0) e es named) (omega arith),
      small_entries es (All-tail (λ (e : Row). e.0 ≢ []) e es some) (All-tail (λ (e : Row). AreNames e.0) e es named) (omega arith),
    )

-- the entries of a tree that can be dumped: the root's row, which has no bytes, and entries
pub record HasEntries (t : Files) : Type 0 where
  pub rest : List Row
  pub is : entries t ≡ ([], Dir) ∷ rest
  pub are : AreEntries rest
  pub bytes : dump_bytes t ≡ flat_map entry_bytes rest

pub has_entries : (t : Files) → IsTree t → All (λ e. AreNames e.0) (entries t) → dump_size t < 2 ^ 32 → HasEntries t
unfolding dump_bytes
has_entries t is named small =
    let r = rooted t is in
    let names : All (λ (e : Row). AreNames e.0) r.rest = All-tail (λ (e : Row). AreNames e.0) ([], Dir) r.rest (subst (All (λ (e : Row). AreNames e.0)) r.is named) in
    let sum : dump_size t ≡ sum_by entry_size r.rest = dump_size-rows t ∙ ap (sum_by entry_size) r.is in
    record { rest = r.rest; is = r.is; are = small_entries r.rest r.named names (omega (arith, sum, small)); bytes = ap (flat_map entry_bytes) r.is }

pub entries_of : (t : Files) → HasDump t → HasEntries t
entries_of t has = has_entries t has.is_tree has.named (let short = has.short in omega (arith, short))

-- a tree is told by its dump
pub dump_once : (bytes : List ℕ) (a b : Files) → IsDump bytes a → IsDump bytes b → a ≡ b
dump_once bytes a b is_a is_b =
    let x = entries_of a is_a.tree in
    let y = entries_of b is_b.tree in
    let same : x.rest ≡ y.rest = entries_once x.rest y.rest x.are y.are (sym x.bytes ∙ sym is_a.bytes ∙ is_b.bytes ∙ y.bytes) in
    same_entries_map a b (x.is ∙ ap (λ (l : List Row). ([], Dir) ∷ l) same ∙ sym y.is)
