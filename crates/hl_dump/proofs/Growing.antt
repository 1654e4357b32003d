-- A tree that grows by one node behind the last, as a dump is read.
use Rattle.std.proofs.Common.{◌≡◌, ◌≢◌, ◌↔◌, ℕ, ◌+◌, ◌-◌, ◌<◌, ◌≤◌, T, Bool, true, false, nat_eq, List, [], ◌∷◌, ◌++◌, length, take, drop, get_or, All, Option, Some, None, cond, zero, suc, refl, sym, ap, subst, ◌∙◌, arith, append_assoc, length-append, length-drop}
use Rattle.std.specs.List.{flat_map}
use Rattle.std.specs.FinMap.{get, insert, len, entries, get-entries, entries_sorted, entries-insert, len-entries}
use Rattle.std.specs.FinMap.Entries.{find, put, is_sorted}
use Rattle.std.specs.Ordering.{is_eq, is_lt, ordering_then}
use Rattle.std.specs.declared.cmp.Ordering.{Ordering}
use Rattle.std.specs.Cmp.{tied_itself}
use Rattle.std.specs.Cmp.Lexicographic.{nat_list_cmp_total}
use Rattle.std.specs.declared.cmp.Ordering.TheVariants.{Less, Equal, Greater}
use Rattle.std.proofs.lemmas.List.{append-nil, take_at, take_more, take_all, drop_all}
use Rattle.std.proofs.lemmas.List.Concat.{flat_map-append}
use Rattle.std.proofs.lemmas.List.Elements.{All-append, All-cons, All-nil}
use Rattle.hl_tree.specs.declared.node.Node.{Node}
use Rattle.hl_tree.specs.declared.node.Node.TheVariants.{Dir}
use Rattle.hl_tree.specs.Names.{AreNames, path_cmp}
use Rattle.hl_tree.specs.Rules.{Files}
use Rattle.hl_tree.specs.Tree.{IsTree, root_alone}
use Rattle.hl_tree.proofs.Maps.{path_total}
use Rattle.hl_tree.proofs.Places.{find_past, find_above, put_past, around}
use Rattle.hl_tree.proofs.Room.{len-insert-le, len-root_alone}
use Rattle.hl_tree.proofs.Sorted.{entries-root_alone}
use Rattle.hl_tree_laws.proofs.Tree.{IsTree-insert}
use Rattle.hl_dump.specs.Dumps.{entry_bytes, dump_bytes, dump_size, dump_max, IsDump}
use Rattle.hl_dump.specs.Reading.{Row, IsEntry}
use Rattle.hl_dump.specs.Parsing.{Stands}
use Rattle.hl_dump.specs.Growing.{IsNext, IsReadTo, HasCome, parent_of}
use Rattle.hl_dump.proofs.Entries.{same_entry}
use Rattle.hl_dump.proofs.Dumps.{AreEntries, rest_is, has_entries, entries_of}

abbrev Names : Type 0
Names = List (List ℕ)

abbrev AllNamed : List Row → Type 0
AllNamed rows = All (λ (e : Row). AreNames e.0) rows

-- the parent of a path, and its last name
pub parent-push : (q : Names) (name : List ℕ) → parent_of (q ++ name ∷ []) ≡ q
parent-push q name =
    let size : length (q ++ name ∷ []) ≡ length q + 1 = length-append q (name ∷ []) in
    let n : length q ≡ length (q ++ name ∷ []) - 1 = omega arith in
    take_at q (name ∷ []) (length (q ++ name ∷ []) - 1) n

pub with_last : (path : Names) → path ≢ [] → (name : List ℕ) × (path ≡ parent_of path ++ name ∷ [])
with_last [] some = absurd (some refl)
with_last (x ∷ xs) some =
    let i : ℕ = length (x ∷ xs) - 1 in
    let lt : i < length (x ∷ xs) = omega arith in
    let n : i + 1 ≡ length (x ∷ xs) = omega arith in
    (get_or (x ∷ xs) i [], sym (take_all (i + 1) (x ∷ xs) (omega arith)) ∙ take_more (x ∷ xs) i [] lt)

-- a parent comes before its children
parent_before : (q : Names) (name : List ℕ) → path_cmp q (q ++ name ∷ []) ≡ Less
parent_before [] name = refl
parent_before (x ∷ q) name = ap (λ o. ordering_then o (path_cmp q (q ++ name ∷ []))) (tied_itself nat_list_cmp_total x) ∙ parent_before q name

module _ (old : Files) (path : Names) (last : All (λ (row : Row). path_cmp row.0 path ≡ Less) (entries old)) where
  -- a path behind all others is free
  last_is_free : get old path ≡ None
  last_is_free = get-entries old path ∙ ap (find path_cmp path) (sym (append-nil (entries old))) ∙ find_past path (entries old) [] last

  -- its row comes last
  pub entries-last : (node : Node (List ℕ)) → entries (insert old path node) ≡ entries old ++ (path, node) ∷ []
  entries-last node = entries-insert path_total old path node ∙ ap (put path_cmp path node) (sym (append-nil (entries old))) ∙ put_past path node (entries old) [] last

-- the dump goes on by the entry
pub dump-last : (old : Files) (e : Row) → All (λ (row : Row). path_cmp row.0 e.0 ≡ Less) (entries old) → dump_bytes (insert old e.0 e.1) ≡ dump_bytes old ++ entry_bytes e
unfolding dump_bytes
dump-last old e last = ap (flat_map entry_bytes) (entries-last old e.0 last e.1) ∙ flat_map-append entry_bytes (entries old) (e ∷ []) ∙ ap (λ (l : List ℕ). flat_map entry_bytes (entries old) ++ l) (append-nil (entry_bytes e))

-- nothing is read: the root alone
IsTree-root_alone : (t : Files) → entries t ≡ ([], Dir) ∷ [] → IsTree t
IsTree-root_alone t is = record {
  root = get-entries t [] ∙ ap (find path_cmp []) is;
  parents = λ path name node found. absurd (no_child path name node (sym (ap (find path_cmp (path ++ name ∷ [])) is) ∙ sym (get-entries t (path ++ name ∷ [])) ∙ found));
}
  where
    no_child : (path : Names) (name : List ℕ) (node : Node (List ℕ)) → find path_cmp (path ++ name ∷ []) (([], Dir) ∷ []) ≡ Some node → ⊥
    no_child [] name node e = cc
    no_child (x ∷ xs) name node e = cc

pub none_read : (bytes : List ℕ) → IsReadTo bytes 0 root_alone
unfolding dump_bytes
none_read bytes =
    let few : len (root_alone {B = List ℕ}) ≤ 1 = len-root_alone (List ℕ) in
    record {
      within = omega arith;
      is = ap (λ (rows : List Row). flat_map entry_bytes rows ++ bytes) entries-root_alone;
      is_tree = IsTree-root_alone root_alone (sym entries-root_alone);
      named = subst AllNamed entries-root_alone (All-cons (λ (e : Row). AreNames e.0) ([], Dir) [] (All-nil _) (All-nil (λ (e : Row). AreNames e.0)));
      few = omega arith;
    }

-- one entry more is read
no_directory : (o : Option (Node (List ℕ))) → o ≡ None → o ≢ Some Dir
no_directory o none some = let e : None ≡ Some Dir = sym none ∙ some in cc

pub more_read : (bytes : List ℕ) (at end : ℕ) (old new : Files) → IsReadTo bytes at old → HasCome bytes at end old new → IsReadTo bytes end new
more_read bytes at end old new read come =
    let e : Row = come.entry in
    let rows : entries new ≡ entries old ++ e ∷ [] = ap entries come.put ∙ entries-last old e.0 come.next.last e.1 in
    let grown : dump_bytes new ≡ dump_bytes old ++ entry_bytes e = ap dump_bytes come.put ∙ dump-last old e come.next.last in
    let room = come.next.room in
    let more = len-insert-le old e.0 e.1 in
    let count = ap len come.put in
    record {
      within = come.stands.within;
      is = read.is ∙ ap (λ (l : List ℕ). dump_bytes old ++ l) come.stands.is ∙ sym (append_assoc (dump_bytes old) (entry_bytes e) (drop end bytes)) ∙ ap (λ (l : List ℕ). l ++ drop end bytes) (sym grown);
      is_tree = subst IsTree (sym come.put) (IsTree-insert old read.is_tree e.0 e.1 (no_directory (get old e.0) (last_is_free old e.0 come.next.last))
          (λ q name is. ap (get old) (sym (ap parent_of is ∙ parent-push q name)) ∙ come.next.parent));
      named = subst AllNamed (sym rows) (All-append (λ (r : Row). AreNames r.0) (entries old) (e ∷ []) read.named (All-cons (λ (r : Row). AreNames r.0) e [] come.is.named (All-nil (λ (r : Row). AreNames r.0))));
      few = omega (arith, room, more, count);
    }

-- what stands in front of higher rows is found as without them
find_in_front : (q : Names) (front back : List Row) → All (λ (row : Row). path_cmp q row.0 ≡ Less) back → find path_cmp q (front ++ back) ≡ find path_cmp q front
find_in_front q [] back above = find_above q back above
find_in_front q (e ∷ front) back above = ap (λ o. cond (is_eq (path_cmp q e.0)) (Some e.1) o) (find_in_front q front back above)

-- a row that stands behind others in a tree can come next to the tree of those others
module _ (t old : Files) (is : IsTree t) (few : len t ≤ 511) (e : Row) (es : List Row) (some : e.0 ≢ []) (rows : entries t ≡ entries old ++ e ∷ es) where
  sides : (All (λ (row : Row). path_cmp row.0 e.0 ≡ Less) (entries old)) × (All (λ (row : Row). path_cmp e.0 row.0 ≡ Less) es)
  sides = around (entries old) es e (subst (λ l. T (is_sorted path_cmp l)) rows (entries_sorted t))

  found : get t e.0 ≡ Some e.1
  found = get-entries t e.0 ∙ ap (find path_cmp e.0) rows ∙ find_past e.0 (entries old) (e ∷ es) sides.0 ∙ ap (λ o. cond (is_eq o) (Some e.1) (find path_cmp e.0 es)) (tied_itself path_total e.0)

  pub comes_next : IsNext old e.0
  comes_next =
      let w = with_last e.0 some in
      let q : Names = parent_of e.0 in
      let below : path_cmp q e.0 ≡ Less = ap (path_cmp q) w.1 ∙ parent_before q w.0 in
      let above : All (λ (row : Row). path_cmp q row.0 ≡ Less) (e ∷ es) = All-cons (λ (row : Row). path_cmp q row.0 ≡ Less) e es below (λ k d lt. path_total.trans q e.0 (get_or es k d).0 below (sides.1 k d lt)) in
      let count : length (entries t) ≡ length (entries old) + length (e ∷ es) = ap length rows ∙ length-append (entries old) (e ∷ es) in
      record {
        room = omega (arith, few, count, len-entries t, len-entries old);
        last = sides.0;
        parent = get-entries old q ∙ sym (find_in_front q (entries old) (e ∷ es) above) ∙ ap (find path_cmp q) (sym rows) ∙ sym (get-entries t q) ∙ is.parents q w.0 e.1 (ap (get t) (sym w.1) ∙ found);
      }

no_rest : (bytes : List ℕ) (at : ℕ) → at < length bytes → drop at bytes ≡ [] → ⊥
no_rest bytes at lt is = let size = ap length is in omega (arith, size, lt, length-drop at bytes)

-- where the next entry can't come, no tree has the whole as its dump
pub off_the_form : (bytes : List ℕ) (at : ℕ) (old : Files) → IsReadTo bytes at old → at < length bytes → ((e : Row) (rest : List ℕ) → IsEntry e → IsNext old e.0 → drop at bytes ≡ entry_bytes e ++ rest → ⊥) → (t : Files) → IsDump bytes t → ⊥
off_the_form bytes at old read lt none t dump =
    let x = entries_of t dump.tree in
    let short = dump.tree.short in
    let size : length bytes ≡ dump_size t = ap length dump.bytes in
    let front : length bytes ≡ dump_size old + length (drop at bytes) = ap length read.is ∙ length-append (dump_bytes old) (drop at bytes) in
    let y = has_entries old read.is_tree read.named (omega (arith, size, front, short)) in
    let r = rest_is y.rest x.rest (drop at bytes) y.are x.are (sym x.bytes ∙ sym dump.bytes ∙ read.is ∙ ap (λ (l : List ℕ). l ++ drop at bytes) y.bytes) in
    by_rest r.0 (x.is ∙ ap (λ (l : List Row). ([], Dir) ∷ l) r.1 ∙ ap (λ (l : List Row). l ++ r.0) (sym y.is)) r.2 r.3
  where
    by_rest : (more : List Row) → entries t ≡ entries old ++ more → drop at bytes ≡ flat_map entry_bytes more → AreEntries more → ⊥
    by_rest [] rows rest are = no_rest bytes at lt rest
    by_rest (e ∷ es) rows rest are = none e (flat_map entry_bytes es) are.0 (comes_next t old dump.tree.is_tree dump.tree.few e es are.0.some rows) rest

-- all is read: the whole is the dump of the tree
pub all_read : (bytes : List ℕ) (at : ℕ) (t : Files) → IsReadTo bytes at t → length bytes ≤ at → length bytes ≤ dump_max → IsDump bytes t
all_read bytes at t read past short =
    let whole : bytes ≡ dump_bytes t = read.is ∙ ap (λ (l : List ℕ). dump_bytes t ++ l) (drop_all at bytes past) ∙ append-nil (dump_bytes t) in
    let size : length bytes ≡ dump_size t = ap length whole in
    record { tree = record { is_tree = read.is_tree; named = read.named; few = read.few; short = omega (arith, size, short) }; bytes = whole }

-- the entry that stands there is the only one
pub other_next : (bytes : List ℕ) (at end : ℕ) (old : Files) (e : Row) → IsEntry e → Stands bytes at end (entry_bytes e) → (IsNext old e.0 → ⊥) → (f : Row) (rest : List ℕ) → IsEntry f → IsNext old f.0 → drop at bytes ≡ entry_bytes f ++ rest → ⊥
other_next bytes at end old e is stands off f rest is_f next h =
    let s = same_entry f e rest (drop end bytes) is_f is (sym h ∙ stands.is) in
    off (subst (λ (x : Row). IsNext old x.0) s.0 next)

-- the last row is below a path, and so are all
pub all_below : (rows : List Row) (path : Names) (x : Row) (i : ℕ) → T (is_sorted path_cmp rows) → i + 1 ≡ length rows → x ≡ get_or rows i x → path_cmp x.0 path ≡ Less → All (λ (row : Row). path_cmp row.0 path ≡ Less) rows
all_below rows path x i order size is below =
    let lt : i < length rows = omega (arith, size) in
    let whole : rows ≡ take i rows ++ x ∷ [] = sym (take_all (i + 1) rows (omega (arith, size))) ∙ take_more rows i x lt ∙ ap (λ (e : Row). take i rows ++ e ∷ []) (sym is) in
    let front = (around (take i rows) [] x (subst (λ l. T (is_sorted path_cmp l)) whole order)).0 in
    subst (All (λ (row : Row). path_cmp row.0 path ≡ Less)) (sym whole)
    (All-append (λ (row : Row). path_cmp row.0 path ≡ Less) (take i rows) (x ∷ []) (λ k d h. path_total.trans (get_or (take i rows) k d).0 x.0 path (front k d h) below)
    (All-cons (λ (row : Row). path_cmp row.0 path ≡ Less) x [] below (All-nil (λ (row : Row). path_cmp row.0 path ≡ Less))))

pub not_empty : (n : ℕ) (b : Bool) → b ≡ false → b ≡ nat_eq n 0 → 0 < n
not_empty zero b off is = let clash : true ≡ false = sym is ∙ off in absurd cc
not_empty (suc n) b off is = omega arith

less_is : (o : Ordering) → is_lt o ≡ true → o ≡ Less
less_is Less e = refl
less_is Equal e = absurd cc
less_is Greater e = absurd cc

-- whether a path comes last is told by the last row
pub last_decides : (rows : List Row) (path : Names) (x : Row) (names : Names) (o : Ordering) (r : Bool) → T (is_sorted path_cmp rows) → 0 < length rows → x ≡ get_or rows (length rows - 1) x → names ≡ x.0 → o ≡ path_cmp names path → r ≡ is_lt o → (r ≡ true) ↔ All (λ (row : Row). path_cmp row.0 path ≡ Less) rows
last_decides rows path x names o r order some is named compared tested =
    let i : ℕ = length rows - 1 in
    let size : i + 1 ≡ length rows = omega arith in
    let lt : i < length rows = omega arith in
    let same : o ≡ path_cmp x.0 path = compared ∙ ap (λ n. path_cmp n path) named in (
      λ t. all_below rows path x i order size is (sym same ∙ less_is o (sym tested ∙ t)),
      λ all. let low : path_cmp x.0 path ≡ Less = ap (λ (e : Row). path_cmp e.0 path) is ∙ all i x lt in tested ∙ ap is_lt (same ∙ low),
    )

-- no bytes are the dump of the root alone
pub root_is_dumped : IsDump [] root_alone
root_is_dumped = all_read [] 0 root_alone (none_read []) (omega arith) (omega arith)
