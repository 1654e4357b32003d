-- Entries that all come before a name, or all after it.
use Rattle.std.proofs.Common.{◌≡◌, ℕ, Bool, true, false, ◌&&◌, T, List, [], ◌∷◌, ◌++◌, refl, ap, ◌∙◌}
use Rattle.std.specs.declared.cmp.Ordering.{Ordering}
use Rattle.std.specs.declared.cmp.Ordering.TheVariants.{Less, Equal, Greater}
use Rattle.std.specs.Ordering.{is_eq, is_lt, ordering_reverse}
use Rattle.std.specs.Cmp.Lexicographic.{nat_list_cmp_total}
use Rattle.std.specs.FinMap.Entries.{below_all, is_sorted}
use Rattle.hl_tree.proofs.NamesBelow.{name_cmp}
use Rattle.hl_dir.specs.declared.entry.Entry.{Entry}
use Rattle.hl_dir.specs.Dirs.{IsBefore, AreEntries}
use Rattle.hl_paths.specs.Links.{same_name}
use Rattle.hl_paths.proofs.Entries.{rows, sorted_rows}
use Rattle.hl_entries.specs.Searches.{AreBefore, AreAfter}

left : (a b : Bool) → T (a && b) → T a
left true b p = tt
left false b p = p

right : (a b : Bool) → T (a && b) → T b
right true b p = p
right false b p = absurd p

is_less : (o : Ordering) → T (is_lt o) → o ≡ Less
is_less Less p = refl
is_less Equal p = absurd p
is_less Greater p = absurd p

-- what comes before another is not before it the other way round
pub greater : (one other : List ℕ) → IsBefore one other → name_cmp other one ≡ Greater
greater one other less = nat_list_cmp_total.antisymm other one ∙ ap ordering_reverse less

pub other_before : (name named : List ℕ) → IsBefore named name → same_name name named ≡ false
other_before name named less = ap is_eq (greater named name less)

pub other_after : (name named : List ℕ) → IsBefore name named → same_name name named ≡ false
other_after name named less = ap is_eq less

after_row : (name : List ℕ) (es : List Entry) → T (below_all name_cmp name (rows es)) → AreAfter name es
after_row name [] below = tt
after_row name (e ∷ es) below = (is_less _ (left (is_lt (name_cmp name e.name)) _ below), after_row name es (right (is_lt (name_cmp name e.name)) _ below))

-- what comes after one name comes after each name before that
pub after_through : (first second : List ℕ) (es : List Entry) → IsBefore first second → AreAfter second es → AreAfter first es
after_through first second [] less after = tt
after_through first second (e ∷ es) less after = (nat_list_cmp_total.trans first second e.name less after.0, after_through first second es less after.1)

sorted_rest : (passed es : List Entry) → T (is_sorted name_cmp (rows (passed ++ es))) → T (is_sorted name_cmp (rows es))
sorted_rest [] es sorted = sorted
sorted_rest (e ∷ passed) es sorted = sorted_rest passed es (right (below_all name_cmp e.name (rows (passed ++ es))) _ sorted)

-- in a directory, what stands behind an entry comes after its name
pub after_entry : (passed : List Entry) (e : Entry) (es : List Entry) → AreEntries (passed ++ e ∷ es) → AreAfter e.name es
after_entry passed e es are = after_row e.name es (left (below_all name_cmp e.name (rows es)) _ (sorted_rest passed (e ∷ es) (sorted_rows (passed ++ e ∷ es) are.1.1)))

pub before_push : (name : List ℕ) (passed : List Entry) (e : Entry) → AreBefore name passed → IsBefore e.name name → AreBefore name (passed ++ e ∷ [])
before_push name [] e before one = (one, tt)
before_push name (x ∷ passed) e before one = (before.0, before_push name passed e before.1 one)
