-- How many drafts and new blocks there are, and what the next unit has of the drafts.
use Rattle.std.proofs.Common.{◌≡◌, ℕ, zero, suc, ◌+◌, ◌*◌, ◌/◌, ◌%◌, ◌<◌, ◌≤◌, Bool, true, false, cond, ◌&&◌, List, [], ◌∷◌, ◌++◌, length, get_or, slice_get, slice_set, map, Option, Some, None, eq-eqb, refl, sym, ◌∙◌, ap, subst, arith}
use Rattle.std.specs.Prelude.{if◌then◌else◌, is_none, is_some, not, nat_eq, ◌==◌, ◌||◌, count_by, sum_by}
use Rattle.std.specs.List.{filter, list_any, range_with_len}
use Rattle.std.proofs.lemmas.List.{length-map}
use Rattle.std.proofs.lemmas.List.FromFn.{get_or-map-range_with_len, length-map-range_with_len}
use Rattle.std.proofs.lemmas.List.Sums.{length-filter, sum_by-cons, sum_by-le, sum_by-set, sum_by_push}
use Rattle.std.proofs.lemmas.Map.Steps.{le-length_from_below}
use Rattle.hl_bytes.specs.declared.block.Block.{Block}
use Rattle.hl_bytes.specs.declared.records.BlockRecord.{BlockRecord}
use Rattle.hl_overlay.specs.declared.pointers.Pointer.{Pointer}
use Rattle.hl_overlay.specs.declared.pointers.Pointer.TheVariants.{Hole, Kept, Moved, New}
use Rattle.hl_overlay.specs.declared.draft.NodeDraft.{NodeDraft}
use Rattle.hl_overlay.specs.declared.draft.Shape.{Shape}
use Rattle.hl_overlay.specs.Drafting.{blocks_of_shape, count_for, is_changed, is_freed, needs_inode, needs_pointer_block}
use Rattle.hl_overlay.specs.DraftTables.{DraftTable, IsDraftTable, freed_of, freed_record, others_in, others_of}
use Rattle.hl_overlay.specs.Overlays.{AreNamed}

pub has_at : (xs : List ℕ) (i q : ℕ) → i < length xs → get_or xs i 0 ≡ q → list_any (nat_eq q) xs ≡ true
has_at [] i q lt at = absurd (omega arith)
has_at (x ∷ xs) zero q lt at = ap (λ b. b || list_any (nat_eq q) xs) (eq-eqb q x (sym at))
has_at (x ∷ xs) (suc i) q lt at = ap (λ b. nat_eq q x || b) (has_at xs i q (omega arith) at) ∙ either (nat_eq q x)
  where
    either : (b : Bool) → (b || true) ≡ true
    either true = refl
    either false = refl

-- an element that is there
pub there : {X : Type 0} (xs : List X) (k : ℕ) → k < length xs → (x : X) × (slice_get xs k ≡ Some x)
there [] k lt = absurd (omega arith)
there (x ∷ xs) zero lt = (x, refl)
there (x ∷ xs) (suc k) lt = there xs k (omega arith)

-- there are no more drafts than numbers
pub items_few : (t : DraftTable) → IsDraftTable t → length t.items ≤ length t.places
items_few t is = le-length_from_below t.places (length t.items) (λ k lt. (let d = there t.items k lt in let p = is.placed k d.0 d.1 in has_at t.places d.0.ino k p.0 p.1))

-- nor more new blocks than these nodes may have
pub blocks_few : (numbers : ℕ) (at : ℕ → ℕ → Option Pointer) (blocks : List (BlockRecord × Block)) → AreNamed numbers at blocks → length blocks ≤ 1036 * numbers
blocks_few numbers at blocks are = subst (λ n. length blocks ≤ n) (length-map-range_with_len place 0 (1036 * numbers)) (le-length_from_below (map place (range_with_len 0 (1036 * numbers))) (length blocks) named)
  where
    place_of : Option Pointer → ℕ
    place_of None = 0
    place_of (Some Hole) = 0
    place_of (Some (Kept addr)) = 0
    place_of (Some (Moved addr serial position)) = 0
    place_of (Some (New n)) = n

    place : ℕ → ℕ
    place q = place_of (at (q / 1036) (q % 1036))

    spot : (ino i : ℕ) → i < 1036 → ((1036 * ino + i) / 1036 ≡ ino) × ((1036 * ino + i) % 1036 ≡ i)
    spot ino i lt = (omega arith, omega arith)

    named : (k : ℕ) → k < length blocks → list_any (nat_eq k) (map place (range_with_len 0 (1036 * numbers))) ≡ true
    named k lt =
        let b = there blocks k lt in
        let o = are.owned k b.0 b.1 in
        let small : b.0.0.index < 1036 = are.small k b.0 b.1 in
        let low : 1036 * b.0.0.ino + b.0.0.index < 1036 * numbers = (let n = o.0 in omega arith) in
        let s = spot b.0.0.ino b.0.0.index small in
        let is : place (1036 * b.0.0.ino + b.0.0.index) ≡ k = ap (λ n. place_of (at n ((1036 * b.0.0.ino + b.0.0.index) % 1036))) s.0 ∙ ap (λ n. place_of (at b.0.0.ino n)) s.1 ∙ ap place_of o.1 in
        has_at (map place (range_with_len 0 (1036 * numbers))) (1036 * b.0.0.ino + b.0.0.index) k (subst (λ n. 1036 * b.0.0.ino + b.0.0.index < n) (sym (length-map-range_with_len place 0 (1036 * numbers))) low)
        (get_or-map-range_with_len place 0 (1036 * numbers) (1036 * b.0.0.ino + b.0.0.index) (1036 * b.0.0.ino + b.0.0.index) 0 low (omega arith) ∙ is)

-- a draft has at most two blocks besides its new ones
pub count_most : (d : NodeDraft) → count_for d ≤ 2
count_most d = by (needs_inode d) (needs_pointer_block d)
  where
    by : (a b : Bool) → (if a then (if b then 2 else 1) else 0) ≤ 2
    by true true = omega arith
    by true false = omega arith
    by false b = omega arith

pub one_most : (b : Bool) → cond b 1 0 ≤ 1
one_most true = omega arith
one_most false = omega arith

-- and one that isn't changed has none, and is not freed
pub count_none : (d : NodeDraft) → d.changed ≡ false → count_for d ≡ 0
count_none d unchanged = ap (λ (b : Bool). if (b && is_some d.shape) then (if needs_pointer_block d then 2 else 1) else 0) unchanged

pub freed_none : (d : NodeDraft) → d.changed ≡ false → is_freed d ≡ false
freed_none d unchanged = ap (λ (b : Bool). b && is_none d.shape && not (d.own == 4294967295)) unchanged

-- nor is one of a node that is in use
pub freed_used : (d : NodeDraft) (i : ℕ) → i < blocks_of_shape d.shape → is_freed d ≡ false
freed_used d i within = by d.shape refl within
  where
    both : (a b : Bool) → (a && false && b) ≡ false
    both true b = refl
    both false b = refl

    by : (shape : Option Shape) → d.shape ≡ shape → i < blocks_of_shape shape → is_freed d ≡ false
    by None is lt = absurd (omega arith)
    by (Some shape) is lt = ap (λ (s : Option Shape). d.changed && is_none s && not (d.own == 4294967295)) is ∙ both d.changed (not (d.own == 4294967295))

-- the counts are in their ranges
pub others_most : (t : DraftTable) → IsDraftTable t → others_of t ≤ 2 * length t.places
others_most t is =
    let sum : sum_by count_for t.items ≤ length t.items * 2 = sum_by-le count_for 2 t.items (λ k d lt. count_most (get_or t.items k d)) in
    let few = items_few t is in omega arith

pub freed_most : (t : DraftTable) → IsDraftTable t → count_by is_freed t.items ≤ length t.places
freed_most t is =
    let sum : sum_by (λ (d : NodeDraft). cond (is_freed d) 1 0) t.items ≤ length t.items * 1 = sum_by-le (λ (d : NodeDraft). cond (is_freed d) 1 0) 1 t.items (λ k d lt. one_most (is_freed (get_or t.items k d))) in
    let few = items_few t is in omega arith

pub freed_length : (ds : List NodeDraft) → count_by is_freed ds ≡ length (freed_of ds)
freed_length ds = sym (length-map (filter is_freed ds) freed_record ∙ length-filter is_freed ds)

-- one draft is another
pub others_set : (ds : List NodeDraft) (k : ℕ) (r d : NodeDraft) → k < length ds → r ≡ get_or ds k r → others_in (slice_set ds k d) + count_for r ≡ others_in ds + count_for d
others_set ds k r d lt is = ap (λ (x : NodeDraft). sum_by count_for (slice_set ds k d) + count_for x) is ∙ sum_by-set count_for ds k d r lt

pub freed_set : (ds : List NodeDraft) (k : ℕ) (r d : NodeDraft) → k < length ds → r ≡ get_or ds k r → count_by is_freed (slice_set ds k d) + cond (is_freed r) 1 0 ≡ count_by is_freed ds + cond (is_freed d) 1 0
freed_set ds k r d lt is = ap (λ (x : NodeDraft). count_by is_freed (slice_set ds k d) + cond (is_freed x) 1 0) is ∙ sum_by-set (λ (x : NodeDraft). cond (is_freed x) 1 0) ds k d r lt

-- a draft that isn't changed comes
pub others_push : (ds : List NodeDraft) (d : NodeDraft) → d.changed ≡ false → others_in (ds ++ d ∷ []) ≡ others_in ds
others_push ds d unchanged = (let e = sum_by_push count_for ds d in let none = count_none d unchanged in omega arith)

pub freed_push : (ds : List NodeDraft) (d : NodeDraft) → d.changed ≡ false → count_by is_freed (ds ++ d ∷ []) ≡ count_by is_freed ds
freed_push ds d unchanged = sum_by_push (λ (x : NodeDraft). cond (is_freed x) 1 0) ds d ∙ ap (λ (b : Bool). count_by is_freed ds + cond b 1 0) (freed_none d unchanged) ∙ omega arith

-- those that aren't changed go
pub others_changed : (ds : List NodeDraft) → others_in (filter is_changed ds) ≡ others_in ds
others_changed [] = refl
others_changed (d ∷ ds) = by d.changed refl (others_changed ds)
  where
    by : (b : Bool) → d.changed ≡ b → others_in (filter is_changed ds) ≡ others_in ds → others_in (filter is_changed (d ∷ ds)) ≡ others_in (d ∷ ds)
    by true is rest = ap (λ (b : Bool). others_in (cond b (d ∷ filter is_changed ds) (filter is_changed ds))) is ∙ sum_by-cons count_for d (filter is_changed ds) ∙ ap (λ n. count_for d + n) rest ∙ sym (sum_by-cons count_for d ds)
    by false is rest = ap (λ (b : Bool). others_in (cond b (d ∷ filter is_changed ds) (filter is_changed ds))) is ∙ rest ∙ sym (sum_by-cons count_for d ds ∙ (let none = count_none d is in omega arith))

pub freed_changed : (ds : List NodeDraft) → freed_of (filter is_changed ds) ≡ freed_of ds
freed_changed ds = ap (map freed_record) (filtered ds)
  where
    filtered : (xs : List NodeDraft) → filter is_freed (filter is_changed xs) ≡ filter is_freed xs
    filtered [] = refl
    filtered (d ∷ xs) = by d.changed refl (filtered xs)
      where
        by : (b : Bool) → d.changed ≡ b → filter is_freed (filter is_changed xs) ≡ filter is_freed xs → filter is_freed (filter is_changed (d ∷ xs)) ≡ filter is_freed (d ∷ xs)
        by true is rest = ap (λ (b : Bool). filter is_freed (cond b (d ∷ filter is_changed xs) (filter is_changed xs))) is ∙ ap (λ (l : List NodeDraft). cond (is_freed d) (d ∷ l) l) rest
        by false is rest = ap (λ (b : Bool). filter is_freed (cond b (d ∷ filter is_changed xs) (filter is_changed xs))) is ∙ rest ∙ sym (ap (λ (b : Bool). cond b (d ∷ filter is_freed xs) (filter is_freed xs)) (freed_none d is))
