-- Segments on a shelf, one after the other.
use Rattle.std.specs.FinMap.{get, get-insert, insert}
use Rattle.std.proofs.Common.{◌≡◌, ◌≢◌, ℕ, zero, suc, ◌+◌, ◌<◌, Bool, true, false, cond, nat_eq, List, [], ◌∷◌, ◌++◌, length, take, refl, sym, ap, ◌∙◌, arith}
use Rattle.std.specs.Prelude.{Some}
use Rattle.std.specs.List.{slice_index_or}
use Rattle.std.proofs.lemmas.Bool.Decides.{nat_tests}
use Rattle.std.proofs.lemmas.List.{take_more}
use Rattle.hl_media.specs.History.{Image}
use Rattle.hl_addr.specs.Layout.{Layout}
use Rattle.hl_tseg.specs.declared.slot.Slot.{Slot}
use Rattle.hl_tseg.specs.declared.slot.Slot.TheVariants.{Free, Staged, Home, Spoilt}
use Rattle.hl_placed.specs.Blocks.{Shelf, listed}
use Rattle.std.proofs.lemmas.List.FromFn.{map-range_with_len_more}
use Rattle.hl_nodes.specs.Lines.{line_bytes, with_staged}
use Rattle.hl_found.specs.declared.shelves.ShelfSegment.{ShelfSegment}
use Rattle.hl_found.specs.Shelves.{shelf_over}
use Rattle.std.specs.Cmp.{unsigned_tied}
use Rattle.std.proofs.lemmas.Cmp.{nat_cmp_total}

-- what a shelf has of a serial with a segment put on it
pub at_serial : (s : Shelf) (serial other : ℕ) (bytes : List ℕ) (b : Bool) → nat_eq other serial ≡ b → get (insert s serial bytes) other ≡ cond b (Some bytes) (get s other)
at_serial s serial other bytes b e = get-insert nat_cmp_total s serial bytes other ∙ ap (λ (x : Bool). cond x (Some bytes) (get s other)) (unsigned_tied other serial ∙ e)

-- the first segment of a serial is the shelf's
pub shelf_first : (base : Shelf) (held : List ShelfSegment) (i serial : ℕ) (d : ShelfSegment) → i < length held → ((j : ℕ) (e : ShelfSegment) → j < i → (slice_index_or held j e).serial ≢ serial)
    → (slice_index_or held i d).serial ≡ serial → get (shelf_over base held) serial ≡ Some (slice_index_or held i d).bytes.items
shelf_first base [] i serial d lt before is = absurd (omega arith)
shelf_first base (x ∷ xs) zero serial d lt before is = at_serial (shelf_over base xs) x.serial serial x.bytes.items true (grind (arith, nat_tests))
shelf_first base (x ∷ xs) (suc i) serial d lt before is =
    let other = before 0 x (omega arith) in
    at_serial (shelf_over base xs) x.serial serial x.bytes.items false (grind (arith, nat_tests)) ∙ shelf_first base xs i serial d (omega arith) (λ j e low. before (suc j) e (omega arith)) is

-- and without one the shelf has what was there before
pub shelf_none : (base : Shelf) (held : List ShelfSegment) (serial : ℕ) → ((j : ℕ) (e : ShelfSegment) → j < length held → (slice_index_or held j e).serial ≢ serial) → get (shelf_over base held) serial ≡ get base serial
shelf_none base [] serial none = refl
shelf_none base (x ∷ xs) serial none =
    let other = none 0 x (omega arith) in
    at_serial (shelf_over base xs) x.serial serial x.bytes.items false (grind (arith, nat_tests)) ∙ shelf_none base xs serial (λ j e low. none (suc j) e (omega arith))

pub shelf_pushed : (base : Shelf) (xs : List ShelfSegment) (x : ShelfSegment) → shelf_over base (xs ++ x ∷ []) ≡ shelf_over (insert base x.serial x.bytes.items) xs
shelf_pushed base [] x = refl
shelf_pushed base (y ∷ xs) x = ap (λ (s : Shelf). insert s y.serial y.bytes.items) (shelf_pushed base xs x)

module _ (g : Layout) (image : Image) where
  staged_pushed : (base : Shelf) (slots : List Slot) (s : Slot) → with_staged g image base (slots ++ s ∷ []) ≡ with_staged g image (with_staged g image base (s ∷ [])) slots
  staged_pushed base [] s = refl
  staged_pushed base (Staged line serial ∷ slots) s = ap (λ (x : Shelf). insert x serial (line_bytes g image line)) (staged_pushed base slots s)
  staged_pushed base (Home serial ∷ slots) s = staged_pushed base slots s
  staged_pushed base (Free ∷ slots) s = staged_pushed base slots s
  staged_pushed base (Spoilt ∷ slots) s = staged_pushed base slots s

  -- one slot more
  pub staged_more : (slots : List Slot) (n : ℕ) (d : Slot) → n < length slots → (old new : List ShelfSegment)
      → ((base : Shelf) → shelf_over base old ≡ with_staged g image base (take n slots)) → ((base : Shelf) → shelf_over base new ≡ shelf_over (with_staged g image base (slice_index_or slots n d ∷ [])) old)
      → (base : Shelf) → shelf_over base new ≡ with_staged g image base (take (n + 1) slots)
  staged_more slots n d lt old new before pushed base =
      pushed base ∙ before (with_staged g image base (slice_index_or slots n d ∷ [])) ∙ sym (staged_pushed base (take n slots) (slice_index_or slots n d))
      ∙ ap (with_staged g image base) (sym (take_more slots n d lt))

-- the blocks of a file, one byte more
pub listed_more : (n : ℕ) (f : ℕ → ℕ) → listed (n + 1) f ≡ listed n f ++ f n ∷ []
listed_more n f = map-range_with_len_more f 0 n n (omega arith)
