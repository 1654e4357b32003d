-- The drafts with their counts when one draft changes.
use Rattle.std.proofs.Common.{◌≡◌, ℕ, ◌+◌, ◌-◌, ◌<◌, ◌≤◌, Bool, false, cond, length, get_or, slice_index, slice_set, Option, Some, refl, sym, ◌∙◌, ap, subst, arith}
use Rattle.std.specs.Prelude.{count_by}
use Rattle.std.proofs.lemmas.Option.{slice_get_within}
use Rattle.hl_overlay.specs.declared.pointers.Pointer.{Pointer}
use Rattle.hl_overlay.specs.declared.draft.NodeDraft.{NodeDraft}
use Rattle.hl_overlay.specs.declared.draft.Shape.{Shape}
use Rattle.hl_overlay.specs.Pointing.{AreHoles, IsAddressed}
use Rattle.hl_overlay.specs.Drafting.{IsDraft, blocks_of_shape, count_for, is_freed, with_pointer, with_shape}
use Rattle.hl_overlay.specs.DraftTables.{CanShape, DraftTable, HasBlock, IsCounted, IsDraftTable, Redrafts, draft_of, others_in}
use Rattle.hl_overlay.proofs.TableLemmas.{at_place, at_place_in, changed_in, one_draft, pointed_is, shaped_is}
use Rattle.hl_overlay.proofs.CountLemmas.{freed_most, freed_set, freed_used, others_most, others_set}

-- the draft of a number was read at its place of a table that was opened
pub record IsReadAt (t self : DraftTable) (others freed ino place : ℕ) (r d : NodeDraft) : Type 0 where
  pub view_is : t ≡ self
  pub counted : IsCounted t others freed
  pub low : ino < length self.places
  pub is : draft_of self ino ≡ Some d
  pub place_is : place ≡ get_or t.places ino place
  pub draft_is : r ≡ get_or t.items place r

module _ (t self : DraftTable) (others freed ino place : ℕ) (r d : NodeDraft) (read : IsReadAt t self others freed ino place r d) where
  -- it is the draft, and keeps to its size
  pub read_is : (r ≡ d) × IsDraft d
  read_is = at_place_in t self read.view_is ino place r d read.counted.table read.low read.is read.place_is read.draft_is

  within : place < length t.items
  within = (let at = (at_place t ino place r d low_in at_in read.place_is read.draft_is).0 in subst (λ n. n < length t.items) (sym at) (slice_get_within t.items (slice_index t.places ino) d at_in))
    where
      low_in : ino < length t.places
      low_in = subst (λ (x : DraftTable). ino < length x.places) (sym read.view_is) read.low

      at_in : draft_of t ino ≡ Some d
      at_in = subst (λ (x : DraftTable). draft_of x ino ≡ Some d) (sym read.view_is) read.is

  -- the count with another draft in its place
  pub recounted : (new : NodeDraft) (was now : ℕ) → was ≡ count_for r → now ≡ count_for new → others_in (slice_set t.items place new) + was ≡ others + now
  recounted new was now was_is now_is =
      ap (λ n. others_in (slice_set t.items place new) + n) was_is ∙ others_set t.items place r new within read.draft_is ∙ ap (λ n. n + count_for new) (sym read.counted.others_are) ∙ ap (λ n. others + n) (sym now_is)

  -- and the freed numbers
  pub refreed : (new : NodeDraft) (was now : ℕ) → was ≡ cond (is_freed r) 1 0 → now ≡ cond (is_freed new) 1 0 → count_by is_freed (slice_set t.items place new) + was ≡ freed + now
  refreed new was now was_is now_is =
      ap (λ n. count_by is_freed (slice_set t.items place new) + n) was_is ∙ freed_set t.items place r new within read.draft_is ∙ ap (λ n. n + cond (is_freed new) 1 0) (sym read.counted.freed_are) ∙ ap (λ n. freed + n) (sym now_is)

  -- both are small
  pub others_small : others ≤ 4096
  others_small = (let most = others_most t read.counted.table in let few = read.counted.table.few in let e = read.counted.others_are in omega arith)

  pub freed_small : freed ≤ 2048
  freed_small = (let most = freed_most t read.counted.table in let few = read.counted.table.few in let e = read.counted.freed_are in omega arith)

  -- a block is elsewhere
  module _ (i : ℕ) (p : Pointer) (new : NodeDraft) (block : HasBlock self ino i) (addressed : IsAddressed p) (new_is : new ≡ with_pointer r i p) where
    same : block.draft ≡ d
    same = one_draft self ino block.draft d block.is read.is

    reaches : i < blocks_of_shape d.shape
    reaches = subst (λ (x : NodeDraft). i < blocks_of_shape x.shape) same block.within

    now_is : new ≡ with_pointer d i p
    now_is = new_is ∙ ap (λ (x : NodeDraft). with_pointer x i p) read_is.0

    pub pointed : IsDraftTable (record { items = slice_set t.items place new; places = t.places }) × Redrafts self (record { items = slice_set t.items place new; places = t.places }) ino (with_pointer d i p)
    pointed = changed_in t self (record { items = slice_set t.items place new; places = t.places }) read.view_is ino place r d (with_pointer d i p) read.counted.table read.low read.is read.place_is read.draft_is refl (pointed_is d i p read_is.1 reaches addressed)
        (ap (λ (x : NodeDraft). record { items = slice_set t.items place x; places = t.places }) now_is)

    pub pointed_counted : (was now : ℕ) → was ≡ count_for r → now ≡ count_for new → IsCounted (record { items = slice_set t.items place new; places = t.places }) (others + now - was) freed
    pointed_counted was now was_is now_counts = record {
      table = pointed.0;
      others_are = (let e = recounted new was now was_is now_counts in omega arith);
      freed_are = (let e = refreed new 0 0 (sym (ap (λ (b : Bool). cond b 1 0) (used r read_is.0))) (sym (ap (λ (b : Bool). cond b 1 0) (ap is_freed now_is ∙ freed_used (with_pointer d i p) i reaches))) in omega arith);
    }
      where
        used : (x : NodeDraft) → x ≡ d → is_freed x ≡ false
        used x e = ap is_freed e ∙ freed_used d i reaches

  -- it has another shape
  module _ (shape : Option Shape) (can : CanShape self ino shape) where
    pub shaped : IsDraftTable (record { items = slice_set t.items place (with_shape r shape); places = t.places }) × Redrafts self (record { items = slice_set t.items place (with_shape r shape); places = t.places }) ino (with_shape d shape)
    shaped = changed_in t self (record { items = slice_set t.items place (with_shape r shape); places = t.places }) read.view_is ino place r d (with_shape d shape) read.counted.table read.low read.is read.place_is read.draft_is refl
        (shaped_is d shape read_is.1 can.size (subst (λ (x : NodeDraft). AreHoles x.pointers (blocks_of_shape shape)) (one_draft self ino can.draft d can.is read.is) can.ends))
        (ap (λ (x : NodeDraft). record { items = slice_set t.items place (with_shape x shape); places = t.places }) read_is.0)

    pub shaped_counted : (was now was_freed now_freed : ℕ) → was ≡ count_for r → now ≡ count_for (with_shape r shape) → was_freed ≡ cond (is_freed r) 1 0 → now_freed ≡ cond (is_freed (with_shape r shape)) 1 0
        → IsCounted (record { items = slice_set t.items place (with_shape r shape); places = t.places }) (others + now - was) (freed + now_freed - was_freed)
    shaped_counted was now was_freed now_freed was_is now_counts was_freed_is now_freed_is = record {
      table = shaped.0;
      others_are = (let e = recounted (with_shape r shape) was now was_is now_counts in omega arith);
      freed_are = (let e = refreed (with_shape r shape) was_freed now_freed was_freed_is now_freed_is in omega arith);
    }
