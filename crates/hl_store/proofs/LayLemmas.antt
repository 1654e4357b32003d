-- A unit laid over the tables, one block or one freed number more at a time.
use Rattle.std.proofs.Common.{◌≡◌, ℕ, zero, suc, ◌+◌, ◌<◌, ◌==◌, true, false, Bool, List, [], ◌∷◌, take, get_or, length, slice_index, ap, sym, ◌∙◌, arith, refl, if◌then◌else◌, subst}
use Rattle.hl_bytes.specs.declared.block.Block.{Block}
use Rattle.hl_bytes.specs.declared.records.BlockRecord.{BlockRecord}
use Rattle.hl_tables.specs.Values.{SameShape, TableValues}
use Rattle.hl_tables.proofs.Laid.{same_shape-then}
use Rattle.hl_tables.specs.Laying.{block_laid, with_inode}
use Rattle.hl_nodes.specs.Units.{blocks_placed}
use Rattle.hl_store.specs.Writing.{records_of}

-- one block more
pub placed_more :
    (t : TableValues) (bs : List (BlockRecord × Block)) (plan : List ℕ) (n : ℕ) (d : BlockRecord × Block) → n < length bs → n < length plan
    → blocks_placed t (records_of (take (n + 1) bs)) (take (n + 1) plan)
    ≡ block_laid (blocks_placed t (records_of (take n bs)) (take n plan)) (slice_index plan n) (get_or bs n d).0
placed_more t [] plan n d lt low = absurd (omega arith)
placed_more t (b ∷ bs) [] n d lt low = absurd (omega arith)
placed_more t (b ∷ bs) (a ∷ plan) zero d lt low = refl
placed_more t (b ∷ bs) (a ∷ plan) (suc n) d lt low =
    let k : suc n + 1 ≡ suc (n + 1) = omega arith in
    ap (λ (m : ℕ). blocks_placed t (records_of (take m (b ∷ bs))) (take m (a ∷ plan))) k
    ∙ placed_more (block_laid t a b.0) bs plan n d (omega arith) (omega arith)

-- tables with so many blocks of a unit laid over them
pub record HasLaid (old now : TableValues) (bs : List (BlockRecord × Block)) (plan : List ℕ) (n : ℕ) : Type 0 where
  pub so_far : now ≡ blocks_placed old (records_of (take n bs)) (take n plan)
  pub shape : SameShape old now

pub laid_more :
    (old now next : TableValues) (bs items : List (BlockRecord × Block)) (plan : List ℕ) (n : ℕ) (d : BlockRecord × Block)
    → now ≡ blocks_placed old (records_of (take n bs)) (take n plan) → SameShape old now → items ≡ bs → length plan ≡ length bs → n < length items
    → next ≡ block_laid now (slice_index plan n) (get_or items n d).0 → SameShape now next → HasLaid old next bs plan (n + 1)
laid_more old now next bs items plan n d so_far shape are size lt is same =
    let low : n < length bs = subst (λ (xs : List (BlockRecord × Block)). n < length xs) are lt in
    record {
      so_far = is
          ∙ ap (λ (xs : List (BlockRecord × Block)). block_laid now (slice_index plan n) (get_or xs n d).0) are
          ∙ ap (λ (t : TableValues). block_laid t (slice_index plan n) (get_or bs n d).0) so_far
          ∙ sym (placed_more old bs plan n d low (subst (λ k. n < k) (sym size) low));
      shape = same_shape-then old now next shape same;
    }

-- blocks that are laid change no slot
pub placed_slots : (t : TableValues) (rs : List BlockRecord) (plan : List ℕ) → (blocks_placed t rs plan).slots ≡ t.slots
placed_slots t [] plan = refl
placed_slots t (r ∷ rs) [] = refl
placed_slots t (r ∷ rs) (a ∷ plan) = placed_slots (block_laid t a r) rs plan ∙ one (r.index == 4294967295)
  where
    one : (own : Bool) → (if own then with_inode t r.ino a else t).slots ≡ t.slots
    one true = refl
    one false = refl
