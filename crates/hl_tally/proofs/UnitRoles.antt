-- What each block of a unit is: a new one of the overlay, or the inode or the pointer block of a draft.
use Rattle.std.proofs.Common.{◌≡◌, ◌⊎◌, inl, inr, ℕ, suc, ◌<◌, true, List, [], ◌∷◌, ◌++◌, length, length-append, slice_get, Option, Some, None, refl, subst, arith}
use Rattle.std.specs.Prelude.{slice_index}
use Rattle.std.proofs.lemmas.Bool.{cases_lt}
use Rattle.hl_bytes.specs.declared.block.Block.{Block}
use Rattle.hl_bytes.specs.declared.records.BlockRecord.{BlockRecord}
use Rattle.hl_overlay.specs.declared.draft.NodeDraft.{NodeDraft}
use Rattle.hl_overlay.specs.declared.draft.Shape.{Shape}
use Rattle.hl_overlay.specs.Pointing.{has_far}
use Rattle.hl_overlay.specs.Making.{AddsAll, AddsDraft, AddsPointerBlock, AddsWanted, IsPointerBlockOf, shape_wanted}
use Rattle.hl_overlay.proofs.MakingLemmas.{adds_all_front}
use Rattle.hl_overlaid.proofs.UnitBlocks.{Brings}

-- the pointer block of a draft is new, and the unit's block at this place
pub record IsAnew (plan : List ℕ) (d : NodeDraft) (before middle : List (BlockRecord × Block)) (single n : ℕ) : Type 0 where
  pub far : has_far d.pointers ≡ true
  pub gone : d.single ≡ 4294967295
  pub block : Block
  pub is : middle ≡ before ++ (record { ino = d.ino; index = 4294967294 }, block) ∷ []
  pub single_is : single ≡ slice_index plan (length before)
  pub names : IsPointerBlockOf plan d block.bytes
  pub place_is : n ≡ length before

-- the unit's block at this place is the inode or the pointer block of a draft
pub record IsOfDraft (plan uses : List ℕ) (ds : List NodeDraft) (old new : List (BlockRecord × Block)) (n : ℕ) : Type 0 where
  pub place : ℕ
  pub draft : NodeDraft
  pub there : slice_get ds place ≡ Some draft
  pub shape : Shape
  pub want : shape_wanted draft ≡ Some shape
  pub brings : Brings plan uses draft shape old new
  pub role : (n ≡ length brings.adds.middle) ⊎ IsAnew plan draft brings.before brings.adds.middle brings.adds.single n

one_more : (xs : List (BlockRecord × Block)) (x : BlockRecord × Block) (n : ℕ) → n < length (xs ++ x ∷ []) → (n < length xs) ⊎ (n ≡ length xs)
one_more xs x n lt = (let size = length-append xs (x ∷ []) in elim (cases_lt n (length xs)) [ inl low ↦ inl low | inr high ↦ inr (omega arith) ])

-- the places of a draft's blocks
role_in : (plan uses : List ℕ) (d : NodeDraft) (shape : Shape) (old new : List (BlockRecord × Block)) (n : ℕ) (adds : AddsDraft plan (slice_index uses d.ino) d shape old new) → n < length new
    → (n < length old) ⊎ ((n ≡ length adds.middle) ⊎ IsAnew plan d old adds.middle adds.single n)
role_in plan uses d shape old new n adds lt = elim (one_more adds.middle (record { ino = d.ino; index = 4294967295 }, adds.inode.block) n (subst (λ (xs : List (BlockRecord × Block)). n < length xs) adds.inode.is lt)) [
  | inr own ↦ inr (inl own)
  | inl low ↦ by adds.pointer_block low
]
  where
    by : AddsPointerBlock plan d old adds.middle adds.single → n < length adds.middle → (n < length old) ⊎ ((n ≡ length adds.middle) ⊎ IsAnew plan d old adds.middle adds.single n)
    by (inl (same, single_is, there)) low = inl (subst (λ (xs : List (BlockRecord × Block)). n < length xs) same low)
    by (inr (far, gone, (block, is, single_is, names))) low = elim (one_more old (record { ino = d.ino; index = 4294967294 }, block) n (subst (λ (xs : List (BlockRecord × Block)). n < length xs) is low)) [
      | inl before ↦ inl before
      | inr at ↦ inr (inr (record { far = far; gone = gone; block = block; is = is; single_is = single_is; names = names; place_is = at }))
    ]

-- each place of the unit is one of the blocks before it, or of a draft
pub role_of : (plan uses : List ℕ) (ds : List NodeDraft) (old new : List (BlockRecord × Block)) → AddsAll plan uses ds old new → (n : ℕ) → n < length new → (n < length old) ⊎ IsOfDraft plan uses ds old new n
role_of plan uses [] old new same n lt = inl (subst (λ (xs : List (BlockRecord × Block)). n < length xs) same lt)
role_of plan uses (d ∷ ds) old new (middle, first, all) n lt = elim (role_of plan uses ds middle new all n lt) [
  | inr later ↦ inr (record {
    place = suc later.place;
    draft = later.draft;
    there = later.there;
    shape = later.shape;
    want = later.want;
    brings = record { before = later.brings.before; after = later.brings.after; adds = later.brings.adds; rest = later.brings.rest; is = later.brings.is };
    role = later.role;
  })
  | inl low ↦ by (shape_wanted d) refl first low
]
  where
    by : (s : Option Shape) → shape_wanted d ≡ s → AddsWanted plan (slice_index uses d.ino) d s old middle → n < length middle → (n < length old) ⊎ IsOfDraft plan uses (d ∷ ds) old new n
    by None want same low = inl (subst (λ (xs : List (BlockRecord × Block)). n < length xs) same low)
    by (Some shape) want adds low = elim (role_in plan uses d shape old middle n adds low) [
      | inl before ↦ inl before
      | inr role ↦ (
          let front = adds_all_front plan uses ds middle new all in
          inr (record { place = 0; draft = d; there = refl; shape = shape; want = want; brings = record { before = old; after = middle; adds = adds; rest = front.0; is = front.1 }; role = role }))
    ]
