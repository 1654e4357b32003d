-- What is read into a draft.
use Rattle.std.proofs.Common.{◌≡◌, ◌≢◌, ◌⊎◌, inl, inr, ℕ, ◌+◌, ◌-◌, ◌/◌, ◌<◌, ◌≤◌, max, List, length, replicate, Some, None, false, true≢false, refl, sym, ◌∙◌, ap, subst, arith}
use Rattle.std.specs.Option.{ForSome}
use Rattle.std.specs.Prelude.{slice_index, slice_set}
use Rattle.std.proofs.lemmas.Bool.{cases_eq, cases_lt}
use Rattle.std.proofs.lemmas.List.{get_or-replicate, get_or_past, get_or-set_same, get_or-set_other}
use Rattle.hl_inode.specs.declared.inode.Inode.{Inode}
use Rattle.hl_inode.specs.Inodes.{IsInode}
use Rattle.hl_inode.specs.Pointers.{pointers_of}
use Rattle.hl_placed.specs.Blocks.{blocks_of}
use Rattle.hl_overlay.specs.declared.pointers.Pointer.{Pointer}
use Rattle.hl_overlay.specs.declared.pointers.Pointer.TheVariants.{Hole}
use Rattle.hl_overlay.specs.declared.draft.NodeDraft.{NodeDraft}
use Rattle.hl_overlay.specs.declared.draft.Shape.{Shape}
use Rattle.hl_overlay.specs.Pointing.{IsAddressed, IsUnwritten, pointer_to, where_is}
use Rattle.hl_overlay.specs.Drafting.{IsDraft, IsFilled, blocks_of_shape}
use Rattle.hl_overlay.proofs.PointerLemmas.{pointer_to_addressed, pointer_to_written}

pub hole_in : (ps : List Pointer) → ps ≡ replicate 1036 Hole → (i : ℕ) → where_is ps i ≡ Hole
hole_in ps is i = elim (cases_lt i (length ps)) [
  | inl lt ↦ ap (λ (l : List Pointer). where_is l i) is ∙ get_or-replicate 1036 i Hole Hole (subst (λ (l : List Pointer). i < length l) is lt)
  | inr ge ↦ get_or_past ps i Hole ge
]

-- a draft with no block at all has no new one
none_some : (x : Shape) → None ≡ Some x → ⊥
none_some x e = cc

pub unused_is : (d : NodeDraft) → 1 ≤ d.ino → d.shape ≡ None → ((i : ℕ) → where_is d.pointers i ≡ Hole) → IsDraft d
unused_is d number shape holes = record {
  number = number;
  size = λ x e. absurd (none_some x (sym shape ∙ e));
  ends = λ i from lt. holes i;
  addressed = λ i. subst IsAddressed (sym (holes i)) tt;
  changed = λ i new. absurd (subst IsUnwritten (holes i) new);
  far = λ i from new. absurd (subst IsUnwritten (holes i) new);
}

-- two ways to write how many blocks a size takes
pub blocks_of-le : (size i : ℕ) → blocks_of size ≤ i → (size + 4095) / 4096 ≤ i
unfolding blocks_of
blocks_of-le size i le = omega arith

-- the blocks before this one are where the inode says, and those from it on are holes
pub record AreReadTo (end : ℕ) (direct : List ℕ) (ps : List Pointer) : Type 0 where
  pub before : (k : ℕ) → k < end → where_is ps k ≡ pointer_to (slice_index direct k)
  pub behind : (k : ℕ) → end ≤ k → where_is ps k ≡ Hole

pub read_none : (direct : List ℕ) (ps : List Pointer) → ps ≡ replicate 1036 Hole → AreReadTo 0 direct ps
read_none direct ps is = record { before = λ k lt. absurd (omega arith); behind = λ k from. hole_in ps is k }

pub read_one : (end : ℕ) (direct : List ℕ) (ps new : List Pointer) (p : Pointer) → AreReadTo end direct ps → length ps ≡ 1036 → end < 12 → p ≡ pointer_to (slice_index direct end) → new ≡ slice_set ps end p → AreReadTo (end + 1) direct new
read_one end direct ps new p read count low is set_is = record {
  before = λ k lt. elim (cases_eq k end) [
    | inl e ↦ at k set_is ∙ ap (λ (x : ℕ). where_is (slice_set ps end p) x) e ∙ get_or-set_same ps end p Hole (omega arith) ∙ is ∙ ap (λ (x : ℕ). pointer_to (slice_index direct x)) (sym e)
    | inr ne ↦ at k set_is ∙ get_or-set_other ps end k p Hole (different k end ne) ∙ read.before k (below k end lt (different k end ne))
  ];
  behind = λ k from. at k set_is ∙ get_or-set_other ps end k p Hole (λ e. (let h : k ≡ end = e in omega arith)) ∙ read.behind k (omega arith);
}
  where
    at : (k : ℕ) → new ≡ slice_set ps end p → where_is new k ≡ where_is (slice_set ps end p) k
    at k e = ap (λ (l : List Pointer). where_is l k) e

    different : (k end : ℕ) → (k ≡ end → ⊥) → k ≢ end
    different k end ne = ne

    below : (k end : ℕ) → k < end + 1 → k ≢ end → k < end
    below k end lt ne = omega arith

-- the draft of a node that was read has no block past its size, and no new one
abbrev pub draft_read : ℕ → Inode → List Pointer → NodeDraft
draft_read own v ps = record { ino = v.number; own = own; shape = Some (record { kind = v.kind; size = v.size }); single = v.single; pointers = ps; changed = false }

pub of_is : (own : ℕ) (v : Inode) (ps : List Pointer) → IsInode v → (end : ℕ) → AreReadTo end v.direct ps → 12 ≤ end → end ≤ 12 → IsDraft (draft_read own v ps)
of_is own v ps is_inode end read full within = record {
  number = is_inode.ranges.number;
  size = λ x e. (let h : record { kind = v.kind; size = v.size } ≡ x = (cc) in subst (λ (s : Shape). s.size ≤ 4243456) h is_inode.ranges.size);
  ends = λ i from lt. elim (cases_lt i 12) [
    | inl low ↦ read.before i (omega arith) ∙ ap pointer_to (nothing i low (blocks_of-le v.size i from))
    | inr high ↦ read.behind i (omega arith)
  ];
  addressed = λ i. elim (cases_lt i 12) [
    | inl low ↦ subst IsAddressed (sym (read.before i (omega arith))) (pointer_to_addressed (slice_index v.direct i))
    | inr high ↦ subst IsAddressed (sym (read.behind i (omega arith))) tt
  ];
  changed = λ i new. absurd (written i new);
  far = λ i from new. absurd (written i new);
}
  where
    nothing : (i : ℕ) → i < 12 → (v.size + 4095) / 4096 ≤ i → slice_index v.direct i ≡ 4294967295
    nothing i low from = elim (cases_lt i (length v.direct)) [
      | inl there ↦ is_inode.ranges.direct i there from
      | inr past ↦ (let count = is_inode.room.count in absurd (omega arith))
    ]

    written : (i : ℕ) → IsUnwritten (where_is ps i) → ⊥
    written i new = elim (cases_lt i 12) [
      | inl low ↦ pointer_to_written (slice_index v.direct i) (subst IsUnwritten (read.before i (omega arith)) new)
      | inr high ↦ subst IsUnwritten (read.behind i (omega arith)) new
    ]

-- the blocks from 12 to before this one are where the pointer block says, and all else is as it was
pub record IsFilledTo (end : ℕ) (block : List ℕ) (old d : NodeDraft) : Type 0 where
  pub rest : d ≡ record old { pointers = d.pointers }
  pub before : (k : ℕ) → 12 ≤ k → k < end → where_is d.pointers k ≡ pointer_to (slice_index (pointers_of block) (k - 12))
  pub others : (k : ℕ) → (k < 12) ⊎ (end ≤ k) → where_is d.pointers k ≡ where_is old.pointers k
  pub within : end ≤ max 12 (blocks_of_shape old.shape)

pub filled_none : (block : List ℕ) (d : NodeDraft) → IsFilledTo 12 block d d
filled_none block d = record { rest = refl; before = λ k low lt. absurd (omega arith); others = λ k side. refl; within = omega arith }

pub filled_one : (end : ℕ) (block : List ℕ) (old d new : NodeDraft) (p : Pointer) → IsFilledTo end block old d → length d.pointers ≡ 1036 → 12 ≤ end → end < 1036 → end < blocks_of_shape old.shape
    → p ≡ pointer_to (slice_index (pointers_of block) (end - 12)) → new ≡ record d { pointers = slice_set d.pointers end p } → IsFilledTo (end + 1) block old new
filled_one end block old d new p filled count from low lt_size is new_is = record {
  rest = new_is ∙ ap (λ (x : NodeDraft). record x { pointers = slice_set d.pointers end p }) filled.rest ∙ ap (λ (x : NodeDraft). record old { pointers = x.pointers }) (sym new_is);
  before = λ k far lt. elim (cases_eq k end) [
    | inl e ↦ at k ∙ ap (λ (x : ℕ). where_is (slice_set d.pointers end p) x) e ∙ get_or-set_same d.pointers end p Hole (omega arith) ∙ is ∙ ap (λ (x : ℕ). pointer_to (slice_index (pointers_of block) (x - 12))) (sym e)
    | inr ne ↦ at k ∙ get_or-set_other d.pointers end k p Hole (different k end ne) ∙ filled.before k far (below k end lt (different k end ne))
  ];
  others = λ k side. at k ∙ get_or-set_other d.pointers end k p Hole (apart k side) ∙ filled.others k (wider k side);
  within = omega arith;
}
  where
    at : (k : ℕ) → where_is new.pointers k ≡ where_is (slice_set d.pointers end p) k
    at k = ap (λ (x : NodeDraft). where_is x.pointers k) new_is

    different : (k end : ℕ) → (k ≡ end → ⊥) → k ≢ end
    different k end ne = ne

    below : (k end : ℕ) → k < end + 1 → k ≢ end → k < end
    below k end lt ne = omega arith

    apart : (k : ℕ) → (k < 12) ⊎ (end + 1 ≤ k) → k ≢ end
    apart k (inl lt) e = omega arith
    apart k (inr le) e = omega arith

    wider : (k : ℕ) → (k < 12) ⊎ (end + 1 ≤ k) → (k < 12) ⊎ (end ≤ k)
    wider k (inl lt) = inl lt
    wider k (inr le) = inr (omega arith)

-- a draft that isn't changed has no block that the disk doesn't have
pub unchanged_written : (d : NodeDraft) → IsDraft d → d.changed ≡ false → (i : ℕ) → IsUnwritten (where_is d.pointers i) → ⊥
unchanged_written d is unchanged i new = true≢false (sym (is.changed i new) ∙ unchanged)

-- what was filled keeps to its size
pub filled_is : (end : ℕ) (block : List ℕ) (old d : NodeDraft) → IsDraft old → old.changed ≡ false → IsFilledTo end block old d → IsDraft d
filled_is end block old d is unchanged filled = record {
  number = subst (λ (x : NodeDraft). 1 ≤ x.ino) (sym filled.rest) is.number;
  size = subst (λ (x : NodeDraft). ForSome x.shape (λ shape. shape.size ≤ 4243456)) (sym filled.rest) is.size;
  ends = λ i from lt. (let from' : blocks_of_shape old.shape ≤ i = subst (λ (x : NodeDraft). blocks_of_shape x.shape ≤ i) filled.rest from in filled.others i (side i from') ∙ is.ends i from' lt);
  addressed = λ i. by IsAddressed i (λ a. pointer_to_addressed a) (is.addressed i);
  changed = λ i new. absurd (written i new);
  far = λ i from new. absurd (written i new);
}
  where
    side : (i : ℕ) → blocks_of_shape old.shape ≤ i → (i < 12) ⊎ (end ≤ i)
    side i from = elim (cases_lt i 12) [ inl low ↦ inl low | inr high ↦ inr (let w = filled.within in omega arith) ]

    by : (P : Pointer → Type 0) (i : ℕ) → ((a : ℕ) → P (pointer_to a)) → P (where_is old.pointers i) → P (where_is d.pointers i)
    by P i read kept = elim (cases_lt i 12) [
      | inl low ↦ subst P (sym (filled.others i (inl low))) kept
      | inr high ↦ elim (cases_lt i end) [
        | inl lt ↦ subst P (sym (filled.before i high lt)) (read (slice_index (pointers_of block) (i - 12)))
        | inr ge ↦ subst P (sym (filled.others i (inr ge))) kept
      ]
    ]

    written : (i : ℕ) → IsUnwritten (where_is d.pointers i) → ⊥
    written i = by (λ p. IsUnwritten p → ⊥) i pointer_to_written (unchanged_written old is unchanged i)

pub filled_to_end : (end : ℕ) (block : List ℕ) (old d : NodeDraft) → IsFilledTo end block old d → blocks_of_shape old.shape ≤ end → IsFilled block d
filled_to_end end block old d filled whole i from lt =
    let lt' : i < blocks_of_shape old.shape = subst (λ (x : NodeDraft). i < blocks_of_shape x.shape) filled.rest lt in
    filled.before i from (omega arith)
