-- The blocks of a draft.
use Rattle.std.proofs.Common.{◌≡◌, ◌≢◌, ◌⊎◌, inl, inr, ℕ, suc, ◌+◌, ◌-◌, ◌/◌, ◌<◌, ◌≤◌, Bool, true, false, true≢false, ◌&&◌, List, [], ◌∷◌, ◌++◌, length, length-append, get_or, take, drop, slice_get, Option, Some, None, add-zero, append_assoc, add-one, eq-eqb, slice_index, slice_set, refl, sym, ◌∙◌, ap, subst, arith}
use Rattle.std.proofs.lemmas.Bool.{cases_eq, cases_lt}
use Rattle.std.specs.Prelude.{if◌then◌else◌, is_some, ◌==◌, map, option_map}
use Rattle.std.proofs.lemmas.List.Sums.{sum_by-cons}
use Rattle.std.proofs.lemmas.List.{get_or-set_same, get_or-set_other}
use Rattle.std.proofs.Math.Seq.{take-suc, drop-cons, take-append_seam}
use Rattle.std.proofs.lemmas.Bool.{eqb-true}
use Rattle.hl_bytes.specs.Fields.{u32_at}
use Rattle.hl_bytes.proofs.RunLemmas.{length-run_at}
use Rattle.hl_inode.specs.Pointers.{pointers_of}
use Rattle.hl_overlay.specs.declared.draft.NodeDraft.{NodeDraft}
use Rattle.hl_inode.specs.declared.inode.Inode.{Inode}
use Rattle.hl_inode.specs.declared.inode.Kind.{Kind}
use Rattle.hl_inode.specs.declared.inode.Kind.TheVariants.{File, Dir}
use Rattle.hl_inode.specs.Inodes.{HasRanges}
use Rattle.hl_bytes.specs.declared.block.Block.{Block}
use Rattle.hl_bytes.specs.declared.records.BlockRecord.{BlockRecord}
use Rattle.hl_placed.specs.Blocks.{blocks_of}
use Rattle.hl_overlay.specs.declared.pointers.Pointer.TheVariants.{New}
use Rattle.hl_overlay.specs.declared.draft.Shape.{Shape}
use Rattle.hl_overlay.specs.Drafting.{IsDraft, blocks_of_shape, count_for, is_freed, needs_inode, needs_pointer_block}
use Rattle.hl_overlay.specs.Pointing.{has_far, where_is}
use Rattle.std.proofs.lemmas.List.{append-nil}
use Rattle.std.proofs.lemmas.Option.{slice_get-get_or}
use Rattle.std.specs.List.{filter}
use Rattle.hl_bytes.specs.declared.records.TableRecord.{TableRecord}
use Rattle.hl_overlay.specs.DraftTables.{DraftTable, IsDraftTable, freed_of, freed_record, others_in}
use Rattle.hl_overlay.specs.Overlays.{AreNamed, OverlayValue, where_in}
use Rattle.hl_overlay.specs.MadeUnits.{IsMadeOf, MadeUnitValue}
use Rattle.hl_overlay.proofs.OverlayLemmas.{named_within}
use Rattle.hl_overlay.specs.Making.{AddsAll, AddsPointerBlock, AddsWanted, AreOnPlan, IsInodeOf, IsPointerBlockOf, resolved, shape_wanted, used_of}
use Rattle.hl_overlay.proofs.PointerLemmas.{none_far}

-- the blocks from 12 to before this one are named
pub record NamesTo (end : ℕ) (plan : List ℕ) (d : NodeDraft) (bytes : List ℕ) : Type 0 where
  pub size : length bytes ≡ 4096
  pub names : (k : ℕ) → 12 + k < end → slice_index (pointers_of bytes) k ≡ resolved plan (where_is d.pointers (12 + k))

pub pointers_count : (bytes : List ℕ) → length (pointers_of bytes) ≡ 1024
unfolding pointers_of
pointers_count bytes = length-run_at u32_at 4 0 1024 bytes

pub names_none : (plan : List ℕ) (d : NodeDraft) (bytes : List ℕ) → length bytes ≡ 4096 → NamesTo 12 plan d bytes
names_none plan d bytes size = record { size = size; names = λ k lt. absurd (omega arith) }

pub names_one : (end : ℕ) (plan : List ℕ) (d : NodeDraft) (bytes new : List ℕ) (addr : ℕ) → NamesTo end plan d bytes → 12 ≤ end → end < 1036 → addr ≡ resolved plan (where_is d.pointers end) → length new ≡ 4096 → pointers_of new ≡ slice_set (pointers_of bytes) (end - 12) addr → NamesTo (end + 1) plan d new
names_one end plan d bytes new addr names from low is size set_is = record {
  size = size;
  names = λ k lt. ap (λ l. slice_index l k) set_is ∙ (elim (cases_eq k (end - 12)) [
    | inl e ↦ ap (slice_index (slice_set (pointers_of bytes) (end - 12) addr)) e ∙ get_or-set_same (pointers_of bytes) (end - 12) addr 0 (let c = pointers_count bytes in omega arith) ∙ is ∙ ap (λ x. resolved plan (where_is d.pointers x)) (at_end k end from e)
    | inr ne ↦ get_or-set_other (pointers_of bytes) (end - 12) k addr 0 (different k end ne) ∙ names.names k (below k end from lt ne)
  ]);
}
  where
    at_end : (k end : ℕ) → 12 ≤ end → k ≡ end - 12 → end ≡ 12 + k
    at_end k end from e = omega arith

    different : (k end : ℕ) → (k ≡ end - 12 → ⊥) → k ≢ end - 12
    different k end ne = ne

    below : (k end : ℕ) → 12 ≤ end → 12 + k < end + 1 → (k ≡ end - 12 → ⊥) → 12 + k < end
    below k end from lt ne = elim (cases_lt (12 + k) end) [ inl l ↦ l | inr ge ↦ absurd (ne (omega arith)) ]

pub names_all : (end : ℕ) (plan : List ℕ) (d : NodeDraft) (bytes : List ℕ) → NamesTo end plan d bytes → 1036 ≤ end → IsPointerBlockOf plan d bytes
names_all end plan d bytes names whole = record { size = names.size; names = λ i lt. names.names i (omega arith) }

-- one more direct pointer
pub direct_one : (end : ℕ) (plan : List ℕ) (d : NodeDraft) (direct : List ℕ) (addr : ℕ) → ((k : ℕ) → k < end → slice_index direct k ≡ resolved plan (where_is d.pointers k)) → addr ≡ resolved plan (where_is d.pointers end) → end < length direct
    → (k : ℕ) → k < end + 1 → slice_index (slice_set direct end addr) k ≡ resolved plan (where_is d.pointers k)
direct_one end plan d direct addr names is low k lt = elim (cases_eq k end) [
  | inl e ↦ ap (slice_index (slice_set direct end addr)) e ∙ get_or-set_same direct end addr 0 low ∙ is ∙ ap (λ x. resolved plan (where_is d.pointers x)) (sym e)
  | inr ne ↦ get_or-set_other direct end k addr 0 ne ∙ names k (below k end lt ne)
]
  where
    below : (k end : ℕ) → k < end + 1 → (k ≡ end → ⊥) → k < end
    below k end lt ne = elim (cases_lt k end) [ inl l ↦ l | inr ge ↦ absurd (ne (omega arith)) ]

blocks_low : (size : ℕ) → size ≤ 49152 → blocks_of size ≤ 12
unfolding blocks_of
blocks_low size le = omega arith

blocks_from : (size i : ℕ) → (size + 4095) / 4096 ≤ i → blocks_of size ≤ i
unfolding blocks_of
blocks_from size i le = omega arith

-- the inode of a draft is in its ranges
pub ranges_of : (plan : List ℕ) (single used : ℕ) (d : NodeDraft) (shape : Shape) (v : Inode) (old new : List (BlockRecord × Block)) → IsDraft d → d.shape ≡ Some shape → length d.pointers ≡ 1036 → AddsPointerBlock plan d old new single → IsInodeOf plan single used d shape v → HasRanges v
ranges_of plan single used d shape v old new is shape_is count adds of = record {
  number = subst (λ n. 1 ≤ n) (sym of.number) is.number;
  size = subst (λ n. n ≤ 4243456) (sym of.size) (is.size shape shape_is);
  used = by_kind shape.kind of.kind of.used_is;
  direct = λ i lt from. (let c = of.count in of.direct i (omega arith) ∙ ap (resolved plan) (is.ends i (subst (λ s. blocks_of_shape s ≤ i) (sym shape_is) (blocks_from shape.size i (subst (λ n. (n + 4095) / 4096 ≤ i) of.size from))) (omega arith)));
  single = by_size (cases_lt 49152 v.size);
}
  where
    by_kind : (k : Kind) → v.kind ≡ k → v.used ≡ used_of k used → (v.kind ≡ File) ⊎ (v.used ≡ 0)
    by_kind File kind is_used = inl kind
    by_kind Dir kind is_used = inr is_used

    nowhere : has_far d.pointers ≡ false → AddsPointerBlock plan d old new single → single ≡ 4294967295
    nowhere none (inl (same, single_is, there)) = single_is ∙ ap (λ (b : Bool). if b then d.single else 4294967295) none
    nowhere none (inr (far, own, rest)) = absurd (true≢false (sym far ∙ none))

    by_size : (49152 < v.size) ⊎ (v.size ≤ 49152) → (49152 < v.size) ⊎ (v.single ≡ 4294967295)
    by_size (inl large) = inl large
    by_size (inr small) =
        let few : blocks_of_shape d.shape ≤ 12 = subst (λ s. blocks_of_shape s ≤ 12) (sym shape_is) (blocks_low shape.size (subst (λ n. n ≤ 49152) of.size small)) in
        let none : has_far d.pointers ≡ false = none_far d.pointers count (λ i from lt. is.ends i (omega arith) lt) in
        inr (of.single_is ∙ nowhere none adds)

-- so far the blocks of the drafts before this one have come, and there is room for those of the others
pub record HasAdded (index : ℕ) (plan uses : List ℕ) (drafts : List NodeDraft) (old now : List (BlockRecord × Block)) (capacity : ℕ) : Type 0 where
  pub adds : AddsAll plan uses (take index drafts) old now
  pub plan_room : length now + others_in (drop index drafts) ≤ length plan
  pub room : length now + others_in (drop index drafts) ≤ capacity

-- a draft more
pub adds_one : (plan uses : List ℕ) (ds : List NodeDraft) (d : NodeDraft) (old middle new : List (BlockRecord × Block)) → AddsAll plan uses ds old middle → AddsWanted plan (slice_index uses d.ino) d (shape_wanted d) middle new → AddsAll plan uses (ds ++ d ∷ []) old new
adds_one plan uses [] d old middle new all one = (new, subst (λ x. AddsWanted plan (slice_index uses d.ino) d (shape_wanted d) x new) all one, refl)
adds_one plan uses (e ∷ ds) d old middle new (next, first, all) one = (next, first, adds_one plan uses ds d next middle new all one)

-- how many blocks a draft brings
pub brings : (plan : List ℕ) (used : ℕ) (d : NodeDraft) (old new : List (BlockRecord × Block)) (changed : Bool) (shape : Option Shape) → d.changed ≡ changed → d.shape ≡ shape → AddsWanted plan used d (if changed then shape else None) old new → length new ≡ length old + count_for d
brings plan used d old new false shape changed_is shape_is adds = ap length adds ∙ sym (ap (λ n. length old + n) (ap (λ b. if (b && is_some d.shape) then (if needs_pointer_block d then 2 else 1) else 0) changed_is) ∙ add-zero (length old))
brings plan used d old new true None changed_is shape_is adds = ap length adds ∙ sym (ap (λ n. length old + n) (ap (λ b. if (b && is_some d.shape) then (if needs_pointer_block d then 2 else 1) else 0) changed_is ∙ ap (λ (s : Option Shape). if is_some s then (if needs_pointer_block d then 2 else 1) else 0) shape_is) ∙ add-zero (length old))
brings plan used d old new true (Some shape) changed_is shape_is adds = by adds.pointer_block
  where
    needs : needs_inode d ≡ true
    needs = ap (λ b. b && is_some d.shape) changed_is ∙ ap (λ (s : Option Shape). is_some s) shape_is

    last : length new ≡ length adds.middle + 1
    last = ap length adds.inode.is ∙ length-append adds.middle ((record { ino = d.ino; index = 4294967295 }, adds.inode.block) ∷ [])

    count_by : (b : Bool) → needs_pointer_block d ≡ b → count_for d ≡ (if b then 2 else 1)
    count_by b e = ap (λ (x : Bool). if x then (if needs_pointer_block d then 2 else 1) else 0) needs ∙ ap (λ (x : Bool). if x then 2 else 1) e

    needs_block : (a b : Bool) → (d.single == 4294967295) ≡ a → has_far d.pointers ≡ b → needs_pointer_block d ≡ (a && b)
    needs_block a b e f = ap (λ x. x && (d.single == 4294967295) && has_far d.pointers) needs ∙ ap (λ x. x && has_far d.pointers) e ∙ ap (λ x. a && x) f

    by : AddsPointerBlock plan d old adds.middle adds.single → length new ≡ length old + count_for d
    by (inl (same, single_is, there)) =
        let none : needs_pointer_block d ≡ false = not_both (d.single == 4294967295) (has_far d.pointers) refl refl in
        let one : count_for d ≡ 1 = count_by false none in
        let m : length adds.middle ≡ length old = ap length same in let l = last in omega arith
      where
        not_both : (a b : Bool) → (d.single == 4294967295) ≡ a → has_far d.pointers ≡ b → needs_pointer_block d ≡ false
        not_both true true e f = absurd (there f (eqb-true d.single 4294967295 e))
        not_both true false e f = needs_block true false e f
        not_both false b e f = needs_block false b e f
    by (inr (far, own, (block, is, single_is, named))) =
        let both : needs_pointer_block d ≡ true = needs_block true true (eq-eqb d.single 4294967295 own) far in
        let two : count_for d ≡ 2 = count_by true both in
        let m : length adds.middle ≡ length old + 1 = ap length is ∙ length-append old ((record { ino = d.ino; index = 4294967294 }, block) ∷ []) in let l = last in omega arith

-- a draft more has come
pub added_one : (index : ℕ) (plan uses : List ℕ) (drafts : List NodeDraft) (old now new : List (BlockRecord × Block)) (capacity capacity' : ℕ) (d : NodeDraft) → HasAdded index plan uses drafts old now capacity → index < length drafts → d ≡ get_or drafts index d → AddsWanted plan (slice_index uses d.ino) d (shape_wanted d) now new → capacity ≤ capacity'
    → HasAdded (index + 1) plan uses drafts old new capacity'
added_one index plan uses drafts old now new capacity capacity' d added lt is one grows = record {
  adds = subst (λ ds. AddsAll plan uses ds old new) (sym taken) (adds_one plan uses (take index drafts) d old now new added.adds one);
  plan_room = (let p = added.plan_room in let m = more in let g = grown in omega arith);
  room = (let r = added.room in let m = more in let g = grown in omega arith);
}
  where
    taken : take (index + 1) drafts ≡ take index drafts ++ d ∷ []
    taken = ap (λ n. take n drafts) (add-one index) ∙ take-suc drafts index d lt ∙ ap (λ x. take index drafts ++ x ∷ []) (sym is)

    dropped : drop index drafts ≡ d ∷ drop (index + 1) drafts
    dropped = drop-cons drafts index d lt ∙ ap (λ x. x ∷ drop (suc index) drafts) (sym is) ∙ ap (λ n. d ∷ drop n drafts) (sym (add-one index))

    more : others_in (drop index drafts) ≡ count_for d + others_in (drop (index + 1) drafts)
    more = ap others_in dropped ∙ sum_by-cons count_for d (drop (index + 1) drafts)

    grown : length new ≡ length now + count_for d
    grown = brings plan (slice_index uses d.ino) d now new d.changed d.shape refl refl one

pub taken : {X : Type 0} (ds : List X) (k : ℕ) (d : X) → k < length ds → d ≡ get_or ds k d → take (k + 1) ds ≡ take k ds ++ d ∷ []
taken ds k d lt is = ap (λ n. take n ds) (add-one k) ∙ take-suc ds k d lt ∙ ap (λ x. take k ds ++ x ∷ []) (sym is)

freed_by : (ds : List NodeDraft) (d : NodeDraft) (b : Bool) → is_freed d ≡ b → freed_of (ds ++ d ∷ []) ≡ freed_of ds ++ (if b then freed_record d ∷ [] else [])
freed_by [] d true is = ap (λ (b : Bool). map freed_record (if b then d ∷ [] else [])) is
freed_by [] d false is = ap (λ (b : Bool). map freed_record (if b then d ∷ [] else [])) is
freed_by (x ∷ xs) d b is = by (is_freed x) refl (freed_by xs d b is)
  where
    by : (a : Bool) → is_freed x ≡ a → freed_of (xs ++ d ∷ []) ≡ freed_of xs ++ (if b then freed_record d ∷ [] else []) → freed_of (x ∷ (xs ++ d ∷ [])) ≡ freed_of (x ∷ xs) ++ (if b then freed_record d ∷ [] else [])
    by true e rest = ap (λ (c : Bool). map freed_record (if c then x ∷ filter is_freed (xs ++ d ∷ []) else filter is_freed (xs ++ d ∷ []))) e ∙ ap (λ r. freed_record x ∷ r) rest
        ∙ sym (ap (λ (c : Bool). map freed_record (if c then x ∷ filter is_freed xs else filter is_freed xs) ++ (if b then freed_record d ∷ [] else [])) e)
    by false e rest = ap (λ (c : Bool). map freed_record (if c then x ∷ filter is_freed (xs ++ d ∷ []) else filter is_freed (xs ++ d ∷ []))) e ∙ rest
        ∙ sym (ap (λ (c : Bool). map freed_record (if c then x ∷ filter is_freed xs else filter is_freed xs) ++ (if b then freed_record d ∷ [] else [])) e)

-- one draft more is freed, or is not
pub freed_one : (ds : List NodeDraft) (k : ℕ) (d : NodeDraft) (b : Bool) → k < length ds → d ≡ get_or ds k d → is_freed d ≡ b → freed_of (take (k + 1) ds) ≡ freed_of (take k ds) ++ (if b then freed_record d ∷ [] else [])
freed_one ds k d b lt is e = ap freed_of (taken ds k d lt is) ∙ freed_by (take k ds) d b e

-- the blocks that were there come first
pub adds_front : (plan : List ℕ) (used : ℕ) (d : NodeDraft) (shape : Option Shape) (old new : List (BlockRecord × Block)) → AddsWanted plan used d shape old new → (rest : List (BlockRecord × Block)) × (new ≡ old ++ rest)
adds_front plan used d None old new same = ([], same ∙ sym (append-nil old))
adds_front plan used d (Some shape) old new adds = by adds.pointer_block
  where
    last : List (BlockRecord × Block)
    last = (record { ino = d.ino; index = 4294967295 }, adds.inode.block) ∷ []

    by : AddsPointerBlock plan d old adds.middle adds.single → (rest : List (BlockRecord × Block)) × (new ≡ old ++ rest)
    by (inl (same, single_is, there)) = ((record { ino = d.ino; index = 4294967295 }, adds.inode.block) ∷ [], adds.inode.is ∙ ap (λ m. m ++ (record { ino = d.ino; index = 4294967295 }, adds.inode.block) ∷ []) same)
    by (inr (far, own, (block, is, single_is, named))) = (
      ((record { ino = d.ino; index = 4294967294 }, block) ∷ []) ++ ((record { ino = d.ino; index = 4294967295 }, adds.inode.block) ∷ []),
      adds.inode.is ∙ ap (λ m. m ++ (record { ino = d.ino; index = 4294967295 }, adds.inode.block) ∷ []) is ∙ append_assoc old ((record { ino = d.ino; index = 4294967294 }, block) ∷ []) ((record { ino = d.ino; index = 4294967295 }, adds.inode.block) ∷ []),
    )

pub adds_all_front : (plan uses : List ℕ) (ds : List NodeDraft) (old new : List (BlockRecord × Block)) → AddsAll plan uses ds old new → (rest : List (BlockRecord × Block)) × (new ≡ old ++ rest)
adds_all_front plan uses [] old new same = ([], same ∙ sym (append-nil old))
adds_all_front plan uses (d ∷ ds) old new (middle, one, all) =
    let first = adds_front plan (slice_index uses d.ino) d (shape_wanted d) old middle one in
    let next = adds_all_front plan uses ds middle new all in
    (first.0 ++ next.0, next.1 ∙ ap (λ m. m ++ next.0) first.1 ∙ append_assoc old first.0 next.0)

pub data_first : (plan uses : List ℕ) (ds : List NodeDraft) (old new : List (BlockRecord × Block)) (n : ℕ) → n ≡ length old → AddsAll plan uses ds old new → take n new ≡ old
data_first plan uses ds old new n is all = (let front = adds_all_front plan uses ds old new all in ap (λ k. take k new) is ∙ ap (take (length old)) front.1 ∙ take-append_seam old front.0)

-- the drafts of an overlay name blocks of the plan
pub placed_in : (t : DraftTable) (blocks : List (BlockRecord × Block)) (plan : List ℕ) (ds : List NodeDraft) → IsDraftTable t → AreNamed (length t.places) (where_in t) blocks → ds ≡ t.items → length blocks ≤ length plan → (k : ℕ) (d : NodeDraft) → k < length ds → AreOnPlan plan (get_or ds k d)
placed_in t blocks plan ds is are same room k d lt i n new =
    let at : slice_get t.items k ≡ Some (get_or ds k d) = ap (λ xs. slice_get xs k) (sym same) ∙ slice_get-get_or ds k d lt in
    let p = is.placed k (get_or ds k d) at in
    let here : where_in t (get_or ds k d).ino i ≡ Some (New n) = ap (option_map (λ (x : NodeDraft). where_is x.pointers i)) (ap (slice_get t.items) p.1 ∙ at) ∙ ap Some new in
    let low = named_within (length t.places) (where_in t) blocks are (get_or ds k d).ino i n p.0 here in omega arith

pub drafts_in : (t : DraftTable) (ds : List NodeDraft) → IsDraftTable t → ds ≡ t.items → (k : ℕ) (d : NodeDraft) → k < length ds → IsDraft (get_or ds k d)
drafts_in t ds is same k d lt = is.drafts k (get_or ds k d) (ap (λ xs. slice_get xs k) (sym same) ∙ slice_get-get_or ds k d lt)

pub uses_in : (t : DraftTable) (ds : List NodeDraft) (count : ℕ) → IsDraftTable t → ds ≡ t.items → length t.places ≤ count → (k : ℕ) (d : NodeDraft) → k < length ds → (get_or ds k d).ino < count
uses_in t ds count is same room k d lt =
    let at : slice_get t.items k ≡ Some (get_or ds k d) = ap (λ xs. slice_get xs k) (sym same) ∙ slice_get-get_or ds k d lt in
    let p = (is.placed k (get_or ds k d) at).0 in omega arith

pub made_plan : (t old : OverlayValue) → t ≡ old → (ds : List NodeDraft) (count : ℕ) → ds ≡ t.drafts.items → count ≡ length old.blocks + others_in old.drafts.items → length t.blocks + others_in ds ≤ count
made_plan t old view_is ds count same is =
    let a : length t.blocks ≡ length old.blocks = ap (λ (x : OverlayValue). length x.blocks) view_is in
    let b : others_in ds ≡ others_in old.drafts.items = ap others_in same ∙ ap (λ (x : OverlayValue). others_in x.drafts.items) view_is in omega arith

pub made_room : (t old : OverlayValue) → t ≡ old → (ds : List NodeDraft) (capacity : ℕ) → ds ≡ t.drafts.items → length t.blocks + t.room ≤ capacity → others_in old.drafts.items ≤ old.room → length t.blocks + others_in ds ≤ capacity
made_room t old view_is ds capacity same there is =
    let a : t.room ≡ old.room = ap (λ (x : OverlayValue). x.room) view_is in
    let b : others_in ds ≡ others_in old.drafts.items = ap others_in same ∙ ap (λ (x : OverlayValue). others_in x.drafts.items) view_is in omega arith

-- what was made is of the overlay
pub made_of : (t old : OverlayValue) → t ≡ old → (plan uses : List ℕ) (tables : List TableRecord) (m : MadeUnitValue) (ds : List NodeDraft) (n : ℕ) → m.drafts ≡ t.drafts → m.fresh ≡ take n m.blocks → n ≡ length t.blocks → ds ≡ t.drafts.items → AddsAll plan uses ds t.blocks m.blocks → m.tables ≡ tables → IsMadeOf plan uses old tables m
made_of t old view_is plan uses tables m ds n drafts_are data_is n_is same adds tables_are = subst (λ (x : OverlayValue). IsMadeOf plan uses x tables m) view_is (record {
  drafts_are = drafts_are;
  fresh_are = data_is ∙ data_first plan uses ds t.blocks m.blocks n n_is adds;
  adds = subst (λ xs. AddsAll plan uses xs t.blocks m.blocks) same adds;
  tables_are = tables_are;
})
