-- An overlay when a draft comes or changes.
use Rattle.std.proofs.Common.{◌≡◌, ◌≢◌, ◌⊎◌, inl, inr, ℕ, ◌+◌, ◌<◌, List, [], ◌∷◌, ◌++◌, length, get_or, slice_get, slice_index, slice_set, Bool, false, Option, Some, None, refl, sym, ◌∙◌, ap, subst, arith}
use Rattle.std.specs.Prelude.{option_map, unwrap_or, nat_le, if◌then◌else◌}
use Rattle.std.proofs.lemmas.Bool.{cases_eq, cases_lt}
use Rattle.std.proofs.lemmas.Option.{slice_get_within, slice_get_read}
use Rattle.std.proofs.lemmas.List.{get_or-set_same, get_or-set_other, get_or_past}
use Rattle.hl_bytes.specs.declared.block.Block.{Block}
use Rattle.hl_bytes.specs.declared.records.BlockRecord.{BlockRecord}
use Rattle.hl_overlay.specs.declared.pointers.Pointer.{Pointer}
use Rattle.hl_overlay.specs.declared.pointers.Pointer.TheVariants.{Hole, Kept, Moved, New}
use Rattle.hl_overlay.specs.declared.draft.NodeDraft.{NodeDraft}
use Rattle.hl_overlay.specs.declared.draft.Shape.{Shape}
use Rattle.hl_overlay.specs.Pointing.{IsNotNew, IsUnwritten, where_is}
use Rattle.hl_overlay.specs.Drafting.{IsDraft, blocks_of_shape, with_pointer, with_shape}
use Rattle.hl_overlay.specs.DraftTables.{DraftTable, HasBlock, IsDraftTable, Redrafts, Trims, draft_of}
use Rattle.hl_overlay.proofs.DraftLemmas.{unchanged_written}
use Rattle.hl_overlay.specs.Overlays.{AreNamed, AreNamedBut, DropsBlock, IsDraftBlock, IsOverlay, KeepsDrafts, OverlayValue, Points, PutsBlock, WritesOver, holding_of, where_in, without_pointers}
use Rattle.hl_overlay.specs.Overlays.Holding.{Fresh}
use Rattle.hl_overlay.proofs.NamedLemmas.{ChangesOne, Drops, kept_at, named_but, named_last, named_moved, named_still, named_behind, named_over, same_place, no_place, one_value}
use Rattle.hl_overlay.proofs.TableLemmas.{slice_get-set_same, slice_get-set_other, slice_get-append_left, slice_get-append_end}
use Rattle.std.proofs.lemmas.Bool.Decides.{leb_tells}

-- one pointer changes
pub pointed_one : (old new : DraftTable) (ino i : ℕ) (p : Pointer) (d : NodeDraft) → Redrafts old new ino (with_pointer d i p) → draft_of old ino ≡ Some d → i < length d.pointers → ChangesOne (length old.places) (where_in old) (where_in new) ino i p
pointed_one old new ino i p d redrafts is within = record {
  here = ap (option_map (λ (x : NodeDraft). where_is x.pointers i)) redrafts.drafted ∙ ap Some (get_or-set_same d.pointers i p Hole within);
  others = λ q j lt differ. by q j lt differ (cases_eq q ino);
}
  where
    by : (q j : ℕ) → q < length old.places → (q ≢ ino) ⊎ (j ≢ i) → (q ≡ ino) ⊎ (q ≡ ino → ⊥) → where_in new q j ≡ where_in old q j
    by q j lt (inl ne) side = ap (option_map (λ (x : NodeDraft). where_is x.pointers j)) (redrafts.others q lt ne)
    by q j lt (inr ne) (inr other) = ap (option_map (λ (x : NodeDraft). where_is x.pointers j)) (redrafts.others q lt other)
    by q j lt (inr ne) (inl same) =
        ap (λ x. where_in new x j) same ∙ ap (option_map (λ (x : NodeDraft). where_is x.pointers j)) redrafts.drafted ∙ ap Some (get_or-set_other d.pointers i j p Hole ne)
        ∙ sym (ap (option_map (λ (x : NodeDraft). where_is x.pointers j)) is) ∙ ap (λ x. where_in old x j) (sym same)

some_hole : {n : ℕ} → Hole ≡ New n → ⊥
some_hole e = cc

none_new : {n : ℕ} → None ≡ Some (New n) → ⊥
none_new e = cc

-- a draft without a new block comes
pub admitted_named : (old new : DraftTable) (blocks : List (BlockRecord × Block)) (d : NodeDraft) → Redrafts old new d.ino d → draft_of old d.ino ≡ None → IsDraft d → d.changed ≡ false → AreNamed (length old.places) (where_in old) blocks → AreNamed (length new.places) (where_in new) blocks
admitted_named old new blocks d redrafts none is unchanged are = subst (λ n. AreNamed n (where_in new) blocks) (sym redrafts.numbers) (named_still (length old.places) (where_in old) (where_in new) blocks are
    (λ q j n lt at. elim (cases_eq q d.ino) [
      | inl same ↦ absurd (no_new j n (sym (one_value (sym (ap (option_map (λ (x : NodeDraft). where_is x.pointers j)) (ap (draft_of new) same ∙ redrafts.drafted)) ∙ at) refl)))
      | inr ne ↦ sym (ap (option_map (λ (x : NodeDraft). where_is x.pointers j)) (redrafts.others q lt ne)) ∙ at
    ])
    (λ q j n lt at. elim (cases_eq q d.ino) [
      | inl same ↦ absurd (none_new (sym (ap (option_map (λ (x : NodeDraft). where_is x.pointers j)) (ap (draft_of old) same ∙ none)) ∙ at))
      | inr ne ↦ ap (option_map (λ (x : NodeDraft). where_is x.pointers j)) (redrafts.others q lt ne) ∙ at
    ]))
  where
    no_new : (j n : ℕ) → where_is d.pointers j ≡ New n → ⊥
    no_new j n new = unchanged_written d is unchanged j (subst IsUnwritten (sym new) tt)

-- a draft gets another shape
pub shaped_named : (old new : DraftTable) (blocks : List (BlockRecord × Block)) (ino : ℕ) (d : NodeDraft) (shape : Option Shape) → Redrafts old new ino (with_shape d shape) → draft_of old ino ≡ Some d → AreNamed (length old.places) (where_in old) blocks → AreNamed (length new.places) (where_in new) blocks
shaped_named old new blocks ino d shape redrafts is are = subst (λ n. AreNamed n (where_in new) blocks) (sym redrafts.numbers)
    (named_still (length old.places) (where_in old) (where_in new) blocks are (λ q j n lt at. sym (same q j lt) ∙ at) (λ q j n lt at. same q j lt ∙ at))
  where
    same : (q j : ℕ) → q < length old.places → where_in new q j ≡ where_in old q j
    same q j lt = elim (cases_eq q ino) [
      | inl e ↦ ap (option_map (λ (x : NodeDraft). where_is x.pointers j)) (ap (draft_of new) e ∙ redrafts.drafted) ∙ sym (ap (option_map (λ (x : NodeDraft). where_is x.pointers j)) (ap (draft_of old) e ∙ is))
      | inr ne ↦ ap (option_map (λ (x : NodeDraft). where_is x.pointers j)) (redrafts.others q lt ne)
    ]

-- where a block of a draft that was found is
pub pointer_found : (t : DraftTable) (ino i : ℕ) (d : NodeDraft) → Some d ≡ draft_of t ino → where_in t ino i ≡ Some (where_is d.pointers i)
pointer_found t ino i d found = ap (option_map (λ (x : NodeDraft). where_is x.pointers i)) (sym found)

-- a pointer to a new block names one
pub named_within : (numbers : ℕ) (at : ℕ → ℕ → Option Pointer) (blocks : List (BlockRecord × Block)) → AreNamed numbers at blocks → (ino i n : ℕ) → ino < numbers → at ino i ≡ Some (New n) → n < length blocks
named_within numbers at blocks are ino i n lt is = let b = are.named ino i n lt is in slice_get_within blocks n b.0 b.1

-- what stands where a new block is named
pub fresh_at : (t : DraftTable) (blocks : List (BlockRecord × Block)) (ino i n : ℕ) (b : BlockRecord × Block) → where_in t ino i ≡ Some (New n) → n < length blocks → b ≡ get_or blocks n b → option_map (holding_of blocks) (where_in t ino i) ≡ Some (Fresh b.1.bytes)
fresh_at t blocks ino i n b at lt is = ap (option_map (holding_of blocks)) at ∙ ap (λ o. Some (Fresh (unwrap_or (option_map (λ (x : BlockRecord × Block). x.1.bytes) o) []))) (slice_get_read blocks (length blocks) n b refl lt is)

-- what stands at a pointer, where the blocks that it may name are the same
pub holding_same : (blocks blocks' : List (BlockRecord × Block)) (o : Option Pointer) → ((m : ℕ) → o ≡ Some (New m) → slice_get blocks' m ≡ slice_get blocks m) → option_map (holding_of blocks') o ≡ option_map (holding_of blocks) o
holding_same blocks blocks' None same = refl
holding_same blocks blocks' (Some Hole) same = refl
holding_same blocks blocks' (Some (Kept addr)) same = refl
holding_same blocks blocks' (Some (Moved addr serial position)) same = refl
holding_same blocks blocks' (Some (New m)) same = ap (λ o. Some (Fresh (unwrap_or (option_map (λ (x : BlockRecord × Block). x.1.bytes) o) []))) (same m refl)

-- a draft with a new block has the head that it would get
head_stays : (d : NodeDraft) (i n : ℕ) → IsDraft d → where_is d.pointers i ≡ New n → without_pointers d ≡ without_pointers (with_pointer d i Hole)
head_stays d i n is at = elim (leb_tells 12 i) [
  | inl t ↦ ap (λ (s : ℕ). record d { pointers = []; single = s }) (is.far i t.1 (subst IsUnwritten (sym at) tt) ∙ sym (ap (λ (b : Bool). if b then 4294967295 else d.single) t.0)) ∙ ap (λ (b : Bool). record d { pointers = []; single = if nat_le 12 i then 4294967295 else d.single; changed = b }) (is.changed i (subst IsUnwritten (sym at) tt))
  | inr t ↦ ap (λ (s : ℕ). record d { pointers = []; single = s }) (sym (ap (λ (b : Bool). if b then 4294967295 else d.single) t.0)) ∙ ap (λ (b : Bool). record d { pointers = []; single = if nat_le 12 i then 4294967295 else d.single; changed = b }) (is.changed i (subst IsUnwritten (sym at) tt))
]

-- where one draft was pointed elsewhere, no other changes
pub heads_same : (old new : OverlayValue) (ino i : ℕ) (p : Pointer) (d : NodeDraft) → Redrafts old.drafts new.drafts ino (with_pointer d i p) → draft_of old.drafts ino ≡ Some d → KeepsDrafts old new ino i
heads_same old new ino i p d redrafts is = record {
  others = λ q lt ne. ap (option_map without_pointers) (redrafts.others q lt ne);
  own = ap (option_map without_pointers) redrafts.drafted ∙ sym (ap (option_map (λ (x : NodeDraft). without_pointers (with_pointer x i Hole))) is);
}

-- bytes come into a block of a draft that wasn't new
pub appended : (old : OverlayValue) (drafts : DraftTable) (room ino i : ℕ) (block : Block) (d : NodeDraft) → IsOverlay old → ino < length old.drafts.places → draft_of old.drafts ino ≡ Some d → i < length d.pointers → i < 1036
    → ((n : ℕ) → where_in old.drafts ino i ≢ Some (New n)) → Redrafts old.drafts drafts ino (with_pointer d i (New (length old.blocks)))
    → let new : OverlayValue = record { drafts = drafts; blocks = old.blocks ++ (record { ino = ino; index = i }, block) ∷ []; room = room } in IsOverlay new × PutsBlock old new ino i (Fresh block.bytes) × KeepsDrafts old new ino i
appended old drafts room ino i block d are low is within few other redrafts = (
  subst (λ n. AreNamed n (where_in drafts) (old.blocks ++ (record { ino = ino; index = i }, block) ∷ [])) (sym redrafts.numbers) (named_behind (length old.drafts.places) (where_in old.drafts) (where_in drafts) old.blocks are ino i block low few other one),
  record {
    here = ap (option_map (holding_of (old.blocks ++ (record { ino = ino; index = i }, block) ∷ []))) one.here
        ∙ ap (λ o. Some (Fresh (unwrap_or (option_map (λ (x : BlockRecord × Block). x.1.bytes) o) []))) (slice_get-append_end old.blocks (record { ino = ino; index = i }, block));
    others = λ q j lt differ. ap (option_map (holding_of (old.blocks ++ (record { ino = ino; index = i }, block) ∷ []))) (one.others q j lt differ)
        ∙ holding_same old.blocks (old.blocks ++ (record { ino = ino; index = i }, block) ∷ []) (where_in old.drafts q j) (λ m at. slice_get-append_left old.blocks (record { ino = ino; index = i }, block) m (named_within (length old.drafts.places) (where_in old.drafts) old.blocks are q j m lt at));
    numbers = redrafts.numbers;
  },
  heads_same old (record { drafts = drafts; blocks = old.blocks ++ (record { ino = ino; index = i }, block) ∷ []; room = room }) ino i (New (length old.blocks)) d redrafts is,
)
  where
    one : ChangesOne (length old.drafts.places) (where_in old.drafts) (where_in drafts) ino i (New (length old.blocks))
    one = pointed_one old.drafts drafts ino i (New (length old.blocks)) d redrafts is within

-- a new block is written over
pub written_over : (old : OverlayValue) (room n : ℕ) (block : BlockRecord × Block) (bytes : List ℕ) → IsOverlay old → slice_get old.blocks n ≡ Some block → AreNamed (length old.drafts.places) (where_in old.drafts) (slice_set old.blocks n (block.0, record { bytes = bytes }))
written_over old room n block bytes are was = named_over (length old.drafts.places) (where_in old.drafts) (where_in old.drafts) old.blocks are n block (block.0, record { bytes = bytes }) was refl (λ q j. refl)

-- bytes come into a block that was new
pub put_over : (old new : OverlayValue) (ino i n : ℕ) (bytes : List ℕ) (d : NodeDraft) → IsOverlay old → ino < length old.drafts.places → draft_of old.drafts ino ≡ Some d → IsDraft d → where_in old.drafts ino i ≡ Some (New n) → WritesOver old new n bytes
    → PutsBlock old new ino i (Fresh bytes) × KeepsDrafts old new ino i
put_over old new ino i n bytes d are low is draft at over = (
  subst (λ (x : OverlayValue). PutsBlock old x ino i (Fresh bytes)) (sym over.is) (record {
    here = ap (option_map (holding_of (slice_set old.blocks n (over.block.0, record { bytes = bytes })))) at
        ∙ ap (λ o. Some (Fresh (unwrap_or (option_map (λ (x : BlockRecord × Block). x.1.bytes) o) []))) (slice_get-set_same old.blocks n (over.block.0, record { bytes = bytes }) (slice_get_within old.blocks n over.block over.was));
    others = λ q j lt differ. holding_same old.blocks (slice_set old.blocks n (over.block.0, record { bytes = bytes })) (where_in old.drafts q j) (λ m here. slice_get-set_other old.blocks n m (over.block.0, record { bytes = bytes }) (apart q j m lt here differ));
    numbers = refl;
  }),
  subst (λ (x : OverlayValue). KeepsDrafts old x ino i) (sym over.is) (record {
    others = λ q lt ne. refl;
    own = ap (option_map without_pointers) is ∙ ap Some (head_stays d i n draft (sym (one_value (sym (ap (option_map (λ (x : NodeDraft). where_is x.pointers i)) is) ∙ at) refl))) ∙ sym (ap (option_map (λ (x : NodeDraft). without_pointers (with_pointer x i Hole))) is);
  }),
)
  where
    apart : (q j m : ℕ) → q < length old.drafts.places → where_in old.drafts q j ≡ Some (New m) → (q ≢ ino) ⊎ (j ≢ i) → m ≢ n
    apart q j m lt here differ same =
        let a = are.named q j m lt here in
        let b = are.named ino i n low at in
        let blocks_same : a.0 ≡ b.0 = one_value a.1 (ap (slice_get old.blocks) same ∙ b.1) in
        let records_same : record { ino = q; index = j } ≡ record { ino = ino; index = i } = sym a.2 ∙ ap (λ (x : BlockRecord × Block). x.0) blocks_same ∙ b.2 in
        no_place (ap (λ (x : BlockRecord). x.ino) records_same) (ap (λ (x : BlockRecord). x.index) records_same) differ

-- the same of an overlay that was opened
pub appended_in : (t old new : OverlayValue) → t ≡ old → (ino i n : ℕ) (block : Block) (bytes : List ℕ) (d : NodeDraft) → block.bytes ≡ bytes → IsOverlay t → ino < length old.drafts.places → draft_of old.drafts ino ≡ Some d → i < length d.pointers → i < 1036
    → ((m : ℕ) → where_in old.drafts ino i ≢ Some (New m)) → n ≡ length t.blocks → Redrafts t.drafts new.drafts ino (with_pointer d i (New n)) → new.blocks ≡ t.blocks ++ (record { ino = ino; index = i }, block) ∷ [] → IsOverlay new × PutsBlock old new ino i (Fresh bytes) × KeepsDrafts old new ino i
appended_in t old new view_is ino i n block bytes d bytes_are are low is within few other n_is redrafts blocks_are =
    let at : draft_of t.drafts ino ≡ Some d = subst (λ (x : OverlayValue). draft_of x.drafts ino ≡ Some d) (sym view_is) is in
    let low' : ino < length t.drafts.places = subst (λ (x : OverlayValue). ino < length x.drafts.places) (sym view_is) low in
    let other' : (m : ℕ) → where_in t.drafts ino i ≢ Some (New m) = subst (λ (x : OverlayValue). (m : ℕ) → where_in x.drafts ino i ≢ Some (New m)) (sym view_is) other in
    let redrafts' : Redrafts t.drafts new.drafts ino (with_pointer d i (New (length t.blocks))) = subst (λ m. Redrafts t.drafts new.drafts ino (with_pointer d i (New m))) n_is redrafts in
    let done = appended t new.drafts new.room ino i block d are low' at within few other' redrafts' in
    let new_is : record { drafts = new.drafts; blocks = t.blocks ++ (record { ino = ino; index = i }, block) ∷ []; room = new.room } ≡ new = ap (λ bs. record { drafts = new.drafts; blocks = bs; room = new.room }) (sym blocks_are) in (
      subst IsOverlay new_is done.0,
      subst (λ bs. PutsBlock old new ino i (Fresh bs)) bytes_are (subst (λ (x : OverlayValue). PutsBlock x new ino i (Fresh block.bytes)) view_is (subst (λ (x : OverlayValue). PutsBlock t x ino i (Fresh block.bytes)) new_is done.1)),
      subst (λ (x : OverlayValue). KeepsDrafts x new ino i) view_is (subst (λ (x : OverlayValue). KeepsDrafts t x ino i) new_is done.2),
    )

-- a new block was written over in an overlay that was opened
pub writes_over_in : (t old new : OverlayValue) → t ≡ old → (n : ℕ) (block : BlockRecord × Block) (bytes : List ℕ) → slice_get t.blocks n ≡ Some block → new.drafts ≡ t.drafts → new.blocks ≡ slice_set t.blocks n (block.0, record { bytes = bytes }) → new.room + 1 ≡ t.room → WritesOver old new n bytes
writes_over_in t old new view_is n block bytes was drafts_are blocks_are room_is = subst (λ (x : OverlayValue). WritesOver x new n bytes) view_is (record {
  block = block;
  was = was;
  is = ap (λ ds. record { drafts = ds; blocks = new.blocks; room = new.room }) drafts_are ∙ ap (λ bs. record { drafts = t.drafts; blocks = bs; room = new.room }) blocks_are;
  room = room_is;
})

-- the last new block is dropped
pub dropped_last : (old : DraftTable) (blocks left : List (BlockRecord × Block)) (n : ℕ) → AreNamedBut n (length old.places) (where_in old) blocks → Drops blocks left n → n ≡ length left → DropsBlock old old blocks left
dropped_last old blocks left n are drops last = record {
  named = named_last n (length old.places) (where_in old) (where_in old) blocks left are drops last;
  stays = λ q j lt. holding_same blocks left (where_in old q j) (λ m at. kept_at n (length old.places) (where_in old) (where_in old) blocks left are drops q j m lt at (λ e. (are.named q j m lt at).0 (e ∙ sym last)));
  heads = λ q lt. refl;
  numbers = refl;
}

-- the draft whose block is new
pub drafted_new : (t : DraftTable) (ino i n : ℕ) → where_in t ino i ≡ Some (New n) → (d : NodeDraft) × (draft_of t ino ≡ Some d) × (where_is d.pointers i ≡ New n)
drafted_new t ino i n at = by (draft_of t ino) refl at
  where
    by : (o : Option NodeDraft) → draft_of t ino ≡ o → option_map (λ (d : NodeDraft). where_is d.pointers i) o ≡ Some (New n) → (d : NodeDraft) × (draft_of t ino ≡ Some d) × (where_is d.pointers i ≡ New n)
    by None is e = absurd (none_new e)
    by (Some d) is e = (d, is, one_value (sym e) refl)

-- its size reaches the block
pub has_block : (t : DraftTable) (ino i n : ℕ) → IsDraftTable t → i < 1036 → where_in t ino i ≡ Some (New n) → HasBlock t ino i
has_block t ino i n table few at =
    let d = drafted_new t ino i n at in
    record { draft = d.0; is = d.1; within = reaches d.0 (table.drafts (slice_index t.places ino) d.0 d.1) d.2 }
  where
    reaches : (d : NodeDraft) → IsDraft d → where_is d.pointers i ≡ New n → i < blocks_of_shape d.shape
    reaches d is new = elim (cases_lt i (blocks_of_shape d.shape)) [ inl lt ↦ lt | inr ge ↦ absurd (some_hole (sym (is.ends i ge few) ∙ new)) ]

-- whose the last new block is, which has taken the place
pub moved_owner : (old : DraftTable) (blocks left : List (BlockRecord × Block)) (n : ℕ) (last : BlockRecord × Block) → AreNamedBut n (length old.places) (where_in old) blocks → Drops blocks left n → n < length left → slice_get left n ≡ Some last
    → (last.0.ino < length old.places) × (where_in old last.0.ino last.0.index ≡ Some (New (length left))) × (last.0.index < 1036)
moved_owner old blocks left n last are drops lt_n is =
    let was : slice_get blocks (length left) ≡ Some last = sym (drops.moved lt_n) ∙ is in
    let o = are.owned (length left) last was (λ e. (let h : length left ≡ n = e in omega arith)) in
    (o.0, o.1, are.small (length left) last was)

-- a block that is dropped leaves its place to the last one
pub dropped_moved : (old new : DraftTable) (blocks left : List (BlockRecord × Block)) (n : ℕ) (last : BlockRecord × Block) → IsDraftTable old → AreNamedBut n (length old.places) (where_in old) blocks → Drops blocks left n → n < length left → slice_get left n ≡ Some last
    → ((d : NodeDraft) → draft_of old last.0.ino ≡ Some d → Redrafts old new last.0.ino (with_pointer d last.0.index (New n))) → DropsBlock old new blocks left
dropped_moved old new blocks left n last table are drops lt_n is point = record {
  named = subst (λ m. AreNamed m (where_in new) left) (sym redrafts.numbers) (named_moved n (length old.places) (where_in old) (where_in new) blocks left are drops last lt_n is one);
  stays = λ q j lt. elim (same_place q j last.0.ino last.0.index) [
    | inl same ↦ ap (λ x. option_map (holding_of left) (where_in new x j)) same.0 ∙ ap (λ x. option_map (holding_of left) (where_in new last.0.ino x)) same.1 ∙ stays_here
        ∙ sym (ap (λ x. option_map (holding_of blocks) (where_in old x j)) same.0 ∙ ap (λ x. option_map (holding_of blocks) (where_in old last.0.ino x)) same.1)
    | inr differ ↦ ap (option_map (holding_of left)) (one.others q j lt differ) ∙ holding_same blocks left (where_in old q j) (λ m at. kept_at n (length old.places) (where_in old) (where_in new) blocks left are drops q j m lt at (not_last q j m lt at differ))
  ];
  heads = λ q lt. elim (cases_eq q last.0.ino) [
    | inl e ↦ ap (λ x. option_map without_pointers (draft_of new x)) e ∙ ap (option_map without_pointers) redrafts.drafted ∙ ap Some (sym (head_stays found.0 last.0.index (length left) (table.drafts (slice_index old.places last.0.ino) found.0 found.1) found.2)) ∙ sym (ap (λ x. option_map without_pointers (draft_of old x)) e ∙ ap (option_map without_pointers) found.1)
    | inr ne ↦ ap (option_map without_pointers) (redrafts.others q lt ne)
  ];
  numbers = redrafts.numbers;
}
  where
    was : slice_get blocks (length left) ≡ Some last
    was = sym (drops.moved lt_n) ∙ is

    apart_n : length left ≢ n
    apart_n e = (let h : length left ≡ n = e in omega arith)

    mine : (last.0.ino < length old.places) × (where_in old last.0.ino last.0.index ≡ Some (New (length left)))
    mine = are.owned (length left) last was apart_n

    found : (d : NodeDraft) × (draft_of old last.0.ino ≡ Some d) × (where_is d.pointers last.0.index ≡ New (length left))
    found = drafted_new old last.0.ino last.0.index (length left) mine.1

    redrafts : Redrafts old new last.0.ino (with_pointer found.0 last.0.index (New n))
    redrafts = point found.0 found.1

    within : last.0.index < length found.0.pointers
    within = elim (cases_lt last.0.index (length found.0.pointers)) [ inl lt ↦ lt | inr ge ↦ absurd (some_hole (sym (get_or_past found.0.pointers last.0.index Hole ge) ∙ found.2)) ]

    one : ChangesOne (length old.places) (where_in old) (where_in new) last.0.ino last.0.index (New n)
    one = pointed_one old new last.0.ino last.0.index (New n) found.0 redrafts found.1 within

    bytes_moved : Some (Fresh (unwrap_or (option_map (λ (x : BlockRecord × Block). x.1.bytes) (slice_get left n)) [])) ≡ Some (Fresh (unwrap_or (option_map (λ (x : BlockRecord × Block). x.1.bytes) (slice_get blocks (length left))) []))
    bytes_moved = ap (λ o. Some (Fresh (unwrap_or (option_map (λ (x : BlockRecord × Block). x.1.bytes) o) []))) (drops.moved lt_n)

    stays_here : option_map (holding_of left) (where_in new last.0.ino last.0.index) ≡ option_map (holding_of blocks) (where_in old last.0.ino last.0.index)
    stays_here = ap (option_map (holding_of left)) one.here ∙ bytes_moved ∙ sym (ap (option_map (holding_of blocks)) mine.1)

    not_last : (q j m : ℕ) → q < length old.places → where_in old q j ≡ Some (New m) → (q ≢ last.0.ino) ⊎ (j ≢ last.0.index) → m ≢ length left
    not_last q j m lt at differ e =
        let o = are.named q j m lt at in
        let same : o.1.0 ≡ last = one_value o.1.1 (ap (slice_get blocks) e ∙ was) in
        let records : record { ino = q; index = j } ≡ last.0 = sym o.1.2 ∙ ap (λ (x : BlockRecord × Block). x.0) same in
        no_place (ap (λ (x : BlockRecord). x.ino) records) (ap (λ (x : BlockRecord). x.index) records) differ

-- a block of a drafted node has a pointer
pub within_pointers : (t : DraftTable) (ino i : ℕ) (d : NodeDraft) → IsDraftBlock t ino i → draft_of t ino ≡ Some d → i < length d.pointers
within_pointers t ino i d facts is = (let count = (facts d is).1 in let small = (facts d is).2 in omega arith)

-- what stands at a pointer that names no new block
pub holding_old : (blocks : List (BlockRecord × Block)) (p : Pointer) → IsNotNew p → holding_of blocks p ≡ holding_of [] p
holding_old blocks Hole old = refl
holding_old blocks (Kept addr) old = refl
holding_old blocks (Moved addr serial position) old = refl
holding_old blocks (New n) old = absurd (old n refl)

-- a block that wasn't new is elsewhere
pub replaced_old : (old : OverlayValue) (drafts : DraftTable) (room ino i : ℕ) (p : Pointer) (d : NodeDraft) → IsNotNew p → IsOverlay old → ino < length old.drafts.places → draft_of old.drafts ino ≡ Some d → i < length d.pointers
    → ((n : ℕ) → where_in old.drafts ino i ≢ Some (New n)) → Redrafts old.drafts drafts ino (with_pointer d i p)
    → let new : OverlayValue = record { drafts = drafts; blocks = old.blocks; room = room } in IsOverlay new × PutsBlock old new ino i (holding_of [] p) × KeepsDrafts old new ino i
replaced_old old drafts room ino i p d not_new are low is within other redrafts = (
  subst (λ n. AreNamed n (where_in drafts) old.blocks) (sym redrafts.numbers) (named_still (length old.drafts.places) (where_in old.drafts) (where_in drafts) old.blocks are
      (λ q j n lt at. elim (same_place q j ino i) [
        | inl same ↦ absurd (not_new n (one_value (ap (λ x. where_in drafts x j) same.0 ∙ ap (where_in drafts ino) same.1 ∙ one.here) at))
        | inr differ ↦ sym (one.others q j lt differ) ∙ at
      ])
      (λ q j n lt at. elim (same_place q j ino i) [
        | inl same ↦ absurd (other n (sym (ap (λ x. where_in old.drafts x j) same.0 ∙ ap (where_in old.drafts ino) same.1) ∙ at))
        | inr differ ↦ one.others q j lt differ ∙ at
      ])),
  record {
    here = ap (option_map (holding_of old.blocks)) one.here ∙ ap Some (holding_old old.blocks p not_new);
    others = λ q j lt differ. ap (option_map (holding_of old.blocks)) (one.others q j lt differ);
    numbers = redrafts.numbers;
  },
  heads_same old (record { drafts = drafts; blocks = old.blocks; room = room }) ino i p d redrafts is,
)
  where
    one : ChangesOne (length old.drafts.places) (where_in old.drafts) (where_in drafts) ino i p
    one = pointed_one old.drafts drafts ino i p d redrafts is within

-- a block that was new is elsewhere, before its bytes are dropped
pub replaced_but : (old : OverlayValue) (drafts : DraftTable) (ino i n : ℕ) (p : Pointer) (d : NodeDraft) → IsNotNew p → IsOverlay old → ino < length old.drafts.places → draft_of old.drafts ino ≡ Some d → i < length d.pointers
    → where_in old.drafts ino i ≡ Some (New n) → Redrafts old.drafts drafts ino (with_pointer d i p) → AreNamedBut n (length drafts.places) (where_in drafts) old.blocks
replaced_but old drafts ino i n p d not_new are low is within at redrafts = subst (λ m. AreNamedBut n m (where_in drafts) old.blocks) (sym redrafts.numbers)
    (named_but (length old.drafts.places) (where_in old.drafts) (where_in drafts) old.blocks are ino i n p not_new low at (pointed_one old.drafts drafts ino i p d redrafts is within))

-- and when they are dropped
pub replaced_new : (old : OverlayValue) (middle drafts : DraftTable) (left : List (BlockRecord × Block)) (room ino i : ℕ) (p : Pointer) (d : NodeDraft) → IsNotNew p → ino < length old.drafts.places → draft_of old.drafts ino ≡ Some d → i < length d.pointers
    → Redrafts old.drafts middle ino (with_pointer d i p) → DropsBlock middle drafts old.blocks left
    → let new : OverlayValue = record { drafts = drafts; blocks = left; room = room } in IsOverlay new × PutsBlock old new ino i (holding_of [] p) × KeepsDrafts old new ino i
replaced_new old middle drafts left room ino i p d not_new low is within redrafts drops = (
  drops.named,
  record {
    here = drops.stays ino i (in_middle ino low) ∙ ap (option_map (holding_of old.blocks)) one.here ∙ ap Some (holding_old old.blocks p not_new);
    others = λ q j lt differ. drops.stays q j (in_middle q lt) ∙ ap (option_map (holding_of old.blocks)) (one.others q j lt differ);
    numbers = drops.numbers ∙ redrafts.numbers;
  },
  record {
    others = λ q lt ne. drops.heads q (in_middle q lt) ∙ ap (option_map without_pointers) (redrafts.others q lt ne);
    own = drops.heads ino (in_middle ino low) ∙ (heads_same old (record { drafts = middle; blocks = old.blocks; room = room }) ino i p d redrafts is).own;
  },
)
  where
    in_middle : (q : ℕ) → q < length old.drafts.places → q < length middle.places
    in_middle q lt = subst (λ m. q < m) (sym redrafts.numbers) lt

    one : ChangesOne (length old.drafts.places) (where_in old.drafts) (where_in middle) ino i p
    one = pointed_one old.drafts middle ino i p d redrafts is within

-- the same of an overlay that was opened
pub replaced_old_in : (t old : OverlayValue) → t ≡ old → (drafts : DraftTable) (ino i : ℕ) (p : Pointer) (d : NodeDraft) → IsNotNew p → IsOverlay t → ino < length old.drafts.places → draft_of old.drafts ino ≡ Some d → i < length d.pointers
    → ((n : ℕ) → where_in old.drafts ino i ≢ Some (New n)) → Points t.drafts drafts ino i p
    → let new : OverlayValue = record { drafts = drafts; blocks = t.blocks; room = t.room } in IsOverlay new × PutsBlock old new ino i (holding_of [] p) × KeepsDrafts old new ino i
replaced_old_in t old view_is drafts ino i p d not_new are low is within other moved =
    let P : OverlayValue → Type 0 = λ (x : OverlayValue). ino < length x.drafts.places → draft_of x.drafts ino ≡ Some d → ((n : ℕ) → where_in x.drafts ino i ≢ Some (New n))
    → IsOverlay (record { drafts = drafts; blocks = t.blocks; room = t.room }) × PutsBlock x (record { drafts = drafts; blocks = t.blocks; room = t.room }) ino i (holding_of [] p) × KeepsDrafts x (record { drafts = drafts; blocks = t.blocks; room = t.room }) ino i in
    subst P view_is (λ low' is' other'. replaced_old t drafts t.room ino i p d not_new are low' is' within other' (moved d is')) low is other

pub replaced_but_in : (t old : OverlayValue) → t ≡ old → (drafts : DraftTable) (ino i n : ℕ) (p : Pointer) (d : NodeDraft) → IsNotNew p → IsOverlay t → ino < length old.drafts.places → draft_of old.drafts ino ≡ Some d → i < length d.pointers
    → where_in old.drafts ino i ≡ Some (New n) → Points t.drafts drafts ino i p → AreNamedBut n (length drafts.places) (where_in drafts) t.blocks
replaced_but_in t old view_is drafts ino i n p d not_new are low is within at moved =
    let P : OverlayValue → Type 0 = λ (x : OverlayValue). ino < length x.drafts.places → draft_of x.drafts ino ≡ Some d → where_in x.drafts ino i ≡ Some (New n) → AreNamedBut n (length drafts.places) (where_in drafts) t.blocks in
    subst P view_is (λ low' is' at'. replaced_but t drafts ino i n p d not_new are low' is' within at' (moved d is')) low is at

pub replaced_new_in : (t old : OverlayValue) → t ≡ old → (middle drafts : DraftTable) (left : List (BlockRecord × Block)) (ino i : ℕ) (p : Pointer) (d : NodeDraft) → IsNotNew p → ino < length old.drafts.places → draft_of old.drafts ino ≡ Some d → i < length d.pointers
    → Points t.drafts middle ino i p → DropsBlock middle drafts t.blocks left
    → let new : OverlayValue = record { drafts = drafts; blocks = left; room = t.room } in IsOverlay new × PutsBlock old new ino i (holding_of [] p) × KeepsDrafts old new ino i
replaced_new_in t old view_is middle drafts left ino i p d not_new low is within moved drops =
    let P : OverlayValue → Type 0 = λ (x : OverlayValue). ino < length x.drafts.places → draft_of x.drafts ino ≡ Some d
    → IsOverlay (record { drafts = drafts; blocks = left; room = t.room }) × PutsBlock x (record { drafts = drafts; blocks = left; room = t.room }) ino i (holding_of [] p) × KeepsDrafts x (record { drafts = drafts; blocks = left; room = t.room }) ino i in
    subst P view_is (λ low' is'. replaced_new t middle drafts left t.room ino i p d not_new low' is' within (moved d is') drops) low is

-- the new blocks are named where drafts that aren't changed are gone
pub trimmed_named : (most : ℕ) (old new : DraftTable) (blocks : List (BlockRecord × Block)) → IsDraftTable old → Trims most old new → AreNamed (length old.places) (where_in old) blocks → AreNamed (length new.places) (where_in new) blocks
trimmed_named most old new blocks table trims are = subst (λ n. AreNamed n (where_in new) blocks) (sym trims.numbers) (named_still (length old.places) (where_in old) (where_in new) blocks are
    (λ q j n lt at. (let d = drafted_new new q j n at in ap (option_map (λ (x : NodeDraft). where_is x.pointers j)) (trims.only q d.0 lt d.1) ∙ ap Some d.2))
    (λ q j n lt at. (
    let d = drafted_new old q j n at in
    let changed = (table.drafts (slice_index old.places q) d.0 d.1).changed j (subst IsUnwritten (sym d.2) tt) in
    ap (option_map (λ (x : NodeDraft). where_is x.pointers j)) (trims.changed q d.0 lt d.1 changed) ∙ ap Some d.2)))
