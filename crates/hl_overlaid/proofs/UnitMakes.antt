-- THE MAKING: the unit of an overlay changes the nodes of the last unit into those that the site has now.
use Rattle.std.proofs.Common.{◌≡◌, ◌≢◌, inl, inr, ℕ, ◌+◌, ◌-◌, ◌<◌, ◌≤◌, Bool, true, false, true≢false, not, ◌&&◌, List, [], ◌∷◌, ◌++◌, length, slice_get, Option, Some, None, refl, sym, ◌∙◌, ap, subst, arith}
use Rattle.std.specs.Prelude.{if◌then◌else◌, slice_index, Contains, map, option_map, unwrap_or, is_none, ◌==◌}
use Rattle.std.specs.List.{filter}
use Rattle.std.specs.FinMap.{get}
use Rattle.std.proofs.lemmas.Bool.{cases_lt}
use Rattle.std.proofs.lemmas.Bool.Decides.{eqb_tells}
use Rattle.std.proofs.lemmas.List.{get_or_default, length-map}
use Rattle.std.proofs.lemmas.List.FromFn.{length-map-range_with_len, get_or-map-range_with_len}
use Rattle.std.proofs.lemmas.Option.{slice_get_within, slice_get-get_or, slice_get-map}
use Rattle.hl_media.specs.History.{Image, MachineState}
use Rattle.hl_addr.specs.Layout.{Layout, IsWithinLimits}
use Rattle.hl_addr.specs.Slots.{slot_number}
use Rattle.hl_bytes.specs.declared.block.Block.{Block}
use Rattle.hl_bytes.specs.declared.records.BlockRecord.{BlockRecord}
use Rattle.hl_bytes.specs.declared.records.TableRecord.{TableRecord}
use Rattle.hl_log.specs.declared.piece.Piece.{Piece}
use Rattle.hl_log.specs.declared.position.Position.{Position}
use Rattle.hl_log.specs.Cut.{AreCut, addresses}
use Rattle.hl_log.specs.Units.{Brought}
use Rattle.hl_log.proofs.TwoPhases.{length-addresses}
use Rattle.hl_tseg.specs.SlotTable.{SlotTable, slot_at}
use Rattle.hl_tseg.specs.Slots.{HoldsSerial}
use Rattle.hl_inode.specs.declared.inode.Inode.{Inode}
use Rattle.hl_inode.specs.declared.inode.Kind.{Kind}
use Rattle.hl_inode.specs.Inodes.{Spells}
use Rattle.hl_inode.specs.Pointers.{pointers_of}
use Rattle.hl_placed.specs.Blocks as blocks
use Rattle.hl_placed.specs.Blocks.{Away, Here, blocks_of, file_block}
use Rattle.hl_paths.specs.Nodes.{FlatNode}
use Rattle.hl_overlay.specs.declared.pointers.Pointer.{Pointer}
use Rattle.hl_overlay.specs.declared.pointers.Pointer.TheVariants as place
use Rattle.hl_overlay.specs.declared.draft.NodeDraft.{NodeDraft}
use Rattle.hl_overlay.specs.declared.draft.Shape.{Shape}
use Rattle.hl_overlay.specs.Pointing.{IsAddressed, has_far, pointer_to, where_is}
use Rattle.hl_overlay.specs.Drafting.{IsDraft, blocks_of_shape, is_freed}
use Rattle.hl_overlay.specs.DraftTables.{draft_of, freed_of, freed_record}
use Rattle.hl_overlay.specs.Overlays.{new_bytes}
use Rattle.hl_overlay.specs.Making.{AddsPointerBlock, IsPointerBlockOf, resolved, shape_wanted, used_of}
use Rattle.hl_overlay.proofs.TableLemmas.{blocks_most, slice_get-append_end}
use Rattle.hl_overlay.proofs.TrimLemmas.{items_apart}
use Rattle.hl_overlay.proofs.MakingLemmas.{adds_all_front}
use Rattle.hl_image.specs.Places.{InLog}
use Rattle.hl_nodes.specs.Pointers.{HasPointerBlock, IsPointerBlock, pointer_in, pointer_of}
use Rattle.hl_nodes.specs.Blocks.{LiesAway, StandsFor}
use Rattle.hl_nodes.specs.Nodes.{IsMapEntry}
use Rattle.hl_nodes.specs.Live.{HasAddress, IsNodeBlock, record_of}
use Rattle.hl_nodes.specs.Live.NodeBlock.{Content, Own, Pointers}
use Rattle.hl_nodes.specs.Live.LiveBlock.{OfNode}
use Rattle.hl_nodes.specs.Contents.{Contents}
use Rattle.hl_nodes.specs.Units.{FreesOnce, TakesIn, unit_laid}
use Rattle.hl_nodes.specs.Fates.{BringsOnce, Changes, Fate, HasFate, IsLeftAlone, KeepsSlots, freed}
use Rattle.hl_nodes.specs.Fates.Fate.{Kept, Freed, Written}
use Rattle.hl_nodes.specs.Brings.{BringsBlock, BringsInode, BringsPointers, IsBrought}
use Rattle.hl_nodes.proofs.BringLaws.{brings_write, brought_there}
use Rattle.hl_log.proofs.Cuts.{cut_in_log}
use Rattle.hl_nodes.proofs.Lookups.{unit_laid-slots}
use Rattle.hl_nodes.proofs.Membership.{in_append}
use Rattle.hl_nodes.proofs.PointerLemmas.{in_log-some, pointer_in-same}
use Rattle.hl_nodes.proofs.Frame.{one_inode}
use Rattle.hl_nodes.proofs.UnitLaws.{limits, node_in_log}
use Rattle.hl_overlaid.specs.NodesNow.{Overlaid, block_now, draft_node, nodes_now, old_block, shaped_node}
use Rattle.hl_overlaid.specs.Over.{IsDraftOf}
use Rattle.hl_overlaid.specs.Units.{IsUnitNow, brought_by, unit_changes}
use Rattle.hl_overlaid.proofs.NowLemmas.{none_some, now_changed, now_drafted, now_past, now_zero, one}
use Rattle.hl_overlaid.proofs.UnitBlocks.{Brings, HasOnce, brings_of, filter_has, in_filter, in_front, in_map, map_at, map_has, once_of, own_of}
use Rattle.hl_overlaid.proofs.UnitTables.{append_has, changes-slots, filter_apart, frees_once_by, not_freeing}
use Rattle.hl_overlaid.proofs.FarPointers.{far_none, far_some, pointer_in_none, pointer_in_some, pointer_of_far, pointer_of_near, resolved-to}

-- what a draft that the unit is to have is
wanted_is : (d : NodeDraft) (shape : Shape) (b : Bool) → d.changed ≡ b → (if b then d.shape else None) ≡ Some shape → (d.changed ≡ true) × (d.shape ≡ Some shape)
wanted_is d shape true e is = (e, is)
wanted_is d shape false e is = absurd (none_some is)

freed_is : (d : NodeDraft) → is_freed d ≡ true → (d.changed ≡ true) × (d.shape ≡ None) × (d.own ≢ 4294967295)
freed_is d is = by d.changed d.shape (d.own == 4294967295) refl refl refl is
  where
    by : (a : Bool) (s : Option Shape) (b : Bool) → d.changed ≡ a → d.shape ≡ s → (d.own == 4294967295) ≡ b → (a && is_none s && not b) ≡ true → (d.changed ≡ true) × (d.shape ≡ None) × (d.own ≢ 4294967295)
    by true None false e f h t = (e, f, (λ own. true≢false (sym (own_true own) ∙ h)))
      where
        own_true : d.own ≡ 4294967295 → (d.own == 4294967295) ≡ true
        own_true own = elim (eqb_tells d.own 4294967295) [ inl y ↦ y.0 | inr n ↦ absurd (n.1 own) ]
    by true None true e f h t = absurd (true≢false (sym t))
    by true (Some s) b e f h t = absurd (true≢false (sym t))
    by false s b e f h t = absurd (true≢false (sym t))

module _ (g : Layout) (p : Position) (clean : List ℕ) (o : Overlaid) (notes : List TableRecord) (c : Contents) (bs : List (BlockRecord × Block)) (pieces : List Piece) (rest : List ℕ) (first : MachineState) (is : IsUnitNow g p clean o notes c bs pieces rest first) where
  abbrev u : Brought
  u = brought_by bs (unit_changes o.overlay notes)

  abbrev plan : List ℕ
  plan = addresses g pieces

  abbrev items : List NodeDraft
  items = o.overlay.drafts.items

  pub cut_is : AreCut g p.head clean (length u.records) (length u.changes) pieces rest
  cut_is = subst (λ n. AreCut g p.head clean n (length u.changes) pieces rest) (sym (length-map bs (λ (b : BlockRecord × Block). b.0))) is.are_cut

  pub size : length plan ≡ length u.records
  size = length-addresses g p.head clean (length u.records) (length u.changes) pieces rest cut_is

  in_log : (n : ℕ) → n < length u.records → InLog g (slice_index plan n)
  in_log n lt = cut_in_log g p.head clean (length u.records) (length u.changes) pieces rest is.rests.at_rest.head is.rests.at_rest.cleans cut_is (slice_index plan n) (n, omega (arith, size), get_or_default plan n (slice_index plan n) 0 (omega (arith, size)))

  within : IsWithinLimits g
  within = limits g p clean c first is.rests

  some : (address : ℕ) → InLog g address → address ≢ 4294967295
  some address at = in_log-some g within address at

  pub record_there : (n : ℕ) (b : BlockRecord × Block) → slice_get bs n ≡ Some b → n < length u.records
  record_there n b at = slice_get_within (map (λ (x : BlockRecord × Block). x.0) bs) n b.0 (slice_get-map (λ (x : BlockRecord × Block). x.0) bs n ∙ ap (option_map (λ (x : BlockRecord × Block). x.0)) at)

  brings_at : (n : ℕ) (b : BlockRecord × Block) (r : BlockRecord) → slice_get bs n ≡ Some b → b.0 ≡ r → IsBrought u plan r b.1.bytes (slice_index plan n)
  brings_at n b r at same = record {
    planned = record { index = n; there = record_there n b at; named = map_at (λ (x : BlockRecord × Block). x.0) bs n b r at ∙ same; lies = refl };
    holds = map_at (λ (x : BlockRecord × Block). x.1.bytes) bs n b [] at;
  }

  data_at : (n : ℕ) (b : BlockRecord × Block) → slice_get o.overlay.blocks n ≡ Some b → slice_get bs n ≡ Some b
  data_at n b at = (let front = adds_all_front plan o.uses items o.overlay.blocks bs is.adds in ap (λ xs. slice_get xs n) front.1 ∙ in_front o.overlay.blocks front.0 n b at)

  -- a draft stands where its number says
  placed_at : (k : ℕ) (d : NodeDraft) → slice_get items k ≡ Some d → draft_of o.overlay.drafts d.ino ≡ Some d
  placed_at k d at = ap (slice_get items) (is.whole.table.placed k d at).1 ∙ at

  -- an inode's own block is that of a draft that the unit is to have
  pub owner : (n : ℕ) (b : BlockRecord × Block) → slice_get bs n ≡ Some b → b.0.index ≡ 4294967295 → (d : NodeDraft) × (draft_of o.overlay.drafts d.ino ≡ Some d) × (d.ino ≡ b.0.ino) × (d.ino < length o.overlay.drafts.places) × ((s : Shape) × (shape_wanted d ≡ Some s))
  owner n b at own = elim (own_of plan o.uses items o.overlay.blocks bs is.adds n b at own) [
    | inl there ↦ (let few = is.whole.named.small n b there in let e = own in absurd (omega arith))
    | inr mine ↦ (mine.1, placed_at mine.0 mine.1 mine.2, mine.3, (is.whole.table.placed mine.0 mine.1 mine.2).0, mine.4)
  ]

  -- a change that frees a number is that of a draft
  freer : (r : TableRecord) → Contains u.changes r → r.kind ≡ 1 → (d : NodeDraft) × (draft_of o.overlay.drafts d.ino ≡ Some d) × (r ≡ freed_record d) × (is_freed d ≡ true)
  freer r i kind = elim (in_append (freed_of items) notes r i) [
    | inl here ↦ (
        let m = in_map freed_record (filter is_freed items) r here in
        let f = in_filter is_freed items m.0 m.1 m.2 in
        (m.1, placed_at f.0 m.1 f.1, sym m.3, f.2))
    | inr note ↦ absurd (not_freeing notes is.notes_are r note kind)
  ]

  -- the slots behind the unit are those that were noted
  pub slots_now : (unit_laid c.tables u plan).slots ≡ o.slots
  slots_now = unit_laid-slots c.tables u plan ∙ changes-slots c.tables (filter is_freed items) notes ∙ sym is.slots_are

  data_own : (i : ℕ) (a : BlockRecord × Block) → slice_get o.overlay.blocks i ≡ Some a → a.0.index ≡ 4294967295 → ⊥
  data_own i a at own = (let few = is.whole.named.small i a at in omega arith)

  once : HasOnce bs
  once = once_of plan o.uses items o.overlay.blocks bs is.adds (λ i j a b lt at_i at_j own_a own_b. absurd (data_own i a at_i own_a)) (λ k d at i a at_a own. absurd (data_own i a at_a own)) (items_apart o.overlay.drafts is.whole.table)

  pub brings_once : BringsOnce u.records
  brings_once i j d lt high own_i own_j same =
      let a = record_at i (omega arith) in
      let b = record_at j high in
      once i j a.0 b.0 lt a.1 b.1 (sym (ap (λ (r : BlockRecord). r.index) (map_at (λ (x : BlockRecord × Block). x.0) bs i a.0 d a.1)) ∙ own_i) (sym (ap (λ (r : BlockRecord). r.index) (map_at (λ (x : BlockRecord × Block). x.0) bs j b.0 d b.1)) ∙ own_j)
      (sym (ap (λ (r : BlockRecord). r.ino) (map_at (λ (x : BlockRecord × Block). x.0) bs i a.0 d a.1)) ∙ same ∙ ap (λ (r : BlockRecord). r.ino) (map_at (λ (x : BlockRecord × Block). x.0) bs j b.0 d b.1))
    where
      record_at : (n : ℕ) → n < length (map (λ (x : BlockRecord × Block). x.0) bs) → (b : BlockRecord × Block) × (slice_get bs n ≡ Some b)
      record_at n there = by (slice_get bs n) refl
        where
          by : (x : Option (BlockRecord × Block)) → slice_get bs n ≡ x → (b : BlockRecord × Block) × (slice_get bs n ≡ Some b)
          by (Some b) at = (b, at)
          by None at = absurd (none_some (sym (slice_get-map (λ (x : BlockRecord × Block). x.0) bs n ∙ ap (option_map (λ (x : BlockRecord × Block). x.0)) at) ∙ slice_get-get_or (map (λ (x : BlockRecord × Block). x.0) bs) n (record { ino = 0; index = 0 }) there))

  pub frees_others : (r : BlockRecord) (t : TableRecord) → Contains u.records r → Contains u.changes t → r.index ≡ 4294967295 → t.kind ≡ 1 → r.ino ≢ t.a
  frees_others r t in_r in_t own kind same =
      let m = in_map (λ (x : BlockRecord × Block). x.0) bs r in_r in
      let w = owner m.0 m.1 m.2 (ap (λ (x : BlockRecord). x.index) m.3 ∙ own) in
      let f = freer t in_t kind in
      let ino : w.0.ino ≡ f.0.ino = w.2 ∙ ap (λ (x : BlockRecord). x.ino) m.3 ∙ same ∙ ap (λ (x : TableRecord). x.a) f.2 in
      let drafts_same : w.0 ≡ f.0 = one w.1 (ap (draft_of o.overlay.drafts) ino ∙ f.1) in
      let x = wanted_is w.0 w.4.0 w.0.changed refl w.4.1 in
      none_some (sym (freed_is f.0 f.3).1 ∙ ap (λ (x : NodeDraft). x.shape) (sym drafts_same) ∙ x.1)

  pub frees_once : FreesOnce u.changes
  frees_once = frees_once_by (filter is_freed items) notes (filter_apart is_freed items (items_apart o.overlay.drafts is.whole.table)) is.notes_are

  -- where the unit says nothing of a node, it is left alone
  left_alone : (ino : ℕ) (now : Option FlatNode) → get (nodes_now o c.nodes) ino ≡ now → now ≡ get c.nodes ino → ((d : NodeDraft) → draft_of o.overlay.drafts ino ≡ Some d → (shape_wanted d ≡ None) × (is_freed d ≡ false)) → IsLeftAlone c u plan ino now
  left_alone ino now now_is same none = record {
    same = same;
    not_brought = λ r i own e. (
        let m = in_map (λ (x : BlockRecord × Block). x.0) bs r i in
        let w = owner m.0 m.1 m.2 (ap (λ (x : BlockRecord). x.index) m.3 ∙ own) in
        let at : draft_of o.overlay.drafts ino ≡ Some w.0 = ap (draft_of o.overlay.drafts) (sym (w.2 ∙ ap (λ (x : BlockRecord). x.ino) m.3 ∙ e)) ∙ w.1 in
        none_some (sym (none w.0 at).0 ∙ w.4.1));
    not_freed = λ r i kind e. (
        let f = freer r i kind in
        let at : draft_of o.overlay.drafts ino ≡ Some f.0 = ap (draft_of o.overlay.drafts) (sym (sym (ap (λ (x : TableRecord). x.a) f.2) ∙ e)) ∙ f.1 in
        true≢false (sym f.3 ∙ (none f.0 at).1));
    slots = λ old old_is. subst (λ (t : SlotTable). KeepsSlots c.tables.slots t old) (sym slots_now) (is.over.slots ino old (now_is ∙ same ∙ old_is));
  }

  -- a draft that the unit is to have
  module _ (ino : ℕ) (low : 1 ≤ ino) (high : ino < g.inodes) (d : NodeDraft) (at : draft_of o.overlay.drafts ino ≡ Some d) (shape : Shape) (want : shape_wanted d ≡ Some shape) where
    places : ino < length o.overlay.drafts.places
    places = subst (λ n. ino < n) (sym is.whole.numbers) high

    is_draft : IsDraft d
    is_draft = is.whole.table.drafts (slice_index o.overlay.drafts.places ino) d at

    number : d.ino ≡ ino
    number = is.whole.table.own ino d places at

    of : IsDraftOf g first.content c d
    of = is.over.drafts (slice_index o.overlay.drafts.places ino) d at

    wants : (d.changed ≡ true) × (d.shape ≡ Some shape)
    wants = wanted_is d shape d.changed refl want

    shape_is : d.shape ≡ Some shape
    shape_is = wants.1

    brings : Brings plan o.uses d shape o.overlay.blocks bs
    brings = brings_of plan o.uses items o.overlay.blocks bs is.adds (slice_index o.overlay.drafts.places ino) d shape at want

    abbrev value : Inode
    value = brings.adds.inode.value

    own_at : slice_get bs (length brings.adds.middle) ≡ Some (record { ino = d.ino; index = 4294967295 }, brings.adds.inode.block)
    own_at = ap (λ xs. slice_get xs (length brings.adds.middle)) (brings.is ∙ ap (λ xs. xs ++ brings.rest) brings.adds.inode.is)
        ∙ in_front (brings.adds.middle ++ (record { ino = d.ino; index = 4294967295 }, brings.adds.inode.block) ∷ []) brings.rest (length brings.adds.middle) (record { ino = d.ino; index = 4294967295 }, brings.adds.inode.block)
        (slice_get-append_end brings.adds.middle (record { ino = d.ino; index = 4294967295 }, brings.adds.inode.block))

    -- the pointer block is a block of the unit
    new_at : (block : Block) → brings.adds.middle ≡ brings.before ++ (record { ino = d.ino; index = 4294967294 }, block) ∷ [] → slice_get bs (length brings.before) ≡ Some (record { ino = d.ino; index = 4294967294 }, block)
    new_at block same = ap (λ xs. slice_get xs (length brings.before)) (brings.is ∙ ap (λ xs. xs ++ brings.rest) (brings.adds.inode.is ∙ ap (λ m. m ++ (record { ino = d.ino; index = 4294967295 }, brings.adds.inode.block) ∷ []) same))
        ∙ in_front ((brings.before ++ (record { ino = d.ino; index = 4294967294 }, block) ∷ []) ++ (record { ino = d.ino; index = 4294967295 }, brings.adds.inode.block) ∷ []) brings.rest (length brings.before) (record { ino = d.ino; index = 4294967294 }, block)
        (in_front (brings.before ++ (record { ino = d.ino; index = 4294967294 }, block) ∷ []) ((record { ino = d.ino; index = 4294967295 }, brings.adds.inode.block) ∷ []) (length brings.before) (record { ino = d.ino; index = 4294967294 }, block) (slice_get-append_end brings.before (record { ino = d.ino; index = 4294967294 }, block)))

    new_brought : (block : Block) → brings.adds.middle ≡ brings.before ++ (record { ino = d.ino; index = 4294967294 }, block) ∷ [] → IsBrought u plan (record_of ino Pointers) block.bytes (slice_index plan (length brings.before))
    new_brought block same = brings_at (length brings.before) (record { ino = d.ino; index = 4294967294 }, block) (record_of ino Pointers) (new_at block same) (ap (λ n. record { ino = n; index = 4294967294 }) number)

    -- where the pointer block lies
    data Lies : Type 0 where
      Nowhere : (near : has_far d.pointers ≡ false) (single_is : value.single ≡ 4294967295) → Lies
      There : (far : has_far d.pointers ≡ true) (some_is : d.single ≢ 4294967295) (single_is : value.single ≡ d.single) → Lies
      Anew : (far : has_far d.pointers ≡ true) (block : Block) (brought : IsBrought u plan (record_of ino Pointers) block.bytes value.single) (names : IsPointerBlockOf plan d block.bytes) → Lies

    lies : Lies
    lies = by brings.adds.pointer_block
      where
        single : value.single ≡ brings.adds.single
        single = brings.adds.inode.is_of.single_is

        by : AddsPointerBlock plan d brings.before brings.adds.middle brings.adds.single → Lies
        by (inl (same, single_is, there)) = far (has_far d.pointers) refl
          where
            far : (b : Bool) → has_far d.pointers ≡ b → Lies
            far true e = There e (there e) (single ∙ single_is ∙ ap (λ (b : Bool). if b then d.single else 4294967295) e)
            far false e = Nowhere e (single ∙ single_is ∙ ap (λ (b : Bool). if b then d.single else 4294967295) e)
        by (inr (far, gone, (block, same, single_is, names))) = Anew far block (subst (IsBrought u plan (record_of ino Pointers) block.bytes) (sym (single ∙ single_is)) (new_brought block same)) names

    live_single : d.single ≢ 4294967295 → IsNodeBlock g first.content c.tables ino Pointers d.single
    live_single some_is = subst (λ n. IsNodeBlock g first.content c.tables n Pointers d.single) number (of.single some_is)

    kept_at : (i addr : ℕ) → i < 1036 → where_is d.pointers i ≡ place.Kept addr → HasAddress g first.content c.tables ino (Content i) addr
    kept_at i addr small here = subst (λ n. HasAddress g first.content c.tables n (Content i) addr) number (of.kept i addr small here)

    single_by : Lies → BringsPointers g first.content c u plan ino value.single
    single_by (Nowhere near single_is) = inl single_is
    single_by (There far some_is single_is) = inr (inr (subst (IsNodeBlock g first.content c.tables ino Pointers) (sym single_is) (live_single some_is)))
    single_by (Anew far block brought names) = inr (inl (block.bytes, brought))

    -- a pointer that isn't a hole is somewhere
    resolved_some : (q : Pointer) (i : ℕ) → where_is d.pointers i ≡ q → q ≢ place.Hole → resolved plan q ≢ 4294967295
    resolved_some place.Hole i here ne = absurd (ne refl)
    resolved_some (place.Kept addr) i here ne = subst IsAddressed here (is_draft.addressed i)
    resolved_some (place.Moved addr serial position) i here ne = subst IsAddressed here (is_draft.addressed i)
    resolved_some (place.New n) i here ne = (let o = is.whole.named.named ino i n places (ap (option_map (λ (x : NodeDraft). where_is x.pointers i)) at ∙ ap Some here) in some (slice_index plan n) (in_log n (record_there n o.0 (data_at n o.0 o.1))))

    module _ (image : Image) (takes : TakesIn g first.content c u plan image) where
      kept_single : d.single ≢ 4294967295 → image d.single ≡ first.content d.single
      kept_single some_is = takes.kept d.single (record { block = OfNode ino Pointers; lies = live_single some_is })

      brought_single : (block : Block) → IsBrought u plan (record_of ino Pointers) block.bytes value.single → image value.single ≡ block.bytes
      brought_single block brought = brought_there g p clean c first is.rests u pieces rest cut_is image takes (record_of ino Pointers) block.bytes value.single brought

      single_in_log : (block : Block) → IsBrought u plan (record_of ino Pointers) block.bytes value.single → InLog g value.single
      single_in_log block brought = subst (InLog g) brought.planned.lies (in_log brought.planned.index brought.planned.there)

      far_by : Lies → (j : ℕ) → j < 1024 → pointer_in image value.single j ≡ resolved plan (where_is d.pointers (12 + j))
      far_by (Nowhere near single_is) j lt = ap (λ a. pointer_in image a j) single_is ∙ pointer_in_none image j ∙ sym (ap (resolved plan) (far_none d.pointers near j))
      far_by (There far some_is single_is) j lt =
          let less : (12 + j) - 12 ≡ j = omega arith in
          ap (λ a. pointer_in image a j) single_is ∙ pointer_in-same first.content image d.single j (λ ne. kept_single some_is)
          ∙ sym (ap (resolved plan) (of.names some_is (12 + j) (omega arith) (omega arith) ∙ ap (λ m. pointer_to (pointer_in first.content d.single m)) less) ∙ resolved-to plan (pointer_in first.content d.single j))
      far_by (Anew far block brought names) j lt = pointer_in_some image value.single j (some value.single (single_in_log block brought)) ∙ ap (λ l. slice_index (pointers_of l) j) (brought_single block brought) ∙ names.names j lt

      points : (i : ℕ) → i < 1036 → pointer_of image value i ≡ resolved plan (where_is d.pointers i)
      points i lt = elim (cases_lt i 12) [
        | inl near ↦ pointer_of_near image value i near ∙ brings.adds.inode.is_of.direct i near
        | inr far ↦ (let back : 12 + (i - 12) ≡ i = omega arith in pointer_of_far image value i far ∙ far_by lies (i - 12) (omega arith) ∙ ap (λ m. resolved plan (where_is d.pointers m)) back)
      ]

      -- a pointer block names a block
      names_some : has_far d.pointers ≡ true → InLog g value.single → IsPointerBlock g image value.size value.single 12
      names_some far in_log_is =
          let f = far_some d.pointers brings.adds.count far in
          record {
            in_log = in_log_is;
            named = f.0;
            named_low = f.1;
            names = (λ e. resolved_some (where_is d.pointers (12 + f.0)) (12 + f.0) refl f.2 (sym (far_by lies f.0 f.1) ∙ e));
            within = λ i lt from. far_by lies i lt ∙ ap (resolved plan) (is_draft.ends (12 + i) (subst (λ s. blocks_of_shape s ≤ 12 + i) (sym shape_is) (subst (λ n. blocks_of n ≤ 12 + i) brings.adds.inode.is_of.size from)) (omega arith));
          }

      has_by : Lies → HasPointerBlock g image value
      has_by (Nowhere near single_is) = inl single_is
      has_by (There far some_is single_is) = inr (names_some far (subst (InLog g) (sym single_is) (node_in_log g first.content c.tables ino Pointers d.single (live_single some_is))))
      has_by (Anew far block brought names) = inr (names_some far (single_in_log block brought))

    -- the node that the draft is
    abbrev node_new : FlatNode
    node_new = shaped_node (get c.nodes ino) o.overlay.blocks (slice_index o.uses ino) d.pointers shape

    drafted_is : draft_node o c.nodes d ≡ Some node_new
    drafted_is = ap (λ n. option_map (shaped_node (get c.nodes n) o.overlay.blocks (slice_index o.uses n) d.pointers) d.shape) number ∙ ap (option_map (shaped_node (get c.nodes ino) o.overlay.blocks (slice_index o.uses ino) d.pointers)) shape_is

    now_is : get (nodes_now o c.nodes) ino ≡ Some node_new
    now_is = now_changed o is.whole.table c.nodes ino d places at wants.0 ∙ drafted_is

    few : blocks_of shape.size ≤ 1036
    few = subst (λ s. blocks_of_shape s ≤ 1036) shape_is (blocks_most d is_draft)

    block_is : (i : ℕ) → i < blocks_of shape.size → file_block node_new.content i ≡ block_now (get c.nodes ino) o.overlay.blocks i (where_is d.pointers i)
    block_is i lt = get_or-map-range_with_len (λ j. block_now (get c.nodes ino) o.overlay.blocks j (where_is d.pointers j)) 0 (blocks_of shape.size) i i blocks.Hole lt (omega arith)

    kind_is : value.kind ≡ shape.kind
    kind_is = brings.adds.inode.is_of.kind

    -- a block that is kept is the one that the node had
    old_brings : (i addr : ℕ) → i < blocks_of shape.size → where_is d.pointers i ≡ place.Kept addr → BringsBlock g first.content c u plan ino value.kind i addr (old_block (get c.nodes ino) i)
    old_brings i addr small here = by_node (get c.nodes ino) refl (is.rests.has.nodes.entries ino low high)
      where
        had : HasAddress g first.content c.tables ino (Content i) addr
        had = kept_at i addr (let most = few in omega arith) here

        by_block : (node : FlatNode) → get c.nodes ino ≡ Some node → (kind : Kind) → node.kind ≡ kind → (b : blocks.Block) → file_block node.content i ≡ b → StandsFor g c.tables.slots first.content kind addr b → BringsBlock g first.content c u plan ino value.kind i addr b
        by_block node node_is kind of_kind blocks.Hole same stands = stands
        by_block node node_is kind of_kind (Here bytes) same stands = inr (record {
          lay = record { low = had.low; high = had.high; inode = had.inode; there = had.there; lies = (had.points.0, stands.0, had.points.2) };
          holds = stands.1;
        })
        by_block node node_is kind of_kind (Away serial position) same stands = (
          kind_is ∙ sym (of.kind i addr (let most = few in omega arith) here shape shape_is node (ap (get c.nodes) number ∙ node_is)) ∙ of_kind ∙ stands.0,
          record {
            volume = stands.1.volume;
            slot = stands.1.slot;
            place = stands.1.place;
            holds = subst (λ (t : SlotTable). HoldsSerial (slot_at t (slot_number g.volumes stands.1.volume stands.1.slot)) serial) (sym slots_now)
                (is.over.slots ino node_new now_is (slot_number g.volumes stands.1.volume stands.1.slot) i serial position
                (block_is i small ∙ ap (block_now (get c.nodes ino) o.overlay.blocks i) here ∙ ap (λ x. old_block x i) node_is ∙ same) stands.1.holds);
            low = stands.1.low;
            high = stands.1.high;
          },
        )

        by_node : (x : Option FlatNode) → get c.nodes ino ≡ x → IsMapEntry g c.tables.slots first.content ino (slice_index c.tables.inodes ino) x → BringsBlock g first.content c u plan ino value.kind i addr (old_block x i)
        by_node None node_is none = absurd (some (slice_index c.tables.inodes ino) had.there.in_log none)
        by_node (Some node) node_is entry =
            let same : entry.inode ≡ had.inode = one_inode (first.content (slice_index c.tables.inodes ino)) (first.content (slice_index c.tables.inodes ino)) entry.inode had.inode refl entry.there.spelled had.there.spelled in
            let lt : i < blocks_of entry.inode.size = subst (λ (x : Inode). i < blocks_of x.size) (sym same) had.points.0 in
            let addr_is : pointer_of first.content entry.inode i ≡ addr = ap (λ (x : Inode). pointer_of first.content x i) same ∙ had.points.2 in
            by_block node node_is entry.inode.kind entry.is.kind_is (file_block node.content i) refl (subst (λ a. StandsFor g c.tables.slots first.content entry.inode.kind a (file_block node.content i)) addr_is (entry.is.blocks i lt))

    block_by : (i : ℕ) → i < blocks_of shape.size → (q : Pointer) → where_is d.pointers i ≡ q → BringsBlock g first.content c u plan ino value.kind i (resolved plan q) (block_now (get c.nodes ino) o.overlay.blocks i q)
    block_by i small place.Hole here = refl
    block_by i small (place.Kept addr) here = old_brings i addr small here
    block_by i small (place.Moved addr serial position) here =
        let goes = is.over.away (slice_index o.overlay.drafts.places ino) d i addr serial position at (let most = few in omega arith) here in
        (kind_is ∙ goes.file shape shape_is, subst (λ (t : SlotTable). LiesAway g t addr serial position) (sym slots_now) goes.lies)
    block_by i small (place.New n) here =
        let b = is.whole.named.named ino i n places (ap (option_map (λ (x : NodeDraft). where_is x.pointers i)) at ∙ ap Some here) in
        let bytes : new_bytes o.overlay.blocks n ≡ b.0.1.bytes = ap (λ (x : Option (BlockRecord × Block)). unwrap_or (option_map (λ (b : BlockRecord × Block). b.1.bytes) x) []) b.1 in
        inl (subst (λ bytes. IsBrought u plan (record_of ino (Content i)) bytes (slice_index plan n)) (sym bytes) (brings_at n b.0 (record_of ino (Content i)) (data_at n b.0 b.1) b.2))

    size_is : value.size ≡ shape.size
    size_is = brings.adds.inode.is_of.size

    brings_inode : BringsInode g first.content c u plan ino (length brings.adds.middle) node_new
    brings_inode = record {
      there = record_there (length brings.adds.middle) (record { ino = d.ino; index = 4294967295 }, brings.adds.inode.block) own_at;
      own = map_at (λ (x : BlockRecord × Block). x.0) bs (length brings.adds.middle) (record { ino = d.ino; index = 4294967295 }, brings.adds.inode.block) (record_of ino Own) own_at ∙ ap (λ n. record { ino = n; index = 4294967295 }) number;
      inode = value;
      spelled = subst (λ l. Spells l value) (sym (map_at (λ (x : BlockRecord × Block). x.1.bytes) bs (length brings.adds.middle) (record { ino = d.ino; index = 4294967295 }, brings.adds.inode.block) [] own_at)) brings.adds.inode.spelled;
      number = brings.adds.inode.is_of.number ∙ number;
      kind_is = sym kind_is;
      size_is = sym size_is;
      used_is = ap (λ n. used_of shape.kind (slice_index o.uses n)) (sym number) ∙ sym brings.adds.inode.is_of.used_is;
      count = length-map-range_with_len (λ i. block_now (get c.nodes ino) o.overlay.blocks i (where_is d.pointers i)) 0 (blocks_of shape.size) ∙ ap blocks_of (sym size_is);
      single = single_by lies;
      pointers = λ image takes. has_by image takes lies;
      blocks = λ image takes i lt. (
          let lt' : i < blocks_of shape.size = subst (λ n. i < blocks_of n) size_is lt in
          let most = few in
          let small : i < 1036 = omega arith in
          subst (λ a. BringsBlock g first.content c u plan ino value.kind i a (file_block node_new.content i)) (sym (points image takes i small))
          (subst (λ b. BringsBlock g first.content c u plan ino value.kind i (resolved plan (where_is d.pointers i)) b) (sym (block_is i lt')) (block_by i lt' (where_is d.pointers i) refl)));
    }

    written : HasFate g first.content c u plan ino (Some node_new) (Written (length brings.adds.middle))
    written = brings_write g p clean c first is.rests u pieces rest cut_is ino (length brings.adds.middle) node_new brings_inode

  -- what becomes of each node
  fate_of : (ino : ℕ) → 1 ≤ ino → ino < g.inodes → (fate : Fate) × HasFate g first.content c u plan ino (get (nodes_now o c.nodes) ino) fate
  fate_of ino low high = by (draft_of o.overlay.drafts ino) refl
    where
      there : ino < length o.overlay.drafts.places
      there = subst (λ n. ino < n) (sym is.whole.numbers) high

      with : (x : Option FlatNode) → (get (nodes_now o c.nodes) ino) ≡ x → (fate : Fate) → HasFate g first.content c u plan ino x fate → (fate : Fate) × HasFate g first.content c u plan ino (get (nodes_now o c.nodes) ino) fate
      with x same fate has = (fate, subst (λ y. HasFate g first.content c u plan ino y fate) (sym same) has)

      by_draft : (d : NodeDraft) → draft_of o.overlay.drafts ino ≡ Some d → (b : Bool) (s : Option Shape) → d.changed ≡ b → d.shape ≡ s → (fate : Fate) × HasFate g first.content c u plan ino (get (nodes_now o c.nodes) ino) fate
      by_draft d at false s e f =
          let same : (get (nodes_now o c.nodes) ino) ≡ get c.nodes ino = now_drafted o is.whole.table c.nodes ino (Some d) there at ∙ ap (λ (b : Bool). if b then draft_node o c.nodes d else get c.nodes ino) e in
          with (get c.nodes ino) same Kept (left_alone ino (get c.nodes ino) same refl (λ x at_x. (let same : d ≡ x = one at at_x in (
            ap shape_wanted (sym same) ∙ ap (λ (b : Bool). if b then d.shape else None) e,
            ap is_freed (sym same) ∙ ap (λ (b : Bool). b && is_none d.shape && not (d.own == 4294967295)) e,
          ))))
      by_draft d at true (Some shape) e f =
          let want : shape_wanted d ≡ Some shape = ap (λ (b : Bool). if b then d.shape else None) e ∙ f in
          with (Some (node_new ino low high d at shape want)) (now_is ino low high d at shape want) (Written (length (brings ino low high d at shape want).adds.middle)) (written ino low high d at shape want)
      by_draft d at true None e f =
          let same : (get (nodes_now o c.nodes) ino) ≡ None = now_changed o is.whole.table c.nodes ino d there at e ∙ ap (option_map (shaped_node (get c.nodes d.ino) o.overlay.blocks (slice_index o.uses d.ino) d.pointers)) f in
          elim (eqb_tells d.own 4294967295) [
            | inl t ↦ with None same Kept (left_alone ino None same (unused t.1) (λ x at_x. (let same : d ≡ x = one at at_x in (
              ap shape_wanted (sym same) ∙ ap (λ (b : Bool). if b then d.shape else None) e ∙ f,
              ap is_freed (sym same) ∙ freed_by t.0,
            ))))
            | inr t ↦ with None same Freed (
              refl,
              append_has (freed_of items) notes (freed ino) (subst (λ n. Contains (freed_of items) (freed n)) (is.whole.table.own ino d there at)
                  (map_has freed_record (filter is_freed items) d (filter_has is_freed items (slice_index o.overlay.drafts.places ino) d at (freed_by t.0)))),
            )
          ]
        where
          freed_by : {b : Bool} → (d.own == 4294967295) ≡ b → is_freed d ≡ not b
          freed_by {b = b} own = ap (λ (x : Bool). x && is_none d.shape && not (d.own == 4294967295)) e ∙ ap (λ (s : Option Shape). is_none s && not (d.own == 4294967295)) f ∙ ap not own

          unused : d.own ≡ 4294967295 → None ≡ get c.nodes ino
          unused own = by_node (get c.nodes ino) (is.rests.has.nodes.entries ino low high)
            where
              by_node : (x : Option FlatNode) → IsMapEntry g c.tables.slots first.content ino (slice_index c.tables.inodes ino) x → None ≡ x
              by_node None entry = refl
              by_node (Some node) entry = absurd (some (slice_index c.tables.inodes ino) entry.there.in_log
                  (ap (slice_index c.tables.inodes) (sym (is.whole.table.own ino d there at)) ∙ sym (is.over.drafts (slice_index o.overlay.drafts.places ino) d at).own ∙ own))

      by : (x : Option NodeDraft) → draft_of o.overlay.drafts ino ≡ x → (fate : Fate) × HasFate g first.content c u plan ino (get (nodes_now o c.nodes) ino) fate
      by None at = (let same : (get (nodes_now o c.nodes) ino) ≡ get c.nodes ino = now_drafted o is.whole.table c.nodes ino None there at in with (get c.nodes ino) same Kept (left_alone ino (get c.nodes ino) same refl (λ x at_x. absurd (none_some (sym at ∙ at_x)))))
      by (Some d) at = by_draft d at d.changed d.shape refl refl

  -- THE MAKING: the unit changes the contents into the nodes that the site has now
  pub makes_now : Changes g first.content c u plan (nodes_now o c.nodes)
  makes_now = record {
    brings_once = brings_once;
    frees_others = frees_others;
    frees_once = frees_once;
    fates = fate_of;
    zero = now_zero o is.whole.table c.nodes is.rests.has.nodes.zero;
    past = λ ino ge. now_past o is.whole.table c.nodes ino (subst (λ n. n ≤ ino) (sym is.whole.numbers) ge) ∙ is.rests.has.nodes.past ino ge;
  }
