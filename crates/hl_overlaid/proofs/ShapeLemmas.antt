-- A drafted node gets another shape.
use Rattle.std.proofs.Common.{◌≡◌, ◌≢◌, ◌⊎◌, inl, inr, ℕ, ◌<◌, ◌≤◌, true≢false, length, slice_get, Option, Some, None, refl, sym, ◌∙◌, ap, subst, arith}
use Rattle.std.specs.Prelude.{slice_index, option_map}
use Rattle.std.specs.FinMap.{get}
use Rattle.std.proofs.lemmas.Bool.{cases_eq, cases_lt}
use Rattle.std.proofs.lemmas.List.{ext_get_or, get_or_past}
use Rattle.std.proofs.lemmas.List.FromFn.{length-map-range_with_len, get_or-map-range_with_len}
use Rattle.hl_media.specs.History.{Image}
use Rattle.hl_addr.specs.Layout.{Layout}
use Rattle.hl_tseg.specs.SlotTable.{SlotTable, slot_at}
use Rattle.hl_tseg.specs.Slots.{HoldsSerial}
use Rattle.hl_placed.specs.Blocks.{Away, Block, blocks_of, file_block, listed}
use Rattle.hl_placed.specs.Blocks as blocks
use Rattle.hl_paths.specs.Nodes.{FlatNode}
use Rattle.hl_overlay.specs.declared.pointers.Pointer.{Pointer}
use Rattle.hl_overlay.specs.declared.pointers.Pointer.TheVariants.{Kept, Moved}
use Rattle.hl_overlay.specs.declared.draft.NodeDraft.{NodeDraft}
use Rattle.hl_overlay.specs.declared.draft.Shape.{Shape}
use Rattle.hl_overlay.specs.Pointing.{where_is}
use Rattle.hl_overlay.specs.Drafting.{IsDraft, blocks_of_shape, with_shape}
use Rattle.hl_overlay.specs.DraftTables.{Redrafts, draft_of}
use Rattle.hl_overlay.specs.Making.{used_of}
use Rattle.hl_overlay.proofs.TableLemmas.{blocks_most}
use Rattle.hl_nodes.specs.Contents.{Contents}
use Rattle.hl_nodes.specs.Fates.{KeepsSlots}
use Rattle.hl_overlaid.specs.NodesNow.{Overlaid, block_now, nodes_now, old_block, shaped_node, with_node}
use Rattle.hl_overlaid.specs.Over.{GoesInto, IsDraftOf, IsOver}
use Rattle.hl_overlaid.specs.Changes.{IsOwnPointer, KeepsKind, ShapesNow, reshaped}
use Rattle.hl_overlaid.proofs.NowLemmas.{none_some, now_changed, one}
use Rattle.hl_overlaid.proofs.DraftBlocks.{now_block}
use Rattle.hl_overlaid.proofs.Following.{Follows, of_following, same_node, same_now, same_past, same_undrafted}
use Rattle.hl_overlaid.proofs.PutLemmas.{with_one}

module _ (g : Layout) (image : Image) (c : Contents) (old new : Overlaid) (ino : ℕ) (shape : Option Shape) (is : ShapesNow g image c old new ino shape) where
  redrafts : Redrafts old.overlay.drafts new.overlay.drafts ino (with_shape is.can.draft shape)
  redrafts = is.shapes is.can.draft is.can.is

  places : ino < length old.overlay.drafts.places
  places = subst (λ n. ino < n) (sym is.change.before.numbers) is.number

  places' : ino < length new.overlay.drafts.places
  places' = subst (λ n. ino < n) (sym redrafts.numbers) places

  number : is.can.draft.ino ≡ ino
  number = is.change.before.table.own ino is.can.draft places is.can.is

  was_draft : IsDraft is.can.draft
  was_draft = is.change.before.table.drafts (slice_index old.overlay.drafts.places ino) is.can.draft is.can.is

  is_draft : IsDraft (with_shape is.can.draft shape)
  is_draft = is.change.after.table.drafts (slice_index new.overlay.drafts.places ino) (with_shape is.can.draft shape) redrafts.drafted

  -- the node of another number stays
  node_stays : (q : ℕ) → q ≢ ino → get (nodes_now new c.nodes) q ≡ get (nodes_now old c.nodes) q
  node_stays q ne = elim (cases_lt q (length old.overlay.drafts.places)) [
    | inl lt ↦ by lt (draft_of old.overlay.drafts q) refl
    | inr ge ↦ same_past old new is.change.before.table is.change.after.table c.nodes q ge redrafts.numbers
  ]
    where
      by : q < length old.overlay.drafts.places → (x : Option NodeDraft) → draft_of old.overlay.drafts q ≡ x → get (nodes_now new c.nodes) q ≡ get (nodes_now old c.nodes) q
      by lt None none = same_undrafted old new is.change.before.table is.change.after.table c.nodes q lt redrafts.numbers none (redrafts.others q lt ne ∙ none)
      by lt (Some d) at =
          let own : d.ino ≡ q = is.change.before.table.own q d lt at in
          same_now old new is.change.before.table is.change.after.table c.nodes q d d lt redrafts.numbers at (redrafts.others q lt ne ∙ at) (record {
            changed = refl;
            node = λ changed. same_node old new c.nodes d d refl refl (is.uses d.ino (λ same. ne (sym own ∙ same))) (λ j. ap (λ bs. block_now (get c.nodes d.ino) bs j (where_is d.pointers j)) is.blocks);
          })

  -- the rows of a node of the shape
  rows : (s : Shape) → shape ≡ Some s → listed (blocks_of s.size) (λ j. block_now (get c.nodes ino) new.overlay.blocks j (where_is is.can.draft.pointers j)) ≡ listed (blocks_of s.size) (old_block (get (nodes_now old c.nodes) ino))
  rows s s_is =
      let a = length-map-range_with_len (λ j. block_now (get c.nodes ino) new.overlay.blocks j (where_is is.can.draft.pointers j)) 0 (blocks_of s.size) in
      let b = length-map-range_with_len (old_block (get (nodes_now old c.nodes) ino)) 0 (blocks_of s.size) in
      ext_get_or blocks.Hole (listed (blocks_of s.size) (λ j. block_now (get c.nodes ino) new.overlay.blocks j (where_is is.can.draft.pointers j))) (listed (blocks_of s.size) (old_block (get (nodes_now old c.nodes) ino))) (a ∙ sym b) (λ k lt. (
      let low : k < blocks_of s.size = subst (λ n. k < n) a lt in
      get_or-map-range_with_len (λ j. block_now (get c.nodes ino) new.overlay.blocks j (where_is is.can.draft.pointers j)) 0 (blocks_of s.size) k k blocks.Hole low (omega arith)
      ∙ ap (λ bs. block_now (get c.nodes ino) bs k (where_is is.can.draft.pointers k)) is.blocks
      ∙ now_block g image c old is.change.has is.change.before is.change.over ino is.number is.can.draft is.can.is k (few k low)
      ∙ sym (get_or-map-range_with_len (old_block (get (nodes_now old c.nodes) ino)) 0 (blocks_of s.size) k k blocks.Hole low (omega arith))))
    where
      few : (k : ℕ) → k < blocks_of s.size → k < 1036
      few k low = (let most : blocks_of_shape (Some s) ≤ 1036 = subst (λ x. blocks_of_shape x ≤ 1036) s_is (blocks_most (with_shape is.can.draft shape) is_draft) in omega arith)

  -- the node of the number is of the shape
  shaped_own : get (nodes_now new c.nodes) ino ≡ option_map (reshaped (get (nodes_now old c.nodes) ino) (slice_index new.uses ino)) shape
  shaped_own =
      now_changed new is.change.after.table c.nodes ino (with_shape is.can.draft shape) places' redrafts.drafted refl
      ∙ ap (λ k. option_map (shaped_node (get c.nodes k) new.overlay.blocks (slice_index new.uses k) is.can.draft.pointers) shape) number
      ∙ by shape refl
    where
      by : (x : Option Shape) → shape ≡ x → option_map (shaped_node (get c.nodes ino) new.overlay.blocks (slice_index new.uses ino) is.can.draft.pointers) x ≡ option_map (reshaped (get (nodes_now old c.nodes) ino) (slice_index new.uses ino)) x
      by None e = refl
      by (Some s) e = ap (λ l. Some (record { kind = s.kind; content = record { size = s.size; used = used_of s.kind (slice_index new.uses ino); blocks = l } })) (rows s e)

  -- A SHAPE IS SET: the nodes now are those before with a node of the shape, or without the node
  pub shaped_now : nodes_now new c.nodes ≡ with_node (nodes_now old c.nodes) ino (option_map (reshaped (get (nodes_now old c.nodes) ino) (slice_index new.uses ino)) shape)
  shaped_now = with_one old new c ino (option_map (reshaped (get (nodes_now old c.nodes) ino) (slice_index new.uses ino)) shape) shaped_own node_stays

  -- a block of the disk that the draft has keeps its kind
  kind_stays : (j : ℕ) → j < 1036 → (IsOwnPointer (where_is is.can.draft.pointers j) → ⊥) → (s : Shape) → shape ≡ Some s → (t : Shape) × (is.can.draft.shape ≡ Some t) × (t.kind ≡ s.kind)
  kind_stays j lt other s s_is = by is.can.draft.shape refl (is.kind is.can.draft is.can.is)
    where
      by : (x : Option Shape) → is.can.draft.shape ≡ x → KeepsKind is.can.draft shape → (t : Shape) × (is.can.draft.shape ≡ Some t) × (t.kind ≡ s.kind)
      by x e (inl own) = absurd (other (own j lt))
      by None e (inr keeps) = absurd (other (subst IsOwnPointer (sym (was_draft.ends j (subst (λ y. blocks_of_shape y ≤ j) (sym e) (omega arith)) lt)) tt))
      by (Some t) e (inr keeps) = (t, e, sym (keeps t e s s_is))

  not_kept : {q : Pointer} {addr : ℕ} → q ≡ Kept addr → IsOwnPointer q → ⊥
  not_kept e own = subst IsOwnPointer e own

  not_moved : {q : Pointer} {addr serial position : ℕ} → q ≡ Moved addr serial position → IsOwnPointer q → ⊥
  not_moved e own = subst IsOwnPointer e own

  follows_own : Follows is.can.draft (with_shape is.can.draft shape)
  follows_own = record {
    ino = refl;
    own = refl;
    kept = λ j addr here. here;
    kind = λ j addr lt here s s_is. kind_stays j lt (not_kept here) s s_is;
    single = λ some. refl;
    names = λ some j low high x named. named;
    unchanged = λ still. absurd (true≢false still);
    shape = λ still. absurd (true≢false still);
    pointers = λ still. refl;
    holes = λ still j here. here;
  }

  -- each draft is the one that was there, or the one of the shape
  from : (k : ℕ) (e : NodeDraft) → slice_get new.overlay.drafts.items k ≡ Some e → (slice_get old.overlay.drafts.items (slice_index old.overlay.drafts.places e.ino) ≡ Some e) ⊎ (with_shape is.can.draft shape ≡ e)
  from k e at_k = elim (cases_eq e.ino ino) [
    | inl same ↦ inr (one redrafts.drafted (ap (draft_of new.overlay.drafts) (sym same) ∙ at_e))
    | inr ne ↦ inl (sym (redrafts.others e.ino lt ne) ∙ at_e)
  ]
    where
      at_e : draft_of new.overlay.drafts e.ino ≡ Some e
      at_e = ap (slice_get new.overlay.drafts.items) (is.change.after.table.placed k e at_k).1 ∙ at_k

      lt : e.ino < length old.overlay.drafts.places
      lt = subst (λ n. e.ino < n) redrafts.numbers (is.change.after.table.placed k e at_k).0

  drafts : (k : ℕ) (e : NodeDraft) → slice_get new.overlay.drafts.items k ≡ Some e → IsDraftOf g image c e
  drafts k e at_k = elim (from k e at_k) [
    | inl was ↦ is.change.over.drafts (slice_index old.overlay.drafts.places e.ino) e was
    | inr mine ↦ subst (IsDraftOf g image c) mine (of_following g image c is.can.draft (with_shape is.can.draft shape) follows_own (is.change.over.drafts (slice_index old.overlay.drafts.places ino) is.can.draft is.can.is))
  ]

  away : (k : ℕ) (e : NodeDraft) (j addr serial position : ℕ) → slice_get new.overlay.drafts.items k ≡ Some e → j < 1036 → where_is e.pointers j ≡ Moved addr serial position → GoesInto g new.slots e addr serial position
  away k e j addr serial position at_k lt here = subst (λ (t : SlotTable). GoesInto g t e addr serial position) (sym is.change.slots) (elim (from k e at_k) [
    | inl was ↦ is.change.over.away (slice_index old.overlay.drafts.places e.ino) e j addr serial position was lt here
    | inr mine ↦ subst (λ x. GoesInto g old.slots x addr serial position) mine (own (ap (λ (x : NodeDraft). where_is x.pointers j) mine ∙ here))
  ])
    where
      own : where_is is.can.draft.pointers j ≡ Moved addr serial position → GoesInto g old.slots (with_shape is.can.draft shape) addr serial position
      own there =
          let goes = is.change.over.away (slice_index old.overlay.drafts.places ino) is.can.draft j addr serial position is.can.is lt there in
          record { file = λ s s_is. (let t = kind_stays j lt (not_moved there) s s_is in sym t.2 ∙ goes.file t.0 t.1); lies = goes.lies }

  keeps : (q : ℕ) (node : FlatNode) → get (nodes_now new c.nodes) q ≡ Some node → KeepsSlots c.tables.slots new.slots node
  keeps q node node_is = subst (λ (t : SlotTable). KeepsSlots c.tables.slots t node) (sym is.change.slots) (elim (cases_eq q ino) [
    | inl same ↦ own shape refl (sym shaped_own ∙ ap (get (nodes_now new c.nodes)) (sym same) ∙ node_is)
    | inr ne ↦ is.change.over.slots q node (sym (node_stays q ne) ∙ node_is)
  ])
    where
      was : (x : Option FlatNode) → get (nodes_now old c.nodes) ino ≡ x → (number j serial position : ℕ) → old_block x j ≡ Away serial position → HoldsSerial (slot_at c.tables.slots number) serial → HoldsSerial (slot_at old.slots number) serial
      was None e number j serial position here holds = absurd (hole here)
        where
          hole : {s p : ℕ} → blocks.Hole ≡ Away s p → ⊥
          hole e = cc
      was (Some n) e number j serial position here holds = is.change.over.slots ino n e number j serial position here holds

      own : (x : Option Shape) → shape ≡ x → option_map (reshaped (get (nodes_now old c.nodes) ino) (slice_index new.uses ino)) x ≡ Some node → KeepsSlots c.tables.slots old.slots node
      own None e at number j serial position here holds = absurd (none_some at)
      own (Some s) e at number j serial position here holds =
          let same : reshaped (get (nodes_now old c.nodes) ino) (slice_index new.uses ino) s ≡ node = one refl at in
          let mine : file_block (reshaped (get (nodes_now old c.nodes) ino) (slice_index new.uses ino) s).content j ≡ Away serial position = ap (λ (x : FlatNode). file_block x.content j) same ∙ here in
          elim (cases_lt j (blocks_of s.size)) [
            | inl lt ↦ was (get (nodes_now old c.nodes) ino) refl number j serial position (sym (get_or-map-range_with_len (old_block (get (nodes_now old c.nodes) ino)) 0 (blocks_of s.size) j j blocks.Hole lt (omega arith)) ∙ mine) holds
            | inr ge ↦ absurd (hole (sym (get_or_past (listed (blocks_of s.size) (old_block (get (nodes_now old c.nodes) ino))) j blocks.Hole (let n = length-map-range_with_len (old_block (get (nodes_now old c.nodes) ino)) 0 (blocks_of s.size) in omega arith)) ∙ mine))
          ]
        where
          hole : {s p : ℕ} → blocks.Hole ≡ Away s p → ⊥
          hole e = cc

  pub shaped_over : IsOver g new image c
  shaped_over = record { drafts = drafts; away = away; slots = keeps }
