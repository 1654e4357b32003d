-- A number is used at another moment, and slots are noted.
use Rattle.std.proofs.Common.{◌≡◌, ◌≢◌, inl, inr, ℕ, ◌<◌, ◌≤◌, Bool, true, false, true≢false, List, length, Option, Some, None, refl, sym, ◌∙◌, ap, subst, arith}
use Rattle.std.specs.Prelude.{slice_get, slice_index, option_map}
use Rattle.std.specs.FinMap.{get}
use Rattle.std.proofs.lemmas.Bool.{cases_eq, cases_lt}
use Rattle.std.proofs.lemmas.List.FromFn.{get_or-map-range_with_len}
use Rattle.hl_media.specs.History.{Image}
use Rattle.hl_addr.specs.Layout.{Layout}
use Rattle.hl_addr.specs.Slots.{slot_number}
use Rattle.hl_tseg.specs.SlotTable.{SlotTable}
use Rattle.hl_placed.specs.Blocks.{Away, blocks_of, file_block}
use Rattle.hl_placed.specs.Blocks as blocks
use Rattle.hl_paths.specs.Nodes.{FlatNode, Nodes}
use Rattle.hl_overlay.specs.declared.pointers.Pointer.TheVariants.{Hole, Moved}
use Rattle.hl_overlay.specs.declared.draft.NodeDraft.{NodeDraft}
use Rattle.hl_overlay.specs.declared.draft.Shape.{Shape}
use Rattle.hl_overlay.specs.Pointing.{IsUnwritten, where_is}
use Rattle.hl_overlay.specs.Drafting.{IsDraft, blocks_of_shape}
use Rattle.hl_overlay.specs.DraftTables.{draft_of}
use Rattle.hl_nodes.specs.Contents.{Contents}
use Rattle.hl_nodes.specs.Fates.{KeepsSlots}
use Rattle.hl_overlaid.specs.NodesNow.{IsOverlaid, Overlaid, block_now, draft_node, nodes_now, shaped_node, with_node}
use Rattle.hl_overlaid.specs.Over.{IsOver}
use Rattle.hl_overlaid.specs.Changes.{HasNoChangedDraft, IsChangedDraft, KeepsAllSlots, KeepsOtherUses, node_used, with_slot_table, with_uses}
use Rattle.hl_overlaid.proofs.NowLemmas.{none_some, now_changed, one, same_nodes}
use Rattle.hl_overlaid.proofs.Following.{same_node, same_now, same_past, same_undrafted}
use Rattle.hl_overlaid.proofs.PutLemmas.{mapped, with_one}

hole_moved : {addr serial position : ℕ} → Hole ≡ Moved addr serial position → ⊥
hole_moved e = cc

module _ (g : Layout) (o : Overlaid) (whole : IsOverlaid g o) (uses : List ℕ) (ino : ℕ) (others : KeepsOtherUses o.uses uses ino) (last : Nodes) where
  -- a number that is used when it was, or has no changed draft, keeps its node
  stays : (q : ℕ) → ((d : NodeDraft) → draft_of o.overlay.drafts q ≡ Some d → d.changed ≡ true → q ≢ ino) → get (nodes_now (with_uses o uses) last) q ≡ get (nodes_now o last) q
  stays q other = elim (cases_lt q (length o.overlay.drafts.places)) [
    | inl lt ↦ by lt (draft_of o.overlay.drafts q) refl
    | inr ge ↦ same_past o (with_uses o uses) whole.table whole.table last q ge refl
  ]
    where
      by : q < length o.overlay.drafts.places → (x : Option NodeDraft) → draft_of o.overlay.drafts q ≡ x → get (nodes_now (with_uses o uses) last) q ≡ get (nodes_now o last) q
      by lt None none = same_undrafted o (with_uses o uses) whole.table whole.table last q lt refl none none
      by lt (Some d) at = same_now o (with_uses o uses) whole.table whole.table last q d d lt refl at at (record {
        changed = refl;
        node = λ changed. same_node o (with_uses o uses) last d d refl refl (others d.ino (λ same. other d at changed (sym (whole.table.own q d lt at) ∙ same))) (λ j. refl);
      })

  -- WITHOUT A CHANGED DRAFT no node changes
  pub use_waits : HasNoChangedDraft o ino → nodes_now (with_uses o uses) last ≡ nodes_now o last
  use_waits none = same_nodes (nodes_now (with_uses o uses) last) (nodes_now o last) (λ q. stays q (λ d at changed same. true≢false (sym changed ∙ none d (ap (draft_of o.overlay.drafts) (sym same) ∙ at))))

  used_own : ino < g.inodes → IsChangedDraft o ino → get (nodes_now (with_uses o uses) last) ino ≡ option_map (node_used (slice_index uses ino)) (get (nodes_now o last) ino)
  used_own high is =
      now_changed (with_uses o uses) whole.table last ino is.0 lt is.1 is.2
      ∙ ap (λ k. option_map (shaped_node (get last k) o.overlay.blocks (slice_index uses k) is.0.pointers) is.0.shape) number
      ∙ by is.0.shape
      ∙ sym (ap (option_map (node_used (slice_index uses ino))) (now_changed o whole.table last ino is.0 lt is.1 is.2 ∙ ap (λ k. option_map (shaped_node (get last k) o.overlay.blocks (slice_index o.uses k) is.0.pointers) is.0.shape) number))
    where
      lt : ino < length o.overlay.drafts.places
      lt = subst (λ n. ino < n) (sym whole.numbers) high

      number : is.0.ino ≡ ino
      number = whole.table.own ino is.0 lt is.1

      by : (s : Option Shape) → option_map (shaped_node (get last ino) o.overlay.blocks (slice_index uses ino) is.0.pointers) s ≡ option_map (node_used (slice_index uses ino)) (option_map (shaped_node (get last ino) o.overlay.blocks (slice_index o.uses ino) is.0.pointers) s)
      by None = refl
      by (Some s) = refl

  others_stay : (q : ℕ) → q ≢ ino → get (nodes_now (with_uses o uses) last) q ≡ get (nodes_now o last) q
  others_stay q ne = stays q (λ d at changed. ne)

-- WITH A CHANGED DRAFT the node of the number is used then
pub use_shows : (g : Layout) (o : Overlaid) → IsOverlaid g o → (uses : List ℕ) (ino : ℕ) → KeepsOtherUses o.uses uses ino → (c : Contents) → ino < g.inodes → IsChangedDraft o ino
    → nodes_now (with_uses o uses) c.nodes ≡ with_node (nodes_now o c.nodes) ino (option_map (node_used (slice_index uses ino)) (get (nodes_now o c.nodes) ino))
use_shows g o whole uses ino others c high is = with_one o (with_uses o uses) c ino (option_map (node_used (slice_index uses ino)) (get (nodes_now o c.nodes) ino)) (used_own g o whole uses ino others c.nodes high is) (others_stay g o whole uses ino others c.nodes)

-- and the overlay is over the contents still
pub use_over : (g : Layout) (image : Image) (c : Contents) (o : Overlaid) → IsOverlaid g o → (uses : List ℕ) (ino : ℕ) → KeepsOtherUses o.uses uses ino → ino < g.inodes → IsOver g o image c → IsOver g (with_uses o uses) image c
use_over g image c o whole uses ino others high over = record {
  drafts = over.drafts;
  away = over.away;
  slots = λ q node is. elim (cases_eq q ino) [
    | inl same ↦ own (draft_of o.overlay.drafts ino) refl node (ap (get (nodes_now (with_uses o uses) c.nodes)) (sym same) ∙ is)
    | inr ne ↦ over.slots q node (sym (others_stay g o whole uses ino others c.nodes q ne) ∙ is)
  ];
}
  where
    waits : HasNoChangedDraft o ino → (node : FlatNode) → get (nodes_now (with_uses o uses) c.nodes) ino ≡ Some node → KeepsSlots c.tables.slots o.slots node
    waits none node is = over.slots ino node (ap (λ ns. get ns ino) (sym (use_waits g o whole uses ino others c.nodes none)) ∙ is)

    shows : IsChangedDraft o ino → (node : FlatNode) → get (nodes_now (with_uses o uses) c.nodes) ino ≡ Some node → KeepsSlots c.tables.slots o.slots node
    shows changed node is =
        let m = mapped (node_used (slice_index uses ino)) (get (nodes_now o c.nodes) ino) node (sym (used_own g o whole uses ino others c.nodes high changed) ∙ is) in
        subst (KeepsSlots c.tables.slots o.slots) m.2 (over.slots ino m.0 m.1)

    own : (x : Option NodeDraft) → draft_of o.overlay.drafts ino ≡ x → (node : FlatNode) → get (nodes_now (with_uses o uses) c.nodes) ino ≡ Some node → KeepsSlots c.tables.slots o.slots node
    own None at node is = waits (λ d at'. absurd (none_some (sym at ∙ at'))) node is
    own (Some d) at node is = by d.changed refl
      where
        by : (b : Bool) → d.changed ≡ b → KeepsSlots c.tables.slots o.slots node
        by true changed = shows (d, at, changed) node is
        by false unchanged = waits (λ e at'. ap (λ (x : NodeDraft). x.changed) (one at' at) ∙ unchanged) node is

-- SLOTS ARE NOTED: no node changes
pub slots_now : (o : Overlaid) (slots : SlotTable) (last : Nodes) → nodes_now (with_slot_table o slots) last ≡ nodes_now o last
unfolding nodes_now
slots_now o slots last = refl

module _ (g : Layout) (image : Image) (c : Contents) (o : Overlaid) (whole : IsOverlaid g o) (over : IsOver g o image c) (slots : SlotTable) (keeps : KeepsAllSlots o c.nodes slots) where
  -- a block that goes away is one of the node now
  moved_now : (k : ℕ) (d : NodeDraft) (i addr serial position : ℕ) → slice_get o.overlay.drafts.items k ≡ Some d → i < 1036 → where_is d.pointers i ≡ Moved addr serial position
      → (node : FlatNode) × (get (nodes_now o c.nodes) d.ino ≡ Some node) × (file_block node.content i ≡ Away serial position)
  moved_now k d i addr serial position at small here = by d.shape refl
    where
      placed : (d.ino < length o.overlay.drafts.places) × (slice_index o.overlay.drafts.places d.ino ≡ k)
      placed = whole.table.placed k d at

      is_draft : IsDraft d
      is_draft = whole.table.drafts k d at

      now_is : get (nodes_now o c.nodes) d.ino ≡ draft_node o c.nodes d
      now_is = now_changed o whole.table c.nodes d.ino d placed.0 (ap (slice_get o.overlay.drafts.items) placed.1 ∙ at) (is_draft.changed i (subst IsUnwritten (sym here) tt))

      past : blocks_of_shape d.shape ≤ i → ⊥
      past ge = hole_moved (sym (is_draft.ends i ge small) ∙ here)

      by : (s : Option Shape) → d.shape ≡ s → (node : FlatNode) × (get (nodes_now o c.nodes) d.ino ≡ Some node) × (file_block node.content i ≡ Away serial position)
      by None e = absurd (past (subst (λ x. blocks_of_shape x ≤ i) (sym e) (omega arith)))
      by (Some s) e = (
        shaped_node (get c.nodes d.ino) o.overlay.blocks (slice_index o.uses d.ino) d.pointers s,
        now_is ∙ ap (option_map (shaped_node (get c.nodes d.ino) o.overlay.blocks (slice_index o.uses d.ino) d.pointers)) e,
        elim (cases_lt i (blocks_of s.size)) [
          | inl lt ↦ get_or-map-range_with_len (λ j. block_now (get c.nodes d.ino) o.overlay.blocks j (where_is d.pointers j)) 0 (blocks_of s.size) i i blocks.Hole lt (omega arith) ∙ ap (block_now (get c.nodes d.ino) o.overlay.blocks i) here
          | inr ge ↦ absurd (past (subst (λ x. blocks_of_shape x ≤ i) (sym e) ge))
        ],
      )

  pub slots_over : IsOver g (with_slot_table o slots) image c
  slots_over = record {
    drafts = over.drafts;
    away = λ k d i addr serial position at small here. (
        let goes = over.away k d i addr serial position at small here in
        let now = moved_now k d i addr serial position at small here in
        record {
          file = goes.file;
          lies = record {
            volume = goes.lies.volume;
            slot = goes.lies.slot;
            place = goes.lies.place;
            holds = keeps d.ino now.0 now.1 (slot_number g.volumes goes.lies.volume goes.lies.slot) i serial position now.2 goes.lies.holds;
            low = goes.lies.low;
            high = goes.lies.high;
          };
        });
    slots = λ ino node is number i serial position block holds. (
        let was : get (nodes_now o c.nodes) ino ≡ Some node = ap (λ ns. get ns ino) (sym (slots_now o slots c.nodes)) ∙ is in
        keeps ino node was number i serial position block (over.slots ino node was number i serial position block holds));
  }
