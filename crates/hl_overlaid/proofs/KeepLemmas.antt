-- A node is drafted as it was read, drafts are trimmed, and room is made: the nodes now stay.
use Rattle.std.proofs.Common.{◌≡◌, ◌≢◌, ◌⊎◌, inl, inr, ℕ, ◌<◌, Bool, true, false, true≢false, length, slice_get, Option, Some, None, refl, sym, ◌∙◌, ap, subst}
use Rattle.std.specs.Prelude.{slice_index}
use Rattle.std.specs.FinMap.{get}
use Rattle.std.proofs.lemmas.Bool.{cases_eq, cases_lt}
use Rattle.hl_media.specs.History.{Image}
use Rattle.hl_addr.specs.Layout.{Layout}
use Rattle.hl_tseg.specs.SlotTable.{SlotTable}
use Rattle.hl_paths.specs.Nodes.{FlatNode, Nodes}
use Rattle.hl_overlay.specs.declared.pointers.Pointer.TheVariants.{Moved}
use Rattle.hl_overlay.specs.declared.draft.NodeDraft.{NodeDraft}
use Rattle.hl_overlay.specs.Pointing.{IsUnwritten, where_is}
use Rattle.hl_overlay.specs.DraftTables.{draft_of}
use Rattle.hl_nodes.specs.Contents.{Contents}
use Rattle.hl_nodes.specs.Fates.{KeepsSlots}
use Rattle.hl_overlaid.specs.NodesNow.{Overlaid, block_now, nodes_now}
use Rattle.hl_overlaid.specs.Over.{GoesInto, IsDraftOf, IsOver}
use Rattle.hl_overlaid.specs.Changes.{AdmitsNow, IsChange, TrimsNow, with_room}
use Rattle.hl_overlaid.proofs.NowLemmas.{none_some, now_drafted, now_unchanged, one, same_nodes}
use Rattle.hl_overlaid.proofs.Following.{same_node, same_now, same_past, same_undrafted}

-- where the nodes stay, the slots go on holding what they have
keeps_slots : (g : Layout) (image : Image) (c : Contents) (old new : Overlaid) → IsChange g image c old new → nodes_now new c.nodes ≡ nodes_now old c.nodes → (q : ℕ) (node : FlatNode) → get (nodes_now new c.nodes) q ≡ Some node → KeepsSlots c.tables.slots new.slots node
keeps_slots g image c old new change same q node is = subst (λ (t : SlotTable). KeepsSlots c.tables.slots t node) (sym change.slots) (change.over.slots q node (ap (λ ns. get ns q) (sym same) ∙ is))

-- a draft that stays has its node
draft_stays : (g : Layout) (image : Image) (c : Contents) (old new : Overlaid) → IsChange g image c old new → new.uses ≡ old.uses → new.overlay.blocks ≡ old.overlay.blocks → length new.overlay.drafts.places ≡ length old.overlay.drafts.places → (last : Nodes) (q : ℕ) (d : NodeDraft) → q < length old.overlay.drafts.places
    → draft_of old.overlay.drafts q ≡ Some d → draft_of new.overlay.drafts q ≡ Some d → get (nodes_now new last) q ≡ get (nodes_now old last) q
draft_stays g image c old new change uses blocks numbers last q d lt at at' = same_now old new change.before.table change.after.table last q d d lt numbers at at' (record {
  changed = refl;
  node = λ changed. same_node old new last d d refl refl (ap (λ us. slice_index us d.ino) uses) (λ j. ap (λ bs. block_now (get last d.ino) bs j (where_is d.pointers j)) blocks);
})

module _ (g : Layout) (image : Image) (c : Contents) (old new : Overlaid) (d : NodeDraft) (is : AdmitsNow g image c old new d) where
  places : d.ino < length old.overlay.drafts.places
  places = subst (λ n. d.ino < n) is.redrafts.numbers (is.change.after.table.placed (slice_index new.overlay.drafts.places d.ino) d is.redrafts.drafted).0

  -- A NODE IS DRAFTED as it was read: the nodes now stay
  pub admitted_now : nodes_now new c.nodes ≡ nodes_now old c.nodes
  admitted_now = same_nodes (nodes_now new c.nodes) (nodes_now old c.nodes) (λ q. elim (cases_lt q (length old.overlay.drafts.places)) [
    | inl lt ↦ by q lt (cases_eq q d.ino)
    | inr ge ↦ same_past old new is.change.before.table is.change.after.table c.nodes q ge is.redrafts.numbers
  ])
    where
      other : (q : ℕ) → q < length old.overlay.drafts.places → q ≢ d.ino → (x : Option NodeDraft) → draft_of old.overlay.drafts q ≡ x → get (nodes_now new c.nodes) q ≡ get (nodes_now old c.nodes) q
      other q lt ne None none = same_undrafted old new is.change.before.table is.change.after.table c.nodes q lt is.redrafts.numbers none (is.redrafts.others q lt ne ∙ none)
      other q lt ne (Some e) at = draft_stays g image c old new is.change is.uses is.blocks is.redrafts.numbers c.nodes q e lt at (is.redrafts.others q lt ne ∙ at)

      by : (q : ℕ) → q < length old.overlay.drafts.places → (q ≡ d.ino) ⊎ (q ≡ d.ino → ⊥) → get (nodes_now new c.nodes) q ≡ get (nodes_now old c.nodes) q
      by q lt (inl same) = ap (get (nodes_now new c.nodes)) same
          ∙ now_unchanged new is.change.after.table c.nodes d.ino d (subst (λ n. d.ino < n) (sym is.redrafts.numbers) places) is.redrafts.drafted is.unchanged
          ∙ sym (ap (get (nodes_now old c.nodes)) same ∙ now_drafted old is.change.before.table c.nodes d.ino None places is.absent)
      by q lt (inr ne) = other q lt ne (draft_of old.overlay.drafts q) refl

  -- each draft is one that was there, or this one
  from : (k : ℕ) (e : NodeDraft) → slice_get new.overlay.drafts.items k ≡ Some e → (draft_of old.overlay.drafts e.ino ≡ Some e) ⊎ (d ≡ e)
  from k e at_k = elim (cases_eq e.ino d.ino) [
    | inl same ↦ inr (one is.redrafts.drafted (ap (draft_of new.overlay.drafts) (sym same) ∙ at_e))
    | inr ne ↦ inl (sym (is.redrafts.others e.ino lt ne) ∙ at_e)
  ]
    where
      at_e : draft_of new.overlay.drafts e.ino ≡ Some e
      at_e = ap (slice_get new.overlay.drafts.items) (is.change.after.table.placed k e at_k).1 ∙ at_k

      lt : e.ino < length old.overlay.drafts.places
      lt = subst (λ n. e.ino < n) is.redrafts.numbers (is.change.after.table.placed k e at_k).0

  drafts : (k : ℕ) (e : NodeDraft) → slice_get new.overlay.drafts.items k ≡ Some e → IsDraftOf g image c e
  drafts k e at_k = elim (from k e at_k) [
    | inl was ↦ is.change.over.drafts (slice_index old.overlay.drafts.places e.ino) e was
    | inr mine ↦ subst (IsDraftOf g image c) mine is.of
  ]

  away : (k : ℕ) (e : NodeDraft) (j addr serial position : ℕ) → slice_get new.overlay.drafts.items k ≡ Some e → j < 1036 → where_is e.pointers j ≡ Moved addr serial position → GoesInto g new.slots e addr serial position
  away k e j addr serial position at_k lt here = subst (λ (t : SlotTable). GoesInto g t e addr serial position) (sym is.change.slots) (elim (from k e at_k) [
    | inl was ↦ is.change.over.away (slice_index old.overlay.drafts.places e.ino) e j addr serial position was lt here
    | inr mine ↦ absurd (written mine)
  ])
    where
      written : d ≡ e → ⊥
      written mine = true≢false (sym ((is.change.after.table.drafts k e at_k).changed j (subst IsUnwritten (sym here) tt)) ∙ ap (λ (x : NodeDraft). x.changed) (sym mine) ∙ is.unchanged)

  pub admitted_over : IsOver g new image c
  admitted_over = record { drafts = drafts; away = away; slots = keeps_slots g image c old new is.change admitted_now }

module _ (g : Layout) (image : Image) (c : Contents) (old new : Overlaid) (most : ℕ) (is : TrimsNow g image c old new most) where
  -- DRAFTS ARE TRIMMED: the nodes now stay
  pub trimmed_now : nodes_now new c.nodes ≡ nodes_now old c.nodes
  trimmed_now = same_nodes (nodes_now new c.nodes) (nodes_now old c.nodes) (λ q. elim (cases_lt q (length old.overlay.drafts.places)) [
    | inl lt ↦ by q lt (draft_of old.overlay.drafts q) (draft_of new.overlay.drafts q) refl refl
    | inr ge ↦ same_past old new is.change.before.table is.change.after.table c.nodes q ge is.trims.numbers
  ])
    where
      gone : (q : ℕ) → q < length old.overlay.drafts.places → (d : NodeDraft) → draft_of old.overlay.drafts q ≡ Some d → draft_of new.overlay.drafts q ≡ None → (b : Bool) → d.changed ≡ b → get (nodes_now new c.nodes) q ≡ get (nodes_now old c.nodes) q
      gone q lt d at none true changed = absurd (none_some (sym none ∙ is.trims.changed q d lt at changed))
      gone q lt d at none false unchanged = now_drafted new is.change.after.table c.nodes q None (subst (λ n. q < n) (sym is.trims.numbers) lt) none ∙ sym (now_unchanged old is.change.before.table c.nodes q d lt at unchanged)

      by : (q : ℕ) → q < length old.overlay.drafts.places → (x y : Option NodeDraft) → draft_of old.overlay.drafts q ≡ x → draft_of new.overlay.drafts q ≡ y → get (nodes_now new c.nodes) q ≡ get (nodes_now old c.nodes) q
      by q lt None None none none' = same_undrafted old new is.change.before.table is.change.after.table c.nodes q lt is.trims.numbers none none'
      by q lt None (Some e) none at' = absurd (none_some (sym none ∙ is.trims.only q e lt at'))
      by q lt (Some d) None at none' = gone q lt d at none' d.changed refl
      by q lt (Some d) (Some e) at at' = draft_stays g image c old new is.change is.uses is.blocks is.trims.numbers c.nodes q e lt (is.trims.only q e lt at') at'

  was_there : (k : ℕ) (e : NodeDraft) → slice_get new.overlay.drafts.items k ≡ Some e → draft_of old.overlay.drafts e.ino ≡ Some e
  was_there k e at_k =
      let placed = is.change.after.table.placed k e at_k in
      is.trims.only e.ino e (subst (λ n. e.ino < n) is.trims.numbers placed.0) (ap (slice_get new.overlay.drafts.items) placed.1 ∙ at_k)

  pub trimmed_over : IsOver g new image c
  trimmed_over = record {
    drafts = λ k e at_k. is.change.over.drafts (slice_index old.overlay.drafts.places e.ino) e (was_there k e at_k);
    away = λ k e j addr serial position at_k lt here. subst (λ (t : SlotTable). GoesInto g t e addr serial position) (sym is.change.slots) (is.change.over.away (slice_index old.overlay.drafts.places e.ino) e j addr serial position (was_there k e at_k) lt here);
    slots = keeps_slots g image c old new is.change trimmed_now;
  }

-- ROOM IS MADE or given up: the nodes now stay
pub room_now : (o : Overlaid) (room : ℕ) (last : Nodes) → nodes_now (with_room o room) last ≡ nodes_now o last
unfolding nodes_now
room_now o room last = refl

pub room_over : (g : Layout) (image : Image) (c : Contents) (o : Overlaid) (room : ℕ) → IsOver g o image c → IsOver g (with_room o room) image c
room_over g image c o room over = record {
  drafts = over.drafts;
  away = over.away;
  slots = λ ino node is. over.slots ino node (ap (λ ns. get ns ino) (sym (room_now o room c.nodes)) ∙ is);
}
