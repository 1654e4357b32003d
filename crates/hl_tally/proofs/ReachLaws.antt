-- What is counted goes on being so where the live blocks stay, and whatever room or slots an overlay has.
use Rattle.std.proofs.Common.{◌≡◌, ◌≢◌, inl, inr, ℕ, ◌-◌, ◌<◌, Bool, true, false, List, Option, Some, None, is_some, option_map, refl, sym, ◌∙◌, ap, subst, arith}
use Rattle.std.proofs.lemmas.Bool.{cases_eq}
use Rattle.std.specs.Prelude.{slice_index}
use Rattle.std.specs.FinMap.{get}
use Rattle.hl_media.specs.History.{Image}
use Rattle.hl_addr.specs.Layout.{Layout}
use Rattle.hl_image.specs.Places.{log_end}
use Rattle.hl_tseg.specs.SlotTable.{SlotTable}
use Rattle.hl_paths.specs.Nodes.{FlatNode, Nodes, flat_charge}
use Rattle.hl_overlay.specs.declared.draft.NodeDraft.{NodeDraft}
use Rattle.hl_overlay.specs.DraftTables.{draft_of}
use Rattle.hl_nodes.specs.Live.{IsLive}
use Rattle.hl_nodes.specs.Contents.{Contents, HasContents}
use Rattle.hl_nodes.proofs.Frame.{limits_of}
use Rattle.hl_nodes.proofs.PointerLemmas.{in_log-high}
use Rattle.hl_nodes.proofs.UnitLaws.{live_in_log}
use Rattle.hl_overlaid.specs.Changes.{KeepsOtherUses, node_used, with_room, with_slot_table, with_uses}
use Rattle.hl_overlaid.specs.NodesNow.{IsOverlaid, Overlaid, nodes_now}
use Rattle.hl_overlaid.proofs.KeepLemmas.{room_now}
use Rattle.hl_overlaid.proofs.NowLemmas.{none_some, one, with_node-other, with_node-same}
use Rattle.hl_overlaid.proofs.UseLemmas.{slots_now, use_shows, use_waits}
use Rattle.hl_tally.specs.Tally.{IsTally, StaysLive, Tally}
use Rattle.hl_tally.proofs.Counts.{count_same}
use Rattle.hl_tally.proofs.NodeCharges.{charge_replaced, charged}
use Rattle.hl_tally.proofs.SameLive.{live_back, live_forth}

-- on each image with the same live blocks
pub live_tally : (g : Layout) (a b : Image) (c : Contents) (o : Overlaid) (n : Tally) → HasContents g a c → ((address : ℕ) → IsLive g a c.rec c.tables address → b address ≡ a address) → IsTally g o a c n → IsTally g o b c n
live_tally g a b c o n has same t = record {
  numbers = t.numbers;
  segments = t.segments;
  in_use = t.in_use;
  charge = t.charge;
  live = λ segment low high. count_same (StaysLive g o.overlay a c segment) (StaysLive g o.overlay b c segment) (slice_index n.live (segment - 1))
      (λ x s. record { address = s.address; lies = live_forth g a b c has same x s.address s.lies; stays = s.stays; within = s.within })
      (λ x s. record { address = s.address; lies = live_back g a b c has same x s.address s.lies; stays = s.stays; within = s.within }) (t.live segment low high);
}

-- so on each with the same log
pub log_tally : (g : Layout) (a b : Image) (c : Contents) (o : Overlaid) (n : Tally) → HasContents g a c → ((k : ℕ) → k < log_end g → b k ≡ a k) → IsTally g o a c n → IsTally g o b c n
log_tally g a b c o n has same = live_tally g a b c o n has (λ address live. same address (in_log-high g (limits_of g a c.rec has.newest has.volumes) address (live_in_log g a c has address live)))

-- with other room for new blocks, and with other slots
pub room_tally : (g : Layout) (image : Image) (c : Contents) (o : Overlaid) (room : ℕ) (n : Tally) → IsTally g o image c n → IsTally g (with_room o room) image c n
room_tally g image c o room n t = record {
  numbers = t.numbers;
  segments = t.segments;
  in_use = λ ino low high. t.in_use ino low high ∙ ap (λ (m : Nodes). is_some (get m ino)) (sym (room_now o room c.nodes));
  charge = t.charge ∙ ap flat_charge (sym (room_now o room c.nodes));
  live = λ segment low high. count_same (StaysLive g o.overlay image c segment) (StaysLive g (with_room o room).overlay image c segment) (slice_index n.live (segment - 1))
      (λ x s. record { address = s.address; lies = s.lies; stays = s.stays; within = s.within })
      (λ x s. record { address = s.address; lies = s.lies; stays = s.stays; within = s.within }) (t.live segment low high);
}

pub slots_tally : (g : Layout) (image : Image) (c : Contents) (o : Overlaid) (slots : SlotTable) (n : Tally) → IsTally g o image c n → IsTally g (with_slot_table o slots) image c n
slots_tally g image c o slots n t = record {
  numbers = t.numbers;
  segments = t.segments;
  in_use = λ ino low high. t.in_use ino low high ∙ ap (λ (m : Nodes). is_some (get m ino)) (sym (slots_now o slots c.nodes));
  charge = t.charge ∙ ap flat_charge (sym (slots_now o slots c.nodes));
  live = t.live;
}

-- and with another last use of a number, since a node is charged alike whenever it was used
module _ (g : Layout) (image : Image) (c : Contents) (o : Overlaid) (whole : IsOverlaid g o) (uses : List ℕ) (ino : ℕ) (others : KeepsOtherUses o.uses uses ino) (high : ino < g.inodes) where
  abbrev was : Nodes
  was = nodes_now o c.nodes

  abbrev now : Nodes
  now = nodes_now (with_uses o uses) c.nodes

  used_alike : (u : ℕ) (x : Option FlatNode) → (charged (option_map (node_used u) x) ≡ charged x) × (is_some (option_map (node_used u) x) ≡ is_some x)
  used_alike u None = (refl, refl)
  used_alike u (Some node) = (refl, refl)

  alike : (d : Option NodeDraft) → draft_of o.overlay.drafts ino ≡ d → (flat_charge now ≡ flat_charge was) × ((q : ℕ) → is_some (get now q) ≡ is_some (get was q))
  alike None at = (let same = use_waits g o whole uses ino others c.nodes (λ d is. absurd (none_some (sym at ∙ is))) in (ap flat_charge same, λ q. ap (λ (m : Nodes). is_some (get m q)) same))
  alike (Some d) at = by d.changed refl
    where
      by : (b : Bool) → d.changed ≡ b → (flat_charge now ≡ flat_charge was) × ((q : ℕ) → is_some (get now q) ≡ is_some (get was q))
      by false e = (let same = use_waits g o whole uses ino others c.nodes (λ x is. subst (λ (y : NodeDraft). y.changed ≡ false) (one at is) e) in (ap flat_charge same, λ q. ap (λ (m : Nodes). is_some (get m q)) same))
      by true e = (
          let used = option_map (node_used (slice_index uses ino)) (get was ino) in
          let shows = use_shows g o whole uses ino others c high (d, at, e) in
          let own : get now ino ≡ used = ap (λ (m : Nodes). get m ino) shows ∙ with_node-same was ino used in
          let rest : (q : ℕ) → q ≢ ino → get now q ≡ get was q = (λ q ne. ap (λ (m : Nodes). get m q) shows ∙ with_node-other was ino used q ne) in
          let same = used_alike (slice_index uses ino) (get was ino) in
          let whole_charge = charge_replaced was now ino rest in
          let own_charge : charged (get now ino) ≡ charged (get was ino) = ap charged own ∙ same.0 in (
            (omega arith),
            λ q. elim (cases_eq q ino) [
              | inl at_ino ↦ ap (λ (k : ℕ). is_some (get now k)) at_ino ∙ ap is_some own ∙ same.1 ∙ ap (λ (k : ℕ). is_some (get was k)) (sym at_ino)
              | inr ne ↦ ap is_some (rest q ne)
            ],
          ))

  pub uses_tally : (n : Tally) → IsTally g o image c n → IsTally g (with_uses o uses) image c n
  uses_tally n t = (
      let same = alike (draft_of o.overlay.drafts ino) refl in
      record {
        numbers = t.numbers;
        segments = t.segments;
        in_use = λ q low top. t.in_use q low top ∙ sym (same.1 q);
        charge = t.charge ∙ sym same.0;
        live = t.live;
      })
