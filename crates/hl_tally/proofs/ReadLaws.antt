-- Drafts that are as they were read change nothing that is counted.
use Rattle.std.proofs.Common.{◌≡◌, inl, inr, ℕ, ◌-◌, ◌<◌, Bool, true, false, length, Some, None, is_some, refl, sym, ◌∙◌, ap, subst}
use Rattle.std.specs.Prelude.{slice_index}
use Rattle.std.specs.FinMap.{get}
use Rattle.std.proofs.lemmas.Bool.{cases_eq}
use Rattle.hl_media.specs.History.{Image}
use Rattle.hl_addr.specs.Layout.{Layout}
use Rattle.hl_paths.specs.Nodes.{Nodes, flat_charge}
use Rattle.hl_nodes.specs.Live.{IsLiveAt, IsNodeBlock, LiveBlock, NodeBlock}
use Rattle.hl_nodes.specs.Live.LiveBlock.{OfNode, Table}
use Rattle.hl_nodes.specs.Contents.{Contents, HasContents}
use Rattle.hl_overlay.specs.declared.draft.NodeDraft.{NodeDraft}
use Rattle.hl_overlay.specs.DraftTables.{Redrafts, Trims, draft_of}
use Rattle.hl_overlay.proofs.TableLemmas.{is_draft_of}
use Rattle.hl_overlaid.specs.NodesNow.{IsOverlaid, Overlaid, nodes_now}
use Rattle.hl_overlaid.specs.Over.{IsDraftOf, IsOver}
use Rattle.hl_overlaid.specs.Changes.{AdmitsNow, TrimsNow}
use Rattle.hl_overlaid.proofs.NowLemmas.{none_some, one}
use Rattle.hl_tally.specs.Tally.{IsTally, StaysUnder, StaysIn, StaysLive, Tally}
use Rattle.hl_tally.proofs.Counts.{count_same}
use Rattle.hl_overlaid.proofs.KeepLemmas.{admitted_now, trimmed_now}
use Rattle.hl_tally.proofs.DraftNodes.{unchanged_stays}

module _ (g : Layout) (old new : Overlaid) (image : Image) (c : Contents) (n : Tally) where
  -- the same nodes of which the same blocks stay
  tally_same : nodes_now new c.nodes ≡ nodes_now old c.nodes
      → ((x : LiveBlock) (a : ℕ) → IsLiveAt g image c.rec c.tables x a → StaysUnder old.overlay x a → StaysUnder new.overlay x a)
      → ((x : LiveBlock) (a : ℕ) → IsLiveAt g image c.rec c.tables x a → StaysUnder new.overlay x a → StaysUnder old.overlay x a)
      → IsTally g old image c n → IsTally g new image c n
  tally_same same to from t = record {
    numbers = t.numbers;
    segments = t.segments;
    in_use = λ ino low high. t.in_use ino low high ∙ ap (λ (m : Nodes). is_some (get m ino)) (sym same);
    charge = t.charge ∙ ap flat_charge (sym same);
    live = λ segment low high. count_same (StaysLive g old.overlay image c segment) (StaysLive g new.overlay image c segment) (slice_index n.live (segment - 1))
        (λ x s. record { address = s.address; lies = s.lies; stays = to x s.address s.lies s.stays; within = s.within })
        (λ x s. record { address = s.address; lies = s.lies; stays = from x s.address s.lies s.stays; within = s.within }) (t.live segment low high);
  }

  module _ (before : IsOverlaid g old) (now : IsOverlaid g new) (has : HasContents g image c) where
    -- of a draft that isn't changed each block stays
    stays_read : (q : ℕ) (d : NodeDraft) → IsDraftOf g image c d → d.ino ≡ q → (o : Overlaid) → IsOverlaid g o → draft_of o.overlay.drafts q ≡ Some d → d.changed ≡ false
        → (b : NodeBlock) (a : ℕ) → IsNodeBlock g image c.tables q b a → StaysIn d b a
    stays_read q d of own o whole is unchanged b a lies =
        unchanged_stays g image c has d of (is_draft_of o.overlay.drafts q d whole.table is) unchanged b a (subst (λ (k : ℕ). IsNodeBlock g image c.tables k b a) (sym own) lies)

    module _ (d : NodeDraft) (of : IsDraftOf g image c d) (unchanged : d.changed ≡ false) (absent : draft_of old.overlay.drafts d.ino ≡ None) (redrafts : Redrafts old.overlay.drafts new.overlay.drafts d.ino d) where
      admitted_to : (x : LiveBlock) (a : ℕ) → IsLiveAt g image c.rec c.tables x a → StaysUnder old.overlay x a → StaysUnder new.overlay x a
      admitted_to (Table i) a lies stays = stays
      admitted_to (OfNode q b) a lies stays = λ e is. elim (cases_eq q d.ino) [
        | inl same ↦ (
            let drafted : draft_of new.overlay.drafts q ≡ Some d = ap (draft_of new.overlay.drafts) same ∙ redrafts.drafted in
            subst (λ (x : NodeDraft). StaysIn x b a) (one drafted is) (stays_read q d of (sym same) new now drafted unchanged b a lies))
        | inr ne ↦ stays e (sym (redrafts.others q (subst (λ (k : ℕ). q < k) (sym before.numbers) lies.high) ne) ∙ is)
      ]

      admitted_back : (x : LiveBlock) (a : ℕ) → IsLiveAt g image c.rec c.tables x a → StaysUnder new.overlay x a → StaysUnder old.overlay x a
      admitted_back (Table i) a lies stays = stays
      admitted_back (OfNode q b) a lies stays = λ e is. elim (cases_eq q d.ino) [
        | inl same ↦ absurd (none_some (sym absent ∙ ap (draft_of old.overlay.drafts) (sym same) ∙ is))
        | inr ne ↦ stays e (redrafts.others q (subst (λ (k : ℕ). q < k) (sym before.numbers) lies.high) ne ∙ is)
      ]

    module _ (most : ℕ) (over : IsOver g old image c) (trims : Trims most old.overlay.drafts new.overlay.drafts) where
      trimmed_to : (x : LiveBlock) (a : ℕ) → IsLiveAt g image c.rec c.tables x a → StaysUnder old.overlay x a → StaysUnder new.overlay x a
      trimmed_to (Table i) a lies stays = stays
      trimmed_to (OfNode q b) a lies stays = λ e is. stays e (trims.only q e (subst (λ (k : ℕ). q < k) (sym before.numbers) lies.high) is)

      trimmed_back : (x : LiveBlock) (a : ℕ) → IsLiveAt g image c.rec c.tables x a → StaysUnder new.overlay x a → StaysUnder old.overlay x a
      trimmed_back (Table i) a lies stays = stays
      trimmed_back (OfNode q b) a lies stays = λ e is. by e is e.changed refl
        where
          low : q < length old.overlay.drafts.places
          low = subst (λ (k : ℕ). q < k) (sym before.numbers) lies.high

          by : (e : NodeDraft) → draft_of old.overlay.drafts q ≡ Some e → (t : Bool) → e.changed ≡ t → StaysIn e b a
          by e is true changed = stays e (trims.changed q e low is changed)
          by e is false unchanged = stays_read q e (over.drafts (slice_index old.overlay.drafts.places q) e is) (before.table.own q e low is) old before is unchanged b a lies

  pub admitted_tally : (d : NodeDraft) → AdmitsNow g image c old new d → IsTally g old image c n → IsTally g new image c n
  admitted_tally d a = tally_same (admitted_now g image c old new d a)
      (admitted_to a.change.before a.change.after a.change.has d a.of a.unchanged a.absent a.redrafts)
      (admitted_back a.change.before a.change.after a.change.has d a.of a.unchanged a.absent a.redrafts)

  pub trimmed_tally : (most : ℕ) → TrimsNow g image c old new most → IsTally g old image c n → IsTally g new image c n
  trimmed_tally most t = tally_same (trimmed_now g image c old new most t)
      (trimmed_to t.change.before t.change.after t.change.has most t.change.over t.trims)
      (trimmed_back t.change.before t.change.after t.change.has most t.change.over t.trims)
