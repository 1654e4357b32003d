-- Drafts of which the same blocks stay.
use Rattle.std.proofs.Common.{◌≡◌, ℕ, Option, Some, None, option_map, refl, sym, ◌∙◌, ap, subst}
use Rattle.hl_nodes.specs.Live.{NodeBlock}
use Rattle.hl_nodes.specs.Live.LiveBlock.{OfNode}
use Rattle.hl_nodes.specs.Live.NodeBlock.{Content, Own, Pointers}
use Rattle.hl_overlay.specs.declared.draft.NodeDraft.{NodeDraft}
use Rattle.hl_overlay.specs.Pointing.{where_is}
use Rattle.hl_overlay.specs.DraftTables.{draft_of}
use Rattle.hl_overlay.specs.Overlays.{OverlayValue, holding, holding_of, without_pointers}
use Rattle.hl_overlaid.proofs.Following.{held_kept}
use Rattle.hl_overlaid.proofs.NowLemmas.{none_some, one}
use Rattle.hl_tally.specs.Tally.{StaysUnder, StaysIn}

-- the other draft is changed as this one is and has its pointer block, and what stands in its blocks is the same
pub record IsLike (old new : OverlayValue) (d e : NodeDraft) : Type 0 where
  pub single : e.single ≡ d.single
  pub changed : e.changed ≡ d.changed
  pub held : (j : ℕ) → holding_of new.blocks (where_is e.pointers j) ≡ holding_of old.blocks (where_is d.pointers j)

abbrev pub AreLike : OverlayValue → OverlayValue → Option NodeDraft → Option NodeDraft → Type 0
AreLike old new None None = Unit {0}
AreLike old new None (Some e) = ⊥
AreLike old new (Some d) None = ⊥
AreLike old new (Some d) (Some e) = IsLike old new d e

module _ (old new : OverlayValue) (d e : NodeDraft) (like : IsLike old new d e) where
  pub stays_like : (b : NodeBlock) (a : ℕ) → StaysIn d b a → StaysIn e b a
  stays_like Own a stays = like.changed ∙ stays
  stays_like Pointers a stays = like.single ∙ stays
  stays_like (Content i) a stays = held_kept new.blocks (where_is e.pointers i) a (like.held i ∙ ap (holding_of old.blocks) stays)

  pub stays_back : (b : NodeBlock) (a : ℕ) → StaysIn e b a → StaysIn d b a
  stays_back Own a stays = sym like.changed ∙ stays
  stays_back Pointers a stays = sym like.single ∙ stays
  stays_back (Content i) a stays = held_kept old.blocks (where_is d.pointers i) a (sym (like.held i) ∙ ap (holding_of new.blocks) stays)

-- drafts whose blocks hold the same, and which differ in their pointers alone, are alike
pub like_but_pointers : (old new : OverlayValue) (q : ℕ) → option_map without_pointers (draft_of new.drafts q) ≡ option_map without_pointers (draft_of old.drafts q) → ((j : ℕ) → holding new q j ≡ holding old q j)
    → AreLike old new (draft_of old.drafts q) (draft_of new.drafts q)
like_but_pointers old new q heads held = by (draft_of old.drafts q) (draft_of new.drafts q) heads held
  where
    by : (x y : Option NodeDraft) → option_map without_pointers y ≡ option_map without_pointers x
        → ((j : ℕ) → option_map (holding_of new.blocks) (option_map (λ d. where_is d.pointers j) y) ≡ option_map (holding_of old.blocks) (option_map (λ d. where_is d.pointers j) x)) → AreLike old new x y
    by None None heads held = tt
    by None (Some e) heads held = none_some (sym heads)
    by (Some d) None heads held = none_some heads
    by (Some d) (Some e) heads held = (
        let same : without_pointers e ≡ without_pointers d = one refl heads in
        record {
          single = ap (λ (x : NodeDraft). x.single) same;
          changed = ap (λ (x : NodeDraft). x.changed) same;
          held = λ j. one refl (held j);
        })

-- so that the same blocks stay of a number whose drafts are alike
module _ (old new : OverlayValue) (q : ℕ) (b : NodeBlock) (a : ℕ) (like : AreLike old new (draft_of old.drafts q) (draft_of new.drafts q)) where
  pub stays_others : StaysUnder old (OfNode q b) a → StaysUnder new (OfNode q b) a
  stays_others stays = by (draft_of old.drafts q) (draft_of new.drafts q) like stays
    where
      by : (x y : Option NodeDraft) → AreLike old new x y → ((d : NodeDraft) → x ≡ Some d → StaysIn d b a) → (e : NodeDraft) → y ≡ Some e → StaysIn e b a
      by None None l s e is = absurd (none_some is)
      by None (Some f) l s e is = absurd l
      by (Some d) None l s e is = absurd l
      by (Some d) (Some f) l s e is = subst (λ (x : NodeDraft). StaysIn x b a) (one refl is) (stays_like old new d f l b a (s d refl))

  pub stays_others_back : StaysUnder new (OfNode q b) a → StaysUnder old (OfNode q b) a
  stays_others_back stays = by (draft_of old.drafts q) (draft_of new.drafts q) like stays
    where
      by : (x y : Option NodeDraft) → AreLike old new x y → ((e : NodeDraft) → y ≡ Some e → StaysIn e b a) → (d : NodeDraft) → x ≡ Some d → StaysIn d b a
      by None None l s d is = absurd (none_some is)
      by None (Some f) l s d is = absurd l
      by (Some x) None l s d is = absurd l
      by (Some x) (Some f) l s d is = subst (λ (y : NodeDraft). StaysIn y b a) (one refl is) (stays_back old new x f l b a (s f refl))
