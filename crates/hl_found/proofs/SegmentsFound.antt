-- The blocks of the parts of a chain, part by part.
use Rattle.std.proofs.Common.{◌≡◌, ◌⊎◌, inl, inr, ℕ, zero, suc, ◌+◌, ◌-◌, ◌/◌, ◌<◌, List, [], ◌∷◌, length, sym, ap, ◌∙◌, subst, arith}
use Rattle.std.specs.Prelude.{All}
use Rattle.std.specs.List.{fold, slice_index_or}
use Rattle.hl_media.specs.History.{Image}
use Rattle.hl_addr.specs.Layout.{Layout}
use Rattle.hl_summary.specs.declared.parts.Summary.{Summary}
use Rattle.hl_image.specs.declared.place.LogPlace.{LogPlace}
use Rattle.hl_image.specs.declared.chain.ChainPart.{ChainPart}
use Rattle.hl_image.specs.Places.{block_at}
use Rattle.hl_image.specs.Parts.{next_of}
use Rattle.hl_image.specs.Chain.{Covers, end_of, placed}
use Rattle.hl_image.specs.Newest.{start_of}
use Rattle.hl_nodes.specs.Live.{IsLive, IsLiveAt}
use Rattle.hl_nodes.specs.Sound.{head_of, IsUsed, IsAhead, IsMarked, IsTaken}
use Rattle.hl_found.specs.declared.contents.FoundContents.{FoundContents}
use Rattle.hl_found.specs.declared.live.LiveAt.{LiveAt}
use Rattle.hl_found.specs.Found.{parts_found, HavePlaces}
use Rattle.hl_found.specs.Listing.{Lists, listed}
use Rattle.hl_found.specs.Segments.{HavePartIn, ArePartsBehind, IsInPlace, AreInPlace}

-- the chain ends where its last part says
pub end_follows : (at : LogPlace) (chain : List ChainPart) → fold (λ (p : LogPlace) (c : ChainPart). next_of c.summary) at chain ≡ end_of at (parts_found chain)
end_follows at [] = λ i. at
end_follows at (p ∷ chain) = end_follows (next_of p.summary) chain

module _ (g : Layout) where
  -- a covered block is one of a part's
  pub covers_lie : (seg : ℕ) (at : LogPlace) (parts : List Summary) → (b : ℕ) → Covers g at parts b → b / g.k ≡ seg → HavePartIn g (placed at parts) seg
  covers_lie seg at [] b c e = absurd c
  covers_lie seg at (s ∷ parts) b (inl (low, high)) e =
      let n : block_at g at + (b - block_at g at) ≡ b = omega arith in
      (0, record { seg = at.seg; block = at.block; summary = s }, omega arith, (b - block_at g at, omega arith, ap (λ (x : ℕ). x / g.k) n ∙ e))
  covers_lie seg at (s ∷ parts) b (inr later) e =
      let r = covers_lie seg (next_of s) parts b later e in
      let lt = r.2 in
      (suc r.0, r.1, omega arith, r.3)

  pub lie_covers : (seg : ℕ) (at : LogPlace) (parts : List Summary) → HavePartIn g (placed at parts) seg → (b : ℕ) × Covers g at parts b × (b / g.k ≡ seg)
  lie_covers seg at [] (i, d, lt, l) = absurd (omega arith)
  lie_covers seg at (s ∷ parts) (zero, d, lt, (j, le, e)) = (block_at g at + j, inl (omega arith, omega arith), e)
  lie_covers seg at (s ∷ parts) (suc i, d, lt, l) = let r = lie_covers seg (next_of s) parts (i, d, omega arith, l) in (r.0, inr r.1, r.2)

  pub parts_behind : (h at : LogPlace) (parts : List Summary) → ArePartsBehind g h (placed at parts) → (b : ℕ) → Covers g at parts b → IsAhead g h b → ⊥
  parts_behind h at [] are b c ahead = absurd c
  parts_behind h at (s ∷ parts) are b (inl (low, high)) ahead =
      let n : block_at g at + (b - block_at g at) ≡ b = omega arith in
      are 0 (record { seg = at.seg; block = at.block; summary = s }) (omega arith) (b - block_at g at) (omega arith) (subst (IsAhead g h) (sym n) ahead)
  parts_behind h at (s ∷ parts) are b (inr later) ahead = parts_behind h (next_of s) parts (λ i d lt. are (suc i) d (omega arith)) b later ahead

  pub behind_parts : (h at : LogPlace) (parts : List Summary) → ((b : ℕ) → Covers g at parts b → IsAhead g h b → ⊥) → ArePartsBehind g h (placed at parts)
  behind_parts h at [] never i d lt = absurd (omega arith)
  behind_parts h at (s ∷ parts) never zero d lt = λ j le ahead. never (block_at g at + j) (inl (omega arith, omega arith)) ahead
  behind_parts h at (s ∷ parts) never (suc i) d lt = behind_parts h (next_of s) parts (λ b c. never b (inr c)) i d (omega arith)

  module _ (f : FoundContents) (places : HavePlaces f) where
    -- whether a segment is used, by the parts that were found
    pub to_used : (seg : ℕ) → IsMarked f.tables seg ⊎ (((i : ℕ) × (i < length f.rec.tables) × (slice_index_or f.rec.tables i 0 / g.k ≡ seg)) ⊎ (HavePartIn g f.chain.items seg ⊎ ((head_of f.rec (parts_found f.chain.items)).seg ≡ seg)))
        → IsUsed g f.rec (parts_found f.chain.items) f.tables seg
    to_used seg (inl m) = inl m
    to_used seg (inr (inl t)) = inr (inl t)
    to_used seg (inr (inr (inl h))) = inr (inr (inl (lie_covers seg (start_of f.rec) (parts_found f.chain.items) (subst (λ (l : List ChainPart). HavePartIn g l seg) (sym places) h))))
    to_used seg (inr (inr (inr e))) = inr (inr (inr e))

    pub from_used : (seg : ℕ) → IsUsed g f.rec (parts_found f.chain.items) f.tables seg
        → IsMarked f.tables seg ⊎ (((i : ℕ) × (i < length f.rec.tables) × (slice_index_or f.rec.tables i 0 / g.k ≡ seg)) ⊎ (HavePartIn g f.chain.items seg ⊎ ((head_of f.rec (parts_found f.chain.items)).seg ≡ seg)))
    from_used seg (inl m) = inl m
    from_used seg (inr (inl t)) = inr (inl t)
    from_used seg (inr (inr (inl (b, c, e)))) = inr (inr (inl (subst (λ (l : List ChainPart). HavePartIn g l seg) places (covers_lie seg (start_of f.rec) (parts_found f.chain.items) b c e))))
    from_used seg (inr (inr (inr e))) = inr (inr (inr e))

    module _ (image : Image) (lives : List LiveAt) (lists : Lists (IsLiveAt g image f.rec f.tables) lives) where
      abbrev parts : List Summary
      parts = parts_found f.chain.items

      live_is : All (IsInPlace g f.rec parts f.tables) lives → (address : ℕ) (live : IsLive g image f.rec f.tables address) → IsInPlace g f.rec parts f.tables (listed live.block address)
      live_is all address live =
          let at = lists.whole live.block address live.lies in
          subst (IsInPlace g f.rec parts f.tables) at.2 (all at.0 (listed live.block address) at.1)

      pub in_place : All (IsInPlace g f.rec parts f.tables) lives → ArePartsBehind g (head_of f.rec parts) f.chain.items → AreInPlace g image f.rec parts f.tables
      in_place all behind = record { used = λ address live. (live_is all address live).0; behind = by }
        where
          by : (address : ℕ) → IsTaken g image f.rec parts f.tables address → IsAhead g (head_of f.rec parts) address → ⊥
          by address (inl live) ahead = (live_is all address live).1 ahead
          by address (inr covers) ahead = parts_behind (head_of f.rec parts) (start_of f.rec) parts (subst (ArePartsBehind g (head_of f.rec parts)) (sym places) behind) address covers ahead

      pub lives_in_place : AreInPlace g image f.rec parts f.tables → All (IsInPlace g f.rec parts f.tables) lives
      lives_in_place are i d lt =
          let x = lists.sound i d lt in
          let live : IsLive g image f.rec f.tables (slice_index_or lives i d).address = record { block = x.0; lies = x.2 } in
          (are.used (slice_index_or lives i d).address live, are.behind (slice_index_or lives i d).address (inl live))

      pub chain_behind : AreInPlace g image f.rec parts f.tables → ArePartsBehind g (head_of f.rec parts) f.chain.items
      chain_behind are = subst (ArePartsBehind g (head_of f.rec parts)) places (behind_parts (head_of f.rec parts) (start_of f.rec) parts (λ b c. are.behind b (inr c)))
