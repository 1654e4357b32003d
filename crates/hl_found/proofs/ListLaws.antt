-- Lists of live blocks that grow.
use Rattle.std.proofs.Common.{◌≡◌, ◌⊎◌, inl, inr, ⊎_elim, ℕ, List, [], ◌∷◌, ◌++◌, refl, sym, ap, ◌∙◌, subst, arith}
use Rattle.std.proofs.lemmas.List.Elements.{All-nil, All-cons, All-append, All-weaker, Contains-append_left, Contains-append_right}
use Rattle.hl_addr.specs.Layout.{Layout}
use Rattle.hl_bytes.specs.declared.records.BlockRecord.{BlockRecord}
use Rattle.hl_image.specs.Places.{InLog}
use Rattle.hl_nodes.specs.Live.{LiveBlock, live_record}
use Rattle.hl_found.specs.declared.live.LiveAt.{LiveAt}
use Rattle.hl_found.specs.Listing.{listed, IsListed, Lists, IsPushed}

pub lists_none : (P : LiveBlock → ℕ → Type 0) → ((x : LiveBlock) (a : ℕ) → P x a → ⊥) → Lists P []
lists_none P none = record { sound = All-nil (IsListed P); whole = λ x a p. absurd (none x a p) }

pub lists_both : (P Q R : LiveBlock → ℕ → Type 0) (xs ys : List LiveAt) → Lists P xs → Lists Q ys
    → ((x : LiveBlock) (a : ℕ) → P x a → R x a) → ((x : LiveBlock) (a : ℕ) → Q x a → R x a) → ((x : LiveBlock) (a : ℕ) → R x a → P x a ⊎ Q x a) → Lists R (xs ++ ys)
lists_both P Q R xs ys one two from_p from_q back = record {
  sound = All-append (IsListed R) xs ys
      (All-weaker (IsListed P) (IsListed R) (λ e x. (x.0, x.1, from_p x.0 e.address x.2)) xs one.sound)
      (All-weaker (IsListed Q) (IsListed R) (λ e x. (x.0, x.1, from_q x.0 e.address x.2)) ys two.sound);
  whole = λ x a r. ⊎_elim (λ p. Contains-append_left xs ys (listed x a) (one.whole x a p)) (λ q. Contains-append_right xs ys (listed x a) (two.whole x a q)) (back x a r);
}

pub lists_same : (P R : LiveBlock → ℕ → Type 0) (xs : List LiveAt) → Lists P xs → ((x : LiveBlock) (a : ℕ) → P x a → R x a) → ((x : LiveBlock) (a : ℕ) → R x a → P x a) → Lists R xs
lists_same P R xs one to back = record {
  sound = All-weaker (IsListed P) (IsListed R) (λ e x. (x.0, x.1, to x.0 e.address x.2)) xs one.sound;
  whole = λ x a r. one.whole x a (back x a r);
}

-- one block, at one address
Only : LiveBlock → ℕ → LiveBlock → ℕ → Type 0
Only y at x a = (x ≡ y) × (a ≡ at)

lists_only : (y : LiveBlock) (at : ℕ) (block : BlockRecord) → live_record y ≡ block → Lists (Only y at) (record { block = block; address = at } ∷ [])
unfolding Only
lists_only y at block is = record {
  sound = All-cons (IsListed (λ x a. (x ≡ y) × (a ≡ at))) (record { block = block; address = at }) [] (y, is, (refl, refl)) (All-nil (IsListed (λ x a. (x ≡ y) × (a ≡ at))));
  whole = λ x a e. (0, omega arith, ap (λ (b : BlockRecord). record { block = b; address = at }) (sym is) ∙ ap (λ (z : LiveBlock). listed z at) (sym e.0) ∙ ap (listed x) (sym e.1));
}

-- the list with one block more
pub lists_more : (P R : LiveBlock → ℕ → Type 0) (xs ys : List LiveAt) (y : LiveBlock) (at : ℕ) (block : BlockRecord) → Lists P xs → live_record y ≡ block → ys ≡ xs ++ record { block = block; address = at } ∷ []
    → ((x : LiveBlock) (a : ℕ) → P x a → R x a) → R y at → ((x : LiveBlock) (a : ℕ) → R x a → P x a ⊎ ((x ≡ y) × (a ≡ at))) → Lists R ys
unfolding Only
lists_more P R xs ys y at block one is grown to own back = subst (Lists R) (sym grown)
    (lists_both P (Only y at) R xs (record { block = block; address = at } ∷ []) one (lists_only y at block is) to (λ x a e. subst (λ (z : LiveBlock). R z a) (sym e.0) (subst (R y) (sym e.1) own)) back)

-- the list with one block more, where its address is one of the log
pub lists_pushed : (g : Layout) (P R : LiveBlock → ℕ → Type 0) (xs ys : List LiveAt) (y : LiveBlock) (at : ℕ) (block : BlockRecord) → Lists P xs → live_record y ≡ block → IsPushed g block at xs ys
    → ((x : LiveBlock) (a : ℕ) → P x a → R x a) → (InLog g at → R y at) → ((x : LiveBlock) (a : ℕ) → R x a → P x a ⊎ ((x ≡ y) × (a ≡ at) × InLog g at)) → Lists R ys
lists_pushed g P R xs ys y at block one is (inl (log, grown)) to own back = lists_more P R xs ys y at block one is grown to (own log) (λ x a r. ⊎_elim (λ p. inl p) (λ e. inr (e.0, e.1)) (back x a r))
lists_pushed g P R xs ys y at block one is (inr (out, same)) to own back = subst (Lists R) (sym same)
    (lists_same P R xs one to (λ x a r. ⊎_elim (λ p. p) (λ e. absurd (out e.2)) (back x a r)))
