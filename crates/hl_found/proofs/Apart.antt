-- Listed blocks that lie apart.
use Rattle.std.proofs.Common.{◌≡◌, ⊎_elim, ℕ, ◌<◌, ◌≤◌, List, length, refl, sym, ap, ◌∙◌, subst, arith}
use Rattle.std.specs.List.{slice_index_or}
use Rattle.std.proofs.lemmas.Bool.{cases_lt, cases_eq}
use Rattle.std.proofs.lemmas.List.{get_or_default}
use Rattle.hl_media.specs.History.{Image}
use Rattle.hl_addr.specs.Layout.{Layout}
use Rattle.hl_bytes.specs.declared.records.BlockRecord.{BlockRecord}
use Rattle.hl_super.specs.declared.record.Record.{Record}
use Rattle.hl_tables.specs.Values.{TableValues}
use Rattle.hl_nodes.specs.Live.{LiveBlock, IsLiveAt, live_record}
use Rattle.hl_nodes.specs.Live.NodeBlock.{Own, Pointers, Content}
use Rattle.hl_nodes.specs.Live.LiveBlock.{Table, OfNode}
use Rattle.hl_nodes.proofs.NodesMade.{most_blocks}
use Rattle.hl_found.specs.declared.live.LiveAt.{LiveAt}
use Rattle.hl_found.specs.Listing.{Lists, AreOne, LieApart}

-- blocks of contents have indices below those of other blocks
IsSmall : LiveBlock → Type 0
IsSmall (Table i) = Unit {0}
IsSmall (OfNode ino Own) = Unit {0}
IsSmall (OfNode ino Pointers) = Unit {0}
IsSmall (OfNode ino (Content i)) = i ≤ 1036

one_record : (x y : LiveBlock) → IsSmall x → IsSmall y → live_record x ≡ live_record y → x ≡ y
unfolding IsSmall
one_record (Table i) (Table j) s t e = ap (λ (r : BlockRecord). Table r.ino) e
one_record (Table i) (OfNode n Own) s t e = absurd (let k = ap (λ (r : BlockRecord). r.index) e in omega arith)
one_record (Table i) (OfNode n Pointers) s t e = absurd (let k = ap (λ (r : BlockRecord). r.index) e in omega arith)
one_record (Table i) (OfNode n (Content j)) s t e = absurd (let k = ap (λ (r : BlockRecord). r.index) e in omega arith)
one_record (OfNode m Own) (Table j) s t e = absurd (let k = ap (λ (r : BlockRecord). r.index) e in omega arith)
one_record (OfNode m Own) (OfNode n Own) s t e = ap (λ (r : BlockRecord). OfNode r.ino Own) e
one_record (OfNode m Own) (OfNode n Pointers) s t e = absurd (let k = ap (λ (r : BlockRecord). r.index) e in omega arith)
one_record (OfNode m Own) (OfNode n (Content j)) s t e = absurd (let k = ap (λ (r : BlockRecord). r.index) e in omega arith)
one_record (OfNode m Pointers) (Table j) s t e = absurd (let k = ap (λ (r : BlockRecord). r.index) e in omega arith)
one_record (OfNode m Pointers) (OfNode n Own) s t e = absurd (let k = ap (λ (r : BlockRecord). r.index) e in omega arith)
one_record (OfNode m Pointers) (OfNode n Pointers) s t e = ap (λ (r : BlockRecord). OfNode r.ino Pointers) e
one_record (OfNode m Pointers) (OfNode n (Content j)) s t e = absurd (let k = ap (λ (r : BlockRecord). r.index) e in omega arith)
one_record (OfNode m (Content i)) (Table j) s t e = absurd (let k = ap (λ (r : BlockRecord). r.index) e in omega arith)
one_record (OfNode m (Content i)) (OfNode n Own) s t e = absurd (let k = ap (λ (r : BlockRecord). r.index) e in omega arith)
one_record (OfNode m (Content i)) (OfNode n Pointers) s t e = absurd (let k = ap (λ (r : BlockRecord). r.index) e in omega arith)
one_record (OfNode m (Content i)) (OfNode n (Content j)) s t e = ap (λ (r : BlockRecord). OfNode r.ino (Content r.index)) e

module _ (g : Layout) (image : Image) (rec : Record) (t : TableValues) (items : List LiveAt) (lists : Lists (IsLiveAt g image rec t) items) where
  small : (x : LiveBlock) (a : ℕ) → IsLiveAt g image rec t x a → IsSmall x
  unfolding IsSmall
  small (Table i) a is = tt
  small (OfNode ino Own) a is = tt
  small (OfNode ino Pointers) a is = tt
  small (OfNode ino (Content i)) a is = let lt = is.lies.0 in omega (arith, most_blocks is.inode.size is.there.spelled.value.ranges.size)

  -- blocks whose items are apart are apart
  pub apart_by_items : ((i j : ℕ) (d : LiveAt) → i < length items → j < i → AreOne (slice_index_or items i d) (slice_index_or items j d)) → LieApart g image rec t
  apart_by_items one x y a p q =
      let f = lists.whole x a p in
      let h = lists.whole y a q in
      one_record x y (small x a p) (small y a q) (by f.0 h.0 f.1 h.1 f.2 h.2)
    where
      at : (i j : ℕ) → i < length items → j < i → (u v : LiveAt) → slice_index_or items i u ≡ u → slice_index_or items j v ≡ v → u.address ≡ v.address → u.block ≡ v.block
      at i j lt low u v e f same =
          let g' : slice_index_or items j u ≡ v = get_or_default items j u v (omega arith) ∙ f in
          subst (λ (w : LiveAt). u.address ≡ w.address → u.block ≡ w.block) g' (subst (λ (w : LiveAt). w.address ≡ (slice_index_or items j u).address → w.block ≡ (slice_index_or items j u).block) e (one i j u lt low)) same

      by : (i j : ℕ) → i < length items → j < length items → slice_index_or items i (record { block = live_record x; address = a }) ≡ record { block = live_record x; address = a }
          → slice_index_or items j (record { block = live_record y; address = a }) ≡ record { block = live_record y; address = a } → live_record x ≡ live_record y
      by i j li lj e f = ⊎_elim
          (λ lt. sym (at j i lj lt (record { block = live_record y; address = a }) (record { block = live_record x; address = a }) f e refl))
          (λ ge. ⊎_elim
          (λ same. ap (λ (w : LiveAt). w.block) (sym e ∙ get_or_default items i (record { block = live_record x; address = a }) (record { block = live_record y; address = a }) li ∙ ap (λ (k : ℕ). slice_index_or items k (record { block = live_record y; address = a })) same ∙ f))
          (λ differ. at i j li (less i j ge differ) (record { block = live_record x; address = a }) (record { block = live_record y; address = a }) e f refl)
          (cases_eq i j))
          (cases_lt i j)
        where
          less : (i j : ℕ) → j ≤ i → (i ≡ j → ⊥) → j < i
          less i j ge differ = ⊎_elim (λ h. h) (λ le. absurd (differ (omega arith))) (cases_lt j i)

  -- items of blocks that lie apart are apart
  pub items_apart : LieApart g image rec t → (i j : ℕ) (d : LiveAt) → i < length items → j < length items → AreOne (slice_index_or items i d) (slice_index_or items j d)
  items_apart apart i j d li lj same =
      let x = lists.sound i d li in
      let y = lists.sound j d lj in
      let e : x.0 ≡ y.0 = apart x.0 y.0 (slice_index_or items i d).address x.2 (subst (IsLiveAt g image rec t y.0) (sym same) y.2) in
      sym x.1 ∙ ap live_record e ∙ y.1
