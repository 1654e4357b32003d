-- The live blocks that are listed, part by part.
use Rattle.std.proofs.Common.{◌≡◌, ◌⊎◌, inl, inr, ⊎_elim, ℕ, ◌+◌, ◌<◌, ◌≤◌, List, [], ◌∷◌, ◌++◌, length, refl, sym, ap, ◌∙◌, subst, arith}
use Rattle.std.specs.Prelude.{slice_index, Option, Some, None}
use Rattle.std.specs.FinMap.{get}
use Rattle.std.proofs.lemmas.Bool.{cases_lt}
use Rattle.hl_media.specs.History.{Image}
use Rattle.hl_addr.specs.Layout.{Layout, IsWithinLimits}
use Rattle.hl_bytes.specs.declared.records.BlockRecord.{BlockRecord}
use Rattle.hl_super.specs.declared.record.Record.{Record}
use Rattle.hl_inode.specs.declared.inode.Inode.{Inode}
use Rattle.hl_placed.specs.Blocks.{blocks_of}
use Rattle.hl_tables.specs.Values.{TableValues}
use Rattle.hl_paths.specs.Nodes.{FlatNode}
use Rattle.hl_nodes.specs.Pointers.{HasPointerBlock, pointer_of}
use Rattle.hl_image.specs.Places.{InLog}
use Rattle.hl_nodes.specs.Nodes.{IsInodeAt, IsMapEntry}
use Rattle.hl_nodes.specs.Live.{LiesAt, IsNodeBlock, LiveBlock, IsLiveAt, live_record}
use Rattle.hl_nodes.specs.Live.NodeBlock.{Own, Pointers, Content}
use Rattle.hl_nodes.specs.Live.LiveBlock.{Table, OfNode}
use Rattle.hl_nodes.specs.Contents.{Contents, HasContents}
use Rattle.hl_nodes.proofs.Frame.{limits_of, one_inode}
use Rattle.hl_nodes.proofs.PointerLemmas.{in_log-some}
use Rattle.hl_found.specs.declared.live.LiveAt.{LiveAt}
use Rattle.hl_found.specs.Listing.{Lists, IsPushed, IsTableBefore, IsContent, IsOfInode, IsOfNumber, HavePointers, IsBefore, IsLiveBefore}
use Rattle.hl_found.proofs.ListLaws.{lists_none, lists_both, lists_same, lists_more, lists_pushed}

pub last_or_before : (i n : ℕ) → i < n + 1 → (i < n) ⊎ (i ≡ n)
last_or_before i n lt = ⊎_elim (λ low. inl low) (λ ge. inr (omega arith)) (cases_lt i n)

-- one table block more
pub tables_more : (tables : List ℕ) (n : ℕ) (xs ys : List LiveAt) (block : BlockRecord) (at : ℕ) → Lists (IsTableBefore tables n) xs → live_record (Table n) ≡ block → slice_index tables n ≡ at
    → ys ≡ xs ++ record { block = block; address = at } ∷ [] → Lists (IsTableBefore tables (n + 1)) ys
tables_more tables n xs ys block at one is here grown = lists_more (IsTableBefore tables n) (IsTableBefore tables (n + 1)) xs ys (Table n) at block one is grown
    (λ x a p. (let low = p.2 in (p.0, p.1, omega arith, p.3)))
    (n, refl, omega arith, here)
    (λ x a r. ⊎_elim (λ low. inl (r.0, r.1, low, r.3)) (λ e. inr (r.1 ∙ ap Table e, sym r.3 ∙ ap (slice_index tables) e ∙ here)) (last_or_before r.0 n r.2))

module _ (g : Layout) (image : Image) where
  -- one block of the contents more
  pub contents_more : (ino : ℕ) (v : Inode) (n : ℕ) (xs ys : List LiveAt) (at : ℕ) → Lists (IsContent g image ino v n) xs → at ≡ pointer_of image v n → IsPushed g (live_record (OfNode ino (Content n))) at xs ys → Lists (IsContent g image ino v (n + 1)) ys
  contents_more ino v n xs ys at one here pushed = lists_pushed g (IsContent g image ino v n) (IsContent g image ino v (n + 1)) xs ys (OfNode ino (Content n)) at (live_record (OfNode ino (Content n))) one refl pushed
      (λ x a p. (let low = p.2 in (p.0, p.1, omega arith, p.3, p.4)))
      (λ log. (n, refl, omega arith, log, sym here))
      (λ x a r. ⊎_elim (λ low. inl (r.0, r.1, low, r.3, r.4))
      (λ e. (let same : a ≡ at = sym r.4 ∙ ap (pointer_of image v) e ∙ sym here in inr (r.1 ∙ ap (λ (k : ℕ). OfNode ino (Content k)) e, same, subst (InLog g) same r.3)))
      (last_or_before r.0 n r.2))

  module _ (ino own : ℕ) (v : Inode) (there : IsInodeAt g image ino own v) where
    -- a block of the contents, or the pointer block
    abbrev IsBehind : LiveBlock → ℕ → Type 0
    IsBehind x a = IsContent g image ino v (blocks_of v.size) x a ⊎ ((x ≡ OfNode ino Pointers) × InLog g a × (v.single ≡ a))

    pub inode_listed : (xs ys zs : List LiveAt) → Lists (IsContent g image ino v (blocks_of v.size)) xs → IsPushed g (live_record (OfNode ino Pointers)) v.single xs ys → IsPushed g (live_record (OfNode ino Own)) own ys zs → Lists (IsOfInode g image ino own v) zs
    inode_listed xs ys zs one first second = lists_pushed g IsBehind (IsOfInode g image ino own v) ys zs (OfNode ino Own) own (live_record (OfNode ino Own))
        (lists_pushed g (IsContent g image ino v (blocks_of v.size)) IsBehind xs ys (OfNode ino Pointers) v.single (live_record (OfNode ino Pointers)) one refl first
        (λ x a p. inl p) (λ log. inr (refl, log, refl)) (λ x a r. ⊎_elim (λ p. inl p) (λ e. inr (e.0, sym e.2, subst (InLog g) (sym e.2) e.1)) r))
        refl second
        (λ x a p. ⊎_elim (λ q. (Content q.0, q.1, (q.2, q.3, q.4))) (λ q. (Pointers, q.0, (q.1, q.2))) p)
        (λ log. (Own, refl, refl))
        back
      where
        back : (x : LiveBlock) (a : ℕ) → IsOfInode g image ino own v x a → IsBehind x a ⊎ ((x ≡ OfNode ino Own) × (a ≡ own) × InLog g own)
        back x a (Own, e, lies) = inr (e, sym lies, there.in_log)
        back x a (Pointers, e, lies) = inl (inr (e, lies.0, lies.1))
        back x a (Content i, e, lies) = inl (inl (i, e, lies.0, lies.1, lies.2))

  module _ (t : TableValues) where
    pub number_listed : (ino : ℕ) (v : Inode) (xs : List LiveAt) → 1 ≤ ino → ino < g.inodes → IsInodeAt g image ino (slice_index t.inodes ino) v → Lists (IsOfInode g image ino (slice_index t.inodes ino) v) xs → Lists (IsOfNumber g image t ino) xs
    number_listed ino v xs low high there one = lists_same (IsOfInode g image ino (slice_index t.inodes ino) v) (IsOfNumber g image t ino) xs one
        (λ x a p. (p.0, p.1, record { low = low; high = high; inode = v; there = there; lies = p.2 }))
        (λ x a r. (r.0, r.1, subst (λ (w : Inode). LiesAt g image (slice_index t.inodes ino) w r.0 a) (one_inode (image (slice_index t.inodes ino)) (image (slice_index t.inodes ino)) r.2.inode v refl r.2.there.spelled there.spelled) r.2.lies))

    pub number_at : (ino own : ℕ) (v : Inode) (xs : List LiveAt) → slice_index t.inodes ino ≡ own → 1 ≤ ino → ino < g.inodes → IsInodeAt g image ino own v → Lists (IsOfInode g image ino own v) xs → Lists (IsOfNumber g image t ino) xs
    number_at ino own v xs at low high there one = number_listed ino v xs low high (subst (λ (n : ℕ). IsInodeAt g image ino n v) (sym at) there) (subst (λ (n : ℕ). Lists (IsOfInode g image ino n v) xs) (sym at) one)

    pub number_unlisted : (ino : ℕ) → ((v : Inode) → IsInodeAt g image ino (slice_index t.inodes ino) v → ⊥) → Lists (IsOfNumber g image t ino) []
    number_unlisted ino never = lists_none (IsOfNumber g image t ino) (λ x a p. never p.2.inode p.2.there)

    module _ (rec : Record) where
      before_more : (n : ℕ) (x : LiveBlock) → IsBefore n x → IsBefore (n + 1) x
      before_more n (Table i) is = tt
      before_more n (OfNode ino b) is = omega arith

      -- the table blocks are the live blocks before the first number
      pub tables_listed : (xs : List LiveAt) → Lists (IsTableBefore rec.tables (length rec.tables)) xs → Lists (IsLiveBefore g image rec t 1) xs
      tables_listed xs one = lists_same (IsTableBefore rec.tables (length rec.tables)) (IsLiveBefore g image rec t 1) xs one to back
        where
          to : (x : LiveBlock) (a : ℕ) → IsTableBefore rec.tables (length rec.tables) x a → IsLiveBefore g image rec t 1 x a
          to x a (i, e, lt, at) = subst (λ (z : LiveBlock). IsLiveBefore g image rec t 1 z a) (sym e) ((lt, at), tt)

          back : (x : LiveBlock) (a : ℕ) → IsLiveBefore g image rec t 1 x a → IsTableBefore rec.tables (length rec.tables) x a
          back (Table i) a (is, low) = (i, refl, is.0, is.1)
          back (OfNode ino b) a (is, low) = absurd (let one_at_least = is.low in omega arith)

      -- the blocks of one number more
      pub numbers_more : (n : ℕ) (xs ys : List LiveAt) → Lists (IsLiveBefore g image rec t n) xs → Lists (IsOfNumber g image t n) ys → Lists (IsLiveBefore g image rec t (n + 1)) (xs ++ ys)
      numbers_more n xs ys one two = lists_both (IsLiveBefore g image rec t n) (IsOfNumber g image t n) (IsLiveBefore g image rec t (n + 1)) xs ys one two
          (λ x a p. (p.0, before_more n x p.1))
          (λ x a p. subst (λ (z : LiveBlock). IsLiveBefore g image rec t (n + 1) z a) (sym p.1) (p.2, omega arith))
          back
        where
          back : (x : LiveBlock) (a : ℕ) → IsLiveBefore g image rec t (n + 1) x a → IsLiveBefore g image rec t n x a ⊎ IsOfNumber g image t n x a
          back (Table i) a (is, low) = inl (is, tt)
          back (OfNode ino b) a (is, low) = ⊎_elim (λ lt. inl (is, lt)) (λ e. inr (b, ap (λ (k : ℕ). OfNode k b) e, subst (λ (k : ℕ). IsNodeBlock g image t k b a) e is)) (last_or_before ino n low)

      pub all_listed : (n : ℕ) (xs : List LiveAt) → g.inodes ≤ n → Lists (IsLiveBefore g image rec t n) xs → Lists (IsLiveAt g image rec t) xs
      all_listed n xs le one = lists_same (IsLiveBefore g image rec t n) (IsLiveAt g image rec t) xs one (λ x a p. p.0) (λ x a is. (is, by x a is))
        where
          by : (x : LiveBlock) (a : ℕ) → IsLiveAt g image rec t x a → IsBefore n x
          by (Table i) a is = tt
          by (OfNode ino b) a is = (let high = is.high in omega arith)

  -- contents have nodes, so their inodes have pointer blocks or none
  pub have_pointers : (c : Contents) → HasContents g image c → HavePointers g image c.tables
  have_pointers c has ino v low high there = by (get c.nodes ino) (has.nodes.entries ino low high)
    where
      limits : IsWithinLimits g
      limits = limits_of g image c.rec has.newest has.volumes

      by : (o : Option FlatNode) → IsMapEntry g c.tables.slots image ino (slice_index c.tables.inodes ino) o → HasPointerBlock g image v
      by None none = absurd (in_log-some g limits (slice_index c.tables.inodes ino) there.in_log none)
      by (Some node) is = subst (HasPointerBlock g image) (one_inode (image (slice_index c.tables.inodes ino)) (image (slice_index c.tables.inodes ino)) is.inode v refl is.there.spelled there.spelled) is.is.pointers
