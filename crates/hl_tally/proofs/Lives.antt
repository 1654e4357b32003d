-- The blocks that a change of a draft lets go.
use Rattle.std.proofs.Common.{[], ◌≡◌, ◌≢◌, true≢false, ℕ, ◌-◌, ◌<◌, ◌≤◌, Bool, true, false, List, length, slice_get, Some, refl, sym, ◌∙◌, ap, subst}
use Rattle.std.specs.Prelude.{if◌then◌else◌, nat_le, slice_index}
use Rattle.hl_media.specs.History.{Image}
use Rattle.hl_addr.specs.Layout.{Layout}
use Rattle.hl_nodes.specs.Live.{IsLiveAt, IsNodeBlock, LiveBlock, NodeBlock}
use Rattle.hl_nodes.specs.Live.LiveBlock.{OfNode, Table}
use Rattle.hl_nodes.specs.Live.NodeBlock.{Content, Own, Pointers}
use Rattle.hl_nodes.specs.Contents.{Contents, HasContents}
use Rattle.hl_overlay.specs.declared.pointers.Pointer.{Pointer}
use Rattle.hl_overlay.specs.declared.pointers.Pointer.TheVariants.{Hole, Kept, Moved, New}
use Rattle.hl_overlay.specs.declared.draft.NodeDraft.{NodeDraft}
use Rattle.hl_overlay.specs.Pointing.{where_is}
use Rattle.hl_overlay.specs.DraftTables.{draft_of}
use Rattle.hl_overlay.specs.Overlays.{OverlayValue}
use Rattle.hl_overlay.proofs.TableLemmas.{is_draft_of}
use Rattle.hl_overlaid.specs.NodesNow.{IsOverlaid, Overlaid}
use Rattle.hl_overlaid.specs.Over.{IsDraftOf}
use Rattle.hl_overlaid.proofs.NowLemmas.{none_some, one}
use Rattle.hl_tally.specs.Tally.{HasCount, IsTally, StaysUnder, StaysIn, StaysLive, Tally}
use Rattle.hl_tally.specs.Counting.{is_logged, removed, without_block, without_own, without_pointer_block}
use Rattle.hl_tally.proofs.Counts.{count_same}
use Rattle.hl_tally.proofs.DraftNodes.{kept_lies, nothing_off, own_lies}
use Rattle.hl_tally.proofs.Segments.{AreCounted, CountsIn, Without, length-removed, let_go, let_none}

-- what is counted: the live blocks of the image that stay
pub record IsCounted (g : Layout) (image : Image) (c : Contents) (v : OverlayValue) (x : LiveBlock) (a : ℕ) : Type 0 where
  pub lies : IsLiveAt g image c.rec c.tables x a
  pub stays : StaysUnder v x a

-- where nothing is drafted each block stays
pub none_stays : (o : Overlaid) → o.overlay.drafts.items ≡ [] → (x : LiveBlock) (a : ℕ) → StaysUnder o.overlay x a
none_stays o none (Table i) a = tt
none_stays o none (OfNode ino b) a = λ d at. absurd (none_some (sym (ap (λ (l : List NodeDraft). slice_get l (slice_index o.overlay.drafts.places ino)) none) ∙ at))

pub counted_of : (g : Layout) (o : Overlaid) (image : Image) (c : Contents) (n : Tally) → IsTally g o image c n → AreCounted g.k (IsCounted g image c o.overlay) n.live
counted_of g o image c n t segment low high = count_same (StaysLive g o.overlay image c segment) (CountsIn g.k (IsCounted g image c o.overlay) segment) (slice_index n.live (segment - 1))
    (λ x s. record { address = s.address; is = record { lies = s.lies; stays = s.stays }; within = s.within })
    (λ x s. record { address = s.address; lies = s.is.lies; stays = s.is.stays; within = s.within }) (t.live segment low (subst (λ (k : ℕ). segment ≤ k) t.segments high))

pub counted_live : (g : Layout) (v : OverlayValue) (image : Image) (c : Contents) (live : List ℕ) → length live ≡ g.log → AreCounted g.k (IsCounted g image c v) live
    → (segment : ℕ) → 1 ≤ segment → segment ≤ g.log → HasCount (StaysLive g v image c segment) (slice_index live (segment - 1))
counted_live g v image c live size counted segment low high = count_same (CountsIn g.k (IsCounted g image c v) segment) (StaysLive g v image c segment) (slice_index live (segment - 1))
    (λ x s. record { address = s.address; lies = s.is.lies; stays = s.is.stays; within = s.within })
    (λ x s. record { address = s.address; is = record { lies = s.lies; stays = s.stays }; within = s.within }) (counted segment low (subst (λ (k : ℕ). segment ≤ k) (sym size) high))

-- lengths stay
pub length-own : (k : ℕ) (d : NodeDraft) (live : List ℕ) → length (without_own k d live) ≡ length live
length-own k d live = by d.changed
  where
    by : (b : Bool) → length (if b then live else removed k live d.own) ≡ length live
    by true = refl
    by false = length-removed k live d.own

pub length-pointer_block : (k : ℕ) (d : NodeDraft) (i : ℕ) (live : List ℕ) → length (without_pointer_block k d i live) ≡ length live
length-pointer_block k d i live = by (nat_le 12 i)
  where
    by : (b : Bool) → length (if b then removed k live d.single else live) ≡ length live
    by true = length-removed k live d.single
    by false = refl

pub length-block : (k : ℕ) (p : Pointer) (live : List ℕ) → length (without_block k p live) ≡ length live
length-block k Hole live = refl
length-block k (Kept addr) live = length-removed k live addr
length-block k (Moved addr serial position) live = refl
length-block k (New n) live = refl

module _ (g : Layout) (o : Overlaid) (whole : IsOverlaid g o) (image : Image) (c : Contents) (has : HasContents g image c) (ino : ℕ) (high : ino < g.inodes) (d : NodeDraft) (was : draft_of o.overlay.drafts ino ≡ Some d) (of : IsDraftOf g image c d) where
  own_is : d.ino ≡ ino
  own_is = whole.table.own ino d (subst (λ (k : ℕ). ino < k) (sym whole.numbers) high) was

  low_is : 1 ≤ ino
  low_is = subst (λ (k : ℕ). 1 ≤ k) own_is (is_draft_of o.overlay.drafts ino d whole.table was).number

  -- a block of the number stays if the draft says so
  stays_by : (b : NodeBlock) (a : ℕ) → StaysIn d b a → StaysUnder o.overlay (OfNode ino b) a
  stays_by b a stays e is = subst (λ (x : NodeDraft). StaysIn x b a) (one was is) stays

  at_log : (live : List ℕ) → length live ≡ g.log → (a : ℕ) → is_logged g.k (length live) a ≡ true → is_logged g.k g.log a ≡ true
  at_log live size a logged = ap (λ (n : ℕ). is_logged g.k n a) (sym size) ∙ logged

  -- what is counted so far is so of each block of the number that wasn't let go yet
  module _ (Q : LiveBlock → ℕ → Type 0) (sound : (x : LiveBlock) (a : ℕ) → Q x a → IsCounted g image c o.overlay x a) (live : List ℕ) (size : length live ≡ g.log) (counted : AreCounted g.k Q live) where
    -- its own block
    pub own_let_go : ((a : ℕ) → IsCounted g image c o.overlay (OfNode ino Own) a → Q (OfNode ino Own) a) → AreCounted g.k (Without (OfNode ino Own) Q) (without_own g.k d live)
    own_let_go whole_of = by d.changed refl
      where
        only : (a : ℕ) → Q (OfNode ino Own) a → a ≡ d.own
        only a q = (let s = sound (OfNode ino Own) a q in sym s.lies.lies ∙ sym (of.own ∙ ap (slice_index c.tables.inodes) own_is))

        by : (b : Bool) → d.changed ≡ b → AreCounted g.k (Without (OfNode ino Own) Q) (if b then live else removed g.k live d.own)
        by true e = let_none g.k Q (OfNode ino Own) live (λ a q. true≢false (sym e ∙ (sound (OfNode ino Own) a q).stays d was)) counted
        by false e = let_go g.k Q (OfNode ino Own) live d.own only counted (λ logged.
            let at : d.own ≡ slice_index c.tables.inodes ino = of.own ∙ ap (slice_index c.tables.inodes) own_is in
            let lies = own_lies g image c has ino low_is high (ap (is_logged g.k g.log) (sym at) ∙ at_log live size d.own logged) in
            whole_of d.own (record { lies = subst (λ (a : ℕ). IsNodeBlock g image c.tables ino Own a) (sym at) lies; stays = stays_by Own d.own e }))

    -- its pointer block
    pub pointers_let_go : ((a : ℕ) → IsCounted g image c o.overlay (OfNode ino Pointers) a → Q (OfNode ino Pointers) a) → AreCounted g.k (Without (OfNode ino Pointers) Q) (removed g.k live d.single)
    pointers_let_go whole_of = let_go g.k Q (OfNode ino Pointers) live d.single (λ a q. sym ((sound (OfNode ino Pointers) a q).stays d was)) counted (λ logged.
        let some : d.single ≢ 4294967295 = λ none. nothing_off g image c has (ap (is_logged g.k g.log) (sym none) ∙ at_log live size d.single logged) in
        whole_of d.single (record { lies = subst (λ (k : ℕ). IsNodeBlock g image c.tables k Pointers d.single) own_is (of.single some); stays = stays_by Pointers d.single refl }))

    -- a block that the disk has, or hasn't
    pub block_let_go : (i : ℕ) → i < 1036 → ((a : ℕ) → IsCounted g image c o.overlay (OfNode ino (Content i)) a → Q (OfNode ino (Content i)) a) → AreCounted g.k (Without (OfNode ino (Content i)) Q) (without_block g.k (where_is d.pointers i) live)
    block_let_go i small whole_of = by (where_is d.pointers i) refl
      where
        stays : (a : ℕ) → Q (OfNode ino (Content i)) a → where_is d.pointers i ≡ Kept a
        stays a q = (sound (OfNode ino (Content i)) a q).stays d was

        by : (p : Pointer) → where_is d.pointers i ≡ p → AreCounted g.k (Without (OfNode ino (Content i)) Q) (without_block g.k p live)
        by Hole e = let_none g.k Q (OfNode ino (Content i)) live (λ a q. (let f = sym e ∙ stays a q in cc)) counted
        by (Moved addr serial position) e = let_none g.k Q (OfNode ino (Content i)) live (λ a q. (let f = sym e ∙ stays a q in cc)) counted
        by (New n) e = let_none g.k Q (OfNode ino (Content i)) live (λ a q. (let f = sym e ∙ stays a q in cc)) counted
        by (Kept addr) e = let_go g.k Q (OfNode ino (Content i)) live addr (λ a q. (let f = sym (stays a q) ∙ e in cc)) counted (λ logged.
            whole_of addr (record { lies = subst (λ (k : ℕ). IsNodeBlock g image c.tables k (Content i) addr) own_is (kept_lies g image c has d of i addr small e (at_log live size addr logged)); stays = stays_by (Content i) addr e }))
