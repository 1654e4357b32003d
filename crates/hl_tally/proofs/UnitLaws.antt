-- THE UNIT: what is counted behind it.
use Rattle.std.proofs.Common.{◌≡◌, ◌⊎◌, true≢false, inl, inr, ⊎_elim, ℕ, ◌+◌, ◌<◌, ◌≤◌, Bool, true, false, List, [], length, slice_get, Option, Some, None, is_some, refl, sym, ◌∙◌, ap, subst, arith}
use Rattle.std.specs.Prelude.{if◌then◌else◌, slice_index, option_map}
use Rattle.std.specs.List.{filter, fold}
use Rattle.std.specs.FinMap.{get}
use Rattle.std.proofs.lemmas.List.{length-map}
use Rattle.hl_media.specs.History.{Image, MachineState}
use Rattle.hl_addr.specs.Layout.{IsSegmentSize, Layout}
use Rattle.hl_bytes.specs.declared.block.Block.{Block}
use Rattle.hl_bytes.specs.declared.records.BlockRecord.{BlockRecord}
use Rattle.hl_bytes.specs.declared.records.TableRecord.{TableRecord}
use Rattle.hl_log.specs.declared.piece.Piece.{Piece}
use Rattle.hl_log.specs.declared.position.Position.{Position}
use Rattle.hl_inode.specs.declared.inode.Inode.{Inode}
use Rattle.hl_paths.specs.Nodes.{Nodes, flat_charge}
use Rattle.hl_super.specs.declared.record.Record.{Record}
use Rattle.hl_tables.specs.Values.{TableValues}
use Rattle.hl_overlay.specs.declared.pointers.Pointer.TheVariants as place
use Rattle.hl_overlay.specs.declared.draft.NodeDraft.{NodeDraft}
use Rattle.hl_overlay.specs.declared.draft.Shape.{Shape}
use Rattle.hl_overlay.specs.Pointing.{IsUnwritten, where_is}
use Rattle.hl_overlay.specs.Drafting.{blocks_of_shape, is_freed}
use Rattle.hl_overlay.specs.DraftTables.{draft_of, freed_record}
use Rattle.hl_overlay.specs.Making.{resolved, shape_wanted}
use Rattle.hl_overlay.proofs.CountLemmas.{freed_none, there}
use Rattle.hl_overlay.proofs.OverlayLemmas.{drafted_new}
use Rattle.hl_nodes.specs.Nodes.{IsInodeAt, IsMapEntry}
use Rattle.hl_nodes.specs.Live.{IsLiveAt, IsNodeBlock, LiesAt, LiveBlock, NodeBlock}
use Rattle.hl_nodes.specs.Live.LiveBlock.{OfNode, Table}
use Rattle.hl_nodes.specs.Live.NodeBlock.{Content, Own, Pointers}
use Rattle.hl_nodes.specs.Contents.{Contents}
use Rattle.hl_nodes.specs.Fates.{freed}
use Rattle.hl_nodes.specs.Sound.{IsSound}
use Rattle.hl_nodes.specs.Units.{Makes, TakesIn, after_unit}
use Rattle.hl_log.proofs.Addresses.{addresses_once}
use Rattle.hl_log.proofs.CutPlaces.{once_at}
use Rattle.hl_nodes.proofs.FateLaws.{fates_make}
use Rattle.hl_nodes.proofs.Frame.{one_inode}
use Rattle.hl_nodes.proofs.UnitLaws.{limits}
use Rattle.hl_overlaid.specs.NodesNow.{Overlaid, nodes_now, shaped_node}
use Rattle.hl_overlaid.specs.Units.{IsUnitNow}
use Rattle.hl_overlaid.proofs.BehindLemmas.{laid_others}
use Rattle.hl_overlaid.proofs.NowLemmas.{none_some, now_changed, now_none, one}
use Rattle.hl_overlaid.proofs.UnitBlocks.{brings_of, in_filter, in_map}
use Rattle.hl_overlaid.proofs.UnitMakes.{cut_is, makes_now, owner, size}
use Rattle.hl_tally.specs.Tally.{IsTally, StaysIn, Tally}
use Rattle.hl_tally.specs.Counting.{added, is_logged, unit_counted}
use Rattle.hl_tally.proofs.DraftNodes.{unchanged_stays}
use Rattle.hl_tally.proofs.Growing.{all_in, all_in-length}
use Rattle.hl_tally.proofs.Lives.{IsCounted, counted_live, counted_of, none_stays}
use Rattle.hl_tally.proofs.SameLive.{node_back, node_forth}
use Rattle.hl_tally.proofs.Segments.{AreCounted, in_logged, recounted}
use Rattle.hl_tally.proofs.UnitPlaces.{came, content_lives, fresh_content, fresh_own, fresh_pointers, is_draft, laid, number, of, old_lives, old_small, own_lives, plan, planned_in_log, pointers_live, single_far, some, stays_some, u}
use Rattle.hl_tally.proofs.UnitRoles.{IsOfDraft, role_of}

-- a block lies at one address
pub lies_once : (g : Layout) (image : Image) (rec : Record) (t : TableValues) (x : LiveBlock) (a b : ℕ) → IsLiveAt g image rec t x a → IsLiveAt g image rec t x b → a ≡ b
lies_once g image rec t (Table i) a b x y = sym x.1 ∙ y.1
lies_once g image rec t (OfNode ino block) a b x y = by block x.lies (subst (λ (v : Inode). LiesAt g image (slice_index t.inodes ino) v block b) (sym same) y.lies)
  where
    same : x.inode ≡ y.inode
    same = one_inode (image (slice_index t.inodes ino)) (image (slice_index t.inodes ino)) x.inode y.inode refl x.there.spelled y.there.spelled

    by : (block : NodeBlock) → LiesAt g image (slice_index t.inodes ino) x.inode block a → LiesAt g image (slice_index t.inodes ino) x.inode block b → a ≡ b
    by Own p q = sym p ∙ q
    by Pointers p q = sym p.1 ∙ q.1
    by (Content i) p q = sym p.2 ∙ q.2

-- where tables name the same inode, its blocks are the same
pub tables_shift : (g : Layout) (image : Image) (s t : TableValues) (ino : ℕ) (b : NodeBlock) (a : ℕ) → slice_index s.inodes ino ≡ slice_index t.inodes ino → IsNodeBlock g image s ino b a → IsNodeBlock g image t ino b a
tables_shift g image s t ino b a e is = record {
  low = is.low;
  high = is.high;
  inode = is.inode;
  there = subst (λ (x : ℕ). IsInodeAt g image ino x is.inode) e is.there;
  lies = subst (λ (x : ℕ). LiesAt g image x is.inode b a) e is.lies;
}

pub most_segment : (k : ℕ) → IsSegmentSize k → k ≤ 512
most_segment k (inl e) = omega arith
most_segment k (inr (inl e)) = omega arith
most_segment k (inr (inr (inl e))) = omega arith
most_segment k (inr (inr (inr e))) = omega arith

pub some_in_segment : (k : ℕ) → IsSegmentSize k → 0 < k
some_in_segment k (inl e) = omega arith
some_in_segment k (inr (inl e)) = omega arith
some_in_segment k (inr (inr (inl e))) = omega arith
some_in_segment k (inr (inr (inr e))) = omega arith

module _ (g : Layout) (p : Position) (clean : List ℕ) (o : Overlaid) (notes : List TableRecord) (c : Contents) (bs : List (BlockRecord × Block)) (pieces : List Piece) (rest : List ℕ) (first : MachineState) (is : IsUnitNow g p clean o notes c bs pieces rest first) where
  abbrev laid_now : TableValues
  laid_now = laid g p clean o notes c bs pieces rest first is

  abbrev plan_now : List ℕ
  plan_now = plan g p clean o notes c bs pieces rest first is

  abbrev S : LiveBlock → ℕ → Type 0
  S = IsCounted g first.content c o.overlay

  abbrev items : List NodeDraft
  items = o.overlay.drafts.items

  -- a draft at its place is that of its number
  placed_at : (k : ℕ) (d : NodeDraft) → slice_get items k ≡ Some d → draft_of o.overlay.drafts d.ino ≡ Some d
  placed_at k d at = ap (slice_get items) (is.whole.table.placed k d at).1 ∙ at

  -- a number of which the unit says nothing lies where it lay
  alone : (ino : ℕ) → ((d : NodeDraft) → draft_of o.overlay.drafts ino ≡ Some d → d.changed ≡ false) → slice_index laid_now.inodes ino ≡ slice_index c.tables.inodes ino
  alone ino none = laid_others g p clean o notes c bs pieces rest first is ino
      (λ n b at own same.
      let w = owner g p clean o notes c bs pieces rest first is n b at own in
      let unchanged = none w.0 (ap (draft_of o.overlay.drafts) (sym (w.2 ∙ same)) ∙ w.1) in
      none_some (sym (ap (λ (t : Bool). if t then w.0.shape else None) unchanged) ∙ w.4.1))
      (λ i.
      let m = in_map freed_record (filter is_freed items) (freed ino) i in
      let f = in_filter is_freed items m.0 m.1 m.2 in
      let unchanged = none m.1 (ap (draft_of o.overlay.drafts) (sym (ap (λ (r : TableRecord). r.a) m.3)) ∙ placed_at f.0 m.1 f.1) in
      true≢false (sym f.2 ∙ freed_none m.1 unchanged))

  -- a draft that is to be of no node has no block that stays
  gone_old : (ino : ℕ) (low : 1 ≤ ino) (high : ino < g.inodes) (d : NodeDraft) (at : draft_of o.overlay.drafts ino ≡ Some d) → d.changed ≡ true → d.shape ≡ None → (b : NodeBlock) (a : ℕ) → S (OfNode ino b) a → ⊥
  gone_old ino low high d at changed none b a s = by b s
    where
      ends : (i : ℕ) → i < 1036 → where_is d.pointers i ≡ place.Hole
      ends i small = (is_draft g p clean o notes c bs pieces rest first is ino low high d at).ends i (subst (λ (x : Option Shape). blocks_of_shape x ≤ i) (sym none) (omega arith)) small

      by : (b : NodeBlock) → S (OfNode ino b) a → ⊥
      by Own s = true≢false (sym changed ∙ s.stays d at)
      by Pointers s = (
          let f = single_far g p clean o notes c bs pieces rest first is ino low high d at (stays_some g p clean o notes c bs pieces rest first is ino low high d at a s) in
          let below = f.1 in
          f.2 (ends (12 + f.0) (omega arith)))
      by (Content i) s = (let e = sym (ends i (old_small g p clean o notes c bs pieces rest first is ino low high d at i a s)) ∙ s.stays d at in cc)

  module _ (image : Image) (takes : TakesIn g first.content c (u g p clean o notes c bs pieces rest first is) plan_now image) where
    abbrev L : LiveBlock → ℕ → Type 0
    L = IsLiveAt g image c.rec laid_now

    abbrev CameFrom : LiveBlock → ℕ → Type 0
    CameFrom x a = S x a ⊎ ((j : ℕ) × (j < length plan_now) × (slice_index plan_now j ≡ a) × ((e : ℕ) → S x e → ⊥))

    -- the blocks of the nodes before, on the image, are those that they had
    back : (ino : ℕ) (b : NodeBlock) (a : ℕ) → IsNodeBlock g image c.tables ino b a → IsNodeBlock g first.content c.tables ino b a
    back = node_back g first.content image c is.rests.has takes.kept

    forth : (ino : ℕ) (b : NodeBlock) (a : ℕ) → IsNodeBlock g first.content c.tables ino b a → IsNodeBlock g image c.tables ino b a
    forth = node_forth g first.content image c is.rests.has takes.kept

    makes : Makes g first.content c (u g p clean o notes c bs pieces rest first is) plan_now (nodes_now o c.nodes)
    makes = fates_make g p clean c first is.rests (u g p clean o notes c bs pieces rest first is) pieces rest (cut_is g p clean o notes c bs pieces rest first is) (nodes_now o c.nodes) (makes_now g p clean o notes c bs pieces rest first is)

    -- a number that is to be of no node has no block behind the unit
    gone_now : (ino : ℕ) (d : NodeDraft) → draft_of o.overlay.drafts ino ≡ Some d → d.changed ≡ true → d.shape ≡ None → (b : NodeBlock) (a : ℕ) → IsNodeBlock g image laid_now ino b a → ⊥
    gone_now ino d at changed none b a lies = (
        let node : get (nodes_now o c.nodes) ino ≡ None = now_changed o is.whole.table c.nodes ino d (subst (λ (n : ℕ). ino < n) (sym is.whole.numbers) lies.high) at changed
        ∙ ap (option_map (shaped_node (get c.nodes d.ino) o.overlay.blocks (slice_index o.uses d.ino) d.pointers)) none in
        let entry : slice_index laid_now.inodes ino ≡ 4294967295 = subst (IsMapEntry g laid_now.slots image ino (slice_index laid_now.inodes ino)) node ((makes.nodes_are image takes).entries ino lies.low lies.high) in
        some g p clean o notes c bs pieces rest first is (slice_index laid_now.inodes ino) lies.there.in_log entry)

    -- what stays lives behind the unit
    old_now : (ino : ℕ) (b : NodeBlock) (a : ℕ) → S (OfNode ino b) a → (x : Option NodeDraft) → draft_of o.overlay.drafts ino ≡ x → IsNodeBlock g image laid_now ino b a
    old_now ino b a s None at = tables_shift g image c.tables laid_now ino b a (sym (alone ino (λ d is_d. absurd (none_some (sym at ∙ is_d))))) (forth ino b a s.lies)
    old_now ino b a s (Some d) at = by d.changed d.shape refl refl
      where
        by : (t : Bool) (x : Option Shape) → d.changed ≡ t → d.shape ≡ x → IsNodeBlock g image laid_now ino b a
        by false x e f = tables_shift g image c.tables laid_now ino b a (sym (alone ino (λ y is_y. subst (λ (z : NodeDraft). z.changed ≡ false) (one at is_y) e))) (forth ino b a s.lies)
        by true None e f = absurd (gone_old ino s.lies.low s.lies.high d at e f b a s)
        by true (Some shape) e f = (
            let want : shape_wanted d ≡ Some shape = ap (λ (t : Bool). if t then d.shape else None) e ∙ f in
            old_lives g p clean o notes c bs pieces rest first is ino s.lies.low s.lies.high d at shape want (brings_of plan_now o.uses items o.overlay.blocks bs is.adds (slice_index o.overlay.drafts.places ino) d shape at want) image takes b a s)

    pub stay : (x : LiveBlock) (a : ℕ) → S x a → L x a
    stay (Table i) a s = s.lies
    stay (OfNode ino b) a s = old_now ino b a s (draft_of o.overlay.drafts ino) refl

    -- what lives behind the unit stayed, or is a block of it
    came_by : (ino : ℕ) (b : NodeBlock) (a : ℕ) → IsNodeBlock g image laid_now ino b a → (x : Option NodeDraft) → draft_of o.overlay.drafts ino ≡ x → CameFrom (OfNode ino b) a
    came_by ino b a l None at = inl (record {
      lies = back ino b a (tables_shift g image laid_now c.tables ino b a (alone ino (λ d is_d. absurd (none_some (sym at ∙ is_d)))) l);
      stays = λ d is_d. absurd (none_some (sym at ∙ is_d));
    })
    came_by ino b a l (Some d) at = by d.changed d.shape refl refl
      where
        by : (t : Bool) (x : Option Shape) → d.changed ≡ t → d.shape ≡ x → CameFrom (OfNode ino b) a
        by false x e f = (
            let lies = back ino b a (tables_shift g image laid_now c.tables ino b a (alone ino (λ y is_y. subst (λ (z : NodeDraft). z.changed ≡ false) (one at is_y) e)) l) in
            let own = number g p clean o notes c bs pieces rest first is ino l.low l.high d at in
            let stays = unchanged_stays g first.content c is.rests.has d (of g p clean o notes c bs pieces rest first is ino l.low l.high d at) (is_draft g p clean o notes c bs pieces rest first is ino l.low l.high d at) e b a
            (subst (λ (n : ℕ). IsNodeBlock g first.content c.tables n b a) (sym own) lies) in
            inl (record { lies = lies; stays = λ y is_y. subst (λ (z : NodeDraft). StaysIn z b a) (one at is_y) stays }))
        by true None e f = absurd (gone_now ino d at e f b a l)
        by true (Some shape) e f = (
            let want : shape_wanted d ≡ Some shape = ap (λ (t : Bool). if t then d.shape else None) e ∙ f in
            came g p clean o notes c bs pieces rest first is ino l.low l.high d at shape want (brings_of plan_now o.uses items o.overlay.blocks bs is.adds (slice_index o.overlay.drafts.places ino) d shape at want) image takes b a l)

    pub from : (x : LiveBlock) (a : ℕ) → L x a → CameFrom x a
    from (Table i) a l = inl (record { lies = l; stays = tt })
    from (OfNode ino b) a l = came_by ino b a l (draft_of o.overlay.drafts ino) refl

    -- each block of the unit lives behind it, and wasn't counted before
    abbrev Placed : ℕ → Type 0
    Placed j = (x : LiveBlock) × L x (slice_index plan_now j) × ((e : ℕ) → S x e → ⊥)

    data_placed : (j : ℕ) → j < length plan_now → j < length o.overlay.blocks → Placed j
    data_placed j low lt = (
        let b = there o.overlay.blocks j lt in
        let owned = is.whole.named.owned j b.0 b.1 in
        let small = is.whole.named.small j b.0 b.1 in
        let ino = b.0.0.ino in
        let i = b.0.0.index in
        let w = drafted_new o.overlay.drafts ino i j owned.1 in
        by ino i owned.0 small w.0 w.1 w.2 w.0.shape refl)
      where
        by : (ino i : ℕ) → ino < length o.overlay.drafts.places → i < 1036 → (d : NodeDraft) → draft_of o.overlay.drafts ino ≡ Some d → where_is d.pointers i ≡ place.New j → (x : Option Shape) → d.shape ≡ x → Placed j
        by ino i in_places small d at here None none = (
            let draft = is.whole.table.drafts (slice_index o.overlay.drafts.places ino) d at in
            let e = sym (draft.ends i (subst (λ (x : Option Shape). blocks_of_shape x ≤ i) (sym none) (omega arith)) small) ∙ here in
            absurd cc)
        by ino i in_places small d at here (Some shape) some_shape = (
            let draft = is.whole.table.drafts (slice_index o.overlay.drafts.places ino) d at in
            let high : ino < g.inodes = subst (λ (n : ℕ). ino < n) is.whole.numbers in_places in
            let first_one : 1 ≤ ino = subst (λ (n : ℕ). 1 ≤ n) (is.whole.table.own ino d in_places at) draft.number in
            let changed : d.changed ≡ true = draft.changed i (subst IsUnwritten (sym here) tt) in
            let want : shape_wanted d ≡ Some shape = ap (λ (t : Bool). if t then d.shape else None) changed ∙ some_shape in
            let brings = brings_of plan_now o.uses items o.overlay.blocks bs is.adds (slice_index o.overlay.drafts.places ino) d shape at want in (
              OfNode ino (Content i),
              content_lives g p clean o notes c bs pieces rest first is ino first_one high d at shape want brings image takes i (slice_index plan_now j) small (λ hole. (let e = sym hole ∙ here in cc)) (planned_in_log g p clean o notes c bs pieces rest first is j low) (ap (resolved plan_now) here),
              fresh_content g p clean o notes c bs pieces rest first is ino first_one high d at shape want brings i j here,
            ))

    draft_placed : (j : ℕ) → IsOfDraft plan_now o.uses items o.overlay.blocks bs j → Placed j
    draft_placed j r = (
        let d = r.draft in
        let spot = is.whole.table.placed r.place d r.there in
        let at = placed_at r.place d r.there in
        let low = (is.whole.table.drafts r.place d r.there).number in
        let high : d.ino < g.inodes = subst (λ (n : ℕ). d.ino < n) is.whole.numbers spot.0 in
        ⊎_elim
        (λ own. (
          OfNode d.ino Own,
          subst (λ (n : ℕ). L (OfNode d.ino Own) (slice_index plan_now n)) (sym own) (own_lives g p clean o notes c bs pieces rest first is d.ino low high d at r.shape r.want r.brings image takes),
          fresh_own g p clean o notes c bs pieces rest first is d.ino low high d at r.shape r.want r.brings,
        ))
        (λ anew. (
          OfNode d.ino Pointers,
          subst (λ (n : ℕ). L (OfNode d.ino Pointers) (slice_index plan_now n)) (sym anew.place_is) (pointers_live g p clean o notes c bs pieces rest first is d.ino low high d at r.shape r.want r.brings image takes anew.block anew.is anew.single_is),
          fresh_pointers g p clean o notes c bs pieces rest first is d.ino low high d at r.shape r.want r.brings anew.gone,
        ))
        r.role)

    pub placed : (j : ℕ) → j < length plan_now → Placed j
    placed j lt = ⊎_elim (data_placed j lt) (draft_placed j)
        (role_of plan_now o.uses items o.overlay.blocks bs is.adds j (subst (λ (n : ℕ). j < n) (size g p clean o notes c bs pieces rest first is ∙ length-map bs (λ (b : BlockRecord × Block). b.0)) lt))

    apart : (i j : ℕ) → i < length plan_now → j < length plan_now → slice_index plan_now i ≡ slice_index plan_now j → i ≡ j
    apart = once_at plan_now (addresses_once g p.head clean (length (u g p clean o notes c bs pieces rest first is).records) (length (u g p clean o notes c bs pieces rest first is).changes) pieces rest is.rests.at_rest.head is.rests.at_rest.cleans (cut_is g p clean o notes c bs pieces rest first is))

    -- THE UNIT: behind it, where nothing is drafted, each of its blocks is counted besides what was
    abbrev after : Contents
    after = after_unit g p c (u g p clean o notes c bs pieces rest first is) pieces (nodes_now o c.nodes)

    module _ (sound : IsSound g image after) (behind : Overlaid) (none : behind.overlay.drafts.items ≡ []) (n : Tally) (t : IsTally g o first.content c n) where
      same_nodes : nodes_now behind after.nodes ≡ nodes_now o c.nodes
      same_nodes = now_none behind after.nodes none

      some_blocks : 0 < g.k
      some_blocks = some_in_segment g.k (limits g p clean c first is.rests).segment_size

      logged : (j : ℕ) → j < length plan_now → is_logged g.k (length n.live) (slice_index plan_now j) ≡ true
      logged j lt = ap (λ (m : ℕ). is_logged g.k m (slice_index plan_now j)) t.segments ∙ in_logged g (slice_index plan_now j) (planned_in_log g p clean o notes c bs pieces rest first is j lt)

      most : g.k ≤ 512
      most = most_segment g.k (limits g p clean c first is.rests).segment_size

      abbrev live_now : List ℕ
      live_now = fold (added g.k) n.live plan_now

      live_size : length live_now ≡ g.log
      live_size = all_in-length g.k some_blocks most S L plan_now sound.one_block (lies_once g image c.rec laid_now) stay from placed apart n.live logged (counted_of g o first.content c n t) ∙ t.segments

      live_counted : AreCounted g.k L live_now
      live_counted = all_in g.k some_blocks most S L plan_now sound.one_block (lies_once g image c.rec laid_now) stay from placed apart n.live logged (counted_of g o first.content c n t)

      pub unit_tally : IsTally g behind image after (unit_counted g plan_now n)
      unit_tally = record {
        numbers = t.numbers;
        segments = live_size;
        in_use = λ ino low high. t.in_use ino low high ∙ ap (λ (m : Nodes). is_some (get m ino)) (sym same_nodes);
        charge = t.charge ∙ ap flat_charge (sym same_nodes);
        live = counted_live g behind.overlay image after live_now live_size
            (recounted g.k L (IsCounted g image after behind.overlay) live_now (λ x a l. record { lies = l; stays = none_stays behind none x a }) (λ x a s. s.lies) live_counted);
      }
