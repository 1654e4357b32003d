-- What is counted once a drafted node is of another shape.
use Rattle.std.proofs.Common.{◌≡◌, ◌≢◌, true≢false, inl, inr, ℕ, ◌+◌, ◌-◌, ◌<◌, ◌≤◌, Bool, true, List, length, length-set, get_or, Option, Some, is_some, refl, sym, ◌∙◌, ap, subst, arith}
use Rattle.std.specs.Prelude.{slice_index, slice_index_or, slice_set}
use Rattle.std.specs.FinMap.{get}
use Rattle.std.proofs.lemmas.Bool.{cases_eq}
use Rattle.std.proofs.lemmas.List.{get_or-set_same, get_or-set_other}
use Rattle.hl_media.specs.History.{Image}
use Rattle.hl_addr.specs.Layout.{Layout}
use Rattle.hl_bytes.specs.declared.block.Block as bytes
use Rattle.hl_bytes.specs.declared.records.BlockRecord.{BlockRecord}
use Rattle.hl_placed.specs.Blocks.{listed}
use Rattle.hl_placed.specs.Charges.{blocks_charge}
use Rattle.hl_paths.specs.Nodes.{Nodes, flat_charge}
use Rattle.hl_nodes.specs.Live.{LiveBlock, NodeBlock}
use Rattle.hl_nodes.specs.Live.LiveBlock.{OfNode, Table}
use Rattle.hl_nodes.specs.Live.NodeBlock.{Content, Own, Pointers}
use Rattle.hl_nodes.specs.Contents.{Contents, HasContents}
use Rattle.hl_overlay.specs.declared.draft.NodeDraft.{NodeDraft}
use Rattle.hl_overlay.specs.declared.draft.Shape.{Shape}
use Rattle.hl_overlay.specs.Pointing.{where_is}
use Rattle.hl_overlay.specs.Drafting.{IsDraft, blocks_of_shape, with_shape}
use Rattle.hl_overlay.specs.DraftTables.{Redrafts, draft_of}
use Rattle.hl_overlay.proofs.TableLemmas.{blocks_most, is_draft_of}
use Rattle.hl_overlaid.specs.NodesNow.{Overlaid, block_now, nodes_now}
use Rattle.hl_overlaid.specs.Over.{IsDraftOf}
use Rattle.hl_overlaid.specs.Changes.{ShapesNow}
use Rattle.hl_overlaid.proofs.NowLemmas.{one, with_node-other}
use Rattle.hl_overlaid.proofs.ShapeLemmas.{shaped_now}
use Rattle.hl_tally.specs.Tally.{IsTally, StaysIn, Tally}
use Rattle.hl_tally.specs.Counting.{own_charge, shape_counted, without_own}
use Rattle.hl_tally.proofs.BlockCharges.{charge_alike}
use Rattle.hl_tally.proofs.DraftCharges.{changed_charged, changed_in_use, draft_block, now_charged}
use Rattle.hl_tally.proofs.Lives.{IsCounted, counted_live, counted_of, length-own, own_let_go}
use Rattle.hl_tally.proofs.NodeCharges.{charge_replaced, charged}
use Rattle.hl_tally.proofs.Segments.{AreCounted, Without, recounted}

module _ (g : Layout) (old new : Overlaid) (image : Image) (c : Contents) (ino : ℕ) (shape : Option Shape) (d : NodeDraft) (ch : ShapesNow g image c old new ino shape) (was : draft_of old.overlay.drafts ino ≡ Some d) where
  has : HasContents g image c
  has = ch.change.has

  abbrev e : NodeDraft
  e = with_shape d shape

  of : IsDraftOf g image c d
  of = ch.change.over.drafts (slice_index old.overlay.drafts.places ino) d was

  redrafts : Redrafts old.overlay.drafts new.overlay.drafts ino e
  redrafts = ch.shapes d was

  draft : IsDraft d
  draft = is_draft_of old.overlay.drafts ino d ch.change.before.table was

  reshaped : IsDraft e
  reshaped = is_draft_of new.overlay.drafts ino e ch.change.after.table redrafts.drafted

  others : (q : ℕ) → q ≢ ino → get (nodes_now new c.nodes) q ≡ get (nodes_now old c.nodes) q
  others q ne = ap (λ (m : Nodes). get m q) (shaped_now g image c old new ino shape ch) ∙ with_node-other (nodes_now old c.nodes) ino _ q ne

  -- the blocks of both are charged alike, since none is left past either size
  same_blocks : blocks_charge (listed (blocks_of_shape shape) (draft_block new c.nodes e)) ≡ blocks_charge (listed (blocks_of_shape d.shape) (draft_block old c.nodes d))
  same_blocks = charge_alike (draft_block old c.nodes d) (draft_block new c.nodes e) (blocks_of_shape d.shape) (blocks_of_shape shape) 1036 (blocks_most d draft) (blocks_most e reshaped)
      (λ j. ap (λ (bs : List (BlockRecord × bytes.Block)). block_now (get c.nodes d.ino) bs j (where_is d.pointers j)) ch.blocks)
      (λ j low high. ap (block_now (get c.nodes d.ino) old.overlay.blocks j) (draft.ends j low high))
      (λ j low high. ap (block_now (get c.nodes d.ino) new.overlay.blocks j) (reshaped.ends j low high))

  charge_now : (n : ℕ) → n ≡ flat_charge (nodes_now old c.nodes) → (n + own_charge shape) - own_charge d.shape ≡ flat_charge (nodes_now new c.nodes)
  charge_now n is =
      let whole = charge_replaced (nodes_now old c.nodes) (nodes_now new c.nodes) ino others in
      let before = now_charged g old ch.change.before image c has d of draft ino ch.number was in
      let now = changed_charged g new ch.change.after c.nodes e ino ch.number redrafts.drafted refl in
      reckon n (flat_charge (nodes_now old c.nodes)) (flat_charge (nodes_now new c.nodes)) (charged (get (nodes_now old c.nodes) ino)) (charged (get (nodes_now new c.nodes) ino)) (own_charge d.shape) (own_charge shape)
      (blocks_charge (listed (blocks_of_shape d.shape) (draft_block old c.nodes d))) is whole before (now ∙ ap (λ (k : ℕ). own_charge shape + k) same_blocks)
    where
      reckon : (n flat flat' was is own own' blocks : ℕ) → n ≡ flat → flat' + was ≡ flat + is → was + 1 ≡ own + blocks → is + 1 ≡ own' + blocks → (n + own') - own ≡ flat'
      reckon n flat flat' was is own own' blocks a b x y = omega arith

  in_use_now : (in_use : List Bool) → length in_use ≡ g.inodes → ((q : ℕ) → 1 ≤ q → q < g.inodes → slice_index_or in_use q true ≡ is_some (get (nodes_now old c.nodes) q))
      → (q : ℕ) → 1 ≤ q → q < g.inodes → slice_index_or (slice_set in_use ino (is_some shape)) q true ≡ is_some (get (nodes_now new c.nodes) q)
  in_use_now in_use count are q low high = elim (cases_eq q ino) [
    | inl same ↦ ap (λ (k : ℕ). get_or (slice_set in_use ino (is_some shape)) k true) same ∙ get_or-set_same in_use ino (is_some shape) true (subst (λ (k : ℕ). ino < k) (sym count) ch.number)
        ∙ sym (ap (λ (k : ℕ). is_some (get (nodes_now new c.nodes) k)) same ∙ changed_in_use g new ch.change.after c.nodes e ino ch.number redrafts.drafted refl)
    | inr ne ↦ get_or-set_other in_use ino q (is_some shape) true ne ∙ are q low high ∙ ap is_some (sym (others q ne))
  ]

  -- the inode's own block is let go, and nothing else
  in_places : (q : ℕ) → q < g.inodes → q < length old.overlay.drafts.places
  in_places q = subst (λ (k : ℕ). q < k) (sym ch.change.before.numbers)

  lets_to : (x : LiveBlock) (a : ℕ) → Without (OfNode ino Own) (IsCounted g image c old.overlay) x a → IsCounted g image c new.overlay x a
  lets_to (Table i) a w = record { lies = w.0.lies; stays = tt }
  lets_to (OfNode q b) a w = record {
    lies = w.0.lies;
    stays = λ f is. elim (cases_eq q ino) [
      | inl same ↦ (
          let drafted : draft_of new.overlay.drafts q ≡ Some e = ap (draft_of new.overlay.drafts) same ∙ redrafts.drafted in
          subst (λ (x : NodeDraft). StaysIn x b a) (one drafted is) (kept b (λ own. w.1 (ap (λ (k : ℕ). OfNode k b) same ∙ ap (OfNode ino) own)) (w.0.stays d (ap (draft_of old.overlay.drafts) same ∙ was))))
      | inr ne ↦ w.0.stays f (sym (redrafts.others q (in_places q w.0.lies.high) ne) ∙ is)
    ];
  }
    where
      kept : (b : NodeBlock) → b ≢ Own → StaysIn d b a → StaysIn e b a
      kept Own other stays = absurd (other refl)
      kept Pointers other stays = stays
      kept (Content i) other stays = stays

  lets_from : (x : LiveBlock) (a : ℕ) → IsCounted g image c new.overlay x a → Without (OfNode ino Own) (IsCounted g image c old.overlay) x a
  lets_from x a s = (back x s, λ own. true≢false ((subst (λ (y : LiveBlock). IsCounted g image c new.overlay y a) own s).stays e redrafts.drafted))
    where
      kept : (b : NodeBlock) → StaysIn e b a → StaysIn d b a
      kept Own stays = absurd (true≢false stays)
      kept Pointers stays = stays
      kept (Content i) stays = stays

      back : (x : LiveBlock) → IsCounted g image c new.overlay x a → IsCounted g image c old.overlay x a
      back (Table i) s = record { lies = s.lies; stays = tt }
      back (OfNode q b) s = record {
        lies = s.lies;
        stays = λ f is. elim (cases_eq q ino) [
          | inl same ↦ (
              let drafted : draft_of old.overlay.drafts q ≡ Some d = ap (draft_of old.overlay.drafts) same ∙ was in
              subst (λ (x : NodeDraft). StaysIn x b a) (one drafted is) (kept b (s.stays e (ap (draft_of new.overlay.drafts) same ∙ redrafts.drafted))))
          | inr ne ↦ s.stays f (redrafts.others q (in_places q s.lies.high) ne ∙ is)
        ];
      }

  live_now : (live : List ℕ) → length live ≡ g.log → AreCounted g.k (IsCounted g image c old.overlay) live → AreCounted g.k (IsCounted g image c new.overlay) (without_own g.k d live)
  live_now live size counted = recounted g.k (Without (OfNode ino Own) (IsCounted g image c old.overlay)) (IsCounted g image c new.overlay) (without_own g.k d live) lets_to lets_from
      (own_let_go g old ch.change.before image c has ino ch.number d was of (IsCounted g image c old.overlay) (λ x a s. s) live size counted (λ a s. s))

  pub shape_tally : (n : Tally) → IsTally g old image c n → IsTally g new image c (shape_counted g ino shape d n)
  shape_tally n t = record {
    numbers = length-set n.in_use ino (is_some shape) ∙ t.numbers;
    segments = length-own g.k d n.live ∙ t.segments;
    in_use = in_use_now n.in_use t.numbers t.in_use;
    charge = charge_now n.charge t.charge;
    live = counted_live g new.overlay image c (without_own g.k d n.live) (length-own g.k d n.live ∙ t.segments) (live_now n.live t.segments (counted_of g old image c n t));
  }
