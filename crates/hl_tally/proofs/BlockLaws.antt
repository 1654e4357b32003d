-- What is counted once a block of a drafted node was put, cleared or sent away.
use Rattle.std.proofs.Common.{◌≡◌, ◌≢◌, true≢false, inl, inr, ℕ, ◌+◌, ◌-◌, ◌<◌, ◌≤◌, Bool, List, length, Option, Some, None, is_some, refl, sym, ◌∙◌, ap, subst, arith}
use Rattle.std.specs.Prelude.{if◌then◌else◌, slice_index}
use Rattle.std.specs.FinMap.{get}
use Rattle.std.specs.List.{count_by}
use Rattle.std.proofs.lemmas.Bool.{cases_eq, cases_lt, le-leb, lt-leb}
use Rattle.hl_media.specs.History.{Image}
use Rattle.hl_addr.specs.Layout.{Layout}
use Rattle.hl_placed.specs.Blocks.{Block, is_here, is_hole, listed}
use Rattle.hl_placed.specs.Charges.{blocks_charge}
use Rattle.hl_paths.specs.Nodes.{Nodes, flat_charge}
use Rattle.hl_nodes.specs.Live.{LiveBlock, NodeBlock}
use Rattle.hl_nodes.specs.Live.LiveBlock.{OfNode, Table}
use Rattle.hl_nodes.specs.Live.NodeBlock.{Content, Own, Pointers}
use Rattle.hl_nodes.specs.Contents.{Contents, HasContents}
use Rattle.hl_nodes.proofs.Frame.{limits_of}
use Rattle.hl_nodes.proofs.PointerLemmas.{in_log-some}
use Rattle.hl_overlay.specs.declared.pointers.Pointer.TheVariants.{Hole}
use Rattle.hl_overlay.specs.declared.draft.NodeDraft.{NodeDraft}
use Rattle.hl_overlay.specs.declared.draft.Shape.{Shape}
use Rattle.hl_overlay.specs.Pointing.{is_hole_pointer, where_is}
use Rattle.hl_overlay.specs.Drafting.{IsDraft, blocks_of_shape}
use Rattle.hl_overlay.specs.DraftTables.{draft_of}
use Rattle.hl_overlay.specs.Overlays.{Holding, holding_of}
use Rattle.hl_overlay.proofs.TableLemmas.{blocks_most, is_draft_of}
use Rattle.hl_overlaid.specs.Changes.{block_held, with_block}
use Rattle.hl_overlaid.specs.NodesNow.{Overlaid, nodes_now, old_block}
use Rattle.hl_overlaid.specs.Over.{IsDraftOf}
use Rattle.hl_overlaid.proofs.Following.{held_kept}
use Rattle.hl_overlaid.proofs.NowLemmas.{one, with_node-other}
use Rattle.hl_overlaid.proofs.PutLemmas.{put_now, put_there}
use Rattle.hl_tally.specs.Tally.{IsTally, StaysIn, Tally}
use Rattle.hl_tally.specs.Counting.{ChangesBlock, block_counted, charge_at, charge_held, far_charge, own_charge, removed, without_block, without_own, without_pointer_block}
use Rattle.hl_tally.proofs.Alike.{AreLike, like_but_pointers, stays_others, stays_others_back}
use Rattle.hl_tally.proofs.BlockChange.{IsPut, is_put, others_put, put_holes, this_charged}
use Rattle.hl_tally.proofs.BlockCharges.{charge_parts, count_replaced}
use Rattle.hl_tally.proofs.DraftCharges.{changed_charged, changed_in_use, draft_block, now_charged, now_in_use}
use Rattle.hl_tally.proofs.DraftNodes.{here_is, hole_is}
use Rattle.hl_tally.proofs.Lives.{IsCounted, block_let_go, counted_live, counted_of, length-block, length-own, length-pointer_block, own_let_go, pointers_let_go}
use Rattle.hl_tally.proofs.NodeCharges.{charge_replaced, charged}
use Rattle.hl_tally.proofs.Segments.{AreCounted, Without, recounted}

module _ (g : Layout) (old new : Overlaid) (image : Image) (c : Contents) (ino i : ℕ) (h : Holding) (d e : NodeDraft) (ch : ChangesBlock g image c old new ino i h d e) where
  has : HasContents g image c
  has = ch.puts.change.has

  of : IsDraftOf g image c d
  of = ch.puts.change.over.drafts (slice_index old.overlay.drafts.places ino) d ch.was

  draft : IsDraft d
  draft = is_draft_of old.overlay.drafts ino d ch.puts.change.before.table ch.was

  draft_now : IsDraft e
  draft_now = is_draft_of new.overlay.drafts ino e ch.puts.change.after.table ch.is

  within : i < blocks_of_shape d.shape
  within = subst (λ (x : NodeDraft). i < blocks_of_shape x.shape) (one ch.puts.block.is ch.was) ch.puts.block.within

  small : i < 1036
  small = (let most = blocks_most d draft in omega (arith, within))

  in_places : (q : ℕ) → q < g.inodes → q < length old.overlay.drafts.places
  in_places q = subst (λ (k : ℕ). q < k) (sym ch.puts.change.before.numbers)

  put : IsPut old.overlay new.overlay i h d e
  put = is_put old.overlay new.overlay ino i h d e ch.was ch.is (in_places ino ch.puts.number) ch.puts.puts ch.puts.keeps

  like : (q : ℕ) → q < length old.overlay.drafts.places → q ≢ ino → AreLike old.overlay new.overlay (draft_of old.overlay.drafts q) (draft_of new.overlay.drafts q)
  like q lt ne = like_but_pointers old.overlay new.overlay q (ch.puts.keeps.others q lt ne) (λ j. ch.puts.puts.others q j lt (inl ne))

  others : (q : ℕ) → q ≢ ino → get (nodes_now new c.nodes) q ≡ get (nodes_now old c.nodes) q
  others q ne = (
      let n = put_there g image c old new ino i h ch.puts in
      let node = with_block n.0 i (block_held (old_block (get c.nodes ino) i) h) (slice_index new.uses ino) in
      ap (λ (m : Nodes). get m q) (put_now g image c old new ino i h ch.puts n.0 n.1) ∙ with_node-other (nodes_now old c.nodes) ino (Some node) q ne)

  -- THE CHARGE

  shape_there : (x : Option Shape) → i < blocks_of_shape x → own_charge x ≡ 1
  shape_there None lt = absurd (omega arith)
  shape_there (Some s) lt = refl

  abbrev size : ℕ
  size = blocks_of_shape d.shape

  abbrev before : ℕ → Block
  before = draft_block old c.nodes d

  abbrev now : ℕ → Block
  now = draft_block new c.nodes e

  holes : (j : ℕ) → j < size → is_hole (before j) ≡ is_hole_pointer (where_is d.pointers j)
  holes j lt = hole_is g image c has d of old.overlay.blocks j (let most = blocks_most d draft in omega (arith, lt))

  parts_before : blocks_charge (listed size before) ≡ 1 + far_charge d + count_by is_here (listed size before)
  parts_before = charge_parts before d.pointers size 1036 (blocks_most d draft) ch.pointers_before holes draft.ends

  ends_now : (j : ℕ) → size ≤ j → j < 1036 → where_is e.pointers j ≡ Hole
  ends_now j low high = draft_now.ends j (subst (λ (s : Option Shape). blocks_of_shape s ≤ j) (sym put.shape) low) high

  parts_now : blocks_charge (listed size now) ≡ 1 + far_charge e + count_by is_here (listed size now)
  parts_now = charge_parts now e.pointers size 1036 (blocks_most d draft) ch.pointers_now
      (put_holes old.overlay new.overlay i h ch.elsewhere d e put (get c.nodes) size holes) ends_now

  counts : count_by is_here (listed size now) + charge_at g (where_is d.pointers i) ≡ count_by is_here (listed size before) + charge_held h
  counts = ap (λ (n : ℕ). count_by is_here (listed size now) + n) (sym (here_is g image c has d of old.overlay.blocks i small))
      ∙ count_replaced before now size i within (others_put old.overlay new.overlay i h ch.elsewhere d e put (get c.nodes))
      ∙ ap (λ (n : ℕ). count_by is_here (listed size before) + n) (this_charged old.overlay new.overlay i h ch.elsewhere d e put (get c.nodes))

  charge_now : (n : ℕ) → n ≡ flat_charge (nodes_now old c.nodes) → (n + (charge_held h + far_charge e)) - (charge_at g (where_is d.pointers i) + far_charge d) ≡ flat_charge (nodes_now new c.nodes)
  charge_now n is =
      let whole = charge_replaced (nodes_now old c.nodes) (nodes_now new c.nodes) ino others in
      let was = now_charged g old ch.puts.change.before image c has d of draft ino ch.puts.number ch.was ∙ ap (λ (k : ℕ). k + blocks_charge (listed size before)) (shape_there d.shape within) in
      let after = changed_charged g new ch.puts.change.after c.nodes e ino ch.puts.number ch.is put.changed ∙ ap (λ (s : Option Shape). own_charge s + blocks_charge (listed (blocks_of_shape s) now)) put.shape
      ∙ ap (λ (k : ℕ). k + blocks_charge (listed size now)) (shape_there d.shape within) in
      reckon n (flat_charge (nodes_now old c.nodes)) (flat_charge (nodes_now new c.nodes)) (charged (get (nodes_now old c.nodes) ino)) (charged (get (nodes_now new c.nodes) ino))
      (far_charge d) (far_charge e) (count_by is_here (listed size before)) (count_by is_here (listed size now)) (charge_at g (where_is d.pointers i)) (charge_held h)
      is whole (was ∙ ap (λ (k : ℕ). 1 + k) parts_before) (after ∙ ap (λ (k : ℕ). 1 + k) parts_now) counts
    where
      reckon : (n flat flat' was is far far' there there' at held : ℕ) → n ≡ flat → flat' + was ≡ flat + is → was + 1 ≡ 1 + (1 + far + there) → is + 1 ≡ 1 + (1 + far' + there') → there' + at ≡ there + held
          → (n + (held + far')) - (at + far) ≡ flat'
      reckon n flat flat' was is far far' there there' at held a b x y z = omega arith

  -- THE NUMBERS IN USE

  in_use_now : (q : ℕ) → is_some (get (nodes_now old c.nodes) q) ≡ is_some (get (nodes_now new c.nodes) q)
  in_use_now q = elim (cases_eq q ino) [
    | inl same ↦ ap (λ (k : ℕ). is_some (get (nodes_now old c.nodes) k)) same ∙ now_in_use g old ch.puts.change.before image c has d of draft ino ch.puts.number ch.was ∙ ap is_some (sym put.shape)
        ∙ sym (ap (λ (k : ℕ). is_some (get (nodes_now new c.nodes) k)) same ∙ changed_in_use g new ch.puts.change.after c.nodes e ino ch.puts.number ch.is put.changed)
    | inr ne ↦ ap is_some (sym (others q ne))
  ]

  -- THE LIVE BLOCKS

  abbrev Was : LiveBlock → ℕ → Type 0
  Was = IsCounted g image c old.overlay

  -- without the inode's own block, the pointer block if it names the block, and the block
  abbrev First : LiveBlock → ℕ → Type 0
  First = Without (OfNode ino Own) Was

  pub record Second (x : LiveBlock) (a : ℕ) : Type 0 where
    pub is : First x a
    pub far : 12 ≤ i → x ≢ OfNode ino Pointers

  abbrev Third : LiveBlock → ℕ → Type 0
  Third = Without (OfNode ino (Content i)) Second

  pointers_own : (a b : NodeBlock) → a ≢ b → OfNode ino a ≢ OfNode ino b
  pointers_own a b ne e = ne (ap (λ (x : LiveBlock). node_block x) e)
    where
      node_block : LiveBlock → NodeBlock
      node_block (Table k) = Own
      node_block (OfNode q b) = b

  first_of : (live : List ℕ) → length live ≡ g.log → AreCounted g.k Was live → AreCounted g.k First (without_own g.k d live)
  first_of live size_is counted = own_let_go g old ch.puts.change.before image c has ino ch.puts.number d ch.was of Was (λ x a s. s) live size_is counted (λ a s. s)

  second_of : (live : List ℕ) → length live ≡ g.log → AreCounted g.k First live → AreCounted g.k Second (without_pointer_block g.k d i live)
  second_of live size_is counted = elim (cases_lt i 12) [
    | inl near ↦ subst (AreCounted g.k Second) (sym (ap (λ (b : Bool). if b then removed g.k live d.single else live) (lt-leb 12 i near)))
        (recounted g.k First Second live (λ x a s. record { is = s; far = λ low. absurd (omega arith) }) (λ x a s. s.is) counted)
    | inr far ↦ subst (AreCounted g.k Second) (sym (ap (λ (b : Bool). if b then removed g.k live d.single else live) (le-leb 12 i far)))
        (recounted g.k (Without (OfNode ino Pointers) First) Second (removed g.k live d.single) (λ x a s. record { is = s.0; far = λ low. s.1 }) (λ x a s. (s.is, s.far far))
        (pointers_let_go g old ch.puts.change.before image c has ino ch.puts.number d ch.was of First (λ x a s. s.0) live size_is counted (λ a s. (s, pointers_own Pointers Own (λ e. cc)))))
  ]

  third_of : (live : List ℕ) → length live ≡ g.log → AreCounted g.k Second live → AreCounted g.k Third (without_block g.k (where_is d.pointers i) live)
  third_of live size_is counted = block_let_go g old ch.puts.change.before image c has ino ch.puts.number d ch.was of Second (λ x a s. s.is.0) live size_is counted i small
      (λ a s. record { is = (s, pointers_own (Content i) Own (λ e. cc)); far = λ low. pointers_own (Content i) Pointers (λ e. cc) })

  -- none of the three stays
  own_gone : (a : ℕ) → IsCounted g image c new.overlay (OfNode ino Own) a → ⊥
  own_gone a s = true≢false (sym put.changed ∙ s.stays e ch.is)

  pointers_gone : 12 ≤ i → (a : ℕ) → IsCounted g image c new.overlay (OfNode ino Pointers) a → ⊥
  pointers_gone far a s =
      let none : e.single ≡ 4294967295 = put.single ∙ ap (λ (b : Bool). if b then 4294967295 else d.single) (le-leb 12 i far) in
      in_log-some g (limits_of g image c.rec has.newest has.volumes) a s.lies.lies.0 (sym (s.stays e ch.is) ∙ none)

  block_gone : (a : ℕ) → IsCounted g image c new.overlay (OfNode ino (Content i)) a → ⊥
  block_gone a s = ch.elsewhere a (sym put.here_now ∙ ap (holding_of new.overlay.blocks) (s.stays e ch.is))

  -- and each other does as it did
  kept : (b : NodeBlock) (a : ℕ) → b ≢ Own → (12 ≤ i → b ≢ Pointers) → b ≢ Content i → StaysIn d b a → StaysIn e b a
  kept Own a own far block stays = absurd (own refl)
  kept Pointers a own far block stays = elim (cases_lt i 12) [
    | inl near ↦ put.single ∙ ap (λ (b : Bool). if b then 4294967295 else d.single) (lt-leb 12 i near) ∙ stays
    | inr high ↦ absurd (far high refl)
  ]
  kept (Content j) a own far block stays = held_kept new.overlay.blocks (where_is e.pointers j) a (put.held j (λ same. block (ap Content same)) ∙ ap (holding_of old.overlay.blocks) stays)

  kept_back : (b : NodeBlock) (a : ℕ) → IsCounted g image c new.overlay (OfNode ino b) a → StaysIn d b a
  kept_back Own a s = absurd (own_gone a s)
  kept_back Pointers a s = elim (cases_lt i 12) [
    | inl near ↦ sym (put.single ∙ ap (λ (b : Bool). if b then 4294967295 else d.single) (lt-leb 12 i near)) ∙ s.stays e ch.is
    | inr far ↦ absurd (pointers_gone far a s)
  ]
  kept_back (Content j) a s = elim (cases_eq j i) [
    | inl same ↦ absurd (block_gone a (subst (λ (k : ℕ). IsCounted g image c new.overlay (OfNode ino (Content k)) a) same s))
    | inr ne ↦ held_kept old.overlay.blocks (where_is d.pointers j) a (sym (put.held j ne) ∙ ap (holding_of new.overlay.blocks) (s.stays e ch.is))
  ]

  lets_to : (x : LiveBlock) (a : ℕ) → Third x a → IsCounted g image c new.overlay x a
  lets_to (Table k) a w = record { lies = w.0.is.0.lies; stays = tt }
  lets_to (OfNode q b) a w = record {
    lies = w.0.is.0.lies;
    stays = elim (cases_eq q ino) [
      | inl same ↦ (λ f is.
          let node : (t : NodeBlock) → b ≡ t → OfNode q b ≡ OfNode ino t = λ t f. ap (λ (k : ℕ). OfNode k b) same ∙ ap (OfNode ino) f in
          let drafted : draft_of new.overlay.drafts q ≡ Some e = ap (draft_of new.overlay.drafts) same ∙ ch.is in
          subst (λ (x : NodeDraft). StaysIn x b a) (one drafted is)
          (kept b a (λ t. w.0.is.1 (node Own t)) (λ far t. w.0.far far (node Pointers t)) (λ t. w.1 (node (Content i) t)) (w.0.is.0.stays d (ap (draft_of old.overlay.drafts) same ∙ ch.was))))
      | inr ne ↦ stays_others old.overlay new.overlay q b a (like q (in_places q w.0.is.0.lies.high) ne) w.0.is.0.stays
    ];
  }

  lets_from : (x : LiveBlock) (a : ℕ) → IsCounted g image c new.overlay x a → Third x a
  lets_from x a s = (
    record {
      is = (back x s, λ t. own_gone a (at (OfNode ino Own) t));
      far = λ far t. pointers_gone far a (at (OfNode ino Pointers) t);
    },
    λ t. block_gone a (at (OfNode ino (Content i)) t),
  )
    where
      at : (y : LiveBlock) → x ≡ y → IsCounted g image c new.overlay y a
      at y t = subst (λ (z : LiveBlock). IsCounted g image c new.overlay z a) t s

      back : (x : LiveBlock) → IsCounted g image c new.overlay x a → IsCounted g image c old.overlay x a
      back (Table k) s = record { lies = s.lies; stays = tt }
      back (OfNode q b) s = record {
        lies = s.lies;
        stays = elim (cases_eq q ino) [
          | inl same ↦ (λ f is.
              let drafted : draft_of old.overlay.drafts q ≡ Some d = ap (draft_of old.overlay.drafts) same ∙ ch.was in
              subst (λ (x : NodeDraft). StaysIn x b a) (one drafted is) (kept_back b a (subst (λ (k : ℕ). IsCounted g image c new.overlay (OfNode k b) a) same s)))
          | inr ne ↦ stays_others_back old.overlay new.overlay q b a (like q (in_places q s.lies.high) ne) s.stays
        ];
      }

  abbrev live_then : List ℕ → List ℕ
  live_then live = without_block g.k (where_is d.pointers i) (without_pointer_block g.k d i (without_own g.k d live))

  size_then : (live : List ℕ) → length live ≡ g.log → length (live_then live) ≡ g.log
  size_then live size_is = length-block g.k (where_is d.pointers i) (without_pointer_block g.k d i (without_own g.k d live)) ∙ length-pointer_block g.k d i (without_own g.k d live) ∙ length-own g.k d live ∙ size_is

  live_now : (live : List ℕ) → length live ≡ g.log → AreCounted g.k Was live → AreCounted g.k (IsCounted g image c new.overlay) (live_then live)
  live_now live size_is counted =
      let own : length (without_own g.k d live) ≡ g.log = length-own g.k d live ∙ size_is in
      let both : length (without_pointer_block g.k d i (without_own g.k d live)) ≡ g.log = length-pointer_block g.k d i (without_own g.k d live) ∙ own in
      recounted g.k Third (IsCounted g image c new.overlay) (live_then live) lets_to lets_from
      (third_of (without_pointer_block g.k d i (without_own g.k d live)) both (second_of (without_own g.k d live) own (first_of live size_is counted)))

  pub block_tally : (n : Tally) → IsTally g old image c n → IsTally g new image c (block_counted g i h d e n)
  block_tally n t = record {
    numbers = t.numbers;
    segments = size_then n.live t.segments;
    in_use = λ q low high. t.in_use q low high ∙ in_use_now q;
    charge = charge_now n.charge t.charge;
    live = counted_live g new.overlay image c (live_then n.live) (size_then n.live t.segments) (live_now n.live t.segments (counted_of g old image c n t));
  }
