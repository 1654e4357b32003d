-- What a drafted node is charged, by its pointers.
use Rattle.std.proofs.Common.{◌≡◌, ℕ, ◌+◌, ◌<◌, Bool, true, false, length, Option, Some, None, is_some, option_map, add_comm, refl, sym, ◌∙◌, ap, subst}
use Rattle.std.specs.Prelude.{if◌then◌else◌, slice_index}
use Rattle.std.specs.FinMap.{get}
use Rattle.std.proofs.lemmas.List.{get_or_default, same_lists}
use Rattle.hl_media.specs.History.{Image}
use Rattle.hl_addr.specs.Layout.{Layout}
use Rattle.hl_placed.specs.Blocks.{Block, blocks_of, file_block, listed}
use Rattle.hl_placed.specs.Blocks as blocks
use Rattle.hl_placed.specs.Charges.{blocks_charge}
use Rattle.hl_paths.specs.Nodes.{FlatNode, Nodes}
use Rattle.hl_nodes.specs.Nodes.{IsMapEntry, IsNodeAt}
use Rattle.hl_nodes.specs.Contents.{Contents, HasContents}
use Rattle.hl_overlay.specs.declared.draft.NodeDraft.{NodeDraft}
use Rattle.hl_overlay.specs.declared.draft.Shape.{Shape}
use Rattle.hl_overlay.specs.Pointing.{where_is}
use Rattle.hl_overlay.specs.Drafting.{IsDraft, blocks_of_shape}
use Rattle.hl_overlay.specs.DraftTables.{draft_of}
use Rattle.hl_overlaid.specs.NodesNow.{IsOverlaid, Overlaid, block_now, draft_node, drafted_now, nodes_now, shaped_node}
use Rattle.hl_overlaid.specs.Over.{IsAsRead, IsDraftOf}
use Rattle.hl_overlaid.proofs.NowLemmas.{now_changed, now_drafted}
use Rattle.hl_tally.specs.Counting.{own_charge}
use Rattle.hl_tally.proofs.NodeCharges.{charged}
use Rattle.hl_tally.proofs.BlockCharges.{listed_at, listed_length}
use Rattle.hl_tally.proofs.DraftNodes.{unchanged_block}

-- the blocks of a drafted node
abbrev pub draft_block : Overlaid → Nodes → NodeDraft → ℕ → Block
draft_block o last d i = block_now (get last d.ino) o.overlay.blocks i (where_is d.pointers i)

-- they are charged, besides what a number in use is
pub shaped_charge : (o : Overlaid) (last : Nodes) (d : NodeDraft) → charged (draft_node o last d) + 1 ≡ own_charge d.shape + blocks_charge (listed (blocks_of_shape d.shape) (draft_block o last d))
shaped_charge o last d = by d.shape
  where
    by : (x : Option Shape) → charged (option_map (shaped_node (get last d.ino) o.overlay.blocks (slice_index o.uses d.ino) d.pointers) x) + 1 ≡ own_charge x + blocks_charge (listed (blocks_of_shape x) (draft_block o last d))
    by None = refl
    by (Some s) = add_comm (blocks_charge (listed (blocks_of s.size) (draft_block o last d))) 1

in_use_by : (o : Overlaid) (last : Nodes) (d : NodeDraft) → is_some (draft_node o last d) ≡ is_some d.shape
in_use_by o last d = by d.shape
  where
    by : (x : Option Shape) → is_some (option_map (shaped_node (get last d.ino) o.overlay.blocks (slice_index o.uses d.ino) d.pointers) x) ≡ is_some x
    by None = refl
    by (Some s) = refl

-- A NUMBER WHOSE DRAFT IS CHANGED

module _ (g : Layout) (o : Overlaid) (whole : IsOverlaid g o) (last : Nodes) (d : NodeDraft) (ino : ℕ) (high : ino < g.inodes) (is : draft_of o.overlay.drafts ino ≡ Some d) (changed : d.changed ≡ true) where
  changed_node : get (nodes_now o last) ino ≡ draft_node o last d
  changed_node = now_changed o whole.table last ino d (subst (λ (n : ℕ). ino < n) (sym whole.numbers) high) is changed

  pub changed_charged : charged (get (nodes_now o last) ino) + 1 ≡ own_charge d.shape + blocks_charge (listed (blocks_of_shape d.shape) (draft_block o last d))
  changed_charged = ap (λ (x : Option FlatNode). charged x + 1) changed_node ∙ shaped_charge o last d

  pub changed_in_use : is_some (get (nodes_now o last) ino) ≡ is_some d.shape
  changed_in_use = ap is_some changed_node ∙ in_use_by o last d

-- A NUMBER WHOSE DRAFT IS OF WHAT AN IMAGE HAS

module _ (g : Layout) (o : Overlaid) (whole : IsOverlaid g o) (image : Image) (c : Contents) (has : HasContents g image c) (d : NodeDraft) (of : IsDraftOf g image c d) (draft : IsDraft d) where
  -- a draft that isn't changed makes the blocks that the node has
  module _ (unchanged : d.changed ≡ false) (high : d.ino < g.inodes) where
    blocks_read : (node : FlatNode) → get c.nodes d.ino ≡ Some node → listed (blocks_of node.content.size) (draft_block o c.nodes d) ≡ node.content.blocks
    blocks_read node there = (
        let at : IsNodeAt g c.tables.slots image d.ino (slice_index c.tables.inodes d.ino) node =
        subst (IsMapEntry g c.tables.slots image d.ino (slice_index c.tables.inodes d.ino)) there (has.nodes.entries d.ino draft.number high) in
        let F = draft_block o c.nodes d in
        let size = blocks_of node.content.size in
        let count : length node.content.blocks ≡ size = at.is.count ∙ ap blocks_of (sym at.is.size_is) in
        same_lists (listed size F) node.content.blocks (listed_length F size ∙ sym count)
        (λ k x lt.
        let low : k < size = subst (λ (n : ℕ). k < n) (listed_length F size) lt in
        listed_at F size k x low ∙ unchanged_block g image c has d of draft unchanged o.overlay.blocks node there k low
        ∙ get_or_default node.content.blocks k blocks.Hole x (subst (λ (n : ℕ). k < n) (sym count) low)))

    read_alike : (x : Option FlatNode) → get c.nodes d.ino ≡ x → IsAsRead x d → (charged x ≡ charged (draft_node o c.nodes d)) × (is_some x ≡ is_some (draft_node o c.nodes d))
    read_alike None there none = (
        let e = ap (option_map (shaped_node (get c.nodes d.ino) o.overlay.blocks (slice_index o.uses d.ino) d.pointers)) none in
        (sym (ap charged e), sym (ap is_some e)))
    read_alike (Some node) there read = (
        let e = ap (option_map (shaped_node (get c.nodes d.ino) o.overlay.blocks (slice_index o.uses d.ino) d.pointers)) read.0 in
        (sym (ap blocks_charge (blocks_read node there)) ∙ sym (ap charged e), sym (ap is_some e)))

  module _ (ino : ℕ) (high : ino < g.inodes) (is : draft_of o.overlay.drafts ino ≡ Some d) where
    low : ino < length o.overlay.drafts.places
    low = subst (λ (n : ℕ). ino < n) (sym whole.numbers) high

    own : d.ino ≡ ino
    own = whole.table.own ino d low is

    now_alike : (charged (get (nodes_now o c.nodes) ino) ≡ charged (draft_node o c.nodes d)) × (is_some (get (nodes_now o c.nodes) ino) ≡ is_some (draft_node o c.nodes d))
    now_alike = (
        let at : get (nodes_now o c.nodes) ino ≡ drafted_now o c.nodes ino (Some d) = now_drafted o whole.table c.nodes ino (Some d) low is in
        let both = by d.changed refl in
        (ap charged at ∙ both.0, ap is_some at ∙ both.1))
      where
        by : (b : Bool) → d.changed ≡ b
            → (charged (if b then draft_node o c.nodes d else get c.nodes ino) ≡ charged (draft_node o c.nodes d)) × (is_some (if b then draft_node o c.nodes d else get c.nodes ino) ≡ is_some (draft_node o c.nodes d))
        by true e = (refl, refl)
        by false e = read_alike e (subst (λ (n : ℕ). n < g.inodes) (sym own) high) (get c.nodes ino) (ap (get c.nodes) own) (subst (λ (n : ℕ). IsAsRead (get c.nodes n) d) own (of.as_read e))

    -- a drafted number is charged what its blocks are, and in use if it has a shape
    pub now_charged : charged (get (nodes_now o c.nodes) ino) + 1 ≡ own_charge d.shape + blocks_charge (listed (blocks_of_shape d.shape) (draft_block o c.nodes d))
    now_charged = ap (λ (n : ℕ). n + 1) now_alike.0 ∙ shaped_charge o c.nodes d

    pub now_in_use : is_some (get (nodes_now o c.nodes) ino) ≡ is_some d.shape
    now_in_use = now_alike.1 ∙ in_use_by o c.nodes d
