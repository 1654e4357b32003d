use Rattle.std.proofs.Common.{◌≡◌, ℕ, ◌≤◌, List, refl, sym, ap, ◌∙◌, subst}
use Rattle.std.specs.Prelude.{Option}
use Rattle.hl_bytes.specs.Buffers.{block_of}
use Rattle.hl_addr.specs.Layout.{quota}
use Rattle.hl_tseg.specs.SlotTable.{SlotTable}
use Rattle.hl_placed.specs.Placed.{plain}
use Rattle.hl_paths.specs.Nodes.{HasTree, Spell, flat_charge}
use Rattle.hl_nodes.specs.Found.{nodes_found}
use Rattle.hl_nodes.specs.Files.{shelf_with}
use Rattle.hl_nodes.specs.Lines.{with_staged}
use Rattle.hl_nodes.specs.Order.{HoldsLines}
use Rattle.hl_nodes.specs.Sound.{IsSound}
use Rattle.hl_nodes.specs.declared.found.FoundNode.{FoundNode}
use Rattle.hl_found.specs.declared.shelves.ShelfSegment.{ShelfSegment}
use Rattle.hl_found.specs.Directories.{AreUses, HasUses}
use Rattle.hl_found.specs.Files.{ServesNodes}
use Rattle.hl_found.specs.Found.{contents_found}
use Rattle.hl_found.specs.Reach.{ArePlaces, HaveNames}
use Rattle.hl_found.specs.Shelves.{at_hand, shelf_of, shelf_over}
use Rattle.hl_found.proofs.DirectoriesFound.{have_names}
use Rattle.hl_found.proofs.FewBlocks.{few_found, past_found, root_entries}
use Rattle.hl_found.proofs.FilesFound.{tree_linked, tree_found, served_found}
use Rattle.hl_found.proofs.SoundFound.{sound_root}
use Rattle.hl_found.proofs.files.tree_in.Goals as goal

pub charge_is_within-requires : goal.charge_is_within-requires
charge_is_within-requires c = few_found c.args.geometry.now (block_of c.args.image.now) c.args.found.now c.requires.found c.as_slice-nodes.result.now c.as_slice-nodes.ensures.value

pub uses_of-requires : goal.uses_of-requires
uses_of-requires c = few_found c.args.geometry.now (block_of c.args.image.now) c.args.found.now c.requires.found c.as_slice-nodes.result.now c.as_slice-nodes.ensures.value

pub returns-in_default : goal.returns-in_default
returns-in_default c = λ files has.
    let none = rw c.in_default.is at c.in_ok-uses.ensures in
    none has.placed (subst (λ (l : List (Option FoundNode)). HasTree (nodes_found l) has.placed) (sym c.as_slice-nodes.ensures.value) has.order.tree)

pub places_of-requires : goal.places_of-requires
places_of-requires c =
    let uses = rw c.in-Some.is at c.in_ok-uses.ensures in
    record { names = subst HaveNames (sym c.as_slice.ensures.value) (have_names (nodes_found c.as_slice-nodes.result.now) c.in-Some.uses.items uses) }

pub returns-in_default-2 : goal.returns-in_default-2
returns-in_default-2 c = λ files has.
    let nodes = nodes_found c.as_slice-nodes.result.now in
    let uses = rw c.in-Some.is at c.in_ok-uses.ensures in
    let none = rw c.in_default-2.is at c.in_ok-reached.ensures in
    let tree = subst (λ (l : List (Option FoundNode)). HasTree (nodes_found l) has.placed) (sym c.as_slice-nodes.ensures.value) has.order.tree in
    let linked = tree_linked nodes uses.numbered uses.spelled uses.entries has.placed tree in
    none uses.numbered (subst (AreUses uses.numbered) (sym c.as_slice.ensures.value) uses.are) uses.entries linked.root linked

pub serves_nodes-requires : goal.serves_nodes-requires
serves_nodes-requires c = few_found c.args.geometry.now (block_of c.args.image.now) c.args.found.now c.requires.found c.as_slice-nodes.result.now c.as_slice-nodes.ensures.value

pub returns-then-not-serves_nodes : goal.returns-then-not-serves_nodes
returns-then-not-serves_nodes c = λ files has.
    let g = c.args.geometry.now in
    let image = block_of c.args.image.now in
    let f = c.args.found.now in
    let shelf = shelf_of c.args.shelf.now in
    let own = at_hand c.as_slice-2.result.now c.args.shelf.now in
    let slots = c.items.ensures.value ∙ ap (λ (s : SlotTable). s.slots) c.slots-2.ensures in
    let own_is : own ≡ shelf_with g image shelf (contents_found f) = ap (shelf_over shelf) c.as_slice-2.ensures.value ∙ c.in_ok-staged.ensures shelf ∙ ap (with_staged g image shelf) slots in
    let served = served_found g image (contents_found f) f.nodes.items shelf own files refl own_is has in
    let e = c.if-not-serves_nodes.ensures.1 (subst (ServesNodes own) (sym c.as_slice-nodes.ensures.value) served) in
    absurd (cc)

pub tree_of-requires-clause-past : goal.tree_of-requires-clause-past
tree_of-requires-clause-past c = past_found c.args.geometry.now (block_of c.args.image.now) c.args.found.now c.requires.found c.as_slice-nodes.result.now c.as_slice-nodes.ensures.value

pub returns : goal.returns
returns c =
    let g = c.args.geometry.now in
    let bytes = c.args.image.now in
    let image = block_of bytes in
    let f = c.args.found.now in
    let shelf = shelf_of c.args.shelf.now in
    let own = at_hand c.as_slice-2.result.now c.args.shelf.now in
    let nodes = c.as_slice-nodes.result.now in
    let same : nodes ≡ f.nodes.items = c.as_slice-nodes.ensures.value in
    let slots = c.items.ensures.value ∙ ap (λ (s : SlotTable). s.slots) c.slots-2.ensures in
    let own_is : own ≡ shelf_with g image shelf (contents_found f) = ap (shelf_over shelf) c.as_slice-2.ensures.value ∙ c.in_ok-staged.ensures shelf ∙ ap (with_staged g image shelf) slots in
    let sound : IsSound g image (contents_found f) = c.in_ok-sound.ensures.0 c.if-not-sound.false in
    let lines : HoldsLines g image f.tables.slots = subst (HoldsLines g image) c.slots.ensures (c.in_ok-held.ensures.0 c.if-not-held.false) in
    let within = c.if-not-charge_is_within.ensures.0 refl in
    let charge : flat_charge (nodes_found f.nodes.items) ≤ quota g = subst (λ (l : List (Option FoundNode)). flat_charge (nodes_found l) ≤ quota g) same (subst (λ (q : ℕ). flat_charge (nodes_found nodes) ≤ q) c.quota.ensures within) in
    let uses : HasUses (nodes_found nodes) c.in-Some.uses.items = rw c.in-Some.is at c.in_ok-uses.ensures in
    let spelled : Spell (nodes_found f.nodes.items) uses.numbered = subst (λ (l : List (Option FoundNode)). Spell (nodes_found l) uses.numbered) same uses.spelled in
    let found = rw c.in-Some-2.is at c.in_ok-reached.ensures in
    let places = found uses.numbered (subst (AreUses uses.numbered) (sym c.as_slice.ensures.value) uses.are) uses.entries
    (root_entries (nodes_found f.nodes.items) uses.numbered spelled (sound_root g image (contents_found f) sound)) in
    let served = subst (ServesNodes own) same (c.if-not-serves_nodes.ensures.0 refl) in
    tree_found g bytes (contents_found f) f.nodes.items refl shelf own own_is c.requires.found.has sound lines charge uses.numbered spelled places.0 served c.in_ok-tree.tree.tree
    (λ placed tree_is. ap (λ (l : List ShelfSegment). plain (at_hand l c.args.shelf.now) placed) (c.as_slice-2.ensures.value ∙ sym c.as_slice-3.ensures.value)
    ∙ c.in_ok-tree.ensures uses.numbered placed uses.spelled (subst (ArePlaces uses.numbered) (sym c.as_slice-4.ensures.value) places.1) tree_is)
