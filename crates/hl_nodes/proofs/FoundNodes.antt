-- The nodes of a list that was found.
use Rattle.std.proofs.Common.{◌≡◌, ℕ, zero, suc, ◌+◌, ◌<◌, ◌≤◌, List, [], ◌∷◌, length, sym, ◌∙◌, ap, subst, arith, cond, true, false, nat_eq, Bool}
use Rattle.std.specs.Prelude.{Option, Some, None, option_map, slice_index}
use Rattle.std.proofs.lemmas.List.{get_or_past}
use Rattle.hl_media.specs.History.{Image}
use Rattle.hl_addr.specs.Layout.{Layout}
use Rattle.hl_tables.specs.Values.{TableValues}
use Rattle.hl_nodes.specs.Nodes.{IsMapEntry, HasNodes}
use Rattle.std.specs.List.{slice_index_or}
use Rattle.std.specs.Ordering.{nat_cmp}
use Rattle.std.specs.Cmp.{unsigned_tied}
use Rattle.std.specs.FinMap.{get, get-empty, get-insert, insert}
use Rattle.std.proofs.lemmas.Cmp.{nat_cmp_total}
use Rattle.std.proofs.lemmas.Bool.Decides.{nat_tests}
use Rattle.hl_nodes.specs.declared.found.FoundNode.{FoundNode}
use Rattle.hl_paths.specs.Nodes.{FlatNode, Nodes}
use Rattle.hl_nodes.specs.Found.{node_found, found_from, nodes_found}

-- what a map has at a number once a node is put at one
at_number : (nodes : Nodes) (number : ℕ) (node : FlatNode) (ino : ℕ) (b : Bool) → nat_eq ino number ≡ b → get (insert nodes number node) ino ≡ cond b (Some node) (get nodes ino)
at_number nodes number node ino b e = get-insert nat_cmp_total nodes number node ino ∙ ap (λ (x : Bool). cond x (Some node) (get nodes ino)) (unsigned_tied ino number ∙ e)

-- none has a lower number
below : (from : ℕ) (found : List (Option FoundNode)) (ino : ℕ) → ino < from → get (found_from from found) ino ≡ None
below from [] ino lt = get-empty nat_cmp ino
below from (None ∷ rest) ino lt = below (from + 1) rest ino (omega arith)
below from (Some found ∷ rest) ino lt = at_number (found_from (from + 1) rest) from (node_found found) ino false (grind (arith, nat_tests)) ∙ below (from + 1) rest ino (omega arith)

from_at : (from : ℕ) (found : List (Option FoundNode)) (k ino : ℕ) → ino ≡ from + k → get (found_from from found) ino ≡ option_map node_found (slice_index_or found k None)
from_at from [] k ino e = get-empty nat_cmp ino
from_at from (None ∷ rest) zero ino e = below (from + 1) rest ino (omega arith)
from_at from (None ∷ rest) (suc k) ino e = from_at (from + 1) rest k ino (omega arith)
from_at from (Some found ∷ rest) zero ino e = at_number (found_from (from + 1) rest) from (node_found found) ino true (grind (arith, nat_tests))
from_at from (Some found ∷ rest) (suc k) ino e = at_number (found_from (from + 1) rest) from (node_found found) ino false (grind (arith, nat_tests)) ∙ from_at (from + 1) rest k ino (omega arith)

pub get-nodes_found : (found : List (Option FoundNode)) (ino : ℕ) → get (nodes_found found) ino ≡ option_map node_found (slice_index_or found ino None)
unfolding nodes_found
get-nodes_found found ino = from_at 0 found ino ino (omega arith)

-- they are the nodes of the image where each entry of the map is the one that was found
pub nodes_found-are : (g : Layout) (image : Image) (t : TableValues) (found : List (Option FoundNode)) → length found ≤ g.inodes → slice_index_or found 0 None ≡ None
    → ((ino : ℕ) → 1 ≤ ino → ino < g.inodes → IsMapEntry g t.slots image ino (slice_index t.inodes ino) (option_map node_found (slice_index_or found ino None))) → HasNodes g image t (nodes_found found)
nodes_found-are g image t found count none entries = record {
  entries = λ ino low high. subst (λ (n : Option FlatNode). IsMapEntry g t.slots image ino (slice_index t.inodes ino) n) (sym (get-nodes_found found ino)) (entries ino low high);
  zero = get-nodes_found found 0 ∙ ap (option_map node_found) none;
  past = λ ino high. get-nodes_found found ino ∙ ap (option_map node_found) (get_or_past found ino None (omega arith));
}
