-- An image that breaks none of the rules 1 to 15 has contents that are in order.
use Rattle.std.proofs.Common.{◌≡◌, ⊎_elim, ℕ, ◌%◌, ◌<◌, ◌≤◌, List, length, get_or, refl, arith}
use Rattle.std.proofs.lemmas.Bool.{cases_lt}
use Rattle.std.proofs.lemmas.List.{get_or_past}
use Rattle.hl_media.specs.History.{Image}
use Rattle.hl_addr.specs.Layout.{Layout, quota}
use Rattle.hl_tables.specs.Values.{TableValues}
use Rattle.hl_placed.specs.Placed.{PlacedTree}
use Rattle.hl_paths.specs.Nodes.{Nodes, HasTree, flat_charge}
use Rattle.hl_nodes.specs.declared.rule.Rule.TheVariants.{LineBytes, LastBlock, Quota}
use Rattle.hl_nodes.specs.Nodes.{HasNodes}
use Rattle.hl_nodes.specs.Contents.{Contents}
use Rattle.hl_nodes.specs.Sound.{IsSound}
use Rattle.hl_nodes.specs.Lines.{line_start, line_bytes, IsZeroFrom}
use Rattle.hl_nodes.specs.Verdicts.{KeepsRules}
use Rattle.hl_nodes.specs.Order.{IsInOrder}
use Rattle.hl_nodes.proofs.Deciding.{Decided, certain, where_so, alike, is_equal, is_at_most, all_below}
use Rattle.hl_nodes.proofs.SegmentDecided.{segment_or_not}
use Rattle.hl_nodes.proofs.Unbroken.{IsUnbroken, unbroken}
use Rattle.hl_nodes.proofs.NodesMade.{nodes_made}
use Rattle.hl_nodes.proofs.SoundMade.{sound_made}
use Rattle.hl_nodes.proofs.TreeMade.{tree_made}

-- bytes are zero from a place on, or aren't
zero_or_not : (from : ℕ) (bytes : List ℕ) → Decided (IsZeroFrom from bytes)
zero_or_not from bytes = alike
    (λ f k le. ⊎_elim (λ lt. f k lt le) (λ ge. get_or_past bytes k 0 ge) (cases_lt k (length bytes)))
    (λ f k lt le. f k le)
    (all_below (λ k. from ≤ k → get_or bytes k 0 ≡ 0) (length bytes) (λ k lt. where_so (is_at_most from k) (λ le. is_equal (get_or bytes k 0) 0)))

module _ (g : Layout) (image : Image) (is : KeepsRules g image) where
  tables : TableValues
  tables = (unbroken g image is).0

  un : IsUnbroken g image is.rec is.parts tables
  unfolding tables
  un = (unbroken g image is).1

  nodes : (nodes : Nodes) × HasNodes g image tables nodes
  nodes = nodes_made g image is.rec is.parts tables un

  contents : Contents
  contents = record { rec = is.rec; parts = is.parts; tables = tables; nodes = nodes.0 }

  sound : IsSound g image contents
  unfolding contents
  sound = sound_made g image is.rec is.parts tables un nodes.0 nodes.1

  tree : (placed : PlacedTree) × HasTree nodes.0 placed
  unfolding contents
  tree = tree_made g image is.rec is.parts tables un nodes.0 nodes.1 (sound.root, sound.root_is, sound.root_dir)

  pub order_made : (c : Contents) × (placed : PlacedTree) × IsInOrder g image c placed
  unfolding contents
  order_made = (
    contents,
    tree.0,
    record {
      has = record { newest = is.newest; volumes = is.volumes; chain = is.chain; tables = un.has; nodes = nodes.1 };
      sound = sound;
      tree = tree.1;
      lines = λ n line serial staged. certain (segment_or_not g.k (line_bytes g image line) serial)
          (λ never. un.none LineBytes (omega arith) (line_start g line) (n, line, serial, staged, refl, λ head spelled own. never (head, spelled, own)));
      ends = λ ino own address v at file part lies. certain (zero_or_not (v.size % 4096) (image address))
          (λ never. un.none LastBlock (omega arith) address (ino, own, v, at, file, part, lies, never));
      charge = certain (is_at_most (flat_charge nodes.0) (quota g)) (λ over. un.none Quota (omega arith) 0 (nodes.0, nodes.1, by over, refl));
    },
  )
    where
      by : (flat_charge nodes.0 ≤ quota g → ⊥) → quota g < flat_charge nodes.0
      by over = ⊎_elim (λ h. h) (λ h. absurd (over h)) (cases_lt (quota g) (flat_charge nodes.0))
