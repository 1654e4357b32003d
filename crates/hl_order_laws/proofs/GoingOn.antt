-- The same nodes in another image, whose staged lines are as they were.
use Rattle.std.proofs.Common.{◌≡◌, ℕ, suc, ◌+◌, ◌-◌, ◌<◌, ◌≤◌, List, [], ◌∷◌, get_or, refl, sym, ap, ◌∙◌, subst, arith}
use Rattle.std.specs.FinMap.{insert}
use Rattle.hl_media.specs.History.{Image}
use Rattle.hl_media.proofs.Images.{area_same}
use Rattle.hl_addr.specs.Layout.{Layout, quota}
use Rattle.hl_super.specs.Labels.{Spells}
use Rattle.hl_image.specs.Newest.{label_of}
use Rattle.hl_tree.specs.Rules as rules
use Rattle.hl_tseg.specs.Segments.{SpellsSegment}
use Rattle.hl_tseg.specs.SlotTable.{SlotTable, slot_at}
use Rattle.hl_tseg.specs.declared.slot.Slot.{Slot}
use Rattle.hl_tseg.specs.declared.slot.Slot.TheVariants.{Free, Staged, Home, Spoilt}
use Rattle.hl_placed.specs.Blocks.{Away, Shelf}
use Rattle.hl_placed.specs.Placed.{PlacedTree, plain}
use Rattle.hl_paths.specs.Nodes.{HasTree, Nodes, flat_charge}
use Rattle.hl_nodes.specs.Lines.{IsZeroFrom, line_bytes, line_start, with_staged}
use Rattle.hl_nodes.specs.Contents.{Contents, HasContents}
use Rattle.hl_nodes.specs.Sound.{HasSound}
use Rattle.hl_nodes.specs.Files.{HasFiles, Serves, shelf_with}
use Rattle.hl_nodes.specs.Order.{HoldsLines, IsInOrder}
use Rattle.hl_nodes.specs.Verdicts.{KeepsRules}
use Rattle.hl_nodes.proofs.Determined.{one_contents}
use Rattle.hl_nodes.proofs.Frame.{limits_of}
use Rattle.hl_nodes.proofs.OrderKeeps.{order_none}
use Rattle.hl_nodes.proofs.OrderMade.{order_made}
use Rattle.hl_order_laws.specs.LastBlocks.{EndLines, EndNodes, IsLast}
use Rattle.hl_order_laws.specs.GoingOn.{HasSame, KeepsLines}
use Rattle.hl_order_laws.proofs.LastBlocks.{last_within, order_lines, order_nodes, order_of_ends}

-- a staged line has the bytes that it had
pub line_kept : (g : Layout) (slots : SlotTable) (a b : Image) → KeepsLines g slots a b → (n line serial : ℕ) → slot_at slots n ≡ Staged line serial → line_bytes g b line ≡ line_bytes g a line
line_kept g slots a b keeps n line serial staged = area_same b a (line_start g line) g.k by
  where
    by : (k : ℕ) → line_start g line ≤ k → k < line_start g line + g.k → b k ≡ a k
    by k low high =
        let i : line_start g line + (k - line_start g line) ≡ k = omega arith in
        subst (λ (j : ℕ). b j ≡ a j) i (keeps n line serial (k - line_start g line) staged (omega arith))

-- a shelf with the segments that are staged is what it was
pub staged_kept : (g : Layout) (a b : Image) (shelf : Shelf) (slots : List Slot) → ((n line serial : ℕ) → get_or slots n Free ≡ Staged line serial → line_bytes g b line ≡ line_bytes g a line)
    → with_staged g b shelf slots ≡ with_staged g a shelf slots
staged_kept g a b shelf [] same = refl
staged_kept g a b shelf (Staged line serial ∷ slots) same =
    ap (λ (s : Shelf). insert s serial (line_bytes g b line)) (staged_kept g a b shelf slots (λ n. same (suc n)))
    ∙ ap (λ (bytes : List ℕ). insert (with_staged g a shelf slots) serial bytes) (same 0 line serial refl)
staged_kept g a b shelf (Home serial ∷ slots) same = staged_kept g a b shelf slots (λ n. same (suc n))
staged_kept g a b shelf (Free ∷ slots) same = staged_kept g a b shelf slots (λ n. same (suc n))
staged_kept g a b shelf (Spoilt ∷ slots) same = staged_kept g a b shelf slots (λ n. same (suc n))

-- staged lines hold the segments that they held
pub lines_hold : (g : Layout) (slots : SlotTable) (a b : Image) → KeepsLines g slots a b → HoldsLines g a slots → HoldsLines g b slots
lines_hold g slots a b keeps held n line serial staged =
    let was = held n line serial staged in
    (was.0, subst (λ (bytes : List ℕ). SpellsSegment g.k bytes was.0) (sym (line_kept g slots a b keeps n line serial staged)) was.1, was.2)

-- a block of a staged line is what it was
block_kept : (g : Layout) (slots : SlotTable) (a b : Image) → KeepsLines g slots a b → (nodes : Nodes) → EndLines g a slots nodes
    → ((serial position end : ℕ) → IsLast nodes (Away serial position) end → position < g.k) → EndLines g b slots nodes
block_kept g slots a b keeps nodes ends within n line serial position end staged is =
    subst (λ (bytes : List ℕ). IsZeroFrom end bytes) (sym (keeps n line serial position staged (within serial position end is))) (ends n line serial position end staged is)

module _ (g : Layout) (a b : Image) (c d : Contents) where
  -- CONTENTS WITH THE SAME NODES STAY IN ORDER
  pub order_kept : (placed : PlacedTree) → IsInOrder g a c placed → HasSound g b d → HasSame c d → KeepsLines g c.tables.slots a b → IsInOrder g b d placed
  order_kept placed is sound same keeps = order_of_ends g b d placed sound
      (subst (λ (nodes : Nodes). HasTree nodes placed) (sym same.nodes) is.tree)
      (subst (λ (slots : SlotTable). HoldsLines g b slots) (sym same.slots) (lines_hold g c.tables.slots a b keeps is.lines))
      (subst EndNodes (sym same.nodes) (order_nodes g a c placed is))
      (subst (λ (nodes : Nodes). EndLines g b d.tables.slots nodes) (sym same.nodes) (subst (λ (slots : SlotTable). EndLines g b slots c.nodes) (sym same.slots) lines))
      (subst (λ (nodes : Nodes). flat_charge nodes ≤ quota g) (sym same.nodes) is.charge)
    where
      lines : EndLines g b c.tables.slots c.nodes
      lines = block_kept g c.tables.slots a b keeps c.nodes (order_lines g a c placed is) (last_within g (limits_of g a c.rec is.has.newest is.has.volumes) a c.tables c.nodes is.has.nodes)

  -- THE OTHER IMAGE HAS THE FILES
  module _ (blocks : ℕ) (shelf : Shelf) (files : rules.Files) (x : HasFiles blocks g a shelf files) (has : HasContents g a c) (sound : HasSound g b d) (same : HasSame c d)
      (keeps : KeepsLines g c.tables.slots a b) (label : b 0 ≡ a 0) where
    contents_are : x.contents ≡ c
    contents_are = one_contents g a x.contents c x.has has

    rules_kept : KeepsRules g a
    rules_kept = record { rec = x.contents.rec; parts = x.contents.parts; newest = x.has.newest; volumes = x.has.volumes; chain = x.has.chain; none = x.keeps_rules }

    in_order : (placed : PlacedTree) × IsInOrder g a c placed
    in_order =
        let made = order_made g a rules_kept in
        (made.1, subst (λ (e : Contents). IsInOrder g a e made.1) (one_contents g a made.0 c made.2.has has) made.2)

    -- the shelf with staged segments is the same
    shelf_kept : shelf_with g b shelf d ≡ shelf_with g a shelf x.contents
    shelf_kept =
        ap (λ (slots : SlotTable). with_staged g b shelf slots.slots) same.slots
        ∙ staged_kept g a b shelf c.tables.slots.slots (line_kept g c.tables.slots a b keeps)
        ∙ ap (λ (e : Contents). shelf_with g a shelf e) (sym contents_are)

    pub files_kept : HasFiles blocks g b shelf files
    files_kept = record {
      label = subst (λ (bytes : List ℕ). Spells blocks bytes (label_of g)) (sym label) x.label;
      contents = d;
      has = sound.has;
      keeps_rules = order_none g b d in_order.0 (order_kept in_order.0 in_order.1 sound same keeps);
      placed = x.placed;
      tree = subst (λ (nodes : Nodes). HasTree nodes x.placed) (ap (λ (e : Contents). e.nodes) contents_are ∙ sym same.nodes) x.tree;
      serves = subst (λ (s : Shelf). Serves s x.placed) (sym shelf_kept) x.serves;
      are = ap (λ (s : Shelf). plain s x.placed) shelf_kept ∙ x.are;
    }
