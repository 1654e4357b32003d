-- An image has at most one tree of files.
use Rattle.std.proofs.Common.{◌≡◌, ℕ, ◌+◌, List, refl, sym, ◌∙◌, ap, subst}
use Rattle.hl_media.specs.History.{Image}
use Rattle.hl_addr.specs.Layout.{Layout}
use Rattle.hl_super.specs.Labels.{label_in}
use Rattle.hl_super.specs.Records.{Spells}
use Rattle.hl_super.specs.declared.label.Label.{Label}
use Rattle.hl_super.specs.declared.record.Record.{Record}
use Rattle.hl_super.proofs.LabelLemmas as labels
use Rattle.hl_image.specs.Newest.{IsNewestRecord, label_of, home_of}
use Rattle.hl_tree.specs.Rules as rules
use Rattle.hl_placed.specs.Blocks.{Shelf}
use Rattle.hl_placed.specs.Placed.{plain}
use Rattle.hl_paths.specs.Nodes.{HasTree}
use Rattle.hl_paths.proofs.Files.{one_tree}
use Rattle.hl_nodes.specs.Contents.{Contents}
use Rattle.hl_nodes.specs.Lines.{with_staged}
use Rattle.hl_nodes.specs.Files.{HasFiles}
use Rattle.hl_nodes.proofs.Determined.{one_contents, one_newest}

module _ (blocks : ℕ) (g : Layout) (image : Image) (shelf : Shelf) (a b : rules.Files) (x : HasFiles blocks g image shelf a) (y : HasFiles blocks g image shelf b) where
  same : x.contents ≡ y.contents
  same = one_contents g image x.contents y.contents x.has y.has

  placed_same : x.placed ≡ y.placed
  placed_same = one_tree y.contents.nodes x.placed y.placed (subst (λ (c : Contents). HasTree c.nodes x.placed) same x.tree) y.tree

  pub one_files : a ≡ b
  one_files =
      sym x.are
      ∙ ap (λ (c : Contents). plain (with_staged g image shelf c.tables.slots.slots) x.placed) same
      ∙ ap (plain (with_staged g image shelf y.contents.tables.slots.slots)) placed_same
      ∙ y.are

-- one label and one newest record name one site
module _ (blocks : ℕ) (image : Image) (shelf : Shelf) (g h : Layout) (a b : rules.Files) (x : HasFiles blocks g image shelf a) (y : HasFiles blocks h image shelf b) where
  labels_same : label_of g ≡ label_of h
  labels_same = sym (labels.only blocks (image 0) (label_in (image 0)) refl (label_of g) x.label) ∙ labels.only blocks (image 0) (label_in (image 0)) refl (label_of h) y.label

  newest_too : IsNewestRecord h image x.contents.rec
  newest_too = record {
    here = subst (λ (l : Label). Spells (home_of x.contents.rec.number) l (image (home_of x.contents.rec.number)) x.contents.rec) labels_same x.has.newest.here;
    other = λ r there. x.has.newest.other r (subst (λ (l : Label). Spells (home_of (x.contents.rec.number + 1)) l (image (home_of (x.contents.rec.number + 1))) r) (sym labels_same) there);
  }

  volumes_same : g.volumes ≡ h.volumes
  volumes_same = sym x.has.volumes ∙ ap (λ (r : Record). r.volumes) (one_newest h image x.contents.rec y.contents.rec newest_too y.has.newest) ∙ y.has.volumes

  pub one_site : g ≡ h
  one_site =
      ap (λ (l : Label). record { k = l.k; log = l.log; lines = l.lines; inodes = l.inodes; volumes = g.volumes }) labels_same
      ∙ ap (λ (v : List ℕ). record { k = h.k; log = h.log; lines = h.lines; inodes = h.inodes; volumes = v }) volumes_same
