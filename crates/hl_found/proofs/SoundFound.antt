-- Contents whose parts were found sound are sound.
use Rattle.std.proofs.Common.{◌≡◌, ℕ, false, length, refl, ◌∙◌}
use Rattle.std.specs.Prelude.{slice_index}
use Rattle.std.proofs.lemmas.List.{length-replicate}
use Rattle.hl_media.specs.History.{Image}
use Rattle.hl_addr.specs.Layout.{Layout, IsWithinLimits}
use Rattle.hl_tables.specs.Values.{AreTables}
use Rattle.hl_nodes.specs.Contents.{Contents, HasContents, next_tertiary}
use Rattle.hl_nodes.specs.Live.LiveBlock.{Table}
use Rattle.hl_nodes.specs.Sound.{IsSound, AwayOnce, AreSlots}
use Rattle.hl_nodes.proofs.LaidTables.{laid_are_tables}
use Rattle.hl_nodes.proofs.Frame.{limits_of}
use Rattle.hl_found.specs.Listing.{LieApart}
use Rattle.hl_found.specs.Segments.{AreInPlace}
use Rattle.hl_found.specs.Soundness.{HasRoot}

module _ (g : Layout) (image : Image) (c : Contents) where
  same_index : (i j : ℕ) → Table i ≡ Table j → i ≡ j
  same_index i j e = cc

  pub are_sound : slice_index c.tables.inodes 0 ≡ 4294967295 → HasRoot c.nodes → LieApart g image c.rec c.tables → AreInPlace g image c.rec c.parts c.tables → AwayOnce c.nodes → AreSlots g c.tables.slots (next_tertiary c) → IsSound g image c
  are_sound zero root apart place away slots = record {
    tables_once = λ i j li lj same. same_index i j (apart (Table i) (Table j) (slice_index c.rec.tables j) (li, same) (lj, refl));
    no_zero = zero;
    root = root.root;
    root_is = root.is;
    root_dir = root.dir;
    one_block = apart;
    away_once = away;
    used = place.used;
    behind = place.behind;
    slots = slots;
  }

  pub sound_root : IsSound g image c → HasRoot c.nodes
  sound_root sound = record { root = sound.root; is = sound.root_is; dir = sound.root_dir }

  pub sound_place : IsSound g image c → AreInPlace g image c.rec c.parts c.tables
  sound_place sound = record { used = sound.used; behind = sound.behind }

  module _ (has : HasContents g image c) where
    pub tables_of_site : AreTables g c.tables
    tables_of_site = laid_are_tables g image c has

    pub inodes_are : length c.tables.inodes ≡ g.inodes
    inodes_are = tables_of_site.shape.inodes ∙ length-replicate g.inodes 4294967295

    pub used_are : length c.tables.used ≡ g.log
    used_are = tables_of_site.shape.used ∙ length-replicate g.log false

    pub within : IsWithinLimits g
    within = limits_of g image c.rec has.newest has.volumes
