-- The site that blocks 0, 1 and 2 name.
use Rattle.std.proofs.Common.{◌≡◌, ℕ, List, [], refl, sym, subst}
use Rattle.std.specs.Prelude.{Option, Some, None, ◌↔◌}
use Rattle.hl_media.specs.History.{Image}
use Rattle.hl_addr.specs.Layout.{Layout}
use Rattle.hl_super.specs.declared.label.Label.{Label}
use Rattle.hl_super.specs.declared.record.Record.{Record}
use Rattle.hl_super.specs.Labels as labels
use Rattle.hl_super.specs.Labels.{layout_of}
use Rattle.hl_super.specs.Newest.{newest}
use Rattle.hl_image.specs.Newest.{IsNewest}
use Rattle.hl_found.proofs.NewestFound.{newest_found}
use Rattle.hl_recovery.specs.Finding.{FindsLabel, FindsRecord}
use Rattle.hl_recovery.specs.Recoveries.{HasSite}
use Rattle.hl_recovery.specs.Stops.{LacksRecord}

-- the label of the block that was read
pub label_found : (blocks : ℕ) (image : Image) (block : List ℕ) (o : Option Label) → image 0 ≡ block → ((v : Label) → (o ≡ Some v) ↔ labels.Spells blocks block v) → FindsLabel blocks image o
label_found blocks image block o same found = subst (λ (b : List ℕ). (v : Label) → (o ≡ Some v) ↔ labels.Spells blocks b v) (sym same) found

module _ (label : Label) (image : Image) where
  -- the newer of both records, whatever the volumes
  pub newest_named : (a b r : Option Record) → r ≡ newest a b → FindsRecord 1 label image a → FindsRecord 2 label image b → (volumes : List ℕ) → IsNewest (layout_of label volumes) image r
  newest_named a b r is first second volumes =
      subst (IsNewest (layout_of label volumes) image) (sym is) (newest_found (layout_of label volumes) image a b first second)

  module _ (blocks : ℕ) (found : FindsLabel blocks image (Some label)) where
    -- no record is newest
    pub none_named : ((volumes : List ℕ) → IsNewest (layout_of label volumes) image None) → LacksRecord blocks image
    none_named none = record { label = label; spelled = (found label).0 refl; first = (none []).0; second = (none []).1 }

    -- the site of the label and the record
    pub site_named : (g : Layout) (rec own : Record) → g ≡ layout_of label rec.volumes → own ≡ rec → ((volumes : List ℕ) → IsNewest (layout_of label volumes) image (Some rec)) → HasSite blocks g own image
    site_named g rec own g_is own_is newest =
        subst (λ (l : Layout). HasSite blocks l own image) (sym g_is)
        (subst (λ (r : Record). HasSite blocks (layout_of label rec.volumes) r image) (sym own_is)
        (record { label = (found label).0 refl; newest = newest rec.volumes; volumes = refl }))
