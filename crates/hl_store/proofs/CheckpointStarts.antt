-- A checkpoint that is not begun.
use Rattle.std.proofs.Common.{inl, Option}
use Rattle.hl_media.specs.History.{History, Image, MachineState, MayLeave, state_now}
use Rattle.hl_media.specs.Moments.{Runs}
use Rattle.hl_media.proofs.Runs.{starts}
use Rattle.hl_image.specs.Chance.{NoChance}
use Rattle.hl_nodes.specs.Contents.{Contents}
use Rattle.hl_nodes.proofs.ListingLaws.{rest_leaves_listed}
use Rattle.hl_nodes.proofs.RestLaws.{rest_leaves}
use Rattle.hl_nodes.proofs.SoundUnits.{sound_same}
use Rattle.hl_nodes.proofs.UnitLaws.{live_kept}
use Rattle.hl_store.specs.Values.{StoreValue, layout}
use Rattle.hl_store.specs.Lying.{LiesOver}
use Rattle.hl_store.specs.Flushes.{Holds}
use Rattle.hl_store.specs.Checkpointing.{KeepsContents}

module _ {M : Type 0} (v : StoreValue M) where
  -- whatever a stop leaves where nothing is written has the contents, sound and listed
  holds_still : (s : MachineState) (c : Contents) → LiesOver v c s → (image : Image) → MayLeave s image → NoChance (layout v) v.log.at.start v.log.at.first s.pending image → Holds v c image
  holds_still s c lies image leaves chance = record {
    sound = record {
      has = rest_leaves (layout v) v.log.at v.clean c s lies.rests image leaves chance;
      sound = sound_same (layout v) s.content image c (live_kept (layout v) v.log.at v.clean c s lies.rests image (λ k not_free still. leaves k still)) lies.rests.has lies.sound;
    };
    listed = rest_leaves_listed (layout v) v.log.at v.clean c s lies.rests lies.listed image leaves chance;
  }

  pub keeps_starts : (before : Option History) → Runs before before (KeepsContents v)
  keeps_starts before = starts before (KeepsContents v)
      (λ h e c lies may image leaves chance. (inl (holds_still (state_now h) c lies image leaves chance), λ k not_free not_one not_two still. leaves k still))
