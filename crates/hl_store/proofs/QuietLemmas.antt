-- While nothing is written, whatever a stop leaves holds what the store lies over.
use Rattle.std.proofs.Common.{inl, Option}
use Rattle.hl_media.specs.History.{History, MachineState}
use Rattle.hl_media.specs.Moments.{Runs}
use Rattle.hl_media.proofs.Runs.{starts}
use Rattle.hl_log.specs.Rest.{Keeps}
use Rattle.hl_nodes.proofs.ListingLaws.{rest_leaves_listed}
use Rattle.hl_nodes.proofs.RestLaws.{rest_leaves}
use Rattle.hl_nodes.proofs.SoundUnits.{sound_same}
use Rattle.hl_nodes.proofs.UnitLaws.{live_kept}
use Rattle.hl_store.specs.Values.{StoreValue, layout}
use Rattle.hl_store.specs.Flushes.{Flushes}

module _ {M : Type 0} (v : StoreValue M) where
  flushes_none : (s : MachineState) → Flushes v s s
  flushes_none s c lies may image leaves chance =
      let g = layout v in
      let keeps : Keeps g v.log.at v.clean s image = λ k not_free untouched. leaves k untouched in (
        inl (record {
          sound = record {
            has = rest_leaves g v.log.at v.clean c s lies.rests image leaves chance;
            sound = sound_same g s.content image c (live_kept g v.log.at v.clean c s lies.rests image keeps) lies.rests.has lies.sound;
          };
          listed = rest_leaves_listed g v.log.at v.clean c s lies.rests lies.listed image leaves chance;
        }),
        keeps,
      )

  pub quiet : (now : Option History) → Runs now now (Flushes v)
  quiet now = starts now (Flushes v) (λ h e. flushes_none _)
