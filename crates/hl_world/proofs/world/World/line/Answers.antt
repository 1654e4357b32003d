use Rattle.std.proofs.Common.{◌≡◌, ◌<◌, ◌^◌, refl, sym, subst, inl, inr}
use Rattle.hl_media.specs.History.{state_now}
use Rattle.hl_media.proofs.Runs.{starts}
use Rattle.hl_disk.specs.Saves.{IsSaving}
use Rattle.hl_disk.proofs.Settled.{nothing_saved}
use Rattle.hl_world.specs.Worlds.{Standing}
use Rattle.hl_world.proofs.Lines.{not_acknowledged, stays}
use Rattle.hl_world.proofs.world.World.line.Goals as goal

pub returns-in_default-call : goal.returns-in_default-call
returns-in_default-call g c =
    rw (← c.self.view_is) (rw c.in-File.is (record {
      ready = record { limits = c.call.ensures.limits; dumped = c.call.ensures.dumped; number = subst (λ (s : Standing _). s.number < 2 ^ 64) (sym c.self.view_is) c.requires.ready.number };
      done = λ told. inl (c.call.ensures.done told);
      memory = c.call.ensures.memory;
      disk = inr (not_acknowledged c.in-File.call c.in_default-call.not-Sync c.call.result, refl, inr refl);
      saving = starts (g.M.Machine.history c.self.inside.machine) (IsSaving _ _ _) (λ h e. nothing_saved _ _ _ (state_now h));
      faults = stays _ c.call.result c.call.ensures.quiet;
      write_faults = stays _ c.call.result c.call.ensures.quiet;
      silent = starts (g.M.Machine.history c.self.inside.machine) (λ first s. s.said ≡ first.said) (λ h e. refl);
      time = refl;
      blocks = refl;
      say_faults = refl;
    }))

pub returns-in-Ok-clause-disk : goal.returns-in-Ok-clause-disk
returns-in-Ok-clause-disk g c =
    rw (← c.self.view_is) (rw (c.in-File.is, c.in-Sync.is) (inl (refl, c.in-Ok.ensures.syncs.0, c.in-Ok.ensures.syncs.1)))
