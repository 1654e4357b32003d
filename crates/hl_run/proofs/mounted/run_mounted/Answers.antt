use Rattle.std.proofs.Common.{ℕ, ⊎_elim, inl, inr, refl, sym, subst, ◌∙◌, arith}
use Rattle.hl_media.specs.Causes.{Rose}
use Rattle.hl_media.specs.Moments.{Now, Runs}
use Rattle.hl_media.specs.Moments.{Ends as LastMoment}
use Rattle.hl_disk.specs.Disks.{StandsFor}
use Rattle.hl_disk.specs.Saves.{IsSaving, HasSaved}
use Rattle.hl_run.specs.Run.{IsClocked, KeepsLines, RanOver}
use Rattle.hl_run.specs.Turn.{held}
use Rattle.hl_run.proofs.Alone.{alone_behind}
use Rattle.hl_run.proofs.Closing.{opens_behind, if_known, of_ok, unclosed, closing_done, closing_failed}
use Rattle.hl_run.proofs.mounted.run_mounted.Goals as goal

pub run-end-requires-clause-opens : goal.run-end-requires-clause-opens
run-end-requires-clause-opens g c = opens_behind _ c.in-Ok.world.number c.in-Ok.world.files.tree (g.M.Machine.history c.args.machine) _
    (subst (λ (k : ℕ). Now (g.M.Machine.history c.args.machine) (λ s. StandsFor k s.content c.in-Ok.world.number c.in-Ok.world.files.tree)) (sym c.in-Ok.ensures.blocks) c.in-Ok.ensures.mounts) c.in-Ok.ensures.reads

pub returns-in-Err-clause-came : goal.returns-in-Err-clause-came
returns-in-Err-clause-came g c = (
  c.in-Err.ensures.mounts,
  alone_behind _ _ (g.M.Machine.history c.args.machine) (g.M.Machine.history c.in-Err.machine) (g.M.Machine.history c.say_refusal.new.machine) c.in-Err.ensures.reads
      (c.say_refusal.ensures.says.0, ⊎_elim (λ whole. inl whole) (λ rose. inr (subst (λ (k : ℕ). Rose k (g.M.Machine.say_faults c.say_refusal.new.machine)) c.in-Err.ensures.say_faults rose)) c.say_refusal.ensures.says.1),
  refl,
)

pub returns-then-not-closes-clause-came : goal.returns-then-not-closes-clause-came
returns-then-not-closes-clause-came g c =
    let m = c.run-end.new.world.machine in
    subst (λ m. RanOver (Rose (g.M.Machine.say_faults c.args.machine) (g.M.Machine.say_faults m)) (Rose (g.M.Machine.write_faults c.args.machine) (g.M.Machine.write_faults m))
    (KeepsLines (g.M.Machine.blocks c.args.machine) (g.M.Machine.history m) c.run-end.result) (IsClocked (g.C.Clock.times c.args.clock.now) (g.C.Clock.times c.run-end.new.clock) c.run-end.result) (g.M.Machine.blocks c.args.machine) (g.S.Source.left c.args.input.now) (g.M.Machine.history c.args.machine) (g.M.Machine.history m) c.run-end.result)
    (sym c.leave.ensures)
    (subst (λ (k : ℕ). RanOver (Rose (g.M.Machine.say_faults c.args.machine) (g.M.Machine.say_faults m)) (Rose (g.M.Machine.write_faults c.args.machine) (g.M.Machine.write_faults m))
    (KeepsLines k (g.M.Machine.history m) c.run-end.result) (IsClocked (g.C.Clock.times c.args.clock.now) (g.C.Clock.times c.run-end.new.clock) c.run-end.result) k (g.S.Source.left c.args.input.now) (g.M.Machine.history c.args.machine) (g.M.Machine.history m) c.run-end.result)
    c.in-Ok.ensures.blocks
    (if_known (g.S.Source.left c.args.input.now) (λ input ran. unclosed (g.M.Machine.blocks c.in-Ok.world.machine) (held c.in-Ok.world) (held c.run-end.new.world) (IsClocked (g.C.Clock.times c.args.clock.now) (g.C.Clock.times c.run-end.new.clock) c.run-end.result) _ _ _ _
    (λ rose. subst (λ (k : ℕ). Rose k (g.M.Machine.say_faults m)) c.in-Ok.ensures.say_faults rose) (λ rose. subst (λ (k : ℕ). Rose k (g.M.Machine.write_faults m)) c.in-Ok.ensures.write_faults rose)
    4294967296 input c.run-end.result (g.M.Machine.history c.args.machine) (g.M.Machine.history c.in-Ok.world.machine) (g.M.Machine.history m)
    (subst (λ (k : ℕ). Now (g.M.Machine.history c.args.machine) (λ s. StandsFor k s.content c.in-Ok.world.number c.in-Ok.world.files.tree)) (sym c.in-Ok.ensures.blocks) c.in-Ok.ensures.mounts) c.in-Ok.ensures.reads ran (sym c.closes.ensures ∙ c.if-not-closes.true))
    c.run-end.ensures.ran))

pub returns-in-Ok-default-clause-came : goal.returns-in-Ok-default-clause-came
returns-in-Ok-default-clause-came g c =
    let m = c.close.result.1 in
    let blocks = c.run-end.ensures.blocks in
    let later = c.close.ensures.write_faults.later in
    subst (λ (k : ℕ). RanOver (Rose (g.M.Machine.say_faults c.args.machine) (g.M.Machine.say_faults m)) (Rose (g.M.Machine.write_faults c.args.machine) (g.M.Machine.write_faults m))
    (KeepsLines k (g.M.Machine.history m) c.run-end.result) (IsClocked (g.C.Clock.times c.args.clock.now) (g.C.Clock.times c.run-end.new.clock) c.run-end.result) k (g.S.Source.left c.args.input.now) (g.M.Machine.history c.args.machine) (g.M.Machine.history m) c.run-end.result)
    c.in-Ok.ensures.blocks
    (if_known (g.S.Source.left c.args.input.now) (λ input ran. closing_done (g.M.Machine.blocks c.in-Ok.world.machine) (held c.in-Ok.world) (held c.run-end.new.world) (IsClocked (g.C.Clock.times c.args.clock.now) (g.C.Clock.times c.run-end.new.clock) c.run-end.result) _ _ _ _
    (λ rose. subst (λ (k : ℕ). Rose k (g.M.Machine.say_faults m)) c.in-Ok.ensures.say_faults (subst (λ (k : ℕ). Rose (g.M.Machine.say_faults c.in-Ok.world.machine) k) (sym c.close.ensures.say_faults) rose))
    (λ rose. subst (λ (k : ℕ). Rose k (g.M.Machine.write_faults m)) c.in-Ok.ensures.write_faults (omega (arith, rose, later)))
    4294967296 input c.run-end.result (g.M.Machine.history c.args.machine) (g.M.Machine.history c.in-Ok.world.machine) (g.M.Machine.history c.run-end.new.world.machine)
    (subst (λ (k : ℕ). Now (g.M.Machine.history c.args.machine) (λ s. StandsFor k s.content c.in-Ok.world.number c.in-Ok.world.files.tree)) (sym c.in-Ok.ensures.blocks) c.in-Ok.ensures.mounts) c.in-Ok.ensures.reads ran
    (g.M.Machine.history m) (sym c.closes.ensures ∙ c.if-not-closes.false)
    (subst (λ (k : ℕ). Runs (g.M.Machine.history c.run-end.new.world.machine) (g.M.Machine.history m) (IsSaving k c.run-end.new.world.number c.run-end.new.world.files.tree)) blocks c.close.ensures.saving)
    (subst (λ (k : ℕ). LastMoment (g.M.Machine.history c.run-end.new.world.machine) (g.M.Machine.history m) (HasSaved k c.run-end.new.world.number c.run-end.new.world.files.tree)) blocks (of_ok c.close.result.0 _ c.in-Ok-default.is-0 c.close.ensures.saved)))
    c.run-end.ensures.ran)

pub returns-in-Err-default-clause-came : goal.returns-in-Err-default-clause-came
returns-in-Err-default-clause-came g c =
    let m = c.close.result.1 in
    let blocks = c.run-end.ensures.blocks in
    let later = c.close.ensures.write_faults.later in (
      sym c.closes.ensures ∙ c.if-not-closes.false,
      subst (λ (k : ℕ). RanOver (Rose (g.M.Machine.say_faults c.args.machine) (g.M.Machine.say_faults m)) (Rose (g.M.Machine.write_faults c.args.machine) (g.M.Machine.write_faults m))
          (λ opening done. Unit {0}) (IsClocked (g.C.Clock.times c.args.clock.now) (g.C.Clock.times c.run-end.new.clock) c.run-end.result) k (g.S.Source.left c.args.input.now) (g.M.Machine.history c.args.machine) (g.M.Machine.history m) c.run-end.result)
          c.in-Ok.ensures.blocks
          (if_known (g.S.Source.left c.args.input.now) (λ input ran. closing_failed (g.M.Machine.blocks c.in-Ok.world.machine) (held c.in-Ok.world) (held c.run-end.new.world) (IsClocked (g.C.Clock.times c.args.clock.now) (g.C.Clock.times c.run-end.new.clock) c.run-end.result) _ _ _ _
          (λ rose. subst (λ (k : ℕ). Rose k (g.M.Machine.say_faults m)) c.in-Ok.ensures.say_faults (subst (λ (k : ℕ). Rose (g.M.Machine.say_faults c.in-Ok.world.machine) k) (sym c.close.ensures.say_faults) rose))
          (λ rose. subst (λ (k : ℕ). Rose k (g.M.Machine.write_faults m)) c.in-Ok.ensures.write_faults (omega (arith, rose, later)))
          4294967296 input c.run-end.result (g.M.Machine.history c.args.machine) (g.M.Machine.history c.in-Ok.world.machine) (g.M.Machine.history c.run-end.new.world.machine)
          (subst (λ (k : ℕ). Now (g.M.Machine.history c.args.machine) (λ s. StandsFor k s.content c.in-Ok.world.number c.in-Ok.world.files.tree)) (sym c.in-Ok.ensures.blocks) c.in-Ok.ensures.mounts) c.in-Ok.ensures.reads ran
          (g.M.Machine.history m) (sym c.closes.ensures ∙ c.if-not-closes.false)
          (subst (λ (k : ℕ). Runs (g.M.Machine.history c.run-end.new.world.machine) (g.M.Machine.history m) (IsSaving k c.run-end.new.world.number c.run-end.new.world.files.tree)) blocks c.close.ensures.saving))
          c.run-end.ensures.ran),
    )
