use Rattle.std.proofs.Common.{ℕ, List, ◌++◌, ap, ◌∙◌}
use Rattle.hl_media.specs.History.{state_now}
use Rattle.hl_media.proofs.Runs.{starts}
use Rattle.hl_script.specs.Answer.{answer_line}
use Rattle.hl_disk.specs.Saves.{IsSaving}
use Rattle.hl_disk.proofs.Settled.{nothing_saved}
use Rattle.hl_run.specs.Turn.{held}
use Rattle.hl_run.proofs.OneTurn.{answers}
use Rattle.hl_run.proofs.answering.answer.Goals as goal

pub returns-clause-ok : goal.returns-clause-ok
returns-clause-ok g c =
    let read = c.in_ok-line.ensures.ok in
    answers _ (held c.args.world.now) (held c.line-said.new.self) c.args.bytes.now c.print_answer.new.out.items c.is_eio-broken.result
    (g.M.Machine.history c.args.world.now.machine) (g.M.Machine.history c.line-said.new.self.machine) c.in_ok-line.line c.line-said.result c.is_served.result c.is_memory.result
    read.0 read.1 c.is_served.ensures c.if-not-is_served.false c.is_memory.ensures c.if-is_memory.false c.line-said.ensures.done c.line-said.ensures.disk
    (◌∙◌ {A = List ℕ} c.in_ok-print_answer.ensures.ok (ap (λ (l : List ℕ). l ++ answer_line c.line-said.result) c.new-text.ensures.items)) c.is_eio-broken.ensures

pub returns-in_err-line-clause-saving : goal.returns-in_err-line-clause-saving
returns-in_err-line-clause-saving g c = starts (g.M.Machine.history c.args.world.now.machine) (IsSaving _ _ _) (λ h e. nothing_saved _ _ _ (state_now h))

pub returns-then-not-is_served-clause-saving : goal.returns-then-not-is_served-clause-saving
returns-then-not-is_served-clause-saving g c = starts (g.M.Machine.history c.args.world.now.machine) (IsSaving _ _ _) (λ h e. nothing_saved _ _ _ (state_now h))
