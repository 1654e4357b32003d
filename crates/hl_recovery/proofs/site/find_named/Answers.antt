use Rattle.std.proofs.Common.{List, ℕ, Some, None}
use Rattle.hl_media.specs.History.{MachineState, content}
use Rattle.hl_super.specs.Labels.{layout_of}
use Rattle.hl_image.specs.Newest.{IsNewest}
use Rattle.hl_recovery.proofs.ReadRuns.{both_read, seen_before}
use Rattle.hl_recovery.proofs.SiteReads.{none_named, site_named}
use Rattle.hl_recovery.proofs.site.find_named.Goals as goal

pub returns-in_err-rec-clause-machine : goal.returns-in_err-rec-clause-machine
returns-in_err-rec-clause-machine g c = both_read c.args.machine.now c.find_label.new.machine c.find_newest.new.machine c.in_ok-label.ensures.machine c.in_err-rec.ensures.machine

pub returns-in_err-site_of-in-Some-2-clause-machine : goal.returns-in_err-site_of-in-Some-2-clause-machine
returns-in_err-site_of-in-Some-2-clause-machine g c = both_read c.args.machine.now c.find_label.new.machine c.find_newest.new.machine c.in_ok-label.ensures.machine c.in_ok-rec.ensures.machine

pub returns-in_ok-site_of-in-Some-2-clause-found : goal.returns-in_ok-site_of-in-Some-2-clause-found
returns-in_ok-site_of-in-Some-2-clause-found g c =
    let found = rw c.in-Some.is at c.in_ok-label.ensures.found in
    let newest = rw c.in-Some-2.is at c.in_ok-rec.ensures.found in
    let label = c.in-Some.label in
    let rec = c.in-Some-2.rec in
    λ h e. site_named label (content h) (g.M.Machine.blocks c.args.machine.now) (found h e) c.in_ok-site_of-in-Some-2.field-0.geometry rec c.in_ok-site_of-in-Some-2.field-0.rec
    c.in_ok-site_of-in-Some-2.ensures.geometry c.in_ok-site_of-in-Some-2.ensures.rec
    (seen_before (g.M.Machine.history c.args.machine.now) (g.M.Machine.history c.find_label.new.machine)
    (λ (s : MachineState). (volumes : List ℕ) → IsNewest (layout_of label volumes) s.content (Some rec)) c.in_ok-label.ensures.machine.unchanged newest h e)

pub returns-in_ok-site_of-in-Some-2-clause-machine : goal.returns-in_ok-site_of-in-Some-2-clause-machine
returns-in_ok-site_of-in-Some-2-clause-machine g c = both_read c.args.machine.now c.find_label.new.machine c.find_newest.new.machine c.in_ok-label.ensures.machine c.in_ok-rec.ensures.machine

pub returns-in-None-clause-stopped : goal.returns-in-None-clause-stopped
returns-in-None-clause-stopped g c =
    let found = rw c.in-Some.is at c.in_ok-label.ensures.found in
    let newest = rw c.in-None.is at c.in_ok-rec.ensures.found in
    let label = c.in-Some.label in
    λ h e rack. none_named label (content h) (g.M.Machine.blocks c.args.machine.now) (found h e)
    (seen_before (g.M.Machine.history c.args.machine.now) (g.M.Machine.history c.find_label.new.machine)
    (λ (s : MachineState). (volumes : List ℕ) → IsNewest (layout_of label volumes) s.content None) c.in_ok-label.ensures.machine.unchanged newest h e)

pub returns-in-None-clause-machine : goal.returns-in-None-clause-machine
returns-in-None-clause-machine g c = both_read c.args.machine.now c.find_label.new.machine c.find_newest.new.machine c.in_ok-label.ensures.machine c.in_ok-rec.ensures.machine
