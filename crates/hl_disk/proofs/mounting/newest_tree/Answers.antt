use Rattle.std.proofs.Common.{None, Some}
use Rattle.hl_media.specs.History.{content}
use Rattle.hl_disk.specs.Reads.{Takes}
use Rattle.hl_disk.proofs.Reading.{reads_then, seen_before, picks_second, picks_none}
use Rattle.hl_disk.proofs.mounting.newest_tree.Goals as goal

pub returns-in_err-mounted-in-None-clause-reads : goal.returns-in_err-mounted-in-None-clause-reads
returns-in_err-mounted-in-None-clause-reads g c =
    reads_then (g.M.Machine.history c.args.machine.now) (g.M.Machine.history c.taken.new.machine) (g.M.Machine.history c.taken-in-None.new.machine) c.in_ok-mounted.ensures.reads c.taken-in-None.ensures.reads

pub returns-in-Some-2-clause-picks : goal.returns-in-Some-2-clause-picks
returns-in-Some-2-clause-picks g c =
    let before = g.M.Machine.history c.args.machine.now in
    let mid = g.M.Machine.history c.taken.new.machine in
    let first = rw c.in-None.is at c.in_ok-mounted.ensures.takes in
    let second = rw c.in-Some-2.is at c.in_ok-mounted-in-None.ensures.takes in
    λ h e.
    picks_second (content h) c.args.odd c.args.even c.newer_first-newer.result.0 c.newer_first-newer.result.1 c.newer_first-newer.ensures c.in-Some-2.mounted (first h e)
    (seen_before before mid (λ image. Takes image c.newer_first-newer.result.1 (Some c.in-Some-2.mounted)) c.in_ok-mounted.ensures.reads second h e)

pub returns-in-Some-2-clause-reads : goal.returns-in-Some-2-clause-reads
returns-in-Some-2-clause-reads g c =
    reads_then (g.M.Machine.history c.args.machine.now) (g.M.Machine.history c.taken.new.machine) (g.M.Machine.history c.taken-in-None.new.machine) c.in_ok-mounted.ensures.reads c.in_ok-mounted-in-None.ensures.reads

pub returns-in-None-2-clause-picks : goal.returns-in-None-2-clause-picks
returns-in-None-2-clause-picks g c =
    let before = g.M.Machine.history c.args.machine.now in
    let mid = g.M.Machine.history c.taken.new.machine in
    let first = rw c.in-None.is at c.in_ok-mounted.ensures.takes in
    let second = rw c.in-None-2.is at c.in_ok-mounted-in-None.ensures.takes in
    λ h e.
    picks_none (content h) c.args.odd c.args.even c.newer_first-newer.result.0 c.newer_first-newer.result.1 c.newer_first-newer.ensures (first h e)
    (seen_before before mid (λ image. Takes image c.newer_first-newer.result.1 None) c.in_ok-mounted.ensures.reads second h e)

pub returns-in-None-2-clause-reads : goal.returns-in-None-2-clause-reads
returns-in-None-2-clause-reads g c =
    reads_then (g.M.Machine.history c.args.machine.now) (g.M.Machine.history c.taken.new.machine) (g.M.Machine.history c.taken-in-None.new.machine) c.in_ok-mounted.ensures.reads c.in_ok-mounted-in-None.ensures.reads
