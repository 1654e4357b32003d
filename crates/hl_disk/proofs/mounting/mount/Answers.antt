use Rattle.hl_media.specs.History.{content}
use Rattle.hl_disk.specs.Reads.{FindsRecord, Picks}
use Rattle.hl_disk.proofs.Reading.{reads_then, seen_before, mounts_by}
use Rattle.hl_disk.proofs.mounting.mount.Goals as goal

pub returns-in_err-odd-clause-reads : goal.returns-in_err-odd-clause-reads
returns-in_err-odd-clause-reads g c =
    reads_then (g.M.Machine.history c.args.machine.now) (g.M.Machine.history c.has_label.new.machine) (g.M.Machine.history c.find_record.new.machine) c.in_ok-has_label.ensures.reads c.find_record.ensures.reads

pub returns-in_err-even-clause-reads : goal.returns-in_err-even-clause-reads
returns-in_err-even-clause-reads g c =
    reads_then (g.M.Machine.history c.args.machine.now) (g.M.Machine.history c.find_record.new.machine) (g.M.Machine.history c.find_record-2.new.machine)
    (reads_then (g.M.Machine.history c.args.machine.now) (g.M.Machine.history c.has_label.new.machine) (g.M.Machine.history c.find_record.new.machine) c.in_ok-has_label.ensures.reads c.in_ok-odd.ensures.reads)
    c.find_record-2.ensures.reads

pub returns-clause-mounts : goal.returns-clause-mounts
returns-clause-mounts g c =
    let blocks = g.M.Machine.blocks c.args.machine.now in
    let before = g.M.Machine.history c.args.machine.now in
    let one = g.M.Machine.history c.has_label.new.machine in
    let two = g.M.Machine.history c.find_record.new.machine in
    let three = g.M.Machine.history c.find_record-2.new.machine in
    let first = c.in_ok-has_label.ensures.reads in
    let second = reads_then before one two first c.in_ok-odd.ensures.reads in
    let third = reads_then before two three second c.in_ok-even.ensures.reads in
    λ h e.
    mounts_by blocks (content h) c.in_ok-odd.odd c.in_ok-even.even
    ((c.in_ok-has_label.ensures.label h e).0 c.if-not-branch.false)
    (seen_before before one (λ image. FindsRecord 1 image c.in_ok-odd.odd) first c.in_ok-odd.ensures.found h e)
    (seen_before before two (λ image. FindsRecord 2 image c.in_ok-even.even) second c.in_ok-even.ensures.found h e)
    c.newest_tree.result
    (seen_before before three (λ image. Picks image c.in_ok-odd.odd c.in_ok-even.even c.newest_tree.result) third c.newest_tree.ensures.picks h e)

pub returns-clause-reads : goal.returns-clause-reads
returns-clause-reads g c =
    let before = g.M.Machine.history c.args.machine.now in
    let one = g.M.Machine.history c.has_label.new.machine in
    let two = g.M.Machine.history c.find_record.new.machine in
    let three = g.M.Machine.history c.find_record-2.new.machine in
    let four = g.M.Machine.history c.newest_tree.new.machine in
    let second = reads_then before one two c.in_ok-has_label.ensures.reads c.in_ok-odd.ensures.reads in
    let third = reads_then before two three second c.in_ok-even.ensures.reads in
    reads_then before three four third c.newest_tree.ensures.reads
