use Rattle.std.proofs.Common.{◌&&◌, not, sym, ◌∙◌}
use Rattle.hl_placed.specs.Changes.{covers, meets}
use Rattle.hl_ranges.proofs.MeetLemmas.{partly-is, partly-not}
use Rattle.hl_ranges.proofs.NeedRuns.{finds_picked, finds_unpicked}
use Rattle.hl_ranges.proofs.needs.add_partly.Goals as goal

pub returns-then-is_covered-clause-need : goal.returns-then-is_covered-clause-need
returns-then-is_covered-clause-need g c =
    finds_unpicked g.M.Machine.history g.M.Machine.faults c.args.store.now c.args.ino c.args.i (meets c.args.at c.args.end c.args.i && not (covers c.args.at c.args.end c.args.i)) c.args.tsegs.now.items
    (partly-not c.args.at c.args.end c.args.i (sym c.is_covered.ensures ∙ c.if-is_covered.true))

pub returns-clause-need : goal.returns-clause-need
returns-clause-need g c =
    finds_picked g.M.Machine.history g.M.Machine.faults c.args.store.now c.args.ino c.args.i c.add_need.new.store (meets c.args.at c.args.end c.args.i && not (covers c.args.at c.args.end c.args.i))
    c.args.tsegs.now.items c.add_need.new.tsegs.items c.add_need.result
    (partly-is c.args.at c.args.end c.args.i c.requires.nonempty c.requires.starts c.requires.ends (sym c.is_covered.ensures ∙ c.if-is_covered.false)) c.add_need.ensures.need
