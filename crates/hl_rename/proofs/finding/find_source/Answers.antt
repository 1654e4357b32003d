use Rattle.std.proofs.Common.{◌∙◌, ap, sym, subst}
use Rattle.std.specs.Prelude.{option_map}
use Rattle.hl_dir.specs.Dirs.{Spells}
use Rattle.hl_entries.specs.declared.place.EntryPlace.{EntryPlace}
use Rattle.hl_store.proofs.ReadRuns.{reads_then}
use Rattle.hl_walk.proofs.KeptTrees.{reads_both}
use Rattle.hl_rename.proofs.FoundEnds.{source_absent, source_found}
use Rattle.hl_rename.proofs.finding.find_source.Goals as goal

pub returns-in_default-clause-halts : goal.returns-in_default-clause-halts
returns-in_default-clause-halts g c =
    source_absent {M = g.row.M.Denot} g.M.Machine.history g.M.Machine.faults c.args.store.now c.args.path.now c.find_parent.new.store c.in_ok-parent.parent c.in_ok-parent.ensures.parent c.args.name.now c.requires.last (λ es spells. sym (ap (option_map (λ (p : EntryPlace). p.ino)) c.in_default.is) ∙ c.find.ensures.number es (subst (λ l. Spells l es) (sym c.as_slice.ensures.value) spells))

pub returns-in-Ok-clause-source : goal.returns-in-Ok-clause-source
returns-in-Ok-clause-source g c =
    source_found {M = g.row.M.Denot} g.M.Machine.history g.M.Machine.faults c.args.store.now c.args.path.now c.find_parent.new.store c.in_ok-parent.parent c.in_ok-parent.ensures.parent c.args.name.now c.requires.last c.node_of.new.store c.find_parent.ensures.reads c.find_parent.ensures.machine.unchanged c.node_of.ensures.reads c.in-Some.place.ino (λ es spells. sym (ap (option_map (λ (p : EntryPlace). p.ino)) c.in-Some.is) ∙ c.find.ensures.number es (subst (λ l. Spells l es) (sym c.as_slice.ensures.value) spells)) c.in-Ok.node c.in-Ok.ensures.node

pub returns-in-Ok-clause-reads : goal.returns-in-Ok-clause-reads
returns-in-Ok-clause-reads g c =
    reads_both {M = g.row.M.Denot} g.M.Machine.history c.args.store.now c.find_parent.new.store c.find_parent.ensures.reads c.find_parent.ensures.machine.unchanged c.node_of.new.store c.node_of.ensures.reads

pub returns-in-Ok-clause-machine : goal.returns-in-Ok-clause-machine
returns-in-Ok-clause-machine g c =
    reads_then {M = g.row.M.Denot} c.find_parent.ensures.machine c.node_of.ensures.machine

pub returns-in-Err-clause-reads : goal.returns-in-Err-clause-reads
returns-in-Err-clause-reads g c =
    reads_both {M = g.row.M.Denot} g.M.Machine.history c.args.store.now c.find_parent.new.store c.find_parent.ensures.reads c.find_parent.ensures.machine.unchanged c.node_of.new.store c.node_of.ensures.reads

pub returns-in-Err-clause-machine : goal.returns-in-Err-clause-machine
returns-in-Err-clause-machine g c =
    reads_then {M = g.row.M.Denot} c.find_parent.ensures.machine c.node_of.ensures.machine
