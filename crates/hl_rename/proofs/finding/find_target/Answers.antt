use Rattle.std.proofs.Common.{◌∙◌, ap, sym, subst}
use Rattle.std.specs.Prelude.{option_map}
use Rattle.hl_dir.specs.Dirs.{Spells}
use Rattle.hl_entries.specs.declared.place.EntryPlace.{EntryPlace}
use Rattle.hl_store.proofs.ReadRuns.{reads_then}
use Rattle.hl_walk.proofs.KeptTrees.{reads_both}
use Rattle.hl_rename.proofs.FoundEnds.{target_found, target_free, target_kept}
use Rattle.hl_rename.proofs.finding.find_target.Goals as goal

pub returns-in_default-clause-target : goal.returns-in_default-clause-target
returns-in_default-clause-target g c =
    target_free {M = g.row.M.Denot} g.M.Machine.history g.M.Machine.faults c.args.store.now c.args.path.now c.find_parent.new.store c.in_ok-parent.parent c.in_ok-parent.ensures.parent c.args.name.now c.requires.last c.args.kind (λ es spells. sym (ap (option_map (λ (p : EntryPlace). p.ino)) c.in_default.is) ∙ c.find.ensures.number es (subst (λ l. Spells l es) (sym c.as_slice.ensures.value) spells))

pub returns-in-Err-clause-reads : goal.returns-in-Err-clause-reads
returns-in-Err-clause-reads g c =
    reads_both {M = g.row.M.Denot} g.M.Machine.history c.args.store.now c.find_parent.new.store c.find_parent.ensures.reads c.find_parent.ensures.machine.unchanged c.node_of.new.store c.node_of.ensures.reads

pub returns-in-Err-clause-machine : goal.returns-in-Err-clause-machine
returns-in-Err-clause-machine g c =
    reads_then {M = g.row.M.Denot} c.find_parent.ensures.machine c.node_of.ensures.machine

pub returns-in-Some-why_kept-clause-halts : goal.returns-in-Some-why_kept-clause-halts
returns-in-Some-why_kept-clause-halts g c =
    target_kept {M = g.row.M.Denot} g.M.Machine.history g.M.Machine.faults c.args.store.now c.args.path.now c.find_parent.new.store c.in_ok-parent.parent c.in_ok-parent.ensures.parent c.args.name.now c.requires.last c.node_of.new.store c.find_parent.ensures.reads c.find_parent.ensures.machine.unchanged c.node_of.ensures.reads c.in-Some.place.ino (λ es spells. sym (ap (option_map (λ (p : EntryPlace). p.ino)) c.in-Some.is) ∙ c.find.ensures.number es (subst (λ l. Spells l es) (sym c.as_slice.ensures.value) spells)) c.in-Ok.node c.in-Ok.ensures.node c.args.kind c.in-Some-why_kept.why (sym c.why_kept.ensures ∙ c.in-Some-why_kept.is)

pub returns-in-Some-why_kept-clause-reads : goal.returns-in-Some-why_kept-clause-reads
returns-in-Some-why_kept-clause-reads g c =
    reads_both {M = g.row.M.Denot} g.M.Machine.history c.args.store.now c.find_parent.new.store c.find_parent.ensures.reads c.find_parent.ensures.machine.unchanged c.node_of.new.store c.node_of.ensures.reads

pub returns-in-Some-why_kept-clause-machine : goal.returns-in-Some-why_kept-clause-machine
returns-in-Some-why_kept-clause-machine g c =
    reads_then {M = g.row.M.Denot} c.find_parent.ensures.machine c.node_of.ensures.machine

pub returns-in-None-clause-target : goal.returns-in-None-clause-target
returns-in-None-clause-target g c =
    target_found {M = g.row.M.Denot} g.M.Machine.history g.M.Machine.faults c.args.store.now c.args.path.now c.find_parent.new.store c.in_ok-parent.parent c.in_ok-parent.ensures.parent c.args.name.now c.requires.last c.node_of.new.store c.find_parent.ensures.reads c.find_parent.ensures.machine.unchanged c.node_of.ensures.reads c.in-Some.place.ino (λ es spells. sym (ap (option_map (λ (p : EntryPlace). p.ino)) c.in-Some.is) ∙ c.find.ensures.number es (subst (λ l. Spells l es) (sym c.as_slice.ensures.value) spells)) c.in-Ok.node c.in-Ok.ensures.node c.args.kind c.in-Ok.ensures.number (sym c.why_kept.ensures ∙ c.in-None.is)

pub returns-in-None-clause-reads : goal.returns-in-None-clause-reads
returns-in-None-clause-reads g c =
    reads_both {M = g.row.M.Denot} g.M.Machine.history c.args.store.now c.find_parent.new.store c.find_parent.ensures.reads c.find_parent.ensures.machine.unchanged c.node_of.new.store c.node_of.ensures.reads

pub returns-in-None-clause-machine : goal.returns-in-None-clause-machine
returns-in-None-clause-machine g c =
    reads_then {M = g.row.M.Denot} c.find_parent.ensures.machine c.node_of.ensures.machine
