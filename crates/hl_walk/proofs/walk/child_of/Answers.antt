use Rattle.std.proofs.Common.{Some, None, ◌∙◌, ap, sym, subst}
use Rattle.std.specs.Prelude.{option_map}
use Rattle.hl_walk.specs.Walks.{HasEntries}
use Rattle.hl_entries.specs.declared.place.EntryPlace.{EntryPlace}
use Rattle.hl_walk.proofs.WalkSteps.{child_of_bytes}
use Rattle.hl_walk.proofs.walk.child_of.Goals as goal

pub returns-in-None-clause-halts : goal.returns-in-None-clause-halts
returns-in-None-clause-halts g c =
    child_of_bytes {M = g.row.M.Denot} g.M.Machine.history c.args.store.now c.args.number c.entries_of.new.store c.as_slice.result.now c.args.name.now (subst (HasEntries {M = g.row.M.Denot} g.M.Machine.history c.args.store.now c.entries_of.new.store c.args.number) (sym c.as_slice.ensures.value) c.in_ok-bytes.ensures.entries) None
    (λ es spells. sym (ap (option_map (λ (p : EntryPlace). p.ino)) c.in-None.is) ∙ c.find.ensures.number es spells)

pub returns-then-is_number-clause-child : goal.returns-then-is_number-clause-child
returns-then-is_number-clause-child g c =
    child_of_bytes {M = g.row.M.Denot} g.M.Machine.history c.args.store.now c.args.number c.entries_of.new.store c.as_slice.result.now c.args.name.now (subst (HasEntries {M = g.row.M.Denot} g.M.Machine.history c.args.store.now c.entries_of.new.store c.args.number) (sym c.as_slice.ensures.value) c.in_ok-bytes.ensures.entries) (Some c.in-Some.place.ino)
    (λ es spells. sym (ap (option_map (λ (p : EntryPlace). p.ino)) c.in-Some.is) ∙ c.find.ensures.number es spells)
