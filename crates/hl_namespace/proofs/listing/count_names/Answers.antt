use Rattle.std.proofs.Common.{◌≡◌, length, refl, subst}
use Rattle.hl_entries.specs.Places.{IfSpells}
use Rattle.hl_namespace.proofs.ShownCalls.{names_counted}
use Rattle.hl_namespace.proofs.listing.count_names.Goals as goal

pub returns-clause-counted : goal.returns-clause-counted
returns-clause-counted g c =
    names_counted {M = g.row.M.Denot} g.M.Machine.history g.M.Machine.faults c.args.store.now c.read_directory.new.store c.args.number c.in-Bytes.bytes.items c.count-names.result c.count-names.result c.in-Bytes.ensures.found.1
    (subst (λ b. IfSpells b (λ es. c.count-names.result ≡ length es)) c.as_slice.ensures.value c.count-names.ensures) refl
