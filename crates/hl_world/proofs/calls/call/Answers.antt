use Rattle.std.proofs.Common.{◌≡◌, ◌≤◌, ◌<◌, ◌^◌, ◌+◌, ◌-◌, [], min, subst, sym, arith}
use Rattle.std.specs.FinMap.{len}
use Rattle.std.proofs.lemmas.List.Elements.{All-nil}
use Rattle.hl_tree.specs.Names.{AreNames, IsName}
use Rattle.hl_tree.specs.Rules.{Files, after}
use Rattle.hl_tree.specs.declared.call.Call.{Call}
use Rattle.hl_tree.specs.declared.call.Limits.{Limits}
use Rattle.hl_dump.specs.Dumps.{HasDump, dump_size, dump_max, dump_limits}
use Rattle.hl_dump.specs.Longer.{most_growth, names_of}
use Rattle.hl_dump.proofs.Longer.{dump_size-after}
use Rattle.hl_dump.proofs.Named.{HasDump-after}
use Rattle.hl_world.proofs.calls.call.Goals as goal

-- a call that adds nothing to a dump leaves one that isn't too long
adds_none : (limits : Limits) (t : Files) (call : Call) → limits ≡ dump_limits → HasDump t → most_growth t call ≡ 0 → names_of call ≡ [] → HasDump (after limits t call)
adds_none limits t call is has none unnamed =
    let bytes : limits.bytes < 2 ^ 64 = subst (λ (l : Limits). l.bytes < 2 ^ 64) (sym is) (omega arith) in
    let within = has.few in
    let few : len t < 2 ^ 32 = omega (arith, within) in
    let grown : dump_size (after limits t call) ≤ dump_size t + min (most_growth t call) (2 ^ 64 - 1) = dump_size-after limits t call bytes few in
    let fits : dump_size t ≤ dump_max = has.short in
    HasDump-after limits t call is (subst AreNames (sym unnamed) (All-nil IsName)) has (omega (arith, grown, none, fits))

pub make-requires-clause-short : goal.make-requires-clause-short
make-requires-clause-short c = adds_none _ _ c.args.call.now c.requires.limits c.requires.dumped (c.adds_nothing.ensures.size c.if-adds_nothing.true _) (c.adds_nothing.ensures.names c.if-adds_nothing.true)
