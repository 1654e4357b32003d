use Rattle.std.proofs.Common.{◌+◌, ◌∷◌, take}
use Rattle.hl_dump.specs.Dumps.{path_bytes}
use Rattle.hl_dump.proofs.Steps.{path_bytes_more, goes_on, slash_and_name}
use Rattle.hl_dump.proofs.entry.put_path.Goals as goal

pub names-preserved : goal.names-preserved
names-preserved c =
    let names = c.args.names.now in
    let i = c.names.name-index in
    let name = c.name-item.result in
    goes_on c.args.out.now.items (path_bytes (take i names)) c.names.out.items (47 ∷ name) c.extend_from_slice.new.self.items (path_bytes (take (i + 1) names))
    (slash_and_name c.names.out.items c.push.new.self.items c.items.result.now name c.extend_from_slice.new.self.items c.in_ok-push.ensures.items c.in_ok-extend_from_slice.ensures.items c.items.ensures)
    c.names.invariant (path_bytes_more names i name c.names-test.true c.name-item.is)
