use Rattle.std.proofs.Common.{◌≡◌, ◌+◌, ◌≤◌, ℕ, length, arith, subst, length-drop}
use Rattle.hl_host.specs.Places.{PutsOn}
use Rattle.hl_host.proofs.PlaceLaws.{puts_more}
use Rattle.hl_host.proofs.whole.write_on.Goals as goal

pub returns-in-Ok-eq0-clause-some : goal.returns-in-Ok-eq0-clause-some
returns-in-Ok-eq0-clause-some g c =
    let done = c.args.done in
    let before = g.F.PositionalFile.content c.args.file.now in
    let now = g.F.PositionalFile.content c.write_from.new.self in
    let is : c.in-Some.at ≡ c.args.from + done = omega (arith, c.in-Some.ensures) in
    let low : done ≤ length c.args.bytes.now = c.requires in
    let none : done + c.in-Ok-eq0.field-0 ≡ done = omega (arith, c.in-Ok-eq0.field-0-is) in
    subst (PutsOn before now c.args.from c.args.bytes.now done) none
    (puts_more before now c.args.from done c.in-Some.at c.args.bytes.now is c.in-Ok-eq0.field-0 (omega (arith, none, low)) (rw c.in-Ok-eq0.is at c.write_from.ensures.bytes))

pub returns-in-Ok-clause-there : goal.returns-in-Ok-clause-there
returns-in-Ok-clause-there g c =
    let done = c.args.done in
    let is : c.in-Some.at ≡ c.args.from + done = omega (arith, c.in-Some.ensures) in
    let low : done ≤ length c.args.bytes.now = c.requires in
    puts_more (g.F.PositionalFile.content c.args.file.now) (g.F.PositionalFile.content c.write_from.new.self) c.args.from done c.in-Some.at c.args.bytes.now is c.in-Ok.count
    (omega (arith, c.in-Ok.ensures.bound, length-drop done c.args.bytes.now, low)) c.in-Ok.ensures.bytes
