use Rattle.std.proofs.Common.{take, refl}
use Rattle.hl_hierarchy.proofs.Decoded.{decoded}
use Rattle.hl_hierarchy.proofs.bytes.entries_in.Goals as goal

pub returns-then-not-is_zero : goal.returns-then-not-is_zero
returns-then-not-is_zero c = λ es spells. (let e = c.is_zero.ensures.1 spells.rest in let f = c.if-not-is_zero.true in cc)

pub returns : goal.returns
returns c = decoded c.args.size c.args.bytes.now (take c.args.size c.args.bytes.now) refl (c.is_zero.ensures.0 c.if-not-is_zero.false) c.decode.result c.decode.ensures.found c.decode.ensures.none
