use Rattle.std.proofs.lemmas.Result.{IfOk-weaker}
use Rattle.hl_script.proofs.Cuts.{gives_joined, cuts_joined, too_long_joined}
use Rattle.hl_script.proofs.lines.Lines.next.Goals as goal

pub returns-clause-ok : goal.returns-clause-ok
returns-clause-ok g c =
    let r = c.in_ok-refill.ensures in
    IfOk-weaker c.take.result _ _
    (λ found gives. gives_joined c.args.self.now c.refill.new.self c.take.new.self (g.S.Source.left c.args.source.now) (g.S.Source.left c.refill.new.source) found c.take.new.out.items
    r.same r.ready r.used r.limit gives) c.take.ensures.ok

pub returns-clause-cuts : goal.returns-clause-cuts
returns-clause-cuts g c =
    let r = c.in_ok-refill.ensures in
    IfOk-weaker c.take.result _ _
    (λ found gives. cuts_joined c.args.self.now c.refill.new.self c.take.new.self (g.S.Source.left c.args.source.now) (g.S.Source.left c.refill.new.source) found c.take.new.out.items
    r.same r.ready r.used r.limit gives) c.take.ensures.ok

pub returns-clause-too_long : goal.returns-clause-too_long
returns-clause-too_long g c e =
    let r = c.in_ok-refill.ensures in
    too_long_joined c.args.self.now c.refill.new.self (g.S.Source.left c.args.source.now) (g.S.Source.left c.refill.new.source) r.same r.ready r.used r.limit (c.take.ensures.too_long e)
