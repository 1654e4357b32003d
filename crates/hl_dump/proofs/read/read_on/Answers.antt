use Rattle.std.proofs.Common.{◌≡◌, true, false, sym, ap, subst, ◌∙◌}
use Rattle.hl_dump.specs.Parsing.{ReadsEntry}
use Rattle.hl_dump.specs.Growing.{IsNext}
use Rattle.hl_dump.proofs.Growing.{other_next}
use Rattle.hl_dump.proofs.read.read_on.Goals as goal

pub returns-then-not-is_next-clause-read : goal.returns-then-not-is_next-clause-read
returns-then-not-is_next-clause-read c =
    let r = subst (ReadsEntry c.args.bytes.now c.args.at) c.in-Some.is c.in_ok-entry.ensures in
    other_next c.args.bytes.now c.args.at c.in-Some.entry.end c.args.tree.now.tree (c.in-Some.entry.path, c.in-Some.entry.node) r.0 r.1 (λ next. let is : c.is_next.result ≡ true = c.is_next.ensures.1 (subst (IsNext c.args.tree.now.tree) (sym c.names.ensures.is) next) in let isnt : c.is_next.result ≡ false = c.if-not-is_next.true in cc)

pub returns : goal.returns
returns c =
    let r = subst (ReadsEntry c.args.bytes.now c.args.at) c.in-Some.is c.in_ok-entry.ensures in
    record {
      limits = ap (λ p. p.limits) c.in_ok-put.ensures.ok ∙ c.requires.limits;
      read = record {
        entry = (c.in-Some.entry.path, c.in-Some.entry.node);
        is = r.0;
        next = subst (IsNext c.args.tree.now.tree) c.names.ensures.is (c.is_next.ensures.0 c.if-not-is_next.false);
        stands = r.1;
        put = ap (λ p. p.tree) c.in_ok-put.ensures.ok;
      };
    }
