use Rattle.std.proofs.Common.{sym, ap, subst}
use Rattle.hl_dump.specs.Growing.{IsReadTo, ReadsOn}
use Rattle.hl_dump.proofs.Growing.{none_read, more_read, off_the_form, all_read}
use Rattle.hl_dump.proofs.Found.{tree_found, none_found, too_long}
use Rattle.hl_dump.proofs.read.read_dump.Goals as goal

pub entries-init : goal.entries-init
entries-init c = record {
  limits = ap (λ p. p.limits) c.in_ok-tree.ensures;
  read = subst (IsReadTo c.args.bytes.now 0) (sym (ap (λ p. p.tree) c.in_ok-tree.ensures)) (none_read c.args.bytes.now);
}

pub entries-preserved : goal.entries-preserved
entries-preserved c = record {
  limits = c.read_on.ensures.limits;
  read = more_read c.args.bytes.now c.entries.at c.in-Some.end c.entries.tree.tree c.read_on.new.tree.tree c.entries.invariant.read (subst (ReadsOn c.args.bytes.now c.entries.at c.entries.tree.tree c.read_on.new.tree.tree) c.in-Some.is c.in_ok-end.ensures.read);
}

pub returns-then-bytes-gt-DUMP_MAX : goal.returns-then-bytes-gt-DUMP_MAX
returns-then-bytes-gt-DUMP_MAX c = let f = none_found c.args.bytes.now (too_long c.args.bytes.now c.if-bytes-gt-DUMP_MAX.true) in record { found = f.found; none = f.none }

pub returns : goal.returns
returns c = let f = tree_found c.args.bytes.now c.entries.tree c.entries.invariant.limits (all_read c.args.bytes.now c.entries.at c.entries.tree.tree c.entries.invariant.read c.entries-test.false c.if-bytes-gt-DUMP_MAX.false) in record { found = f.found; none = f.none }

pub returns-in_default : goal.returns-in_default
returns-in_default c = let f = none_found c.args.bytes.now (off_the_form c.args.bytes.now c.entries.at c.entries.tree.tree c.entries.invariant.read c.entries-test.true (subst (ReadsOn c.args.bytes.now c.entries.at c.entries.tree.tree c.read_on.new.tree.tree) c.in_default.is c.in_ok-end.ensures.read)) in record { found = f.found; none = f.none }
