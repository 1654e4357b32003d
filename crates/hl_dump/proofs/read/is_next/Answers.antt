use Rattle.std.proofs.Common.{◌≡◌, All, length, ap, subst, arith}
use Rattle.std.specs.FinMap.{len-entries}
use Rattle.std.specs.declared.cmp.Ordering.TheVariants.{Less}
use Rattle.hl_tree.specs.Names.{path_cmp}
use Rattle.hl_tree.proofs.Sorted.{sorted_entries}
use Rattle.hl_dump.specs.Reading.{Row}
use Rattle.hl_dump.proofs.read.is_next.Goals as goal

pub returns-then-rows : goal.returns-then-rows
returns-then-rows c =
    let t = c.args.tree.now.tree in
    let size = ap length c.rows-rows.ensures in
    (λ e. absurd cc, λ next. let room = next.room in absurd (omega (arith, size, room, len-entries t)))

pub comes_last-requires : goal.comes_last-requires
comes_last-requires c = sorted_entries c.rows-rows.result.now c.args.tree.now.tree c.rows-rows.ensures

pub returns : goal.returns
returns c =
    let t = c.args.tree.now.tree in
    let size = ap length c.rows-rows.ensures in (
      λ is. record {
        room = omega (arith, size, len-entries t);
        last = subst (All (λ (row : Row). path_cmp row.0 c.args.path.now ≡ Less)) c.rows-rows.ensures (c.comes_last.ensures.0 c.if-not-comes_last.false);
        parent = c.has_parent.ensures.0 is;
      },
      λ next. c.has_parent.ensures.1 next.parent,
    )
