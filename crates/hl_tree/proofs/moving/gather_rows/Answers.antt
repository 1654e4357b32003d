use Rattle.std.proofs.Common.{arith, ◌≡◌, ◌+◌, ◌≤◌, ◌∙◌, ap, subst, length, drop, length-append}
use Rattle.std.proofs.lemmas.List.{length-drop}
use Rattle.hl_tree.specs.Places.{IsAround}
use Rattle.hl_tree.specs.Moved.{kept_rows, moving_rows}
use Rattle.hl_tree.proofs.MovedRows.{fits, gathered}
use Rattle.hl_tree.proofs.moving.gather_rows.Goals as goal

pub turn_rows-requires : goal.turn_rows-requires
turn_rows-requires c =
    let rows = c.args.rows.now.items in
    let start = c.start_of-start.result in
    let around : IsAround rows c.args.path.now start = subst (λ es. IsAround es c.args.path.now start) c.as_slice.ensures.value c.start_of-start.ensures in
    let within : start ≤ length rows = around.within in
    let size : c.args.count ≤ length (drop start rows) = fits c.args.path.now rows start c.args.count c.requires.order around c.requires.counted in
    let left = length-drop start rows in
    omega arith

pub returns-clause-rows : goal.returns-clause-rows
returns-clause-rows c =
    let rows = c.args.rows.now.items in
    let start = c.start_of-start.result in
    let around : IsAround rows c.args.path.now start = subst (λ es. IsAround es c.args.path.now start) c.as_slice.ensures.value c.start_of-start.ensures in
    c.turn_rows.ensures ∙ gathered c.args.path.now rows start c.args.count c.requires.order around c.requires.counted

pub returns-clause-others : goal.returns-clause-others
returns-clause-others c =
    let rows = c.args.rows.now.items in
    let path = c.args.path.now in
    let all : length c.as_slice-2.result.now ≡ length (kept_rows path rows) + length (moving_rows path rows) = ap length (c.as_slice-2.ensures.value ∙ returns-clause-rows c) ∙ length-append (kept_rows path rows) (moving_rows path rows) in
    let counted : c.args.count ≡ length (moving_rows path rows) = c.requires.counted in
    omega arith

pub overflow_sub-result : goal.overflow_sub-result
overflow_sub-result c =
    let rows = c.args.rows.now.items in
    let path = c.args.path.now in
    let start = c.start_of-start.result in
    let around : IsAround rows path start = subst (λ es. IsAround es path start) c.as_slice.ensures.value c.start_of-start.ensures in
    let all : length c.as_slice-2.result.now ≡ length (kept_rows path rows) + length (moving_rows path rows) =
    ap length (c.as_slice-2.ensures.value ∙ c.turn_rows.ensures ∙ gathered path rows start c.args.count c.requires.order around c.requires.counted) ∙ length-append (kept_rows path rows) (moving_rows path rows) in
    let counted : c.args.count ≡ length (moving_rows path rows) = c.requires.counted in
    omega arith
