use Rattle.std.proofs.Common.{arith, ◌≡◌, ◌+◌, ◌≤◌, ◌++◌, ◌∷◌, [], ◌∙◌, ap, sym, length, take, drop, set, length-set}
use Rattle.std.proofs.lemmas.List.{take-append-drop, nil_from_length, length_push}
use Rattle.hl_tree.specs.Moved.{with_keys}
use Rattle.hl_tree.proofs.MovedPaths.{renamed_more}
use Rattle.hl_tree.proofs.moving.rename_rows.Goals as goal

pub paths-preserved : goal.paths-preserved
paths-preserved c =
    let rows = c.paths.rows.items in
    let left = c.pop.new.self.items in
    let n = length c.as_slice.result.now in
    let was : c.paths.paths.items ≡ left ++ c.in-Some.path ∷ [] = c.in-Some.ensures.items in
    let count : n ≡ length left = ap length c.as_slice.ensures.value in
    let more : length c.paths.paths.items ≡ length left + 1 = ap length was ∙ length_push left c.in-Some.path in
    let room : c.args.start + length c.paths.paths.items ≤ length rows = c.paths.invariant.fits in
    let same : length (set rows (c.args.start + n) (c.in-Some.path, c.index_mut.result.now.1)) ≡ length rows = length-set rows (c.args.start + n) (c.in-Some.path, c.index_mut.result.now.1) in
    record {
      fits = omega arith;
      rest = renamed_more rows left c.paths.paths.items c.in-Some.path c.args.start n c.index_mut.result.now was count c.index_mut.ensures.value room ∙ c.paths.invariant.rest;
    }

pub returns : goal.returns
returns c =
    let rows = c.paths.rows.items in
    let none : length c.paths.paths.items ≡ 0 = omega (arith, c.in_default.ensures.cases, c.paths.paths.ok) in
    sym (take-append-drop c.args.start rows)
    ∙ ap (λ keys. take c.args.start rows ++ with_keys keys (drop c.args.start rows)) (sym (nil_from_length c.paths.paths.items none))
    ∙ c.paths.invariant.rest
