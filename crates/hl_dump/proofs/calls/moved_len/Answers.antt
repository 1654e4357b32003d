use Rattle.std.proofs.Common.{◌≡◌, ◌*◌, length, min, ap, sym, ◌∙◌, arith}
use Rattle.std.specs.FinMap.{len, len-entries}
use Rattle.hl_tree.specs.Names.{path_length}
use Rattle.hl_dump.proofs.calls.moved_len.Goals as goal

pub returns : goal.returns
returns c =
    let t = c.args.tree.now.tree in
    let size : length c.rows.result.now ≡ len t = ap length c.rows.ensures ∙ sym (len-entries t) in
    let bytes : c.min.result ≡ min (path_length c.args.to.now) 1023 = omega (arith, c.path_len.ensures, c.min.ensures) in
    c.saturating_mul.ensures ∙ (λ i. min (size i * bytes i) 18446744073709551615)
