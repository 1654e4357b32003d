use Rattle.std.proofs.Common.{◌≡◌, ◌+◌, ◌-◌, ℕ, take, drop, ap, ◌∙◌, arith}
use Rattle.hl_dump.proofs.Parsing.{content_short, content_cut, content_read}
use Rattle.hl_dump.proofs.parse.read_content.Goals as goal

pub returns-then-bytes-at-lt4 : goal.returns-then-bytes-at-lt4
returns-then-bytes-at-lt4 c = λ content rest short h. content_short c.args.bytes.now c.args.at c.if-bytes-at-lt4.true content rest h

pub returns-then-bytes-from : goal.returns-then-bytes-from
returns-then-bytes-from c = content_cut c.args.bytes.now c.args.at c.get_u32-size.result c.if-bytes-at-lt4.false c.get_u32-size.type_inv c.get_u32-size.ensures.front c.if-bytes-from.true

pub returns : goal.returns
returns c =
    let at = c.args.at in
    let n = c.get_u32-size.result in
    let behind = drop (at + 4) c.args.bytes.now in
    let size : at + 4 + n - (at + 4) ≡ n = omega arith in
    content_read c.args.bytes.now at n c.if-bytes-at-lt4.false c.get_u32-size.type_inv c.get_u32-size.ensures.front c.if-bytes-from.false c.of-bytes.result
    (c.of-bytes.ensures ∙ c.in_ok-from_slice.ensures.items ∙ ap (λ (k : ℕ). take k behind) size)
