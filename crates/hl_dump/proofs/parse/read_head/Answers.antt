use Rattle.std.proofs.Common.{◌≡◌, ◌+◌, ◌-◌, ℕ, take, drop, subst, ap, arith}
use Rattle.hl_dump.specs.Reading.{ReadsPath}
use Rattle.hl_dump.proofs.Parsing.{head_short, head_cut, head_off, head_read}
use Rattle.hl_dump.proofs.parse.read_head.Goals as goal

pub returns-then-bytes-at-lt5 : goal.returns-then-bytes-at-lt5
returns-then-bytes-at-lt5 c = λ kind path rest is short h. head_short c.args.bytes.now c.args.at c.if-bytes-at-lt5.true kind path rest h

pub returns-then-bytes-from : goal.returns-then-bytes-from
returns-then-bytes-from c = λ kind path rest is short h. head_cut c.args.bytes.now c.args.at c.get_u32-size.result c.if-bytes-at-lt5.false c.get_u32-size.type_inv c.get_u32-size.ensures.front c.if-bytes-from.true kind path rest short h

pub returns-in_default : goal.returns-in_default
returns-in_default c =
    let at = c.args.at in
    let n = c.get_u32-size.result in
    let behind = drop (at + 5) c.args.bytes.now in
    let size : at + 5 + n - (at + 5) ≡ n = omega arith in
    head_off c.args.bytes.now at n c.if-bytes-at-lt5.false c.get_u32-size.type_inv c.get_u32-size.ensures.front (take (at + 5 + n - (at + 5)) behind) (ap (λ (k : ℕ). take k behind) size)
    (subst (ReadsPath (take (at + 5 + n - (at + 5)) behind)) c.in_default.is c.in_ok-path.ensures)

pub returns : goal.returns
returns c =
    let at = c.args.at in
    let n = c.get_u32-size.result in
    let behind = drop (at + 5) c.args.bytes.now in
    let part = take (at + 5 + n - (at + 5)) behind in
    let size : at + 5 + n - (at + 5) ≡ n = omega arith in
    let path = subst (ReadsPath part) c.in-Some.is c.in_ok-path.ensures in
    let r = head_read c.args.bytes.now at n c.if-bytes-at-lt5.false c.get_u32-size.type_inv c.get_u32-size.ensures.front c.if-bytes-from.false part c.in-Some.path (ap (λ (k : ℕ). take k behind) size) path.1 in
    (path.0, r.0, r.1)
