use Rattle.std.proofs.Common.{◌∙◌, ap}
use Rattle.hl_addr.specs.Layout.{Layout}
use Rattle.hl_staged.proofs.SlotsOff.{once_line, tells_all, tells_limits, tells_line}
use Rattle.hl_staged.proofs.slots.off_slot.Goals as goal

pub returns-in-Some-first_off_limits : goal.returns-in-Some-first_off_limits
returns-in-Some-first_off_limits c =
    tells_limits c.args.geometry.now c.args.slots.now c.args.next c.items-items.result.now c.geometry.inside.lines c.items-items.ensures.value (ap (λ (l : Layout). l.lines) c.geometry.view_is)
    c.in-Some-first_off_limits.n c.in-Some-first_off_limits.ensures

pub returns-in-Some-2 : goal.returns-in-Some-2
returns-in-Some-2 c =
    tells_line c.args.geometry.now c.args.slots.now c.args.next c.items-items.result.now c.geometry.inside.lines c.items-items.ensures.value (ap (λ (l : Layout). l.lines) c.geometry.view_is)
    c.as_slice.result.now (c.as_slice.ensures.value ∙ c.in_ok-lines.ensures) c.in-Some-2.n c.in_ok-n.field-0 c.in-Some-2.is c.in_ok-n.ensures

pub returns : goal.returns
returns c =
    let lines = ap (λ (l : Layout). l.lines) c.geometry.view_is in
    let once = once_line c.args.geometry.now c.args.slots.now c.args.next c.items-items.result.now c.geometry.inside.lines c.items-items.ensures.value lines c.as_slice.result.now (c.as_slice.ensures.value ∙ c.in_ok-lines.ensures) c.in_ok-n.field-0 c.in_default-2.is c.in_ok-n.ensures in
    tells_all c.args.geometry.now c.args.slots.now c.args.next c.items-items.result.now c.geometry.inside.lines c.items-items.ensures.value lines
    c.as_slice-2.result.now (c.as_slice-2.ensures.value ∙ c.in_ok-serials.ensures) c.in_default.ensures c.in_default-first_off_limits.ensures once c.first_repeat-2.result c.first_repeat-2.ensures
