use Rattle.std.proofs.Common.{◌≡◌, length, ap, ◌∙◌, subst, arith}
use Rattle.hl_tseg.specs.SlotTable.{SlotTable, IsSlotTable}
use Rattle.hl_tseg.proofs.OpenSlots.{reaches, so_far_more, passed_more, found_open, found_first, none_open}
use Rattle.hl_tseg.proofs.table.TsegTable.next_free.Goals as goal

pub overflow_add-end : goal.overflow_add-end
overflow_add-end c =
    let same : c.items-slots-items.result.now ≡ c.args.self.now.volumes = c.items-slots-items.ensures ∙ ap (λ (t : SlotTable). t.volumes) c.self.view_is in
    let ok : IsSlotTable c.args.self.now = subst IsSlotTable c.self.view_is c.self.invariant in
    let room = reaches c.args.self.now c.items-slots-items.result.now c.volumes.volume c.volumes.first ok same (omega (arith, ap length same)) c.volumes.invariant.so_far in
    omega (arith, room.1)

pub open_in-requires-clause-within : goal.open_in-requires-clause-within
open_in-requires-clause-within c =
    let same : c.items-slots-items.result.now ≡ c.args.self.now.volumes = c.items-slots-items.ensures ∙ ap (λ (t : SlotTable). t.volumes) c.self.view_is in
    let ok : IsSlotTable c.args.self.now = subst IsSlotTable c.self.view_is c.self.invariant in
    let room = reaches c.args.self.now c.items-slots-items.result.now c.volumes.volume c.volumes.first ok same (omega (arith, ap length same)) c.volumes.invariant.so_far in
    room.0

pub returns-in-Some-clause-open : goal.returns-in-Some-clause-open
returns-in-Some-clause-open c =
    let same : c.items-slots-items.result.now ≡ c.args.self.now.volumes = c.items-slots-items.ensures ∙ ap (λ (t : SlotTable). t.volumes) c.self.view_is in
    found_open c.args.self.now c.items-slots-items.result.now c.volumes.volume c.volumes.first c.in-Some.number same (omega (arith, ap length same)) c.volumes.invariant.so_far c.in-Some.ensures.found

pub returns-in-Some-clause-first : goal.returns-in-Some-clause-first
returns-in-Some-clause-first c =
    let same : c.items-slots-items.result.now ≡ c.args.self.now.volumes = c.items-slots-items.ensures ∙ ap (λ (t : SlotTable). t.volumes) c.self.view_is in
    found_first c.args.self.now c.items-slots-items.result.now c.volumes.volume c.volumes.first c.in-Some.number same (omega (arith, ap length same)) c.volumes.invariant.so_far c.in-Some.ensures.found.1 c.volumes.invariant.passed c.in-Some.ensures.first

pub returns-in-Some-clause-none : goal.returns-in-Some-clause-none
returns-in-Some-clause-none c =
    let same : c.items-slots-items.result.now ≡ c.args.self.now.volumes = c.items-slots-items.ensures ∙ ap (λ (t : SlotTable). t.volumes) c.self.view_is in
    (λ e. cc, λ never. absurd (never c.in-Some.number (found_open c.args.self.now c.items-slots-items.result.now c.volumes.volume c.volumes.first c.in-Some.number same (omega (arith, ap length same)) c.volumes.invariant.so_far c.in-Some.ensures.found)))

pub volumes-preserved : goal.volumes-preserved
volumes-preserved c =
    let same : c.items-slots-items.result.now ≡ c.args.self.now.volumes = c.items-slots-items.ensures ∙ ap (λ (t : SlotTable). t.volumes) c.self.view_is in
    record {
      so_far = so_far_more c.args.self.now c.items-slots-items.result.now c.volumes.volume c.volumes.first same (omega (arith, ap length same)) c.volumes.invariant.so_far;
      passed = passed_more c.args.self.now c.items-slots-items.result.now c.volumes.volume c.volumes.first same (omega (arith, ap length same)) c.volumes.invariant.so_far c.volumes.invariant.passed c.in_default.ensures.none;
    }

pub returns-clause-none : goal.returns-clause-none
returns-clause-none c =
    let same : c.items-slots-items.result.now ≡ c.args.self.now.volumes = c.items-slots-items.ensures ∙ ap (λ (t : SlotTable). t.volumes) c.self.view_is in
    let ok : IsSlotTable c.args.self.now = subst IsSlotTable c.self.view_is c.self.invariant in
    (λ _. none_open c.args.self.now c.volumes.volume c.volumes.first ok (omega (arith, ap length same)) c.volumes.invariant.so_far c.volumes.invariant.passed, λ never. cc)
