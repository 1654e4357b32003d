use Rattle.std.proofs.Common.{◌≡◌, ◌+◌, ◌*◌, ◌-◌, ◌/◌, ◌≤◌, ℕ, length, take, drop, List, sym, refl, ◌∙◌, ap, subst, arith, length-take, length-drop}
use Rattle.std.specs.Vec.{with_items}
use Rattle.std.proofs.lemmas.List.{with_items_is}
use borrow.Rule.Slice.PartMut.{put_mid}
use Rattle.hl_bytes.specs.Buffers.{block_of}
use Rattle.hl_media.specs.History.{DeviceCall, IsWhole, overwritten}
use Rattle.hl_media.specs.History.DeviceCall.{Write}
use Rattle.hl_mem.specs.Told.{Told}
use Rattle.hl_mem.specs.Kept.{IsKept}
use Rattle.hl_mem.specs.Recorded.{AddsCall}
use Rattle.hl_mem.proofs.Parts.{put}
use Rattle.hl_mem.proofs.Writes.{length_put, put_shows, same_shows}
use Rattle.hl_mem.proofs.KeptLemmas.{kept_either, kept_then, added}
use Rattle.hl_mem.proofs.machine.MemMachineMachine.write.Goals as goal

-- whole blocks within the disk, in bytes
room : (blocks told at : ℕ) (given : List ℕ) → blocks ≡ told → IsWhole given → at + length given / 4096 ≤ told → 4096 * at + length given ≤ 4096 * blocks
room blocks told at given same whole within = omega arith

pub invariant_of-self : goal.invariant_of-self
invariant_of-self c =
    let inside = c.self.inside in
    let bytes = inside.bytes.items in
    let at = c.args.at in
    let given = c.args.bytes.now in
    let m = 4096 * at + length given - 4096 * at in
    let count = length given / 4096 in
    let after = take m (drop (4096 * at) bytes) in
    let whole : m ≡ 4096 * count = omega (arith, c.requires.whole) in
    let fits = room inside.blocks c.args.self.now.blocks at given (ap (λ (t : Told). t.blocks) c.self.view_is) c.requires.whole c.requires.within in
    let same : length after ≡ length given = omega (arith, length-take m (drop (4096 * at) bytes), length-drop (4096 * at) bytes, c.self.invariant.size, fits) in
    let adds = subst (λ (l : List ℕ). AddsCall c.add_failed_write.result inside.recording c.add_failed_write.new.self (Write at given (take m (drop (4096 * at) l)))) c.deref.ensures.value c.add_failed_write.ensures in
    kept_either inside.blocks inside.opening.items inside.recording bytes c.self.invariant
    c.add_failed_write.result c.add_failed_write.new.self (Write at given after) adds (c.requires.whole, same, fits)
    (λ s is. same_shows bytes at m count whole s.content is)

pub invariant_of-self-2 : goal.invariant_of-self-2
invariant_of-self-2 c =
    let inside = c.self.inside in
    let bytes = inside.bytes.items in
    let at = c.args.at in
    let given = c.args.bytes.now in
    let m = 4096 * at + length given - 4096 * at in
    let count = length given / 4096 in
    let new = c.copy_from_slice.new.self in
    let next = put bytes new at m in
    let same : new ≡ given = c.copy_from_slice.ensures.after in
    let whole : m ≡ 4096 * count = omega (arith, c.requires.whole) in
    let size : length new ≡ m = ap length same ∙ omega arith in
    let fits = room inside.blocks c.args.self.now.blocks at given (ap (λ (t : Told). t.blocks) c.self.view_is) c.requires.whole c.requires.within in
    let within : 4096 * at + m ≤ length bytes = omega (arith, c.self.invariant.size, fits) in
    let long : length next ≡ length bytes = length_put bytes new at m size within in
    let then_kept = kept_then inside.blocks inside.opening.items inside.recording bytes c.self.invariant (Write at given given) next (c.requires.whole, refl, fits) long
    (λ s is k. subst (λ (l : List ℕ). overwritten s.content at count l k ≡ block_of next k) same (put_shows bytes new at m count size whole within s.content is k)) in
    let kept = subst (λ (l : List DeviceCall). IsKept inside.blocks inside.opening.items l next)
    (sym (added c.add_write.result inside.recording c.add_write.new.self (Write at given given) (sym c.is_err.ensures.value ∙ c.if-is_err.false) c.add_write.ensures)) then_kept in
    let lent = c.deref_mut.ensures.value in
    let moved : put_mid (4096 * at) m c.deref_mut.result.now new ≡ next = ap (λ (l : List ℕ). put_mid (4096 * at) m l new) lent in
    let items : (with_items inside.bytes (put_mid (4096 * at) m c.deref_mut.result.now new)).items ≡ next =
    with_items_is inside.bytes (put_mid (4096 * at) m c.deref_mut.result.now new) (ap length moved ∙ long ∙ sym (ap length lent) ∙ c.deref_mut.ensures.len) ∙ moved in
    subst (IsKept inside.blocks inside.opening.items c.add_write.new.self) (sym items) kept
