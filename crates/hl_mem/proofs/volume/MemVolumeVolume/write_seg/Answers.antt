use Rattle.std.proofs.Common.{◌≡◌, ◌*◌, ◌<◌, ℕ, List, [], ◌∷◌, ◌++◌, length, get_or, set, Result, refl, sym, ◌∙◌, ap, subst, get_or-set_other, get_or-set_same}
use Rattle.std.specs.declared.alloc.AllocError.{AllocError}
use Rattle.std.proofs.lemmas.List.{length-set}
use Rattle.hl_mem.specs.Transfers.{AddsTried, IsKeptVolume, ToldVolume, TriedCall}
use Rattle.hl_mem.specs.Transfers.TriedCall.{TriedWrite}
use Rattle.hl_mem.proofs.VolumeKept.{get_or_there, sizes_set, tried_added, volume_kept_either, volume_kept_then, write_leads_slots}
use Rattle.hl_mem.proofs.volume.MemVolumeVolume.write_seg.Goals as goal

-- a slot that the volume has
there : (told opening : ToldVolume) (slot : ℕ) (now : List (List ℕ)) → opening ≡ told → length opening.opening ≡ length now → slot < length told.opening → slot < length now
there told opening slot now is many lt = subst (λ (n : ℕ). slot < n) (ap (λ (t : ToldVolume). length t.opening) (sym is) ∙ many) lt

-- a write that leaves what was there
failed : (bytes : ℕ) (opening now : List (List ℕ)) (calls more : List TriedCall) (r : Result (Unit {0}) AllocError) (slot : ℕ) (given after : List ℕ) → IsKeptVolume bytes opening now calls → slot < length now
    → length given ≡ bytes → after ≡ get_or now slot after → AddsTried r calls more (TriedWrite slot given after) → IsKeptVolume bytes opening now more
failed bytes opening now calls more r slot given after kept lt size is adds =
    let length_after : length after ≡ bytes = ap length is ∙ kept.sizes slot after lt in
    volume_kept_either bytes opening now calls kept r more (TriedWrite slot given after) adds (size, length_after)
    (write_leads_slots now now slot given after (get_or_there now slot after lt is) (λ n ne. refl))

-- a write that was done
done : (bytes : ℕ) (opening now : List (List ℕ)) (calls more : List TriedCall) (slot : ℕ) (given new : List ℕ) → IsKeptVolume bytes opening now calls → slot < length now
    → length given ≡ bytes → new ≡ given → more ≡ calls ++ TriedWrite slot given given ∷ [] → IsKeptVolume bytes opening (set now slot new) more
done bytes opening now calls more slot given new kept lt size is adds =
    let next = set now slot new in
    subst (λ (l : List TriedCall). IsKeptVolume bytes opening next l) (sym adds)
    (volume_kept_then bytes opening now calls kept (TriedWrite slot given given) next (size, size) (length-set now slot new) (sizes_set bytes now slot new kept.sizes (ap length is ∙ size))
    (write_leads_slots now next slot given given (get_or-set_same now slot new [] lt ∙ is) (λ n ne. rw get_or-set_other refl)))

-- a buffer of a slot's size
sized : (k blocks n : ℕ) → 4096 * blocks ≡ n → blocks ≡ k → n ≡ 4096 * k
sized k blocks n is same = sym is ∙ ap (λ (b : ℕ). 4096 * b) same

pub invariant_of-self-else-is_err : goal.invariant_of-self-else-is_err
invariant_of-self-else-is_err c =
    let inside = c.self.inside in
    let lt = there c.args.self.now _ c.args.slot inside.held.items c.self.view_is c.self.invariant.as_many c.requires in
    failed (4096 * inside.slot_blocks) inside.opening.items inside.held.items inside.transfers c.add_failed_write-kept.new.self c.add_failed_write-kept.result c.args.slot c.args.from.now c.index-after.result.now
    c.self.invariant lt (sized inside.slot_blocks c.blocks-2.result (length c.args.from.now) c.blocks-2.ensures c.if-blocks-self.false) c.index-after.ensures c.add_failed_write-kept.ensures

pub invariant_of-self-then-fails-2 : goal.invariant_of-self-then-fails-2
invariant_of-self-then-fails-2 c =
    let inside = c.self.inside in
    let lt = there c.args.self.now _ c.args.slot inside.held.items c.self.view_is c.self.invariant.as_many c.requires in
    failed (4096 * inside.slot_blocks) inside.opening.items inside.held.items inside.transfers c.add_failed_write-kept.new.self c.add_failed_write-kept.result c.args.slot c.args.from.now c.index-after.result.now
    c.self.invariant lt (sized inside.slot_blocks c.blocks-2.result (length c.args.from.now) c.blocks-2.ensures c.if-blocks-self.false) c.index-after.ensures c.add_failed_write-kept.ensures

pub invariant_of-self-2 : goal.invariant_of-self-2
invariant_of-self-2 c =
    let inside = c.self.inside in
    let lt = there c.args.self.now _ c.args.slot inside.held.items c.self.view_is c.self.invariant.as_many c.requires in
    done (4096 * inside.slot_blocks) inside.opening.items inside.held.items inside.transfers c.add_write.new.self c.args.slot c.args.from.now c.fill.new.buffer
    c.self.invariant lt (sized inside.slot_blocks c.blocks-2.result (length c.args.from.now) c.blocks-2.ensures c.if-blocks-self.false)
    (c.fill.ensures ∙ c.bytes_of.ensures)
    (tried_added c.add_write.result inside.transfers c.add_write.new.self (TriedWrite c.args.slot c.args.from.now c.args.from.now) (sym c.is_err-2.ensures.value ∙ c.if-is_err-2.false) c.add_write.ensures)
