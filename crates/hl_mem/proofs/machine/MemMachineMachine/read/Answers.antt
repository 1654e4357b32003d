use Rattle.std.proofs.Common.{◌≡◌, ◌+◌, ◌*◌, ◌-◌, ℕ, length, take, drop, List, sym, ◌∙◌, ap, arith}
use Rattle.hl_bytes.specs.Buffers.{block_of}
use Rattle.hl_media.specs.History.{History, content}
use Rattle.hl_media.specs.History.DeviceCall.{Read}
use Rattle.hl_mem.specs.Told.{Told, history_of}
use Rattle.hl_mem.proofs.Parts.{slice_block}
use Rattle.hl_mem.proofs.KeptLemmas.{kept_either, read_leads}
use Rattle.hl_mem.proofs.machine.MemMachineMachine.read.Goals as goal

pub invariant_of-self : goal.invariant_of-self
invariant_of-self c = kept_either c.self.inside.blocks c.self.inside.opening.items c.self.inside.recording c.self.inside.bytes.items c.self.invariant
    c.add_read-kept.result c.add_read-kept.new.self Read c.add_read-kept.ensures tt (read_leads c.self.inside.bytes.items)

pub invariant_of-self-2 : goal.invariant_of-self-2
invariant_of-self-2 c = kept_either c.self.inside.blocks c.self.inside.opening.items c.self.inside.recording c.self.inside.bytes.items c.self.invariant
    c.add_read-kept.result c.add_read-kept.new.self Read c.add_read-kept.ensures tt (read_leads c.self.inside.bytes.items)

pub returns-clause-bytes : goal.returns-clause-bytes
returns-clause-bytes c h e k lt =
    let told : history_of c.args.self.now ≡ h = cc in
    let at = c.args.at in
    let bytes = c.self.inside.bytes.items in
    let m = 4096 * at + length c.args.out.now - 4096 * at in
    let out : c.copy_from_slice.new.self ≡ take m (drop (4096 * at) bytes) = c.copy_from_slice.ensures.after ∙ ap (λ (l : List ℕ). take m (drop (4096 * at) l)) c.deref.ensures.value in
    let size : length c.copy_from_slice.new.self ≡ length c.args.out.now = c.copy_from_slice.ensures.len in
    ap (λ (x : History). content x (at + k)) (sym told) ∙ ap (λ (t : Told). content (history_of t) (at + k)) (sym c.self.view_is)
    ∙ c.self.invariant.current (at + k) ∙ sym (slice_block bytes at m k (omega (arith, size, lt))) ∙ ap (λ (l : List ℕ). block_of l k) (sym out)
