use Rattle.std.proofs.Common.{◌≡◌, ap, ◌∙◌, List, ℕ, length}
use Rattle.hl_bytes.specs.Buffers.{part_of}
use Rattle.hl_bytes.proofs.BufferLemmas.{part_is, length-part}
use Rattle.hl_bytes.proofs.buffer.SegBuf.part.Goals as goal

pub returns : goal.returns
returns c =
    let e : c.deref.result.now ≡ c.args.self.now = cc in
    let value = part_is c.deref.result.now c.args.from c.args.count ∙ ap (λ (l : List ℕ). part_of l c.args.from c.args.count) e in
    record { value = value; len = ap length value ∙ length-part c.args.self.now c.args.from c.args.count c.requires }
