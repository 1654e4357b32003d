use Rattle.std.proofs.Common.{◌≡◌, ◌+◌, ◌*◌, ◌≤◌, List, ℕ, length, refl, ap, ◌∙◌, arith}
use Rattle.hl_bytes.specs.Buffers.{with_part, part_of}
use Rattle.hl_bytes.proofs.BufferLemmas.{part_is, length-part, cut}
use Rattle.hl_bytes.proofs.buffer.SegBuf.part_mut.Goals as goal

pub returns : goal.returns
unfolding with_part
returns c =
    let items = c.self.inside.bytes.items in
    let same : items ≡ c.args.self.now = c.self.view_is in
    let room : 4096 * (c.args.from + c.args.count) ≤ length items = omega (arith, ap length same) in
    let value : c.slice_mut.result.now ≡ part_of c.args.self.now c.args.from c.args.count =
    c.slice_mut.ensures.value ∙ part_is items c.args.from c.args.count ∙ ap (λ (l : List ℕ). part_of l c.args.from c.args.count) same in (
      (refl, λ w. cut items w (4096 * c.args.from) c.self.inside.bytes.len (omega arith) c.self.inside.bytes.ok.0 ∙ ap (λ (l : List ℕ). with_part l c.args.from w) same),
      record { writes_back = tt; value = value; len = ap length value ∙ length-part c.args.self.now c.args.from c.args.count c.requires },
    )
