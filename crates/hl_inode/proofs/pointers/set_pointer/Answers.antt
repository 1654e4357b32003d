use Rattle.std.proofs.Common.{◌*◌, ◌^◌, ◌<◌, ◌∙◌, List, ℕ, ap, arith}
use Rattle.hl_bytes.proofs.RunLemmas.{u32s_at-written}
use Rattle.hl_bytes.specs.Runs.{u32s_at}
use Rattle.hl_inode.specs.Pointers.{pointers_of}
use Rattle.hl_inode.proofs.pointers.set_pointer.Goals as goal

pub returns : goal.returns
unfolding pointers_of
returns c =
    let fits : c.args.addr < 2 ^ 32 = omega (arith, c.ranges.addr.fits) in
    ap (λ (l : List ℕ). u32s_at 0 1024 l) c.put_u32.ensures.whole ∙ u32s_at-written c.args.block.now c.args.addr 0 1024 c.args.i (4 * c.args.i) fits (omega arith) c.requires.within (omega (arith, c.requires.size))
