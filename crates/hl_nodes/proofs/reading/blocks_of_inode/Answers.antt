use Rattle.std.proofs.Common.{ℕ, ◌<◌, sym, subst, arith}
use Rattle.std.specs.List.{slice_index_or}
use Rattle.hl_bytes.specs.Buffers.{block_of}
use Rattle.hl_placed.specs.Blocks.{Hole, blocks_of}
use Rattle.hl_nodes.specs.Blocks.{StandsFor}
use Rattle.hl_nodes.proofs.ClassLemmas.{none_found}
use Rattle.hl_nodes.proofs.reading.blocks_of_inode.Goals as goal

pub returns-in-None : goal.returns-in-None
unfolding blocks_of
returns-in-None c blocks are =
    let g = c.args.geometry.now in
    let image = block_of c.args.image.now in
    let i = c.pointers.i in
    let low : i < blocks_of c.args.inode.now.size = omega (arith, c.pointers-test.true, c.div_ceil-i-end.ensures, c.requires.size) in
    none_found g c.args.slots.now image c.args.inode.now.kind c.pointer_of-address.result c.in_ok-block.field-0 c.in-None.is c.in_ok-block.ensures (slice_index_or blocks i Hole)
    (subst (λ (p : ℕ). StandsFor g c.args.slots.now image c.args.inode.now.kind p (slice_index_or blocks i Hole)) (sym c.pointer_of-address.ensures) (are.each i low))
