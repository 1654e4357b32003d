use Rattle.std.proofs.Common.{◌≡◌, ℕ, subst, arith}
use Rattle.hl_bytes.specs.Buffers.{block_of}
use Rattle.hl_placed.specs.Blocks.{blocks_of}
use Rattle.hl_found.specs.Listing.{IsContent, Lists}
use Rattle.hl_found.proofs.LiveFound.{contents_more}
use Rattle.hl_found.proofs.live.contents_in_log.Goals as goal

pub contents-preserved : goal.contents-preserved
contents-preserved c = contents_more c.args.geometry.now (block_of c.args.image.now) c.args.ino c.args.inode.now c.contents.i c.contents.lives.items c.push_in_log.new.lives.items c.pointer_of-address.result
    c.contents.invariant c.pointer_of-address.ensures c.in_ok-push_in_log.ensures

pub returns : goal.returns
unfolding blocks_of
returns c =
    let e : c.contents.i ≡ blocks_of c.args.inode.now.size = omega (arith, c.contents-test.false, c.contents.auto.i-end, c.div_ceil-i-end.ensures, c.requires.size) in
    subst (λ (n : ℕ). Lists (IsContent c.args.geometry.now (block_of c.args.image.now) c.args.ino c.args.inode.now n) c.contents.lives.items) e c.contents.invariant
