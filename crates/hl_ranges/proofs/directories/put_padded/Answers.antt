use Rattle.std.proofs.Common.{◌≡◌, ℕ, ◌+◌, ◌-◌, ◌*◌, List, length, replicate, refl, subst, arith}
use Rattle.std.proofs.lemmas.List.{get_or-replicate}
use Rattle.std.proofs.Math.ListN.{length-replicate}
use borrow.Rule.Slice.PartMut.{put_mid}
use Rattle.hl_placed.specs.Blocks as blocks
use Rattle.hl_store.specs.Changes.{Always, PutsInto}
use Rattle.hl_ranges.proofs.DirectoryPuts.{last_block, whole_block}
use Rattle.hl_ranges.proofs.directories.put_padded.Goals as goal

pub returns-then-start-bytes-clause-puts : goal.returns-then-start-bytes-clause-puts
returns-then-start-bytes-clause-puts g c =
    let n_is : 4096 * c.args.i + 4096 - 4096 * c.args.i ≡ 4096 = omega arith in
    subst (λ (b : List ℕ). PutsInto {M = g.row.M.Denot} c.args.store.now c.put.new.self c.args.ino c.args.i Always (blocks.Here b))
    (whole_block c.args.bytes.now c.args.i (4096 * c.args.i) (4096 * c.args.i + 4096 - 4096 * c.args.i) refl n_is c.if-start-bytes.true) c.put.ensures.puts

pub returns-clause-puts : goal.returns-clause-puts
returns-clause-puts g c =
    let k : PutsInto {M = g.row.M.Denot} c.args.store.now c.put-2.new.self c.args.ino c.args.i Always (blocks.Here (put_mid 0 (length c.args.bytes.now - 4096 * c.args.i) (replicate 4096 0) c.copy_from_slice.new.self)) = c.put-2.ensures.puts in
    subst (λ (b : List ℕ). PutsInto {M = g.row.M.Denot} c.args.store.now c.put-2.new.self c.args.ino c.args.i Always (blocks.Here b))
    (last_block c.args.bytes.now (replicate 4096 0) c.copy_from_slice.new.self c.args.i (4096 * c.args.i) (length c.args.bytes.now - 4096 * c.args.i) refl c.requires.begins (omega arith) refl (length-replicate {A = ℕ} 4096 0) (λ j lt. get_or-replicate 4096 j 0 0 lt) c.copy_from_slice.ensures.after) k
