use Rattle.std.proofs.Common.{◌≡◌, ℕ, sym, subst, slice_get}
use Rattle.std.specs.Prelude.{Some, List, slice_index}
use Rattle.std.specs.Global.{Vec}
use Rattle.std.proofs.lemmas.Option.{get_or_from_slice_get}
use Rattle.std.proofs.lemmas.Result.{IfOk-weaker}
use Rattle.hl_bytes.specs.Buffers.{block_of}
use Rattle.hl_nodes.specs.Nodes.{IsInodeAt}
use Rattle.hl_found.specs.declared.live.LiveAt.{LiveAt}
use Rattle.hl_found.specs.Listing.{IsOfInode, IsOfNumber, Lists}
use Rattle.hl_found.proofs.LiveFound.{number_at, number_unlisted}
use Rattle.hl_found.proofs.live.blocks_of_number.Goals as goal

at_place : (xs : List ℕ) (i x : ℕ) → slice_get xs i ≡ Some x → slice_index xs i ≡ x
at_place xs i x e = get_or_from_slice_get xs i x 0 e

pub blocks_of_inode-requires-clause-pointers : goal.blocks_of_inode-requires-clause-pointers
blocks_of_inode-requires-clause-pointers c =
    let at = at_place c.args.tables.now.inodes c.args.ino c.inode-address.result c.inode-address.ensures.value in
    c.requires.pointers c.args.ino c.in-Some.inode c.requires.low c.requires.high
    (subst (λ (n : ℕ). IsInodeAt c.args.geometry.now (block_of c.args.image.now) c.args.ino n c.in-Some.inode) (sym at) c.in-Some.ensures)

pub returns-in-Some : goal.returns-in-Some
returns-in-Some c =
    let g = c.args.geometry.now in
    let image = block_of c.args.image.now in
    let own = c.inode-address.result in
    let at = at_place c.args.tables.now.inodes c.args.ino own c.inode-address.ensures.value in
    IfOk-weaker c.blocks_of_inode.result
    (λ (r : Vec LiveAt). Lists (IsOfInode g image c.args.ino own c.in-Some.inode) r.items)
    (λ (r : Vec LiveAt). Lists (IsOfNumber g image c.args.tables.now c.args.ino) r.items)
    (λ r one. number_at g image c.args.tables.now c.args.ino own c.in-Some.inode r.items at c.requires.low c.requires.high c.in-Some.ensures one)
    c.blocks_of_inode.ensures

pub returns-in-None : goal.returns-in-None
returns-in-None c =
    let g = c.args.geometry.now in
    let image = block_of c.args.image.now in
    let at = at_place c.args.tables.now.inodes c.args.ino c.inode-address.result c.inode-address.ensures.value in
    subst (Lists (IsOfNumber g image c.args.tables.now c.args.ino)) (sym c.new.ensures.items)
    (number_unlisted g image c.args.tables.now c.args.ino (λ v is. c.in-None.ensures v (subst (λ (n : ℕ). IsInodeAt g image c.args.ino n v) at is)))
