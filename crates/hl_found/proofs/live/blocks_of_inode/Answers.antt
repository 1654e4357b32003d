use Rattle.hl_bytes.specs.Buffers.{block_of}
use Rattle.hl_found.proofs.LiveFound.{inode_listed}
use Rattle.hl_found.proofs.live.blocks_of_inode.Goals as goal

pub returns : goal.returns
returns c = inode_listed c.args.geometry.now (block_of c.args.image.now) c.args.ino c.args.address c.args.inode.now c.requires.there
    c.in_ok-lives.lives.items c.push_in_log.new.lives.items c.push_in_log-2.new.lives.items c.in_ok-lives.ensures c.in_ok-push_in_log.ensures c.in_ok-push_in_log-2.ensures
