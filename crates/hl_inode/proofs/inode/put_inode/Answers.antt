use Rattle.std.proofs.Common.{arith}
use Rattle.hl_inode.proofs.inode.put_inode.Goals as goal

pub returns-clause-room : goal.returns-clause-room
returns-clause-room c =
    record {
      number = omega arith;
      used = omega arith;
      count = c.put_direct.ensures.count;
      direct = c.put_direct.ensures.room;
      single = omega arith;
    }
