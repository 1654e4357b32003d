use Rattle.std.proofs.Common.{◌<◌, ◌^◌}
use Rattle.std.proofs.lemmas.List.Elements.{All-from_get_or, recursion_from_All}
use Rattle.hl_inode.proofs.inode.put_direct.Goals as goal

pub returns-clause-room : goal.returns-clause-room
returns-clause-room c = recursion_from_All (λ n. n < 2 ^ 32) c.args.pointers.now (All-from_get_or (λ n. n < 2 ^ 32) c.args.pointers.now 0 (λ i lt. c.fits-pointers i))
