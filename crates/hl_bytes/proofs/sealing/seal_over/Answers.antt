use Rattle.hl_bytes.proofs.Seals.{written_over}
use Rattle.hl_bytes.proofs.sealing.seal_over.Goals as goal

pub returns : goal.returns
returns c = written_over c.args.bytes.now c.put_bytes.new.bytes c.digest_over-digest.result c.digest_over-digest.ensures c.put_bytes.ensures.whole
