use Rattle.hl_bytes.proofs.Seals.{sealed_over_by}
use Rattle.hl_bytes.proofs.sealing.is_sealed_over.Goals as goal

pub returns : goal.returns
returns c = let p = sealed_over_by c.args.bytes.now c.digest_over.result c.digest_over.ensures c.requires in (λ t. p.0 (c.has_bytes.ensures.0 t), λ e. c.has_bytes.ensures.1 (p.1 e))
