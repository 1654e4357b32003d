use Rattle.std.proofs.Common.{length, arith, below_more, refl}
use Rattle.hl_recovery.proofs.RackLaws.{same_by_places, lacks, has_other, has_more, same_more}
use Rattle.hl_recovery.proofs.rack.first_other.Goals as goal
use Rattle.hl_recovery.proofs.rack.first_other.Goals.{then-i-rack-via-then-i-rack, then-i-rack-via-else-i-rack+then-rack-i}

pub returns-then-i-rack : goal.returns-then-i-rack
returns-then-i-rack c =
    let volumes = c.args.volumes.now in
    let rack = c.args.rack.now in
    elim c.then-i-rack.branch [
      | then-i-rack-via-then-i-rack w ↦ lacks volumes rack c.volumes.i c.volumes.invariant c.volumes-test.true w.if-i-rack.true
      | then-i-rack-via-else-i-rack+then-rack-i w ↦ has_other volumes rack c.volumes.i c.volumes.invariant c.volumes-test.true w.if-i-rack.false w.if-rack-i.true
    ]

pub volumes-preserved : goal.volumes-preserved
volumes-preserved c =
    below_more _ _ c.volumes.invariant (same_more c.args.volumes.now c.args.rack.now c.volumes.i c.volumes.invariant c.volumes-test.true c.if-i-rack.false c.if-rack-i.false)

pub returns-then-rack-volumes : goal.returns-then-rack-volumes
returns-then-rack-volumes c =
    has_more c.args.volumes.now c.args.rack.now (length c.args.volumes.now) (λ k lt. c.volumes.invariant k (omega (arith, c.volumes-test.false))) refl c.if-rack-volumes.true

pub returns : goal.returns
returns c = same_by_places c.args.rack.now c.args.volumes.now c.if-rack-volumes.false (λ k lt. c.volumes.invariant k (omega (arith, c.volumes-test.false)))
