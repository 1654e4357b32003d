use Rattle.std.proofs.Common.{sym, arith}
use Rattle.std.specs.Prelude.{slice_index}
use Rattle.hl_census.specs.Naming.{is_address}
use Rattle.hl_census.proofs.FoundCharges.{any_from, none_from}
use Rattle.hl_census.proofs.NamedBlocks.{address_some}
use Rattle.hl_census.proofs.charging.has_far.Goals as goal

pub returns-then-pointers-i : goal.returns-then-pointers-i
returns-then-pointers-i c = sym (any_from is_address 12 c.args.pointers.now c.pointers.i c.pointers.auto.i c.pointers-test.true (address_some (slice_index c.args.pointers.now c.pointers.i) c.if-pointers-i.true))

pub returns : goal.returns
returns c = sym (none_from is_address 12 c.args.pointers.now (λ j low lt. c.pointers.invariant j low (omega (arith, c.pointers-test.false))))
