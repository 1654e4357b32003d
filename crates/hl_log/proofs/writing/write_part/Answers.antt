use Rattle.hl_log.proofs.Wraps.{adds_first, adds_second, has_added}
use Rattle.hl_log.proofs.Silence.{silent_then}
use Rattle.hl_log.proofs.writing.write_part.Goals as goal

pub returns-in_err-clear_next-clause-crash : goal.returns-in_err-clear_next-clause-crash
returns-in_err-clear_next-clause-crash g c = adds_first c.args.geometry.now c.args.log c.args.next c.args.bytes.now _ _ c.clear_next.ensures.crash

pub returns-clause-crash : goal.returns-clause-crash
returns-clause-crash g c = adds_second c.args.geometry.now c.args.log c.args.next c.args.bytes.now _ _ _ c.in_ok-clear_next.ensures.crash c.in_ok-clear_next.ensures.cleared c.put_part.ensures.crash

pub returns-clause-added : goal.returns-clause-added
returns-clause-added g c = has_added c.args.geometry.now c.args.log c.args.next c.args.bytes.now _ _ _ _ c.in_ok-clear_next.ensures.cleared c.put_part.ensures.crash c.put_part.ensures.put

pub returns-clause-silent : goal.returns-clause-silent
returns-clause-silent g c = silent_then _ _ _ c.in_ok-clear_next.ensures.silent c.put_part.ensures.silent
