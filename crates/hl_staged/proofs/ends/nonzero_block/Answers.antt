use Rattle.std.proofs.Common.{◌≡◌, length, refl, sym, subst}
use Rattle.std.specs.Prelude.{ℕ, Ok}
use Rattle.hl_log.proofs.Readings.{read_tells}
use Rattle.hl_media.specs.History.{content}
use Rattle.hl_nodes.specs.Lines.{IsZeroFrom}
use Rattle.hl_staged.proofs.ends.nonzero_block.Goals as goal

pub returns-then-is_zero_from-clause-told : goal.returns-then-is_zero_from-clause-told
returns-then-is_zero_from-clause-told g c = λ h e block (same, off).
    let size : length c.read.new.out ≡ 4096 = c.read.auto.out in
    let is = read_tells (Ok tt) (g.M.Machine.history c.args.machine.now) c.args.at c.read.new.out size c.in_ok-read.ensures.bytes h e in
    off (subst (λ (k : ℕ). IsZeroFrom c.args.from (content h k)) (sym same) (subst (IsZeroFrom c.args.from) (sym is) (c.if-is_zero_from.ensures.0 refl)))

pub returns-else-is_zero_from-clause-told : goal.returns-else-is_zero_from-clause-told
returns-else-is_zero_from-clause-told g c = λ h e.
    let size : length c.read.new.out ≡ 4096 = c.read.auto.out in
    let is = read_tells (Ok tt) (g.M.Machine.history c.args.machine.now) c.args.at c.read.new.out size c.in_ok-read.ensures.bytes h e in
    (refl, λ zero. (let yes = c.if-is_zero_from.ensures.1 (subst (IsZeroFrom c.args.from) is zero) in cc))
