use Rattle.std.proofs.Common.{◌≡◌, ℕ, ◌*◌, ◌≤◌, sym, subst}
use Rattle.hl_media.specs.History.{HoldsAt, content}
use Rattle.hl_recovery.proofs.segment.next_part.Goals as goal

pub returns-clause-found : goal.returns-clause-found
returns-clause-found g c = λ h e was.
    let seg : c.hold.new.held.seg ≡ c.args.at.seg = c.in_ok-hold.ensures.seg in
    let low : 1 ≤ c.hold.new.held.seg = subst (λ (n : ℕ). 1 ≤ n) (sym seg) c.requires.low in
    c.in_ok-part.ensures.found (content h) (subst (λ (n : ℕ). HoldsAt (content h) (c.args.geometry.now.k * n) c.hold.new.held.bytes) seg (c.in_ok-hold.ensures.held h e was low))
