use Rattle.std.proofs.Common.{◌≡◌, ◌+◌, ◌≤◌, ℕ, List, sym, ◌∙◌, ap, subst, arith}
use Rattle.std.specs.Global.{Vec}
use Rattle.hl_addr.specs.Layout.{Layout}
use Rattle.hl_census.specs.Clearing.{AreEmptyBelow}
use Rattle.hl_census.proofs.CleanSegments.{empty_more, empty_not}
use Rattle.hl_census.proofs.clearing.empty_segments.Goals as goal
use Rattle.hl_census.proofs.clearing.empty_segments.Goals.{then-is_empty+in_ok-push, else-is_empty}

pub segments-preserved : goal.segments-preserved
segments-preserved c =
    let at = c.args.at in
    let covered = c.args.covered.now in
    let live = c.args.live.now in
    let segment = c.segments.segment in
    let clean = c.segments.clean.items in
    elim c.if-is_empty.branch [
      | then-is_empty+in_ok-push w ↦ subst (λ (l : List ℕ). AreEmptyBelow at covered live (segment + 1) l) (sym (ap (λ (v : Vec ℕ). v.items) w.clean-is ∙ w.in_ok-push.ensures.items))
          (empty_more at covered live segment clean c.segments.invariant c.segments.auto.segment (c.is_empty.ensures.0 w.if-is_empty.true))
      | else-is_empty w ↦ subst (λ (l : List ℕ). AreEmptyBelow at covered live (segment + 1) l) (sym (ap (λ (v : Vec ℕ). v.items) w.clean-is))
          (empty_not at covered live segment clean c.segments.invariant (λ is. (let e = c.is_empty.ensures.1 is in let f = w.if-is_empty.false in cc)))
    ]

pub returns-clause-empty : goal.returns-clause-empty
returns-clause-empty c =
    let g = c.args.geometry.now in
    let size : c.geometry.inside.log ≡ g.log = ap (λ (l : Layout). l.log) c.geometry.view_is in
    let high : c.segments.segment ≤ c.geometry.inside.log + 1 = c.segments.auto.segment-end (omega arith) in
    let end : c.segments.segment ≡ g.log + 1 = omega (arith, c.segments-test.false) in
    subst (λ (n : ℕ). AreEmptyBelow c.args.at c.args.covered.now c.args.live.now n c.segments.clean.items) end c.segments.invariant
