use Rattle.std.proofs.Common.{◌≡◌, ◌+◌, ◌∙◌, ◌++◌, ◌∷◌, [], ℕ, true, false, List, length, ap, subst, sym, refl, take, arith, IsNone}
use Rattle.hl_bytes.specs.Buffers.{block_of}
use Rattle.hl_image.specs.declared.chain.ChainPart.{ChainPart}
use Rattle.hl_image.specs.Newest.{start_of}
use Rattle.hl_image.specs.Parts.{next_of}
use Rattle.hl_image.proofs.Walking.{Walked, walk_goes_on, walk_ends, none_past}
use Rattle.hl_image.proofs.chain.chain_parts.Goals as goal
use Rattle.hl_image.proofs.chain.chain_parts.Goals.{then-ends, else-ends, in-Some+in_ok-push+then-serial, in_default}

pub walk-preserved : goal.walk-preserved
walk-preserved c =
    let g = c.args.geometry.now in
    let start = start_of c.args.rec.now in
    let here = (c.in_ok-summary.ensures.found c.in-Some.summary).0 c.in-Some.is in
    let s = c.in-Some.summary in
    let closes : s.ends ≡ true → c.if-ends.ended ≡ length c.walk.chain.items + 1 = λ e. elim c.if-ends.branch [
      | then-ends w ↦ omega (arith, w.ended-is, w.len-ended.ensures, c.in_ok-push.ensures.len, ap length c.in_ok-push.ensures.items)
      | else-ends w ↦ absurd (let f = w.if-ends.false in cc)
    ] in
    let stays : s.ends ≡ false → c.if-ends.ended ≡ c.walk.ended = λ e. elim c.if-ends.branch [
      | then-ends w ↦ absurd (let f = w.if-ends.true in cc)
      | else-ends w ↦ w.ended-is
    ] in
    subst (λ (l : List ChainPart). Walked g (block_of c.args.image.now) start c.args.rec.now.serial l c.if-ends.ended (next_of s) (c.walk.serial + 1)) (sym c.in_ok-push.ensures.items)
    (walk_goes_on g (block_of c.args.image.now) start c.args.rec.now.serial c.walk.chain.items c.walk.ended c.walk.at c.walk.serial c.walk.invariant s here c.if-ends.ended closes stays)

pub returns : goal.returns
returns c =
    let g = c.args.geometry.now in
    let start = start_of c.args.rec.now in
    elim c.match-branch-2.branch [
      | in-Some+in_ok-push+then-serial w ↦ (
          let here = (c.in_ok-summary.ensures.found w.in-Some.summary).0 w.in-Some.is in
          let s = w.in-Some.summary in
          let closes : s.ends ≡ true → w.if-ends.ended ≡ length c.walk.chain.items + 1 = λ e. elim w.if-ends.branch [
            | then-ends v ↦ omega (arith, v.ended-is, v.len-ended.ensures, w.in_ok-push.ensures.len, ap length w.in_ok-push.ensures.items)
            | else-ends v ↦ absurd (let f = v.if-ends.false in cc)
          ] in
          let stays : s.ends ≡ false → w.if-ends.ended ≡ c.walk.ended = λ e. elim w.if-ends.branch [
            | then-ends v ↦ absurd (let f = v.if-ends.true in cc)
            | else-ends v ↦ v.ended-is
          ] in
          let more = walk_goes_on g (block_of c.args.image.now) start c.args.rec.now.serial c.walk.chain.items c.walk.ended c.walk.at c.walk.serial c.walk.invariant s here w.if-ends.ended closes stays in
          let past = w.if-serial.true in
          let ends = walk_ends g (block_of c.args.image.now) start c.args.rec.now.serial (c.walk.chain.items ++ record { seg = c.walk.at.seg; block = c.walk.at.block; summary = s } ∷ []) w.if-ends.ended (next_of s) (c.walk.serial + 1) more
          (none_past g (block_of c.args.image.now) (next_of s) (c.walk.serial + 1) (omega arith)) in
          (ends.0, ends.1, c.truncate.ensures.items ∙ ap (λ (n : ℕ). take n c.match-branch-2.chain.items) w.ended-is ∙ ap (take w.if-ends.ended) (ap (λ v. v.items) w.chain-is ∙ w.in_ok-push.ensures.items) ∙ ends.2))
      | in_default w ↦ (
          let none = c.in_ok-summary.ensures.none.0 (subst IsNone (sym w.in_default.is) refl) in
          let ends = walk_ends g (block_of c.args.image.now) start c.args.rec.now.serial c.walk.chain.items c.walk.ended c.walk.at c.walk.serial c.walk.invariant none in
          (ends.0, ends.1, c.truncate.ensures.items ∙ ap (λ (n : ℕ). take n c.match-branch-2.chain.items) w.ended-is ∙ ap (λ v. take c.walk.ended v.items) w.chain-is ∙ ends.2))
    ]
