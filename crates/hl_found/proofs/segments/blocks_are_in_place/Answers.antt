use Rattle.std.proofs.Common.{refl, sym, subst}
use Rattle.hl_image.specs.declared.place.LogPlace.{LogPlace}
use Rattle.hl_found.specs.Segments.{ArePartsBehind}
use Rattle.hl_found.proofs.SegmentsFound.{in_place, lives_in_place, chain_behind}
use Rattle.hl_found.proofs.segments.blocks_are_in_place.Goals as goal

pub returns-then-lives_are_in_place : goal.returns-then-lives_are_in_place
returns-then-lives_are_in_place c image lists =
    let g = c.args.geometry.now in
    let f = c.args.found.now in
    let all = c.if-lives_are_in_place.ensures.0 refl in (
      λ yes. in_place g f c.requires.places image c.args.lives.now lists all
          (subst (λ (h : LogPlace). ArePartsBehind g h f.chain.items) c.head_of-head.ensures (subst (ArePartsBehind g c.head_of-head.result) c.as_slice.ensures.value (c.are_behind.ensures.0 yes))),
      λ are. c.are_behind.ensures.1 (subst (ArePartsBehind g c.head_of-head.result) (sym c.as_slice.ensures.value)
          (subst (λ (h : LogPlace). ArePartsBehind g h f.chain.items) (sym c.head_of-head.ensures) (chain_behind g f c.requires.places image c.args.lives.now lists are))),
    )

pub returns-else-lives_are_in_place : goal.returns-else-lives_are_in_place
returns-else-lives_are_in_place c image lists = (
  λ e. absurd (let f = c.if-lives_are_in_place.false in cc),
  λ are. c.lives_are_in_place.ensures.1 (lives_in_place c.args.geometry.now c.args.found.now c.requires.places image c.args.lives.now lists are),
)
