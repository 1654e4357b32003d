use Rattle.std.proofs.Common.{◌≡◌, ℕ, sym, ap, ◌∙◌, subst}
use Rattle.std.specs.Prelude.{IsSome}
use Rattle.std.specs.FinMap.{get}
use Rattle.hl_placed.specs.Blocks.{Away}
use Rattle.hl_nodes.specs.Found.{block_found}
use Rattle.hl_found.specs.Shelves.{at_hand}
use Rattle.hl_found.proofs.shelves.has_segment_of.Goals as goal

pub returns-in-Away : goal.returns-in-Away
returns-in-Away c = (
  λ yes serial position e. (let own : Away c.in-Away.serial c.in-Away.position ≡ Away serial position = sym (ap block_found c.in-Away.is) ∙ e in
      let same : c.in-Away.serial ≡ serial = cc in subst (λ (n : ℕ). IsSome (get (at_hand c.args.staged.now c.args.shelf.now) n)) same (c.has_segment.ensures.0 yes)),
  λ all. c.has_segment.ensures.1 (all c.in-Away.serial c.in-Away.position (ap block_found c.in-Away.is)),
)
