use Rattle.std.proofs.Common.{◌≤◌, List, length, ap, ◌∙◌, arith}
use Rattle.std.specs.List.{fold}
use Rattle.std.proofs.lemmas.List.{take_all}
use Rattle.hl_image.specs.declared.place.LogPlace.{LogPlace}
use Rattle.hl_image.specs.declared.chain.ChainPart.{ChainPart}
use Rattle.hl_image.specs.Parts.{next_of}
use Rattle.hl_image.specs.Newest.{start_of}
use Rattle.hl_found.proofs.SegmentsFound.{end_follows}
use Rattle.hl_found.proofs.segments.head_of.Goals as goal

pub returns : goal.returns
returns c =
    let items = c.args.found.now.chain.items in
    let le : length items ≤ c.parts.part-index = omega (arith, ap length c.as_slice-part-items.ensures.value, c.parts-test.false) in
    c.parts.invariant
    ∙ ap (λ (l : List ChainPart). fold (λ (at : LogPlace) (p : ChainPart). next_of p.summary) (start_of c.args.found.now.rec) l) (take_all c.parts.part-index items le)
    ∙ end_follows (start_of c.args.found.now.rec) items
