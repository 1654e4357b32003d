use Rattle.std.proofs.Common.{◌≡◌, take}
use Rattle.hl_image.specs.declared.chain.ChainPart.{ChainPart}
use Rattle.std.specs.List.{fold}
use Rattle.hl_image.specs.declared.place.LogPlace.{LogPlace}
use Rattle.hl_image.specs.Parts.{next_of}
use Rattle.hl_image.specs.Newest.{start_of}
use Rattle.hl_found.proofs.segments.head_of.Given as goal

abbrev pub invariant-parts : goal.invariant-parts
invariant-parts l = l.head ≡ fold (λ (at : LogPlace) (p : ChainPart). next_of p.summary) (start_of l.found.rec) (take l.part-index l.found.chain.items)
