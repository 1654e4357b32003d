use Rattle.std.proofs.Common.{◌∙◌, ap}
use Rattle.std.specs.Option.{option_map}
use Rattle.hl_entries.proofs.Splits.{place_of, number_of}
use Rattle.hl_entries.proofs.searching.find.Goals as goal

pub returns-clause-place : goal.returns-clause-place
returns-clause-place c = λ es spells. c.ok.ensures.value ∙ place_of es c.args.name.now c.search.result (c.search.ensures.found es spells)

pub returns-clause-number : goal.returns-clause-number
returns-clause-number c = λ es spells. ap (option_map (λ place. place.ino)) c.ok.ensures.value ∙ number_of es c.args.name.now c.search.result (c.search.ensures.found es spells)
