-- What a look at one rule says of an image.
use Rattle.std.specs.Prelude.{◌≡◌, ℕ, List}
use Rattle.hl_media.specs.History.{Image}
use Rattle.hl_addr.specs.Layout.{Layout}
use Rattle.hl_super.specs.declared.record.Record.{Record}
use Rattle.hl_summary.specs.declared.parts.Summary.{Summary}
use Rattle.hl_tables.specs.Values.{TableValues}
use Rattle.hl_nodes.specs.declared.rule.Rule.{Rule}
use Rattle.hl_nodes.specs.Breaks.{Breaks}
use Rattle.hl_survey.specs.Stops.{IsBroken}

-- the rule is broken at no address, whatever record and chain the image has
abbrev pub KeepsRule : Layout → TableValues → Rule → Image → Type 0
KeepsRule g t rule image = (rec : Record) (parts : List Summary) (address : ℕ)
    → ¬ Breaks g image rec parts t rule address

-- the rule that is told is the one that was tried, and is broken at the block whatever record and
-- chain the image has
abbrev pub BreaksTried : Layout → TableValues → Rule → Image → Rule → ℕ → Type 0
BreaksTried g t tried image rule block =
    (rule ≡ tried) × ((rec : Record) → IsBroken g rec t image tried block)
