-- What a check of a rule tells.
use Rattle.std.specs.Prelude.{ℕ, List, Option, Some, None}
use Rattle.hl_media.specs.History.{Image}
use Rattle.hl_addr.specs.Layout.{Layout}
use Rattle.hl_super.specs.declared.record.Record.{Record}
use Rattle.hl_summary.specs.declared.parts.Summary.{Summary}
use Rattle.hl_tables.specs.Values.{TableValues}
use Rattle.hl_nodes.specs.declared.rule.Rule.{Rule}
use Rattle.hl_nodes.specs.Breaks.{Breaks}

-- an address at which something is broken, or none where it is broken at no address
abbrev pub Tells : (ℕ → Type 0) → Option ℕ → Type 0
Tells Broken None = (address : ℕ) → ¬ Broken address
Tells Broken (Some address) = Broken address

-- so of the rule
abbrev pub TellsBroken : Layout → Image → Record → List Summary → TableValues → Rule
    → Option ℕ → Type 0
TellsBroken g image rec parts t rule = Tells (Breaks g image rec parts t rule)
