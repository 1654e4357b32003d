-- Which rule an image breaks first, and where.
use Rattle.std.specs.Prelude.{◌≡◌, ◌⊎◌, ℕ, ◌<◌, ◌≤◌, Bool, true, false, List, Some}
use Rattle.hl_media.specs.History.{Image}
use Rattle.hl_addr.specs.Layout.{Layout}
use Rattle.hl_super.specs.declared.record.Record.{Record}
use Rattle.hl_summary.specs.declared.parts.Summary.{Summary}
use Rattle.hl_image.specs.Chain.{IsCutChain}
use Rattle.hl_image.specs.Newest.{IsNewest, start_of}
use Rattle.hl_tables.specs.Values.{TableValues}
use Rattle.hl_nodes.specs.declared.rule.Rule.{Rule}
use Rattle.hl_nodes.specs.declared.rule.Rule.TheVariants.{TablePlace, TableBytes, MapEntry, InodeBytes, PointerPlace, PointerBlock, SharedBlock, StrayBlock, DirectoryBytes, DirectoryEntry, LostInode, SlotEntry, LineBytes, LastBlock, Quota, Room}
use Rattle.hl_nodes.specs.Tables.{HasLaidTables}
use Rattle.hl_nodes.specs.Breaks.{Breaks}

-- the number of a rule, by which they are tried and told
abbrev pub rule_number : Rule → ℕ
rule_number TablePlace = 1
rule_number TableBytes = 2
rule_number MapEntry = 3
rule_number InodeBytes = 4
rule_number PointerPlace = 5
rule_number PointerBlock = 6
rule_number SharedBlock = 7
rule_number StrayBlock = 8
rule_number DirectoryBytes = 9
rule_number DirectoryEntry = 10
rule_number LostInode = 11
rule_number SlotEntry = 12
rule_number LineBytes = 13
rule_number LastBlock = 14
rule_number Quota = 15
rule_number Room = 16

-- rules that look at tables, nodes and addresses alone, and into no directory, line or content
abbrev pub is_of_nodes : Rule → Bool
is_of_nodes TablePlace = true
is_of_nodes TableBytes = true
is_of_nodes MapEntry = true
is_of_nodes InodeBytes = true
is_of_nodes PointerPlace = true
is_of_nodes PointerBlock = true
is_of_nodes SharedBlock = true
is_of_nodes StrayBlock = true
is_of_nodes DirectoryBytes = false
is_of_nodes DirectoryEntry = false
is_of_nodes LostInode = false
is_of_nodes SlotEntry = true
is_of_nodes LineBytes = false
is_of_nodes LastBlock = false
is_of_nodes Quota = false
is_of_nodes Room = false

-- The image with this newest record and chain breaks the rule at the address. Rules 1 and 2 are tried before there are
-- tables, and look at none; the others look at those that the table blocks spell, with the chain laid over them.
pub record IsRuleBroken (g : Layout) (image : Image) (rec : Record) (parts : List Summary) (rule : Rule) (address : ℕ) : Type 0 where
  pub tables : TableValues
  pub are : (rule_number rule ≤ 2) ⊎ HasLaidTables g image rec parts tables
  pub breaks : Breaks g image rec parts tables rule address

-- no rule with a lesser number is broken anywhere
abbrev pub BreaksNoneBefore : Layout → Image → Record → List Summary → ℕ → Type 0
BreaksNoneBefore g image rec parts number = (rule : Rule) → rule_number rule < number → (address : ℕ) → ¬ IsRuleBroken g image rec parts rule address

-- the first rule that the image breaks, and the lowest address that breaks it
pub record IsDamaged (g : Layout) (image : Image) (rule : Rule) (address : ℕ) : Type 0 where
  pub rec : Record
  pub parts : List Summary
  pub newest : IsNewest g image (Some rec)
  pub volumes : rec.volumes ≡ g.volumes
  pub chain : IsCutChain g image (start_of rec) rec.serial parts
  pub broken : IsRuleBroken g image rec parts rule address
  pub lowest : (other : ℕ) → IsRuleBroken g image rec parts rule other → address ≤ other
  pub first : BreaksNoneBefore g image rec parts (rule_number rule)

-- the image has a newest record of the site, and breaks none of the rules 1 to 15
pub record KeepsRules (g : Layout) (image : Image) : Type 0 where
  pub rec : Record
  pub parts : List Summary
  pub newest : IsNewest g image (Some rec)
  pub volumes : rec.volumes ≡ g.volumes
  pub chain : IsCutChain g image (start_of rec) rec.serial parts
  pub none : BreaksNoneBefore g image rec parts 16
