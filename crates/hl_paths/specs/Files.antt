-- What a file call does to the nodes on the disk.
use Rattle.std.specs.Prelude.{◌≡◌, ℕ, Bool, true, false, ◌&&◌, nat_lt, Ok, Err}
use Rattle.hl_tree.specs.declared.call.Call.{Call}
use Rattle.hl_tree.specs.declared.call.Limits.{Limits}
use Rattle.hl_tree.specs.declared.call.Reply.{Reply}
use Rattle.hl_placed.specs.Blocks.{PlacedFile, Shelf}
use Rattle.hl_paths.specs.ByNumbers.{NumberedDone, by_numbers, numbered_reply, numbered_left}
use Rattle.hl_paths.specs.Charges.{nodes_charge}
use Rattle.hl_paths.specs.Numbered.{Numbering}
use Rattle.hl_paths.specs.Nodes.{Nodes, Spell}

-- The call answers by the rules by numbers, and leaves what they leave, of whatever the nodes spell.
abbrev pub DoesByNumbers : Limits → Shelf → Nodes → ℕ → Call → Reply → Nodes → Type 0
DoesByNumbers limits shelf before now call reply after = (numbered : Numbering PlacedFile) → Spell before numbered
    → (reply ≡ numbered_reply (by_numbers limits shelf numbered now call)) × Spell after (numbered_left numbered (by_numbers limits shelf numbered now call))

abbrev pub is_taken : NumberedDone PlacedFile → Bool
is_taken (Ok done) = true
is_taken (Err why) = false

-- the rules accept the call, but the charge exceeds the quota after it, and grows
abbrev pub is_over_quota : ℕ → Numbering PlacedFile → NumberedDone PlacedFile → Bool
is_over_quota quota numbered done = is_taken done && (nat_lt quota (nodes_charge (numbered_left numbered done)) && nat_lt (nodes_charge numbered) (nodes_charge (numbered_left numbered done)))
