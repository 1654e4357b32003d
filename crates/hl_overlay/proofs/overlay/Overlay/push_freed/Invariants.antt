use Rattle.std.proofs.Common.{◌≡◌, ◌≤◌, ◌++◌, take, vec_capacity}
use Rattle.hl_overlay.specs.DraftTables.{freed_of}
use Rattle.hl_overlay.proofs.overlay.Overlay.push_freed.Given as goal

abbrev pub invariant-freed : goal.invariant-freed
invariant-freed l = (l.changes.items ≡ l.fn.changes.items ++ freed_of (take l.draft-index l.draft-items)) × (vec_capacity l.fn.changes ≤ vec_capacity l.changes)
