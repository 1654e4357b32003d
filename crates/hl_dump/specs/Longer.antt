-- How much longer a call can make a dump.
use Rattle.std.specs.Prelude.{ℕ, ◌+◌, ◌-◌, ◌*◌, ◌==◌, cond, List, [], length, min, Option, Some, None}
use Rattle.std.specs.FinMap.{get, len}
use Rattle.hl_tree.specs.declared.call.Call.{Call}
use Rattle.hl_tree.specs.declared.call.Call.TheVariants as calls
use Rattle.hl_tree.specs.declared.node.Node.{Node}
use Rattle.hl_tree.specs.declared.node.Node.TheVariants.{Dir}
use Rattle.hl_tree.specs.Names.{path_length}
use Rattle.hl_tree.specs.Rules.{Files}
use Rattle.hl_dump.specs.Reading.{content_of}
use Rattle.hl_dump.specs.Sizes.{entry_size}

-- the bytes of the file that stands there, if one does
abbrev pub content_in : Option (Node (List ℕ)) → List ℕ
content_in None = []
content_in (Some node) = content_of node

-- how far a size exceeds that of the file at a path
abbrev pub past : Files → List (List ℕ) → ℕ → ℕ
past t path size = size - length (content_in (get t path))

-- the rows times the bytes of the new path, which is refused where it has more than 1,023
abbrev pub renamed : Files → List (List ℕ) → ℕ
renamed t to = len t * min (path_length to) 1023

-- what a call can add to a dump at most
abbrev pub most_growth : Files → Call → ℕ
most_growth t (calls.Mkdir path) = entry_size (path, Dir)
most_growth t (calls.Create path) = entry_size (path, Dir) + 4
most_growth t (calls.Write path at bytes) = cond (length bytes == 0) 0 (past t path (at + length bytes))
most_growth t (calls.Cut path size) = past t path size
most_growth t (calls.Read path at count) = 0
most_growth t (calls.Stat path) = 0
most_growth t (calls.List path) = 0
most_growth t (calls.Unlink path) = 0
most_growth t (calls.Rmdir path) = 0
most_growth t (calls.Rename from to) = renamed t to
most_growth t calls.Sync = 0

-- the path at which a call puts something
abbrev pub names_of : Call → List (List ℕ)
names_of (calls.Mkdir path) = path
names_of (calls.Create path) = path
names_of (calls.Write path at bytes) = path
names_of (calls.Cut path size) = path
names_of (calls.Read path at count) = []
names_of (calls.Stat path) = []
names_of (calls.List path) = []
names_of (calls.Unlink path) = []
names_of (calls.Rmdir path) = []
names_of (calls.Rename from to) = to
names_of calls.Sync = []
