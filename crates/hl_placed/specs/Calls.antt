-- What a call leaves of a placed tree, and which segments it needs.
use Rattle.std.specs.Prelude.{ℕ, ◌+◌, Bool, true, false, ◌&&◌, ◌==◌, not, min, if◌then◌else◌, List, [], length, filter_map, Option, Some, None, Ok, Err}
use Rattle.std.specs.List.{range_with_len}
use Rattle.std.specs.FinMap.{get, insert, remove}
use Rattle.std.specs.Ordering.{eq_by_cmp}
use Rattle.hl_tree.specs.declared.call.Call.{Call}
use Rattle.hl_tree.specs.declared.call.Call.TheVariants as calls
use Rattle.hl_tree.specs.declared.call.Limits.{Limits}
use Rattle.hl_tree.specs.declared.call.Refusal.{Refusal}
use Rattle.hl_tree.specs.declared.node.Node.{Node}
use Rattle.hl_tree.specs.declared.node.Node.TheVariants.{Dir, File}
use Rattle.hl_tree.specs.Names.{path_cmp}
use Rattle.hl_tree.specs.OtherContents.{changed_at}
use Rattle.hl_tree.specs.Tree.{moved}
use Rattle.hl_tree.specs.Rules.{Outcome, outcome}
use Rattle.hl_placed.specs.Blocks.{Block, Hole, Here, Away, PlacedFile, Shelf, no_shelf, file_block}
use Rattle.hl_placed.specs.Changes.{meets, covers, cuts, written_file, cut_file, new_file, used_at}
use Rattle.hl_placed.specs.Placed.{PlacedTree, plain}

-- what a call that the file rules accept leaves
abbrev pub accepted : Shelf → PlacedTree → ℕ → Call → PlacedTree
accepted shelf placed now (calls.Mkdir path) = insert placed path Dir
accepted shelf placed now (calls.Create path) = insert placed path (File (new_file now))
accepted shelf placed now (calls.Write path at bytes) = if length bytes == 0 then placed else changed_at placed path (λ file. written_file shelf file at bytes now)
accepted shelf placed now (calls.Cut path size) = changed_at placed path (λ file. cut_file shelf file size now)
accepted shelf placed now (calls.Read path at len) = changed_at placed path (used_at now)
accepted shelf placed now (calls.Stat path) = placed
accepted shelf placed now (calls.List path) = placed
accepted shelf placed now (calls.Unlink path) = remove placed path
accepted shelf placed now (calls.Rmdir path) = remove placed path
accepted shelf placed now (calls.Rename from to) = if eq_by_cmp path_cmp from to then placed else moved placed from to
accepted shelf placed now calls.Sync = placed

-- why a call is refused, if it is
abbrev pub refusal : Outcome → Option Refusal
refusal (Ok done) = None
refusal (Err why) = Some why

abbrev pub is_accepted : Outcome → Bool
is_accepted (Ok done) = true
is_accepted (Err why) = false

-- The file rules accept the call. They look at sizes and not at bytes, so each shelf gives the same, and the empty one
-- serves.
abbrev pub accepts : Limits → PlacedTree → Call → Bool
accepts limits placed call = is_accepted (outcome limits (plain no_shelf placed) call)

-- what a call leaves
unfoldable pub placed_after : Limits → Shelf → PlacedTree → ℕ → Call → PlacedTree
placed_after limits shelf placed now call = if accepts limits placed call then accepted shelf placed now call else placed

-- the serial of an away block that is picked
abbrev pub serial_if : Bool → Block → Option ℕ
serial_if picked Hole = None
serial_if picked (Here bytes) = None
serial_if picked (Away serial position) = if picked then Some serial else None

-- the serials of the away blocks that are picked, in order of block index
abbrev pub serials : (ℕ → Bool) → PlacedFile → List ℕ
serials picked file = filter_map (λ i. serial_if (picked i) (file_block file i)) (range_with_len 0 (length file.blocks))

-- a list that a file has, and none where there is no file
abbrev pub of_file : {X : Type 0} → (PlacedFile → List X) → Option (Node PlacedFile) → List X
of_file list None = []
of_file list (Some Dir) = []
of_file list (Some (File file)) = list file

-- of the away blocks of which a read returns a byte
abbrev pub read_needs : ℕ → ℕ → PlacedFile → List ℕ
read_needs at len file = serials (meets at (min (at + min len 32768) file.size)) file

-- of those that a write changes without covering them
abbrev pub write_needs : ℕ → List ℕ → PlacedFile → List ℕ
write_needs at bytes file = serials (λ i. meets at (at + length bytes) i && not (covers at (at + length bytes) i)) file

-- of the one that a cut fills up with zeros
abbrev pub cut_needs : ℕ → PlacedFile → List ℕ
cut_needs size file = serials (cuts file size) file

-- the serials whose bytes a call reads
abbrev pub need : PlacedTree → Call → List ℕ
need placed (calls.Read path at len) = of_file (read_needs at len) (get placed path)
need placed (calls.Write path at bytes) = of_file (write_needs at bytes) (get placed path)
need placed (calls.Cut path size) = of_file (cut_needs size) (get placed path)
need placed (calls.Mkdir path) = []
need placed (calls.Create path) = []
need placed (calls.Stat path) = []
need placed (calls.List path) = []
need placed (calls.Unlink path) = []
need placed (calls.Rmdir path) = []
need placed (calls.Rename from to) = []
need placed calls.Sync = []
