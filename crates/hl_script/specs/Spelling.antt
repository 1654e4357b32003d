-- The grammar: the one spelling of each line.
use Rattle.std.specs.Prelude.{◌≡◌, ◌<◌, ◌^◌, ℕ, true, List, [], ◌∷◌, ◌++◌, length, map, decimal}
use Rattle.std.specs.List.{list_all, join_with_byte}
use Rattle.hex.specs.Hex.{encode_lower, IsBytes}
use Rattle.hl_script.specs.Words.{path_text, is_name}
use Rattle.hl_script.specs.Kinds.{keyword}
use Rattle.hl_script.specs.declared.kind.Kind.{Kind}
use Rattle.hl_script.specs.declared.kind.Kind.TheVariants as kind
use Rattle.hl_tree.specs.declared.call.Call.{Call}
use Rattle.hl_tree.specs.declared.call.Call.TheVariants as call
use Rattle.hl_script.specs.declared.line.Line.{Line}
use Rattle.hl_script.specs.declared.line.Line.TheVariants as line

abbrev pub kind_of : Line → Kind
kind_of (line.File (call.Mkdir p)) = kind.Mkdir
kind_of (line.File (call.Create p)) = kind.Create
kind_of (line.File (call.Stat p)) = kind.Stat
kind_of (line.File (call.List p)) = kind.List
kind_of (line.File (call.Unlink p)) = kind.Unlink
kind_of (line.File (call.Rmdir p)) = kind.Rmdir
kind_of (line.File (call.Write p n b)) = kind.Write
kind_of (line.File (call.Cut p n)) = kind.Cut
kind_of (line.File (call.Read p n m)) = kind.Read
kind_of (line.File (call.Rename p q)) = kind.Rename
kind_of (line.File call.Sync) = kind.Sync
kind_of (line.Rank n) = kind.Rank
kind_of (line.Stage ps) = kind.Stage
kind_of line.Copy = kind.Copy
kind_of (line.Fetch p n) = kind.Fetch
kind_of (line.Move n) = kind.Move
kind_of (line.End n) = kind.End
kind_of (line.Eject n) = kind.Eject
kind_of line.Clean = kind.Clean
kind_of line.Checkpoint = kind.Checkpoint

-- the words behind the first
abbrev pub arguments : Line → List (List ℕ)
arguments (line.File (call.Mkdir p)) = path_text p ∷ []
arguments (line.File (call.Create p)) = path_text p ∷ []
arguments (line.File (call.Stat p)) = path_text p ∷ []
arguments (line.File (call.List p)) = path_text p ∷ []
arguments (line.File (call.Unlink p)) = path_text p ∷ []
arguments (line.File (call.Rmdir p)) = path_text p ∷ []
arguments (line.File (call.Write p n b)) = path_text p ∷ decimal n ∷ encode_lower b ∷ []
arguments (line.File (call.Cut p n)) = path_text p ∷ decimal n ∷ []
arguments (line.File (call.Read p n m)) = path_text p ∷ decimal n ∷ decimal m ∷ []
arguments (line.File (call.Rename p q)) = path_text p ∷ path_text q ∷ []
arguments (line.File call.Sync) = []
arguments (line.Rank n) = decimal n ∷ []
arguments (line.Stage ps) = map path_text ps
arguments line.Copy = []
arguments (line.Fetch p n) = path_text p ∷ decimal n ∷ []
arguments (line.Move n) = decimal n ∷ []
arguments (line.End n) = decimal n ∷ []
arguments (line.Eject n) = decimal n ∷ []
arguments line.Clean = []
arguments line.Checkpoint = []

-- the words with a space between them
abbrev pub words : Line → List (List ℕ)
words line = keyword (kind_of line) ∷ arguments line

abbrev pub spelling : Line → List ℕ
spelling line = join_with_byte 32 (words line)

-- each name is one that a script can spell
abbrev pub IsPath : List (List ℕ) → Type 0
IsPath names = list_all is_name names ≡ true

abbrev pub ArePaths : List (List (List ℕ)) → Type 0
ArePaths [] = Unit {0}
ArePaths (p ∷ ps) = IsPath p × ArePaths ps

-- what has a spelling
abbrev pub IsLine : Line → Type 0
IsLine (line.File (call.Mkdir p)) = IsPath p
IsLine (line.File (call.Create p)) = IsPath p
IsLine (line.File (call.Stat p)) = IsPath p
IsLine (line.File (call.List p)) = IsPath p
IsLine (line.File (call.Unlink p)) = IsPath p
IsLine (line.File (call.Rmdir p)) = IsPath p
IsLine (line.File (call.Write p n b)) = IsPath p × (n < 2 ^ 64) × (0 < length b) × IsBytes b
IsLine (line.File (call.Cut p n)) = IsPath p × (n < 2 ^ 64)
IsLine (line.File (call.Read p n m)) = IsPath p × (n < 2 ^ 64) × (m < 2 ^ 64)
IsLine (line.File (call.Rename p q)) = IsPath p × IsPath q
IsLine (line.File call.Sync) = Unit {0}
IsLine (line.Rank n) = (0 < n) × (n < 1001)
IsLine (line.Stage ps) = (0 < length ps) × (length ps < 65) × ArePaths ps
IsLine line.Copy = Unit {0}
IsLine (line.Fetch p n) = IsPath p × (n < 2 ^ 32)
IsLine (line.Move n) = n < 2 ^ 64
IsLine (line.End n) = n < 2 ^ 64
IsLine (line.Eject n) = n < 2 ^ 32
IsLine line.Clean = Unit {0}
IsLine line.Checkpoint = Unit {0}

-- a user's number and a file call
abbrev pub IsUserLine : ℕ → Call → Type 0
IsUserLine user c = (0 < user) × (user < 9) × IsLine (line.File c)

-- the number, a space, and the spelling of the call
abbrev pub user_spelling : ℕ → Call → List ℕ
user_spelling user c = decimal user ++ 32 ∷ spelling (line.File c)
