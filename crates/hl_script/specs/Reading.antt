-- Reading as a function on lists.
use Rattle.std.specs.Prelude.{◌≡◌, ◌^◌, ◌-◌, nat_le, ℕ, ◌==◌, nat_lt, ◌&&◌, length, if◌then◌else◌, List, [], ◌∷◌, Some, None, Ok, Err}
use Rattle.std.specs.declared.option.Option.{Option}
use Rattle.std.specs.declared.result.Result.{Result}
use Rattle.std.specs.List.{slice_split}
use Rattle.hl_script.specs.Words.{path_at, number_at, bytes_at}
use Rattle.hl_script.specs.Kinds.{kind_at}
use Rattle.hl_script.specs.declared.kind.Kind.{Kind}
use Rattle.hl_script.specs.declared.kind.Kind.TheVariants as kind
use Rattle.hl_tree.specs.declared.call.Call.{Call}
use Rattle.hl_tree.specs.declared.call.Call.TheVariants as call
use Rattle.hl_script.specs.declared.line.Line.{Line}
use Rattle.hl_script.specs.declared.line.Line.TheVariants as line
use Rattle.hl_script.specs.declared.line.BadLine.{BadLine}
use Rattle.hl_script.specs.declared.line.BadLine.TheVariants.{Bad, Memory}

infixl 10 ◌>>=◌
abbrev pub ◌>>=◌ : {A B : Type 0} → Option A → (A → Option B) → Option B
(Some x) >>= f = f x
None >>= f = None

-- what a refusal says of what there is to read
abbrev pub Refuses : {Y : Type 0} → BadLine → Option Y → Type 0
Refuses Bad read = read ≡ None
Refuses Memory read = Unit {0}

-- What a function returned, seen by view, is what reading gives, unless memory ran out.
abbrev pub Reads : {X Y : Type 0} → (X → Y) → Result X BadLine → Option Y → Type 0
Reads view (Ok x) read = read ≡ Some (view x)
Reads view (Err e) read = Refuses e read

-- ---- the arguments, by their shape

abbrev pub Names : Type 0
Names = List (List ℕ)

unfoldable pub no_args_at : List (List ℕ) → Option (Unit {0})
no_args_at [] = Some tt
no_args_at _ = None

unfoldable pub one_path_at : List (List ℕ) → Option Names
one_path_at (p ∷ []) = path_at p
one_path_at _ = None

unfoldable pub two_paths_at : List (List ℕ) → Option (Names × Names)
two_paths_at (p ∷ q ∷ []) = do
  from ← path_at p
  to ← path_at q
  Some (from, to)
two_paths_at _ = None

unfoldable pub one_number_at : ℕ → List (List ℕ) → Option ℕ
one_number_at limit (n ∷ []) = number_at limit n
one_number_at limit _ = None

unfoldable pub path_number_at : ℕ → List (List ℕ) → Option (Names × ℕ)
path_number_at limit (p ∷ n ∷ []) = do
  path ← path_at p
  number ← number_at limit n
  Some (path, number)
path_number_at limit _ = None

unfoldable pub path_numbers_at : List (List ℕ) → Option (Names × ℕ × ℕ)
path_numbers_at (p ∷ n ∷ m ∷ []) = do
  path ← path_at p
  first ← number_at (2 ^ 64) n
  second ← number_at (2 ^ 64) m
  Some (path, first, second)
path_numbers_at _ = None

unfoldable pub path_number_bytes_at : List (List ℕ) → Option (Names × ℕ × List ℕ)
path_number_bytes_at (p ∷ n ∷ b ∷ []) = do
  path ← path_at p
  number ← number_at (2 ^ 64) n
  bytes ← bytes_at b
  Some (path, number, bytes)
path_number_bytes_at _ = None

unfoldable pub paths_at : List (List ℕ) → Option (List Names)
paths_at [] = Some []
paths_at (w ∷ ws) = do
  p ← path_at w
  ps ← paths_at ws
  Some (p ∷ ps)

-- 1 to 64 paths
unfoldable pub some_paths_at : List (List ℕ) → Option (List Names)
some_paths_at args = if nat_lt 0 (length args) && nat_lt (length args) 65 then paths_at args else None

-- ---- each kind

unfoldable pub line_of_kind : Kind → List (List ℕ) → Option Line
line_of_kind kind.Mkdir args = do
  a ← one_path_at args
  Some (line.File (call.Mkdir a))
line_of_kind kind.Create args = do
  a ← one_path_at args
  Some (line.File (call.Create a))
line_of_kind kind.Stat args = do
  a ← one_path_at args
  Some (line.File (call.Stat a))
line_of_kind kind.List args = do
  a ← one_path_at args
  Some (line.File (call.List a))
line_of_kind kind.Unlink args = do
  a ← one_path_at args
  Some (line.File (call.Unlink a))
line_of_kind kind.Rmdir args = do
  a ← one_path_at args
  Some (line.File (call.Rmdir a))
line_of_kind kind.Write args = do
  a ← path_number_bytes_at args
  Some (line.File (call.Write a.0 a.1 a.2))
line_of_kind kind.Cut args = do
  a ← path_number_at (2 ^ 64) args
  Some (line.File (call.Cut a.0 a.1))
line_of_kind kind.Read args = do
  a ← path_numbers_at args
  Some (line.File (call.Read a.0 a.1 a.2))
line_of_kind kind.Rename args = do
  a ← two_paths_at args
  Some (line.File (call.Rename a.0 a.1))
line_of_kind kind.Sync args = do
  a ← no_args_at args
  Some (line.File call.Sync)
line_of_kind kind.Rank args = do
  a ← one_number_at 1001 args
  if nat_lt 0 a then Some (line.Rank a) else None
line_of_kind kind.Stage args = do
  a ← some_paths_at args
  Some (line.Stage a)
line_of_kind kind.Copy args = do
  a ← no_args_at args
  Some line.Copy
line_of_kind kind.Fetch args = do
  a ← path_number_at (2 ^ 32) args
  Some (line.Fetch a.0 a.1)
line_of_kind kind.Move args = do
  a ← one_number_at (2 ^ 64) args
  Some (line.Move a)
line_of_kind kind.End args = do
  a ← one_number_at (2 ^ 64) args
  Some (line.End a)
line_of_kind kind.Eject args = do
  a ← one_number_at (2 ^ 32) args
  Some (line.Eject a)
line_of_kind kind.Clean args = do
  a ← no_args_at args
  Some line.Clean
line_of_kind kind.Checkpoint args = do
  a ← no_args_at args
  Some line.Checkpoint

unfoldable pub line_at : List (List ℕ) → Option Line
line_at [] = None
line_at (word ∷ args) = do
  kind ← kind_at word
  line_of_kind kind args

-- the line that these bytes spell
abbrev pub text_at : List ℕ → Option Line
text_at bytes = line_at (slice_split (λ b. b == 32) bytes)

-- the call of a line that is one
abbrev pub call_of : Line → Option Call
call_of (line.File c) = Some c
call_of _ = None

-- the user and the call that these bytes spell
unfoldable pub user_line_at : List ℕ → Option (ℕ × Call)
user_line_at (user ∷ space ∷ text) =
    if nat_le 49 user && nat_le user 56 && space == 32 then (do
      l ← text_at text
      c ← call_of l
      Some (user - 48, c))
    else None
user_line_at _ = None
