-- Inputs that are scripts within the limits.
use Rattle.std.specs.Prelude.{◌≡◌, ℕ, ◌≤◌, IsTrue, List, length, Option, Some}
use Rattle.std.specs.List.{AllByRecursion}
use Rattle.hl_media.specs.History.{History, content}
use Rattle.hl_tree.specs.Rules.{Files}
use Rattle.hl_disk.specs.Disks.{StandsFor}
use Rattle.hl_script.specs.declared.line.Line.{Line}
use Rattle.hl_script.specs.Spelling.{IsLine, spelling}
use Rattle.hl_script.specs.Input.{lines_of, longest}
use Rattle.hl_run.specs.Run.{input_limit}
use Rattle.hl_run.specs.Served.{is_served}

-- the bytes are a line of the grammar that is served, and not too long
abbrev pub IsGoodText : List ℕ → Type 0
IsGoodText text = (length text ≤ longest) × ((line : Line) × IsLine line × IsTrue (is_served line) × (text ≡ spelling line))

-- each line of the input is, and the input isn't too long
pub record IsScript (input : List ℕ) : Type 0 where
  pub lines : AllByRecursion IsGoodText (lines_of input)
  pub short : length input ≤ input_limit

-- An input that is a script, over a disk that stands for a tree.
pub record IsWhole (blocks : ℕ) (left : Option (List ℕ)) (before : Option History) : Type 0 where
  pub input : List ℕ
  pub told : left ≡ Some input
  pub script : IsScript input
  pub history : History
  pub tells : before ≡ Some history
  pub number : ℕ
  pub tree : Files
  pub stands : StandsFor blocks (content history) number tree
