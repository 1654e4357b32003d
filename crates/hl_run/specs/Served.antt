-- The lines that the program serves.
use Rattle.std.specs.Prelude.{Bool, true, false}
use Rattle.hl_script.specs.declared.line.Line.{Line}
use Rattle.hl_script.specs.declared.line.Line.TheVariants as line

-- the file calls are served; any other line is a bad line
abbrev pub is_served : Line → Bool
is_served (line.File call) = true
is_served _ = false
