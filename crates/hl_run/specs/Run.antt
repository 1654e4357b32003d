-- A run: the lines that are done, the tree after each, what is said, and why it ends.
use Rattle.std.specs.Prelude.{◌≡◌, ◌⊎◌, ℕ, zero, suc, if◌then◌else◌, Bool, true, false, ◌+◌, ◌<◌, ◌≤◌, IsTrue, IfSome, List, [], ◌∷◌, ◌++◌, length, take, map, flat_map, slice_get, All, Option, Some, None, Err, option_map, codes, decimal}
use Rattle.std.specs.Option.{ForSome}
use Rattle.hl_media.specs.History.{History, MachineState, content}
use Rattle.hl_media.specs.Moments.{AtEachMomentSince, Now, Runs}
use Rattle.hl_media.specs.Moments.{Ends as LastMoment}
use Rattle.hl_tree.specs.declared.call.Call.{Call}
use Rattle.hl_tree.specs.declared.call.Call.TheVariants as calls
use Rattle.hl_tree.specs.declared.call.Limits.{Limits}
use Rattle.hl_tree.specs.Rules.{Files, reply, after}
use Rattle.hl_script.specs.declared.line.Line.{Line}
use Rattle.hl_script.specs.declared.line.Line.TheVariants as line
use Rattle.hl_script.specs.declared.said.Said.{Said}
use Rattle.hl_script.specs.declared.said.Said.TheVariants as said
use Rattle.hl_script.specs.Spelling.{IsLine, spelling}
use Rattle.hl_script.specs.Answer.{answer_line}
use Rattle.hl_script.specs.Input.{is_newline, lines_of, line_of, beyond, longest}
use Rattle.hl_dump.specs.Dumps.{IsTooLong, dump_limits}
use Rattle.hl_disk.specs.declared.mounting.MountError.{MountError}
use Rattle.hl_disk.specs.declared.mounting.MountError.TheVariants.{NoLabel, NoRecord, DiskFault}
use Rattle.hl_disk.specs.declared.mounting.MountError.TheVariants as mount
use Rattle.hl_disk.specs.Disks.{StandsFor, Holds}
use Rattle.hl_disk.specs.Mounts.{Mounts}
use Rattle.hl_disk.specs.Stops.{StopLeaves, IsSettled}
use Rattle.hl_world.specs.declared.fault.CloseFault.{CloseFault}
use Rattle.hl_world.specs.declared.fault.CloseFault.TheVariants.{Disk}
use Rattle.hl_world.specs.declared.fault.CloseFault.TheVariants as close
use Rattle.hl_world.specs.Worlds.{is_acknowledged}
use Rattle.hl_run.specs.Clocks.{times_after, time_at}
use Rattle.hl_run.specs.Served.{is_served}
use Rattle.hl_run.specs.declared.end.End.{End}
use Rattle.hl_run.specs.declared.end.End.TheVariants.{Finished, BadLine, Output, Broken, Input, Memory, TooLong}
use Rattle.hl_run.specs.declared.end.Finish.{Finish}
use Rattle.hl_run.specs.declared.end.Finish.TheVariants.{Refused, Ended, Unclosed}

-- ---- limits

-- the bytes of an input
abbrev pub input_limit : ℕ
input_limit = 4294967296

-- ---- lines and trees

-- a line that is done, its answer, and the time that it was given, in seconds
pub record DoneLine : Type 0 where
  pub line : Line
  pub answer : Said
  pub time : ℕ

-- whether an answer is a reply of the file rules
abbrev pub is_reply : Said → Bool
is_reply (said.Reply reply) = true
is_reply _ = false

-- The tree after a line: a file call that the file rules answer leaves what they leave, and any other answer leaves the tree.
abbrev pub tree_after_line : Limits → Files → Line → Said → Files
tree_after_line limits tree (line.File call) answer = if is_reply answer then after limits tree call else tree
tree_after_line limits tree _ answer = tree

-- the tree after these lines, one after another
abbrev pub tree_after : Limits → Files → List DoneLine → Files
tree_after limits tree [] = tree
tree_after limits tree (d ∷ done) = tree_after limits (tree_after_line limits tree d.line d.answer) done

-- the tree after the first j of them
abbrev pub tree_at : Limits → Files → List DoneLine → ℕ → Files
tree_at limits opening done j = tree_after limits opening (take j done)

-- A file call is answered as the file rules say on the tree before it, but that there is no space where the dump
-- after it would be too long.
abbrev pub IsPlain : Limits → Files → DoneLine → Type 0
IsPlain limits tree d = (call : Call) × (d.line ≡ line.File call)
    × (((d.answer ≡ said.Reply (reply limits tree call)) × (IsTooLong limits tree call → ⊥)) ⊎ ((d.answer ≡ said.NoSpace) × IsTooLong limits tree call))

-- a sync that the disk failed
abbrev pub IsBroken : DoneLine → Type 0
IsBroken d = (d.line ≡ line.File calls.Sync) × (d.answer ≡ said.Eio)

-- each line is answered so, on the tree after the lines before it
abbrev pub ArePlain : Limits → Files → List DoneLine → Type 0
ArePlain limits opening done = (j : ℕ) → IfSome (slice_get done j) (IsPlain limits (tree_at limits opening done j))

-- whether the line of this place is a sync that was answered ok
abbrev pub is_kept : Option DoneLine → Bool
is_kept None = false
is_kept (Some d) = is_acknowledged d.line d.answer

-- the last of the first n lines that is a sync answered ok, counted from 1; 0 if there is none
abbrev pub last_sync : List DoneLine → ℕ → ℕ
last_sync lines zero = 0
last_sync lines (suc n) = if is_kept (slice_get lines n) then suc n else last_sync lines n

-- ---- what is said

-- the answers of these lines, each a line of its own
abbrev pub answers : List DoneLine → List ℕ
answers done = flat_map (λ d. answer_line d.answer) done

-- how many whole lines these bytes are: as many as they have newlines
abbrev pub whole_lines : List ℕ → ℕ
whole_lines [] = 0
whole_lines (b ∷ bytes) = if is_newline b then suc (whole_lines bytes) else whole_lines bytes

-- the line of the number n is bad
abbrev pub bad_text : ℕ → List ℕ
bad_text n = codes "bad line " ++ decimal n ++ codes "\n"

-- some first part of a text
abbrev pub IsPart : List ℕ → List ℕ → Type 0
IsPart part text = (more : List ℕ) × (text ≡ part ++ more)

-- ---- the input

-- a line of the grammar that is served, and not too long
pub record IsGood (line : Line) : Type 0 where
  pub fits : IsLine line
  pub served : IsTrue (is_served line)
  pub short : length (spelling line) ≤ longest

-- no line that is served has these bytes
abbrev pub IsBad : List ℕ → Type 0
IsBad bytes = (line : Line) → IsLine line → IsTrue (is_served line) → bytes ≡ spelling line → ⊥

-- The first line of what is left of so many bytes is too long, or it ends past the limit on the input.
abbrev pub PassesLimit : ℕ → ℕ → List ℕ → Type 0
PassesLimit limit size rest = (longest < length (line_of rest)) ⊎ (limit + length (beyond rest) < size)

-- it is neither
pub record KeepsLimits (limit size : ℕ) (rest : List ℕ) : Type 0 where
  pub line : length (line_of rest) ≤ longest
  pub whole : size ≤ limit + length (beyond rest)

-- the first line of what is left is this one, which is good, and it ends within the limits
abbrev pub IsNext : ℕ → List ℕ → List ℕ → DoneLine → Type 0
IsNext limit input rest d = (lines_of rest ≡ spelling d.line ∷ lines_of (beyond rest)) × IsGood d.line × KeepsLimits limit (length input) rest

-- ---- the end

-- Why a run ends, with the lines done, the one behind them whose answer wasn't said whole or that the disk failed, what is
-- left of the input, and what is said behind the answers of the lines done. What is said is cut short only where saying
-- failed, of which Cut is the cause; Broke is the cause of a disk that failed.
abbrev pub Ends : Type 0 → Type 0 → Limits → ℕ → Files → List ℕ → List DoneLine → List DoneLine → List ℕ → List ℕ → End → Type 0
Ends Cut Broke limits limit opening input done more rest last Finished = (more ≡ []) × (rest ≡ []) × (length input ≤ limit) × (last ≡ [])
Ends Cut Broke limits limit opening input done more rest last BadLine =
    (more ≡ []) × ((bytes : List ℕ) × (lines_of rest ≡ bytes ∷ lines_of (beyond rest)) × IsBad bytes × KeepsLimits limit (length input) rest
    × ((last ≡ bad_text (length done + 1)) ⊎ (Cut × IsPart last (bad_text (length done + 1)))))
Ends Cut Broke limits limit opening input done more rest last Output =
    (d : DoneLine) × (more ≡ d ∷ []) × IsNext limit input rest d × IsPlain limits (tree_after limits opening done) d × Cut × IsPart last (answer_line d.answer)
Ends Cut Broke limits limit opening input done more rest last Broken =
    (d : DoneLine) × (more ≡ d ∷ []) × IsNext limit input rest d × IsBroken d × Broke × ((last ≡ answer_line d.answer) ⊎ (Cut × IsPart last (answer_line d.answer)))
Ends Cut Broke limits limit opening input done more rest last Input = (more ≡ []) × (last ≡ [])
Ends Cut Broke limits limit opening input done more rest last Memory = (more ≡ []) × (last ≡ [])
Ends Cut Broke limits limit opening input done more rest last TooLong = (more ≡ []) × PassesLimit limit (length input) rest × (last ≡ [])

-- A run over an input: lines are done and answered one after another, and then it ends.
pub record Ran (Cut Broke : Type 0) (limits : Limits) (limit : ℕ) (opening : Files) (input : List ℕ) (end : End) (text : List ℕ) : Type 0 where
  pub done : List DoneLine
  pub more : List DoneLine
  pub rest : List ℕ
  pub last : List ℕ
  pub cut : lines_of input ≡ map (λ d. spelling d.line) done ++ lines_of rest
  pub within : length input ≤ limit + length rest
  pub good : All (λ d. IsGood d.line) done
  pub plain : ArePlain limits opening done
  pub said : text ≡ answers done ++ last
  pub ends : Ends Cut Broke limits limit opening input done more rest last end

-- ---- each moment

-- What a machine has said by a moment, since another: the answers of as many lines as it has said whole, and some first
-- part of what comes next.
pub record HasSaid (lines : List DoneLine) (whole : List ℕ) (first now : MachineState) : Type 0 where
  pub text : List ℕ
  pub part : List ℕ
  pub said : now.said ≡ first.said ++ text
  pub line_by_line : text ≡ answers (take (whole_lines text) lines) ++ part
  pub within : IsPart text whole

-- Whatever a stop leaves, unless by chance, holds the tree after some number of the lines: no fewer than up to the last
-- sync that was answered ok among those said, and no more than were said.
abbrev pub IsPoint : ℕ → Limits → Files → List DoneLine → ℕ → MachineState → Type 0
IsPoint blocks limits opening lines said s = StopLeaves blocks (λ image.
    (j : ℕ) × (last_sync lines said ≤ j) × (j ≤ said) × ((number : ℕ) × Holds blocks image number (tree_at limits opening lines j))) s

-- What holds at a moment of a run: what was said, and, where the run started from a disk that was settled, what a stop leaves.
pub record Moment (blocks : ℕ) (limits : Limits) (opening : Files) (lines : List DoneLine) (whole : List ℕ) (first now : MachineState) : Type 0 where
  pub said : HasSaid lines whole first now
  pub safe : (number : ℕ) → IsSettled blocks number opening first → IsPoint blocks limits opening lines (whole_lines said.text) now

-- ---- the clock

-- so many answers were taken of a clock that told these times before and those after
abbrev pub Took : ℕ → Option (List ℕ) → Option (List ℕ) → Type 0
Took n before after = after ≡ option_map (times_after n) before

-- the time of each line is the clock's answer of its place, where the clock tells its times
abbrev pub AreTimed : Option (List ℕ) → List DoneLine → Type 0
AreTimed before lines = ForSome before (λ times. (j : ℕ) → IfSome (slice_get lines j) (λ d. d.time ≡ time_at j times))

-- The clock was asked once for each of these lines, before the line; where memory was wanting, perhaps once more.
pub record IsClocked (before after : Option (List ℕ)) (end : End) (lines : List DoneLine) : Type 0 where
  pub timed : AreTimed before lines
  pub asked : Took (length lines) before after ⊎ ((end ≡ Memory) × Took (suc (length lines)) before after)

-- ---- the whole run

-- A run from the opening tree says its text, and each moment since is one of such a run. Kept holds of the lines done, and
-- Clocked of these and the one behind them; Each says of each moment since that it stands to the first in a way.
abbrev pub RanBy : (Option History → Option History → (MachineState → MachineState → Type 0) → Type 0) → Type 0 → Type 0 → (List DoneLine → Type 0) → (List DoneLine → Type 0)
    → ℕ → Limits → ℕ → Files → List ℕ → End → Option History → Option History → Type 0
RanBy Each Cut Broke Kept Clocked blocks limits limit opening input end before now =
    (text : List ℕ) × (ran : Ran Cut Broke limits limit opening input end text)
    × LastMoment before now (λ first s. s.said ≡ first.said ++ text)
    × Each before now (Moment blocks limits opening (ran.done ++ ran.more) text)
    × Kept ran.done
    × Clocked (ran.done ++ ran.more)

-- The disk that a run starts from stands for its opening tree.
abbrev pub OpensWith : ℕ → Option History → Files → Type 0
OpensWith blocks before opening = Now before (λ s. (number : ℕ) × StandsFor blocks s.content number opening)

-- where the input is known, such a run over it begins with the tree that the disk stands for
abbrev pub RanOver : Type 0 → Type 0 → (Files → List DoneLine → Type 0) → (List DoneLine → Type 0) → ℕ → Option (List ℕ) → Option History → Option History → End → Type 0
RanOver Cut Broke Kept Clocked blocks left before now end =
    IfSome left (λ input. (opening : Files) × OpensWith blocks before opening × RanBy AtEachMomentSince Cut Broke (Kept opening) Clocked blocks dump_limits input_limit opening input end before now)

-- ---- the whole command

-- the ends behind which the files are kept on the disk
abbrev pub closes : End → Bool
closes Finished = true
closes BadLine = true
closes Output = false
closes Broken = false
closes Input = true
closes Memory = false
closes TooLong = true

-- all lines are kept on the disk, and nothing is pending
abbrev pub KeepsLines : ℕ → Option History → End → Files → List DoneLine → Type 0
KeepsLines blocks now end opening done = IsTrue (closes end) → Now now (λ s. (number : ℕ) × IsSettled blocks number (tree_after dump_limits opening done) s)

-- the line that says why a disk isn't mounted; a fault and want of memory say nothing
abbrev pub refusal_text : MountError → List ℕ
refusal_text NoLabel = codes "no label\n"
refusal_text NoRecord = codes "no record\n"
refusal_text _ = []

-- a first part of the text is all that was said since, and the disk is as it was
abbrev pub IsAlone : List ℕ → MachineState → MachineState → Type 0
IsAlone text first s = (s.content ≡ first.content) × (s.pending ≡ first.pending) × ((part : List ℕ) × (s.said ≡ first.said ++ part) × IsPart part text)

-- the text is said, or where saying failed some first part of it, and nothing else is said or written
abbrev pub SaysAlone : Type 0 → List ℕ → Option History → Option History → Type 0
SaysAlone Cut text before now =
    Runs before now (IsAlone text)
    × (LastMoment before now (λ first s. s.said ≡ first.said ++ text) ⊎ Cut)

-- What a run did to the input, the clock, the output and the disk: the disk was refused; or lines were done, and where that is owed
-- the files were kept on the disk; or they were done, and that failed.
abbrev pub CameTo : Type 0 → Type 0 → ℕ → Option (List ℕ) → Option (List ℕ) → Option (List ℕ) → Option History → Option History → Finish → Type 0
CameTo Cut Broke blocks left times times' before now (Refused why) =
    ForSome before (λ h. Mounts blocks (content h) (Err why)) × SaysAlone Cut (refusal_text why) before now × (times' ≡ times)
CameTo Cut Broke blocks left times times' before now (Ended end) =
    RanOver Cut Broke (KeepsLines blocks now end) (IsClocked times times' end) blocks left before now end
CameTo Cut Broke blocks left times times' before now (Unclosed end why) =
    IsTrue (closes end) × RanOver Cut Broke (λ opening done. Unit {0}) (IsClocked times times' end) blocks left before now end

-- ---- the statuses

abbrev pub status_of_end : End → ℕ
status_of_end Finished = 0
status_of_end BadLine = 3
status_of_end Broken = 5
status_of_end Output = 6
status_of_end Input = 7
status_of_end Memory = 8
status_of_end TooLong = 10

abbrev pub status_of_refusal : MountError → ℕ
status_of_refusal NoLabel = 4
status_of_refusal NoRecord = 4
status_of_refusal DiskFault = 5
status_of_refusal mount.Memory = 8

abbrev pub status_of_fault : CloseFault → ℕ
status_of_fault Disk = 5
status_of_fault close.Memory = 8

abbrev pub status_of : Finish → ℕ
status_of (Refused why) = status_of_refusal why
status_of (Ended end) = status_of_end end
status_of (Unclosed end why) = status_of_fault why
