-- What a world stands at, and what a line does to it.
use Rattle.std.specs.Prelude.{◌≡◌, ◌⊎◌, ◌<◌, ◌^◌, ◌+◌, ℕ, Bool, true, false, if◌then◌else◌, Option, Result, Ok, Err, refl}
use Rattle.std.specs.Coded.{Coded, code_by, coded×, coded_ℕ}
use Rattle.hl_media.specs.History.{History}
use Rattle.hl_media.specs.Moments.{Ends, Runs}
use Rattle.hl_tree.specs.PlainValue.{Plain, plain_code}
use Rattle.hl_tree.specs.declared.call.Call.{Call}
use Rattle.hl_tree.specs.declared.call.Call.TheVariants as calls
use Rattle.hl_tree.specs.declared.call.Reply.TheVariants as replies
use Rattle.hl_tree.specs.Rules.{Files, reply, after}
use Rattle.hl_script.specs.declared.line.Line.{Line}
use Rattle.hl_script.specs.declared.line.Line.TheVariants as line
use Rattle.hl_script.specs.declared.said.Said.{Said}
use Rattle.hl_script.specs.declared.said.Said.TheVariants as said
use Rattle.hl_dump.specs.Dumps.{HasDump, IsTooLong, dump_limits}
use Rattle.hl_disk.specs.declared.mounting.Mounted.{Mounted}
use Rattle.hl_disk.specs.declared.mounting.MountError.{MountError}
use Rattle.hl_disk.specs.declared.mounting.MountError.TheVariants.{NoLabel, NoRecord, DiskFault}
use Rattle.hl_disk.specs.declared.mounting.MountError.TheVariants as mount
use Rattle.hl_disk.specs.Saves.{HasSaved}
use Rattle.hl_world.specs.declared.fault.CloseFault.{CloseFault}
use Rattle.hl_world.specs.declared.fault.CloseFault.TheVariants.{Disk, Memory}

-- the machine, the files with their limits, the number under which the disk keeps files, and the time of the last line
pub record Standing (M : Type 0) : Type 0 where
  pub machine : M
  pub files : Plain
  pub number : ℕ
  pub time : ℕ

-- stored as a tuple
abbrev pub standing_code : {M : Type 0} → Coded M → Coded (Standing M)
standing_code {M} code = code_by ((M × Plain) × (ℕ × ℕ)) (coded× (coded× code plain_code) (coded× coded_ℕ coded_ℕ))
    (λ s. ((s.machine, s.files), (s.number, s.time)))
    (λ p. record { machine = p.0.0; files = p.0.1; number = p.1.0; time = p.1.1 }) (λ _. refl)

-- files that can be kept, under a number that has room in a record
pub record IsReady {M : Type 0} (s : Standing M) : Type 0 where
  pub limits : s.files.limits ≡ dump_limits
  pub dumped : HasDump s.files.tree
  pub number : s.number < 2 ^ 64

-- ---- mounting

-- the machine that a mount hands back
abbrev pub machine_of : {M : Type 0} → Result (Standing M) (MountError × M) → M
machine_of (Ok world) = world.machine
machine_of (Err refused) = refused.1

-- what is mounted, or why not
abbrev pub mounted_of : {M : Type 0} → Result (Standing M) (MountError × M) → Result Mounted MountError
mounted_of (Ok world) = Ok (record { number = world.number; files = world.files })
mounted_of (Err refused) = Err refused.0

-- it is refused for this reason
abbrev pub why_of : {M : Type 0} → Result (Standing M) (MountError × M) → MountError → Type 0
why_of (Ok world) why = ⊥
why_of (Err refused) why = refused.0 ≡ why

-- A disk that stands for a tree under a number is mounted so, unless a read fails or memory is wanting.
abbrev pub MountsTo : ℕ → Files → Result Mounted MountError → Type 0
MountsTo number tree (Ok mounted) = (mounted.number ≡ number) × (mounted.files.tree ≡ tree)
MountsTo number tree (Err NoLabel) = ⊥
MountsTo number tree (Err NoRecord) = ⊥
MountsTo number tree (Err DiskFault) = Unit {0}
MountsTo number tree (Err mount.Memory) = Unit {0}

-- ---- keeping the files

-- A failure of the disk, of which the counts tell: want of memory is none.
abbrev pub device_part : Result (Unit {0}) CloseFault → Result (Unit {0}) CloseFault
device_part (Err Memory) = Ok tt
device_part r = r

-- the files are kept under the next number, or the number stays; want of memory does nothing
abbrev pub Syncs : ℕ → ℕ → Files → Option History → Option History → ℕ → Result (Unit {0}) CloseFault → Type 0
Syncs blocks number tree before now number' (Ok u) = (number' ≡ number + 1) × Ends before now (HasSaved blocks number tree)
Syncs blocks number tree before now number' (Err Disk) = number' ≡ number
Syncs blocks number tree before now number' (Err Memory) = (number' ≡ number) × (now ≡ before)

-- nothing is said meanwhile
abbrev pub SaysNothing : Option History → Option History → Type 0
SaysNothing before now = Runs before now (λ first s. s.said ≡ first.said)

-- ---- lines

-- whether the answer is that the disk failed
abbrev pub is_eio : Said → Bool
is_eio said.Eio = true
is_eio _ = false

-- that answer as a result
abbrev pub answer_part : Said → Result (Unit {0}) CloseFault
answer_part answer = if is_eio answer then Err Disk else Ok tt

-- the lines that call files
abbrev pub is_file_call : Line → Bool
is_file_call (line.File call) = true
is_file_call _ = false

-- A call is answered by the file rules and leaves the tree that they leave, unless the dump would be too long.
abbrev pub ByRules : Plain → Call → Said → Plain → Type 0
ByRules before call answer now =
    (answer ≡ said.Reply (reply before.limits before.tree call)) × (now ≡ record { limits = before.limits; tree = after before.limits before.tree call })
    × (IsTooLong before.limits before.tree call → ⊥)

-- where it would be, there is no space, and nothing changes
abbrev pub HasNoSpace : Plain → Call → Said → Plain → Type 0
HasNoSpace before call answer now = (answer ≡ said.NoSpace) × (now ≡ before) × IsTooLong before.limits before.tree call

abbrev pub Answers : Plain → Call → Said → Plain → Type 0
Answers before call answer now = ByRules before call answer now ⊎ HasNoSpace before call answer now

-- a sync that the disk fails changes nothing
abbrev pub Breaks : Plain → Call → Said → Plain → Type 0
Breaks before call answer now = (call ≡ calls.Sync) × (answer ≡ said.Eio) × (now ≡ before)

-- what a file call is answered, and the files that it leaves; no other line is done
abbrev pub Does : Plain → Line → Said → Plain → Type 0
Does before (line.File call) answer now = Answers before call answer now ⊎ Breaks before call answer now
Does before _ answer now = ⊥

-- the line is a sync that is answered ok
abbrev pub is_acknowledged : Line → Said → Bool
is_acknowledged (line.File calls.Sync) (said.Reply replies.Ok) = true
is_acknowledged _ _ = false

-- A sync that is answered ok keeps the files on the disk under the next number. Any other line leaves the number, and
-- all of the disk unless its answer is that the disk failed.
abbrev pub KeepsDisk : ℕ → ℕ → Plain → Line → Said → Option History → Option History → ℕ → Type 0
KeepsDisk blocks number files l answer before now number' =
    ((is_acknowledged l answer ≡ true) × (number' ≡ number + 1) × Ends before now (HasSaved blocks number files.tree))
    ⊎ ((is_acknowledged l answer ≡ false) × (number' ≡ number) × ((answer ≡ said.Eio) ⊎ (now ≡ before)))
