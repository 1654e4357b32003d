-- Reads change nothing on a machine.
use Rattle.std.proofs.Common.{◌≡◌, ℕ, ◌≤◌, ◌++◌, Option, Some, refl, sym, ◌∙◌, ap, subst, arith}
use Rattle.hl_media.specs.History.{History, MachineState, with_calls}
use Rattle.hl_media.specs.Moments.{Now, Runs}
use Rattle.hl_media.specs.Causes.{Rose}
use Rattle.hl_media.proofs.Runs.{ends_of_run, goes_on, starts}
use Rattle.hl_log.specs.Logs.{LogValue, OnlyReads}
use Rattle.hl_log.specs.Rest.{IsUnchanged}
use Rattle.hl_store.specs.Values.{StoreValue}

-- a run of reads, and then another
pub unchanged_then : (before middle now : Option History) → Runs before middle IsUnchanged → Runs middle now IsUnchanged → Runs before now IsUnchanged
unchanged_then before middle now run more = goes_on before middle now IsUnchanged IsUnchanged IsUnchanged run (ends_of_run before middle IsUnchanged run) more (λ first mid s same later. later ∙ same)

-- what holds behind reads held before them
pub now_before : (before now : Option History) (P : MachineState → Type 0) → Runs before now IsUnchanged → Now now P → Now before P
now_before before now P run holds h e =
    let h' : History = record { opening = h.opening; calls = h.calls ++ run.calls } in
    let told : now ≡ Some h' = run.is ∙ ap (with_calls run.calls) e in
    subst P (ends_of_run before now IsUnchanged run h e h' told) (holds h' told)

-- a count that rose behind an earlier moment rose since
pub rose_since : (a b c : ℕ) → a ≤ b → Rose b c → Rose a c
rose_since a b c le rose = omega arith

module _ {M : Type 0} {history : M → Option History} {blocks faults write_faults say_faults : M → ℕ} where
  -- no read was made
  pub reads_none : {m : M} → OnlyReads history blocks faults write_faults say_faults m m
  reads_none {m} = record {
    unchanged = starts (history m) IsUnchanged (λ h e. refl);
    blocks_same = refl;
    faults_most = omega arith;
    write_faults_same = refl;
    say_faults_same = refl;
  }

  -- reads, and then reads
  pub reads_then : {before middle now : M} → OnlyReads history blocks faults write_faults say_faults before middle → OnlyReads history blocks faults write_faults say_faults middle now
      → OnlyReads history blocks faults write_faults say_faults before now
  reads_then {before} {middle} {now} run more = record {
    unchanged = unchanged_then (history before) (history middle) (history now) run.unchanged more.unchanged;
    blocks_same = more.blocks_same ∙ run.blocks_same;
    faults_most = omega (arith, run.faults_most, more.faults_most);
    write_faults_same = more.write_faults_same ∙ run.write_faults_same;
    say_faults_same = more.say_faults_same ∙ run.say_faults_same;
  }

  -- reads from the machine of a store that was opened, and to the machine of a log
  pub reads_from : {v w : StoreValue M} {now : M} → v ≡ w → OnlyReads history blocks faults write_faults say_faults v.log.machine now → OnlyReads history blocks faults write_faults say_faults w.log.machine now
  reads_from {v} {w} {now} is run = subst (λ (x : StoreValue M). OnlyReads history blocks faults write_faults say_faults x.log.machine now) is run

  pub reads_to : {before : M} {k l : LogValue M} → k ≡ l → OnlyReads history blocks faults write_faults say_faults before l.machine → OnlyReads history blocks faults write_faults say_faults before k.machine
  reads_to {before} {k} {l} is run = subst (λ (x : LogValue M). OnlyReads history blocks faults write_faults say_faults before x.machine) (sym is) run
