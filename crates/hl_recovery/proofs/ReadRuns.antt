-- Calls that read alone, one after the other.
use Rattle.std.proofs.Common.{◌≡◌, ℕ, List, ◌++◌, length, Option, Some, Result, Ok, Err, refl, sym, ◌∙◌, ap, subst, arith}
use Rattle.std.specs.Prelude.{OnOk}
use Rattle.std.specs.Option.{ForSome}
use Rattle.hl_bytes.specs.Buffers.{with_part}
use Rattle.hl_bytes.proofs.WholeParts.{whole_written}
use Rattle.hl_media.specs.declared.failed.Failed.{Failed}
use Rattle.hl_media.specs.History.{History, HoldsAt, MachineState, content, with_calls}
use Rattle.hl_media.specs.Moments.{Now, Runs}
use Rattle.hl_media.proofs.Runs.{goes_on, starts, ends_of_run}
use Rattle.hl_log.specs.Logs.{OnlyReads}
use Rattle.hl_log.specs.Rest.{IsUnchanged}

-- what holds behind reads held before them
pub seen_before : (before now : Option History) (P : MachineState → Type 0) → Runs before now IsUnchanged → Now now P → Now before P
seen_before before now P run holds h e =
    let h' : History = record { opening = h.opening; calls = h.calls ++ run.calls } in
    let told : now ≡ Some h' = run.is ∙ ap (with_calls run.calls) e in
    subst P (ends_of_run before now IsUnchanged run h e h' told) (holds h' told)

module _ {M : Type 0} {history : M → Option History} {blocks faults write_faults say_faults : M → ℕ} where
  -- before the first read
  pub no_reads : (m : M) → OnlyReads history blocks faults write_faults say_faults m m
  no_reads m = record {
    unchanged = starts (history m) IsUnchanged (λ h e. refl);
    blocks_same = refl;
    faults_most = omega arith;
    write_faults_same = refl;
    say_faults_same = refl;
  }

  -- reads, and then reads
  pub both_read : (before middle now : M) → OnlyReads history blocks faults write_faults say_faults before middle → OnlyReads history blocks faults write_faults say_faults middle now
      → OnlyReads history blocks faults write_faults say_faults before now
  both_read before middle now run more = record {
    unchanged = goes_on (history before) (history middle) (history now) IsUnchanged IsUnchanged IsUnchanged run.unchanged
        (ends_of_run (history before) (history middle) IsUnchanged run.unchanged) more.unchanged (λ first mid s same later. later ∙ same);
    blocks_same = more.blocks_same ∙ run.blocks_same;
    faults_most = omega (arith, run.faults_most, more.faults_most);
    write_faults_same = more.write_faults_same ∙ run.write_faults_same;
    say_faults_same = more.say_faults_same ∙ run.say_faults_same;
  }

-- what a read of a whole buffer gives
pub whole_read : (r : Result (Unit {0}) Failed) (told : Option History) (at : ℕ) (old out : List ℕ) → length out ≡ length old → OnOk r (ForSome told (λ h. HoldsAt (content h) at out))
    → OnOk r (Now told (λ s. HoldsAt s.content at (with_part old 0 out)))
whole_read (Ok u) told at old out size holds = λ h e. subst (λ (b : List ℕ). HoldsAt (content h) at b) (sym (whole_written old out size)) (holds h e)
whole_read (Err e) told at old out size holds = tt
