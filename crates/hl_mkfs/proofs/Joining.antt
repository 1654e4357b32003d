-- One stage after another.
use Rattle.std.proofs.Common.{◌≡◌, inl, ℕ, List, Option, Result, Ok, Err, sym, ◌∙◌, subst}
use Rattle.std.specs.Prelude.{OnOk}
use Rattle.hl_media.specs.History.{History, IsUntouched, MachineState, PendingWrite, state_now}
use Rattle.hl_media.specs.Moments.{Ends, Runs}
use Rattle.hl_media.proofs.Runs.{ends_then, goes_on, starts}
use Rattle.hl_addr.specs.Layout.{Layout}
use Rattle.hl_super.specs.declared.record.Record.{Record}
use Rattle.hl_image.specs.declared.place.LogPlace.{LogPlace}
use Rattle.hl_log.specs.Logs.{LogValue, opened_log}
use Rattle.hl_bytes.specs.Fields.{zeros}
use Rattle.hl_mkfs.specs.Stages.{IsBlank, IsFounded, IsRooted, Leads, LeavesNoLabel, LeavesNoneOrNew}
use Rattle.hl_mkfs.specs.Stops.{StopLeaves}
use Rattle.hl_mkfs.proofs.Zeros.{no_label}
use Rattle.hl_log.proofs.Wraps.{runs_map}

module _ (A B : MachineState → Type 0) (before mid now : Option History) where
  -- from the first stage to the last
  pub leads_then : (C : MachineState → Type 0) (P : MachineState → MachineState → Type 0) → Runs mid now P → Ends before mid (Leads A B) → Ends mid now (Leads B C) → Ends before now (Leads A C)
  leads_then C P run first more = ends_then before mid now run.calls run.is (Leads A B) (Leads B C) (Leads A C) first more (λ a m s lead next here. next (lead here))

  pub on_ok_leads : {E : Type 0} (C : MachineState → Type 0) (P : MachineState → MachineState → Type 0) (r : Result (Unit {0}) E) → Runs mid now P → Ends before mid (Leads A B)
      → OnOk r (Ends mid now (Leads B C)) → OnOk r (Ends before now (Leads A C))
  on_ok_leads C P (Ok u) run first more = leads_then C P run first more
  on_ok_leads C P (Err e) run first more = tt

  -- what a stop leaves in two stages
  pub stops_then : (Q : MachineState → Type 0) → Runs before mid (λ first s. A first → Q s) → Ends before mid (Leads A B) → Runs mid now (λ first s. B first → Q s) → Runs before now (λ first s. A first → Q s)
  stops_then Q first ends more = goes_on before mid now (λ first s. A first → Q s) (λ first s. B first → Q s) (Leads A B) first ends more (λ a m s lead next here. next (lead here))

-- the first unit, and then the first checkpoint, of a log whose site stays
module _ (g other : Layout) (same : other ≡ g) (before mid now : Option History) (rooted : Ends before mid (Leads (IsBlank g) (IsRooted g))) where
  pub fill_founds : {E : Type 0} (P : MachineState → MachineState → Type 0) (r : Result (Unit {0}) E) → Runs mid now P
      → OnOk r (Ends mid now (Leads (IsRooted other) (IsFounded other))) → OnOk r (Ends before now (Leads (IsBlank g) (IsFounded g)))
  fill_founds P r run more = on_ok_leads (IsBlank g) (IsRooted g) before mid now (IsFounded g) P r run rooted
      (subst (λ (x : Layout). OnOk r (Ends mid now (Leads (IsRooted x) (IsFounded x)))) same more)

  pub fill_stops : (blocks many : ℕ) → many ≡ blocks → Runs before mid (LeavesNoLabel (IsBlank g) blocks g) → Runs mid now (LeavesNoLabel (IsRooted other) many other)
      → Runs before now (LeavesNoLabel (IsBlank g) blocks g)
  fill_stops blocks many count first more = stops_then (IsBlank g) (IsRooted g) before mid now (StopLeaves blocks g (λ image. image 0 ≡ zeros 4096)) first rooted
      (subst (λ (n : ℕ). Runs mid now (LeavesNoLabel (IsRooted g) n g)) count (subst (λ (x : Layout). Runs mid now (LeavesNoLabel (IsRooted x) many x)) same more))

-- the same of a log that was opened for the site, and of the machine that it gives back
pub opened_founds : {M : Type 0} (history : M → Option History) (m : M) (g : Layout) (rec : Record) (head : LogPlace) (serial : ℕ) (log : LogValue M) → log ≡ opened_log m g rec head serial → (now last : M) → last ≡ now
    → Ends (history log.machine) (history now) (Leads (IsBlank log.geometry) (IsFounded log.geometry)) → Ends (history m) (history last) (Leads (IsBlank g) (IsFounded g))
opened_founds {M} history m g rec head serial log log_is now last last_is ends =
    subst (λ (l : LogValue M). Ends (history l.machine) (history last) (Leads (IsBlank l.geometry) (IsFounded l.geometry))) log_is
    (subst (λ (x : M). Ends (history log.machine) (history x) (Leads (IsBlank log.geometry) (IsFounded log.geometry))) (sym last_is) ends)

-- where nothing is done the first block stays
pub blank_stops : (g : Layout) (blocks : ℕ) (before now : Option History) → now ≡ before → Runs before now (LeavesNoLabel (IsBlank g) blocks g)
blank_stops g blocks before now same = subst (λ (told : Option History). Runs before told (LeavesNoLabel (IsBlank g) blocks g)) (sym same)
    (starts before (LeavesNoLabel (IsBlank g) blocks g) (λ h e blank. stays (state_now h) blank))
  where
    stays : (s : MachineState) → IsBlank g s → StopLeaves blocks g (λ image. image 0 ≡ zeros 4096) s
    stays s blank image may chance label = may 0 (subst (λ (ws : List PendingWrite). IsUntouched ws 0) (sym blank.bare.synced) tt) ∙ blank.bare.cleared.label

-- where there is no label there is none or the new site
pub none_weaker : (Stage : MachineState → Type 0) (blocks : ℕ) (g : Layout) (before now : Option History) → Runs before now (LeavesNoLabel Stage blocks g) → Runs before now (LeavesNoneOrNew Stage blocks g)
none_weaker Stage blocks g before now run = runs_map before now (LeavesNoLabel Stage blocks g) (LeavesNoneOrNew Stage blocks g) run
    (λ first s leaves here image may chance label. inl (no_label blocks image (leaves here image may chance label)))
