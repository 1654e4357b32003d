-- The stages behind the first sync, one after another.
use Rattle.std.proofs.Common.{◌≡◌, ℕ, Option, Result, Ok, Err, subst}
use Rattle.std.specs.Prelude.{IfOk}
use Rattle.hl_addr.specs.Layout.{Layout}
use Rattle.hl_media.specs.History.{History}
use Rattle.hl_media.specs.Moments.{Ends, Runs}
use Rattle.hl_mkfs.specs.declared.making.MkfsError.{MkfsError}
use Rattle.hl_mkfs.specs.Answers.{machine_of}
use Rattle.hl_mkfs.specs.Stages.{IsBare, IsBlank, IsFounded, Leads, LeavesNoLabel, LeavesNoneOrNew}
use Rattle.hl_mkfs.specs.Stops.{IsMade, StopLeaves}
use Rattle.hl_mkfs.specs.Sites.{IsNoneOrNew}
use Rattle.hl_mkfs.proofs.Joining.{leads_then, none_weaker, stops_then}

module _ (g : Layout) (blocks : ℕ) (start clear : Option History) (clears : Runs start clear (LeavesNoLabel IsBare blocks g)) (blank : Ends start clear (Leads IsBare (IsBlank g))) where
  -- the log is filled
  pub founds_runs : (one : ℕ) → one ≡ blocks → (full : Option History) → Runs clear full (LeavesNoLabel (IsBlank g) one g) → Runs start full (LeavesNoneOrNew IsBare blocks g)
  founds_runs one one_is full founds = stops_then IsBare (IsBlank g) start clear full (StopLeaves blocks g (IsNoneOrNew blocks g)) (none_weaker IsBare blocks g start clear clears) blank
      (none_weaker (IsBlank g) blocks g clear full (subst (λ (n : ℕ). Runs clear full (LeavesNoLabel (IsBlank g) n g)) one_is founds))

  module _ (one : ℕ) (one_is : one ≡ blocks) (full : Option History) (founds : Runs clear full (LeavesNoLabel (IsBlank g) one g)) (founded : Ends clear full (Leads (IsBlank g) (IsFounded g))) where
    to_founded : Ends start full (Leads IsBare (IsFounded g))
    to_founded = leads_then IsBare (IsBlank g) start clear full (IsFounded g) (LeavesNoLabel (IsBlank g) one g) founds blank founded

    -- and the label is put
    pub label_runs_on : (two : ℕ) → two ≡ blocks → (now : Option History) → Runs full now (LeavesNoneOrNew (IsFounded g) two g) → Runs start now (LeavesNoneOrNew IsBare blocks g)
    label_runs_on two two_is now labels = stops_then IsBare (IsFounded g) start full now (StopLeaves blocks g (IsNoneOrNew blocks g)) (founds_runs one one_is full founds) to_founded
        (subst (λ (n : ℕ). Runs full now (LeavesNoneOrNew (IsFounded g) n g)) two_is labels)

    pub label_ends_on : {M : Type 0} (history : M → Option History) (two : ℕ) → two ≡ blocks → (r : Result M (MkfsError × M)) → Runs full (history (machine_of r)) (LeavesNoneOrNew (IsFounded g) two g)
        → IfOk r (λ m. Ends full (history m) (Leads (IsFounded g) (IsMade two g))) → IfOk r (λ m. Ends start (history m) (Leads IsBare (IsMade blocks g)))
    label_ends_on history two two_is (Ok m) labels made = leads_then IsBare (IsFounded g) start full (history m) (IsMade blocks g) (LeavesNoneOrNew (IsFounded g) two g) labels to_founded
        (subst (λ (n : ℕ). Ends full (history m) (Leads (IsFounded g) (IsMade n g))) two_is made)
    label_ends_on history two two_is (Err e) labels made = tt
