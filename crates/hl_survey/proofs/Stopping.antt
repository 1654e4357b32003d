-- Why a look stops, carried over reads.
use Rattle.std.proofs.Common.{ℕ, Option}
use Rattle.hl_media.specs.History.{History, Image}
use Rattle.hl_media.specs.Moments.{Now, Runs}
use Rattle.hl_log.specs.Rest.{IsUnchanged}
use Rattle.hl_nodes.specs.declared.rule.Rule.{Rule}
use Rattle.hl_survey.specs.declared.check_error.CheckError.{CheckError}
use Rattle.hl_survey.specs.declared.check_error.CheckError.TheVariants as stop
use Rattle.hl_survey.specs.Stops.{Stops}
use Rattle.hl_survey.proofs.Unchanged.{held_before}

-- what is told says more, by a fact of what reads gave
pub stops_where : (Told More : Image → Rule → ℕ → Type 0) (A : Image → Type 0) (before : Option History) → Now before (λ s. A s.content)
    → ((image : Image) → A image → (rule : Rule) (block : ℕ) → Told image rule block → More image rule block)
    → (why : CheckError) → Stops before Told why → Stops before More why
stops_where Told More A before holds step (stop.Damaged block rule) is = λ h e. step _ (holds h e) rule block (is h e)
stops_where Told More A before holds step stop.DiskFault is = tt
stops_where Told More A before holds step stop.Memory is = tt

-- a stop behind reads
pub stops_then : (Told : Image → Rule → ℕ → Type 0) (before middle : Option History) → Runs before middle IsUnchanged
    → (why : CheckError) → Stops middle Told why → Stops before Told why
stops_then Told before middle run (stop.Damaged block rule) is = held_before before middle (λ s. Told s.content rule block) run is
stops_then Told before middle run stop.DiskFault is = tt
stops_then Told before middle run stop.Memory is = tt
