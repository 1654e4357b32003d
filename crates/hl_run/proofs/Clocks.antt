-- The clock's answers over a run.
use Rattle.std.proofs.Common.{◌≡◌, ◌≤◌, ◌⊎◌, inl, inr, ◌+◌, ◌-◌, ℕ, zero, suc, Bool, true, false, Result, Ok, Err, List, [], ◌∷◌, ◌++◌, length, Option, Some, None, refl, sym, ap, ◌∙◌, arith, length-append}
use Rattle.std.specs.Prelude.{IfSome, option_map, slice_get}
use Rattle.std.specs.Option.{ForSome}
use Rattle.hl_media.specs.Times.{first_time, later_times}
use Rattle.hl_media.specs.History.{History}
use Rattle.hl_run.specs.Clocks.{times_after, time_at, IsAsked, MayBeAsked, Asks}
use Rattle.hl_run.specs.Turn.{Tells}
use Rattle.hl_run.specs.Run.{DoneLine, AreTimed, IsClocked, Took}
use Rattle.hl_run.specs.declared.end.End.{End}
use Rattle.hl_run.specs.declared.end.End.TheVariants.{Finished, BadLine, Output, Broken, Input, Memory, TooLong}

-- the place of the next line
pub place_of : (k n : ℕ) → k + 1 ≡ n → k ≡ n - 1
place_of k n is = omega arith

-- what holds of each line and of the next one holds of all
each_more : (P : ℕ → DoneLine → Type 0) (done : List DoneLine) (d : DoneLine) → ((j : ℕ) → IfSome (slice_get done j) (P j)) → P (length done) d
    → (j : ℕ) → IfSome (slice_get (done ++ d ∷ []) j) (P j)
each_more P [] d all next zero = next
each_more P [] d all next (suc j) = tt
each_more P (x ∷ done) d all next zero = all 0
each_more P (x ∷ done) d all next (suc j) = each_more (λ k. P (suc k)) done d (λ k. all (suc k)) next j

pub timed_more : (times : Option (List ℕ)) (done : List DoneLine) (d : DoneLine) → AreTimed times done → ForSome times (λ ts. d.time ≡ time_at (length done) ts) → AreTimed times (done ++ d ∷ [])
timed_more times done d timed next ts e = each_more (λ j x. x.time ≡ time_at j ts) done d (timed ts e) (next ts e)

-- the next answer is that of its place
pub time_of_place : (times : Option (List ℕ)) (k time : ℕ) → ForSome (option_map (times_after k) times) (λ ts. time ≡ first_time ts) → ForSome times (λ ts. time ≡ time_at k ts)
time_of_place times k time asked ts e = asked (times_after k ts) (ap (option_map (times_after k)) e)

-- one answer more
pub took_more : (times : Option (List ℕ)) (k : ℕ) → option_map later_times (option_map (times_after k) times) ≡ option_map (times_after (suc k)) times
took_more None k = refl
took_more (Some ts) k = refl

-- none was taken yet
pub took_none : (times : Option (List ℕ)) → times ≡ option_map (times_after 0) times
took_none None = refl
took_none (Some ts) = refl

by_place : (times times' : Option (List ℕ)) (j k : ℕ) → j ≡ k → Took k times times' → Took j times times'
by_place times times' j k same took = took ∙ ap (λ (i : ℕ). option_map (times_after i) times) (sym same)

pub clocked_still : (times times' : Option (List ℕ)) (end : End) (lines : List DoneLine) (k : ℕ) → length lines ≡ k → AreTimed times lines → times' ≡ option_map (times_after k) times → IsClocked times times' end lines
clocked_still times times' end lines k place timed same = record { timed = timed; asked = inl (by_place times times' (length lines) k place same) }

pub clocked_more : (times times' : Option (List ℕ)) (end : End) (done : List DoneLine) (d : DoneLine) (k time : ℕ) → length done ≡ k → AreTimed times done → d.time ≡ time
    → IsAsked (option_map (times_after k) times) times' time → IsClocked times times' end (done ++ d ∷ [])
clocked_more times times' end done d k time place timed is asked = record {
  timed = timed_more times done d timed (λ ts e. is ∙ time_of_place times k time asked.0 ts e ∙ ap (λ (i : ℕ). time_at i ts) (sym place));
  asked =
      let size = length-append done (d ∷ []) in
      let longer : length (done ++ d ∷ []) ≡ suc k = omega (arith, size, place) in
      inl (by_place times times' (length (done ++ d ∷ [])) (suc k) longer (asked.1 ∙ took_more times k));
}

pub clocked_wanting : (times times' : Option (List ℕ)) (lines : List DoneLine) (k : ℕ) → length lines ≡ k → AreTimed times lines → MayBeAsked (option_map (times_after k) times) times' → IsClocked times times' Memory lines
clocked_wanting times times' lines k place timed (inl same) = clocked_still times times' Memory lines k place timed same
clocked_wanting times times' lines k place timed (inr later) = record {
  timed = timed;
  asked = inr (refl, by_place times times' (suc (length lines)) (suc k) (ap suc place) (later ∙ took_more times k));
}

-- ---- of one turn

-- the answers taken, with the next line done
pub took_on : (times before after : Option (List ℕ)) (n : ℕ) → 1 ≤ n → before ≡ option_map (times_after (n - 1)) times → after ≡ option_map later_times before
    → after ≡ option_map (times_after ((n + 1) - 1)) times
took_on times before after n some took later =
    let next : suc (n - 1) ≡ (n + 1) - 1 = omega arith in
    later ∙ ap (option_map later_times) took ∙ took_more times (n - 1) ∙ ap (λ (k : ℕ). option_map (times_after k) times) next

-- a line that was done and told
pub asks_told : (Cut : Type 0) (text : List ℕ) (broken : Bool) (middle now : Option History) (before after : Option (List ℕ)) (time : ℕ) (r : Result Bool End)
    → Tells Cut text broken middle now r → IsAsked before after time → Asks before after time r
asks_told Cut text broken middle now before after time (Ok true) tells asked = asked
asks_told Cut text broken middle now before after time (Ok false) tells asked = absurd tells
asks_told Cut text broken middle now before after time (Err Output) tells asked = asked
asks_told Cut text broken middle now before after time (Err Broken) tells asked = asked
asks_told Cut text broken middle now before after time (Err Finished) tells asked = absurd tells
asks_told Cut text broken middle now before after time (Err BadLine) tells asked = absurd tells
asks_told Cut text broken middle now before after time (Err Input) tells asked = absurd tells
asks_told Cut text broken middle now before after time (Err Memory) tells asked = absurd tells
asks_told Cut text broken middle now before after time (Err TooLong) tells asked = absurd tells
