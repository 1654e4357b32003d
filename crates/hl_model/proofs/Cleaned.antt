-- What holds of the log between steps: cleaned segments hold no block of the tree, and nothing is dirty while passes are left.
use Rattle.std.proofs.Common.{arith, ◌≡◌, ◌⊎◌, ℕ, Bool, true, false, List, [], ◌∷◌, None, sym, ◌∙◌, ap, subst, inl, inr}
use Rattle.std.specs.Prelude.{Contains}
use Rattle.hl_addr.specs.Layout.{Layout}
use Rattle.hl_tree.specs.declared.call.Reply.TheVariants as replies
use Rattle.hl_placed.specs.Blocks.{Shelf}
use Rattle.hl_model.specs.Answers.{SiteAnswer}
use Rattle.hl_model.specs.Answers as answers
use Rattle.hl_model.specs.Cleaning.{Live, LogUse}
use Rattle.hl_model.specs.Dues.{is_due}
use Rattle.hl_model.specs.Events.{SiteEvent}
use Rattle.hl_model.specs.Steps.{State, SiteStep, IsRuled, IsGivenUp, GoesFirst}
use Rattle.hl_model.specs.Units.{AreEmptied, AreNoFuller, Cleans, HasBegunAnew, HasChanged, HasCleaned, IsQuiet, LeavesLog, LogGoesOn, Middles}
use Rattle.hl_model.proofs.ClaimedBlocks.{in_cons, in_head, in_none, in_tail}
use Rattle.hl_model.proofs.Failing.{failed_gives_up}

-- What units, checkpoints and file calls keep each step keeps.
module _ (P : LogUse → Type 0) (cleans : (a b : LogUse) → Cleans a b → P b) (anew : (a b : LogUse) → HasBegunAnew a b → P b) (unit : (n : ℕ) (mid : Middles) (b : LogUse) → HasCleaned n mid b → P mid.unit) (changed : (a b : LogUse) → HasChanged a b → P a → P b) where
  goes_on : (writes : Bool) (before after : LogUse) → LogGoesOn writes before after → P before → P after
  goes_on true before after goes were = cleans before after goes
  goes_on false before after goes were = subst P (sym goes) were

  behind : (answer : SiteAnswer) (mid : Middles) (after : LogUse) → LeavesLog answer mid after → P mid.first → P after
  behind (answers.Done (replies.Refused why)) mid after leaves were = subst P (sym leaves) were
  behind (answers.Done reply) mid after leaves were = changed mid.first after leaves were
  behind (answers.Staged blocks volume slot line) mid after leaves were = cleans mid.first after leaves.cleans
  behind answers.Home mid after leaves were = cleans mid.first after leaves.cleans
  behind (answers.Moved volume slot) mid after leaves were = cleans mid.first after leaves.cleans
  behind answers.Stuck mid after leaves were = cleans mid.first after leaves.cleans
  behind (answers.Cleaned segment) mid after leaves were = goes_on _ mid.unit after leaves.passes (unit segment mid after leaves)
  behind answers.Checkpointed mid after leaves were = anew mid.first after leaves
  behind answer mid after leaves were = subst P (sym leaves) were

  module _ (g : Layout) (shelf : Shelf) (mid : Middles) (before : State) (event : SiteEvent) (after : State) (were : P before.log) (runs : after.site.stopped ≡ None) where
    goes_first : (log : LogUse) → GoesFirst g before event log → P log
    goes_first log first = goes_on (is_due g before.site before.log event) before.log log first.goes were

    stays_or_goes : (after.log ≡ before.log) ⊎ GoesFirst g before event after.log → P after.log
    stays_or_goes (inl same) = subst P (sym same) were
    stays_or_goes (inr first) = goes_first after.log first

    gives_up : IsGivenUp g before event after → P after.log
    gives_up up = stays_or_goes up.log

    by_rules : (answer : SiteAnswer) → IsRuled g shelf mid before event answer after → P after.log
    by_rules answer told = behind answer mid after.log told.leaves (goes_first mid.first told.first)

    step_keeps : (answer : SiteAnswer) → SiteStep g shelf mid before event answer after → P after.log
    step_keeps answers.Memory (may, step) = gives_up step
    step_keeps answers.LogFull (full, step) = gives_up step
    step_keeps answers.Eio step = gives_up (failed_gives_up g shelf mid before event after runs step)
    step_keeps answer step = by_rules answer step

-- a segment without blocks of the tree has none afterwards
abbrev Spent : List Live → ℕ → Type 0
Spent live n = (one : Live) × Contains live one × (one.segment ≡ n) × (one.charge ≡ 0)

none_in : (ones weres : List Live) (n : ℕ) → AreNoFuller ones weres → Spent weres n → Spent ones n
none_in [] [] n fuller spent = in_none spent.0 spent.1
none_in [] (was ∷ weres) n fuller spent = absurd fuller
none_in (one ∷ ones) [] n fuller spent = absurd fuller
none_in (one ∷ ones) (was ∷ weres) n fuller spent = in_cons spent.0 was weres spent.1
    (λ here. (
      one,
      in_head one ones,
      fuller.0 ∙ ap (λ (l : Live). l.segment) here ∙ spent.2,
      (let less = fuller.1 in let none : was.charge ≡ 0 = ap (λ (l : Live). l.charge) here ∙ spent.3 in omega arith),
    ))
    (λ there. let found = none_in ones weres n fuller.2 (spent.0, there, spent.2, spent.3) in (found.0, in_tail found.0 one ones found.1, found.2, found.3))

emptied_still : (a b : LogUse) → HasChanged a b → AreEmptied a → AreEmptied b
emptied_still a b changed were n listed =
    let none = were n (subst (λ ns. Contains ns n) changed.cleaned listed) in
    let found = none_in b.live a.live n changed.live (none.one, none.listed, none.same, none.empty) in
    record { one = found.0; listed = found.1; same = found.2; empty = found.3 }

quiet_still : (a b : LogUse) → HasChanged a b → IsQuiet a → IsQuiet b
quiet_still a b changed were left = let was = sym changed.left ∙ left in ap (λ (l : LogUse). l.tidy) (changed.quiet was) ∙ were was

module _ (g : Layout) (shelf : Shelf) (mid : Middles) (before : State) (event : SiteEvent) (after : State) (runs : after.site.stopped ≡ None) (answer : SiteAnswer) (step : SiteStep g shelf mid before event answer after) where
  pub step_keeps_emptied : AreEmptied before.log → AreEmptied after.log
  step_keeps_emptied were = step_keeps AreEmptied (λ a b cleans. cleans.emptied) (λ a b anew. anew.emptied) (λ n mid b cleaned. cleaned.emptied) emptied_still
      g shelf mid before event after were runs answer step

  pub step_keeps_quiet : IsQuiet before.log → IsQuiet after.log
  step_keeps_quiet were = step_keeps IsQuiet (λ a b cleans left. cleans.tidy) (λ a b anew left. anew.tidy) (λ n mid b cleaned left. cleaned.tidy) quiet_still
      g shelf mid before event after were runs answer step
