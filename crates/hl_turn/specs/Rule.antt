-- The rule of the lock: a state of the table, with the list of entries that it stands for.
use Rattle.std.specs.Prelude.{◌≡◌, ℕ, ◌+◌, ◌%◌, ◌^◌, ◌<◌, ◌≤◌, ◌⊎◌, Some, List, [], ◌∷◌, length, sum_by}
use mathlib.Core.Option.{some}
use lib.ListN.{get_elem?}
use Rattle.atomic_table.specs.Table.{State}
use Rattle.hl_turn.specs.Entries.{Begins, by_seat}
use Rattle.hl_turn.specs.Jobs.{Has, Distinct, AllMeet}
use Rattle.hl_turn.specs.Views.{IsLive, IsBusy, HasObject, weight}
use Rattle.hl_turn.specs.declared.view.View.{View}
use Rattle.hl_turn.specs.declared.view.Stage.TheVariants.{Spent}

module _ {T E I C : Type 0} where
  -- the seat n was joined into another
  abbrev pub IsSpent : List (View T E I C) → ℕ → Type 0
  IsSpent views n = (v : View T E I C) × (get_elem? views n ≡ some v) × (v.stage ≡ Spent)

  -- some seat has the object
  abbrev pub IsAtWork : List (View T E I C) → Type 0
  IsAtWork views = (j : ℕ) × (v : View T E I C) × (get_elem? views j ≡ some v) × HasObject v.stage

  -- the number n stands among the views: it is a live one's own, or is kept for a seat that was joined into that one
  abbrev pub Stands : List (View T E I C) → ℕ → Type 0
  Stands views n = (j : ℕ) × (v : View T E I C) × (get_elem? views j ≡ some v) × IsLive v.stage × ((v.number ≡ n) ⊎ ((m : List E) × Has v.ended n m))

  -- The numbers below the count of views are given out. A live view's own is its place, and one that is kept is that of
  -- a spent view, so no number stands both ways.
  pub record AreNumbered (views : List (View T E I C)) : Type 0 where
    -- one view knows how many are given out, and no other speaks of it
    pub given : (j : ℕ) × (v : View T E I C) × (get_elem? views j ≡ some v) × (v.made ≡ length views)
    pub maker : (i j : ℕ) (v w : View T E I C) → get_elem? views i ≡ some v → get_elem? views j ≡ some w → 0 < v.made → 0 < w.made → i ≡ j
    -- each that is given out stands among the views
    pub stands : (n : ℕ) → n < length views → Stands views n
    -- no number is kept twice, by two views or by one
    pub kept_once : (i j : ℕ) (v w : View T E I C) (n : ℕ) (a b : List E) → get_elem? views i ≡ some v → get_elem? views j ≡ some w → Has v.ended n a → Has w.ended n b → i ≡ j
    pub kept_apart : (j : ℕ) (v : View T E I C) → get_elem? views j ≡ some v → Distinct v.ended

  module _ (entries : T → List E) (seat_of : E → ℕ) (legal_over : T → T → Type 0) (jobs_out : T → T → List (ℕ × C)) (meets : I → C → Type 0) where
    -- What holds of the view v at the place j: `log` is the whole list, `outs` are the jobs out, and a, b and c are the numbers of
    -- serving, ticket and count
    pub record Fits
        (opening : T) (log : List E) (outs : List (ℕ × C)) (a b c : ℕ) (views : List (View T E I C)) (j : ℕ) (v : View T E I C) : Type 0 where
      -- a live view knows the opening and its number
      pub from : IsLive v.stage → v.opening ≡ Some opening
      pub numbered : IsLive v.stage → v.number ≡ j
      -- the entries that name it are its own, in their order
      pub owns : IsLive v.stage → by_seat seat_of j log ≡ v.mine
      -- what it has seen begins the list, and it knows of no step that wasn't counted
      pub begins : Begins v.seen log
      pub counts : v.steps ≤ c
      -- a ticket that it has is not served yet, and was drawn
      pub waits : IsBusy v.stage → (a ≤ v.ticket) × (v.ticket < b)
      -- with the object it has the number that is served, the whole list and the jobs out
      pub holds : HasObject v.stage → (v.ticket ≡ a) × (v.seen ≡ log) × (v.outs ≡ outs)
      -- what it holds is out and meets its claim
      pub meeting : AllMeet meets outs v.holds
      pub spent_none : v.stage ≡ Spent → v.holds ≡ []
      -- what it keeps of a joined seat is that seat's
      pub keeps : (k n : ℕ) (m : List E) → get_elem? v.ended k ≡ some (n, m) → IsSpent views n × (by_seat seat_of n log ≡ m)

    -- the object is at home, as the list tells it, and no seat has it
    abbrev pub IsAtHome : T → List E → List (ℕ × C) → State T (View T E I C) → Type 0
    IsAtHome opening log outs s =
        (x : T)
        × (get_elem? s.homes 0 ≡ some (some x)) × (entries x ≡ log) × legal_over opening x
        × (IsAtWork s.views → ⊥) × (jobs_out opening x ≡ outs)

    pub record LockRule (opening : T) (limit : ℕ) (s : State T (View T E I C)) : Type 0 where
      -- the longest list, and the jobs that are out
      pub log : List E
      pub outs : List (ℕ × C)
      pub serving : ℕ
      pub ticket : ℕ
      pub count : ℕ
      pub words : s.words ≡ (ticket % 2 ^ 64) ∷ (serving % 2 ^ 64) ∷ (count % 2 ^ 64) ∷ []
      pub few : (length s.views ≤ limit) × (limit < 2 ^ 32)
      -- the numbers from serving up to ticket are drawn, each by one seat
      pub waiting : ticket ≡ serving + sum_by (λ (v : View T E I C). weight v.stage) s.views
      pub each : (j : ℕ) (v : View T E I C) → get_elem? s.views j ≡ some v → Fits opening log outs serving ticket count s.views j v
      -- no two seats have one ticket
      pub apart : (i j : ℕ) (v w : View T E I C) → get_elem? s.views i ≡ some v → get_elem? s.views j ≡ some w → IsBusy v.stage → IsBusy w.stage → v.ticket ≡ w.ticket → i ≡ j
      pub drawn : (n : ℕ) → serving ≤ n → n < ticket → (j : ℕ) × (v : View T E I C) × (get_elem? s.views j ≡ some v) × IsBusy v.stage × (v.ticket ≡ n)
      -- the numbers that are given out
      pub numbers : AreNumbered s.views
      -- no entry names a number that is not given out
      pub unnamed : (n : ℕ) → length s.views ≤ n → by_seat seat_of n log ≡ []
      -- no job stands twice among those out, and each stands in one view's holds
      pub once : Distinct outs
      pub single : (i j : ℕ) (v w : View T E I C) (n : ℕ) (x y : I) → get_elem? s.views i ≡ some v → get_elem? s.views j ≡ some w → Has v.holds n x → Has w.holds n y → i ≡ j
      pub distinct : (j : ℕ) (v : View T E I C) → get_elem? s.views j ≡ some v → Distinct v.holds
      pub held : (n : ℕ) (c : C) → Has outs n c → (j : ℕ) × (v : View T E I C) × (x : I) × (get_elem? s.views j ≡ some v) × Has v.holds n x
      -- the object is in the slot, or with a seat
      pub place : IsAtHome opening log outs s ⊎ IsAtWork s.views
