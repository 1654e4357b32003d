-- A desk that lends one page at a time.
use Rattle.std.specs.Prelude.{◌≡◌, ℕ, ◌++◌, List, [], ◌∷◌, length, Option, Some, None, IsSome}
use Rattle.hl_trial_turn.specs.declared.slip.Slip.{Slip}
use Rattle.hl_trial_turn.specs.declared.desk.Page.{Page}
use Rattle.hl_trial_turn.specs.declared.desk.Ask.{Ask}
use Rattle.hl_trial_turn.specs.declared.desk.Ask.TheVariants.{Lend, Back}
use Rattle.hl_trial_turn.specs.declared.desk.Said.{Said}
use Rattle.hl_trial_turn.specs.declared.desk.Said.TheVariants.{Lent, Taken, Out, Memory}
use Rattle.hl_trial_turn.specs.Slips.{slip}

-- the page that is out, with its text for its claim
abbrev pub pages_out : Option Page → List (ℕ × ℕ)
pages_out None = []
pages_out (Some p) = (p.number, p.text) ∷ []

-- a wish names its seat
abbrev pub names : ℕ → Ask → Type 0
names n (Lend wish) = wish.seat ≡ n
names n (Back p) = Unit {0}

abbrev pub brought : Ask → Option ℕ
brought (Lend wish) = None
brought (Back p) = Some p.number

-- a page comes back with the text that it left with
abbrev pub comes_back : Ask → ℕ → Type 0
comes_back (Lend wish) x = Unit {0}
comes_back (Back p) x = p.text ≡ x

abbrev pub taken : Said → Option (ℕ × ℕ)
taken (Lent p) = Some (p.number, p.text)
taken Taken = None
taken Out = None
taken Memory = None

-- what one step does
abbrev pub Lends : List Slip → Option Page → Ask → Said → List Slip → Option Page → Type 0
Lends loans out (Lend wish) (Lent p) loans' out' = (out ≡ None) × (out' ≡ Some p) × (p.number ≡ length loans) × (p.text ≡ wish.text) × (loans' ≡ loans ++ slip wish.seat p.number ∷ [])
Lends loans out (Lend wish) Taken loans' out' = ⊥
Lends loans out (Lend wish) Out loans' out' = IsSome out × (loans' ≡ loans) × (out' ≡ out)
Lends loans out (Lend wish) Memory loans' out' = (loans' ≡ loans) × (out' ≡ out)
Lends loans out (Back p) (Lent q) loans' out' = ⊥
Lends loans out (Back p) Taken loans' out' = (loans' ≡ loans) × (out' ≡ None)
Lends loans out (Back p) Out loans' out' = ⊥
Lends loans out (Back p) Memory loans' out' = ⊥
