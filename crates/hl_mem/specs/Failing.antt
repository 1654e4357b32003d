-- Which calls of a device are to fail.
use Rattle.std.specs.Prelude.{◌≡◌, ℕ, ◌+◌, ◌-◌, ◌^◌, Bool, false, ◌&&◌, nat_lt, nat_eq, List, [], ◌∷◌, ◌++◌, if◌then◌else◌, Result, OnOk, OnErr}
use Rattle.std.specs.List.{list_any}

-- how many calls were made, and the numbers of those that are to fail, counted from 1
pub record Plan : Type 0 where
  pub made : ℕ
  pub numbers : List ℕ

-- no call was made, and none is to fail
abbrev pub no_plan : Plan
no_plan = record { made = 0; numbers = [] }

-- the call of this number is to fail too
abbrev pub planned : Plan → ℕ → Plan
planned plan number = record { made = plan.made; numbers = plan.numbers ++ number ∷ [] }

-- the next call is to fail; a call past the last number of 64 bits never is
abbrev pub is_next : Plan → Bool
is_next plan = nat_lt plan.made (2 ^ 64 - 1) && list_any (λ number. nat_eq number (plan.made + 1)) plan.numbers

-- one call more was made; the count stands still at its greatest value
abbrev pub after_next : Plan → Plan
after_next plan = if nat_lt plan.made (2 ^ 64 - 1) then record { made = plan.made + 1; numbers = plan.numbers } else plan

-- A call was counted. One that is to fail does; where another fails, this is why.
pub record Follows {T E : Type 0} (before now : Plan) (result : Result T E) (why : Type 0) : Type 0 where
  pub counted : now ≡ after_next before
  pub fails : OnOk result (is_next before ≡ false)
  pub else_why : OnErr result (is_next before ≡ false → why)
