-- Chains of rules: where each goes on, and where it ends.
use Rattle.std.proofs.Common.{◌≡◌, Bool, true, false, Result, Ok, Err, ap}
use Rattle.hl_tree.specs.Refusals.{◌>>=◌, refused_if}

-- what is refused stays refused, and what is not goes on
pub goes_on : {A C E : Type 0} (r : Result A E) (f : A → Result C E) (a : A) → r ≡ Ok a → (r >>= f) ≡ f a
goes_on {A = A} {E = E} r f a is = ap (λ (x : Result A E). x >>= f) is

pub stays_refused : {A C E : Type 0} (r : Result A E) (f : A → Result C E) (why : E) → r ≡ Err why → (r >>= f) ≡ Err why
stays_refused {A = A} {E = E} r f why is = ap (λ (x : Result A E). x >>= f) is

-- what was answered
abbrev pub ok_or : {A E : Type 0} → A → Result A E → A
ok_or d (Ok a) = a
ok_or d (Err why) = d

-- a rule that refuses, and one that doesn't
pub refuses : {C E : Type 0} (b : Bool) (why : E) (f : Unit {0} → Result C E) → b ≡ true → (refused_if b why >>= f) ≡ Err why
refuses b why f is = ap (λ (x : Bool). refused_if x why >>= f) is

pub passes : {C E : Type 0} (b : Bool) (why : E) (f : Unit {0} → Result C E) → b ≡ false → (refused_if b why >>= f) ≡ f tt
passes b why f is = ap (λ (x : Bool). refused_if x why >>= f) is
