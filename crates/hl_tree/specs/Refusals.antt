-- Chains of rules, of which the first that holds is the answer.
use Rattle.std.specs.Prelude.{Bool, true, false, Result, Ok, Err}

-- what is refused stays refused; else the next rule is tried
infixl 10 ◌>>=◌
abbrev pub ◌>>=◌ : {A C E : Type 0} → Result A E → (A → Result C E) → Result C E
(Ok a) >>= f = f a
(Err why) >>= f = Err why

-- one rule: refused for this reason where the test holds
abbrev pub refused_if : {E : Type 0} → Bool → E → Result (Unit {0}) E
refused_if true why = Err why
refused_if false why = Ok tt
