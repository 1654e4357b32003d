-- Answers, chosen by a test or made one after the other.
use Rattle.std.proofs.Common.{◌≡◌, ◌≢◌, Bool, true, false, Result, Ok, Err, inl, inr, refl, sym, ◌∙◌}
use Rattle.std.specs.Prelude.{if◌then◌else◌}
use Rattle.hl_site.specs.declared.error.SiteError.{SiteError}
use Rattle.hl_site.specs.declared.error.SiteError.TheVariants.{NotToml}
use Rattle.hl_site.specs.Site.{◌>>=◌, IsUnlessMemory}

-- where both steps succeed, the first does, and then the second
pub bind_ok : {A C P : Type 0} (r : Result A SiteError) (f : A → Result C SiteError) (y : C) → (r >>= f) ≡ Ok y → ((x : A) → r ≡ Ok x → f x ≡ Ok y → P) → P
bind_ok (Ok x) f y is next = next x refl is
bind_ok (Err why) f y is next = absurd cc

-- where a choice with a refusal succeeds, the test held
pub chosen_ok : {A : Type 0} (b : Bool) (r : Result A SiteError) (why : SiteError) (y : A) → (if b then r else Err why) ≡ Ok y → (b ≡ true) × (r ≡ Ok y)
chosen_ok true r why y is = (refl, is)
chosen_ok false r why y is = absurd cc

-- where a call succeeded, it gave what was meant
pub meant_ok : {A : Type 0} (r meant : Result A SiteError) (y : A) → IsUnlessMemory r meant → r ≡ Ok y → meant ≡ Ok y
meant_ok r meant y (inl none) is = absurd cc
meant_ok r meant y (inr given) is = sym given ∙ is

-- steps and choices that never say that a text is no TOML don't say so together
pub bind_told : {A C : Type 0} (r : Result A SiteError) (f : A → Result C SiteError) → r ≢ Err NotToml → ((x : A) → f x ≢ Err NotToml) → (r >>= f) ≢ Err NotToml
bind_told (Ok x) f one other = other x
bind_told (Err why) f one other = λ e. one cc

pub chosen_told : {A : Type 0} (b : Bool) (r s : Result A SiteError) → r ≢ Err NotToml → s ≢ Err NotToml → (if b then r else s) ≢ Err NotToml
chosen_told true r s one other = one
chosen_told false r s one other = other
