-- What a reader answers: the tree whose dump the bytes are, or none.
use Rattle.std.proofs.Common.{◌≡◌, ◌↔◌, ◌<◌, ℕ, List, length, Option, Some, None, refl, ap, subst, arith}
use Rattle.std.specs.Prelude.{IsNone}
use Rattle.hl_tree.specs.PlainValue.{Plain}
use Rattle.hl_tree.specs.Rules.{Files}
use Rattle.hl_dump.specs.Dumps.{IsDump, dump_limits, dump_max, dump_size}
use Rattle.hl_dump.proofs.Dumps.{dump_once}

abbrev pub limited : Files → Plain
limited t = record { limits = dump_limits; tree = t }

-- the two clauses of a reader
pub record FoundIs (bytes : List ℕ) (r : Option Plain) : Type 0 where
  pub found : (t : Files) → (r ≡ Some (limited t)) ↔ IsDump bytes t
  pub none : IsNone r ↔ ((t : Files) → ¬ IsDump bytes t)

pub tree_found : (bytes : List ℕ) (p : Plain) → p.limits ≡ dump_limits → IsDump bytes p.tree → FoundIs bytes (Some p)
tree_found bytes p limits is = record {
  found = λ t. (λ e. let same : p ≡ limited t = cc in subst (IsDump bytes) (ap (λ (x : Plain). x.tree) same) is, λ other. let same : p.tree ≡ t = dump_once bytes p.tree t is other in (λ i. Some (record { limits = limits i; tree = same i })));
  none = (λ t. absurd cc, λ never. absurd (never p.tree is));
}

pub none_found : (bytes : List ℕ) → ((t : Files) → IsDump bytes t → ⊥) → FoundIs bytes None
none_found bytes never = record {
  found = λ t. (λ e. absurd cc, λ is. absurd (never t is));
  none = (λ e. never, λ e. refl);
}

pub too_long : (bytes : List ℕ) → dump_max < length bytes → (t : Files) → IsDump bytes t → ⊥
too_long bytes long t is = let size : length bytes ≡ dump_size t = ap length is.bytes in let short = is.tree.short in omega (arith, size, short)
