-- What a decoder gives of the front of some bytes.
use Rattle.std.proofs.Common.{◌≡◌, ℕ, ◌-◌, List, ◌++◌, length, take, refl, sym, subst}
use Rattle.std.specs.Prelude.{◌↔◌, IfOk, MatchOption, Option, Some, None, Result, Ok, Err}
use Rattle.std.specs.Option.{IsNone}
use Rattle.hl_bytes.specs.Fields.{zeros}
use Rattle.hl_dir.specs.declared.entry.Entry.{Entry}
use Rattle.hl_dir.specs.Dirs.{Spells}
use Rattle.hl_hierarchy.specs.Bytes.{SpellsNone, SpellsTo}

module _ (size : ℕ) (bytes part : List ℕ) (same : part ≡ take size bytes) (rest : take (length bytes) bytes ≡ take size bytes ++ zeros (length bytes - size)) where
  decoded_one : (o : Option (List Entry)) → ((v : List Entry) → (o ≡ Some v) ↔ Spells part v) → (IsNone o ↔ ((v : List Entry) → ¬ Spells part v)) → MatchOption o (SpellsNone size bytes) (SpellsTo size bytes)
  decoded_one None found none = λ es spells. none.0 refl es (subst (λ (l : List ℕ). Spells l es) (sym same) spells.spelled)
  decoded_one (Some v) found none = record { spelled = subst (λ (l : List ℕ). Spells l v) same ((found v).0 refl); rest = rest }

  -- what is decoded is spelled up to the size, where the rest is zero
  pub decoded : {E : Type 0} (r : Result (Option (List Entry)) E) → IfOk r (λ o. (v : List Entry) → (o ≡ Some v) ↔ Spells part v) → IfOk r (λ o. IsNone o ↔ ((v : List Entry) → ¬ Spells part v))
      → IfOk r (λ o. MatchOption o (SpellsNone size bytes) (SpellsTo size bytes))
  decoded (Ok o) found none = decoded_one o found none
  decoded (Err e) found none = tt
