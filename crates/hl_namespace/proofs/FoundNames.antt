-- What a search of a directory's bytes tells of a name in its entries.
use Rattle.std.proofs.Common.{◌≡◌, ℕ, Bool, List, Option, Some, None, option_map, is_some, refl, ap, ◌∙◌, sym, subst}
use Rattle.hl_dir.specs.Dirs.{Spells}
use Rattle.hl_paths.specs.Entries.{entry_number}
use Rattle.hl_entries.specs.declared.place.EntryPlace.{EntryPlace}
use Rattle.hl_entries.specs.Places.{IfSpells}

is_some-place : (r : Option EntryPlace) → is_some (option_map (λ (place : EntryPlace). place.ino) r) ≡ is_some r
is_some-place None = refl
is_some-place (Some x) = refl

module _ (bytes slice name last : List ℕ) (slice_is : slice ≡ bytes) (name_is : name ≡ last) (r : Option EntryPlace) (number : IfSpells slice (λ es. option_map (λ (place : EntryPlace). place.ino) r ≡ entry_number es name)) where
  -- the number of the name
  pub number_by : (o : Option EntryPlace) → r ≡ o → IfSpells bytes (λ es. option_map (λ (place : EntryPlace). place.ino) o ≡ entry_number es last)
  number_by o is es spells =
      ap (option_map (λ (place : EntryPlace). place.ino)) (sym is)
      ∙ number es (subst (λ (b : List ℕ). Spells b es) (sym slice_is) spells)
      ∙ ap (entry_number es) name_is

  -- whether it is there
  pub there_by : (b : Bool) → is_some r ≡ b → IfSpells bytes (λ es. is_some (entry_number es last) ≡ b)
  there_by b is es spells = sym (ap is_some (number_by r refl es spells)) ∙ is_some-place r ∙ is
