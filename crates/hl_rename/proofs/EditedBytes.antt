-- The bytes of a directory once an entry is taken out, put in, or both.
use Rattle.std.proofs.Common.{arith, ◌≡◌, ℕ, ◌+◌, ◌≤◌, Bool, true, false, List, length, take, cond, is_some, Option, None, IsSome, refl, ap, ◌∙◌, sym, subst}
use Rattle.std.proofs.lemmas.List.{take-take}
use Rattle.hl_dir.specs.declared.entry.Entry.{Entry}
use Rattle.hl_dir.specs.Dirs.{Spells}
use Rattle.hl_paths.specs.Entries.{entry_number, without_entry}
use Rattle.hl_paths.specs.Links.{same_name}
use Rattle.hl_paths.proofs.Entries.{AreWith-without_entry}
use Rattle.hl_paths.proofs.Links.{name_is}
use Rattle.hl_entries.specs.Places.{Become, entry_growth}

-- bytes that are the same up to one place are up to each place before it
pub same_before : (place from : ℕ) (new old : List ℕ) → from ≤ place → take place new ≡ take place old → take from new ≡ take from old
same_before place from new old le same = sym (take-take from place new le) ∙ ap (take from) same ∙ take-take from place old le

-- and through two changes
pub same_through : (first second from : ℕ) (old mid new : List ℕ) → from ≤ first → from ≤ second → take first mid ≡ take first old → take second new ≡ take second mid → take from new ≡ take from old
same_through first second from old mid new one two front back = same_before second from new mid two back ∙ same_before first from mid old one front

-- ENTRIES OF ENTRIES
pub become_both : (f g : List Entry → List Entry) (old mid new : List ℕ) → Become f old mid → Become g mid new → Become (λ es. g (f es)) old new
become_both f g old mid new one two es spells = two (f es) (one es spells)

-- how far a name's entry makes the bytes grow
growth_most : (b : Bool) (name : List ℕ) → cond b 0 (5 + length name) ≤ 5 + length name
growth_most true name = omega arith
growth_most false name = omega arith

growth_there : (es : List Entry) (name : List ℕ) → IsSome (entry_number es name) → entry_growth es name ≡ 0
growth_there es name is = ap (λ b. cond b 0 (5 + length name)) is

-- a name that has an entry has one once another name has none
still_there : (es : List Entry) (bytes name to_name : List ℕ) → Spells bytes es → same_name to_name name ≡ false → IsSome (entry_number es to_name) → IsSome (entry_number (without_entry name es) to_name)
still_there es bytes name to_name spells other is =
    subst (λ (o : Option ℕ). IsSome o) (sym ((AreWith-without_entry name es spells.value).numbers to_name ∙ ap (λ b. cond b None (entry_number es to_name)) other)) is

-- BYTES DON'T GROW where the name has an entry
pub put_size : (es : List Entry) (name old new : List ℕ) → IsSome (entry_number es name) → length new ≡ length old + entry_growth es name → length new ≤ length old
put_size es name old new is size =
    let none = growth_there es name is in
    omega arith

-- nor where it has one once another name has none
pub renamed_size : (es : List Entry) (name to_name old mid new : List ℕ) → Spells old es → IsSome (entry_number es to_name) → length mid + (5 + length name) ≡ length old → length new ≡ length mid + entry_growth (without_entry name es) to_name → length new ≤ length old
renamed_size es name to_name old mid new spells is less more = by (same_name to_name name) refl
  where
    by : (b : Bool) → same_name to_name name ≡ b → length new ≤ length old
    by true same =
        let name_same : length to_name ≡ length name = ap length (name_is to_name name same) in
        let most = growth_most (is_some (entry_number (without_entry name es) to_name)) to_name in
        omega arith
    by false other =
        let none = growth_there (without_entry name es) to_name (still_there es old name to_name spells other is) in
        omega arith
