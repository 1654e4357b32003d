-- Entries that are split where the entry of a name stands, or would stand.
use Rattle.std.proofs.Common.{◌≡◌, ℕ, cond, not, List, [], ◌∷◌, ◌++◌, length, Option, Some, None, Result, Ok, Err, refl, ap, ◌∙◌, sym}
use Rattle.std.specs.declared.cmp.Ordering.{Ordering}
use Rattle.std.specs.Option.{option_map}
use Rattle.std.specs.Result.{result_ok}
use Rattle.std.specs.Ordering.{is_lt}
use Rattle.std.specs.Cmp.{tied_itself}
use Rattle.std.specs.Cmp.Lexicographic.{nat_list_cmp_total}
use Rattle.std.specs.FinMap.Entries.{by_order}
use Rattle.hl_dir.specs.declared.entry.Entry.{Entry}
use Rattle.hl_dir.specs.Dirs.{dir_bytes}
use Rattle.hl_paths.specs.Entries.{entry_number, with_entry, without_entry}
use Rattle.hl_paths.proofs.Links.{name_itself}
use Rattle.hl_entries.specs.declared.place.EntryPlace.{EntryPlace}
use Rattle.hl_entries.specs.Places.{entries_before, entry_start, entry_at, entry_place}
use Rattle.hl_entries.specs.Searches.{AreBefore, AreAfter, IsFound, IsMissing, Finds}
use Rattle.hl_entries.proofs.Order.{greater, other_before, other_after}

module _ (name : List ℕ) where
  abbrev pub entry : ℕ → Entry
  entry ino = record { ino = ino; name = name }

  -- THE NUMBER

  number_past : (passed es : List Entry) → AreBefore name passed → entry_number (passed ++ es) name ≡ entry_number es name
  number_past [] es before = refl
  number_past (e ∷ passed) es before = ap (λ b. cond b (Some e.ino) (entry_number (passed ++ es) name)) (other_before name e.name before.0) ∙ number_past passed es before.1

  number_after : (es : List Entry) → AreAfter name es → entry_number es name ≡ None
  number_after [] after = refl
  number_after (e ∷ es) after = ap (λ b. cond b (Some e.ino) (entry_number es name)) (other_after name e.name after.0) ∙ number_after es after.1

  pub number_found : (passed es : List Entry) (ino : ℕ) → AreBefore name passed → entry_number (passed ++ entry ino ∷ es) name ≡ Some ino
  number_found passed es ino before = number_past passed (entry ino ∷ es) before ∙ ap (λ b. cond b (Some ino) (entry_number es name)) (name_itself name)

  pub number_missing : (passed es : List Entry) → AreBefore name passed → AreAfter name es → entry_number (passed ++ es) name ≡ None
  number_missing passed es before after = number_past passed es before ∙ number_after es after

  -- THE ENTRIES BEFORE IT

  before_after : (es : List Entry) → AreAfter name es → entries_before name es ≡ []
  unfolding entries_before
  before_after [] after = refl
  before_after (e ∷ es) after = ap (λ o. cond (is_lt o) (e ∷ entries_before name es) (entries_before name es)) (greater name e.name after.0) ∙ before_after es after.1

  pub before_missing : (passed es : List Entry) → AreBefore name passed → AreAfter name es → entries_before name (passed ++ es) ≡ passed
  unfolding entries_before
  before_missing [] es before after = before_after es after
  before_missing (e ∷ passed) es before after =
      ap (λ o. cond (is_lt o) (e ∷ entries_before name (passed ++ es)) (entries_before name (passed ++ es))) before.0 ∙ ap (λ l. e ∷ l) (before_missing passed es before.1 after)

  pub before_found : (passed es : List Entry) (ino : ℕ) → AreBefore name passed → AreAfter name es → entries_before name (passed ++ entry ino ∷ es) ≡ passed
  unfolding entries_before
  before_found [] es ino before after =
      ap (λ o. cond (is_lt o) (entry ino ∷ entries_before name es) (entries_before name es)) (tied_itself nat_list_cmp_total name) ∙ before_after es after
  before_found (e ∷ passed) es ino before after =
      ap (λ o. cond (is_lt o) (e ∷ entries_before name (passed ++ entry ino ∷ es)) (entries_before name (passed ++ entry ino ∷ es))) before.0 ∙ ap (λ l. e ∷ l) (before_found passed es ino before.1 after)

  -- ONE MORE

  module _ (ino : ℕ) where
    abbrev stepped : Entry → List Entry → Ordering → List Entry
    stepped e es o = by_order o (entry ino ∷ e ∷ es) ((record { ino = ino; name = e.name }) ∷ es) (e ∷ with_entry name ino es)

    with_past : (passed es : List Entry) → AreBefore name passed → with_entry name ino (passed ++ es) ≡ passed ++ with_entry name ino es
    unfolding with_entry
    with_past [] es before = refl
    with_past (e ∷ passed) es before = ap (stepped e (passed ++ es)) (greater e.name name before.0) ∙ ap (λ l. e ∷ l) (with_past passed es before.1)

    with_after : (es : List Entry) → AreAfter name es → with_entry name ino es ≡ entry ino ∷ es
    unfolding with_entry
    with_after [] after = refl
    with_after (e ∷ es) after = ap (stepped e es) after.0

    pub with_missing : (passed es : List Entry) → AreBefore name passed → AreAfter name es → with_entry name ino (passed ++ es) ≡ passed ++ entry ino ∷ es
    with_missing passed es before after = with_past passed es before ∙ ap (λ l. passed ++ l) (with_after es after)

    with_itself : (es : List Entry) (was : ℕ) → with_entry name ino (entry was ∷ es) ≡ entry ino ∷ es
    unfolding with_entry
    with_itself es was = ap (stepped (entry was) es) (tied_itself nat_list_cmp_total name)

    pub with_found : (passed es : List Entry) (was : ℕ) → AreBefore name passed → with_entry name ino (passed ++ entry was ∷ es) ≡ passed ++ entry ino ∷ es
    with_found passed es was before = with_past passed (entry was ∷ es) before ∙ ap (λ l. passed ++ l) (with_itself es was)

  -- ONE LESS

  without_after : (es : List Entry) → AreAfter name es → without_entry name es ≡ es
  unfolding without_entry
  without_after [] after = refl
  without_after (e ∷ es) after = ap (λ b. cond (not b) (e ∷ without_entry name es) (without_entry name es)) (other_after name e.name after.0) ∙ ap (λ l. e ∷ l) (without_after es after.1)

  pub without_missing : (passed es : List Entry) → AreBefore name passed → AreAfter name es → without_entry name (passed ++ es) ≡ passed ++ es
  unfolding without_entry
  without_missing [] es before after = without_after es after
  without_missing (e ∷ passed) es before after =
      ap (λ b. cond (not b) (e ∷ without_entry name (passed ++ es)) (without_entry name (passed ++ es))) (other_before name e.name before.0) ∙ ap (λ l. e ∷ l) (without_missing passed es before.1 after)

  pub without_found : (passed es : List Entry) (ino : ℕ) → AreBefore name passed → AreAfter name es → without_entry name (passed ++ entry ino ∷ es) ≡ passed ++ es
  unfolding without_entry
  without_found [] es ino before after =
      ap (λ b. cond (not b) (entry ino ∷ without_entry name es) (without_entry name es)) (name_itself name) ∙ without_after es after
  without_found (e ∷ passed) es ino before after =
      ap (λ b. cond (not b) (e ∷ without_entry name (passed ++ entry ino ∷ es)) (without_entry name (passed ++ entry ino ∷ es))) (other_before name e.name before.0) ∙ ap (λ l. e ∷ l) (without_found passed es ino before.1 after)

-- WHERE A SEARCH ENDS

module _ (es : List Entry) (name : List ℕ) where
  pub start_found : (place : EntryPlace) → IsFound es name place → entry_start es name ≡ place.at
  unfolding entry_start
  start_found place found =
      let r = found.reached in
      ap (λ l. length (dir_bytes (entries_before name l))) r.parts.split ∙ ap (λ l. length (dir_bytes l)) (before_found name r.passed found.behind place.ino r.before found.after) ∙ sym r.parts.start

  pub start_missing : (at : ℕ) → IsMissing es name at → entry_start es name ≡ at
  unfolding entry_start
  start_missing at missing =
      let r = missing.reached in
      ap (λ l. length (dir_bytes (entries_before name l))) r.parts.split ∙ ap (λ l. length (dir_bytes l)) (before_missing name r.passed missing.behind r.before missing.after) ∙ sym r.parts.start

  pub number_is : (place : EntryPlace) → IsFound es name place → entry_number es name ≡ Some place.ino
  number_is place found =
      let r = found.reached in
      ap (λ l. entry_number l name) r.parts.split ∙ number_found name r.passed found.behind place.ino r.before

  pub number_none : (at : ℕ) → IsMissing es name at → entry_number es name ≡ None
  number_none at missing =
      let r = missing.reached in
      ap (λ l. entry_number l name) r.parts.split ∙ number_missing name r.passed missing.behind r.before missing.after

  pub place_found : (place : EntryPlace) → IsFound es name place → Some place ≡ entry_place es name
  place_found place found =
      let here : entry_place es name ≡ Some (record { at = entry_start es name; ino = place.ino }) = ap (option_map (λ ino. record { at = entry_start es name; ino = ino })) (number_is place found) in
      sym (here ∙ ap (λ at. Some (record { at = at; ino = place.ino })) (start_found place found))

  pub place_missing : (at : ℕ) → IsMissing es name at → (let none : Option EntryPlace = None in none ≡ entry_place es name)
  place_missing at missing = sym (ap (option_map (λ ino. record { at = entry_start es name; ino = ino })) (number_none at missing))

  pub at_found : (place : EntryPlace) → IsFound es name place → Some place.at ≡ entry_at es name
  at_found place found = sym (ap (option_map (λ _. entry_start es name)) (number_is place found) ∙ ap Some (start_found place found))

  pub at_missing : (at : ℕ) → IsMissing es name at → (let none : Option ℕ = None in none ≡ entry_at es name)
  at_missing at missing = sym (ap (option_map (λ _. entry_start es name)) (number_none at missing))

  -- an answer of a search is the entry's place, or none
  pub place_of : (answer : Result EntryPlace ℕ) → Finds es name answer → result_ok answer ≡ entry_place es name
  place_of (Ok place) found = place_found place found
  place_of (Err at) missing = place_missing at missing

  -- with the number of that entry
  pub number_of : (answer : Result EntryPlace ℕ) → Finds es name answer → option_map (λ place. place.ino) (result_ok answer) ≡ entry_number es name
  number_of (Ok place) found = sym (number_is place found)
  number_of (Err at) missing = sym (number_none at missing)
