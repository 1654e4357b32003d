-- What edits where a search ends make of the entries.
use Rattle.std.proofs.Common.{◌≡◌, ℕ, ◌+◌, ◌<◌, ◌^◌, List, ◌∷◌, ◌++◌, length, take, drop, cond, is_some, ap, ◌∙◌, sym, subst}
use Rattle.hl_bytes.specs.Fields.{le32, written}
use Rattle.hl_dir.specs.declared.entry.Entry.{Entry}
use Rattle.hl_dir.specs.Dirs.{IsName, AreEntries, Spells, dir_bytes, entry_bytes}
use Rattle.hl_paths.specs.Entries.{with_entry, without_entry}
use Rattle.hl_paths.proofs.Entries.{AreWith-with_entry, AreWith-without_entry, each_name}
use Rattle.hl_entries.specs.declared.place.EntryPlace.{EntryPlace}
use Rattle.hl_entries.specs.Places.{entry_growth}
use Rattle.hl_entries.specs.Searches.{IsFound, IsMissing}
use Rattle.hl_entries.proofs.Bytes.{put_in, renumbered, taken_out}
use Rattle.hl_entries.proofs.Search.{one_of}
use Rattle.hl_entries.proofs.Splits.{entry, with_found, with_missing, without_found, without_missing, number_is, number_none}

module _ (bytes name : List ℕ) (es : List Entry) (spells : Spells bytes es) where
  spelled : (passed left : List Entry) → es ≡ passed ++ left → bytes ≡ dir_bytes (passed ++ left)
  spelled passed left split = spells.spelled ∙ ap dir_bytes split

  -- THE NAME IS THERE

  module _ (place : EntryPlace) (found : IsFound es name place) where
    named : IsName name
    named =
        let r = found.reached in
        let are : AreEntries (r.passed ++ entry name place.ino ∷ found.behind) = subst AreEntries r.parts.split spells.value in
        one_of (λ e. IsName e.name) r.passed (entry name place.ino) found.behind (each_name (r.passed ++ entry name place.ino ∷ found.behind) are.1.0)

    pub Spells-renumbered : (new : List ℕ) (ino : ℕ) → ino < 2 ^ 32 → new ≡ written bytes place.at (le32 ino) → Spells new (with_entry name ino es)
    Spells-renumbered new ino fits is =
        let r = found.reached in
        let here = spelled r.passed (entry name place.ino ∷ found.behind) r.parts.split in
        record {
          value = (AreWith-with_entry name ino es spells.value named fits).entries;
          spelled = renumbered bytes r.passed found.behind (entry name place.ino) place.at here r.parts.start new ino is
              ∙ ap dir_bytes (sym (ap (with_entry name ino) r.parts.split ∙ with_found name ino r.passed found.behind place.ino r.before));
        }

    pub Spells-taken_out : (new : List ℕ) → new ≡ take place.at bytes ++ drop (place.at + (5 + length name)) bytes → Spells new (without_entry name es)
    Spells-taken_out new is =
        let r = found.reached in
        let here = spelled r.passed (entry name place.ino ∷ found.behind) r.parts.split in
        record {
          value = (AreWith-without_entry name es spells.value).entries;
          spelled = taken_out bytes r.passed found.behind (entry name place.ino) place.at here r.parts.start new is
              ∙ ap dir_bytes (sym (ap (without_entry name) r.parts.split ∙ without_found name r.passed found.behind place.ino r.before found.after));
        }

    pub growth_found : entry_growth es name ≡ 0
    growth_found = ap (λ o. cond (is_some o) 0 (5 + length name)) (number_is es name place found)

  -- THE NAME IS NOT THERE

  module _ (at : ℕ) (missing : IsMissing es name at) where
    pub Spells-put_in : (wide new : List ℕ) (ino : ℕ) → IsName name → ino < 2 ^ 32 → take at wide ≡ take at bytes → drop (at + (5 + length name)) wide ≡ drop at bytes
        → new ≡ written wide at (entry_bytes (entry name ino)) → Spells new (with_entry name ino es)
    Spells-put_in wide new ino is_name fits front back is =
        let r = missing.reached in
        let here = spelled r.passed missing.behind r.parts.split in
        record {
          value = (AreWith-with_entry name ino es spells.value is_name fits).entries;
          spelled = put_in bytes r.passed missing.behind at here r.parts.start wide new (entry name ino) front back is
              ∙ ap dir_bytes (sym (ap (with_entry name ino) r.parts.split ∙ with_missing name ino r.passed missing.behind r.before missing.after));
        }

    pub Spells-kept : (new : List ℕ) → new ≡ bytes → Spells new (without_entry name es)
    Spells-kept new is =
        let r = missing.reached in
        record {
          value = (AreWith-without_entry name es spells.value).entries;
          spelled = is ∙ spells.spelled ∙ ap dir_bytes (r.parts.split ∙ sym (ap (without_entry name) r.parts.split ∙ without_missing name r.passed missing.behind r.before missing.after));
        }

    pub growth_missing : entry_growth es name ≡ 5 + length name
    growth_missing = ap (λ o. cond (is_some o) 0 (5 + length name)) (number_none es name at missing)
