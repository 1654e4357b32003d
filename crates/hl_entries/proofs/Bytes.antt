-- The bytes of a directory where an entry begins, and once one is renumbered, put in or taken out there.
use Rattle.std.proofs.Common.{arith, ◌≡◌, ℕ, ◌+◌, ◌≤◌, List, [], ◌∷◌, ◌++◌, length, get_or, take, drop, refl, ap, ◌∙◌, sym, length-append}
use Rattle.std.proofs.lemmas.List.{take_at, drop_at, get_or-drop, drop-drop}
use Rattle.hl_bytes.specs.Fields.{le32, u32_at, written}
use Rattle.hl_bytes.proofs.Places.{back32}
use Rattle.hl_dir.specs.declared.entry.Entry.{Entry}
use Rattle.hl_dir.specs.Dirs.{HasRoom, dir_bytes, entry_bytes}
use Rattle.hl_dir.proofs.DirLemmas.{dir-append, dir-push}

pub length-entry_bytes : (e : Entry) → length (entry_bytes e) ≡ 5 + length e.name
unfolding le32
length-entry_bytes e = omega arith

module _ (bytes : List ℕ) (passed behind : List Entry) (at : ℕ) (spelled : bytes ≡ dir_bytes (passed ++ behind)) (start : at ≡ length (dir_bytes passed)) where
  halves : bytes ≡ dir_bytes passed ++ dir_bytes behind
  halves = spelled ∙ dir-append passed behind

  pub front_is : take at bytes ≡ dir_bytes passed
  front_is = ap (take at) halves ∙ take_at (dir_bytes passed) (dir_bytes behind) at (sym start)

  pub back_is : drop at bytes ≡ dir_bytes behind
  back_is = ap (drop at) halves ∙ drop_at (dir_bytes passed) (dir_bytes behind) at (sym start)

  pub length_is : length bytes ≡ at + length (dir_bytes behind)
  length_is = ap length halves ∙ length-append (dir_bytes passed) (dir_bytes behind) ∙ ap (λ n. n + length (dir_bytes behind)) (sym start)

  -- an entry that is put in there
  pub put_in : (wide new : List ℕ) (e : Entry) → take at wide ≡ take at bytes → drop (at + (5 + length e.name)) wide ≡ drop at bytes → new ≡ written wide at (entry_bytes e) → new ≡ dir_bytes (passed ++ e ∷ behind)
  unfolding dir_bytes
  put_in wide new e front back is =
      is
      ∙ ap (λ l. l ++ (entry_bytes e ++ drop (at + length (entry_bytes e)) wide)) (front ∙ front_is)
      ∙ ap (λ n. dir_bytes passed ++ (entry_bytes e ++ drop (at + n) wide)) (length-entry_bytes e)
      ∙ ap (λ l. dir_bytes passed ++ (entry_bytes e ++ l)) (back ∙ back_is)
      ∙ sym (dir-append passed (e ∷ behind))

module _ (bytes : List ℕ) (passed behind : List Entry) (e : Entry) (at : ℕ) (spelled : bytes ≡ dir_bytes (passed ++ e ∷ behind)) (start : at ≡ length (dir_bytes passed)) where
  here_is : drop at bytes ≡ entry_bytes e ++ dir_bytes behind
  unfolding dir_bytes
  here_is = back_is bytes passed (e ∷ behind) at spelled start

  pub size_is : get_or bytes (at + 4) 0 ≡ length e.name
  unfolding le32
  size_is = sym (get_or-drop at bytes 4 0) ∙ ap (λ (l : List ℕ). get_or l 4 0) here_is

  pub number_is : HasRoom e → u32_at at bytes ≡ e.ino
  unfolding le32
  number_is room = back32 bytes at e.ino room.0 (ap (take 4) here_is)

  name_on : drop (at + 5) bytes ≡ e.name ++ dir_bytes behind
  unfolding le32
  name_on = sym (drop-drop 5 at bytes) ∙ ap (drop 5) here_is

  pub name_is : take (length e.name) (drop (at + 5) bytes) ≡ e.name
  name_is = ap (take (length e.name)) name_on ∙ take_at e.name (dir_bytes behind) (length e.name) refl

  pub behind_is : drop (at + (5 + length e.name)) bytes ≡ dir_bytes behind
  behind_is =
      let sum : at + (5 + length e.name) ≡ at + 5 + length e.name = omega arith in
      ap (λ n. drop n bytes) sum ∙ sym (drop-drop (length e.name) (at + 5) bytes) ∙ ap (drop (length e.name)) name_on ∙ drop_at e.name (dir_bytes behind) (length e.name) refl

  pub end_is : at + (5 + length e.name) ≡ length (dir_bytes (passed ++ e ∷ []))
  end_is =
      let pushed = ap length (dir-push passed e) ∙ length-append (dir_bytes passed) (entry_bytes e) in
      let size = length-entry_bytes e in
      omega arith

  pub whole_is : at + (5 + length e.name) ≤ length bytes
  unfolding dir_bytes
  whole_is =
      let total = length_is bytes passed (e ∷ behind) at spelled start in
      let parts = length-append (entry_bytes e) (dir_bytes behind) in
      let size = length-entry_bytes e in
      omega arith

  -- another number in it
  pub renumbered : (new : List ℕ) (ino : ℕ) → new ≡ written bytes at (le32 ino) → new ≡ dir_bytes (passed ++ (record { ino = ino; name = e.name }) ∷ behind)
  unfolding le32 dir_bytes
  renumbered new ino is =
      is
      ∙ ap (λ l. l ++ (le32 ino ++ drop (at + 4) bytes)) (front_is bytes passed (e ∷ behind) at spelled start)
      ∙ ap (λ l. dir_bytes passed ++ (le32 ino ++ l)) (sym (drop-drop 4 at bytes) ∙ ap (drop 4) here_is)
      ∙ sym (dir-append passed ((record { ino = ino; name = e.name }) ∷ behind))

  -- once it is taken out
  pub taken_out : (new : List ℕ) → new ≡ take at bytes ++ drop (at + (5 + length e.name)) bytes → new ≡ dir_bytes (passed ++ behind)
  taken_out new is =
      is ∙ ap (λ l. l ++ drop (at + (5 + length e.name)) bytes) (front_is bytes passed (e ∷ behind) at spelled start) ∙ ap (λ l. dir_bytes passed ++ l) behind_is ∙ sym (dir-append passed behind)
