-- A search for a name, entry by entry.
use Rattle.std.proofs.Common.{arith, ◌≡◌, ℕ, ◌+◌, ◌-◌, ◌<◌, ◌≤◌, List, [], ◌∷◌, ◌++◌, length, get_or, take, drop, refl, ap, ◌∙◌, sym, subst, append_assoc, length-append}
use Rattle.std.proofs.lemmas.List.{append-nil}
use Rattle.std.specs.List.{AllByRecursion}
use Rattle.std.specs.declared.cmp.Ordering.TheVariants.{Less, Equal, Greater}
use Rattle.std.specs.Ordering.{ordering_reverse}
use Rattle.std.specs.Cmp.Lexicographic.{nat_list_cmp_total}
use Rattle.hl_bytes.specs.Fields.{u32_at}
use Rattle.hl_tree.proofs.NamesBelow.{name_cmp, name_exact}
use Rattle.hl_dir.specs.declared.entry.Entry.{Entry}
use Rattle.hl_dir.specs.Dirs.{IsBefore, HasRoom, AreEntries, Spells, dir_bytes}
use Rattle.hl_paths.specs.Entries.{entry_names}
use Rattle.hl_entries.specs.Searches.{AreAfter, Parts, HasLeft, IsFound, IsMissing}
use Rattle.hl_entries.proofs.Order.{after_entry, after_through, before_push}
use Rattle.hl_entries.proofs.Bytes.{length_is, size_is, number_is, name_is, end_is, whole_is}

-- what holds of each of these entries holds of one of them
pub one_of : (P : Entry → Type 0) (passed : List Entry) (e : Entry) (behind : List Entry) → AllByRecursion P (passed ++ e ∷ behind) → P e
one_of P [] e behind all = all.0
one_of P (x ∷ passed) e behind all = one_of P passed e behind all.1

-- no entries are no bytes
pub nothing_passed : (let none : List Entry = [] in 0 ≡ length (dir_bytes none))
unfolding dir_bytes
nothing_passed = refl

nothing_left : (bytes : List ℕ) (passed : List Entry) (at : ℕ) → bytes ≡ dir_bytes (passed ++ []) → at ≡ length (dir_bytes passed) → length bytes ≡ at
unfolding dir_bytes
nothing_left bytes passed at spelled start = let total = length_is bytes passed [] at spelled start in omega arith

-- ONE ENTRY, WHERE IT BEGINS

module _ (bytes : List ℕ) (passed behind : List Entry) (e : Entry) (at end : ℕ) (spelled : bytes ≡ dir_bytes (passed ++ e ∷ behind)) (start : at ≡ length (dir_bytes passed)) (is : end ≡ at + (5 + get_or bytes (at + 4) 0)) where
  pub head_name : take (end - (at + 5)) (drop (at + 5) bytes) ≡ e.name
  head_name =
      let size = size_is bytes passed behind e at spelled start in
      let count : end - (at + 5) ≡ length e.name = omega arith in
      ap (λ n. take n (drop (at + 5) bytes)) count ∙ name_is bytes passed behind e at spelled start

  pub head_end : end ≡ length (dir_bytes (passed ++ e ∷ []))
  head_end = is ∙ ap (λ n. at + (5 + n)) (size_is bytes passed behind e at spelled start) ∙ end_is bytes passed behind e at spelled start

-- a whole entry stands where some are left
cut_off : (bytes : List ℕ) (passed behind : List Entry) (e : Entry) (at : ℕ) → bytes ≡ dir_bytes (passed ++ e ∷ behind) → at ≡ length (dir_bytes passed) → at + (5 + get_or bytes (at + 4) 0) ≤ length bytes
cut_off bytes passed behind e at spelled start =
    let size = size_is bytes passed behind e at spelled start in
    let whole = whole_is bytes passed behind e at spelled start in
    omega arith

-- THE PARTS SO FAR

module _ (bytes : List ℕ) (es : List Entry) (spells : Spells bytes es) where
  pub no_part : Parts es 0 [] es
  no_part = record { split = refl; start = nothing_passed }

  spelled : (at : ℕ) (passed left : List Entry) → Parts es at passed left → bytes ≡ dir_bytes (passed ++ left)
  spelled at passed left parts = spells.spelled ∙ ap dir_bytes parts.split

  -- where a whole entry stands, one is left
  ended : (at end : ℕ) (passed : List Entry) → Parts es at passed [] → end ≡ at + (5 + get_or bytes (at + 4) 0) → end ≤ length bytes → ⊥
  ended at end passed parts is within = let total = nothing_left bytes passed at (spelled at passed [] parts) parts.start in omega arith

  -- where none stands, none is left
  not_cut : (at : ℕ) (passed behind : List Entry) (e : Entry) → Parts es at passed (e ∷ behind) → length bytes < at + (5 + get_or bytes (at + 4) 0) → ⊥
  not_cut at passed behind e parts cut = let whole = cut_off bytes passed behind e at (spelled at passed (e ∷ behind) parts) parts.start in omega arith

  module _ (at end : ℕ) (passed behind : List Entry) (e : Entry) (parts : Parts es at passed (e ∷ behind)) (is : end ≡ at + (5 + get_or bytes (at + 4) 0)) where
    -- the name that is read there
    pub name_here : take (end - (at + 5)) (drop (at + 5) bytes) ≡ e.name
    name_here = head_name bytes passed behind e at end (spelled at passed (e ∷ behind) parts) parts.start is

    -- the parts behind that entry
    pub next_part : Parts es end (passed ++ e ∷ []) behind
    next_part = record {
      split = parts.split ∙ sym (append_assoc passed (e ∷ []) behind);
      start = head_end bytes passed behind e at end (spelled at passed (e ∷ behind) parts) parts.start is;
    }

    pub are_here : AreEntries (passed ++ e ∷ behind)
    are_here = subst AreEntries parts.split spells.value

    pub number_here : u32_at at bytes ≡ e.ino
    number_here = number_is bytes passed behind e at (spelled at passed (e ∷ behind) parts) parts.start (one_of HasRoom passed e behind are_here.0)

-- THE SEARCH

module _ (bytes name : List ℕ) (es : List Entry) (spells : Spells bytes es) where
  pub begun : (left : List Entry) × HasLeft es name 0 left
  begun = (es, record { passed = []; parts = no_part bytes es spells; before = tt })

  -- the entry there comes before the name
  pub passed_on : (at end : ℕ) (left : List Entry) → HasLeft es name at left → end ≡ at + (5 + get_or bytes (at + 4) 0) → end ≤ length bytes
      → name_cmp (take (end - (at + 5)) (drop (at + 5) bytes)) name ≡ Less → (behind : List Entry) × HasLeft es name end behind
  passed_on at end [] reached is within less = absurd (ended bytes es spells at end reached.passed reached.parts is within)
  passed_on at end (e ∷ behind) reached is within less =
      let before : IsBefore e.name name = ap (λ n. name_cmp n name) (sym (name_here bytes es spells at end reached.passed behind e reached.parts is)) ∙ less in (
        behind,
        record {
          passed = reached.passed ++ e ∷ [];
          parts = next_part bytes es spells at end reached.passed behind e reached.parts is;
          before = before_push name reached.passed e reached.before before;
        },
      )

  -- it has the name
  pub found_here : (at end ino : ℕ) (left : List Entry) → HasLeft es name at left → end ≡ at + (5 + get_or bytes (at + 4) 0) → end ≤ length bytes
      → name_cmp (take (end - (at + 5)) (drop (at + 5) bytes)) name ≡ Equal → ino ≡ u32_at at bytes → IsFound es name (record { at = at; ino = ino })
  found_here at end ino [] reached is within equal number = absurd (ended bytes es spells at end reached.passed reached.parts is within)
  found_here at end ino (e ∷ behind) reached is within equal number =
      let named : e.name ≡ name = name_exact e.name name (ap (λ n. name_cmp n name) (sym (name_here bytes es spells at end reached.passed behind e reached.parts is)) ∙ equal) in
      let linked : e.ino ≡ ino = sym (number ∙ number_here bytes es spells at end reached.passed behind e reached.parts is) in
      let same : e ≡ record { ino = ino; name = name } = λ i. record { ino = linked i; name = named i } in
      record {
        behind = behind;
        reached = record { passed = reached.passed; parts = subst (λ x. Parts es at reached.passed (x ∷ behind)) same reached.parts; before = reached.before };
        after = subst (λ n. AreAfter n behind) named (after_entry reached.passed e behind (are_here bytes es spells at end reached.passed behind e reached.parts is));
      }

  -- it comes after the name
  pub missing_here : (at end : ℕ) (left : List Entry) → HasLeft es name at left → end ≡ at + (5 + get_or bytes (at + 4) 0) → end ≤ length bytes
      → name_cmp (take (end - (at + 5)) (drop (at + 5) bytes)) name ≡ Greater → IsMissing es name at
  missing_here at end [] reached is within greater = record { behind = []; reached = reached; after = tt }
  missing_here at end (e ∷ behind) reached is within greater =
      let more : name_cmp e.name name ≡ Greater = ap (λ n. name_cmp n name) (sym (name_here bytes es spells at end reached.passed behind e reached.parts is)) ∙ greater in
      let after : IsBefore name e.name = nat_list_cmp_total.antisymm name e.name ∙ ap ordering_reverse more in
      record { behind = e ∷ behind; reached = reached; after = (after, after_through name e.name behind after (after_entry reached.passed e behind (are_here bytes es spells at end reached.passed behind e reached.parts is))) }

  -- no entry is left
  pub missing_end : (at : ℕ) (left : List Entry) → HasLeft es name at left → length bytes < at + (5 + get_or bytes (at + 4) 0) → IsMissing es name at
  missing_end at [] reached cut = record { behind = []; reached = reached; after = tt }
  missing_end at (e ∷ behind) reached cut = absurd (not_cut bytes es spells at reached.passed behind e reached.parts cut)

-- THE NAMES

-- the names so far are those of the entries before a place of the bytes
pub record HasListed (es : List Entry) (at : ℕ) (names : List (List ℕ)) (left : List Entry) : Type 0 where
  pub passed : List Entry
  pub parts : Parts es at passed left
  pub listed : names ≡ entry_names passed

-- so many entries stand before a place of the bytes
pub record HasCounted (es : List Entry) (at count : ℕ) (left : List Entry) : Type 0 where
  pub passed : List Entry
  pub parts : Parts es at passed left
  pub counted : count ≡ length passed

names_push : (passed : List Entry) (e : Entry) → entry_names (passed ++ e ∷ []) ≡ entry_names passed ++ e.name ∷ []
names_push [] e = refl
names_push (x ∷ passed) e = ap (λ l. x.name ∷ l) (names_push passed e)

module _ (bytes : List ℕ) (es : List Entry) (spells : Spells bytes es) where
  whole : (at : ℕ) (passed : List Entry) → Parts es at passed [] → es ≡ passed
  whole at passed parts = parts.split ∙ append-nil passed

  pub none_listed : (left : List Entry) × HasListed es 0 [] left
  none_listed = (es, record { passed = []; parts = no_part bytes es spells; listed = refl })

  pub one_listed : (at end : ℕ) (names : List (List ℕ)) (left : List Entry) → HasListed es at names left → end ≡ at + (5 + get_or bytes (at + 4) 0) → end ≤ length bytes
      → (behind : List Entry) × HasListed es end (names ++ take (end - (at + 5)) (drop (at + 5) bytes) ∷ []) behind
  one_listed at end names [] reached is within = absurd (ended bytes es spells at end reached.passed reached.parts is within)
  one_listed at end names (e ∷ behind) reached is within = (
    behind,
    record {
      passed = reached.passed ++ e ∷ [];
      parts = next_part bytes es spells at end reached.passed behind e reached.parts is;
      listed = ap (λ n. names ++ n ∷ []) (name_here bytes es spells at end reached.passed behind e reached.parts is) ∙ ap (λ l. l ++ e.name ∷ []) reached.listed ∙ sym (names_push reached.passed e);
    },
  )

  pub all_listed : (at : ℕ) (names : List (List ℕ)) (left : List Entry) → HasListed es at names left → length bytes < at + (5 + get_or bytes (at + 4) 0) → names ≡ entry_names es
  all_listed at names [] reached cut = reached.listed ∙ ap entry_names (sym (whole at reached.passed reached.parts))
  all_listed at names (e ∷ behind) reached cut = absurd (not_cut bytes es spells at reached.passed behind e reached.parts cut)

  pub none_counted : (left : List Entry) × HasCounted es 0 0 left
  none_counted = (es, record { passed = []; parts = no_part bytes es spells; counted = refl })

  pub one_counted : (at end count : ℕ) (left : List Entry) → HasCounted es at count left → end ≡ at + (5 + get_or bytes (at + 4) 0) → end ≤ length bytes → (behind : List Entry) × HasCounted es end (count + 1) behind
  one_counted at end count [] reached is within = absurd (ended bytes es spells at end reached.passed reached.parts is within)
  one_counted at end count (e ∷ behind) reached is within = (
    behind,
    record {
      passed = reached.passed ++ e ∷ [];
      parts = next_part bytes es spells at end reached.passed behind e reached.parts is;
      counted = ap (λ n. n + 1) reached.counted ∙ sym (length-append reached.passed (e ∷ []));
    },
  )

  pub all_counted : (at count : ℕ) (left : List Entry) → HasCounted es at count left → length bytes < at + (5 + get_or bytes (at + 4) 0) → count ≡ length es
  all_counted at count [] reached cut = reached.counted ∙ ap length (sym (whole at reached.passed reached.parts))
  all_counted at count (e ∷ behind) reached cut = absurd (not_cut bytes es spells at reached.passed behind e reached.parts cut)
