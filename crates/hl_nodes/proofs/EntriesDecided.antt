-- Whether bytes are the entries of a directory.
use Rattle.std.proofs.Common.{◌≡◌, inl, ℕ, zero, suc, ◌+◌, ◌<◌, ◌≤◌, ◌≢◌, ◌^◌, List, [], ◌∷◌, ◌++◌, length, get_or, take, drop, refl, sym, ap, ◌∙◌, subst, arith, length-drop}
use Rattle.std.specs.Prelude.{slice_index}
use Rattle.std.specs.Int.{from_le_bytes, w32}
use Rattle.std.specs.Ordering.{nat_cmp}
use Rattle.std.specs.Cmp.Lexicographic.{slice_cmp}
use Rattle.std.proofs.lemmas.List.{take_at, drop_at, get_or_default}
use Rattle.std.proofs.lemmas.Nat.{from_le_bytes-to_le_bytes_4}
use Rattle.hl_bytes.specs.Fields.{le32, u32_at}
use Rattle.hl_dir.specs.declared.entry.Entry.{Entry}
use Rattle.hl_dir.specs.Dirs.{HasRoom, HaveRoom, IsName, AreNames, IsBefore, AreOrdered, AreSorted, entry_bytes, dir_bytes}
use Rattle.hl_nodes.proofs.Deciding.{Decided, both, where_so, denied, alike, is_equal, is_below, is_at_most, is_less, same_bytes, all_below}

-- the entry that stands in front
entry_in : List ℕ → Entry
entry_in bytes = record { ino = u32_at 0 bytes; name = take (get_or bytes 4 0) (drop 5 bytes) }

rest_of : List ℕ → List ℕ
rest_of bytes = drop (length (entry_in bytes).name) (drop 5 bytes)

-- an entry that is spelled in front is read, and the rest stands behind it
entry_read : (bytes rest : List ℕ) (e : Entry) → HasRoom e → bytes ≡ entry_bytes e ++ rest → (entry_in bytes ≡ e) × (rest_of bytes ≡ rest)
unfolding entry_in rest_of u32_at le32
entry_read bytes rest e room is =
    let number : u32_at 0 bytes ≡ e.ino = ap (λ (l : List ℕ). from_le_bytes w32 (take 4 l)) is ∙ from_le_bytes-to_le_bytes_4 e.ino room.0 in
    let size : get_or bytes 4 0 ≡ length e.name = ap (λ (l : List ℕ). get_or l 4 0) is in
    let behind : drop 5 bytes ≡ e.name ++ rest = ap (drop 5) is in
    let name : take (get_or bytes 4 0) (drop 5 bytes) ≡ e.name = ap (λ (n : ℕ). take n (drop 5 bytes)) size ∙ ap (take (length e.name)) behind ∙ take_at e.name rest (length e.name) refl in
    let same : (let x : Entry = record { ino = u32_at 0 bytes; name = take (get_or bytes 4 0) (drop 5 bytes) } in x ≡ e) = rw (number, name) refl in
    (same, ap (λ (l : List ℕ). drop (length l) (drop 5 bytes)) name ∙ ap (drop (length e.name)) behind ∙ drop_at e.name rest (length e.name) refl)

-- some entries with room in their fields have these bytes
abbrev pub AreSpelled : List ℕ → Type 0
AreSpelled bytes = (es : List Entry) × HaveRoom es × (bytes ≡ dir_bytes es)

has_room : (e : Entry) → Decided (HasRoom e)
has_room e = both (is_below e.ino (2 ^ 32)) (is_below (length e.name) 256)

module _ (bytes : List ℕ) (some : 0 < length bytes) where
  -- an entry stands in front, and entries behind it
  one_more : HasRoom (entry_in bytes) × (bytes ≡ entry_bytes (entry_in bytes) ++ rest_of bytes) → AreSpelled (rest_of bytes) → AreSpelled bytes
  unfolding dir_bytes
  one_more front (es, room, is) = (entry_in bytes ∷ es, (front.0, room), front.1 ∙ ap (λ (l : List ℕ). entry_bytes (entry_in bytes) ++ l) is)

  one_less : AreSpelled bytes → (HasRoom (entry_in bytes) × (bytes ≡ entry_bytes (entry_in bytes) ++ rest_of bytes)) × AreSpelled (rest_of bytes)
  unfolding dir_bytes
  one_less ([], room, is) = absurd (let e = ap length is in omega arith)
  one_less (e ∷ es, room, is) =
      let read = entry_read bytes (dir_bytes es) e room.0 is in
      let front : bytes ≡ entry_bytes (entry_in bytes) ++ rest_of bytes = is ∙ ap (λ (x : Entry). entry_bytes x ++ dir_bytes es) (sym read.0) ∙ ap (λ (l : List ℕ). entry_bytes (entry_in bytes) ++ l) (sym read.1) in
      ((subst HasRoom (sym read.0) room.0, front), (es, room.1, read.1))

-- bytes are entries one after the other, or are none
spelled : (n : ℕ) (bytes : List ℕ) → length bytes ≤ n → Decided (AreSpelled bytes)
unfolding dir_bytes rest_of
spelled n [] le = inl ([], tt, refl)
spelled zero (x ∷ xs) le = absurd (omega arith)
spelled (suc n) (x ∷ xs) le =
    let bytes : List ℕ = x ∷ xs in
    let some : 0 < length bytes = omega arith in
    let shorter : length (rest_of bytes) ≤ n = omega (arith, length-drop (length (entry_in bytes).name) (drop 5 bytes), length-drop 5 bytes) in
    alike (λ p. one_more bytes some p.0 p.1) (λ a. one_less bytes some a)
    (both (both (has_room (entry_in bytes)) (same_bytes bytes (entry_bytes (entry_in bytes) ++ rest_of bytes))) (spelled n (rest_of bytes) shorter))

no_entry : Entry
no_entry = record { ino = 0; name = [] }

is_name : (name : List ℕ) → Decided (IsName name)
is_name name = alike (λ (some, (short, plain)). record { some = some; short = short; plain = plain }) (λ r. (r.some, (r.short, r.plain)))
    (both (is_at_most 1 (length name)) (both (is_at_most (length name) 255)
    (all_below (λ i. (slice_index name i ≢ 0) × (slice_index name i ≢ 47)) (length name) (λ i lt. both (denied (is_equal (slice_index name i) 0)) (denied (is_equal (slice_index name i) 47))))))

are_names : (es : List Entry) → Decided (AreNames es)
are_names es = alike
    (λ f k lt d. subst (λ (e : Entry). IsName e.name) (get_or_default es k no_entry d lt) (f k lt))
    (λ f k lt. f k lt no_entry)
    (all_below (λ k. IsName (get_or es k no_entry).name) (length es) (λ k lt. is_name (get_or es k no_entry).name))

are_ordered : (es : List Entry) → Decided (AreOrdered es)
are_ordered es = alike
    (λ f k lt d. subst (λ (e : Entry). IsBefore (get_or es k d).name e.name) (get_or_default es (k + 1) no_entry d lt)
    (subst (λ (e : Entry). IsBefore e.name (get_or es (k + 1) no_entry).name) (get_or_default es k no_entry d (omega arith)) (f k (omega arith) lt)))
    (λ f k low lt. f k lt no_entry)
    (all_below (λ k. k + 1 < length es → IsBefore (get_or es k no_entry).name (get_or es (k + 1) no_entry).name) (length es)
    (λ k low. where_so (is_below (k + 1) (length es)) (λ lt. is_less (slice_cmp nat_cmp (get_or es k no_entry).name (get_or es (k + 1) no_entry).name))))

-- entries of one directory, or not
pub are_sorted : (es : List Entry) → Decided (AreSorted es)
are_sorted es = both (are_names es) (are_ordered es)

pub spelled_or_not : (bytes : List ℕ) → Decided (AreSpelled bytes)
spelled_or_not bytes = spelled (length bytes) bytes (omega arith)
