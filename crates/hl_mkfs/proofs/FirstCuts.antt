-- How the first unit and the first checkpoint are cut into parts.
use Rattle.std.proofs.Common.{◌≡◌, inl, ⊎_elim, ℕ, ◌+◌, ◌-◌, ◌/◌, ◌<◌, ◌≤◌, ◌^◌, min, List, [], ◌∷◌, length, refl, ◌∙◌, ap, arith}
use Rattle.std.proofs.lemmas.Bool.{cases_lt}
use Rattle.hl_addr.specs.Layout.{Layout, IsWithinLimits, table_blocks}
use Rattle.hl_image.specs.declared.place.LogPlace.{LogPlace}
use Rattle.hl_image.specs.Places.{IsLogPlace}
use Rattle.hl_log.specs.declared.piece.Piece.{Piece}
use Rattle.hl_log.specs.Free.{AreClean}
use Rattle.hl_log.specs.Cut.{AreCut, HasClean, place_behind}
use Rattle.hl_log.specs.Units.{GoesOn, Numbered, moved}
use Rattle.hl_log.proofs.Cutting.{few_parts}
use Rattle.hl_log.proofs.Sites.{large_segments, small_segments, few_tables}
use Rattle.hl_log.proofs.TwoPhases.{one_cut}
use Rattle.hl_mkfs.specs.Parts.{log_start, root_end}
use Rattle.hl_mkfs.specs.Stages.{opened_position, rooted_position}

-- no segment is clean
pub none_clean : (g : Layout) (seg : ℕ) → AreClean g seg []
none_clean g seg = record { in_log = λ c h. absurd (let lt = h.1 in omega arith); once = tt; apart = λ h. absurd (let lt = h.1 in omega arith) }

-- the first part: the root's inode alone
abbrev pub root_piece : Piece
root_piece = record { at = log_start; blocks = 1; tables = 0; next = root_end }

module _ (g : Layout) (is : IsWithinLimits g) where
  pub start_place : IsLogPlace g log_start
  start_place = (let k = large_segments g is in let log = is.log_count.0 in record { low = omega arith; high = omega arith; room = omega arith })

  pub root_end_place : IsLogPlace g root_end
  root_end_place = (let k = large_segments g is in let log = is.log_count.0 in record { low = omega arith; high = omega arith; room = omega arith })

  pub root_cut : AreCut g log_start [] 1 0 (root_piece ∷ []) []
  root_cut =
      let k = large_segments g is in
      let one : 1 ≡ min 1 (min 240 (g.k - (0 + 1))) = omega arith in
      (record { at_is = refl; blocks_are = one; tables_are = refl; goes = inl (omega arith, refl, refl, refl) }, refl, refl)

  pub only_root_piece : (pieces : List Piece) (rest : List ℕ) → AreCut g log_start [] 1 0 pieces rest → pieces ≡ root_piece ∷ []
  only_root_piece pieces rest cut = one_cut g log_start [] 1 0 pieces (root_piece ∷ []) rest [] cut root_cut

  -- where the log goes on behind it
  pub goes_to_root : (head : LogPlace) (serial : ℕ) (rest : List ℕ) → GoesOn g opened_position [] 1 0 head serial rest → moved opened_position head serial ≡ rooted_position
  goes_to_root head serial rest on =
      let pieces = only_root_piece on.pieces rest on.are_cut in
      let head_is : head ≡ root_end = on.head_is ∙ ap (place_behind log_start) pieces in
      let count : length on.pieces ≡ 1 = ap (λ (l : List Piece). length l) pieces in
      let serial_is : serial ≡ 2 = on.serial_is ∙ ap (λ (n : ℕ). min (1 + n) (2 ^ 64 - 1)) count in
      ap (λ (x : LogPlace). moved opened_position x serial) head_is ∙ ap (λ (n : ℕ). moved opened_position root_end n) serial_is

  -- THE TABLES HAVE ROOM in the first segment, in one part or two
  abbrev behind : ℕ → LogPlace
  behind block = record { seg = 1; block = block }

  one_part : (n : ℕ) → n ≤ 240 → n ≤ g.k / 2 → HasClean g root_end [] n 0
  one_part n few half =
      let k = large_segments g is in
      let size : n ≡ min n (min 240 (g.k - (2 + 1))) = omega arith in
      let piece : Piece = record { at = root_end; blocks = n; tables = 0; next = behind (2 + n + 1) } in
      (piece ∷ [], [], (record { at_is = refl; blocks_are = size; tables_are = refl; goes = inl (omega arith, refl, refl, refl) }, refl, refl))

  two_parts : (n : ℕ) → 240 < n → n ≤ g.k / 2 → HasClean g root_end [] n 0
  two_parts n many half =
      let small = small_segments g is in
      let first : 240 ≡ min n (min 240 (g.k - (2 + 1))) = omega arith in
      let second : n - 240 ≡ min (n - 240) (min 240 (g.k - (243 + 1))) = omega arith in
      let p : Piece = record { at = root_end; blocks = 240; tables = 0; next = behind 243 } in
      let q : Piece = record { at = behind 243; blocks = n - 240; tables = 0; next = behind (243 + (n - 240) + 1) } in (
        p ∷ q ∷ [],
        [],
        (
          [],
          record { at_is = refl; blocks_are = first; tables_are = refl; goes = inl (omega arith, refl, refl, refl) },
          omega arith,
          (record { at_is = refl; blocks_are = second; tables_are = refl; goes = inl (omega arith, refl, refl, refl) }, refl, refl),
        ),
      )

  pub tables_clean : HasClean g root_end [] (table_blocks g) 0
  tables_clean = ⊎_elim
      (λ lt. one_part (table_blocks g) (omega arith) is.tables_fit)
      (λ le. two_parts (table_blocks g) (omega arith) is.tables_fit)
      (cases_lt (table_blocks g) 241)

  -- the serials of these parts have room
  pub root_numbered : Numbered g opened_position [] 1 0
  root_numbered pieces rest cut = (let few = few_parts g log_start [] 1 0 pieces rest start_place (none_clean g 1) cut in omega arith)

  pub tables_numbered : (n : ℕ) → n ≡ table_blocks g → Numbered g rooted_position [] n 0
  tables_numbered n count pieces rest cut =
      let few = few_parts g root_end [] n 0 pieces rest root_end_place (none_clean g 1) cut in
      let most = few_tables g is in
      omega arith
