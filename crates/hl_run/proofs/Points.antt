-- The trees of a run, and which of them a stop leaves.
use Rattle.std.proofs.Common.{◌≡◌, ⊎_elim, ℕ, zero, suc, ◌+◌, ◌≤◌, Bool, true, false, if◌then◌else◌, List, [], ◌∷◌, ◌++◌, length, take, Option, Some, None, refl, sym, ◌∙◌, ap, subst, arith}
use Rattle.std.specs.Prelude.{slice_get}
use Rattle.hl_media.specs.History.{Image, MachineState, IsUntouched, PendingWrite}
use Rattle.hl_tree.specs.declared.call.Limits.{Limits}
use Rattle.hl_tree.specs.Rules.{Files}
use Rattle.hl_disk.specs.Disks.{StandsFor, Holds}
use Rattle.hl_disk.specs.Stops.{NoChance, StopLeaves, IsSettled}
use Rattle.hl_disk.specs.Saves.{HoldsEither}
use Rattle.hl_disk.proofs.Settled.{settled_leaves}
use Rattle.hl_run.specs.Run.{DoneLine, tree_after, tree_at, is_kept, last_sync}

-- ---- lines and more lines

take-more : (lines more : List DoneLine) (j : ℕ) → j ≤ length lines → take j (lines ++ more) ≡ take j lines
take-more lines more zero le = refl
take-more [] more (suc j) le = absurd (omega arith)
take-more (d ∷ lines) more (suc j) le = ap (λ l. d ∷ l) (take-more lines more j (omega arith))

take-all : (lines : List DoneLine) (j : ℕ) → length lines ≤ j → take j lines ≡ lines
take-all [] zero le = refl
take-all [] (suc j) le = refl
take-all (d ∷ lines) zero le = absurd (omega arith)
take-all (d ∷ lines) (suc j) le = ap (λ l. d ∷ l) (take-all lines j (omega arith))

get-more : (lines more : List DoneLine) (n : ℕ) → suc n ≤ length lines → slice_get (lines ++ more) n ≡ slice_get lines n
get-more [] more n lt = absurd (omega arith)
get-more (d ∷ lines) more zero lt = refl
get-more (d ∷ lines) more (suc n) lt = get-more lines more n (omega arith)

get-past : (lines : List DoneLine) (n : ℕ) → length lines ≤ n → slice_get lines n ≡ None
get-past [] n le = refl
get-past (d ∷ lines) zero le = absurd (omega arith)
get-past (d ∷ lines) (suc n) le = get-past lines n (omega arith)

get-next : (lines : List DoneLine) (d : DoneLine) → slice_get (lines ++ d ∷ []) (length lines) ≡ Some d
get-next [] d = refl
get-next (x ∷ lines) d = get-next lines d

-- ---- the last sync

pub last_sync_le : (lines : List DoneLine) (n : ℕ) → last_sync lines n ≤ n
last_sync_le lines zero = omega arith
last_sync_le lines (suc n) = let le = last_sync_le lines n in
    elim (is_kept (slice_get lines n)) as (λ b. (if b then suc n else last_sync lines n) ≤ suc n) [ true ↦ omega arith | false ↦ omega (arith, le) ]

pub last_sync-more : (lines more : List DoneLine) (n : ℕ) → n ≤ length lines → last_sync (lines ++ more) n ≡ last_sync lines n
last_sync-more lines more zero le = refl
last_sync-more lines more (suc n) le =
    ap (λ (o : Option DoneLine). if is_kept o then suc n else last_sync (lines ++ more) n) (get-more lines more n le)
    ∙ ap (λ (k : ℕ). if is_kept (slice_get lines n) then suc n else k) (last_sync-more lines more n (omega arith))

-- behind the last line there is no sync
pub last_sync-past : (lines : List DoneLine) (k : ℕ) → last_sync lines (length lines + k) ≡ last_sync lines (length lines)
last_sync-past lines zero = let e : length lines + 0 ≡ length lines = omega arith in rw e refl
last_sync-past lines (suc k) =
    let e : length lines + suc k ≡ suc (length lines + k) = omega arith in
    rw e (ap (λ (o : Option DoneLine). if is_kept o then suc (length lines + k) else last_sync lines (length lines + k)) (get-past lines (length lines + k) (omega arith)) ∙ last_sync-past lines k)

module _ (lines : List DoneLine) (d : DoneLine) where
  next_sync : last_sync (lines ++ d ∷ []) (suc (length lines)) ≡ (if is_kept (Some d) then suc (length lines) else last_sync lines (length lines))
  next_sync =
      ap (λ (o : Option DoneLine). if is_kept o then suc (length lines) else last_sync (lines ++ d ∷ []) (length lines)) (get-next lines d)
      ∙ ap (λ (k : ℕ). if is_kept (Some d) then suc (length lines) else k) (last_sync-more lines (d ∷ []) (length lines) (omega arith))

  pub last_sync-kept : is_kept (Some d) ≡ true → last_sync (lines ++ d ∷ []) (suc (length lines)) ≡ suc (length lines)
  last_sync-kept kept = next_sync ∙ ap (λ (b : Bool). if b then suc (length lines) else last_sync lines (length lines)) kept

  pub last_sync-other : is_kept (Some d) ≡ false → last_sync (lines ++ d ∷ []) (suc (length lines)) ≡ last_sync lines (length lines)
  last_sync-other other = next_sync ∙ ap (λ (b : Bool). if b then suc (length lines) else last_sync lines (length lines)) other

-- ---- what is settled

-- an image has one number
pub same_number : (blocks : ℕ) (image : Image) (n k : ℕ) (a b : Files) → StandsFor blocks image n a → StandsFor blocks image k b → n ≡ k
same_number blocks image n k a b one other =
    let up : one.newest.number ≤ k = other.others one.newest a one.checks in
    let down : other.newest.number ≤ n = one.others other.newest b other.checks in
    let first = one.number_is in
    let second = other.number_is in
    omega (arith, up, down, first, second)

-- what is settled stays so where nothing is written
pub same_settled : (blocks n : ℕ) (tree : Files) (m s : MachineState) → IsSettled blocks n tree m → s.content ≡ m.content → s.pending ≡ m.pending → IsSettled blocks n tree s
same_settled blocks n tree m s settled content pending = record {
  synced = pending ∙ settled.synced;
  holds = subst (λ (i : Image). Holds blocks i n tree) (sym content) settled.holds;
}

-- ---- trees

module _ (limits : Limits) (opening : Files) where
  pub tree_at-more : (lines more : List DoneLine) (j : ℕ) → j ≤ length lines → tree_at limits opening (lines ++ more) j ≡ tree_at limits opening lines j
  tree_at-more lines more j le = ap (tree_after limits opening) (take-more lines more j le)

  pub tree_at-all : (lines : List DoneLine) (j : ℕ) → length lines ≤ j → tree_at limits opening lines j ≡ tree_after limits opening lines
  tree_at-all lines j le = ap (tree_after limits opening) (take-all lines j le)

  -- ---- what a stop leaves

  module _ (blocks : ℕ) where
    -- the tree after some number of the lines, between these
    abbrev pub Reaches : List DoneLine → ℕ → ℕ → MachineState → Type 0
    Reaches lines low high s = StopLeaves blocks (λ image. (j : ℕ) × (low ≤ j) × (j ≤ high) × ((number : ℕ) × Holds blocks image number (tree_at limits opening lines j))) s

    pub wider : (lines : List DoneLine) (low high low' high' : ℕ) (s : MachineState) → low' ≤ low → high ≤ high' → Reaches lines low high s → Reaches lines low' high' s
    wider lines low high low' high' s below above here image may chance =
        let r = here image may chance in
        (r.0, omega (arith, below, r.1), omega (arith, above, r.2), r.3)

    pub same_reach : (lines : List DoneLine) (low high : ℕ) (m s : MachineState) → s.content ≡ m.content → s.pending ≡ m.pending → Reaches lines low high m → Reaches lines low high s
    same_reach lines low high m s content pending here image may chance =
        here image
        (λ k untouched. may k (subst (λ (ws : List PendingWrite). IsUntouched ws k) (sym pending) untouched) ∙ ap (λ (i : Image). i k) content)
        (subst (λ (ws : List PendingWrite). NoChance blocks ws image) pending chance)

    pub more_lines : (lines more : List DoneLine) (low high : ℕ) (s : MachineState) → high ≤ length lines → Reaches lines low high s → Reaches (lines ++ more) low high s
    more_lines lines more low high s le here image may chance =
        let r = here image may chance in
        (r.0, r.1, r.2, subst (λ (t : Files). (number : ℕ) × Holds blocks image number t) (sym (tree_at-more lines more r.0 (let top = r.2 in omega (arith, top, le)))) r.3)

    -- what is settled
    pub reaches_settled : (lines : List DoneLine) (low j high number : ℕ) (tree : Files) (s : MachineState) → low ≤ j → j ≤ high → tree ≡ tree_at limits opening lines j
        → IsSettled blocks number tree s → Reaches lines low high s
    reaches_settled lines low j high number tree s below above is settled image may chance =
        (j, below, above, (number, subst (λ (t : Files). Holds blocks image number t) is (settled_leaves blocks number tree s s settled refl refl image may chance)))

    -- what a save leaves
    pub reaches_either : (lines : List DoneLine) (low i j high number : ℕ) (old new : Files) (s : MachineState) → low ≤ i → i ≤ high → low ≤ j → j ≤ high
        → old ≡ tree_at limits opening lines i → new ≡ tree_at limits opening lines j → StopLeaves blocks (HoldsEither blocks number old new) s → Reaches lines low high s
    reaches_either lines low i j high number old new s below above below' above' old_is new_is leaves image may chance = ⊎_elim
        (λ holds. (i, below, above, (number, subst (λ (t : Files). Holds blocks image number t) old_is holds)))
        (λ holds. (j, below', above', (number + 1, subst (λ (t : Files). Holds blocks image (number + 1) t) new_is holds)))
        (leaves image may chance)
