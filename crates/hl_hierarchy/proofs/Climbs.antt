-- A climb from a number to one that an earlier climb passed, or round.
use Rattle.std.proofs.Common.{◌≡◌, ◌≢◌, ◌⊎◌, inl, inr, ⊎_elim, ℕ, zero, suc, ◌+◌, ◌<◌, ◌≤◌, List, length, get_or, sym, ◌∙◌, ap, subst, arith}
use Rattle.std.specs.Prelude.{slice_index, ◌==◌, if◌then◌else◌}
use Rattle.std.specs.List.{sum_by}
use Rattle.std.proofs.Math.ListN.{set, length-set}
use Rattle.std.proofs.lemmas.Bool.{cases_eq}
use Rattle.std.proofs.lemmas.Bool.Decides.{nat_tests}
use Rattle.std.proofs.lemmas.List.{get_or-set_same, get_or-set_other}
use Rattle.std.proofs.lemmas.List.Sums.{sum_by-set}
use Rattle.hl_hierarchy.specs.Naming.{EachBelow}
use Rattle.hl_hierarchy.specs.Climbing.{ArePassed, Climbs, ClimbsIn}
use Rattle.hl_hierarchy.proofs.Descents.{never_falls}

-- A number is under another by one step or more: what climbs from it climbs from the other in fewer, and the other way round.
pub record IsUnder (parents : List ℕ) (x at : ℕ) : Type 0 where
  pub falls : (n : ℕ) → ClimbsIn parents n x → (m : ℕ) × (m < n) × ClimbsIn parents m at
  pub lifts : Climbs parents at → Climbs parents x

-- a number is marked by an earlier climb, or by this one, that is at another
abbrev pub IsMarked : List ℕ → ℕ → ℕ → ℕ → ℕ → Type 0
IsMarked parents start at mark x = ((mark < start) × Climbs parents x) ⊎ ((mark ≡ start) × IsUnder parents x at)

-- a climb from a number is at another
pub record IsClimbing (parents seen : List ℕ) (start at : ℕ) : Type 0 where
  pub size : length seen ≡ length parents
  pub inside : at < length parents
  pub root : slice_index seen 1 ≡ 1
  pub marked : (x : ℕ) → slice_index seen x ≢ 0 → IsMarked parents start at (slice_index seen x) x
  pub up : Climbs parents start → Climbs parents at
  pub down : Climbs parents at → Climbs parents start

-- 1 for a number that isn't marked
abbrev pub blank : ℕ → ℕ
blank mark = if mark == 0 then 1 else 0

-- how many numbers aren't marked
abbrev pub unmarked : List ℕ → ℕ
unmarked seen = sum_by blank seen

blank_marked : (mark : ℕ) → 1 ≤ mark → blank mark ≡ 0
blank_marked mark low = grind (arith, nat_tests)

one_less : (a b x y : ℕ) → a + x ≡ b + y → x ≡ 1 → y ≡ 0 → a < b
one_less a b x y e one nil = omega arith

-- marking one leaves fewer
pub fewer : (seen : List ℕ) (at start : ℕ) → at < length seen → slice_index seen at ≡ 0 → 1 ≤ start → unmarked (set seen at start) < unmarked seen
fewer seen at start lt none low =
    one_less (unmarked (set seen at start)) (unmarked seen) (blank (get_or seen at 0)) (blank start) (sum_by-set blank seen at start 0 lt) (ap blank none) (blank_marked start low)

-- a number is under the directory that is noted for it, unless it is the root
under_parent : (parents : List ℕ) (at : ℕ) → at ≢ 1 → IsUnder parents at (slice_index parents at)
under_parent parents at other = record { falls = falls; lifts = λ c. (suc c.0, c.1) }
  where
    falls : (n : ℕ) → ClimbsIn parents n at → (m : ℕ) × (m < n) × ClimbsIn parents m (slice_index parents at)
    falls zero is = absurd (other is)
    falls (suc n) is = (n, omega arith, is)

under_then : (parents : List ℕ) (x y z : ℕ) → IsUnder parents x y → IsUnder parents y z → IsUnder parents x z
under_then parents x y z a b = record {
  falls = λ n is. (let one = a.falls n is in let two = b.falls one.0 one.2 in let p = one.1 in let q = two.1 in (two.0, omega arith, two.2));
  lifts = λ c. a.lifts (b.lifts c);
}

-- A CLIMB BEGINS
pub climb_begins : (parents seen : List ℕ) (start : ℕ) → start < length parents → ArePassed parents seen start → IsClimbing parents seen start start
climb_begins parents seen start inside passed = record {
  size = passed.size;
  inside = inside;
  root = passed.root;
  marked = λ x some. inl (passed.below x some, passed.climbs x some);
  up = λ c. c;
  down = λ c. c;
}

module _ (parents seen : List ℕ) (start at : ℕ) (low : 2 ≤ start) (climbing : IsClimbing parents seen start at) where
  -- A STEP UP
  module _ (below : EachBelow parents (length parents)) (none : slice_index seen at ≡ 0) where
    not_root : at ≢ 1
    not_root is = let one = ap (slice_index seen) is in let root = climbing.root in omega arith

    own : IsUnder parents at (slice_index parents at)
    own = under_parent parents at not_root

    within : at < length seen
    within = let size = climbing.size in let inside = climbing.inside in omega arith

    marked_more : (x : ℕ) → slice_index (set seen at start) x ≢ 0 → IsMarked parents start (slice_index parents at) (slice_index (set seen at start) x) x
    marked_more x some = ⊎_elim {C = IsMarked parents start (slice_index parents at) (slice_index (set seen at start) x) x}
        (λ same. inr (ap (slice_index (set seen at start)) same ∙ get_or-set_same seen at start 0 within, subst (λ (y : ℕ). IsUnder parents y (slice_index parents at)) (sym same) own))
        (λ other.
        let stays : slice_index (set seen at start) x ≡ slice_index seen x = get_or-set_other seen at x start 0 other in
        subst (λ (m : ℕ). IsMarked parents start (slice_index parents at) m x) (sym stays) (before x (climbing.marked x (λ e. some (stays ∙ e)))))
        (cases_eq x at)
      where
        before : (x : ℕ) → IsMarked parents start at (slice_index seen x) x → IsMarked parents start (slice_index parents at) (slice_index seen x) x
        before x (inl earlier) = inl earlier
        before x (inr (mark, under)) = inr (mark, under_then parents x at (slice_index parents at) under own)

    pub climb_more : IsClimbing parents (set seen at start) start (slice_index parents at)
    climb_more = record {
      size = length-set seen at start ∙ climbing.size;
      inside = below at;
      root = get_or-set_other seen at 1 start 0 (λ e. not_root (sym e)) ∙ climbing.root;
      marked = marked_more;
      up = λ c. (let there = climbing.up c in let fell = own.falls there.0 there.1 in (fell.0, fell.2));
      down = λ c. climbing.down (own.lifts c);
    }

  -- A CLIMB ENDS where an earlier one passed
  module _ (some : slice_index seen at ≢ 0) where
    pub climb_reaches : slice_index seen at ≢ start → Climbs parents start
    climb_reaches other = climbing.down (⊎_elim (λ earlier. earlier.1) (λ own. absurd (other own.0)) (climbing.marked at some))

    pub climb_passes : slice_index seen at ≢ start → ArePassed parents seen (start + 1)
    climb_passes other = record {
      size = climbing.size;
      root = climbing.root;
      below = λ x marked. ⊎_elim (λ earlier. (let lt = earlier.0 in omega arith)) (λ own. (let is = own.0 in omega arith)) (climbing.marked x marked);
      climbs = λ x marked. ⊎_elim (λ earlier. earlier.1) (λ own. own.1.lifts (there other)) (climbing.marked x marked);
    }
      where
        there : slice_index seen at ≢ start → Climbs parents at
        there other = ⊎_elim (λ earlier. earlier.1) (λ own. absurd (other own.0)) (climbing.marked at some)

    -- A CLIMB COMES ROUND
    pub climb_lost : slice_index seen at ≡ start → Climbs parents start → ⊥
    climb_lost own climbs = ⊎_elim (λ earlier. (let lt = earlier.0 in omega arith)) (λ round.
        let there = climbing.up climbs in
        never_falls (λ n. ClimbsIn parents n at) round.1.falls there.0 there.1) (climbing.marked at some)

-- a number that isn't climbed from passes nothing
pub passes_on : (parents seen : List ℕ) (start : ℕ) → ArePassed parents seen start → ArePassed parents seen (start + 1)
passes_on parents seen start passed = record {
  size = passed.size;
  root = passed.root;
  below = λ x some. (let lt = passed.below x some in omega arith);
  climbs = passed.climbs;
}

-- before the first climb the root alone is passed
pub passed_first : (parents zeros seen : List ℕ) → 2 ≤ length parents → length zeros ≡ length parents → ((x : ℕ) → slice_index zeros x ≡ 0) → seen ≡ set zeros 1 1 → ArePassed parents seen 2
passed_first parents zeros seen many size none is = record {
  size = ap length is ∙ length-set zeros 1 1 ∙ size;
  root = root;
  below = λ x some. (let one = at_root x some in let e = ap (slice_index seen) one in let r = root in omega arith);
  climbs = λ x some. (0, at_root x some);
}
  where
    root : slice_index seen 1 ≡ 1
    root = ap (λ (l : List ℕ). slice_index l 1) is ∙ get_or-set_same zeros 1 1 0 (omega arith)

    at_root : (x : ℕ) → slice_index seen x ≢ 0 → x ≡ 1
    at_root x some = ⊎_elim (λ same. same) (λ other. absurd (some (ap (λ (l : List ℕ). slice_index l x) is ∙ get_or-set_other zeros 1 x 1 0 other ∙ none x))) (cases_eq x 1)
