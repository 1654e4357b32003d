-- Chains of images that agree.
use Rattle.std.proofs.Common.{◌≡◌, ◌⊎◌, inl, inr, ⊎_elim, ℕ, ◌+◌, ◌*◌, ◌<◌, ◌≤◌, Bool, true, false, List, [], ◌∷◌, ◌++◌, length, refl, sym, ◌∙◌, ap, subst, arith, length-append}
use Rattle.std.proofs.lemmas.Bool.{cases_eq, cases_lt}
use Rattle.std.proofs.Math.Nat.{mul-le-mul_left}
use Rattle.hl_media.specs.History.{Image}
use Rattle.hl_addr.specs.Layout.{Layout}
use Rattle.hl_summary.specs.declared.parts.Summary.{Summary}
use Rattle.hl_summary.specs.Parts.{HasRanges}
use Rattle.hl_image.specs.declared.place.LogPlace.{LogPlace}
use Rattle.hl_image.specs.declared.chain.ChainPart.{ChainPart}
use Rattle.hl_image.specs.Places.{log_end, IsLogPlace}
use Rattle.hl_image.specs.Parts.{IsPart, NoPart, next_of}
use Rattle.hl_image.specs.Chain.{Walk, end_of, IsChain, alone, put_before, cut, IsCutChain, Covers, placed}
use Rattle.hl_image.proofs.PartLemmas.{part_ranges, part_local, no_part_same, one_part}

-- two segments share no block
pub apart : (g : Layout) (c d k : ℕ) → (c ≡ d → ⊥) → g.k * c ≤ k → k < g.k * c + g.k → g.k * d ≤ k → k < g.k * d + g.k → ⊥
apart g c d k differ a b x y = elim (cases_lt c d) [
  | inl lt ↦ (let m : g.k * (c + 1) ≤ g.k * d = mul-le-mul_left g.k (omega arith) in omega arith)
  | inr le ↦ elim (cases_eq c d) [
    | inl same ↦ differ same
    | inr other ↦ (let m : g.k * (d + 1) ≤ g.k * c = mul-le-mul_left g.k (omega arith) in omega arith)
  ]
]

-- a segment of the log ends before the log does
pub segment_in_log : (g : Layout) (c k : ℕ) → c ≤ g.log → k < g.k * c + g.k → k < log_end g
segment_in_log g c k le lt = let m : g.k * c ≤ g.k * g.log = mul-le-mul_left g.k le in omega arith

-- a place that a part names is a place
pub next_place : (g : Layout) (at : LogPlace) (s : Summary) → IsLogPlace g at → HasRanges g at.seg at.block s → IsLogPlace g (next_of s)
next_place g at s is ranges = ⊎_elim
    (λ near. (let a = near.0 in let b = near.1 in let c = near.2 in record { low = omega (arith, is.low); high = omega (arith, is.high); room = omega arith }))
    (λ far. (let b = far.2 in let c = far.3 in let d = far.4 in record { low = b; high = c; room = omega (arith, is.room) }))
    ranges.next

pub end_of-append : (at : LogPlace) (ps qs : List Summary) → end_of at (ps ++ qs) ≡ end_of (end_of at ps) qs
end_of-append at [] qs = refl
end_of-append at (p ∷ ps) qs = end_of-append (next_of p) ps qs

pub covers-append : (g : Layout) (at : LogPlace) (ps qs : List Summary) (k : ℕ) → Covers g at (ps ++ qs) k → Covers g at ps k ⊎ Covers g (end_of at ps) qs k
covers-append g at [] qs k c = inr c
covers-append g at (p ∷ ps) qs k (inl here) = inl (inl here)
covers-append g at (p ∷ ps) qs k (inr later) = ⊎_elim (λ c. inl (inr c)) (λ c. inr c) (covers-append g (next_of p) ps qs k later)

pub covers_later : (g : Layout) (at : LogPlace) (ps qs : List Summary) (k : ℕ) → Covers g (end_of at ps) qs k → Covers g at (ps ++ qs) k
covers_later g at [] qs k c = c
covers_later g at (p ∷ ps) qs k c = inr (covers_later g (next_of p) ps qs k c)

module _ (g : Layout) (a b : Image) where
  pub walk_covered : (at : LogPlace) (serial : ℕ) (ps : List Summary) → ((k : ℕ) → Covers g at ps k → b k ≡ a k) → Walk g a at serial ps → Walk g b at serial ps
  walk_covered at serial [] same walk = tt
  walk_covered at serial (p ∷ ps) same walk =
      (part_local g a b at serial p walk.0 (λ k le le2. same k (inl (le, le2))), walk_covered (next_of p) (serial + 1) ps (λ k c. same k (inr c)) walk.1)

module _ (g : Layout) (a : Image) where
  pub walk-append : (at : LogPlace) (serial : ℕ) (ps qs : List Summary) → Walk g a at serial ps → Walk g a (end_of at ps) (serial + length ps) qs → Walk g a at serial (ps ++ qs)
  walk-append at serial [] qs walk more = let e : serial + 0 ≡ serial = omega arith in subst (λ (n : ℕ). Walk g a at n qs) e more
  walk-append at serial (p ∷ ps) qs walk more =
      let e : serial + length (p ∷ ps) ≡ serial + 1 + length ps = omega arith in
      (walk.0, walk-append (next_of p) (serial + 1) ps qs walk.1 (subst (λ (n : ℕ). Walk g a (end_of (next_of p) ps) n qs) e more))

  pub walk_behind : (at : LogPlace) (serial : ℕ) (ps qs : List Summary) → Walk g a at serial (ps ++ qs) → Walk g a (end_of at ps) (serial + length ps) qs
  walk_behind at serial [] qs walk = let e : serial ≡ serial + 0 = omega arith in subst (λ (n : ℕ). Walk g a at n qs) e walk
  walk_behind at serial (p ∷ ps) qs walk =
      let e : serial + 1 + length ps ≡ serial + length (p ∷ ps) = omega arith in
      subst (λ (n : ℕ). Walk g a (end_of (next_of p) ps) n qs) e (walk_behind (next_of p) (serial + 1) ps qs walk.1)

  pub end_place : (at : LogPlace) (serial : ℕ) (ps : List Summary) → IsLogPlace g at → Walk g a at serial ps → IsLogPlace g (end_of at ps)
  end_place at serial [] is walk = is
  end_place at serial (p ∷ ps) is walk = end_place (next_of p) (serial + 1) ps (next_place g at p is (part_ranges g a at serial p walk.0)) walk.1

  pub covers_in_log : (at : LogPlace) (serial : ℕ) (ps : List Summary) → IsLogPlace g at → Walk g a at serial ps → (k : ℕ) → Covers g at ps k → k < log_end g
  covers_in_log at serial [] is walk k none = absurd none
  covers_in_log at serial (p ∷ ps) is walk k (inl here) =
      let f = part_ranges g a at serial p walk.0 in
      let h1 = here.1 in
      segment_in_log g at.seg k is.high (omega (arith, f.within))
  covers_in_log at serial (p ∷ ps) is walk k (inr later) = covers_in_log (next_of p) (serial + 1) ps (next_place g at p is (part_ranges g a at serial p walk.0)) walk.1 k later

  -- the log stands behind the label and the records
  pub covers_from : (at : LogPlace) (serial : ℕ) (ps : List Summary) → IsLogPlace g at → Walk g a at serial ps → (k : ℕ) → Covers g at ps k → g.k ≤ k
  covers_from at serial [] is walk k none = absurd none
  covers_from at serial (p ∷ ps) is walk k (inl here) = (let m : g.k * 1 ≤ g.k * at.seg = mul-le-mul_left g.k is.low in let lo = here.0 in omega arith)
  covers_from at serial (p ∷ ps) is walk k (inr later) = covers_from (next_of p) (serial + 1) ps (next_place g at p is (part_ranges g a at serial p walk.0)) walk.1 k later

-- images with the same log
pub chain_same : (g : Layout) (a b : Image) (at : LogPlace) (serial : ℕ) (ps : List Summary) → IsLogPlace g at → ((k : ℕ) → k < log_end g → b k ≡ a k) → IsChain g a at serial ps → IsChain g b at serial ps
chain_same g a b at serial ps is same chain =
    let e = end_place g a at serial ps is chain.walk in
    record {
      walk = walk_covered g a b at serial ps (λ k c. same k (covers_in_log g a at serial ps is chain.walk k c)) chain.walk;
      last = no_part_same g a b (end_of at ps) (serial + length ps) (λ k le lt. same k (segment_in_log g (end_of at ps).seg k e.high lt)) chain.last;
    }

pub cut_chain_same : (g : Layout) (a b : Image) (at : LogPlace) (serial : ℕ) (ps : List Summary) → IsLogPlace g at → ((k : ℕ) → k < log_end g → b k ≡ a k) → IsCutChain g a at serial ps → IsCutChain g b at serial ps
cut_chain_same g a b at serial ps is same chain = record { all = chain.all; chain = chain_same g a b at serial chain.all is same chain.chain; is = chain.is }

-- a chain that ends where these parts do
pub chain_ends : (g : Layout) (a : Image) (at end : LogPlace) (serial last : ℕ) (ps : List Summary) → Walk g a at serial ps → end_of at ps ≡ end → serial + length ps ≡ last → NoPart g a end last → IsChain g a at serial ps
chain_ends g a at end serial last ps walk end_is last_is none = record {
  walk = walk;
  last = subst (λ (x : LogPlace). NoPart g a x (serial + length ps)) (sym end_is) (subst (NoPart g a end) (sym last_is) none);
}

-- a chain with one more part
pub chain_more : (g : Layout) (a : Image) (at end : LogPlace) (serial last : ℕ) (ps : List Summary) (p : Summary) → Walk g a at serial ps → end_of at ps ≡ end → serial + length ps ≡ last
    → IsPart g a end last p → NoPart g a (next_of p) (last + 1) → IsChain g a at serial (ps ++ p ∷ [])
chain_more g a at end serial last ps p walk end_is last_is here none =
    let there : IsPart g a (end_of at ps) (serial + length ps) p = subst (λ (x : LogPlace). IsPart g a x (serial + length ps) p) (sym end_is) (subst (λ (n : ℕ). IsPart g a end n p) (sym last_is) here) in
    chain_ends g a at (next_of p) serial (last + 1) (ps ++ p ∷ []) (walk-append g a at serial ps (p ∷ []) walk (there, tt)) (end_of-append at ps (p ∷ [])) (omega (arith, length-append ps (p ∷ []))) none

-- a walk with one more part
pub walk_more : (g : Layout) (a : Image) (at end : LogPlace) (serial last : ℕ) (ps : List Summary) (p : Summary) → Walk g a at serial ps → end_of at ps ≡ end → serial + length ps ≡ last → IsPart g a end last p → Walk g a at serial (ps ++ p ∷ [])
walk_more g a at end serial last ps p walk end_is last_is here =
    walk-append g a at serial ps (p ∷ []) walk (subst (λ (x : LogPlace). IsPart g a x (serial + length ps) p) (sym end_is) (subst (λ (n : ℕ). IsPart g a end n p) (sym last_is) here), tt)

-- one image has one chain
pub one_chain : (g : Layout) (a : Image) (at : LogPlace) (serial : ℕ) (ps qs : List Summary) → IsChain g a at serial ps → IsChain g a at serial qs → ps ≡ qs
one_chain g a at serial [] [] x y = refl
one_chain g a at serial [] (q ∷ qs) x y = absurd (let e : serial + 0 ≡ serial = omega arith in subst (NoPart g a at) e x.last q y.walk.0)
one_chain g a at serial (p ∷ ps) [] x y = absurd (let e : serial + 0 ≡ serial = omega arith in subst (NoPart g a at) e y.last p x.walk.0)
one_chain g a at serial (p ∷ ps) (q ∷ qs) x y =
    let same : p ≡ q = one_part g a at serial p q x.walk.0 y.walk.0 in
    let e : serial + length (p ∷ ps) ≡ serial + 1 + length ps = omega arith in
    let f : serial + length (q ∷ qs) ≡ serial + 1 + length qs = omega arith in
    let next : next_of p ≡ next_of q = ap next_of same in
    let rest : IsChain g a (next_of q) (serial + 1) qs = record { walk = y.walk.1; last = subst (NoPart g a (end_of (next_of q) qs)) f y.last } in
    let tails : ps ≡ qs = one_chain g a (next_of p) (serial + 1) ps qs
    (record { walk = x.walk.1; last = subst (NoPart g a (end_of (next_of p) ps)) e x.last })
    (subst (λ (n : LogPlace). IsChain g a n (serial + 1) qs) (sym next) rest) in
    cc

pub one_cut_chain : (g : Layout) (a : Image) (at : LogPlace) (serial : ℕ) (ps qs : List Summary) → IsCutChain g a at serial ps → IsCutChain g a at serial qs → ps ≡ qs
one_cut_chain g a at serial ps qs x y = sym x.is ∙ ap cut (one_chain g a at serial x.all y.all x.chain y.chain) ∙ y.is

pub cut_open : (ps qs : List Summary) → cut qs ≡ [] → cut (ps ++ qs) ≡ cut ps
cut_open [] qs e = e
cut_open (p ∷ ps) qs e = ap (put_before p) (cut_open ps qs e)

before_more : (q p : Summary) (ps : List Summary) → put_before q (ps ++ p ∷ []) ≡ q ∷ (ps ++ p ∷ [])
before_more q p [] = refl
before_more q p (r ∷ ps) = refl

-- a last part that ends a unit keeps all
pub cut_closed : (ps : List Summary) (p : Summary) → p.ends ≡ true → cut (ps ++ p ∷ []) ≡ ps ++ p ∷ []
cut_closed [] p ends = ap (λ (b : Bool). alone b p) ends
cut_closed (q ∷ ps) p ends = ap (put_before q) (cut_closed ps p ends) ∙ before_more q p ps

-- a part that ends no unit
pub cut_single : (p : Summary) → p.ends ≡ false → cut (p ∷ []) ≡ []
cut_single p ends = ap (λ (b : Bool). alone b p) ends

pub cut_more : (ps : List Summary) (p : Summary) → cut ps ≡ [] → p.ends ≡ false → cut (ps ++ p ∷ []) ≡ []
cut_more ps p e ends = cut_open ps (p ∷ []) (cut_single p ends) ∙ e

-- any parts are those up to the last that ends a unit, and open ones behind them
pub record Splits (all : List Summary) : Type 0 where
  pub closed : List Summary
  pub beyond : List Summary
  pub is : all ≡ closed ++ beyond
  pub cut_is : cut all ≡ closed
  pub open_ended : cut beyond ≡ []

pub splits : (all : List Summary) → Splits all
splits [] = record { closed = []; beyond = []; is = refl; cut_is = refl; open_ended = refl }
splits (p ∷ ps) = by_rest (splits ps)
  where
    single : (b : Bool) → p.ends ≡ b → (s : Splits ps) → s.closed ≡ [] → Splits (p ∷ ps)
    single true ends s none = record {
      closed = p ∷ [];
      beyond = s.beyond;
      is = ap (λ l. p ∷ l) (s.is ∙ ap (λ l. l ++ s.beyond) none);
      cut_is = ap (put_before p) (s.cut_is ∙ none) ∙ ap (λ b. alone b p) ends;
      open_ended = s.open_ended;
    }
    single false ends s none = record {
      closed = [];
      beyond = p ∷ ps;
      is = refl;
      cut_is = ap (put_before p) (s.cut_is ∙ none) ∙ ap (λ b. alone b p) ends;
      open_ended = ap (put_before p) (s.cut_is ∙ none) ∙ ap (λ b. alone b p) ends;
    }

    by_closed : (s : Splits ps) (l : List Summary) → s.closed ≡ l → Splits (p ∷ ps)
    by_closed s [] none = single p.ends refl s none
    by_closed s (q ∷ qs) some = record {
      closed = p ∷ q ∷ qs;
      beyond = s.beyond;
      is = ap (λ l. p ∷ l) (s.is ∙ ap (λ l. l ++ s.beyond) some);
      cut_is = ap (put_before p) (s.cut_is ∙ some);
      open_ended = s.open_ended;
    }

    by_rest : Splits ps → Splits (p ∷ ps)
    by_rest s = by_closed s s.closed refl

-- what is cut is closed
pub cut_cut : (all : List Summary) → cut (cut all) ≡ cut all
cut_cut all = let s = splits all in ap cut s.cut_is ∙ sym (cut_open s.closed s.beyond s.open_ended) ∙ ap cut (sym s.is)

-- places of parts one behind the other
pub placed-append : (at : LogPlace) (ps qs : List Summary) → placed at (ps ++ qs) ≡ placed at ps ++ placed (end_of at ps) qs
placed-append at [] qs = refl
placed-append at (p ∷ ps) qs = ap (λ (l : List ChainPart). record { seg = at.seg; block = at.block; summary = p } ∷ l) (placed-append (next_of p) ps qs)

pub length-placed : (at : LogPlace) (ps : List Summary) → length (placed at ps) ≡ length ps
length-placed at [] = refl
length-placed at (p ∷ ps) = let e : length (placed (next_of p) ps) ≡ length ps = length-placed (next_of p) ps in omega arith
