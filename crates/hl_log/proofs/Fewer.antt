-- A unit of fewer blocks: its addresses are the first of those of more, and it needs no more clean segments.
use Rattle.std.proofs.Common.{◌≡◌, ◌⊎◌, inl, inr, ℕ, zero, suc, ◌+◌, ◌-◌, ◌<◌, ◌≤◌, min, List, [], ◌∷◌, ◌++◌, length, take, refl, sym, ◌∙◌, ap, subst, arith, append-nil}
use Rattle.std.specs.List.{range_with_len}
use Rattle.std.proofs.Math.Seq.{take-append-add}
use Rattle.std.proofs.lemmas.Bool.{cases_lt}
use Rattle.std.proofs.lemmas.List.{take-append-le}
use Rattle.std.proofs.lemmas.List.FromFn.{length-range_with_len}
use Rattle.hl_addr.specs.Layout.{Layout}
use Rattle.hl_image.specs.declared.place.LogPlace.{LogPlace}
use Rattle.hl_image.specs.Places.{block_at, IsLogPlace}
use Rattle.hl_log.specs.declared.piece.Piece.{Piece}
use Rattle.hl_log.specs.Cut.{Goes, Takes, AreCut, HasClean, IsPlan, addresses}
use Rattle.hl_log.proofs.Cutting.{same_place, cut_before}

take_range : (a n m : ℕ) → n ≤ m → take n (range_with_len a m) ≡ range_with_len a n
take_range a zero m le = refl
take_range a (suc n) zero le = absurd (omega arith)
take_range a (suc n) (suc m) le = ap (λ (l : List ℕ). a ∷ l) (take_range (a + 1) n m (omega arith))

-- the blocks of a part
abbrev row : Layout → LogPlace → ℕ → List ℕ
row g at n = range_with_len (block_at g at + 1) n

-- the first part of a cut, and what is behind it
cut_first : (g : Layout) (at : LogPlace) (clean : List ℕ) (b t : ℕ) (p : Piece) (ps : List Piece) (rest : List ℕ) → AreCut g at clean b t (p ∷ ps) rest
    → (more : List ℕ) × Takes g at clean b t p more × (((addresses g ps ≡ []) × (b ≡ p.blocks) × (t ≡ p.tables)) ⊎ AreCut g p.next more (b - p.blocks) (t - p.tables) ps rest)
cut_first g at clean b t p [] rest cut = (rest, cut.0, inl (refl, cut.1, cut.2))
cut_first g at clean b t p (q ∷ ps) rest cut = (cut.0, cut.1, inr cut.3)

-- no blocks have no addresses
no_blocks : (g : Layout) (at : LogPlace) (clean : List ℕ) (b t : ℕ) (ps : List Piece) (rest : List ℕ) → AreCut g at clean b t ps rest → b ≡ 0 → addresses g ps ≡ []
no_blocks g at clean b t [] rest none empty = absurd none
no_blocks g at clean b t (p ∷ []) rest cut empty = (let e : p.blocks ≡ 0 = omega (arith, cut.0.blocks_are) in ap (λ (n : ℕ). row g p.at n ++ []) e)
no_blocks g at clean b t (p ∷ q ∷ ps) rest cut empty =
    let e : p.blocks ≡ 0 = omega (arith, cut.1.blocks_are) in
    ap (λ (n : ℕ). row g p.at n ++ addresses g (q ∷ ps)) e ∙ no_blocks g p.next cut.0 (b - p.blocks) (t - p.tables) (q ∷ ps) rest cut.3 (omega arith)

-- the addresses of fewer blocks are the first of those of more, however many table records there are
pub fewer_addresses : (g : Layout) (at : LogPlace) (clean : List ℕ) (b t c u : ℕ) (ps : List Piece) (rest : List ℕ) (qs : List Piece) (left : List ℕ) → AreCut g at clean b t ps rest → AreCut g at clean c u qs left → b ≤ c
    → addresses g ps ≡ take b (addresses g qs)
fewer_addresses g at clean b t c u [] rest qs left none more le = absurd none
fewer_addresses g at clean b t c u (p ∷ ps) rest [] left cut none le = absurd none
fewer_addresses g at clean b t c u (p ∷ ps) rest (q ∷ qs) left cut more le =
    let P = cut_first g at clean b t p ps rest cut in
    let Q = cut_first g at clean c u q qs left more in
    let room = min 240 (g.k - (at.block + 1)) in
    let rows : row g q.at q.blocks ≡ row g at q.blocks = ap (λ (x : LogPlace). row g x q.blocks) Q.1.at_is in
    let here : row g p.at p.blocks ≡ row g at p.blocks = ap (λ (x : LogPlace). row g x p.blocks) P.1.at_is in
    elim (cases_lt room b) [
      | inl lt ↦ (
          let same : p.blocks ≡ q.blocks = omega (arith, P.1.blocks_are, Q.1.blocks_are) in
          elim P.2 [
            | inl last ↦ absurd (let e = last.1 in omega (arith, P.1.blocks_are))
            | inr behind ↦ elim Q.2 [
              | inl last ↦ absurd (let e = last.1 in omega (arith, Q.1.blocks_are))
              | inr others ↦ (
                  let goes = same_place g at p.blocks clean p.next q.next P.0 Q.0 P.1.goes (subst (λ (n : ℕ). Goes g at n clean q.next Q.0) (sym same) Q.1.goes) in
                  let there = subst (λ (x : LogPlace). AreCut g x Q.0 (c - q.blocks) (u - q.tables) qs left) (sym goes.0) others in
                  let then = fewer_addresses g p.next P.0 (b - p.blocks) (t - p.tables) (c - q.blocks) (u - q.tables) ps rest qs left behind (subst (λ (l : List ℕ). AreCut g p.next l (c - q.blocks) (u - q.tables) qs left) (sym goes.1) there) (omega arith) in
                  let count : b ≡ length (row g q.at q.blocks) + (b - p.blocks) = omega (arith, length-range_with_len (block_at g q.at + 1) q.blocks, P.1.blocks_are) in
                  ap (λ (l : List ℕ). l ++ addresses g ps) (here ∙ ap (row g at) same ∙ sym rows) ∙ ap (λ (l : List ℕ). row g q.at q.blocks ++ l) then
                  ∙ sym (take-append-add (row g q.at q.blocks) (addresses g qs) (b - p.blocks)) ∙ ap (λ (n : ℕ). take n (row g q.at q.blocks ++ addresses g qs)) (sym count)
                  )
            ]
          ]
          )
      | inr ge ↦ (
          let all : p.blocks ≡ b = omega (arith, P.1.blocks_are) in
          let none : addresses g ps ≡ [] = elim P.2 [
            | inl last ↦ last.0
            | inr behind ↦ no_blocks g p.next P.0 (b - p.blocks) (t - p.tables) ps rest behind (omega arith)
          ] in
          let within : b ≤ length (row g q.at q.blocks) = omega (arith, length-range_with_len (block_at g q.at + 1) q.blocks, Q.1.blocks_are) in
          let few : b ≤ q.blocks = omega (arith, Q.1.blocks_are) in
          ap (λ (l : List ℕ). row g p.at p.blocks ++ l) none ∙ append-nil (row g p.at p.blocks) ∙ here ∙ ap (row g at) all
          ∙ sym (take_range (block_at g at + 1) b q.blocks few) ∙ ap (take b) (sym rows) ∙ sym (take-append-le b (row g q.at q.blocks) (addresses g qs) within)
          )
    ]

pub fewer_planned : (g : Layout) (head : LogPlace) (clean : List ℕ) (b t c u : ℕ) (few more : List ℕ) → IsPlan g head clean b t few → IsPlan g head clean c u more → b ≤ c → few ≡ take b more
fewer_planned g head clean b t c u few more (ps, rest, cut, is) (qs, left, others, are) le = is ∙ fewer_addresses g head clean b t c u ps rest qs left cut others le ∙ ap (take b) (sym are)

-- a place in a segment with so many clean ones behind needs no more than another: it lies no further in its segment and
-- has as many, or it has more
abbrev NeedsLess : ℕ → ℕ → ℕ → ℕ → Type 0
NeedsLess block n other m = ((block ≤ other) × (m ≤ n)) ⊎ (m < n)

-- fewer blocks and table records at such a place, and a cut of the others
record Compares (g : Layout) (at to : LogPlace) (clean others : List ℕ) (b t c u : ℕ) : Type 0 where
  low : at.block + 2 ≤ g.k
  high : to.block + 2 ≤ g.k
  less : NeedsLess at.block (length clean) to.block (length others)
  fewer_blocks : b ≤ c
  fewer_tables : t ≤ u
  has : HasClean g to others c u

abbrev Enough : Layout → ℕ → Type 0
Enough g n = (at to : LogPlace) (clean others : List ℕ) (b t c u : ℕ) → b + t < n → Compares g at to clean others b t c u → HasClean g at clean b t

-- with a first part, and enough behind it
with_first : (g : Layout) (at : LogPlace) (clean : List ℕ) (b t : ℕ) (next : LogPlace) (more : List ℕ) → Goes g at (min b (min 240 (g.k - (at.block + 1)))) clean next more
    → (0 < (b - min b (min 240 (g.k - (at.block + 1)))) + (t - min t 80) → HasClean g next more (b - min b (min 240 (g.k - (at.block + 1)))) (t - min t 80)) → HasClean g at clean b t
with_first g at clean b t next more goes then =
    let p : Piece = record { at = at; blocks = min b (min 240 (g.k - (at.block + 1))); tables = min t 80; next = next } in
    let takes : Takes g at clean b t p more = record { at_is = refl; blocks_are = refl; tables_are = refl; goes = goes } in
    elim (cases_lt 0 ((b - p.blocks) + (t - p.tables))) [
      | inl some ↦ (let has = then some in (p ∷ has.0, has.1, cut_before g at clean b t p more takes some has.0 has.1 has.2))
      | inr none ↦ (p ∷ [], more, (takes, omega arith, omega arith))
    ]

a_clean_one : (clean : List ℕ) → 0 < length clean → (c : ℕ) × (more : List ℕ) × (clean ≡ c ∷ more)
a_clean_one [] none = absurd (omega arith)
a_clean_one (c ∷ more) some = (c, more, refl)

module _ (g : Layout) (at to : LogPlace) (clean others : List ℕ) (b t c u : ℕ) (rec : Enough g (b + t)) (cmp : Compares g at to clean others b t c u) where
  abbrev taken : ℕ
  taken = min b (min 240 (g.k - (at.block + 1)))

  -- behind a part, beside the other place before its part
  alone : (next : LogPlace) (more : List ℕ) → next.block + 2 ≤ g.k → NeedsLess next.block (length more) to.block (length others) → 0 < (b - taken) + (t - min t 80) → HasClean g next more (b - taken) (t - min t 80)
  alone next more room less some = rec next to more others (b - taken) (t - min t 80) c u (omega (arith, cmp.low)) (record {
    low = room;
    high = cmp.high;
    less = less;
    fewer_blocks = omega (arith, cmp.fewer_blocks);
    fewer_tables = omega (arith, cmp.fewer_tables);
    has = cmp.has;
  })

  -- behind a part, beside the other place behind its part
  abbrev others_taken : ℕ
  others_taken = min c (min 240 (g.k - (to.block + 1)))

  next_room : (n : ℕ) (q : LogPlace) (m : List ℕ) → Goes g to n others q m → q.block + 2 ≤ g.k
  next_room n q m (inl near) = (let a = near.0 in let e = near.2 in omega arith)
  next_room n q m (inr far) = (let e = far.2 in omega (arith, cmp.high))

  together : at.block ≤ to.block → (next : LogPlace) (more : List ℕ) → next.block + 2 ≤ g.k → ((q : LogPlace) (m : List ℕ) → Goes g to others_taken others q m → NeedsLess next.block (length more) q.block (length m))
      → 0 < (b - taken) + (t - min t 80) → (qs : List Piece) (rest : List ℕ) → AreCut g to others c u qs rest → HasClean g next more (b - taken) (t - min t 80)
  together nearer next more room less some [] rest none = absurd none
  together nearer next more room less some (q ∷ qs) rest cut =
      let Q = cut_first g to others c u q qs rest cut in
      let goes = subst (λ (n : ℕ). Goes g to n others q.next Q.0) Q.1.blocks_are Q.1.goes in
      elim Q.2 [
        | inl last ↦ absurd (let e = last.1 in let f = last.2 in omega (arith, Q.1.blocks_are, Q.1.tables_are, cmp.fewer_blocks, cmp.fewer_tables, cmp.low, cmp.high))
        | inr behind ↦ rec next q.next more Q.0 (b - taken) (t - min t 80) (c - q.blocks) (u - q.tables) (omega (arith, cmp.low)) (record {
          low = room;
          high = next_room others_taken q.next Q.0 goes;
          less = less q.next Q.0 goes;
          fewer_blocks = omega (arith, Q.1.blocks_are, cmp.fewer_blocks, cmp.low, cmp.high);
          fewer_tables = omega (arith, Q.1.tables_are, cmp.fewer_tables);
          has = (qs, rest, behind);
        })
      ]

  near_less : at.block ≤ to.block → length others ≤ length clean → (q : LogPlace) (m : List ℕ) → Goes g to others_taken others q m → NeedsLess (at.block + taken + 1) (length clean) q.block (length m)
  near_less nearer as_many q m (inl near) = (let e = near.2 in let f = ap length near.3 in inl (omega (arith, cmp.fewer_blocks, cmp.low, cmp.high), omega arith))
  near_less nearer as_many q m (inr far) = (let f = ap length far.1 in inr (omega arith))

  behind_near : at.block + taken + 1 + 2 ≤ g.k → 0 < (b - taken) + (t - min t 80) → HasClean g (record { seg = at.seg; block = at.block + taken + 1 }) clean (b - taken) (t - min t 80)
  behind_near near some = elim cmp.less [
    | inl r ↦ together r.0 (record { seg = at.seg; block = at.block + taken + 1 }) clean near (near_less r.0 r.1) some cmp.has.0 cmp.has.1 cmp.has.2
    | inr more ↦ alone (record { seg = at.seg; block = at.block + taken + 1 }) clean near (inr more) some
  ]

  module _ (far : g.k < at.block + taken + 1 + 2) where
    far_less : at.block ≤ to.block → length others ≤ length clean → (e : ℕ) (more : List ℕ) → clean ≡ e ∷ more → (q : LogPlace) (m : List ℕ) → Goes g to others_taken others q m → NeedsLess 0 (length more) q.block (length m)
    far_less nearer as_many e more is q m (inl near) = absurd (let a = near.0 in omega (arith, cmp.fewer_blocks, cmp.low, cmp.high))
    far_less nearer as_many e more is q m (inr further) = (let f = ap length further.1 in let h = ap length is in inl (omega arith, omega arith))

    behind_far : (e : ℕ) (more : List ℕ) → clean ≡ e ∷ more → 0 < (b - taken) + (t - min t 80) → HasClean g (record { seg = e; block = 0 }) more (b - taken) (t - min t 80)
    behind_far e more is some =
        let h = ap length is in
        elim cmp.less [
          | inl r ↦ together r.0 (record { seg = e; block = 0 }) more (omega (arith, cmp.low)) (far_less r.0 r.1 e more is) some cmp.has.0 cmp.has.1 cmp.has.2
          | inr fewer ↦ alone (record { seg = e; block = 0 }) more (omega (arith, cmp.low)) (inl (omega arith, omega arith)) some
        ]

    -- so there is a clean segment
    other_goes : at.block ≤ to.block → length others ≤ length clean → (q : LogPlace) (m : List ℕ) → Goes g to others_taken others q m → 0 < length clean
    other_goes nearer as_many q m (inl near) = absurd (let a = near.0 in omega (arith, cmp.fewer_blocks, cmp.low, cmp.high))
    other_goes nearer as_many q m (inr further) = (let f = ap length further.1 in omega arith)

    other_needs : at.block ≤ to.block → length others ≤ length clean → (qs : List Piece) (rest : List ℕ) → AreCut g to others c u qs rest → 0 < length clean
    other_needs nearer as_many [] rest none = absurd none
    other_needs nearer as_many (q ∷ qs) rest cut =
        let Q = cut_first g to others c u q qs rest cut in
        other_goes nearer as_many q.next Q.0 (subst (λ (n : ℕ). Goes g to n others q.next Q.0) Q.1.blocks_are Q.1.goes)

    some_clean : 0 < length clean
    some_clean = elim cmp.less [ inl r ↦ other_needs r.0 r.1 cmp.has.0 cmp.has.1 cmp.has.2 | inr more ↦ omega arith ]

    step_far : HasClean g at clean b t
    step_far = (let e = a_clean_one clean some_clean in with_first g at clean b t (record { seg = e.0; block = 0 }) e.1 (inr (far, e.2, refl)) (behind_far e.0 e.1 e.2))

  step : HasClean g at clean b t
  step = elim (cases_lt g.k (at.block + taken + 1 + 2)) [
    | inl far ↦ step_far far
    | inr near ↦ with_first g at clean b t (record { seg = at.seg; block = at.block + taken + 1 }) clean (inl (near, refl, refl, refl)) (behind_near near)
  ]

enough : (g : Layout) (n : ℕ) → Enough g n
enough g zero at to clean others b t c u lt cmp = absurd (omega arith)
enough g (suc n) at to clean others b t c u lt cmp = step g at to clean others b t c u (λ x y xs ys k l m o less smaller. enough g n x y xs ys k l m o (omega arith) smaller) cmp

-- where there are clean segments enough for a unit, there are enough for one of fewer blocks and table records
pub enough_for_fewer : (g : Layout) (at : LogPlace) (clean : List ℕ) (b t c u : ℕ) → IsLogPlace g at → b ≤ c → t ≤ u → HasClean g at clean c u → HasClean g at clean b t
enough_for_fewer g at clean b t c u place fewer_blocks fewer_tables has = enough g (b + t + 1) at at clean clean b t c u (omega arith) (record {
  low = place.room;
  high = place.room;
  less = inl (omega arith, omega arith);
  fewer_blocks = fewer_blocks;
  fewer_tables = fewer_tables;
  has = has;
})
