-- How far a unit is cut.
use Rattle.std.proofs.Common.{◌≡◌, inl, inr, ℕ, ◌+◌, ◌-◌, ◌<◌, ◌≤◌, List, [], ◌∷◌, ◌++◌, length, drop, refl, sym, ◌∙◌, ap, subst, arith, length-append, append_assoc, append-nil}
use Rattle.std.specs.List.{range_with_len}
use Rattle.hl_addr.specs.Layout.{Layout}
use Rattle.hl_image.specs.declared.place.LogPlace.{LogPlace}
use Rattle.hl_image.specs.Places.{block_at, IsLogPlace}
use Rattle.hl_image.specs.Chain.{cut}
use Rattle.hl_log.specs.declared.piece.Piece.{Piece}
use Rattle.hl_log.specs.declared.piece.Left.{Left}
use Rattle.hl_log.specs.Free.{AreClean}
use Rattle.hl_log.proofs.Cleans.{first_in_log, beside_first}
use Rattle.hl_log.specs.Cut.{Goes, Takes, LeavesBehind, AreCut, HasClean, addresses, place_behind}

-- one next part alone is there
pub same_place : (g : Layout) (at : LogPlace) (n : ℕ) (clean : List ℕ) (a b : LogPlace) (x y : List ℕ) → Goes g at n clean a x → Goes g at n clean b y → (a ≡ b) × (x ≡ y)
same_place g at n clean a b x y (inl u) (inl v) =
    let s : a.seg ≡ b.seg = u.1 ∙ sym v.1 in
    let t : a.block ≡ b.block = u.2 ∙ sym v.2 in
    (ap (λ (k : ℕ). record { seg = k; block = a.block }) s ∙ ap (λ (k : ℕ). record { seg = b.seg; block = k }) t, u.3 ∙ sym v.3)
same_place g at n clean a b x y (inl u) (inr v) = absurd (let p = u.0 in let q = v.0 in omega arith)
same_place g at n clean a b x y (inr u) (inl v) = absurd (let p = u.0 in let q = v.0 in omega arith)
same_place g at n clean a b x y (inr u) (inr v) =
    let e : a.seg ∷ x ≡ b.seg ∷ y = sym u.1 ∙ v.1 in
    let s : a.seg ≡ b.seg = cc in
    let r : x ≡ y = cc in
    let t : a.block ≡ b.block = u.2 ∙ sym v.2 in
    (ap (λ (k : ℕ). record { seg = k; block = a.block }) s ∙ ap (λ (k : ℕ). record { seg = b.seg; block = k }) t, r)

pub one_next : (g : Layout) (at : LogPlace) (clean : List ℕ) (b t : ℕ) (p q : Piece) (x y : List ℕ) → Takes g at clean b t p x → Takes g at clean b t q y → (p ≡ q) × (x ≡ y)
one_next g at clean b t p q x y u v =
    let at_same : p.at ≡ q.at = u.at_is ∙ sym v.at_is in
    let blocks_same : p.blocks ≡ q.blocks = u.blocks_are ∙ sym v.blocks_are in
    let tables_same : p.tables ≡ q.tables = u.tables_are ∙ sym v.tables_are in
    let goes = same_place g at p.blocks clean p.next q.next x y u.goes (subst (λ (n : ℕ). Goes g at n clean q.next y) (sym blocks_same) v.goes) in
    let next_same : p.next ≡ q.next = goes.0 in (
      ap (λ (k : LogPlace). record { at = k; blocks = p.blocks; tables = p.tables; next = p.next }) at_same
          ∙ ap (λ (k : ℕ). record { at = q.at; blocks = k; tables = p.tables; next = p.next }) blocks_same
          ∙ ap (λ (k : ℕ). record { at = q.at; blocks = q.blocks; tables = k; next = p.next }) tables_same
          ∙ ap (λ (k : LogPlace). record { at = q.at; blocks = q.blocks; tables = q.tables; next = k }) next_same,
      goes.1,
    )

-- a next part lies in its segment, and the place that it names is one
pub within : (g : Layout) (at : LogPlace) (clean : List ℕ) (b t : ℕ) (p : Piece) (more : List ℕ) → IsLogPlace g at → Takes g at clean b t p more → at.block + p.blocks + 1 ≤ g.k
within g at clean b t p more place takes = omega (arith, takes.blocks_are, place.room)

pub place_then : (g : Layout) (at : LogPlace) (n : ℕ) (clean : List ℕ) (next : LogPlace) (more : List ℕ) → IsLogPlace g at → AreClean g at.seg clean → Goes g at n clean next more → IsLogPlace g next × AreClean g next.seg more
place_then g at n clean next more place cleans (inl near) =
    let a = near.0 in
    let b = near.1 in
    let c = near.2 in (
      record { low = omega (arith, place.low); high = omega (arith, place.high); room = omega arith },
      subst (AreClean g next.seg) (sym near.3) (subst (λ (s : ℕ). AreClean g s clean) (sym near.1) cleans),
    )
place_then g at n clean next more place cleans (inr far) =
    let cs = subst (AreClean g at.seg) far.1 cleans in
    let z = far.2 in
    let in_log = first_in_log g at.seg next.seg more cs in
    (record { low = in_log.0; high = in_log.1; room = omega (arith, place.room) }, beside_first g at.seg next.seg more cs)

-- what the parts so far have taken
abbrev pub blocks_in : List Piece → ℕ
blocks_in [] = 0
blocks_in (p ∷ ps) = p.blocks + blocks_in ps

abbrev pub tables_in : List Piece → ℕ
tables_in [] = 0
tables_in (p ∷ ps) = p.tables + tables_in ps

pub blocks_in-append : (ps : List Piece) (p : Piece) → blocks_in (ps ++ p ∷ []) ≡ blocks_in ps + p.blocks
blocks_in-append [] p = omega arith
blocks_in-append (q ∷ ps) p = let e : blocks_in (ps ++ p ∷ []) ≡ blocks_in ps + p.blocks = blocks_in-append ps p in omega arith

pub tables_in-append : (ps : List Piece) (p : Piece) → tables_in (ps ++ p ∷ []) ≡ tables_in ps + p.tables
tables_in-append [] p = omega arith
tables_in-append (q ∷ ps) p = let e : tables_in (ps ++ p ∷ []) ≡ tables_in ps + p.tables = tables_in-append ps p in omega arith

-- These parts are cut off, none of which is the last: what is left is at a place, with these clean segments.
pub record Reached (g : Layout) (head : LogPlace) (clean : List ℕ) (blocks tables : ℕ) (done : List Piece) (at : LogPlace) (more : List ℕ) (b t : ℕ) : Type 0 where
  pub blocks_are : blocks ≡ blocks_in done + b
  pub tables_are : tables ≡ tables_in done + t
  pub few : length done + (b + t) ≤ blocks + tables
  pub whole : (ps : List Piece) (rest : List ℕ) → AreCut g at more b t ps rest → AreCut g head clean blocks tables (done ++ ps) rest
  pub left : (ps : List Piece) (rest : List ℕ) → AreCut g head clean blocks tables ps rest → (qs : List Piece) × (ps ≡ done ++ qs) × AreCut g at more b t qs rest

pub reached_first : (g : Layout) (head : LogPlace) (clean : List ℕ) (blocks tables : ℕ) → Reached g head clean blocks tables [] head clean blocks tables
reached_first g head clean blocks tables = record {
  blocks_are = omega arith;
  tables_are = omega arith;
  few = omega arith;
  whole = λ ps rest cut. cut;
  left = λ ps rest cut. (ps, refl, cut);
}

-- the part in front of others
pub cut_before : (g : Layout) (at : LogPlace) (more : List ℕ) (b t : ℕ) (p : Piece) (then : List ℕ) → Takes g at more b t p then → 0 < (b - p.blocks) + (t - p.tables)
    → (ps : List Piece) (rest : List ℕ) → AreCut g p.next then (b - p.blocks) (t - p.tables) ps rest → AreCut g at more b t (p ∷ ps) rest
cut_before g at more b t p then takes some [] rest none = absurd none
cut_before g at more b t p then takes some (q ∷ ps) rest cut = (then, takes, some, cut)

-- the part is the first of those that are left
cut_after : (g : Layout) (at : LogPlace) (more : List ℕ) (b t : ℕ) (p : Piece) (then : List ℕ) → Takes g at more b t p then → 0 < (b - p.blocks) + (t - p.tables)
    → (ps : List Piece) (rest : List ℕ) → AreCut g at more b t ps rest → (qs : List Piece) × (ps ≡ p ∷ qs) × AreCut g p.next then (b - p.blocks) (t - p.tables) qs rest
cut_after g at more b t p then takes some [] rest none = absurd none
cut_after g at more b t p then takes some (q ∷ []) rest cut =
    absurd (let same = (one_next g at more b t p q then rest takes cut.0).0 in let e = ap (λ (x : Piece). x.blocks) same in let f = ap (λ (x : Piece). x.tables) same in let u = cut.1 in let v = cut.2 in omega arith)
cut_after g at more b t p then takes some (q ∷ r ∷ ps) rest cut =
    let same = one_next g at more b t q p cut.0 then cut.1 takes in (
      r ∷ ps,
      ap (λ (x : Piece). x ∷ r ∷ ps) same.0,
      subst (λ (x : List ℕ). AreCut g p.next x (b - p.blocks) (t - p.tables) (r ∷ ps) rest) same.1
          (subst (λ (x : Piece). AreCut g x.next cut.0 (b - x.blocks) (t - x.tables) (r ∷ ps) rest) same.0 cut.3),
    )

-- a next part that isn't the last takes something
pub takes_some : (g : Layout) (at : LogPlace) (more : List ℕ) (b t : ℕ) (p : Piece) (then : List ℕ) → IsLogPlace g at → Takes g at more b t p then → 0 < b + t → 0 < p.blocks + p.tables
takes_some g at more b t p then place takes some = omega (arith, takes.blocks_are, takes.tables_are, place.room)

module _ (g : Layout) (head : LogPlace) (clean : List ℕ) (blocks tables : ℕ) (done : List Piece) (at : LogPlace) (more : List ℕ) (b t : ℕ) (r : Reached g head clean blocks tables done at more b t) (p : Piece) (then : List ℕ)
    (takes : Takes g at more b t p then) where
  -- with one more part, behind which something is left
  pub reached_more : IsLogPlace g at → 0 < (b - p.blocks) + (t - p.tables) → Reached g head clean blocks tables (done ++ p ∷ []) p.next then (b - p.blocks) (t - p.tables)
  reached_more place some = record {
    blocks_are = omega (arith, r.blocks_are, takes.blocks_are, blocks_in-append done p);
    tables_are = omega (arith, r.tables_are, takes.tables_are, tables_in-append done p);
    few = (let s = takes_some g at more b t p then place takes (omega arith) in omega (arith, r.few, s, takes.blocks_are, takes.tables_are, length-append done (p ∷ [])));
    whole = λ ps rest cut. subst (λ (l : List Piece). AreCut g head clean blocks tables l rest) (sym (append_assoc done (p ∷ []) ps)) (r.whole (p ∷ ps) rest (cut_before g at more b t p then takes some ps rest cut));
    left = λ ps rest cut.
        let l = r.left ps rest cut in
        let c = cut_after g at more b t p then takes some l.0 rest l.2 in
        (c.0, l.1 ∙ ap (λ (x : List Piece). done ++ x) c.1 ∙ sym (append_assoc done (p ∷ []) c.0), c.2);
  }

  -- with the last part
  pub reached_last : b - p.blocks ≡ 0 → t - p.tables ≡ 0 → AreCut g head clean blocks tables (done ++ p ∷ []) then
  reached_last no_blocks no_tables = r.whole (p ∷ []) then (takes, omega (arith, takes.blocks_are), omega (arith, takes.tables_are))

-- where there is no next part, there are too few clean segments
pub none_reached : (g : Layout) (head : LogPlace) (clean : List ℕ) (blocks tables : ℕ) (done : List Piece) (at : LogPlace) (more : List ℕ) (b t : ℕ) → Reached g head clean blocks tables done at more b t
    → ((p : Piece) (then : List ℕ) → Takes g at more b t p then → ⊥) → HasClean g head clean blocks tables → ⊥
none_reached g head clean blocks tables done at more b t r none has =
    let l = r.left has.0 has.1 has.2 in by_left l.0 l.2
  where
    by_left : (qs : List Piece) → AreCut g at more b t qs has.1 → ⊥
    by_left [] cut = cut
    by_left (q ∷ []) cut = none q has.1 cut.0
    by_left (q ∷ s ∷ qs) cut = none q cut.0 cut.1

-- the addresses of parts one behind the other
pub addresses-append : (g : Layout) (ps : List Piece) (p : Piece) → addresses g (ps ++ p ∷ []) ≡ addresses g ps ++ range_with_len (block_at g p.at + 1) p.blocks
addresses-append g [] p = append-nil (range_with_len (block_at g p.at + 1) p.blocks)
addresses-append g (q ∷ ps) p =
    ap (λ (l : List ℕ). range_with_len (block_at g q.at + 1) q.blocks ++ l) (addresses-append g ps p)
    ∙ sym (append_assoc (range_with_len (block_at g q.at + 1) q.blocks) (addresses g ps) (range_with_len (block_at g p.at + 1) p.blocks))

-- where the log goes on behind the last of them
pub place_behind-append : (at : LogPlace) (ps : List Piece) (p : Piece) → place_behind at (ps ++ p ∷ []) ≡ p.next
place_behind-append at [] p = refl
place_behind-append at (q ∷ ps) p = place_behind-append q.next ps p

-- they are at most one more than there are blocks and table records
pub few_parts : (g : Layout) (at : LogPlace) (clean : List ℕ) (b t : ℕ) (ps : List Piece) (rest : List ℕ) → IsLogPlace g at → AreClean g at.seg clean → AreCut g at clean b t ps rest → length ps ≤ b + t + 1
few_parts g at clean b t [] rest place cleans none = absurd none
few_parts g at clean b t (p ∷ []) rest place cleans cut = omega arith
few_parts g at clean b t (p ∷ q ∷ ps) rest place cleans cut =
    let then = place_then g at p.blocks clean p.next cut.0 place cleans cut.1.goes in
    let more = few_parts g p.next cut.0 (b - p.blocks) (t - p.tables) (q ∷ ps) rest then.0 then.1 cut.3 in
    let left = cut.2 in
    let some = takes_some g at clean b t p cut.0 place cut.1 (omega arith) in
    omega (arith, cut.1.blocks_are, cut.1.tables_are)

-- one turn of a cut
module _ (g : Layout) (head : LogPlace) (clean : List ℕ) (blocks tables : ℕ) (left behind : Left) (p : Piece) (l : LeavesBehind g left clean p behind) (place : IsLogPlace g left.at)
    (cleans : AreClean g left.at.seg (drop left.used clean)) (done : List Piece) (r : Reached g head clean blocks tables done left.at (drop left.used clean) left.blocks left.tables) where
  turn_next : IsLogPlace g p.next × AreClean g p.next.seg (drop behind.used clean)
  turn_next = place_then g left.at p.blocks (drop left.used clean) p.next (drop behind.used clean) place cleans l.takes.goes

  pub turn_place : IsLogPlace g behind.at
  turn_place = subst (IsLogPlace g) (sym l.at_is) turn_next.0

  pub turn_cleans : AreClean g behind.at.seg (drop behind.used clean)
  turn_cleans = subst (λ (x : LogPlace). AreClean g x.seg (drop behind.used clean)) (sym l.at_is) turn_next.1

  pub turn_more : 0 < behind.blocks + behind.tables → Reached g head clean blocks tables (done ++ p ∷ []) behind.at (drop behind.used clean) behind.blocks behind.tables
  turn_more some =
      let m = reached_more g head clean blocks tables done left.at (drop left.used clean) left.blocks left.tables r p (drop behind.used clean) l.takes place (omega (arith, l.blocks_left, l.tables_left)) in
      subst (λ (x : LogPlace). Reached g head clean blocks tables (done ++ p ∷ []) x (drop behind.used clean) behind.blocks behind.tables) (sym l.at_is)
      (subst (λ (n : ℕ). Reached g head clean blocks tables (done ++ p ∷ []) p.next (drop behind.used clean) n behind.tables) (sym l.blocks_left)
      (subst (λ (n : ℕ). Reached g head clean blocks tables (done ++ p ∷ []) p.next (drop behind.used clean) (left.blocks - p.blocks) n) (sym l.tables_left) m))

  pub turn_last : behind.blocks ≡ 0 → behind.tables ≡ 0 → AreCut g head clean blocks tables (done ++ p ∷ []) (drop behind.used clean)
  turn_last no_blocks no_tables = reached_last g head clean blocks tables done left.at (drop left.used clean) left.blocks left.tables r p (drop behind.used clean) l.takes (sym l.blocks_left ∙ no_blocks) (sym l.tables_left ∙ no_tables)

  pub turn_smaller : 0 < behind.blocks + behind.tables → behind.blocks + behind.tables < left.blocks + left.tables
  turn_smaller some =
      let s = takes_some g left.at (drop left.used clean) left.blocks left.tables p (drop behind.used clean) place l.takes (omega (arith, l.blocks_left, l.tables_left)) in
      omega (arith, l.blocks_left, l.tables_left, l.takes.blocks_are, l.takes.tables_are)

-- the addresses so far, and those of one more part
pub pushed : (g : Layout) (done : List Piece) (p : Piece) (old new : List ℕ) → old ≡ addresses g done → new ≡ old ++ range_with_len (block_at g p.at + 1) p.blocks → new ≡ addresses g (done ++ p ∷ [])
pushed g done p old new so_far more = more ∙ ap (λ (l : List ℕ). l ++ range_with_len (block_at g p.at + 1) p.blocks) so_far ∙ sym (addresses-append g done p)
