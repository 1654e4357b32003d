-- How far parts reach in a segment, and how they raise the tertiary serial.
use Rattle.std.proofs.Common.{◌≡◌, ◌⊎◌, inl, inr, ⊎_elim, ℕ, ◌+◌, ◌-◌, ◌*◌, ◌^◌, ◌<◌, ◌≤◌, Bool, true, false, List, [], ◌∷◌, length, refl, sym, ◌∙◌, ap, subst, arith}
use Rattle.std.specs.Prelude.{max, min, ◌==◌, if◌then◌else◌}
use Rattle.std.specs.List.{fold}
use Rattle.std.proofs.Math.Nat.{le-max_left}
use Rattle.std.proofs.lemmas.Bool.{cases_lt, eqb-true, eq-eqb}
use Rattle.hl_addr.specs.Layout.{Layout}
use Rattle.hl_bytes.specs.declared.records.TableRecord.{TableRecord}
use Rattle.hl_summary.specs.declared.parts.Summary.{Summary}
use Rattle.hl_image.specs.declared.place.LogPlace.{LogPlace}
use Rattle.hl_image.specs.declared.chain.ChainPart.{ChainPart}
use Rattle.hl_image.specs.Parts.{next_of}
use Rattle.hl_image.specs.Chain.{Covers, placed}
use Rattle.hl_image.proofs.ChainLemmas.{apart}
use Rattle.hl_nodes.specs.Tables.{raised, parts_raised}
use Rattle.hl_recovery.specs.Chains.{AreSummaries}
use Rattle.hl_nodes.specs.Covering.{IsCoveredTo}
use Rattle.hl_recovery.specs.Covering.{reach}

module _ (g : Layout) (seg : ℕ) where
  -- from where a reach begins, n is how far it goes with these parts
  record ReachesFrom (a : ℕ) (at : LogPlace) (ps : List Summary) (n : ℕ) : Type 0 where
    pub least : a ≤ n
    pub within : (b : ℕ) → b < g.k → Covers g at ps (g.k * seg + b) → b < n
    pub reached : (n ≡ a) ⊎ ((b : ℕ) × (n ≡ b + 1) × (b < g.k) × Covers g at ps (g.k * seg + b))

  module _ (at : LogPlace) (s : Summary) (ps : List Summary) (room : at.block + length s.blocks + 1 ≤ g.k) (a next n : ℕ) (later : ReachesFrom next (next_of s) ps n) where
    here_reached : at.seg ≡ seg → next ≡ max a (at.block + 1 + length s.blocks) → (n ≡ next) → (n ≡ a) ⊎ ((b : ℕ) × (n ≡ b + 1) × (b < g.k) × Covers g at (s ∷ ps) (g.k * seg + b))
    here_reached same is stays = ⊎_elim
        (λ lt. inr (at.block + length s.blocks, omega arith, omega arith, (let e : g.k * at.seg ≡ g.k * seg = ap (λ (m : ℕ). g.k * m) same in inl (omega arith, omega arith))))
        (λ le. inl (omega arith))
        (cases_lt a (at.block + 1 + length s.blocks))

    by_place : (here : Bool) → (here ≡ true → at.seg ≡ seg) → (here ≡ false → at.seg ≡ seg → ⊥) → next ≡ (if here then max a (at.block + 1 + length s.blocks) else a) → ReachesFrom a at (s ∷ ps) n
    by_place true same other is =
        let e : g.k * at.seg ≡ g.k * seg = ap (λ (m : ℕ). g.k * m) (same refl) in
        record {
          least = omega (arith, later.least);
          within = λ b lt covers. ⊎_elim (λ own. (let lo = own.0 in let hi = own.1 in omega (arith, later.least))) (λ more. later.within b lt more) covers;
          reached = ⊎_elim (here_reached (same refl) is) (λ more. inr (more.0, more.1, more.2, inr more.3)) later.reached;
        }
    by_place false same other is = record {
      least = omega (arith, later.least);
      within = λ b lt covers. ⊎_elim
          (λ own. (let lo = own.0 in let hi = own.1 in absurd (apart g at.seg seg (g.k * seg + b) (other refl) (omega arith) (omega arith) (omega arith) (omega arith))))
          (λ more. later.within b lt more) covers;
      reached = ⊎_elim (λ stays. inl (stays ∙ is)) (λ more. inr (more.0, more.1, more.2, inr more.3)) later.reached;
    }

  reaches : (a : ℕ) (at : LogPlace) (ps : List Summary) → AreSummaries g at ps → ReachesFrom a at ps (fold (reach seg) a (placed at ps))
  reaches a at [] are = record { least = omega arith; within = λ b lt none. absurd none; reached = inl refl }
  reaches a at (s ∷ ps) are =
      let within = are.0.ranges.within in
      let p : ChainPart = record { seg = at.seg; block = at.block; summary = s } in
      by_place at s ps within a (reach seg a p) (fold (reach seg) (reach seg a p) (placed (next_of s) ps)) (reaches (reach seg a p) (next_of s) ps are.1)
      (at.seg == seg) (λ e. eqb-true at.seg seg e) (λ e same. absurd (let f = eq-eqb at.seg seg same in cc)) refl

  -- the parts of a chain cover the segment so far
  pub covered_to : (at : LogPlace) (ps : List Summary) (n : ℕ) → AreSummaries g at ps → n ≡ fold (reach seg) 0 (placed at ps) → IsCoveredTo g at ps seg n
  covered_to at ps n are is =
      let r = reaches 0 at ps are in
      subst (IsCoveredTo g at ps seg) (sym is) (record { within = r.within; reached = r.reached })

-- the tertiary serial never falls
raised_by : (here : Bool) (next m : ℕ) → next ≤ (if here then max next m else next)
raised_by true next m = le-max_left next m
raised_by false next m = omega arith

raised_all : (next : ℕ) (rs : List TableRecord) → next ≤ fold raised next rs
raised_all next [] = omega arith
raised_all next (r ∷ rs) =
    let one : next ≤ raised next r = raised_by (r.kind == 2) next (min (r.serial + 1) (2 ^ 64 - 1)) in
    let more = raised_all (raised next r) rs in
    omega (arith, one, more)

pub parts_raise_to : (next : ℕ) (ps : List Summary) → next ≤ parts_raised next ps
parts_raise_to next [] = omega arith
parts_raise_to next (s ∷ ps) =
    let one = raised_all next s.tables in
    let more = parts_raise_to (fold raised next s.tables) ps in
    omega (arith, one, more)
