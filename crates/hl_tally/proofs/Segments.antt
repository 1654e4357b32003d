-- The live numbers of the log's segments, as blocks are let go.
use Rattle.std.proofs.Common.{◌≡◌, ◌≢◌, true≢false, inl, inr, ℕ, ◌-◌, ◌/◌, ◌%◌, ◌≤◌, Bool, true, false, List, length, length-set, refl, sym, ◌∙◌, ap, subst, arith}
use Rattle.std.specs.Prelude.{if◌then◌else◌, nat_le, slice_index, slice_set}
use Rattle.std.proofs.lemmas.Bool.{cases_eq, and_parts, and_from, le-leb, leb-true}
use Rattle.std.proofs.lemmas.List.{get_or-set_same, get_or-set_other}
use Rattle.hl_addr.specs.Layout.{Layout}
use Rattle.hl_nodes.specs.Live.{LiveBlock}
use Rattle.hl_image.specs.Places.{InLog}
use Rattle.hl_tally.specs.Tally.{HasCount}
use Rattle.hl_tally.specs.Counting.{is_logged, removed}
use Rattle.hl_tally.proofs.Counts.{count_same, count_less}

pub logged_within : (k n a : ℕ) → is_logged k n a ≡ true → (1 ≤ a / k) × (a / k ≤ n)
logged_within k n a is = (let p = and_parts (nat_le 1 (a / k)) (nat_le (a / k) n) is in (leb-true 1 (a / k) p.0, leb-true (a / k) n p.1))

pub within_logged : (k n a : ℕ) → 1 ≤ a / k → a / k ≤ n → is_logged k n a ≡ true
within_logged k n a low high = and_from (nat_le 1 (a / k)) (nat_le (a / k) n) (le-leb 1 (a / k) low) (le-leb (a / k) n high)

-- an address is logged exactly where it is one of the log
pub logged_in : (g : Layout) (a : ℕ) → is_logged g.k g.log a ≡ true → InLog g a
logged_in g a is = (let w = logged_within g.k g.log a is in record { segment = a / g.k; block = a % g.k; place = (w.0, w.1, record { segment_is = refl; block_is = refl }) })

pub in_logged : (g : Layout) (a : ℕ) → InLog g a → is_logged g.k g.log a ≡ true
in_logged g a at = (let p = at.place in let s = p.2.segment_is in within_logged g.k g.log a (subst (λ (x : ℕ). 1 ≤ x) (sym s) p.0) (subst (λ (x : ℕ). x ≤ g.log) (sym s) p.1))

-- a block that lies at an address and is counted there
pub record CountsIn (k : ℕ) (Q : LiveBlock → ℕ → Type 0) (segment : ℕ) (x : LiveBlock) : Type 0 where
  pub address : ℕ
  pub is : Q x address
  pub within : address / k ≡ segment

-- each number is the count of its segment
abbrev pub AreCounted : ℕ → (LiveBlock → ℕ → Type 0) → List ℕ → Type 0
AreCounted k Q live = (segment : ℕ) → 1 ≤ segment → segment ≤ length live → HasCount (CountsIn k Q segment) (slice_index live (segment - 1))

-- all of them but one block
abbrev pub Without : LiveBlock → (LiveBlock → ℕ → Type 0) → LiveBlock → ℕ → Type 0
Without y Q x a = Q x a × (x ≢ y)

pub recounted : (k : ℕ) (Q R : LiveBlock → ℕ → Type 0) (live : List ℕ) → ((x : LiveBlock) (a : ℕ) → Q x a → R x a) → ((x : LiveBlock) (a : ℕ) → R x a → Q x a) → AreCounted k Q live → AreCounted k R live
recounted k Q R live to from counted segment low high =
    count_same (CountsIn k Q segment) (CountsIn k R segment) (slice_index live (segment - 1))
    (λ x c. record { address = c.address; is = to x c.address c.is; within = c.within })
    (λ x c. record { address = c.address; is = from x c.address c.is; within = c.within }) (counted segment low high)

module _ (k : ℕ) (Q : LiveBlock → ℕ → Type 0) (y : LiveBlock) where
  -- a block that wasn't counted
  pub let_none : (live : List ℕ) → ((a : ℕ) → Q y a → ⊥) → AreCounted k Q live → AreCounted k (Without y Q) live
  let_none live none = recounted k Q (Without y Q) live (λ x a q. (q, λ e. none a (subst (λ (z : LiveBlock). Q z a) e q))) (λ x a w. w.0)

  module _ (live : List ℕ) (address : ℕ) (only : (a : ℕ) → Q y a → a ≡ address) (counted : AreCounted k Q live) where
    -- in the segment of the block, and in another
    there : (segment n : ℕ) → segment ≡ address / k → Q y address → HasCount (CountsIn k Q segment) n → HasCount (CountsIn k (Without y Q) segment) (n - 1)
    there segment n s is = count_less (CountsIn k Q segment) (CountsIn k (Without y Q) segment) y
        (λ x c ne. record { address = c.address; is = (c.is, ne); within = c.within })
        (λ x c. (record { address = c.address; is = c.is.0; within = c.within }, c.is.1))
        n (record { address = address; is = is; within = sym s })

    other : (segment n : ℕ) → segment ≢ address / k → HasCount (CountsIn k Q segment) n → HasCount (CountsIn k (Without y Q) segment) n
    other segment n s = count_same (CountsIn k Q segment) (CountsIn k (Without y Q) segment) n
        (λ x c. record { address = c.address; is = (c.is, λ e. s (sym c.within ∙ ap (λ (a : ℕ). a / k) (only c.address (subst (λ (z : LiveBlock). Q z c.address) e c.is)))); within = c.within })
        (λ x c. record { address = c.address; is = c.is.0; within = c.within })

    in_log : is_logged k (length live) address ≡ true → Q y address → AreCounted k (Without y Q) (slice_set live (address / k - 1) (slice_index live (address / k - 1) - 1))
    in_log logged is segment low high =
        let w = logged_within k (length live) address logged in
        let w0 = w.0 in
        let w1 = w.1 in
        let place = address / k - 1 in
        let less = slice_index live place - 1 in
        let top : segment ≤ length live = subst (λ (x : ℕ). segment ≤ x) (length-set live place less) high in
        let whole : HasCount (CountsIn k Q segment) (slice_index live (segment - 1)) = counted segment low top in
        elim (cases_eq segment (address / k)) [
          | inl e ↦ (
              let at : segment - 1 ≡ place = ap (λ (x : ℕ). x - 1) e in
              let now : slice_index (slice_set live place less) (segment - 1) ≡ slice_index live (segment - 1) - 1 =
              ap (slice_index (slice_set live place less)) at ∙ get_or-set_same live place less 0 (omega arith) ∙ ap (λ (x : ℕ). slice_index live x - 1) (sym at) in
              subst (λ (x : ℕ). HasCount (CountsIn k (Without y Q) segment) x) (sym now) (there segment (slice_index live (segment - 1)) e is whole))
          | inr ne ↦ (
              let apart : segment - 1 ≢ place = λ e. ne (omega arith) in
              subst (λ (x : ℕ). HasCount (CountsIn k (Without y Q) segment) x) (sym (get_or-set_other live place (segment - 1) less 0 apart)) (other segment (slice_index live (segment - 1)) ne whole))
        ]

    elsewhere : is_logged k (length live) address ≡ false → AreCounted k (Without y Q) live
    elsewhere out segment low high = other segment (slice_index live (segment - 1)) (λ e. never (within_logged k (length live) address (subst (λ (x : ℕ). 1 ≤ x) e low) (subst (λ (x : ℕ). x ≤ length live) e high))) (counted segment low high)
      where
        never : is_logged k (length live) address ≡ true → ⊥
        never logged = true≢false (sym logged ∙ out)

    -- a block that was counted at its address, if that is one of the log
    pub let_go : (is_logged k (length live) address ≡ true → Q y address) → AreCounted k (Without y Q) (removed k live address)
    let_go here = by (is_logged k (length live) address) refl
      where
        by : (b : Bool) → is_logged k (length live) address ≡ b → AreCounted k (Without y Q) (if b then slice_set live (address / k - 1) (slice_index live (address / k - 1) - 1) else live)
        by true e = in_log e (here e)
        by false e = elsewhere e

-- removing changes no other length
pub length-removed : (k : ℕ) (live : List ℕ) (address : ℕ) → length (removed k live address) ≡ length live
length-removed k live address = by (is_logged k (length live) address)
  where
    by : (b : Bool) → length (if b then slice_set live (address / k - 1) (slice_index live (address / k - 1) - 1) else live) ≡ length live
    by true = length-set live (address / k - 1) (slice_index live (address / k - 1) - 1)
    by false = refl
