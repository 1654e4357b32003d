-- The address map names one place for each address, and one address for each place.
use Rattle.std.proofs.Common.{◌≡◌, ◌≢◌, ℕ, List, ◌+◌, ◌-◌, ◌/◌, ◌<◌, ◌≤◌, sum, take, slice_index, inl, inr, refl, sym, ap, ◌∙◌, subst, arith}
use Rattle.std.proofs.lemmas.Bool.{cases_order}
use Rattle.std.proofs.lemmas.Nat.{mod_below}
use Rattle.std.proofs.lemmas.List.Sums.{sum_by-take-le}
use Rattle.hl_addr.specs.Layout.{Layout, IsSegmentSize, IsWithinLimits}
use Rattle.hl_addr.specs.Slots.{HasSlot, slot_number}
use Rattle.hl_addr.specs.Place.{IsAt, LiesIn, slot_segment, top}
use Rattle.hl_addr.specs.declared.place.Place.{Place}
use Rattle.hl_addr.specs.declared.place.Place.TheVariants.{Label, Log, Line, Tertiary, Dead, Nothing}
use Rattle.hl_addr.proofs.SlotLemmas.{take_next, take_later, slots_few}
use Rattle.hl_addr.proofs.SegmentLemmas.{top_is, top_high, address_is}

-- the slots up to a volume leave room below the top
pub room : (g : Layout) → IsWithinLimits g → (v : ℕ) → g.log + g.lines + sum (take v g.volumes) + 131072 < top g
room g ok v =
    omega (arith, top_high g.k ok.segment_size, slots_few g.volumes ok.volume_count.1 ok.slot_counts, sum_by-take-le (λ x. x) g.volumes v, ok.log_count, ok.line_count)

-- a segment has blocks
pub has_blocks : (k : ℕ) → IsSegmentSize k → 0 < k
has_blocks k size = omega arith

-- the segments of slots lie between the lines and the top
pub slot_high : (g : Layout) → IsWithinLimits g → (v s : ℕ) → HasSlot g.volumes v s → slot_segment g v s < top g
slot_high g ok v s has = omega (arith, room g ok (v + 1), take_next g.volumes v has.volume_exists, has.slot_exists)

pub slot_low : (g : Layout) → IsWithinLimits g → (v s : ℕ) → g.log + g.lines < slot_segment g v s
slot_low g ok v s = omega (arith, room g ok (v + 1))

-- a slot's segment lies above those of each later volume
later_below : (g : Layout) → IsWithinLimits g → (v s w t : ℕ) → HasSlot g.volumes w t → v < w → slot_segment g w t < slot_segment g v s
later_below g ok v s w t has h =
    omega (arith, room g ok (w + 1), take_next g.volumes w has.volume_exists, has.slot_exists, take_later g.volumes (v + 1) w (omega arith))

-- two slots with one segment are one
pub slot_only : (g : Layout) → IsWithinLimits g → (v s w t : ℕ) → HasSlot g.volumes v s → HasSlot g.volumes w t → slot_segment g v s ≡ slot_segment g w t → (v ≡ w) × (s ≡ t)
slot_only g ok v s w t one other same =
    elim (cases_order v w) [
      | inl e ↦ (e, omega (arith, same, ap (λ (n : ℕ). sum (take (n + 1) g.volumes)) e))
      | inr (inl lt) ↦ absurd (omega (arith, same, later_below g ok v s w t other lt))
      | inr (inr gt) ↦ absurd (omega (arith, same, later_below g ok w t v s one gt))
    ]

-- the segments that each class has
abbrev Band : Layout → ℕ → Place → Type 0
Band g a (Label _) = a / g.k ≡ 0
Band g a (Log _ _) = (1 ≤ a / g.k) × (a / g.k ≤ g.log)
Band g a (Line _ _) = (g.log < a / g.k) × (a / g.k ≤ g.log + g.lines)
Band g a (Tertiary _ _ _) = (g.log + g.lines < a / g.k) × (a / g.k < top g)
Band g a Dead = (g.log + g.lines < a / g.k) × (a ≢ 4294967295)
Band g a Nothing = (a / g.k ≡ top g) × (a ≡ 4294967295)

band : (g : Layout) → IsWithinLimits g → (a : ℕ) (p : Place) → IsAt g a p → Band g a p
band g ok a (Label b) is = is.segment_is
band g ok a (Log s b) is = (omega (arith, is.2.segment_is), omega (arith, is.2.segment_is))
band g ok a (Line l b) is = (omega (arith, is.1.segment_is), omega (arith, is.1.segment_is))
band g ok a (Tertiary v s b) is = (omega (arith, is.1.segment_is, slot_low g ok v s), omega (arith, is.1.segment_is, slot_high g ok v s is.0))
band g ok a Dead is = (is.behind_lines, is.is_some)
band g ok a Nothing is = (ap (λ (n : ℕ). n / g.k) is ∙ top_is g.k ok.segment_size, is)

-- one place stands at an address
pub place_only : (g : Layout) → IsWithinLimits g → (a : ℕ) (p q : Place) → IsAt g a p → IsAt g a q → p ≡ q
place_only g ok a (Label b) (Label c) one other = ap Label (sym one.block_is ∙ other.block_is)
place_only g ok a (Log s b) (Log t c) one other =
    let seg : s ≡ t = sym one.2.segment_is ∙ other.2.segment_is in
    let block : b ≡ c = sym one.2.block_is ∙ other.2.block_is in
    cc
place_only g ok a (Line s b) (Line t c) one other =
    let line : s ≡ t = omega (arith, one.1.segment_is, other.1.segment_is) in
    let block : b ≡ c = sym one.1.block_is ∙ other.1.block_is in
    cc
place_only g ok a (Tertiary v s b) (Tertiary w t c) one other =
    let slots : (v ≡ w) × (s ≡ t) = slot_only g ok v s w t one.0 other.0 (sym one.1.segment_is ∙ other.1.segment_is) in
    let volume : v ≡ w = slots.0 in
    let slot : s ≡ t = slots.1 in
    let block : b ≡ c = sym one.1.block_is ∙ other.1.block_is in
    cc
place_only g ok a Dead Dead one other = refl
place_only g ok a Nothing Nothing one other = refl
place_only g ok a (Tertiary v s b) Dead one other = absurd (other.in_no_slot v s one.0 one.1.segment_is)
place_only g ok a Dead (Tertiary v s b) one other = absurd (one.in_no_slot v s other.0 other.1.segment_is)
place_only g ok a p q one other = absurd (omega (arith, band g ok a p one, band g ok a q other, room g ok 0))

-- one address has a place
pub address_only : (g : Layout) (a b : ℕ) (p : Place) → p ≢ Dead → IsAt g a p → IsAt g b p → a ≡ b
address_only g a b (Label c) _ one other = address_is g a 0 c one ∙ sym (address_is g b 0 c other)
address_only g a b (Log s c) _ one other = address_is g a s c one.2 ∙ sym (address_is g b s c other.2)
address_only g a b (Line l c) _ one other = address_is g a (g.log + 1 + l) c one.1 ∙ sym (address_is g b (g.log + 1 + l) c other.1)
address_only g a b (Tertiary v s c) _ one other = address_is g a (slot_segment g v s) c one.1 ∙ sym (address_is g b (slot_segment g v s) c other.1)
address_only g a b Dead lives one other = absurd (lives refl)
address_only g a b Nothing _ one other = one ∙ sym other

-- what stands at an address lies in the site
pub at_lies : (g : Layout) → IsWithinLimits g → (a : ℕ) (p : Place) → p ≢ Dead → IsAt g a p → LiesIn g p
at_lies g ok a (Label b) _ is = subst (λ (n : ℕ). n < g.k) is.block_is (mod_below a g.k (has_blocks g.k ok.segment_size))
at_lies g ok a (Log s b) _ is = (is.0, is.1, subst (λ (n : ℕ). n < g.k) is.2.block_is (mod_below a g.k (has_blocks g.k ok.segment_size)))
at_lies g ok a (Line l b) _ is = (is.0, subst (λ (n : ℕ). n < g.k) is.1.block_is (mod_below a g.k (has_blocks g.k ok.segment_size)))
at_lies g ok a (Tertiary v s b) _ is = (is.0, subst (λ (n : ℕ). n < g.k) is.1.block_is (mod_below a g.k (has_blocks g.k ok.segment_size)))
at_lies g ok a Dead lives is = absurd (lives refl)
at_lies g ok a Nothing _ is = tt

-- the slot of a segment, from its number among all slots
pub slot_found :
    (g : Layout) (vs ws : List ℕ) (segment v above t : ℕ)
    → IsWithinLimits g → vs ≡ g.volumes → ws ≡ g.volumes → t ≡ top g → segment ≤ top g → segment ≢ t
    → HasSlot vs v above × (slot_number vs v above ≡ t - segment - 1)
    → HasSlot g.volumes v (slice_index ws v - 1 - above) × (segment ≡ slot_segment g v (slice_index ws v - 1 - above))
slot_found g vs ws segment v above t ok volumes again last low not_last found =
    let has : HasSlot g.volumes v above = subst (λ (l : List ℕ). HasSlot l v above) volumes found.0 in
    let number : slot_number g.volumes v above ≡ t - segment - 1 = subst (λ (l : List ℕ). slot_number l v above ≡ t - segment - 1) volumes found.1 in
    let slots : slice_index ws v ≡ slice_index g.volumes v = ap (λ (l : List ℕ). slice_index l v) again in (
      record { volume_exists = has.volume_exists; slot_exists = omega (arith, has.slot_exists, slots) },
      omega (arith, has.slot_exists, slots, number, last, low, not_last, take_next g.volumes v has.volume_exists, room g ok (v + 1)),
    )
