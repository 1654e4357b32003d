-- The open slots of the volumes up to one.
use Rattle.std.proofs.Common.{◌≡◌, ◌≢◌, ℕ, ◌+◌, ◌-◌, ◌<◌, ◌≤◌, List, length, sum, take, slice_get, slice_index, Some, false, inl, inr, ap, subst, arith}
use Rattle.std.proofs.lemmas.Bool.{cases_order, cases_lt}
use Rattle.std.proofs.lemmas.List.{take_all}
use Rattle.std.proofs.lemmas.List.Sums.{sum_by_more_le}
use Rattle.hl_addr.proofs.SlotLemmas.{take_next, take_later, before_later, number_below, slots_few}
use Rattle.hl_tseg.specs.declared.slot.Slot.TheVariants.{Free}
use Rattle.hl_tseg.specs.SlotTable.{SlotTable, IsSlotTable, IsOpen}

-- the slots of a volume are there, and few
pub reaches : (t : SlotTable) (items : List ℕ) (v first : ℕ) → IsSlotTable t → items ≡ t.volumes → v < length t.volumes → first ≡ sum (take v t.volumes)
    → (first + slice_index items v ≤ length t.slots) × (first + slice_index items v ≤ 131072)
reaches t items v first ok same there so_far =
    let own : slice_index items v ≡ slice_index t.volumes v = ap (λ (l : List ℕ). slice_index l v) same in
    let within : first + slice_index items v ≤ sum t.volumes = omega (arith, own, so_far, sum_by_more_le (λ x. x) t.volumes v 0 there) in
    (omega (arith, within, ok.each_slot), omega (arith, within, slots_few t.volumes ok.volume_count.1 ok.slot_counts))

-- the slots up to the end of a volume
pub so_far_more : (t : SlotTable) (items : List ℕ) (v first : ℕ) → items ≡ t.volumes → v < length t.volumes → first ≡ sum (take v t.volumes) → first + slice_index items v ≡ sum (take (v + 1) t.volumes)
so_far_more t items v first same there so_far =
    let own : slice_index items v ≡ slice_index t.volumes v = ap (λ (l : List ℕ). slice_index l v) same in
    omega (arith, own, so_far, take_next t.volumes v there)

-- no slot up to the end of a volume is open, where none before it is and none of its own
pub passed_more :
    (t : SlotTable) (items : List ℕ) (v first : ℕ)
    → items ≡ t.volumes → v < length t.volumes → first ≡ sum (take v t.volumes)
    → ((number : ℕ) → number < first → ¬ IsOpen t number)
    → ((number : ℕ) → first ≤ number → number < first + slice_index items v → slice_get t.slots number ≡ Some Free → slice_get t.full v ≡ Some false → ⊥)
    → (number : ℕ) → number < first + slice_index items v → ¬ IsOpen t number
passed_more t items v first same there so_far before closed number below is =
    let own : slice_index items v ≡ slice_index t.volumes v = ap (λ (l : List ℕ). slice_index l v) same in
    elim (cases_order is.volume v) [
      | inl here ↦
          closed
          number
          (omega (arith, is.numbered, so_far, ap (λ (n : ℕ). sum (take n t.volumes)) here))
          below
          is.free
          (subst (λ (n : ℕ). slice_get t.full n ≡ Some false) here is.not_full)
      | inr (inl lower) ↦ before number (omega (arith, is.numbered, so_far, before_later t.volumes is.volume is.place v is.exists lower)) is
      | inr (inr higher) ↦
          absurd (omega (arith, is.numbered, so_far, own, below, take_next t.volumes v there, take_later t.volumes (v + 1) is.volume (omega arith)))
    ]

-- the first free slot of a volume that isn't full is open
pub found_open :
    (t : SlotTable) (items : List ℕ) (v first number : ℕ)
    → items ≡ t.volumes → v < length t.volumes → first ≡ sum (take v t.volumes)
    → (first ≤ number) × (number < first + slice_index items v) × (slice_get t.slots number ≡ Some Free) × (slice_get t.full v ≡ Some false)
    → IsOpen t number
found_open t items v first number same there so_far found =
    let own : slice_index items v ≡ slice_index t.volumes v = ap (λ (l : List ℕ). slice_index l v) same in
    record {
      volume = v;
      place = number - first;
      exists = record { volume_exists = there; slot_exists = omega (arith, own, found.0, found.1) };
      numbered = omega (arith, so_far, found.0);
      free = found.2;
      not_full = found.3;
    }

-- no slot before it is open
pub found_first :
    (t : SlotTable) (items : List ℕ) (v first number : ℕ)
    → items ≡ t.volumes → v < length t.volumes → first ≡ sum (take v t.volumes) → number < first + slice_index items v
    → ((other : ℕ) → other < first → ¬ IsOpen t other)
    → ((other : ℕ) → first ≤ other → other < number → slice_get t.slots other ≢ Some Free)
    → (other : ℕ) → other < number → ¬ IsOpen t other
found_first t items v first number same there so_far within before none other below is =
    elim (cases_lt other first) [
      | inl lower ↦ before other lower is
      | inr past ↦ none other past below is.free
    ]

-- none of the slots is open, where none up to the last volume's end is
pub none_open : (t : SlotTable) (v first : ℕ) → IsSlotTable t → length t.volumes ≤ v → first ≡ sum (take v t.volumes) → ((number : ℕ) → number < first → ¬ IsOpen t number) → (number : ℕ) → ¬ IsOpen t number
none_open t v first ok all so_far passed number is =
    passed number (omega (arith, is.numbered, so_far, number_below t.volumes is.volume is.place is.exists, ap sum (take_all v t.volumes all))) is
