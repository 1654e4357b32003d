-- Which volumes are in their places, and how many slots each has.
use Rattle.std.proofs.Common.{rules, ◌≡◌, ◌≢◌, ℕ, zero, suc, ◌<◌, List, [], ◌∷◌, length, map, Some, refl, sym, ap, arith, slice_index, slice_set}
use Rattle.std.specs.Prelude.{slice_get, slice_index_or}
use Rattle.hl_media.specs.declared.bay.Bay.{Bay}
use Rattle.hl_media.specs.declared.bay.Bay.TheVariants.{Holds, Empty}
use Rattle.hl_media.specs.declared.loaded.Loaded.{Loaded}
use Rattle.hl_media.specs.Racks.{AllIn, bay_slots, emptied, filled, rack_slots, volume_at, volume_in}

module _ {V : Type 0} where
  -- the volume of a place that is known
  pub volume_at_place : (bays : List (Bay V)) (n : ℕ) (bay : Bay V) → n < length bays → bay ≡ slice_index_or bays n bay → volume_at bays n ≡ volume_in bay
  volume_at_place [] n bay lt is = absurd (omega arith)
  volume_at_place (b ∷ bays) zero bay lt is = ap volume_in (sym is)
  volume_at_place (b ∷ bays) (suc n) bay lt is = volume_at_place bays n bay (omega arith) is

  -- a place that is written
  pub volume_at-set_same : (bays : List (Bay V)) (n : ℕ) (bay : Bay V) → n < length bays → volume_at (slice_set bays n bay) n ≡ volume_in bay
  volume_at-set_same [] n bay lt = absurd (omega arith)
  volume_at-set_same (b ∷ bays) zero bay lt = refl
  volume_at-set_same (b ∷ bays) (suc n) bay lt = volume_at-set_same bays n bay (omega arith)

  -- and all others
  pub volume_at-set_other : (bays : List (Bay V)) (n k : ℕ) (bay : Bay V) → k ≢ n → volume_at (slice_set bays n bay) k ≡ volume_at bays k
  volume_at-set_other [] n k bay ne = refl
  volume_at-set_other (b ∷ bays) zero zero bay ne = absurd (ne refl)
  volume_at-set_other (b ∷ bays) zero (suc k) bay ne = refl
  volume_at-set_other (b ∷ bays) (suc n) zero bay ne = refl
  volume_at-set_other (b ∷ bays) (suc n) (suc k) bay ne = volume_at-set_other bays n k bay (λ e. ne (ap suc e))

  -- a place whose volume has as many slots as the one before
  pub rack_slots-set : (slots : V → ℕ) (bays : List (Bay V)) (n : ℕ) (bay : Bay V) → bay_slots slots bay ≡ slice_index (rack_slots slots bays) n → rack_slots slots (slice_set bays n bay) ≡ rack_slots slots bays
  rack_slots-set slots [] n bay same = refl
  rack_slots-set slots (b ∷ bays) zero bay same = ap (λ (k : ℕ). k ∷ rack_slots slots bays) same
  rack_slots-set slots (b ∷ bays) (suc n) bay same = ap (λ (l : List ℕ). bay_slots slots b ∷ l) (rack_slots-set slots bays n bay same)

  -- the slots stay as a volume leaves
  pub rack_slots-emptied : (slots : V → ℕ) (bays : List (Bay V)) (n : ℕ) → rack_slots slots (emptied slots bays n) ≡ rack_slots slots bays
  rack_slots-emptied slots bays n = rack_slots-set slots bays n _ refl

  -- and as it comes back
  pub rack_slots-filled : (slots : V → ℕ) (bays : List (Bay V)) (loaded : Loaded V) → slots loaded.volume ≡ slice_index (rack_slots slots bays) loaded.number → rack_slots slots (filled bays loaded) ≡ rack_slots slots bays
  rack_slots-filled slots bays loaded same = rack_slots-set slots bays loaded.number (Holds loaded.volume) same

  -- a volume that leaves has the slots that the rack knows
  pub slots_of_taken : (slots : V → ℕ) (bays : List (Bay V)) (n : ℕ) (volume : V) → volume_at bays n ≡ Some volume → slots volume ≡ slice_index (rack_slots slots bays) n
  slots_of_taken slots [] n volume is = cc
  slots_of_taken slots (Holds v ∷ bays) zero volume is = let same : v ≡ volume = cc in ap slots (sym same)
  slots_of_taken slots (Empty count ∷ bays) zero volume is = cc
  slots_of_taken slots (b ∷ bays) (suc n) volume is = slots_of_taken slots bays n volume is

  -- a new rack has each volume under its number, with its slots
  pub volume_at_new : (volumes : List V) (n : ℕ) → volume_at (map Holds volumes) n ≡ slice_get volumes n
  volume_at_new [] n = refl
  volume_at_new (v ∷ volumes) zero = refl
  volume_at_new (v ∷ volumes) (suc n) = volume_at_new volumes n

  pub rack_slots_new : (slots : V → ℕ) (volumes : List V) → rack_slots slots (map Holds volumes) ≡ map slots volumes
  rack_slots_new slots [] = refl
  rack_slots_new slots (v ∷ volumes) = ap (λ (l : List ℕ). slots v ∷ l) (rack_slots_new slots volumes)

  pub all_in_new : (volumes : List V) → AllIn (map Holds volumes)
  all_in_new [] n bay lt = absurd (omega arith)
  all_in_new (v ∷ volumes) zero bay lt = search rules
  all_in_new (v ∷ volumes) (suc n) bay lt = all_in_new volumes n bay (omega arith)
