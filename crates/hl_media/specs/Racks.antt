-- The places of a rack, by the numbers of their volumes.
use Rattle.std.specs.Prelude.{ℕ, zero, suc, List, [], ◌∷◌, map, All, Option, Some, None, option_map, IsSome, slice_index, slice_set}
use Rattle.hl_media.specs.declared.bay.Bay.{Bay}
use Rattle.hl_media.specs.declared.bay.Bay.TheVariants.{Holds, Empty}
use Rattle.hl_media.specs.declared.loaded.Loaded.{Loaded}

-- the volume that is in the place
abbrev pub volume_in : {V : Type 0} → Bay V → Option V
volume_in (Holds volume) = Some volume
volume_in (Empty slots) = None

-- the volume of this number, where it is in its place
abbrev pub volume_at : {V : Type 0} → List (Bay V) → ℕ → Option V
volume_at [] n = None
volume_at (bay ∷ bays) zero = volume_in bay
volume_at (bay ∷ bays) (suc n) = volume_at bays n

-- how many slots the place's volume has, wherever it is
abbrev pub bay_slots : {V : Type 0} → (V → ℕ) → Bay V → ℕ
bay_slots slots (Holds volume) = slots volume
bay_slots slots (Empty count) = count

-- the slots of each volume
abbrev pub rack_slots : {V : Type 0} → (V → ℕ) → List (Bay V) → List ℕ
rack_slots slots bays = map (bay_slots slots) bays

-- no volume is out
abbrev pub AllIn : {V : Type 0} → List (Bay V) → Type 0
AllIn bays = All (λ bay. IsSome (volume_in bay)) bays

-- the volume of this number as it leaves, or none where it is out
abbrev pub loaded_at : {V : Type 0} → List (Bay V) → ℕ → Option (Loaded V)
loaded_at bays n = option_map (λ volume. record { number = n; volume = volume }) (volume_at bays n)

-- the places after the volume of this number has left
abbrev pub emptied : {V : Type 0} → (V → ℕ) → List (Bay V) → ℕ → List (Bay V)
emptied slots bays n = slice_set bays n (Empty (slice_index (rack_slots slots bays) n))

-- the places after the volume has come back
abbrev pub filled : {V : Type 0} → List (Bay V) → Loaded V → List (Bay V)
filled bays loaded = slice_set bays loaded.number (Holds loaded.volume)
