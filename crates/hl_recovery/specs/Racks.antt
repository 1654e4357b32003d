-- A rack beside the volumes of a record.
use Rattle.std.specs.Prelude.{◌≡◌, ◌≢◌, ℕ, ◌<◌, List, slice_get}

-- this is the first volume whose slots differ, or that one of both lacks
pub record DifferFirstAt (volumes rack : List ℕ) (volume : ℕ) : Type 0 where
  pub here : slice_get rack volume ≢ slice_get volumes volume
  pub before : (i : ℕ) → i < volume → slice_get rack i ≡ slice_get volumes i
