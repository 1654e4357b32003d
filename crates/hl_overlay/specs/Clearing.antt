-- Where drafts stand, while the table of places is written.
use Rattle.std.specs.Prelude.{◌≡◌, ◌≢◌, ℕ, ◌<◌, List, length, slice_get, slice_index, Some}
use Rattle.hl_overlay.specs.declared.draft.NodeDraft.{NodeDraft}

-- the numbers of the drafts before this one stand nowhere, and one that stood nowhere still does
pub record IsClearedTo (end : ℕ) (items : List NodeDraft) (old places : List ℕ) : Type 0 where
  pub count : length places ≡ length old
  pub before : (k : ℕ) (d : NodeDraft) → k < end → slice_get items k ≡ Some d → slice_index places d.ino ≡ 18446744073709551615
  pub nowhere : (q : ℕ) → slice_index old q ≡ 18446744073709551615 → slice_index places q ≡ 18446744073709551615

-- no two drafts have one number
abbrev pub HaveOwnNumbers : List NodeDraft → Type 0
HaveOwnNumbers items = (j k : ℕ) (d e : NodeDraft) → j < k → slice_get items j ≡ Some d → slice_get items k ≡ Some e → d.ino ≢ e.ino

-- the drafts before this one stand at their places, and each other number stands where it stood
pub record IsPlacedTo (end : ℕ) (items : List NodeDraft) (old places : List ℕ) : Type 0 where
  pub count : length places ≡ length old
  pub before : (k : ℕ) (d : NodeDraft) → k < end → slice_get items k ≡ Some d → slice_index places d.ino ≡ k
  pub others : (q : ℕ) → ((k : ℕ) (d : NodeDraft) → slice_get items k ≡ Some d → d.ino ≢ q) → slice_index places q ≡ slice_index old q
