-- The file that a path leads to.
use Rattle.std.specs.Prelude.{◌≡◌, ℕ, ◌≤◌, List, Option, Ok, Err}
use Rattle.hl_media.specs.History.{History}
use Rattle.hl_addr.specs.Layout.{Layout}
use Rattle.hl_tree.specs.declared.call.Refusal.{Refusal}
use Rattle.hl_placed.specs.Blocks.{PlacedFile}
use Rattle.hl_paths.specs.ByNumbers.{file_at}
use Rattle.hl_paths.specs.Numbered.{Numbering}
use Rattle.hl_store.specs.Values.{StoreValue, layout}
use Rattle.hl_walk.specs.Trees.{OfTree}
use Rattle.hl_calls.specs.Trees.{site_limits}

-- why a path leads to no file
abbrev pub IsNoFileAt : Layout → List (List ℕ) → Numbering PlacedFile → Refusal → Type 0
IsNoFileAt g path numbered why = file_at (site_limits g) numbered path ≡ Err why

module _ {M : Type 0} where
  -- the file of a number is what a path leads to, and no longer than a file may be
  abbrev pub IsFileAt : (M → Option History) → StoreValue M → List (List ℕ) → ℕ → Type 0
  IsFileAt history v path number = OfTree history v (λ c numbered. (file : PlacedFile)
      × (file_at (site_limits (layout v)) numbered path
      ≡ Ok (record { number = number; content = file }))
      × (file.size ≤ 4243456))
