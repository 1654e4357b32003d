-- What a file call makes of the files that a store has.
use Rattle.std.specs.Prelude.{◌≡◌, ℕ, ◌-◌, true, false, Option}
use Rattle.hl_media.specs.History.{History}
use Rattle.hl_addr.specs.Layout.{quota}
use Rattle.hl_tree.specs.declared.call.Call.{Call}
use Rattle.hl_tree.specs.declared.call.Reply.{Reply}
use Rattle.hl_tree.specs.Rules as rules
use Rattle.hl_placed.specs.Blocks.{PlacedFile, Shelf}
use Rattle.hl_placed.specs.Calls.{accepts, need, placed_after}
use Rattle.hl_placed.specs.Charges.{is_over}
use Rattle.hl_placed.specs.Placed.{ArePlaced, PlacedTree, plain}
use Rattle.hl_paths.specs.Free.{AreUpTo}
use Rattle.hl_paths.specs.Numbered.{IsTreeOf, Numbering}
use Rattle.hl_nodes.specs.Contents.{Contents}
use Rattle.hl_store.specs.Values.{StoreValue, layout}
use Rattle.hl_store.specs.Finding.{OverNow}
use Rattle.hl_ranges.specs.Files.{LinesShow}
use Rattle.hl_ranges.specs.Needs.{IsFirstMissing}
use Rattle.hl_walk.specs.Trees.{AreKnown}
use Rattle.hl_calls.specs.declared.step.FileStep.{FileStep}
use Rattle.hl_calls.specs.declared.step.FileStep.TheVariants as step
use Rattle.hl_calls.specs.Trees.{site_limits}

module _ {M : Type 0} where
  -- the nodes that a store has now, with the last uses that it knows, are this tree of files that the shelf places, under
  -- numbers of the site
  pub record HasFilesNow (v : StoreValue M) (c : Contents) (shelf : Shelf)
      (placed : PlacedTree) : Type 0 where
    pub numbered : Numbering PlacedFile
    pub known : AreKnown v c numbered
    pub tree : IsTreeOf numbered placed
    pub within : AreUpTo ((layout v).inodes - 1) numbered
    pub files : ArePlaced shelf placed

  -- at this moment, whatever contents the store lies over and whatever shelf its lines show, P holds of the tree of its files
  abbrev pub OfFilesNow : (M → Option History) → StoreValue M
      → (Contents → Shelf → PlacedTree → Type 0) → Type 0
  OfFilesNow history v P = OverNow history v (λ s c. (shelf : Shelf) (placed : PlacedTree)
      → LinesShow v s shelf → HasFilesNow v c shelf placed → P c shelf placed)

  -- The call is above the quota by the tree: the rules accept it, but the charge behind it is above the quota, and grows.
  abbrev pub IsAbove : StoreValue M → PlacedTree → ℕ → Call → Type 0
  IsAbove v placed now call =
      is_over (quota (layout v)) (site_limits (layout v)) placed now call ≡ true

  abbrev pub IsNotAbove : StoreValue M → PlacedTree → ℕ → Call → Type 0
  IsNotAbove v placed now call =
      is_over (quota (layout v)) (site_limits (layout v)) placed now call ≡ false

  -- The call was done: the reply is that of the file rules on the plain files, and the files that are left are theirs, placed
  -- as the call leaves them.
  pub record IsDoneOnFiles (old new : StoreValue M) (reply : Reply) (now : ℕ) (call : Call)
      (c : Contents) (shelf : Shelf) (placed : PlacedTree) : Type 0 where
    pub reply_is : reply ≡ rules.reply (site_limits (layout old)) (plain shelf placed) call
    pub within : IsNotAbove old placed now call
    pub left : HasFilesNow new c shelf
        (placed_after (site_limits (layout old)) shelf placed now call)
    pub plain_left :
        plain shelf (placed_after (site_limits (layout old)) shelf placed now call)
        ≡ rules.after (site_limits (layout old)) (plain shelf placed) call

  -- the rules accept the call, within the quota, and this slot's segment is the first that it needs and no line holds
  pub record IsNeedOfFiles (old : StoreValue M) (tseg : ℕ) (now : ℕ) (call : Call)
      (placed : PlacedTree) : Type 0 where
    pub accepted : accepts (site_limits (layout old)) placed call ≡ true
    pub within : IsNotAbove old placed now call
    pub first : IsFirstMissing old tseg (need placed call)

  -- What a call does to the files of a store, told by the plain files.
  abbrev pub DoesOnFiles : (M → Option History) → StoreValue M → StoreValue M → ℕ → Call → FileStep
      → Type 0
  DoesOnFiles history old new now call (step.Done reply) = OfFilesNow history old
      (λ c shelf placed. IsDoneOnFiles old new reply now call c shelf placed)
  DoesOnFiles history old new now call (step.Needs tseg) = OfFilesNow history old
      (λ c shelf placed. IsNeedOfFiles old tseg now call placed)
  DoesOnFiles history old new now call step.NoSpace = OfFilesNow history old
      (λ c shelf placed. IsAbove old placed now call)
  DoesOnFiles history old new now call step.DiskFault = Unit {0}
  DoesOnFiles history old new now call step.Memory = Unit {0}
