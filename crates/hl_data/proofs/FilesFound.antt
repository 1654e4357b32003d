-- Where a path leads to a file of a store, and where it leads to none.
use Rattle.std.proofs.Common.{◌≡◌, ℕ, ◌≤◌, false, true, List, Option, Some, subst}
use Rattle.std.specs.FinMap.{get}
use Rattle.hl_media.specs.History.{History, state_now}
use Rattle.hl_media.specs.Moments.{Runs}
use Rattle.hl_log.specs.Rest.{IsUnchanged}
use Rattle.hl_inode.specs.declared.inode.Kind.TheVariants.{Dir, File}
use Rattle.hl_tree.specs.declared.call.Refusal.TheVariants.{Eisdir, Enametoolong}
use Rattle.hl_tree.specs.Names.{is_too_long}
use Rattle.hl_dir.specs.declared.entry.Entry.{Entry}
use Rattle.hl_placed.specs.Blocks.{PlacedFile}
use Rattle.hl_paths.specs.Numbered.{Directory, Leaf}
use Rattle.hl_store.specs.declared.answers.Node.{Node}
use Rattle.hl_store.specs.Values.{StoreValue, layout}
use Rattle.hl_store.specs.Finding.{HasNodeFound, OverNow, ReadsNodes}
use Rattle.hl_walk.specs.declared.walk.Halt.{Halt}
use Rattle.hl_walk.specs.declared.walk.Halt.TheVariants as halt
use Rattle.hl_walk.specs.Trees.{OfTree}
use Rattle.hl_walk.specs.Walks.{Halts, LeadsNowhere, LeadsTo}
use Rattle.hl_walk.proofs.KeptTrees.{of_tree_before}
use Rattle.hl_walk.proofs.KnownTrees.{directory_found, file_found}
use Rattle.hl_calls.specs.Trees.{site_limits}
use Rattle.hl_data.specs.Files.{IsFileAt, IsNoFileAt}
use Rattle.hl_data.proofs.DataExits.{file_dir, file_is, file_long, file_lost}

module _ {M : Type 0} (history : M → Option History) (old : StoreValue M) (path : List (List ℕ)) where
  -- a path that is too long
  pub path_long : is_too_long path ≡ true → OfTree history old (λ c numbered. IsNoFileAt (layout old) path numbered Enametoolong)
  path_long long h told c lies numbered tree = file_long (site_limits (layout old)) numbered path long

  module _ (short : is_too_long path ≡ false) where
    -- one that leads nowhere
    pub path_lost : (faults : M → ℕ) (new : StoreValue M) (stop : Halt) → Halts history faults old new (LeadsNowhere path) stop → Halts history faults old new (IsNoFileAt (layout old) path) stop
    path_lost faults new (halt.Refused why) is = λ h told c lies numbered tree. file_lost (site_limits (layout old)) numbered path short why (is h told c lies numbered tree)
    path_lost faults new halt.DiskFault is = is
    path_lost faults new halt.Memory is = tt

    -- ONE THAT LEADS to a number, whose node was found behind reads
    module _ (mid : StoreValue M) (reads : ReadsNodes history old mid) (run : Runs (history old.log.machine) (history mid.log.machine) IsUnchanged)
        (number : ℕ) (node : Node) (led : LeadsTo history old path number) (found : OverNow history mid (HasNodeFound mid number node)) where
      -- it is a file's
      pub path_file : node.kind ≡ File → node.size ≤ 4243456 → IsFileAt history old path number
      path_file kind most h told c lies numbered tree =
          let m = of_tree_before history old mid reads run (λ c numbered. (file : PlacedFile) × (get numbered number ≡ Some (Leaf file)) × (node.size ≡ file.size))
          (λ h told c lies numbered tree. (let m = file_found mid c numbered tree number (state_now h) node (found h told c lies) kind in (m.0, m.1, m.2)))
          h told c lies numbered tree in
          (m.0, file_is (site_limits (layout old)) numbered path short number (led h told c lies numbered tree) m.0 m.1, subst (λ (n : ℕ). n ≤ 4243456) m.2 most)

      -- or a directory's
      pub path_dir : node.kind ≡ Dir → OfTree history old (λ c numbered. IsNoFileAt (layout old) path numbered Eisdir)
      path_dir kind h told c lies numbered tree =
          let m = of_tree_before history old mid reads run (λ c numbered. (es : List Entry) × (get numbered number ≡ Some (Directory es)))
          (λ h told c lies numbered tree. (let m = directory_found mid c numbered tree number (state_now h) node (found h told c lies) kind in (m.0, m.1)))
          h told c lies numbered tree in
          file_dir (site_limits (layout old)) numbered path short number (led h told c lies numbered tree) m.0 m.1
