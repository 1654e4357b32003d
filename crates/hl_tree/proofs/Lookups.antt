-- The content of the file at a path.
use Rattle.std.proofs.Common.{arith, ◌≡◌, ℕ, List, Some, Ok, ap}
use Rattle.std.specs.FinMap.{get, insert}
use Rattle.hl_tree.specs.declared.node.Node.TheVariants.{File}
use Rattle.hl_tree.specs.Tree.{Tree, walk, content_at}
use Rattle.hl_tree.specs.OtherContents.{changed_at, put_changed}

module _ {B : Type 0} (t : Tree B) where
  -- what a call finds at a path stands there
  pub content_at-finds : (path : List (List ℕ)) (content : B) → content_at t path ≡ Ok content → get t path ≡ Some (File content)
  unfolding content_at walk
  content_at-finds path content is = grind arith

  -- a file's content is changed where it is found
  pub changed_at-file : (path : List (List ℕ)) (content : B) (f : B → B) → content_at t path ≡ Ok content → changed_at t path f ≡ insert t path (File (f content))
  unfolding changed_at
  changed_at-file path content f is = ap (put_changed t path f) (content_at-finds path content is)
