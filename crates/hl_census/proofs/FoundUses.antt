-- The last uses of what was found are those of the image's nodes.
use Rattle.std.specs.FinMap.{get}
use Rattle.std.proofs.Common.{◌≡◌, ⊎_elim, ℕ, zero, suc, ◌<◌, ◌≤◌, List, sym, ◌∙◌, ap, subst, arith}
use Rattle.std.specs.Prelude.{slice_index, Option, Some, None}
use Rattle.std.specs.List.{slice_index_or}
use Rattle.std.proofs.lemmas.Bool.{cases_lt}
use Rattle.hl_media.specs.History.{Image}
use Rattle.hl_addr.specs.Layout.{IsWithinLimits, Layout}
use Rattle.hl_tables.specs.Values.{TableValues}
use Rattle.hl_inode.specs.declared.inode.Inode.{Inode}
use Rattle.hl_paths.specs.Nodes.{FlatNode, Nodes}
use Rattle.hl_nodes.specs.Nodes.{HasNodes, IsMapEntry, IsNodeAt}
use Rattle.hl_nodes.proofs.Frame.{one_inode}
use Rattle.hl_nodes.proofs.PointerLemmas.{in_log-some}
use Rattle.hl_overlaid.proofs.NowLemmas.{none_some}
use Rattle.hl_survey.specs.declared.found.FoundInode.{FoundInode}
use Rattle.hl_survey.specs.Surveys.{AreSurveyed, IsFound}
use Rattle.hl_census.specs.LastUses.{AreUses, AreUsesOf, use_of}

module _ (g : Layout) (limits : IsWithinLimits g) (image : Image) (t : TableValues) where
  use_is : (ino : ℕ) (x : Option FoundInode) (node : FlatNode) → IsFound g image t ino x → IsNodeAt g t.slots image ino (slice_index t.inodes ino) node → use_of x ≡ node.content.used
  use_is ino None node is at = absurd (in_log-some g limits (slice_index t.inodes ino) at.there.in_log is.0)
  use_is ino (Some f) node is at =
      let same : at.inode ≡ f.inode = one_inode (image (slice_index t.inodes ino)) (image f.address) at.inode f.inode (ap image (sym is.there.2)) at.there.spelled is.there.3.spelled in
      ap (λ (v : Inode). v.used) (sym same) ∙ sym at.is.used_is

  pub uses_are : (found : List (Option FoundInode)) (uses : List ℕ) → AreUses found g.inodes uses → AreSurveyed g image t found → (nodes : Nodes) → HasNodes g image t nodes → AreUsesOf nodes uses
  uses_are found uses are surveyed nodes has = by
    where
      within : (ino : ℕ) (node : FlatNode) → 1 ≤ ino → ino < g.inodes → get nodes ino ≡ Some node → slice_index uses ino ≡ node.content.used
      within ino node low high at = are.each ino high ∙ use_is ino (slice_index_or found ino None) node (surveyed.each ino high)
          (subst (IsMapEntry g t.slots image ino (slice_index t.inodes ino)) at (has.entries ino low high))

      by : (ino : ℕ) (node : FlatNode) → get nodes ino ≡ Some node → slice_index uses ino ≡ node.content.used
      by zero node at = absurd (none_some (sym has.zero ∙ at))
      by (suc i) node at = ⊎_elim
          (λ high. within (suc i) node (omega arith) high at)
          (λ past. absurd (none_some (sym (has.past (suc i) past) ∙ at)))
          (cases_lt (suc i) g.inodes)
