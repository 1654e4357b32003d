-- Trees of a store through reads.
use Rattle.std.proofs.Common.{◌≡◌, ℕ, ◌<◌, Option, Some, refl, sym, ◌∙◌, ap, subst}
use Rattle.std.specs.Prelude.{option_map, slice_index}
use Rattle.std.specs.FinMap.{get}
use Rattle.hl_media.specs.History.{History, MachineState, state_now}
use Rattle.hl_media.specs.Moments.{Runs}
use Rattle.hl_log.specs.Logs.{OnlyReads, with_machine}
use Rattle.hl_log.specs.Rest.{IsUnchanged}
use Rattle.hl_placed.specs.Blocks.{PlacedFile}
use Rattle.hl_paths.specs.Nodes.{Nodes}
use Rattle.hl_paths.specs.Numbered.{Numbering}
use Rattle.hl_nodes.specs.Contents.{Contents}
use Rattle.hl_overlaid.specs.Changes.{node_used}
use Rattle.hl_store.specs.Values.{StoreValue, layout, nodes_of}
use Rattle.hl_store.specs.Lying.{LiesOver}
use Rattle.hl_store.specs.Shapes.{IsNumber}
use Rattle.hl_store.specs.Finding.{KeepsNodes, OverNow, ReadsNodes}
use Rattle.hl_store.proofs.ReadRuns.{now_before}
use Rattle.hl_walk.specs.Trees.{KnowsTree, OfTree, known_node}

module _ {M : Type 0} where
  -- a tree is known by the nodes and the last uses alone
  pub tree_same : (old new : StoreValue M) (c : Contents) (numbered : Numbering PlacedFile) → new.uses ≡ old.uses → nodes_of new c ≡ nodes_of old c
      → KnowsTree old c numbered → KnowsTree new c numbered
  tree_same old new c numbered uses nodes tree = record {
    known = λ q.
        ap (λ us. option_map (node_used (slice_index us q)) (get (nodes_of new c) q)) uses
        ∙ ap (λ (ns : Nodes). option_map (known_node old q) (get ns q)) nodes
        ∙ tree.known q;
    linked = tree.linked;
  }

  -- no read was made
  pub reads_nothing : (history : M → Option History) (v : StoreValue M) → ReadsNodes history v v
  reads_nothing history v = record {
    same = refl;
    keeps = λ h told c lies. record { over = lies; nodes = refl };
    drafted = λ q d lt at. at;
    dirty = refl;
    blocks = refl;
  }

  module _ (history : M → Option History) (old new : StoreValue M) (reads : ReadsNodes history old new) where
    -- the site stays
    pub layout_kept : layout new ≡ layout old
    layout_kept = ap (λ (v : StoreValue M). layout v) reads.same

    -- so do the last uses
    pub uses_kept : new.uses ≡ old.uses
    uses_kept = ap (λ (v : StoreValue M). v.uses) reads.same

    -- a number of the site stays one
    pub number_kept : (ino : ℕ) → IsNumber old ino → IsNumber new ino
    number_kept ino is = record { low = is.low; high = subst (λ g. ino < g.inodes) (sym layout_kept) is.high }

    -- and was one
    pub number_before : (ino : ℕ) → IsNumber new ino → IsNumber old ino
    number_before ino is = record { low = is.low; high = subst (λ g. ino < g.inodes) layout_kept is.high }

    module _ (h : History) (told : history old.log.machine ≡ Some h) (c : Contents) (lies : LiesOver old c (state_now h)) (numbered : Numbering PlacedFile) where
      -- A TREE THAT WAS KNOWN before reads is known behind them
      pub tree_kept : KnowsTree old c numbered → KnowsTree new c numbered
      tree_kept = tree_same old new c numbered uses_kept (reads.keeps h told c lies).nodes

      -- and one that is known behind them was known
      pub tree_before : KnowsTree new c numbered → KnowsTree old c numbered
      tree_before = tree_same new old c numbered (sym uses_kept) (sym (reads.keeps h told c lies).nodes)

    module _ (run : Runs (history old.log.machine) (history new.log.machine) IsUnchanged) where
      -- what holds behind reads, whatever the contents are, held before them
      pub over_before : (P : MachineState → Contents → Type 0) → OverNow history new P → OverNow history old P
      over_before P holds h told c lies =
          now_before (history old.log.machine) (history new.log.machine) (λ s. (c : Contents) → LiesOver new c s → P s c) run holds
          h told c (reads.keeps h told c lies).over

      -- WHAT HOLDS OF A TREE behind reads held before them
      pub of_tree_before : (P : Contents → Numbering PlacedFile → Type 0) → OfTree history new P → OfTree history old P
      of_tree_before P holds h told c lies numbered tree =
          over_before (λ s c. (numbered : Numbering PlacedFile) → KnowsTree new c numbered → P c numbered) holds h told c lies numbered (tree_kept h told c lies numbered tree)

      -- READS BEHIND READS are reads
      pub reads_both : (next : StoreValue M) → ReadsNodes history new next → ReadsNodes history old next
      reads_both next more = record {
        same = more.same ∙ ap (λ (v : StoreValue M). record v { log = with_machine v.log next.log.machine; overlay = next.overlay }) reads.same;
        keeps = λ h told c lies. record {
          over = (more_at h told c (reads.keeps h told c lies).over).over;
          nodes = (more_at h told c (reads.keeps h told c lies).over).nodes ∙ (reads.keeps h told c lies).nodes;
        };
        drafted = λ q d lt at. more.drafted q d (subst (λ g. q < g.inodes) (sym layout_kept) lt) (reads.drafted q d lt at);
        dirty = more.dirty ∙ reads.dirty;
        blocks = more.blocks ∙ reads.blocks;
      }
        where
          more_at : (h : History) → history old.log.machine ≡ Some h → (c : Contents) → LiesOver new c (state_now h) → KeepsNodes new next (state_now h) c
          more_at = now_before (history old.log.machine) (history new.log.machine) (λ s. (c : Contents) → LiesOver new c s → KeepsNodes new next s c) run more.keeps

  -- what holds of each tree that makes something so
  pub of_tree_map : (history : M → Option History) (v : StoreValue M) (P Q : Contents → Numbering PlacedFile → Type 0) → ((c : Contents) (numbered : Numbering PlacedFile) → P c numbered → Q c numbered)
      → OfTree history v P → OfTree history v Q
  of_tree_map history v P Q so holds h told c lies numbered tree = so c numbered (holds h told c lies numbered tree)
