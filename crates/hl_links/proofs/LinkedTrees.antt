-- The nodes that a store knows, through reads and changes one behind another.
use Rattle.std.proofs.Common.{arith, ◌≡◌, ℕ, ◌+◌, ◌/◌, ◌<◌, ◌≤◌, List, length, Option, Some, None, IsSome, option_map, inl, inr, refl, ap, ◌∙◌, sym, subst}
use Rattle.std.specs.Prelude.{slice_index}
use Rattle.std.specs.FinMap.{get, insert, remove}
use Rattle.std.proofs.lemmas.Bool.{cases_eq}
use Rattle.hl_media.specs.History.{History, MachineState, state_now}
use Rattle.hl_media.specs.Moments.{Now, Runs}
use Rattle.hl_media.proofs.Runs.{starts}
use Rattle.hl_log.specs.Logs.{OnlyReads, with_machine}
use Rattle.hl_log.specs.Rest.{IsUnchanged}
use Rattle.hl_inode.specs.declared.inode.Kind.{Kind}
use Rattle.hl_inode.specs.declared.inode.Kind.TheVariants.{Dir}
use Rattle.hl_dir.specs.declared.entry.Entry.{Entry}
use Rattle.hl_dir.specs.Dirs.{dir_bytes}
use Rattle.hl_placed.specs.Blocks.{PlacedFile, blocks_of}
use Rattle.hl_paths.specs.Nodes.{FlatNode, directory_content, flat_node}
use Rattle.hl_paths.specs.Numbered.{Directory, Numbering}
use Rattle.hl_paths.proofs.Nodes.{some_of}
use Rattle.hl_nodes.specs.Contents.{Contents}
use Rattle.hl_overlay.specs.declared.draft.NodeDraft.{NodeDraft}
use Rattle.hl_overlay.specs.declared.draft.Shape.{Shape}
use Rattle.hl_overlay.specs.DraftTables.{draft_of}
use Rattle.hl_overlay.specs.Making.{used_of}
use Rattle.hl_overlaid.specs.Changes.{node_used}
use Rattle.hl_overlaid.proofs.PutLemmas.{mapped}
use Rattle.hl_store.specs.Values.{StoreValue, layout, nodes_of}
use Rattle.hl_store.specs.Lying.{LiesOver}
use Rattle.hl_store.specs.Shapes.{IsNumber}
use Rattle.hl_store.specs.Finding.{ReadsNodes}
use Rattle.hl_store.specs.Changes.{KeepsBeside, Reshapes, drafted_shape}
use Rattle.hl_store.proofs.ReadRuns.{now_before, reads_none}
use Rattle.hl_ranges.specs.Directories.{IsDraftedDirectory, PutsDirectory, directory_node, directory_shape}
use Rattle.hl_walk.specs.Trees.{AreKnown, known_node}
use Rattle.hl_walk.proofs.NeverUsed.{never_used}
use Rattle.hl_calls.specs.Calls.{KeepsTables}
use Rattle.hl_calls.proofs.Ends.{known_still, now_after}
use Rattle.hl_calls.proofs.KnownChanges.{KnownBy, known_insert, known_remove}
use Rattle.hl_links.specs.declared.changing.DirectoryChange.{DirectoryChange}
use Rattle.hl_links.specs.Links.{ChangesTree, IsReady, KeepsLines, KnowsNow, Relinks}

-- the node of a directory's bytes is that of its entries, whatever its last use
node_spelled : (used : ℕ) (bytes : List ℕ) (es : List Entry) → bytes ≡ dir_bytes es → node_used used (directory_node bytes) ≡ flat_node (Directory es)
unfolding directory_node directory_content
node_spelled used bytes es is = ap (λ (b : List ℕ). node_used used (directory_node b)) is

module _ {M : Type 0} where
  -- DRAFTS
  -- a shape that a number is drafted as stays through reads
  pub shape_still : (history : M → Option History) (old new : StoreValue M) → ReadsNodes history old new → (number : ℕ) (shape : Option Shape) → number < (layout old).inodes → drafted_shape old number ≡ Some shape → drafted_shape new number ≡ Some shape
  shape_still history old new reads number shape high is =
      let m = mapped (λ (d : NodeDraft). d.shape) (draft_of old.overlay.drafts number) shape is in
      ap (option_map (λ (d : NodeDraft). d.shape)) (reads.drafted number m.0 high m.1) ∙ ap Some m.2

  -- so does a directory
  pub directory_still : (history : M → Option History) (old new : StoreValue M) → ReadsNodes history old new → (number : ℕ) → IsNumber old number → IsDraftedDirectory old number → IsDraftedDirectory new number
  directory_still history old new reads number is drafted = (drafted.0, shape_still history old new reads number (Some (directory_shape drafted.0)) is.high drafted.1)

  -- what is drafted as a shape is drafted
  pub drafted_some : (v : StoreValue M) (number : ℕ) (shape : Option Shape) → drafted_shape v number ≡ Some shape → IsSome (draft_of v.overlay.drafts number)
  drafted_some v number shape is =
      let m = mapped (λ (d : NodeDraft). d.shape) (draft_of v.overlay.drafts number) shape is in
      subst (λ (o : Option NodeDraft). IsSome o) (sym m.1) refl

  -- the room that was made for a directory is enough
  pub ready_room : (old new : StoreValue M) (change : DirectoryChange) → IsReady old new change → (room : ℕ) → new.overlay.room ≤ room → blocks_of (length change.bytes.items) ≤ room + change.from / 4096
  ready_room old new change ready room most = omega (arith, ready.room)

  -- LINES
  -- reads use none
  pub lines_read : (history : M → Option History) (old new : StoreValue M) → ReadsNodes history old new → KeepsLines old new
  lines_read history old new reads = subst (λ (v : StoreValue M). v ≡ record old { log = with_machine old.log v.log.machine; overlay = v.overlay; uses = v.uses; tally = v.tally }) (sym reads.same) refl

  -- nor do changes of nodes
  pub lines_beside : (old new : StoreValue M) → KeepsBeside old new → KeepsLines old new
  lines_beside old new beside = subst (λ (v : StoreValue M). v ≡ record old { log = with_machine old.log v.log.machine; overlay = v.overlay; uses = v.uses; tally = v.tally }) (sym beside) refl

  -- nor do both
  pub lines_both : (old mid new : StoreValue M) → KeepsLines old mid → KeepsLines mid new → KeepsLines old new
  lines_both old mid new one two = two ∙ ap (λ (v : StoreValue M). record v { log = with_machine v.log new.log.machine; overlay = new.overlay; uses = new.uses; tally = new.tally }) one

  -- where none was used the tables are kept
  pub lines_tables : (old new : StoreValue M) → KeepsLines old new → KeepsTables old new
  lines_tables old new lines = subst (λ (v : StoreValue M). v ≡ record old { log = with_machine old.log v.log.machine; overlay = v.overlay; uses = v.uses; tally = v.tally; lines = v.lines }) (sym lines) refl

  -- ONE STORE AND ITS NODES
  module _ (v : StoreValue M) (c : Contents) (numbered : Numbering PlacedFile) (known : AreKnown v c numbered) where
    -- a directory that is known is the node of its bytes
    pub known_directory : (s : MachineState) → LiesOver v c s → (number : ℕ) (es : List Entry) → get numbered number ≡ Some (Directory es) → get (nodes_of v c) number ≡ Some (directory_node (dir_bytes es))
    unfolding directory_content directory_node
    known_directory s lies number es at =
        let m = mapped (known_node v number) (get (nodes_of v c) number) (flat_node (Directory es)) (known number ∙ ap (option_map flat_node) at) in
        let n = m.0 in
        let kind : n.kind ≡ Dir = ap (λ (x : FlatNode). x.kind) m.2 in
        let unused : n.content.used ≡ used_of n.kind (slice_index v.uses number) = never_used v c s lies number n m.1 kind ∙ sym (ap (λ (k : Kind). used_of k (slice_index v.uses number)) kind) in
        m.1 ∙ ap Some (ap (λ (u : ℕ). record { kind = n.kind; content = record { size = n.content.size; used = u; blocks = n.content.blocks } }) unused ∙ m.2)

  module _ (old new : StoreValue M) (c : Contents) (numbered : Numbering PlacedFile) (known : AreKnown old c numbered) (s : MachineState) (lies : LiesOver old c s) where
    -- A DIRECTORY HAS OTHER BYTES
    pub known_put : (change : DirectoryChange) (after : Numbering PlacedFile) → PutsDirectory old new change.number change.from change.bytes.items → Relinks change numbered after → AreKnown new c after
    known_put change after puts links =
        let bytes = change.bytes.items in
        subst (λ (ns : Numbering PlacedFile). AreKnown new c ns) (sym links.left)
        (subst (λ nodes. KnownBy new.uses nodes (insert numbered change.number (Directory links.has)))
        (sym (puts.nodes c s lies (dir_bytes links.had) (known_directory old c numbered known s lies change.number links.had links.there) links.same))
        (known_insert old.uses new.uses (nodes_of old c) numbered known change.number puts.uses (directory_node bytes) (Directory links.has) (node_spelled (slice_index new.uses change.number) bytes links.has links.spelled)))

    -- A NUMBER IS FREED
    pub known_freed : (number used : ℕ) → Reshapes old new number used None → new.uses ≡ old.uses → AreKnown new c (remove numbered number)
    known_freed number used shapes uses =
        subst (λ nodes. KnownBy new.uses nodes (remove numbered number)) (sym (shapes.changes.nodes c s lies))
        (known_remove old.uses new.uses (nodes_of old c) numbered known number (λ q ne. ap (λ (us : List ℕ). slice_index us q) uses))

  -- TREES THROUGH READS AND CHANGES
  module _ (history : M → Option History) where
    -- no change
    pub tree_read : (old new : StoreValue M) → Runs (history old.log.machine) (history new.log.machine) IsUnchanged → ReadsNodes history old new → ChangesTree history old new (λ before after. after ≡ before)
    tree_read old new run reads = record {
      lines = lines_read history old new reads;
      tree = λ h told c lies before after known is. record {
        over = now_after history old new run (λ s. LiesOver new c s) h told (reads.keeps h told c lies).over;
        known = subst (λ (ns : Numbering PlacedFile). AreKnown new c ns) (sym is) (known_still history old new run reads h told c lies before known);
      };
    }

    -- a change of nodes, which calls no device
    pub tree_changed : (old new : StoreValue M) (Becomes : Numbering PlacedFile → Numbering PlacedFile → Type 0) → KeepsBeside old new → ((c : Contents) (s : MachineState) → LiesOver old c s → LiesOver new c s)
        → ((c : Contents) (s : MachineState) → LiesOver old c s → (before after : Numbering PlacedFile) → AreKnown old c before → Becomes before after → AreKnown new c after) → ChangesTree history old new Becomes
    tree_changed old new Becomes beside over so = record {
      lines = lines_beside old new beside;
      tree = λ h told c lies before after known becomes. record {
        over = subst (λ (m : M). Now (history m) (λ s. LiesOver new c s)) (sym (ap (λ (v : StoreValue M). v.log.machine) beside)) (λ h' told'. subst (λ s. LiesOver new c s) (same_state h h' (sym told ∙ told')) (over c (state_now h) lies));
        known = so c (state_now h) lies before after known becomes;
      };
    }
      where
        same_state : (h h' : History) → Some h ≡ Some h' → state_now h ≡ state_now h'
        same_state h h' e = (let same : h ≡ h' = cc in ap state_now same)

    -- a directory is put
    pub tree_put : (old new : StoreValue M) (change : DirectoryChange) → PutsDirectory old new change.number change.from change.bytes.items → ChangesTree history old new (Relinks change)
    tree_put old new change puts = tree_changed old new (Relinks change) puts.beside puts.over
        (λ c s lies before after known links. known_put old new c before known s lies change after puts links)

    -- a number is freed
    pub tree_freed : (old new : StoreValue M) (number used : ℕ) → Reshapes old new number used None → new.uses ≡ old.uses → ChangesTree history old new (λ before after. after ≡ remove before number)
    tree_freed old new number used shapes uses = tree_changed old new (λ before after. after ≡ remove before number) shapes.changes.beside (λ c s lies. shapes.changes.over c s lies tt)
        (λ c s lies before after known is. subst (λ (ns : Numbering PlacedFile). AreKnown new c ns) (sym is) (known_freed old new c before known s lies number used shapes uses))

    -- ONE CHANGE AND THEN ANOTHER
    pub tree_both : (old mid new : StoreValue M) (One Two : Numbering PlacedFile → Numbering PlacedFile → Type 0) → Runs (history old.log.machine) (history mid.log.machine) IsUnchanged
        → ChangesTree history old mid One → ChangesTree history mid new Two → ChangesTree history old new (λ before after. (between : Numbering PlacedFile) × One before between × Two between after)
    tree_both old mid new One Two run one two = record {
      lines = lines_both old mid new one.lines two.lines;
      tree = λ h told c lies before after known both.
          let first = one.tree h told c lies before both.0 known both.1 in
          now_before (history old.log.machine) (history mid.log.machine) (λ s. KnowsNow history new c after) run
          (λ h' told'. two.tree h' told' c (first.over h' told') both.0 after first.known both.2) h told;
    }

    -- what a change is said to make may be said otherwise
    pub tree_so : (old new : StoreValue M) (One Two : Numbering PlacedFile → Numbering PlacedFile → Type 0) → ((before after : Numbering PlacedFile) → Two before after → One before after) → ChangesTree history old new One → ChangesTree history old new Two
    tree_so old new One Two so one = record {
      lines = one.lines;
      tree = λ h told c lies before after known two. one.tree h told c lies before after known (so before after two);
    }

    -- a change behind reads is a change
    pub tree_behind : (old mid new : StoreValue M) (Becomes : Numbering PlacedFile → Numbering PlacedFile → Type 0) → Runs (history old.log.machine) (history mid.log.machine) IsUnchanged → ReadsNodes history old mid
        → ChangesTree history mid new Becomes → ChangesTree history old new Becomes
    tree_behind old mid new Becomes run reads change =
        tree_so old new (λ before after. (between : Numbering PlacedFile) × (between ≡ before) × Becomes between after) Becomes (λ before after becomes. (before, refl, becomes))
        (tree_both old mid new (λ before after. after ≡ before) Becomes run (tree_read old mid run reads) change)

  -- THE MACHINE BEHIND A CHANGE is the one before it
  pub machine_beside : {history : M → Option History} {blocks faults write_faults say_faults : M → ℕ} (old new : StoreValue M) → KeepsBeside old new → OnlyReads history blocks faults write_faults say_faults old.log.machine new.log.machine
  machine_beside {history} {blocks} {faults} {write_faults} {say_faults} old new beside =
      subst (λ (v : StoreValue M). OnlyReads history blocks faults write_faults say_faults old.log.machine v.log.machine) (sym beside) (reads_none {M = M})

  pub run_beside : (history : M → Option History) (old new : StoreValue M) → KeepsBeside old new → Runs (history old.log.machine) (history new.log.machine) IsUnchanged
  run_beside history old new beside = subst (λ (v : StoreValue M). Runs (history old.log.machine) (history v.log.machine) IsUnchanged) (sym beside) (starts (history old.log.machine) IsUnchanged (λ h e. refl))

  -- and so is the site
  pub number_beside : (old new : StoreValue M) → KeepsBeside old new → (number : ℕ) → IsNumber old number → IsNumber new number
  number_beside old new beside number is = record { low = is.low; high = subst (λ (v : StoreValue M). number < (layout v).inodes) (sym beside) is.high }

  -- A NUMBER THAT IS DRAFTED is drafted behind the change of a directory
  pub drafted_behind : (old new : StoreValue M) (ino from : ℕ) (bytes : List ℕ) → PutsDirectory old new ino from bytes → (number : ℕ) → IsNumber old number → IsSome (draft_of old.overlay.drafts number) → IsSome (draft_of new.overlay.drafts number)
  drafted_behind old new ino from bytes puts number is drafted = elim (cases_eq number ino) as (λ _. IsSome (draft_of new.overlay.drafts number)) [
    | inl same ↦ subst (λ (n : ℕ). IsSome (draft_of new.overlay.drafts n)) (sym same) (drafted_some new ino (Some (directory_shape (length bytes))) puts.own)
    | inr ne ↦
        let d = some_of (draft_of old.overlay.drafts number) drafted in
        drafted_some new number d.0.shape (puts.shapes number is.high ne ∙ ap (option_map (λ (e : NodeDraft). e.shape)) d.1)
  ]
