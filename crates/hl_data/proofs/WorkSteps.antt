-- Work on a file that is done: after its reads, its change and the lines that it used, its number is used.
use Rattle.std.proofs.Common.{◌≡◌, ◌⊎◌, inl, inr, ℕ, Bool, true, false, List, Option, Some, None, option_map, refl, ◌∙◌, ap, sym, subst}
use Rattle.std.specs.Prelude.{slice_index, slice_set}
use Rattle.std.specs.List.{fold}
use Rattle.std.specs.FinMap.{get, insert}
use Rattle.std.proofs.lemmas.List.{get_or-set_other, set-set}
use Rattle.std.proofs.lemmas.Option.{none-some, same_Some}
use Rattle.hl_media.specs.History.{History, MachineState, state_now}
use Rattle.hl_media.specs.Moments.{Now}
use Rattle.hl_lines.specs.LineTable.{Lines, with_touched}
use Rattle.hl_log.specs.Logs.{OnlyReads, with_machine}
use Rattle.hl_tree.specs.declared.call.Reply.{Reply}
use Rattle.hl_placed.specs.Blocks.{PlacedFile, Shelf}
use Rattle.hl_placed.specs.Changes.{used_at}
use Rattle.hl_paths.specs.Nodes.{Nodes}
use Rattle.hl_paths.specs.Numbered.{Leaf, Numbering}
use Rattle.hl_nodes.specs.Contents.{Contents}
use Rattle.hl_overlay.specs.declared.draft.NodeDraft.{NodeDraft}
use Rattle.hl_overlay.specs.DraftTables.{draft_of}
use Rattle.hl_overlaid.specs.Changes.{HasNoChangedDraft, IsChangedDraft, KeepsOtherUses, node_used}
use Rattle.hl_overlaid.specs.NodesNow.{with_node}
use Rattle.hl_store.specs.Values.{StoreValue, nodes_of, overlaid}
use Rattle.hl_store.specs.Lying.{LiesOver}
use Rattle.hl_store.specs.Changes.{Touches}
use Rattle.hl_ranges.specs.Files.{file_node}
use Rattle.hl_ranges.specs.Needs.{AreAtHand}
use Rattle.hl_ranges.specs.Ranges.{ChangesFile, StaysBeside}
use Rattle.hl_walk.specs.Trees.{AreKnown}
use Rattle.hl_calls.specs.declared.step.FileStep.TheVariants as step
use Rattle.hl_calls.specs.Calls.{KeepsTables}
use Rattle.hl_calls.proofs.Ends.{keeps_tables, now_after}
use Rattle.hl_calls.proofs.FileReads.{OnlyRead, of_file_before}
use Rattle.hl_calls.proofs.KnownChanges.{KnownBy, changed_file, touched_shown, touched_waits}
use Rattle.hl_data.specs.ByNumber.{DoesWork, FileWork, OfLeaf, TellsOver, reading}
use Rattle.hl_data.proofs.Before.{tables_both}
use Rattle.hl_data.proofs.TreeFiles.{IgnoresUse, UsesAt, leaf_node}

module _ {M : Type 0} (v : StoreValue M) where
  -- the number has a changed draft, or it has none
  draft_changed : (number : ℕ) (d : NodeDraft) → draft_of v.overlay.drafts number ≡ Some d → (b : Bool) → d.changed ≡ b → IsChangedDraft (overlaid v) number ⊎ HasNoChangedDraft (overlaid v) number
  draft_changed number d is true changed = inl (d, is, changed)
  draft_changed number d is false same = inr (λ other is_other. ap (λ (x : NodeDraft). x.changed) (same_Some other d (sym is_other ∙ is)) ∙ same)

  changed_or_not : (number : ℕ) (o : Option NodeDraft) → draft_of v.overlay.drafts number ≡ o → IsChangedDraft (overlaid v) number ⊎ HasNoChangedDraft (overlaid v) number
  changed_or_not number None is = inr (λ other is_other. absurd (none-some other (sym is ∙ is_other)))
  changed_or_not number (Some d) is = draft_changed number d is d.changed refl

-- LINES WERE USED: nothing else changed
module _ {M : Type 0} (b d : StoreValue M) (lines : Lines) (is : d ≡ record b { lines = lines }) where
  tables_lines : KeepsTables b d
  tables_lines = subst (λ (v : StoreValue M). v ≡ record b {
    log = with_machine b.log v.log.machine;
    overlay = v.overlay;
    uses = v.uses;
    tally = v.tally;
    lines = v.lines;
  }) (sym is) refl

  machine_lines : d.log.machine ≡ b.log.machine
  machine_lines = ap (λ (v : StoreValue M). v.log.machine) is

  nodes_lines : (c : Contents) → nodes_of d c ≡ nodes_of b c
  nodes_lines c = ap (λ (v : StoreValue M). nodes_of v c) is

  lies_lines : (c : Contents) (s : MachineState) → LiesOver b c s → LiesOver d c s
  lies_lines c s lies = subst (λ (v : StoreValue M). LiesOver v c s) (sym is) (record {
    rests = lies.rests;
    sound = lies.sound;
    listed = lies.listed;
    rec = lies.rec;
    inodes = lies.inodes;
    slots = lies.slots;
    serial = lies.serial;
    possible = lies.possible;
    over = lies.over;
    tally = lies.tally;
  })

-- A NUMBER WAS USED: nothing else changed
module _ {M : Type 0} (d e : StoreValue M) (number now : ℕ) (touches : Touches d e number now) where
  tables_touched : KeepsTables d e
  tables_touched = subst (λ (v : StoreValue M). v ≡ record d {
    log = with_machine d.log v.log.machine;
    overlay = v.overlay;
    uses = v.uses;
    tally = v.tally;
    lines = v.lines;
  }) (sym touches.same) refl

  machine_touched : e.log.machine ≡ d.log.machine
  machine_touched = ap (λ (v : StoreValue M). v.log.machine) touches.same

  lines_touched : e.lines ≡ d.lines
  lines_touched = ap (λ (v : StoreValue M). v.lines) touches.same

-- A READ: reads, the lines that were used, and the number that was
module _ {M : Type 0} {history : M → Option History} {blocks faults write_faults say_faults : M → ℕ} {old b : StoreValue M} (behind : OnlyRead history blocks faults write_faults say_faults old b)
    (d e : StoreValue M) (tsegs : List ℕ) (lines : d ≡ record b { lines = fold with_touched b.lines tsegs }) (number now : ℕ) (touches : Touches d e number now) where
  machine_used : e.log.machine ≡ b.log.machine
  machine_used = machine_touched d e number now touches ∙ machine_lines b d (fold with_touched b.lines tsegs) lines

  -- the machine was read alone
  pub used_machine : OnlyReads history blocks faults write_faults say_faults old.log.machine e.log.machine
  used_machine = subst (λ (m : M). OnlyReads history blocks faults write_faults say_faults old.log.machine m) (sym machine_used) behind.machine

  used_tables : KeepsTables old e
  used_tables = tables_both old b e (keeps_tables history old b behind.machine.unchanged behind.reads)
      (tables_both b d e (tables_lines b d (fold with_touched b.lines tsegs) lines) (tables_touched d e number now touches))

  used_lines : e.lines ≡ fold with_touched old.lines tsegs
  used_lines = lines_touched d e number now touches
      ∙ ap (λ (v : StoreValue M). v.lines) lines
      ∙ ap (λ (v : StoreValue M). fold with_touched v.lines tsegs) behind.reads.same

  module _ (h : History) (told : history old.log.machine ≡ Some h) (c : Contents) (lies : LiesOver old c (state_now h)) where
    lies_then : LiesOver d c (state_now h)
    lies_then = lies_lines b d (fold with_touched b.lines tsegs) lines c (state_now h) (behind.reads.keeps h told c lies).over

    used_over : Now (history e.log.machine) (λ s. LiesOver e c s)
    used_over k k_told = touches.over c (state_now k) (lies_lines b d (fold with_touched b.lines tsegs) lines c (state_now k)
        (now_after history old b behind.machine.unchanged (λ s. LiesOver b c s) h told (behind.reads.keeps h told c lies).over k (ap history (sym machine_used) ∙ k_told)))

    nodes_then : nodes_of d c ≡ nodes_of old c
    nodes_then = nodes_lines b d (fold with_touched b.lines tsegs) lines c ∙ (behind.reads.keeps h told c lies).nodes

    others_then : KeepsOtherUses old.uses e.uses number
    others_then q ne = touches.uses q ne ∙ ap (λ (v : StoreValue M). slice_index v.uses q) lines ∙ ap (λ (v : StoreValue M). slice_index v.uses q) behind.reads.same

    module _ (numbered : Numbering PlacedFile) (known : AreKnown old c numbered) (file : PlacedFile) (there : get numbered number ≡ Some (Leaf file)) where
      -- the nodes are known with the file used then
      used_known : AreKnown e c (insert numbered number (Leaf (used_at now file)))
      used_known = elim (changed_or_not d number (draft_of d.overlay.drafts number) refl) as (λ _. KnownBy e.uses (nodes_of e c) (insert numbered number (Leaf (used_at now file)))) [
        | inl changed ↦ subst (λ (ns : Nodes). KnownBy e.uses ns (insert numbered number (Leaf (used_at now file))))
            (sym (touches.shows c (state_now h) lies_then changed ∙ ap (λ (ns : Nodes). with_node ns number (option_map (node_used now) (get ns number))) nodes_then))
            (touched_shown old.uses e.uses (nodes_of old c) numbered known number now others_then touches.own file there)
        | inr none ↦ subst (λ (ns : Nodes). KnownBy e.uses ns (insert numbered number (Leaf (used_at now file))))
            (sym (touches.waits c (state_now h) lies_then none ∙ nodes_then))
            (touched_waits old.uses e.uses (nodes_of old c) numbered known number now others_then touches.own file there)
      ]

  -- IT IS DONE
  pub read_done : (at len : ℕ) (reply : Reply) → TellsOver history old number (reading now at len) false
      → OfLeaf history old number (λ c shelf numbered file. AreAtHand old tsegs ((reading now at len).needs file))
      → OfLeaf history old number (λ c shelf numbered file. reply ≡ (reading now at len).reply shelf file)
      → DoesWork history faults old e number (reading now at len) (step.Done reply)
  read_done at len reply within hands is = (
    used_tables,
    λ h told c lies shelf numbered shows knows placed file there. record {
      reply_is = is h told c lies shelf numbered shows knows placed file there;
      within = sym (within h told c lies shelf numbered shows knows placed file there);
      uses = record { tsegs = tsegs; at_hand = hands h told c lies shelf numbered shows knows placed file there; lines = used_lines };
      over = used_over h told c lies;
      known = used_known h told c lies numbered knows.known file there;
    },
  )

-- A CHANGE: reads, the change, the lines that were used, and the number that was
module _ {M : Type 0} {history : M → Option History} {blocks faults write_faults say_faults : M → ℕ} {old a : StoreValue M} (behind : OnlyRead history blocks faults write_faults say_faults old a)
    (b d e : StoreValue M) (number now : ℕ) (beside : StaysBeside a b number now) (tsegs : List ℕ) (lines : d ≡ record b { lines = fold with_touched b.lines tsegs })
    (touches : Touches d e number now) (uses : e.uses ≡ slice_set d.uses number now) where
  uses_lines : d.uses ≡ slice_set a.uses number now
  uses_lines = ap (λ (v : StoreValue M). v.uses) lines ∙ beside.uses

  -- it was used then already
  uses_again : e.uses ≡ d.uses
  uses_again = uses ∙ ap (λ (us : List ℕ). slice_set us number now) uses_lines ∙ set-set a.uses number now now ∙ sym uses_lines

  same_again : e ≡ d
  same_again = touches.same ∙ ap (λ (us : List ℕ). record d { uses = us }) uses_again

  machine_changed : e.log.machine ≡ b.log.machine
  machine_changed = machine_touched d e number now touches ∙ machine_lines b d (fold with_touched b.lines tsegs) lines

  -- the machine was read alone
  pub changed_machine : OnlyReads history blocks faults write_faults say_faults old.log.machine b.log.machine → OnlyReads history blocks faults write_faults say_faults old.log.machine e.log.machine
  changed_machine reads = subst (λ (m : M). OnlyReads history blocks faults write_faults say_faults old.log.machine m) (sym machine_changed) reads

  tables_beside : KeepsTables a b
  tables_beside = subst (λ (v : StoreValue M). v ≡ record a {
    log = with_machine a.log v.log.machine;
    overlay = v.overlay;
    uses = v.uses;
    tally = v.tally;
    lines = v.lines;
  }) (sym beside.same) refl

  changed_tables : KeepsTables old e
  changed_tables = tables_both old a e (keeps_tables history old a behind.machine.unchanged behind.reads)
      (tables_both a b e tables_beside (tables_both b d e (tables_lines b d (fold with_touched b.lines tsegs) lines) (tables_touched d e number now touches)))

  changed_lines : e.lines ≡ fold with_touched old.lines tsegs
  changed_lines = lines_touched d e number now touches
      ∙ ap (λ (v : StoreValue M). v.lines) lines
      ∙ ap (λ (v : StoreValue M). fold with_touched v.lines tsegs) beside.same
      ∙ ap (λ (v : StoreValue M). fold with_touched v.lines tsegs) behind.reads.same

  lies_changed : (c : Contents) (s : MachineState) → LiesOver b c s → LiesOver e c s
  lies_changed c s lies = touches.over c s (lies_lines b d (fold with_touched b.lines tsegs) lines c s lies)

  changed_over : (c : Contents) → Now (history b.log.machine) (λ s. LiesOver b c s) → Now (history e.log.machine) (λ s. LiesOver e c s)
  changed_over c over k k_told = lies_changed c (state_now k) (over k (ap history (sym machine_changed) ∙ k_told))

  others_changed : KeepsOtherUses old.uses e.uses number
  others_changed q ne = ap (λ (us : List ℕ). slice_index us q) (uses_again ∙ uses_lines) ∙ get_or-set_other a.uses number q now 0 ne ∙ ap (λ (v : StoreValue M). slice_index v.uses q) behind.reads.same

  module _ (h : History) (told : history old.log.machine ≡ Some h) (c : Contents) (lies : LiesOver old c (state_now h)) (numbered : Numbering PlacedFile) (known : AreKnown old c numbered)
      (file : PlacedFile) (there : get numbered number ≡ Some (Leaf file)) where
    -- the nodes are known with the file that it is then
    changed_known : (own next : PlacedFile) → own ≡ next → next.used ≡ now → nodes_of b c ≡ with_node (nodes_of a c) number (Some (file_node own)) → AreKnown e c (insert numbered number (Leaf next))
    changed_known own next same used nodes = subst (λ (ns : Nodes). KnownBy e.uses ns (insert numbered number (Leaf next)))
        (sym (ap (λ (v : StoreValue M). nodes_of v c) same_again
        ∙ nodes_lines b d (fold with_touched b.lines tsegs) lines c
        ∙ nodes
        ∙ ap (λ (ns : Nodes). with_node ns number (Some (file_node own))) (behind.reads.keeps h told c lies).nodes
        ∙ ap (λ (f : PlacedFile). with_node (nodes_of old c) number (Some (file_node f))) same))
        (changed_file old.uses e.uses (nodes_of old c) numbered known number now others_changed touches.own file there next used)

  -- IT IS DONE
  pub change_done : (work : FileWork) (reply : Reply) → IgnoresUse work → UsesAt work now → ((shelf : Shelf) (file : PlacedFile) → reply ≡ work.reply shelf file)
      → TellsOver history old number work false
      → OfLeaf history old number (λ c shelf numbered file. AreAtHand old tsegs (work.needs file))
      → ChangesFile history a b number work.change
      → DoesWork history faults old e number work (step.Done reply)
  change_done work reply ignores used is within hands changes = (
    changed_tables,
    λ h told c lies shelf numbered shows knows placed file there.
        let one = leaf_node old c shelf numbered knows placed number file there in
        let change = of_file_before behind number (λ c shelf file. Now (history b.log.machine) (λ s. LiesOver b c s) × (nodes_of b c ≡ with_node (nodes_of a c) number (Some (file_node (work.change shelf file)))))
        changes h told c lies shelf (used_at one.0 file) shows one.1 in
        record {
          reply_is = is shelf file;
          within = sym (within h told c lies shelf numbered shows knows placed file there);
          uses = record { tsegs = tsegs; at_hand = hands h told c lies shelf numbered shows knows placed file there; lines = changed_lines };
          over = changed_over c change.0;
          known = changed_known h told c lies numbered knows.known file there (work.change shelf (used_at one.0 file)) (work.change shelf file) (ignores.change shelf one.0 file) (used shelf file) change.1;
        },
  )
