-- What a call made stays made where what it prepared is let go.
use Rattle.std.proofs.Common.{◌≡◌, ℕ, List, Option, Some, option_map, ap, ◌∙◌, sym, subst}
use Rattle.std.specs.Prelude.{slice_index}
use Rattle.std.specs.FinMap.{get}
use Rattle.hl_media.specs.Causes.{Rose}
use Rattle.hl_media.specs.History.{History, MachineState, state_now, with_calls}
use Rattle.hl_media.specs.Moments.{Now, Runs}
use Rattle.hl_log.specs.Logs.{with_machine}
use Rattle.hl_log.specs.Rest.{IsUnchanged}
use Rattle.hl_tree.specs.declared.call.Call.{Call}
use Rattle.hl_tree.specs.declared.call.Reply.{Reply}
use Rattle.hl_placed.specs.Blocks.{PlacedFile, Shelf}
use Rattle.hl_paths.specs.Numbered.{Numbering}
use Rattle.hl_nodes.specs.Contents.{Contents}
use Rattle.hl_overlaid.specs.Changes.{node_used}
use Rattle.hl_store.specs.Values.{StoreValue, nodes_of}
use Rattle.hl_store.specs.Lying.{LiesOver}
use Rattle.hl_store.specs.Seats.{Releases}
use Rattle.hl_walk.specs.Trees.{AreKnown, known_node}
use Rattle.hl_calls.specs.declared.step.FileStep.{FileStep}
use Rattle.hl_calls.specs.declared.step.FileStep.TheVariants as step
use Rattle.hl_calls.specs.Calls.{IsDone, KeepsTables, LeavesNodes, MakesCall}

module _ {M : Type 0} (history : M → Option History) (faults : M → ℕ) (old mid new : StoreValue M)
    (run : Runs (history old.log.machine) (history mid.log.machine) IsUnchanged) (lets : Releases mid new) where
  same_machine : new.log.machine ≡ mid.log.machine
  same_machine = ap (λ (v : StoreValue M). v.log.machine) lets.same

  -- the store lies over what it lay over
  lies_still : (c : Contents) → Now (history mid.log.machine) (λ s. LiesOver mid c s) → Now (history new.log.machine) (λ s. LiesOver new c s)
  lies_still c over h told = lets.over c (state_now h) (over h (ap history (sym same_machine) ∙ told))

  -- where the call's first moment is told its last is
  told_last : (h : History) → history old.log.machine ≡ Some h → (last : History) × (history mid.log.machine ≡ Some last)
  told_last h told = (_, run.is ∙ ap (with_calls run.calls) told)

  nodes_still : (h : History) → history old.log.machine ≡ Some h → (c : Contents) → Now (history mid.log.machine) (λ s. LiesOver mid c s) → nodes_of new c ≡ nodes_of mid c
  nodes_still h told c over = let last = told_last h told in lets.nodes c (state_now last.0) (over last.0 last.1)

  known_still : (h : History) → history old.log.machine ≡ Some h → (c : Contents) → Now (history mid.log.machine) (λ s. LiesOver mid c s)
      → (numbered : Numbering PlacedFile) → AreKnown mid c numbered → AreKnown new c numbered
  known_still h told c over numbered known number =
      ap (λ (v : StoreValue M). option_map (node_used (slice_index v.uses number)) (get (nodes_of new c) number)) lets.same
      ∙ ap (λ ns. option_map (known_node mid number) (get ns number)) (nodes_still h told c over)
      ∙ known number

  tables_still : KeepsTables old mid → KeepsTables old new
  tables_still tables = subst (λ (v : StoreValue M). v ≡ record old {
    log = with_machine old.log v.log.machine;
    overlay = v.overlay;
    uses = v.uses;
    tally = v.tally;
    lines = v.lines;
  }) (sym lets.same) (ap (λ (v : StoreValue M). record v { overlay = new.overlay }) tables)

  left_still : LeavesNodes history old mid → LeavesNodes history old new
  left_still leaves = record {
    same = subst (λ (v : StoreValue M). v ≡ record old { log = with_machine old.log v.log.machine; overlay = v.overlay })
        (sym lets.same) (ap (λ (v : StoreValue M). record v { overlay = new.overlay }) leaves.same);
    over = λ h told c lies. lies_still c (leaves.over h told c lies);
    nodes = λ h told c lies. nodes_still h told c (leaves.over h told c lies) ∙ leaves.nodes h told c lies;
    dirty = lets.dirty ∙ leaves.dirty;
  }

  -- so what was made stays made
  pub released_call : (now : ℕ) (call : Call) (made : FileStep) → MakesCall history faults old mid now call made → MakesCall history faults old new now call made
  released_call now call (step.Done reply) does = (
    tables_still does.0,
    λ h told c lies shelf numbered shows knows placed.
        let done = does.1 h told c lies shelf numbered shows knows placed in
        record {
          reply_is = done.reply_is;
          within = done.within;
          uses = record {
            tsegs = done.uses.tsegs;
            at_hand = done.uses.at_hand;
            lines = ap (λ (v : StoreValue M). v.lines) lets.same ∙ done.uses.lines;
          };
          over = lies_still c done.over;
          known = known_still h told c done.over _ done.known;
        },
  )
  released_call now call (step.Needs tseg) does = (left_still does.0, does.1)
  released_call now call step.NoSpace does = (left_still does.0, does.1)
  released_call now call step.DiskFault does = (left_still does.0, subst (λ (m : M). Rose (faults old.log.machine) (faults m)) (sym same_machine) does.1)
  released_call now call step.Memory does = left_still does
