-- What a store finds of its nodes.
use Rattle.std.specs.Prelude.{◌≡◌, ℕ, ◌+◌, ◌<◌, List, slice_index, Option, Some, None}
use Rattle.std.specs.FinMap.{get}
use Rattle.hl_media.specs.History.{History, MachineState}
use Rattle.hl_media.specs.Moments.{Now}
use Rattle.hl_media.specs.Causes.{Rose}
use Rattle.hl_bytes.specs.Fields.{zeros}
use Rattle.hl_lines.specs.Lines.{line_with}
use Rattle.hl_log.specs.Logs.{with_machine}
use Rattle.hl_tseg.specs.SlotTable.{slot_at}
use Rattle.hl_tseg.specs.Slots.{HoldsSerial}
use Rattle.hl_placed.specs.Blocks.{Away, Block, Here, Hole}
use Rattle.hl_paths.specs.Nodes.{FlatNode}
use Rattle.hl_nodes.specs.Contents.{Contents}
use Rattle.hl_nodes.specs.Lines.{line_start}
use Rattle.hl_overlay.specs.declared.draft.NodeDraft.{NodeDraft}
use Rattle.hl_overlay.specs.DraftTables.{draft_of}
use Rattle.hl_overlay.specs.Making.{used_of}
use Rattle.hl_store.specs.declared.answers.Node.{Node}
use Rattle.hl_store.specs.declared.answers.NodeFound.{NodeFound}
use Rattle.hl_store.specs.declared.answers.NodeFound.TheVariants as node
use Rattle.hl_store.specs.declared.answers.Found.{Found}
use Rattle.hl_store.specs.declared.answers.Found.TheVariants as found
use Rattle.hl_store.specs.declared.answers.Placed.{Placed}
use Rattle.hl_store.specs.declared.answers.Placed.TheVariants as placed
use Rattle.hl_store.specs.Values.{StoreValue, dirty_of, layout, nodes_of}
use Rattle.hl_store.specs.Lying.{LiesOver, block_of_number}

-- the block is resident
abbrev pub IsHere : Block → Type 0
IsHere Hole = ⊥
IsHere (Here bytes) = Unit {0}
IsHere (Away serial position) = ⊥

module _ {M : Type 0} where
  -- the store with another machine
  abbrev pub on_machine : StoreValue M → M → StoreValue M
  on_machine v m = record v { log = with_machine v.log m }

  -- each number that is drafted has the draft that it had
  abbrev pub KeepsDrafted : StoreValue M → StoreValue M → Type 0
  KeepsDrafted old new = (q : ℕ) (d : NodeDraft) → q < (layout old).inodes
      → draft_of old.overlay.drafts q ≡ Some d → draft_of new.overlay.drafts q ≡ Some d

  -- at this moment, whatever contents the store lies over, P holds of them
  abbrev pub OverNow : (M → Option History) → StoreValue M → (MachineState → Contents → Type 0)
      → Type 0
  OverNow history v P = Now (history v.log.machine) (λ s. (c : Contents) → LiesOver v c s → P s c)

  -- the store lies over the contents still, with the nodes that it had
  pub record KeepsNodes (old new : StoreValue M) (s : MachineState) (c : Contents) : Type 0 where
    pub over : LiesOver new c s
    pub nodes : nodes_of new c ≡ nodes_of old c

  -- Nodes may have been read into drafts: nothing is dirty by that, and each draft that there was is there.
  pub record ReadsNodes (history : M → Option History) (old new : StoreValue M) : Type 0 where
    pub same :
        new ≡ record old { log = with_machine old.log new.log.machine; overlay = new.overlay }
    pub keeps : OverNow history old (KeepsNodes old new)
    pub drafted : KeepsDrafted old new
    pub dirty : dirty_of new ≡ dirty_of old
    pub blocks : new.overlay.blocks ≡ old.overlay.blocks

  -- a line holds the segment of this serial, and the block of the line at this position has these bytes
  pub record IsInLine (v : StoreValue M) (s : MachineState) (serial position : ℕ)
      (bytes : List ℕ) : Type 0 where
    pub tseg : ℕ
    pub holds : HoldsSerial (slot_at v.tables.slots tseg) serial
    pub line : ℕ
    pub held : line_with v.lines.states tseg ≡ Some line
    pub within : position < (layout v).k
    pub bytes_are : s.content (line_start (layout v) line + position) ≡ bytes

  -- the slot holds the segment of this serial, and no line does
  pub record IsInNoLine (v : StoreValue M) (tseg serial : ℕ) : Type 0 where
    pub holds : HoldsSerial (slot_at v.tables.slots tseg) serial
    pub none : line_with v.lines.states tseg ≡ None

  -- a block's bytes are these: it is resident, or in a line
  abbrev pub HasBytes : StoreValue M → MachineState → Block → List ℕ → Type 0
  HasBytes v s Hole bytes = ⊥
  HasBytes v s (Here own) bytes = own ≡ bytes
  HasBytes v s (Away serial position) bytes = IsInLine v s serial position bytes

  -- it is away in the segment of this slot, which no line holds
  abbrev pub IsOutIn : StoreValue M → ℕ → Block → Type 0
  IsOutIn v tseg Hole = ⊥
  IsOutIn v tseg (Here bytes) = ⊥
  IsOutIn v tseg (Away serial position) = IsInNoLine v tseg serial

  -- it is this block of the segment of the slot
  abbrev pub IsAwayAt : StoreValue M → ℕ → ℕ → Block → Type 0
  IsAwayAt v tseg at Hole = ⊥
  IsAwayAt v tseg at (Here bytes) = ⊥
  IsAwayAt v tseg at (Away serial position) =
      HoldsSerial (slot_at v.tables.slots tseg) serial × (position ≡ at)

  -- block i of the node that a number has now is such
  abbrev pub BlockNow : (M → Option History) → StoreValue M → ℕ → ℕ
      → (MachineState → Block → Type 0) → Type 0
  BlockNow history v ino i Is = OverNow history v (λ s c. Is s (block_of_number v c ino i))

  -- Block i of a number is what was found: its bytes, a hole's zeros, or that its segment has no line. A fault comes only
  -- where the count rose.
  abbrev pub FindsBlock : (M → Option History) → (M → ℕ) → StoreValue M → StoreValue M → ℕ → ℕ
      → List ℕ → Found → Type 0
  FindsBlock history faults old new ino i out found.Bytes =
      BlockNow history old ino i (λ s block. HasBytes old s block out)
  FindsBlock history faults old new ino i out found.Hole =
      (out ≡ zeros 4096) × BlockNow history old ino i (λ s block. block ≡ Hole)
  FindsBlock history faults old new ino i out (found.Away tseg) =
      BlockNow history old ino i (λ s block. IsOutIn old tseg block)
  FindsBlock history faults old new ino i out found.DiskFault =
      Rose (faults old.log.machine) (faults new.log.machine)
  FindsBlock history faults old new ino i out found.Memory = Unit {0}

  -- Where block i of a number is.
  abbrev pub FindsPlace : (M → Option History) → (M → ℕ) → StoreValue M → StoreValue M → ℕ → ℕ
      → Placed → Type 0
  FindsPlace history faults old new ino i placed.Hole =
      BlockNow history old ino i (λ s block. block ≡ Hole)
  FindsPlace history faults old new ino i placed.Here =
      BlockNow history old ino i (λ s block. IsHere block)
  FindsPlace history faults old new ino i (placed.Away tseg at) =
      BlockNow history old ino i (λ s block. IsAwayAt old tseg at block)
  FindsPlace history faults old new ino i placed.DiskFault =
      Rose (faults old.log.machine) (faults new.log.machine)
  FindsPlace history faults old new ino i placed.Memory = Unit {0}

  -- a node without its blocks, with the last use that the store knows
  pub record IsNodeFound (v : StoreValue M) (ino : ℕ) (node : Node) (n : FlatNode) : Type 0 where
    pub kind : node.kind ≡ n.kind
    pub size : node.size ≡ n.content.size
    pub used : node.used ≡ used_of n.kind (slice_index v.uses ino)

  -- the number has the node
  pub record HasNodeFound (v : StoreValue M) (ino : ℕ) (node : Node) (s : MachineState)
      (c : Contents) : Type 0 where
    pub n : FlatNode
    pub has : get (nodes_of v c) ino ≡ Some n
    pub is : IsNodeFound v ino node n

  -- The node of a number is what was found.
  abbrev pub FindsNode : (M → Option History) → (M → ℕ) → StoreValue M → StoreValue M → ℕ
      → NodeFound → Type 0
  FindsNode history faults old new ino (node.Node v) = OverNow history old (HasNodeFound old ino v)
  FindsNode history faults old new ino node.Unused =
      OverNow history old (λ s c. get (nodes_of old c) ino ≡ None)
  FindsNode history faults old new ino node.DiskFault =
      Rose (faults old.log.machine) (faults new.log.machine)
  FindsNode history faults old new ino node.Memory = Unit {0}
