-- What a call does with the file that a number has.
use Rattle.std.specs.Prelude.{◌≡◌, ℕ, Bool, true, false, List, Option, Some}
use Rattle.std.specs.FinMap.{get, insert}
use Rattle.hl_media.specs.Causes.{Rose}
use Rattle.hl_media.specs.History.{History}
use Rattle.hl_media.specs.Moments.{Now}
use Rattle.hl_addr.specs.Layout.{quota}
use Rattle.hl_tree.specs.declared.call.Reply.{Reply}
use Rattle.hl_tree.specs.declared.call.Reply.TheVariants as replies
use Rattle.hl_tree.specs.Contents.{read_at}
use Rattle.hl_placed.specs.Blocks.{PlacedFile, Shelf, plain_bytes}
use Rattle.hl_placed.specs.Calls.{cut_needs, read_needs, write_needs}
use Rattle.hl_placed.specs.Changes.{cut_file, used_at, written_file}
use Rattle.hl_paths.specs.Charges.{nodes_charge}
use Rattle.hl_paths.specs.Numbered.{Leaf, Numbering}
use Rattle.hl_nodes.specs.Contents.{Contents}
use Rattle.hl_store.specs.Values.{StoreValue, layout}
use Rattle.hl_store.specs.Lying.{LiesOver}
use Rattle.hl_store.specs.Finding.{ReadsNodes}
use Rattle.hl_ranges.specs.Needs.{IsFirstMissing}
use Rattle.hl_walk.specs.Trees.{AreKnown}
use Rattle.hl_calls.specs.declared.step.FileStep.{FileStep}
use Rattle.hl_calls.specs.declared.step.FileStep.TheVariants as step
use Rattle.hl_calls.specs.Calls.{KeepsTables, UsesLines}
use Rattle.hl_calls.specs.Growths.{exceeds}
use Rattle.hl_calls.specs.Trees.{OfFiles}

-- the segments whose bytes a call reads of a file, what it makes of the file, and what it replies
pub record FileWork : Type 0 where
  pub needs : PlacedFile → List ℕ
  pub change : Shelf → PlacedFile → PlacedFile
  pub reply : Shelf → PlacedFile → Reply

-- a read
abbrev pub reading : ℕ → ℕ → ℕ → FileWork
reading now at len = record {
  needs = read_needs at len;
  change = λ shelf file. used_at now file;
  reply = λ shelf file. replies.Data (read_at (plain_bytes shelf file) at len);
}

-- a write
abbrev pub writing : ℕ → ℕ → List ℕ → FileWork
writing now at bytes = record {
  needs = write_needs at bytes;
  change = λ shelf file. written_file shelf file at bytes now;
  reply = λ shelf file. replies.Ok;
}

-- a cut
abbrev pub cutting : ℕ → ℕ → FileWork
cutting now size = record {
  needs = cut_needs size;
  change = λ shelf file. cut_file shelf file size now;
  reply = λ shelf file. replies.Ok;
}

-- the nodes that are left where it is done with the file of a number
abbrev pub left_by : FileWork → ℕ → Shelf → Numbering PlacedFile → PlacedFile
    → Numbering PlacedFile
left_by work number shelf numbered file = insert numbered number (Leaf (work.change shelf file))

module _ {M : Type 0} where
  -- at this moment, whatever contents the store lies over and whatever shelf its lines show, P holds of the file that a
  -- number has in the tree that its nodes make
  abbrev pub OfLeaf : (M → Option History) → StoreValue M → ℕ
      → (Contents → Shelf → Numbering PlacedFile → PlacedFile → Type 0) → Type 0
  OfLeaf history v number P = OfFiles history v (λ c shelf numbered. (file : PlacedFile)
      → get numbered number ≡ Some (Leaf file) → P c shelf numbered file)

  -- the charge is above the quota behind it, and grows
  abbrev pub is_over_by : StoreValue M → FileWork → ℕ → Shelf → Numbering PlacedFile → PlacedFile
      → Bool
  is_over_by v work number shelf numbered file = exceeds (quota (layout v)) (nodes_charge numbered)
      (nodes_charge (left_by work number shelf numbered file))

  -- whether it is so
  abbrev pub TellsOver : (M → Option History) → StoreValue M → ℕ → FileWork → Bool → Type 0
  TellsOver history v number work over = OfLeaf history v number
      (λ c shelf numbered file. over ≡ is_over_by v work number shelf numbered file)

  -- it was done: the nodes that are left are those, with their last uses
  pub record IsWorkDone (history : M → Option History) (old new : StoreValue M) (reply : Reply)
      (work : FileWork) (number : ℕ) (c : Contents) (shelf : Shelf)
      (numbered : Numbering PlacedFile) (file : PlacedFile) : Type 0 where
    pub reply_is : reply ≡ work.reply shelf file
    pub within : is_over_by old work number shelf numbered file ≡ false
    pub uses : UsesLines old new (work.needs file)
    pub over : Now (history new.log.machine) (λ s. LiesOver new c s)
    pub known : AreKnown new c (left_by work number shelf numbered file)

  -- the quota allows it, and this slot's segment is the first that it needs and no line holds
  pub record IsWorkNeeding (old : StoreValue M) (tseg : ℕ) (work : FileWork) (number : ℕ)
      (shelf : Shelf) (numbered : Numbering PlacedFile) (file : PlacedFile) : Type 0 where
    pub within : is_over_by old work number shelf numbered file ≡ false
    pub first : IsFirstMissing old tseg (work.needs file)

  -- What is done with the file of a number. Where it isn't done no more than reads was made; a fault comes only where the
  -- count rose.
  abbrev pub DoesWork : (M → Option History) → (M → ℕ) → StoreValue M → StoreValue M → ℕ → FileWork
      → FileStep → Type 0
  DoesWork history faults old new number work (step.Done reply) = KeepsTables old new
      × OfLeaf history old number (λ c shelf numbered file.
      IsWorkDone history old new reply work number c shelf numbered file)
  DoesWork history faults old new number work (step.Needs tseg) = ReadsNodes history old new
      × OfLeaf history old number (λ c shelf numbered file.
      IsWorkNeeding old tseg work number shelf numbered file)
  DoesWork history faults old new number work step.NoSpace = ReadsNodes history old new
      × TellsOver history old number work true
  DoesWork history faults old new number work step.DiskFault = ReadsNodes history old new
      × Rose (faults old.log.machine) (faults new.log.machine)
  DoesWork history faults old new number work step.Memory = ReadsNodes history old new
