-- What a store that was read needs, the store before needs.
use Rattle.std.proofs.Common.{◌≡◌, ℕ, List, [], ◌∷◌, ◌++◌, Option, Some, None, sym, ◌∙◌, ap, subst}
use Rattle.std.specs.FinMap.{get}
use Rattle.std.proofs.lemmas.Option.{none-some, same_Some}
use Rattle.hl_media.specs.History.{History}
use Rattle.hl_log.specs.Logs.{OnlyReads}
use Rattle.hl_paths.specs.Nodes.{FlatNode}
use Rattle.hl_placed.specs.Blocks.{PlacedFile, Shelf}
use Rattle.hl_nodes.specs.Contents.{Contents}
use Rattle.hl_store.specs.declared.answers.Node.{Node}
use Rattle.hl_store.specs.Values.{StoreValue, nodes_of}
use Rattle.hl_store.specs.Finding.{HasNodeFound, OverNow, ReadsNodes}
use Rattle.hl_store.proofs.ReadRuns.{rose_since}
use Rattle.hl_ranges.specs.declared.needs.Needed.{Needed}
use Rattle.hl_ranges.specs.declared.needs.Needed.TheVariants as needed
use Rattle.hl_ranges.specs.Files.{OfFile, file_node}
use Rattle.hl_ranges.specs.Needs.{AreAtHand, FindsNeeds, IsFirstMissing}
use Rattle.hl_ranges.proofs.ReadSteps.{holds_before, line_before, of_file_before}

module _ {M : Type 0} (history : M → Option History) (v : StoreValue M) (ino : ℕ) where
  -- a number that isn't in use has no file
  pub unused_file : (P : Contents → Shelf → PlacedFile → Type 0) → OverNow history v (λ s c. get (nodes_of v c) ino ≡ None) → OfFile history v ino P
  unused_file P none = λ h e c lies shelf file lines has. absurd (none-some (file_node file) (sym (none h e c lies) ∙ has.has))

  -- the size that was found of a number is that of its file
  pub size_found : (node : Node) → OverNow history v (HasNodeFound v ino node) → OfFile history v ino (λ c shelf file. node.size ≡ file.size)
  size_found node found = λ h e c lies shelf file lines has.
      let one = found h e c lies in
      one.is.size ∙ ap (λ (n : FlatNode). n.content.size) (same_Some one.n (file_node file) (sym one.has ∙ has.has))

module _ {M : Type 0} {history : M → Option History} {old mid : StoreValue M} (reads : ReadsNodes history old mid) where
  -- the slots that are at hand by a store that was read are so by the store before
  at_hand_before : (tsegs serials : List ℕ) → AreAtHand mid tsegs serials → AreAtHand old tsegs serials
  at_hand_before [] [] hands = tt
  at_hand_before [] (serial ∷ serials) hands = absurd hands
  at_hand_before (tseg ∷ tsegs) [] hands = absurd hands
  at_hand_before (tseg ∷ tsegs) (serial ∷ serials) hands = (
    record { holds = holds_before reads tseg serial hands.0.holds; line = hands.0.line; held = line_before reads tseg (Some hands.0.line) hands.0.held },
    at_hand_before tsegs serials hands.1,
  )

  -- so is the first that is missing
  missing_before : (tseg : ℕ) (serials : List ℕ) → IsFirstMissing mid tseg serials → IsFirstMissing old tseg serials
  missing_before tseg serials is = record {
    before = is.before;
    serial = is.serial;
    behind = is.behind;
    are = is.are;
    tsegs = is.tsegs;
    at_hand = at_hand_before is.tsegs is.before is.at_hand;
    missing = record { holds = holds_before reads tseg is.serial is.missing.holds; none = line_before reads tseg None is.missing.none };
  }

  -- what was found behind reads, of the same needs, is so before them
  pub needs_before : {blocks faults write_faults say_faults : M → ℕ} → OnlyReads history blocks faults write_faults say_faults old.log.machine mid.log.machine
      → (new : StoreValue M) (ino : ℕ) (own needs : PlacedFile → List ℕ) → OfFile history old ino (λ c shelf file. own file ≡ needs file)
      → (before tsegs : List ℕ) (found : Needed) → FindsNeeds history faults mid new ino own before tsegs found → FindsNeeds history faults old new ino needs before tsegs found
  needs_before machine new ino own needs same before tsegs needed.AtHand finds = λ h e c lies shelf file lines has.
      let told = of_file_before old mid ino (λ c shelf file. (hands : List ℕ) × (tsegs ≡ before ++ hands) × AreAtHand mid hands (own file)) reads machine finds h e c lies shelf file lines has in
      (told.0, told.1, subst (AreAtHand old told.0) (same h e c lies shelf file lines has) (at_hand_before told.0 (own file) told.2))
  needs_before machine new ino own needs same before tsegs (needed.Missing tseg) finds = λ h e c lies shelf file lines has.
      let told = of_file_before old mid ino (λ c shelf file. IsFirstMissing mid tseg (own file)) reads machine finds h e c lies shelf file lines has in
      subst (IsFirstMissing old tseg) (same h e c lies shelf file lines has) (missing_before tseg (own file) told)
  needs_before machine new ino own needs same before tsegs needed.DiskFault finds = rose_since _ _ _ machine.faults_most finds
  needs_before machine new ino own needs same before tsegs needed.Memory finds = tt
