-- Work on a file that isn't done.
use Rattle.std.proofs.Common.{◌≡◌, ℕ, ◌+◌, Bool, false, List, [], ◌++◌, Option, Some, ◌∙◌, ap, sym, subst, arith}
use Rattle.std.specs.FinMap.{get}
use Rattle.hl_media.specs.History.{History, state_now}
use Rattle.hl_addr.specs.Layout.{Layout, quota}
use Rattle.hl_tree.specs.declared.call.Reply.TheVariants as replies
use Rattle.hl_tree.specs.Contents.{read_at}
use Rattle.hl_placed.specs.Blocks.{PlacedFile, Shelf, plain_bytes}
use Rattle.hl_placed.specs.Changes.{used_at}
use Rattle.hl_placed.specs.Charges.{blocks_charge}
use Rattle.hl_paths.specs.Charges.{nodes_charge}
use Rattle.hl_paths.specs.Numbered.{Leaf, Numbering}
use Rattle.hl_store.specs.Values.{StoreValue, layout}
use Rattle.hl_store.specs.Finding.{ReadsNodes}
use Rattle.hl_ranges.specs.declared.ranges.RangeStep.{RangeStep}
use Rattle.hl_ranges.specs.declared.ranges.RangeStep.TheVariants as range
use Rattle.hl_ranges.specs.Files.{OfFile}
use Rattle.hl_ranges.specs.Needs.{AreAtHand, IsFirstMissing}
use Rattle.hl_ranges.specs.Writing.{Stops}
use Rattle.hl_walk.proofs.KeptTrees.{layout_kept}
use Rattle.hl_calls.specs.declared.growth.Growth.{Growth}
use Rattle.hl_calls.specs.declared.step.FileStep.TheVariants as step
use Rattle.hl_calls.specs.Calls.{stopped_step}
use Rattle.hl_calls.specs.Growths.{Grows, exceeds}
use Rattle.hl_calls.proofs.FileReads.{OnlyRead, of_file_before}
use Rattle.hl_calls.proofs.Quotas.{exceeds-same, nodes_charge-replaced, tally_charge-tree}
use Rattle.hl_data.specs.ByNumber.{DoesWork, FileWork, OfLeaf, TellsOver, left_by, reading}
use Rattle.hl_data.proofs.Before.{at_hand_before, missing_before}
use Rattle.hl_data.proofs.TreeFiles.{IgnoresUse, leaf_node, leaf_of_file, reading_ignores}

same_sum : (x y b : ℕ) → x + b ≡ y + b → x ≡ y
same_sum x y b e = omega arith

more_sum : (after before own was added removed : ℕ) → own + removed ≡ was + added → after + was ≡ before + own → after + removed ≡ before + added
more_sum after before own was added removed grows all = omega arith

-- A USE is charged nothing
pub use_within : (quota : ℕ) (numbered : Numbering PlacedFile) (number now : ℕ) (at len : ℕ) (shelf : Shelf) (file : PlacedFile) → get numbered number ≡ Some (Leaf file)
    → exceeds quota (nodes_charge numbered) (nodes_charge (left_by (reading now at len) number shelf numbered file)) ≡ false
use_within quota numbered number now at len shelf file there =
    let after : ℕ = nodes_charge (left_by (reading now at len) number shelf numbered file) in
    let same : after ≡ nodes_charge numbered = same_sum after (nodes_charge numbered) (blocks_charge file.blocks)
    (nodes_charge-replaced numbered number (Leaf file) (Leaf ((reading now at len).change shelf file)) there) in
    ap (λ (n : ℕ). exceeds quota (nodes_charge numbered) n) same ∙ exceeds-same quota (nodes_charge numbered)

module _ {M : Type 0} (history : M → Option History) (faults : M → ℕ) (old new : StoreValue M) (number : ℕ) (work : FileWork) where
  -- it stopped while it read
  pub work_stopped : (why : RangeStep) → ReadsNodes history old new → Stops faults old new why → DoesWork history faults old new number work (stopped_step why)
  work_stopped range.Done reads stops = absurd stops
  work_stopped range.DiskFault reads stops = (reads, stops)
  work_stopped range.Memory reads stops = reads

module _ {M : Type 0} (history : M → Option History) (old : StoreValue M) (number : ℕ) (work : FileWork) (ignores : IgnoresUse work) where
  -- WHETHER THE CHARGE GROWS above the quota, by how much the file's does
  pub over_by_growth : (new : StoreValue M) → ReadsNodes history old new → (growth : Growth) (over : Bool)
      → OfFile history old number (λ c shelf file. Grows growth (blocks_charge file.blocks) (blocks_charge (work.change shelf file).blocks))
      → ((after : ℕ) → Grows growth new.tally.charge after → over ≡ exceeds (quota (layout new)) new.tally.charge after)
      → TellsOver history old number work over
  over_by_growth new reads growth over found tells h told c lies shelf numbered shows knows placed file there =
      let one = leaf_node old c shelf numbered knows placed number file there in
      let after : ℕ = nodes_charge (left_by work number shelf numbered file) in
      let charge : new.tally.charge ≡ nodes_charge numbered =
      ap (λ (v : StoreValue M). v.tally.charge) reads.same ∙ tally_charge-tree old c (state_now h) lies numbered knows in
      let own : Grows growth (blocks_charge file.blocks) (blocks_charge (work.change shelf file).blocks) =
      subst (λ (f : PlacedFile). Grows growth (blocks_charge file.blocks) (blocks_charge f.blocks)) (ignores.change shelf one.0 file) (found h told c lies shelf (used_at one.0 file) shows one.1) in
      let all : Grows growth (nodes_charge numbered) after =
      more_sum after (nodes_charge numbered) (blocks_charge (work.change shelf file).blocks) (blocks_charge file.blocks) growth.added growth.removed own
      (nodes_charge-replaced numbered number (Leaf file) (Leaf (work.change shelf file)) there) in
      tells after (subst (λ (n : ℕ). Grows growth n after) (sym charge) all)
      ∙ ap (λ (g : Layout). exceeds (quota g) new.tally.charge after) (layout_kept history old new reads)
      ∙ ap (λ (n : ℕ). exceeds (quota (layout old)) n after) charge

  -- what is at hand for the file
  hands_by_need : (before tsegs slice : List ℕ) → before ≡ [] → slice ≡ tsegs
      → OfFile history old number (λ c shelf file. (own : List ℕ) × (tsegs ≡ before ++ own) × AreAtHand old own (work.needs file))
      → OfLeaf history old number (λ c shelf numbered file. AreAtHand old slice (work.needs file))
  hands_by_need before tsegs slice none same found = leaf_of_file history old number (λ c shelf file. AreAtHand old slice (work.needs file))
      (λ c shelf file used hands. subst (AreAtHand old slice) (ignores.needs used file) hands)
      (λ h told c lies shelf file shows has.
      let own = found h told c lies shelf file shows has in
      subst (λ (ts : List ℕ). AreAtHand old ts (work.needs file)) (sym (same ∙ own.1 ∙ ap (λ (b : List ℕ). b ++ own.0) none)) own.2)

  module _ {blocks faults write_faults say_faults : M → ℕ} (mid : StoreValue M) (behind : OnlyRead history blocks faults write_faults say_faults old mid) where
    -- WHAT IS AT HAND for the file, found behind reads
    pub hands_behind : (before tsegs slice : List ℕ) → before ≡ [] → slice ≡ tsegs
        → OfFile history mid number (λ c shelf file. (own : List ℕ) × (tsegs ≡ before ++ own) × AreAtHand mid own (work.needs file))
        → OfLeaf history old number (λ c shelf numbered file. AreAtHand old slice (work.needs file))
    hands_behind before tsegs slice none same found = hands_by_need before tsegs slice none same (λ h told c lies shelf file shows has.
        let own = of_file_before behind number (λ c shelf file. (own : List ℕ) × (tsegs ≡ before ++ own) × AreAtHand mid own (work.needs file)) found h told c lies shelf file shows has in
        (own.0, own.1, at_hand_before history old mid behind.reads own.0 (work.needs file) own.2))

    -- WHAT IS MISSING of it
    pub work_needing : (new : StoreValue M) → ReadsNodes history old new → (tseg : ℕ) → TellsOver history old number work false
        → OfFile history mid number (λ c shelf file. IsFirstMissing mid tseg (work.needs file)) → DoesWork history faults old new number work (step.Needs tseg)
    work_needing new reads tseg within found = (
      reads,
      λ h told c lies shelf numbered shows knows placed file there. record {
        within = sym (within h told c lies shelf numbered shows knows placed file there);
        first = leaf_of_file history old number (λ c shelf file. IsFirstMissing old tseg (work.needs file))
            (λ c shelf file used is. subst (IsFirstMissing old tseg) (ignores.needs used file) is)
            (λ h told c lies shelf file shows has. missing_before history old mid behind.reads tseg (work.needs file)
            (of_file_before behind number (λ c shelf file. IsFirstMissing mid tseg (work.needs file)) found h told c lies shelf file shows has))
            h told c lies shelf numbered shows knows placed file there;
      },
    )

-- A READ
module _ {M : Type 0} (history : M → Option History) (old : StoreValue M) (number now at len : ℕ) where
  -- it is never over the quota
  pub reading_fits : TellsOver history old number (reading now at len) false
  reading_fits h told c lies shelf numbered shows knows placed file there = sym (use_within (quota (layout old)) numbered number now at len shelf file there)

  -- and replies what was read
  pub reply_read : {blocks faults write_faults say_faults : M → ℕ} (mid : StoreValue M) → OnlyRead history blocks faults write_faults say_faults old mid
      → (before out bytes : List ℕ) → before ≡ [] → bytes ≡ out → OfFile history mid number (λ c shelf file. out ≡ before ++ read_at (plain_bytes shelf file) at len)
      → OfLeaf history old number (λ c shelf numbered file. replies.Data bytes ≡ (reading now at len).reply shelf file)
  reply_read mid behind before out bytes none same found = leaf_of_file history old number (λ c shelf file. replies.Data bytes ≡ (reading now at len).reply shelf file)
      (λ c shelf file used is. is ∙ (reading_ignores now at len).reply shelf used file)
      (λ h told c lies shelf file shows has.
      let read = of_file_before behind number (λ c shelf file. out ≡ before ++ read_at (plain_bytes shelf file) at len) found h told c lies shelf file shows has in
      ap (λ (b : List ℕ). replies.Data b) (same ∙ read ∙ ap (λ (b : List ℕ). b ++ read_at (plain_bytes shelf file) at len) none))
