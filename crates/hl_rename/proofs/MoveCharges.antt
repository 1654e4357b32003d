-- What the nodes are charged once directories are put and a number is free, and whether the quota allows it.
use Rattle.std.proofs.Common.{arith, ◌≡◌, ℕ, ◌+◌, ◌≤◌, Bool, length, Option, Some, None, IsSome, refl, ap, ◌∙◌, sym, subst}
use Rattle.hl_addr.specs.Layout.{quota}
use Rattle.hl_placed.specs.Blocks.{PlacedFile}
use Rattle.hl_paths.specs.Charges.{nodes_charge}
use Rattle.hl_paths.specs.Numbered.{Numbering, without_number}
use Rattle.hl_store.specs.Values.{StoreValue, layout}
use Rattle.hl_calls.specs.declared.growth.Growth.{Growth}
use Rattle.hl_calls.specs.Growths.{Grows, directory_charge, exceeds}
use Rattle.hl_links.specs.declared.changing.DirectoryChange.{DirectoryChange}
use Rattle.hl_links.specs.Links.{Relinks}
use Rattle.hl_links.proofs.LinkCharges.{charge_freed, charge_less, charge_relinked, exceeds_less}
use Rattle.hl_rename.specs.Moves.{HadSize, PutsBothSized, PutsSized, TellsQuota, both_growth, put_growth}

-- A NUMBER THAT GOES changes nothing of what the quota says, where the charge didn't grow before
exceeds_freed : (most charge : ℕ) (nodes : Numbering PlacedFile) (target : Option ℕ) (over : Bool) → over ≡ exceeds most charge (nodes_charge nodes) → (IsSome target → nodes_charge nodes ≤ charge)
    → exceeds most charge (nodes_charge (without_number target nodes)) ≡ over
exceeds_freed most charge nodes None over is less = sym is
exceeds_freed most charge nodes (Some number) over is less =
    let low : nodes_charge nodes ≤ charge = less refl in
    let freed = charge_freed nodes number in
    exceeds_less most charge (nodes_charge (without_number (Some number) nodes)) (omega arith) ∙ sym (exceeds_less most charge (nodes_charge nodes) low) ∙ sym is

-- ONE DIRECTORY of other entries
put_charge : (size : ℕ) (change : DirectoryChange) (target : Option ℕ) (before between : Numbering PlacedFile) (links : Relinks change before between) → HadSize size change target links.had
    → nodes_charge between + directory_charge size ≡ nodes_charge before + directory_charge (length change.bytes.items)
put_charge size change target before between links sized = ap (λ n. nodes_charge between + directory_charge n) (sym sized.is) ∙ charge_relinked change before between links

-- which has no more bytes where a number goes
put_less : (size : ℕ) (change : DirectoryChange) (target : Option ℕ) (before between : Numbering PlacedFile) (links : Relinks change before between) → HadSize size change target links.had
    → IsSome target → nodes_charge between ≤ nodes_charge before
put_less size change target before between links sized some =
    let sum = put_charge size change target before between links sized in
    let less = charge_less (length change.bytes.items) size (sized.less some) in
    omega arith

both_sums : (after middle before had has to_had to_has : ℕ) → middle + had ≡ before + has → after + to_had ≡ middle + to_has → after + (had + to_had) ≡ before + (has + to_has)
both_sums after middle before had has to_had to_has one two = omega arith

module _ {M : Type 0} (v : StoreValue M) (over : Bool) where
  -- what is said of each charge that grows so
  abbrev pub IsOver : Growth → Type 0
  IsOver growth = (after : ℕ) → Grows growth v.tally.charge after → over ≡ exceeds (quota (layout v)) v.tally.charge after

  pub told_over : (result : Bool) (growth is : Growth) → growth ≡ is → ((after : ℕ) → Grows growth v.tally.charge after → result ≡ exceeds (quota (layout v)) v.tally.charge after) → result ≡ over → IsOver is
  told_over result growth is same says so after grows = sym so ∙ says after (subst (λ (g : Growth). Grows g v.tally.charge after) (sym same) grows)

  -- IT TELLS THE QUOTA where one directory is put
  pub tells_one : (size : ℕ) (change : DirectoryChange) (target : Option ℕ) → IsOver (put_growth size (length change.bytes.items)) → TellsQuota v (PutsSized size change target) over
  tells_one size change target is before after charge sized =
      let puts = sized.puts in
      let sum = put_charge size change target before puts.between puts.relinks sized.sized in
      let grows : nodes_charge puts.between + directory_charge size ≡ v.tally.charge + directory_charge (length change.bytes.items) = sum ∙ ap (λ n. n + directory_charge (length change.bytes.items)) charge in
      ap (λ (ns : Numbering PlacedFile). exceeds (quota (layout v)) (nodes_charge before) (nodes_charge ns)) puts.freed
      ∙ exceeds_freed (quota (layout v)) (nodes_charge before) puts.between target over
      (is (nodes_charge puts.between) grows ∙ ap (λ n. exceeds (quota (layout v)) n (nodes_charge puts.between)) (sym charge))
      (put_less size change target before puts.between puts.relinks sized.sized)

  -- and where two are
  pub tells_two : (size : ℕ) (left : DirectoryChange) (to_size : ℕ) (joined : DirectoryChange) (target : Option ℕ) → IsOver (both_growth (put_growth size (length left.bytes.items)) (put_growth to_size (length joined.bytes.items)))
      → TellsQuota v (PutsBothSized size left to_size joined target) over
  tells_two size left to_size joined target is before after charge sized =
      let one = sized.puts in
      let two = sized.puts.rest in
      let sum = both_sums (nodes_charge two.between) (nodes_charge one.between) (nodes_charge before) (directory_charge size) (directory_charge (length left.bytes.items)) (directory_charge to_size) (directory_charge (length joined.bytes.items))
      (put_charge size left target before one.between one.relinks sized.sized) (put_charge to_size joined target one.between two.between two.relinks sized.to_sized) in
      let grows : nodes_charge two.between + (directory_charge size + directory_charge to_size) ≡ v.tally.charge + (directory_charge (length left.bytes.items) + directory_charge (length joined.bytes.items))
      = sum ∙ ap (λ n. n + (directory_charge (length left.bytes.items) + directory_charge (length joined.bytes.items))) charge in
      ap (λ (ns : Numbering PlacedFile). exceeds (quota (layout v)) (nodes_charge before) (nodes_charge ns)) two.freed
      ∙ exceeds_freed (quota (layout v)) (nodes_charge before) two.between target over
      (is (nodes_charge two.between) grows ∙ ap (λ n. exceeds (quota (layout v)) n (nodes_charge two.between)) (sym charge))
      (λ some.
      let first = put_less size left target before one.between one.relinks sized.sized some in
      let second = put_less to_size joined target one.between two.between two.relinks sized.to_sized some in
      omega arith)
