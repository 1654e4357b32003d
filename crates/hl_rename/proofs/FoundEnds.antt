-- What is found of the two ends of a rename.
use Rattle.std.proofs.Common.{arith, ◌≡◌, ℕ, ◌<◌, ◌≤◌, Bool, true, false, not, nat_eq, List, [], ◌∷◌, ◌++◌, length, Option, Some, None, Result, Ok, Err, refl, ap, ◌∙◌, sym, subst, length-append}
use Rattle.std.specs.Prelude.{if◌then◌else◌}
use Rattle.std.specs.FinMap.{get}
use Rattle.std.proofs.lemmas.Bool.Decides.{nat_tests}
use Rattle.hl_media.specs.History.{History}
use Rattle.hl_media.specs.Moments.{Runs}
use Rattle.hl_log.specs.Rest.{IsUnchanged}
use Rattle.hl_bytes.specs.Fields.{le32}
use Rattle.hl_inode.specs.declared.inode.Kind.{Kind}
use Rattle.hl_inode.specs.declared.inode.Kind.TheVariants.{Dir, File}
use Rattle.hl_tree.specs.declared.call.Refusal.{Refusal}
use Rattle.hl_tree.specs.declared.call.Refusal.TheVariants.{Eisdir, Enoent, Enotdir, Enotempty}
use Rattle.hl_tree.specs.Refusals.{◌>>=◌, refused_if}
use Rattle.hl_dir.specs.declared.entry.Entry.{Entry}
use Rattle.hl_dir.specs.Dirs.{dir_bytes, entry_bytes}
use Rattle.hl_placed.specs.Blocks.{PlacedFile}
use Rattle.hl_paths.specs.ByNumbers.{is_directory_node, may_replace}
use Rattle.hl_paths.specs.Entries.{entry_number}
use Rattle.hl_paths.specs.Finding.{Parent, find_parent, last_name, named, parent_with}
use Rattle.hl_paths.specs.Numbered.{NumberedNode, Numbering}
use Rattle.hl_paths.proofs.Links.{none_some, true_false}
use Rattle.hl_entries.specs.Places.{IfSpells}
use Rattle.hl_store.specs.declared.answers.Node.{Node}
use Rattle.hl_store.specs.Values.{StoreValue}
use Rattle.hl_store.specs.Shapes.{IsNumber}
use Rattle.hl_store.specs.Finding.{HasNodeFound, OverNow, ReadsNodes}
use Rattle.hl_store.proofs.ReadRuns.{rose_since}
use Rattle.hl_ranges.specs.Directories.{HasDirectoryDraft, directory_shape}
use Rattle.hl_walk.specs.declared.walk.Halt.{Halt}
use Rattle.hl_walk.specs.declared.walk.Halt.TheVariants as halt
use Rattle.hl_walk.specs.declared.walk.ParentFound.{ParentFound}
use Rattle.hl_walk.specs.Trees.{OfTree}
use Rattle.hl_walk.specs.Walks.{Halts, HasNoParent, HasParent}
use Rattle.hl_walk.proofs.KeptTrees.{number_before, number_kept}
use Rattle.hl_calls.specs.declared.step.FileStep.{FileStep}
use Rattle.hl_calls.specs.declared.step.FileStep.TheVariants as step
use Rattle.hl_links.specs.Links.{StopsBefore, why_kept}
use Rattle.hl_links.proofs.FoundLinks.{Stands, stands_before}
use Rattle.hl_links.proofs.LinkedTrees.{shape_still}
use Rattle.hl_rename.specs.RenameEnds.{HasNoSource, HasNoTarget, HasSource, HasTarget, halt_of, is_dir, source_in, standing, target_in}

-- A NODE'S KIND is that of what stands under its number
kind_stands : (kind : Kind) (size : ℕ) (o : Option (NumberedNode PlacedFile)) → Stands kind size o → is_directory_node o ≡ is_dir kind
kind_stands File size o stands = ap is_directory_node stands.1
kind_stands Dir size o stands = ap is_directory_node stands.1

apart : (n : ℕ) → 0 < n → nat_eq n 0 ≡ false
apart n some = grind (arith, nat_tests)

size_none : (size : ℕ) → nat_eq size 0 ≡ true → size ≡ 0
size_none size is = grind arith

-- a directory of no bytes has no entries, and one of some has some
no_bytes : (es : List Entry) (size : ℕ) → size ≡ length (dir_bytes es) → nat_eq size 0 ≡ true → nat_eq (length es) 0 ≡ true
unfolding dir_bytes
no_bytes [] size is none = refl
no_bytes (e ∷ es) size is none =
    let whole = length-append (entry_bytes e) (dir_bytes es) in
    let front = length-append (le32 e.ino ++ length e.name ∷ []) e.name in
    let number = length-append (le32 e.ino) (length e.name ∷ []) in
    let zero_is = size_none size none in
    absurd (omega arith)

some_bytes : (es : List Entry) (size : ℕ) → size ≡ length (dir_bytes es) → nat_eq size 0 ≡ false → nat_eq (length es) 0 ≡ false
unfolding dir_bytes
some_bytes [] size is some = absurd (true_false (ap (λ n. nat_eq n 0) (sym is) ∙ some))
some_bytes (e ∷ es) size is some = apart (length (e ∷ es)) (omega arith)

-- what is decided of a size
full_if : (b : Bool) (why : Refusal) → (if b then None else Some Enotempty) ≡ Some why → (b ≡ false) × (Enotempty ≡ why)
full_if true why is = absurd (none_some is)
full_if false why is = (refl, (let same : Some Enotempty ≡ Some why = is in cc))

empty_if : (b : Bool) → (if b then None else Some Enotempty) ≡ None → b ≡ true
empty_if true is = refl
empty_if false is = absurd (none_some (sym is))

module _ (node : Option (NumberedNode PlacedFile)) where
  -- WHAT STAYS may not be replaced
  replaced_not : (kind is : Kind) (size : ℕ) (why : Refusal) → Stands is size node → why_kept kind is size ≡ Some why → may_replace (is_dir kind) node ≡ Err why
  replaced_not File File size why stands kept = absurd (none_some kept)
  replaced_not File Dir size why stands kept = ap (may_replace false) stands.1 ∙ (let same : Eisdir ≡ why = cc in ap Err same)
  replaced_not Dir File size why stands kept = ap (may_replace true) stands.1 ∙ (let same : Enotdir ≡ why = cc in ap Err same)
  replaced_not Dir Dir size why stands kept =
      let full = full_if (nat_eq size 0) why kept in
      ap (may_replace true) stands.1 ∙ ap (λ b. refused_if (not b) Enotempty) (some_bytes stands.0 size stands.2 full.0) ∙ ap Err full.1

  -- and what doesn't may
  replaced_so : (kind is : Kind) (size : ℕ) → Stands is size node → why_kept kind is size ≡ None → may_replace (is_dir kind) node ≡ Ok tt
  replaced_so File File size stands goes = ap (may_replace false) stands.1
  replaced_so File Dir size stands goes = absurd (none_some (sym goes))
  replaced_so Dir File size stands goes = absurd (none_some (sym goes))
  replaced_so Dir Dir size stands goes =
      ap (may_replace true) stands.1 ∙ ap (λ b. refused_if (not b) Enotempty) (no_bytes stands.0 size stands.2 (empty_if (nat_eq size 0) goes))

-- where nothing stands anything may
replaced_none : (kind : Kind) → may_replace {B = PlacedFile} (is_dir kind) None ≡ Ok tt
replaced_none File = refl
replaced_none Dir = refl

module _ (numbered : Numbering PlacedFile) (path : List (List ℕ)) where
  -- THE ENDS by the parent and the number of the last name
  source_by : (number : ℕ) (es : List Entry) (o : Option ℕ) → find_parent numbered path ≡ Ok (parent_with number es) → entry_number es (last_name path) ≡ o → source_in numbered path ≡ named o
  source_by number es o led at = ap (λ (r : Result Parent Refusal). r >>= (λ parent. named (entry_number parent.entries (last_name path)))) led ∙ ap named at

  source_lost : (why : Refusal) → find_parent numbered path ≡ Err why → source_in numbered path ≡ Err why
  source_lost why lost = ap (λ (r : Result Parent Refusal). r >>= (λ parent. named (entry_number parent.entries (last_name path)))) lost

  module _ (kind : Kind) where
    target_by : (number : ℕ) (es : List Entry) (o : Option ℕ) → find_parent numbered path ≡ Ok (parent_with number es) → entry_number es (last_name path) ≡ o → target_in numbered kind path ≡ may_replace (is_dir kind) (standing numbered o)
    target_by number es o led at =
        ap (λ (r : Result Parent Refusal). r >>= (λ parent. may_replace (is_dir kind) (standing numbered (entry_number parent.entries (last_name path))))) led
        ∙ ap (λ (o : Option ℕ). may_replace (is_dir kind) (standing numbered o)) at

    target_lost : (why : Refusal) → find_parent numbered path ≡ Err why → target_in numbered kind path ≡ Err why
    target_lost why lost = ap (λ (r : Result Parent Refusal). r >>= (λ parent. may_replace (is_dir kind) (standing numbered (entry_number parent.entries (last_name path))))) lost

module _ {M : Type 0} (history : M → Option History) (faults : M → ℕ) (old : StoreValue M) where
  -- A WALK HALTS where finding a node stops
  pub halted_since : (mid new : StoreValue M) → faults old.log.machine ≤ faults mid.log.machine → (IsWhy : Numbering PlacedFile → Refusal → Type 0) → (stop : FileStep) → StopsBefore faults mid new stop → Halts history faults old new IsWhy (halt_of stop)
  halted_since mid new most IsWhy (step.Done reply) is = absurd is
  halted_since mid new most IsWhy (step.Needs tseg) is = absurd is
  halted_since mid new most IsWhy step.NoSpace is = absurd is
  halted_since mid new most IsWhy step.DiskFault is = rose_since (faults old.log.machine) (faults mid.log.machine) (faults new.log.machine) most is
  halted_since mid new most IsWhy step.Memory is = tt

  module _ (path : List (List ℕ)) where
    -- nothing stands at a path of no parent, and nothing moves there
    pub source_halts : (new : StoreValue M) (stop : Halt) → Halts history faults old new (HasNoParent path) stop → Halts history faults old new (HasNoSource path) stop
    source_halts new (halt.Refused why) is = λ h told c lies numbered tree. source_lost numbered path why (is h told c lies numbered tree)
    source_halts new halt.DiskFault is = is
    source_halts new halt.Memory is = is

    pub target_halts : (kind : Kind) (new : StoreValue M) (stop : Halt) → Halts history faults old new (HasNoParent path) stop → Halts history faults old new (HasNoTarget kind path) stop
    target_halts kind new (halt.Refused why) is = λ h told c lies numbered tree. target_lost numbered path kind why (is h told c lies numbered tree)
    target_halts kind new halt.DiskFault is = is
    target_halts kind new halt.Memory is = is

    module _ (mid : StoreValue M) (parent : ParentFound) (has : HasParent history old mid path parent) (name : List ℕ) (name_is : name ≡ last_name path) where
      -- nothing stands under a name that isn't there
      pub source_absent : IfSpells parent.bytes.items (λ es. None ≡ entry_number es name) → OfTree history old (λ c numbered. HasNoSource path numbered Enoent)
      source_absent absent h told c lies numbered tree =
          let p = has.is h told c lies numbered tree in
          source_by numbered path parent.number p.0 None p.2 (ap (entry_number p.0) (sym name_is) ∙ sym (absent p.0 p.1))

      -- and anything moves there
      pub target_free : (kind : Kind) → IfSpells parent.bytes.items (λ es. None ≡ entry_number es name) → HasTarget history old mid kind path (record { parent = parent; number = None })
      target_free kind absent = record {
        number = has.number;
        drafted = has.drafted;
        freed = λ number is. absurd (none_some is);
        is = λ h told c lies numbered tree.
            let p = has.is h told c lies numbered tree in
            record {
              entries = p.0;
              spelled = p.1;
              led = p.2;
              at = ap (entry_number p.0) (sym name_is) ∙ sym (absent p.0 p.1);
              may = replaced_none kind;
            };
      }

      module _ (new : StoreValue M) (reads : ReadsNodes history old mid) (run : Runs (history old.log.machine) (history mid.log.machine) IsUnchanged) (more : ReadsNodes history mid new) (number : ℕ)
          (there : IfSpells parent.bytes.items (λ es. Some number ≡ entry_number es name)) (node : Node) (found : OverNow history mid (HasNodeFound mid number node)) where
        drafted_still : HasDirectoryDraft new parent.number (length parent.bytes.items)
        drafted_still = shape_still history mid new more parent.number (Some (directory_shape (length parent.bytes.items))) (number_kept history old mid reads parent.number has.number).high has.drafted

        -- A NODE THAT WAS FOUND is what moves
        pub source_found : HasSource history old new path (record { parent = parent; number = number; kind = node.kind })
        source_found = record {
          number = has.number;
          drafted = drafted_still;
          is = λ h told c lies numbered tree.
              let p = has.is h told c lies numbered tree in
              record {
                entries = p.0;
                spelled = p.1;
                led = p.2;
                there = ap (entry_number p.0) (sym name_is) ∙ sym (there p.0 p.1);
                kind = kind_stands node.kind node.size (get numbered number) (stands_before history old mid reads run number node found h told c lies numbered tree);
              };
        }

        -- or stays where it is
        pub target_kept : (kind : Kind) (why : Refusal) → why_kept kind node.kind node.size ≡ Some why → OfTree history old (λ c numbered. HasNoTarget kind path numbered why)
        target_kept kind why kept h told c lies numbered tree =
            let p = has.is h told c lies numbered tree in
            target_by numbered path kind parent.number p.0 (Some number) p.2 (ap (entry_number p.0) (sym name_is) ∙ sym (there p.0 p.1))
            ∙ replaced_not (get numbered number) kind node.kind node.size why (stands_before history old mid reads run number node found h told c lies numbered tree) kept

        -- or goes
        pub target_found : (kind : Kind) → IsNumber mid number → why_kept kind node.kind node.size ≡ None → HasTarget history old new kind path (record { parent = parent; number = Some number })
        target_found kind is goes = record {
          number = has.number;
          drafted = drafted_still;
          freed = λ other same. (let one : number ≡ other = cc in subst_number other one);
          is = λ h told c lies numbered tree.
              let p = has.is h told c lies numbered tree in
              record {
                entries = p.0;
                spelled = p.1;
                led = p.2;
                at = ap (entry_number p.0) (sym name_is) ∙ sym (there p.0 p.1);
                may = replaced_so (get numbered number) kind node.kind node.size (stands_before history old mid reads run number node found h told c lies numbered tree) goes;
              };
        }
          where
            subst_number : (other : ℕ) → number ≡ other → IsNumber old other
            subst_number other one = subst (λ (n : ℕ). IsNumber old n) one (number_before history old mid reads number is)
