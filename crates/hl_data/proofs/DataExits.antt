-- How the calls on bytes end by numbers: one lemma an exit.
use Rattle.std.proofs.Common.{◌≡◌, ℕ, ◌+◌, Bool, true, false, if◌then◌else◌, nat_eq, nat_lt, List, length, Option, Some, None, Result, Ok, Err, refl, ap, ◌∙◌, subst}
use Rattle.std.specs.FinMap.{get, insert}
use Rattle.hl_tree.specs.declared.call.Call.TheVariants as calls
use Rattle.hl_tree.specs.declared.call.Limits.{Limits}
use Rattle.hl_tree.specs.declared.call.Reply.TheVariants as replies
use Rattle.hl_tree.specs.declared.call.Refusal.{Refusal}
use Rattle.hl_tree.specs.declared.call.Refusal.TheVariants.{Einval, Efbig, Eisdir, Enametoolong}
use Rattle.hl_tree.specs.Contents.{read_at}
use Rattle.hl_tree.specs.Names.{is_too_long}
use Rattle.hl_tree.specs.Refusals.{◌>>=◌, refused_if}
use Rattle.hl_dir.specs.declared.entry.Entry.{Entry}
use Rattle.hl_placed.specs.Blocks.{PlacedFile, Shelf, plain_bytes}
use Rattle.hl_placed.specs.Calls.{cut_needs, read_needs, write_needs}
use Rattle.hl_placed.specs.Changes.{cut_file, used_at, written_file}
use Rattle.hl_paths.specs.Numbered.{Directory, Leaf, NumberedNode, Numbering}
use Rattle.hl_paths.specs.Finding.{find_number, leaf_in}
use Rattle.hl_calls.proofs.Chains.{goes_on, ok_or, passes, refuses, stays_refused}
use Rattle.hl_paths.specs.ByNumbers.{FileAt, NumberedDone, cut_by_numbers, file_at, needed, node_by_path, of_leaf, read_by_numbers, write_by_numbers}

-- the file that a number has
abbrev pub file_in : ℕ → Option (NumberedNode PlacedFile) → Result (FileAt PlacedFile) Refusal
file_in number o = leaf_in o >>= (λ content. Ok (record { number = number; content = content }))

abbrev pub file_under : Numbering PlacedFile → Result ℕ Refusal → Result (FileAt PlacedFile) Refusal
file_under nodes led = led >>= (λ number. file_in number (get nodes number))

module _ (limits : Limits) (nodes : Numbering PlacedFile) (path : List (List ℕ)) where
  -- THE FILE AT A PATH

  pub file_long : is_too_long path ≡ true → file_at limits nodes path ≡ Err Enametoolong
  unfolding file_at
  file_long long = refuses (is_too_long path) Enametoolong _ long

  module _ (short : is_too_long path ≡ false) where
    pub file_lost : (why : Refusal) → find_number nodes path ≡ Err why → file_at limits nodes path ≡ Err why
    unfolding file_at
    file_lost why lost = passes (is_too_long path) Enametoolong _ short ∙ stays_refused (find_number nodes path) _ why lost

    module _ (number : ℕ) (leads : find_number nodes path ≡ Ok number) where
      pub file_by : (o : Option (NumberedNode PlacedFile)) → get nodes number ≡ o
          → file_at limits nodes path ≡ file_in number o
      unfolding file_at
      file_by o there = passes (is_too_long path) Enametoolong _ short ∙ goes_on (find_number nodes path) _ number leads
          ∙ ap (file_in number) there

      pub file_is : (file : PlacedFile) → get nodes number ≡ Some (Leaf file) → file_at limits nodes path ≡ Ok (record { number = number; content = file })
      file_is file there = file_by (Some (Leaf file)) there

      pub file_dir : (es : List Entry) → get nodes number ≡ Some (Directory es) → file_at limits nodes path ≡ Err Eisdir
      file_dir es there = file_by (Some (Directory es)) there

  -- and back: what is a file was found
  pub file_found : (number : ℕ) (file : PlacedFile) → file_at limits nodes path ≡ Ok (record { number = number; content = file })
      → (find_number nodes path ≡ Ok number) × (get nodes number ≡ Some (Leaf file))
  unfolding file_at
  file_found number file is = by_length (is_too_long path) is
    where
      goal : Type 0
      goal = (find_number nodes path ≡ Ok number) × (get nodes number ≡ Some (Leaf file))

      with_length : Bool → Result (FileAt PlacedFile) Refusal
      with_length b = refused_if b Enametoolong >>= (λ _. file_under nodes (find_number nodes path))

      at_node : (m : ℕ) (o : Option (NumberedNode PlacedFile)) → find_number nodes path ≡ Ok m → get nodes m ≡ o
          → file_in m o ≡ Ok (record { number = number; content = file }) → goal
      at_node m None leads there e = absurd cc
      at_node m (Some (Directory es)) leads there e = absurd cc
      at_node m (Some (Leaf content)) leads there e =
          let d : FileAt PlacedFile = record { number = number; content = file } in
          let same : record { number = m; content = content } ≡ d = ap (ok_or d) e in (
            leads ∙ ap Ok (ap (λ (f : FileAt PlacedFile). f.number) same),
            subst (λ n. get nodes n ≡ Some (Leaf file)) (ap (λ (f : FileAt PlacedFile). f.number) same) (there ∙ ap (λ (f : FileAt PlacedFile). Some (Leaf f.content)) same),
          )

      by_number : (r : Result ℕ Refusal) → find_number nodes path ≡ r
          → file_under nodes r ≡ Ok (record { number = number; content = file }) → goal
      by_number (Err why) leads e = absurd cc
      by_number (Ok m) leads e = at_node m (get nodes m) leads refl e

      by_length : (b : Bool)
          → with_length b ≡ Ok (record { number = number; content = file }) → goal
      by_length true e = absurd cc
      by_length false e = by_number (find_number nodes path) refl e

-- THE CALLS ON A FILE
module _ (limits : Limits) (shelf : Shelf) (nodes : Numbering PlacedFile) (now : ℕ) (path : List (List ℕ)) where
  -- a call that finds no file is refused as that is
  module _ (why : Refusal) (lost : file_at limits nodes path ≡ Err why) where
    pub read_refused : (at len : ℕ) → read_by_numbers limits shelf nodes now path at len ≡ Err why
    unfolding read_by_numbers
    read_refused at len = stays_refused (file_at limits nodes path) _ why lost

    pub write_refused : (at : ℕ) (bytes : List ℕ) → write_by_numbers limits shelf nodes now path at bytes ≡ Err why
    unfolding write_by_numbers
    write_refused at bytes = stays_refused (file_at limits nodes path) _ why lost

    pub cut_refused : (size : ℕ) → cut_by_numbers limits shelf nodes now path size ≡ Err why
    unfolding cut_by_numbers
    cut_refused size = stays_refused (file_at limits nodes path) _ why lost

  module _ (number : ℕ) (file : PlacedFile) (is : file_at limits nodes path ≡ Ok (record { number = number; content = file })) where
    pub read_done : (at len : ℕ) → read_by_numbers limits shelf nodes now path at len
        ≡ Ok (replies.Data (read_at (plain_bytes shelf file) at len), insert nodes number (Leaf (used_at now file)))
    unfolding read_by_numbers
    read_done at len = goes_on (file_at limits nodes path) _ (record { number = number; content = file }) is

    pub write_long : (at : ℕ) (bytes : List ℕ) → nat_lt 65536 (length bytes) ≡ true → write_by_numbers limits shelf nodes now path at bytes ≡ Err Einval
    unfolding write_by_numbers
    write_long at bytes long = goes_on (file_at limits nodes path) _ (record { number = number; content = file }) is ∙ refuses (nat_lt 65536 (length bytes)) Einval _ long

    module _ (at : ℕ) (bytes : List ℕ) (short : nat_lt 65536 (length bytes) ≡ false) where
      write_by : NumberedDone PlacedFile
      write_by = refused_if (nat_lt limits.bytes (at + length bytes)) Efbig >>= (λ _. Ok (replies.Ok, insert nodes number (Leaf (written_file shelf file at bytes now))))

      by_none : Bool → NumberedDone PlacedFile
      by_none none = if none then Ok (replies.Ok, nodes) else write_by

      write_goes_on : write_by_numbers limits shelf nodes now path at bytes ≡ by_none (nat_eq (length bytes) 0)
      unfolding write_by_numbers by_none write_by
      write_goes_on = goes_on (file_at limits nodes path) _ (record { number = number; content = file }) is ∙ passes (nat_lt 65536 (length bytes)) Einval _ short

      pub write_none : nat_eq (length bytes) 0 ≡ true → write_by_numbers limits shelf nodes now path at bytes ≡ Ok (replies.Ok, nodes)
      unfolding by_none
      write_none none = write_goes_on ∙ ap by_none none

      module _ (some : nat_eq (length bytes) 0 ≡ false) where
        pub write_big : nat_lt limits.bytes (at + length bytes) ≡ true → write_by_numbers limits shelf nodes now path at bytes ≡ Err Efbig
        unfolding by_none write_by
        write_big big = write_goes_on ∙ ap by_none some ∙ refuses (nat_lt limits.bytes (at + length bytes)) Efbig _ big

        pub write_done : nat_lt limits.bytes (at + length bytes) ≡ false → write_by_numbers limits shelf nodes now path at bytes
            ≡ Ok (replies.Ok, insert nodes number (Leaf (written_file shelf file at bytes now)))
        unfolding by_none write_by
        write_done fits = write_goes_on ∙ ap by_none some ∙ passes (nat_lt limits.bytes (at + length bytes)) Efbig _ fits

    pub cut_big : (size : ℕ) → nat_lt limits.bytes size ≡ true → cut_by_numbers limits shelf nodes now path size ≡ Err Efbig
    unfolding cut_by_numbers
    cut_big size big = goes_on (file_at limits nodes path) _ (record { number = number; content = file }) is ∙ refuses (nat_lt limits.bytes size) Efbig _ big

    pub cut_done : (size : ℕ) → nat_lt limits.bytes size ≡ false → cut_by_numbers limits shelf nodes now path size
        ≡ Ok (replies.Ok, insert nodes number (Leaf (cut_file shelf file size now)))
    unfolding cut_by_numbers
    cut_done size fits = goes_on (file_at limits nodes path) _ (record { number = number; content = file }) is ∙ passes (nat_lt limits.bytes size) Efbig _ fits

    -- what it needs is what the file needs
    found : (find_number nodes path ≡ Ok number) × (get nodes number ≡ Some (Leaf file))
    found = file_found limits nodes path number file is

    needed_of : {X : Type 0} (list : PlacedFile → List X) → of_leaf list (node_by_path nodes (find_number nodes path)) ≡ list file
    needed_of list = ap (λ (r : Result ℕ Refusal). of_leaf list (node_by_path nodes r)) found.0 ∙ ap (of_leaf list) found.1

    pub read_needed : (at len : ℕ) → needed nodes (calls.Read path at len) ≡ read_needs at len file
    read_needed at len = needed_of (read_needs at len)

    pub write_needed : (at : ℕ) (bytes : List ℕ) → needed nodes (calls.Write path at bytes) ≡ write_needs at bytes file
    write_needed at bytes = needed_of (write_needs at bytes)

    pub cut_needed : (size : ℕ) → needed nodes (calls.Cut path size) ≡ cut_needs size file
    cut_needed size = needed_of (cut_needs size)
