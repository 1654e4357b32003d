-- The rules by numbers agree with the rules of trees: the calls on files.
use Rattle.std.proofs.Common.{◌≡◌, ℕ, ◌+◌, Bool, true, false, nat_eq, nat_lt, List, length, Option, Some, None, Result, Ok, Err, refl, ap, ◌∙◌, sym, subst, if◌then◌else◌}
use Rattle.std.proofs.lemmas.List.{length-map}
use Rattle.std.specs.Option.{option_map}
use Rattle.std.specs.FinMap.{get, insert}
use Rattle.hl_tree.specs.declared.call.Call.TheVariants as calls
use Rattle.hl_tree.specs.declared.call.Limits.{Limits}
use Rattle.hl_tree.specs.declared.call.Reply.TheVariants as replies
use Rattle.hl_tree.specs.declared.call.Refusal.{Refusal}
use Rattle.hl_tree.specs.declared.call.Refusal.TheVariants.{Einval, Efbig, Enametoolong}
use Rattle.hl_tree.specs.declared.node.Node.TheVariants.{File}
use Rattle.hl_tree.specs.Contents.{written, resized, read_at}
use Rattle.hl_tree.specs.Names.{is_too_long}
use Rattle.hl_tree.specs.OtherContents.{changed_at, put_changed}
use Rattle.hl_tree.specs.Refusals.{◌>>=◌, refused_if}
use Rattle.hl_tree.specs.Rules as rules
use Rattle.hl_tree.specs.Rules.{Files, Outcome, outcome, reply_of, reply}
use Rattle.hl_tree.specs.Tree.{walk, content_at, content_of, found, names_in}
use Rattle.hl_tree.proofs.Moved.{Names}
use Rattle.hl_tree_laws.proofs.OtherContents.{names_in-map_contents}
use Rattle.hl_tree_laws.proofs.SameCalls.{found_map, walk-map_contents}
use Rattle.hl_placed.specs.Blocks.{PlacedFile, Shelf, plain_bytes}
use Rattle.hl_placed.specs.Changes.{written_file, cut_file, used_at}
use Rattle.hl_placed.specs.Placed.{PlacedTree, plain}
use Rattle.hl_placed.specs.Calls.{accepted}
use Rattle.hl_placed.proofs.Accepted.{content_map, content_at-map_contents}
use Rattle.hl_placed.proofs.Changes.{length-plain_bytes}
use Rattle.hl_paths.specs.Links.{resolve}
use Rattle.hl_paths.specs.Numbered.{NumberedNode, Directory, Leaf, Numbering, links, IsTreeOf, tree_node, found_node}
use Rattle.hl_paths.specs.Finding.{leaf_in, find_number}
use Rattle.hl_paths.specs.Agreement.{Agree}
use Rattle.hl_paths.specs.ByNumbers as numbers
use Rattle.hl_paths.specs.ByNumbers.{FileAt, NumberedDone, by_numbers, numbered_reply, numbered_left, HasNames}
use Rattle.hl_paths.proofs.Names.{names_in-entries}
use Rattle.hl_paths.proofs.Finding.{find_number-resolve, node_at, walk-find}
use Rattle.hl_paths.proofs.Changed.{IsTreeOf-changed}
use Rattle.hl_paths.proofs.Agreement.{both_refused}

module _ (limits : Limits) (shelf : Shelf) (nodes : Numbering PlacedFile) (placed : PlacedTree) (is : IsTreeOf nodes placed) (now : ℕ) where
  abbrev t : Files
  t = plain shelf placed

  names_plain : (path : Names) → names_in t path ≡ names_in placed path
  unfolding plain
  names_plain path = names_in-map_contents (plain_bytes shelf) placed path

  -- WHERE A FILE IS

  abbrev content_of_file : FileAt PlacedFile → PlacedFile
  content_of_file file = file.content

  module _ (after : PlacedTree) (F : List ℕ → Outcome) (G : FileAt PlacedFile → NumberedDone PlacedFile) (path : Names)
      (agree : (file : FileAt PlacedFile) → resolve (links nodes) path ≡ Some file.number → get nodes file.number ≡ Some (Leaf file.content) → Agree after (F (plain_bytes shelf file.content)) (G file)) where
    file_node : (number : ℕ) → resolve (links nodes) path ≡ Some number → (o : Option (NumberedNode PlacedFile)) → get nodes number ≡ o
        → Agree after (content_map (plain_bytes shelf) (found (option_map tree_node o) >>= content_of) >>= F) ((leaf_in o >>= (λ content. Ok (record { number = number; content = content }))) >>= G)
    file_node number at None there = refl
    file_node number at (Some (Directory es)) there = refl
    file_node number at (Some (Leaf content)) there = agree (record { number = number; content = content }) at there

    file_number : (o : Result ℕ Refusal) → find_number nodes path ≡ o
        → Agree after (content_map (plain_bytes shelf) ((o >>= node_at nodes placed is) >>= content_of) >>= F) ((o >>= (λ number. leaf_in (get nodes number) >>= (λ content. Ok (record { number = number; content = content })))) >>= G)
    file_number (Err why) e = refl
    file_number (Ok number) e = file_node number (find_number-resolve nodes path number e) (get nodes number) refl

    file_path : (long : Bool) → Agree after (content_map (plain_bytes shelf) (refused_if long Enametoolong >>= (λ _. walk placed path >>= content_of)) >>= F)
        ((refused_if long Enametoolong >>= (λ _. find_number nodes path >>= (λ number. leaf_in (get nodes number) >>= (λ content. Ok (record { number = number; content = content }))))) >>= G)
    file_path true = refl
    file_path false = subst (λ w. Agree after (content_map (plain_bytes shelf) (w >>= content_of) >>= F) ((find_number nodes path >>= (λ number. leaf_in (get nodes number) >>= (λ content. Ok (record { number = number; content = content })))) >>= G))
        (sym (walk-find nodes placed is path)) (file_number (find_number nodes path) refl)

    on_file : Agree after (content_at t path >>= F) (numbers.file_at limits nodes path >>= G)
    unfolding plain content_at numbers.file_at
    on_file = subst (λ o. Agree after (o >>= F) (numbers.file_at limits nodes path >>= G)) (sym (content_at-map_contents (plain_bytes shelf) limits placed path)) (file_path (is_too_long path))

  -- a file that changes where it is
  module _ (path : Names) (file : FileAt PlacedFile) (at : resolve (links nodes) path ≡ Some file.number) (there : get nodes file.number ≡ Some (Leaf file.content)) (change : PlacedFile → PlacedFile) where
    here : get placed path ≡ Some (File file.content)
    here = is.same path ∙ ap (found_node nodes) at ∙ ap (option_map tree_node) there

    file_changed : IsTreeOf (insert nodes file.number (Leaf (change file.content))) (changed_at placed path change)
    unfolding changed_at
    file_changed = subst (IsTreeOf (insert nodes file.number (Leaf (change file.content)))) (sym (ap (put_changed placed path change) here))
        (IsTreeOf-changed nodes placed is path file.number file.content (change file.content) at there)

  pub agree-write : (path : Names) (at : ℕ) (bytes : List ℕ) → Agree (accepted shelf placed now (calls.Write path at bytes)) (rules.write limits t path at bytes) (numbers.write_by_numbers limits shelf nodes now path at bytes)
  unfolding rules.write numbers.write_by_numbers
  agree-write path at bytes = on_file (accepted shelf placed now (calls.Write path at bytes))
      (λ old. refused_if (nat_lt 65536 (length bytes)) Einval >>= (λ _. if nat_eq (length bytes) 0 then Ok (replies.Ok, t) else (refused_if (nat_lt limits.bytes (at + length bytes)) Efbig >>= (λ _. Ok (replies.Ok, insert t path (File (written old at bytes)))))))
      (λ file. refused_if (nat_lt 65536 (length bytes)) Einval >>= (λ _. if nat_eq (length bytes) 0 then Ok (replies.Ok, nodes) else (refused_if (nat_lt limits.bytes (at + length bytes)) Efbig >>= (λ _. Ok (replies.Ok, insert nodes file.number (Leaf (written_file shelf file.content at bytes now)))))))
      path (λ file found there. both_refused (accepted shelf placed now (calls.Write path at bytes)) (nat_lt 65536 (length bytes)) Einval _ _ (λ few. some_bytes file found there (nat_eq (length bytes) 0)))
    where
      some_bytes : (file : FileAt PlacedFile) → resolve (links nodes) path ≡ Some file.number → get nodes file.number ≡ Some (Leaf file.content) → (none : Bool)
          → Agree (if none then placed else changed_at placed path (λ file. written_file shelf file at bytes now))
          (if none then Ok (replies.Ok, t) else (refused_if (nat_lt limits.bytes (at + length bytes)) Efbig >>= (λ _. Ok (replies.Ok, insert t path (File (written (plain_bytes shelf file.content) at bytes))))))
          (if none then Ok (replies.Ok, nodes) else (refused_if (nat_lt limits.bytes (at + length bytes)) Efbig >>= (λ _. Ok (replies.Ok, insert nodes file.number (Leaf (written_file shelf file.content at bytes now))))))
      some_bytes file found there true = (refl, is)
      some_bytes file found there false = both_refused (changed_at placed path (λ file. written_file shelf file at bytes now)) (nat_lt limits.bytes (at + length bytes)) Efbig _ _ (λ fits.
          (refl, file_changed path file found there (λ file. written_file shelf file at bytes now)))

  pub agree-cut : (path : Names) (size : ℕ) → Agree (accepted shelf placed now (calls.Cut path size)) (rules.cut limits t path size) (numbers.cut_by_numbers limits shelf nodes now path size)
  unfolding rules.cut numbers.cut_by_numbers
  agree-cut path size = on_file (accepted shelf placed now (calls.Cut path size))
      (λ old. refused_if (nat_lt limits.bytes size) Efbig >>= (λ _. Ok (replies.Ok, insert t path (File (resized old size)))))
      (λ file. refused_if (nat_lt limits.bytes size) Efbig >>= (λ _. Ok (replies.Ok, insert nodes file.number (Leaf (cut_file shelf file.content size now)))))
      path (λ file found there. both_refused (accepted shelf placed now (calls.Cut path size)) (nat_lt limits.bytes size) Efbig _ _ (λ fits. (refl, file_changed path file found there (λ file. cut_file shelf file size now))))

  pub agree-read : (path : Names) (at len : ℕ) → Agree (accepted shelf placed now (calls.Read path at len)) (rules.read limits t path at len) (numbers.read_by_numbers limits shelf nodes now path at len)
  unfolding rules.read numbers.read_by_numbers
  agree-read path at len = on_file (accepted shelf placed now (calls.Read path at len))
      (λ bytes. Ok (replies.Data (read_at bytes at len), t))
      (λ file. Ok (replies.Data (read_at (plain_bytes shelf file.content) at len), insert nodes file.number (Leaf (used_at now file.content))))
      path (λ file found there. (refl, file_changed path file found there (used_at now)))

  -- WHAT A NODE IS

  stat_node : (path : Names) (number : ℕ) → resolve (links nodes) path ≡ Some number → (o : Option (NumberedNode PlacedFile)) → get nodes number ≡ o
      → Agree placed (found_map (plain_bytes shelf) (found (option_map tree_node o)) >>= (λ node. Ok (rules.status limits t path node, t))) (numbers.numbered_status limits shelf nodes now o >>= (λ reply. Ok (reply, nodes)))
  stat_node path number at None there = refl
  stat_node path number at (Some (Leaf file)) there = (ap replies.File (length-plain_bytes shelf file), is)
  stat_node path number at (Some (Directory es)) there = (ap replies.Dir (ap length (same_names ∙ names_in-entries nodes placed is path number es at there) ∙ length-map es (λ e. e.name)), is)
    where
      same_names : names_in t path ≡ names_in placed path
      same_names = names_plain path

  stat_number : (path : Names) (o : Result ℕ Refusal) → find_number nodes path ≡ o
      → Agree placed (found_map (plain_bytes shelf) (o >>= node_at nodes placed is) >>= (λ node. Ok (rules.status limits t path node, t))) (o >>= (λ number. numbers.numbered_status limits shelf nodes now (get nodes number) >>= (λ reply. Ok (reply, nodes))))
  stat_number path (Err why) e = refl
  stat_number path (Ok number) e = stat_node path number (find_number-resolve nodes path number e) (get nodes number) refl

  pub agree-stat : (path : Names) → Agree placed (rules.stat limits t path) (numbers.stat_by_numbers limits shelf nodes now path)
  unfolding rules.stat numbers.stat_by_numbers plain
  agree-stat path = both_refused placed (is_too_long path) Enametoolong _ _ (λ short.
      subst (λ w. Agree placed (w >>= (λ node. Ok (rules.status limits t path node, t))) (find_number nodes path >>= (λ number. numbers.numbered_status limits shelf nodes now (get nodes number) >>= (λ reply. Ok (reply, nodes)))))
      (sym (walk-map_contents (plain_bytes shelf) limits placed path ∙ ap (found_map (plain_bytes shelf)) (walk-find nodes placed is path)))
      (stat_number path (find_number nodes path) refl))
