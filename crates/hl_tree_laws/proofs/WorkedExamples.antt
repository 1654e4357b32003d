-- Worked examples of the rules, computed.
use Rattle.std.proofs.Common.{◌≡◌, ℕ, List, [], ◌∷◌, refl}
use Rattle.hl_tree.specs.declared.node.Node.{Node}
use Rattle.hl_tree.specs.declared.node.Node.TheVariants.{Dir, File}
use Rattle.std.specs.FinMap.{gets, entries, entries-insert, get-entries, len-entries}
use Rattle.hl_tree.specs.declared.call.Limits.{Limits}
use Rattle.hl_tree.specs.declared.call.Call.{Call}
use Rattle.hl_tree.specs.declared.call.Call.TheVariants as calls
use Rattle.hl_tree.specs.declared.call.Reply.{Reply}
use Rattle.hl_tree.specs.declared.call.Reply.TheVariants as replies
use Rattle.hl_tree.specs.declared.call.Refusal.TheVariants as refusals
use Rattle.hl_tree.specs.Contents.{resized, written, read_at}
use Rattle.hl_tree.specs.Tree.{root_alone, content_at, walk, walk_to_parent, names_in, moved}
use Rattle.hl_tree.specs.Rules.{reply, after, make, write, read, cut, stat, list, unlink, rmdir, rename, Files}
use Rattle.hl_tree.proofs.Maps.{path_total, entries-empty, entries-retain_keys, entries-remove}

abbrev site : Limits
site = record { nodes = 511; bytes = 4243456 }

abbrev small : Limits
small = record { nodes = 3; bytes = 6 }

pub replies_to : Limits → Files → List Call → List Reply
replies_to limits t [] = []
replies_to limits t (call ∷ rest) = reply limits t call ∷ replies_to limits (after limits t call) rest

abbrev a : List (List ℕ)
a = (97 ∷ []) ∷ []

abbrev b : List (List ℕ)
b = (98 ∷ []) ∷ []

abbrev d : List (List ℕ)
d = (100 ∷ []) ∷ []

abbrev ab : List (List ℕ)
ab = (97 ∷ []) ∷ (98 ∷ []) ∷ []

abbrev dx : List (List ℕ)
dx = (100 ∷ []) ∷ (120 ∷ []) ∷ []

abbrev ax : List (List ℕ)
ax = (97 ∷ []) ∷ (120 ∷ []) ∷ []

abbrev de : List (List ℕ)
de = (100 ∷ []) ∷ (101 ∷ []) ∷ []

pub writes_and_reads : replies_to site root_alone (calls.Create a ∷ calls.Write a 0 (104 ∷ 105 ∷ []) ∷ calls.Read a 0 9 ∷ []) ≡ replies.Ok ∷ replies.Ok ∷ replies.Data (104 ∷ 105 ∷ []) ∷ []
unfolding written resized read_at replies_to make write read content_at walk walk_to_parent
writes_and_reads = simp (gets, path_total) refl

pub walks_below_a_file : replies_to site root_alone (calls.Read ab 0 1 ∷ calls.Create a ∷ calls.Read ab 0 1 ∷ calls.List [] ∷ [])
    ≡ replies.Refused refusals.Enoent ∷ replies.Ok ∷ replies.Refused refusals.Enotdir ∷ replies.Names ((97 ∷ []) ∷ []) ∷ []
unfolding replies_to make read list names_in content_at walk walk_to_parent
walks_below_a_file = simp (gets, path_total, entries-insert, entries-empty) refl

-- with 6 bytes in place of 4,243,456
pub reaches_the_limit_of_bytes : replies_to small root_alone (calls.Create a ∷ calls.Write a 5 (1 ∷ []) ∷ calls.Stat a ∷ calls.Write a 6 (1 ∷ []) ∷ calls.Cut a 7 ∷ [])
    ≡ replies.Ok ∷ replies.Ok ∷ replies.File 6 ∷ replies.Refused refusals.Efbig ∷ replies.Refused refusals.Efbig ∷ []
unfolding written resized replies_to make write cut stat content_at walk walk_to_parent
reaches_the_limit_of_bytes = simp (gets, path_total) refl

abbrev bx : List (List ℕ)
bx = (98 ∷ []) ∷ (120 ∷ []) ∷ []

-- a call on the tree of these entries answers so, and leaves the tree of those
pub record Step (before : List (List (List ℕ) × Node (List ℕ))) (call : Call) (answer : Reply) (next : List (List (List ℕ) × Node (List ℕ))) : Type 0 where
  pub answers : (t : Files) → entries t ≡ before → reply site t call ≡ answer
  pub leaves : (t : Files) → entries t ≡ before → entries (after site t call) ≡ next

pub makes_a_directory : Step (([], Dir) ∷ []) (calls.Mkdir d) (replies.Ok) (([], Dir) ∷ (d, Dir) ∷ [])
unfolding resized read_at make cut read stat unlink rmdir rename moved names_in content_at walk walk_to_parent
makes_a_directory = record {
  answers = λ t h. simp (get-entries, len-entries, h) refl;
  leaves = λ t h. simp (get-entries, len-entries, entries-insert, entries-remove, entries-retain_keys, entries-empty, path_total, h) refl;
}

pub moves_no_directory_below_itself : Step (([], Dir) ∷ (d, Dir) ∷ []) (calls.Rename d de) (replies.Refused refusals.Einval) (([], Dir) ∷ (d, Dir) ∷ [])
unfolding resized read_at make cut read stat unlink rmdir rename moved names_in content_at walk walk_to_parent
moves_no_directory_below_itself = record {
  answers = λ t h. simp (get-entries, len-entries, h) refl;
  leaves = λ t h. simp (get-entries, len-entries, entries-insert, entries-remove, entries-retain_keys, entries-empty, path_total, h) refl;
}

pub makes_a_file : Step (([], Dir) ∷ (d, Dir) ∷ []) (calls.Create a) (replies.Ok) (([], Dir) ∷ (a, File []) ∷ (d, Dir) ∷ [])
unfolding resized read_at make cut read stat unlink rmdir rename moved names_in content_at walk walk_to_parent
makes_a_file = record {
  answers = λ t h. simp (get-entries, len-entries, h) refl;
  leaves = λ t h. simp (get-entries, len-entries, entries-insert, entries-remove, entries-retain_keys, entries-empty, path_total, h) refl;
}

pub moves_a_file_onto_itself : Step (([], Dir) ∷ (a, File []) ∷ (d, Dir) ∷ []) (calls.Rename a a) (replies.Ok) (([], Dir) ∷ (a, File []) ∷ (d, Dir) ∷ [])
unfolding resized read_at make cut read stat unlink rmdir rename moved names_in content_at walk walk_to_parent
moves_a_file_onto_itself = record {
  answers = λ t h. simp (get-entries, len-entries, h) refl;
  leaves = λ t h. simp (get-entries, len-entries, entries-insert, entries-remove, entries-retain_keys, entries-empty, path_total, h) refl;
}

pub makes_a_file_in_a_directory : Step (([], Dir) ∷ (a, File []) ∷ (d, Dir) ∷ []) (calls.Create dx) (replies.Ok) (([], Dir) ∷ (a, File []) ∷ (d, Dir) ∷ (dx, File []) ∷ [])
unfolding resized read_at make cut read stat unlink rmdir rename moved names_in content_at walk walk_to_parent
makes_a_file_in_a_directory = record {
  answers = λ t h. simp (get-entries, len-entries, h) refl;
  leaves = λ t h. simp (get-entries, len-entries, entries-insert, entries-remove, entries-retain_keys, entries-empty, path_total, h) refl;
}

pub removes_no_full_directory : Step (([], Dir) ∷ (a, File []) ∷ (d, Dir) ∷ (dx, File []) ∷ []) (calls.Rmdir d) (replies.Refused refusals.Enotempty) (([], Dir) ∷ (a, File []) ∷ (d, Dir) ∷ (dx, File []) ∷ [])
unfolding resized read_at make cut read stat unlink rmdir rename moved names_in content_at walk walk_to_parent
removes_no_full_directory = record {
  answers = λ t h. simp (get-entries, len-entries, h) refl;
  leaves = λ t h. simp (get-entries, len-entries, entries-insert, entries-remove, entries-retain_keys, entries-empty, path_total, h) refl;
}

pub moves_nothing_onto_a_full_directory : Step (([], Dir) ∷ (a, File []) ∷ (d, Dir) ∷ (dx, File []) ∷ []) (calls.Rename d []) (replies.Refused refusals.Enotempty) (([], Dir) ∷ (a, File []) ∷ (d, Dir) ∷ (dx, File []) ∷ [])
unfolding resized read_at make cut read stat unlink rmdir rename moved names_in content_at walk walk_to_parent
moves_nothing_onto_a_full_directory = record {
  answers = λ t h. simp (get-entries, len-entries, h) refl;
  leaves = λ t h. simp (get-entries, len-entries, entries-insert, entries-remove, entries-retain_keys, entries-empty, path_total, h) refl;
}

pub unlinks_no_directory : Step (([], Dir) ∷ (a, File []) ∷ (d, Dir) ∷ (dx, File []) ∷ []) (calls.Unlink d) (replies.Refused refusals.Eisdir) (([], Dir) ∷ (a, File []) ∷ (d, Dir) ∷ (dx, File []) ∷ [])
unfolding resized read_at make cut read stat unlink rmdir rename moved names_in content_at walk walk_to_parent
unlinks_no_directory = record {
  answers = λ t h. simp (get-entries, len-entries, h) refl;
  leaves = λ t h. simp (get-entries, len-entries, entries-insert, entries-remove, entries-retain_keys, entries-empty, path_total, h) refl;
}

pub cuts_up_with_zeros : Step (([], Dir) ∷ (a, File []) ∷ (d, Dir) ∷ (dx, File []) ∷ []) (calls.Cut a 3) (replies.Ok) (([], Dir) ∷ (a, File (0 ∷ 0 ∷ 0 ∷ [])) ∷ (d, Dir) ∷ (dx, File []) ∷ [])
unfolding resized read_at make cut read stat unlink rmdir rename moved names_in content_at walk walk_to_parent
cuts_up_with_zeros = record {
  answers = λ t h. simp (get-entries, len-entries, h) refl;
  leaves = λ t h. simp (get-entries, len-entries, entries-insert, entries-remove, entries-retain_keys, entries-empty, path_total, h) refl;
}

pub reads_zeros : Step (([], Dir) ∷ (a, File (0 ∷ 0 ∷ 0 ∷ [])) ∷ (d, Dir) ∷ (dx, File []) ∷ []) (calls.Read a 0 9) (replies.Data (0 ∷ 0 ∷ 0 ∷ [])) (([], Dir) ∷ (a, File (0 ∷ 0 ∷ 0 ∷ [])) ∷ (d, Dir) ∷ (dx, File []) ∷ [])
unfolding resized read_at make cut read stat unlink rmdir rename moved names_in content_at walk walk_to_parent
reads_zeros = record {
  answers = λ t h. simp (get-entries, len-entries, h) refl;
  leaves = λ t h. simp (get-entries, len-entries, entries-insert, entries-remove, entries-retain_keys, entries-empty, path_total, h) refl;
}

pub counts_the_names : Step (([], Dir) ∷ (a, File (0 ∷ 0 ∷ 0 ∷ [])) ∷ (d, Dir) ∷ (dx, File []) ∷ []) (calls.Stat d) (replies.Dir 1) (([], Dir) ∷ (a, File (0 ∷ 0 ∷ 0 ∷ [])) ∷ (d, Dir) ∷ (dx, File []) ∷ [])
unfolding resized read_at make cut read stat unlink rmdir rename moved names_in content_at walk walk_to_parent
counts_the_names = record {
  answers = λ t h. simp (get-entries, len-entries, h) refl;
  leaves = λ t h. simp (get-entries, len-entries, entries-insert, entries-remove, entries-retain_keys, entries-empty, path_total, h) refl;
}

pub moves_a_whole_directory : Step (([], Dir) ∷ (a, File (0 ∷ 0 ∷ 0 ∷ [])) ∷ (d, Dir) ∷ (dx, File []) ∷ []) (calls.Rename d b) (replies.Ok) (([], Dir) ∷ (a, File (0 ∷ 0 ∷ 0 ∷ [])) ∷ (b, Dir) ∷ (bx, File []) ∷ [])
unfolding resized read_at make cut read stat unlink rmdir rename moved names_in content_at walk walk_to_parent
moves_a_whole_directory = record {
  answers = λ t h. simp (get-entries, len-entries, h) refl;
  leaves = λ t h. simp (get-entries, len-entries, entries-insert, entries-remove, entries-retain_keys, entries-empty, path_total, h) refl;
}

pub moves_no_directory_onto_a_file : Step (([], Dir) ∷ (a, File (0 ∷ 0 ∷ 0 ∷ [])) ∷ (b, Dir) ∷ (bx, File []) ∷ []) (calls.Rename b a) (replies.Refused refusals.Enotdir) (([], Dir) ∷ (a, File (0 ∷ 0 ∷ 0 ∷ [])) ∷ (b, Dir) ∷ (bx, File []) ∷ [])
unfolding resized read_at make cut read stat unlink rmdir rename moved names_in content_at walk walk_to_parent
moves_no_directory_onto_a_file = record {
  answers = λ t h. simp (get-entries, len-entries, h) refl;
  leaves = λ t h. simp (get-entries, len-entries, entries-insert, entries-remove, entries-retain_keys, entries-empty, path_total, h) refl;
}

pub moves_no_file_onto_a_directory : Step (([], Dir) ∷ (a, File (0 ∷ 0 ∷ 0 ∷ [])) ∷ (b, Dir) ∷ (bx, File []) ∷ []) (calls.Rename a b) (replies.Refused refusals.Eisdir) (([], Dir) ∷ (a, File (0 ∷ 0 ∷ 0 ∷ [])) ∷ (b, Dir) ∷ (bx, File []) ∷ [])
unfolding resized read_at make cut read stat unlink rmdir rename moved names_in content_at walk walk_to_parent
moves_no_file_onto_a_directory = record {
  answers = λ t h. simp (get-entries, len-entries, h) refl;
  leaves = λ t h. simp (get-entries, len-entries, entries-insert, entries-remove, entries-retain_keys, entries-empty, path_total, h) refl;
}

pub replaces_a_file : Step (([], Dir) ∷ (a, File (0 ∷ 0 ∷ 0 ∷ [])) ∷ (b, Dir) ∷ (bx, File []) ∷ []) (calls.Rename a bx) (replies.Ok) (([], Dir) ∷ (b, Dir) ∷ (bx, File (0 ∷ 0 ∷ 0 ∷ [])) ∷ [])
unfolding resized read_at make cut read stat unlink rmdir rename moved names_in content_at walk walk_to_parent
replaces_a_file = record {
  answers = λ t h. simp (get-entries, len-entries, h) refl;
  leaves = λ t h. simp (get-entries, len-entries, entries-insert, entries-remove, entries-retain_keys, entries-empty, path_total, h) refl;
}

pub unlinks_a_file : Step (([], Dir) ∷ (b, Dir) ∷ (bx, File (0 ∷ 0 ∷ 0 ∷ [])) ∷ []) (calls.Unlink bx) (replies.Ok) (([], Dir) ∷ (b, Dir) ∷ [])
unfolding resized read_at make cut read stat unlink rmdir rename moved names_in content_at walk walk_to_parent
unlinks_a_file = record {
  answers = λ t h. simp (get-entries, len-entries, h) refl;
  leaves = λ t h. simp (get-entries, len-entries, entries-insert, entries-remove, entries-retain_keys, entries-empty, path_total, h) refl;
}

pub removes_an_empty_directory : Step (([], Dir) ∷ (b, Dir) ∷ []) (calls.Rmdir b) (replies.Ok) (([], Dir) ∷ [])
unfolding resized read_at make cut read stat unlink rmdir rename moved names_in content_at walk walk_to_parent
removes_an_empty_directory = record {
  answers = λ t h. simp (get-entries, len-entries, h) refl;
  leaves = λ t h. simp (get-entries, len-entries, entries-insert, entries-remove, entries-retain_keys, entries-empty, path_total, h) refl;
}
