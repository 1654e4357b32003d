-- How much longer a dump is after each call.
use Rattle.std.proofs.Common.{◌≡◌, ◌≢◌, ℕ, ◌+◌, ◌-◌, ◌*◌, ◌^◌, ◌<◌, ◌≤◌, min, Bool, true, false, ◌||◌, cond, not, nat_eq, nat_lt, T, List, [], ◌∷◌, ◌++◌, length, Some, None, Ok, Err, is_none, refl, sym, ap, ◌∙◌, arith}
use Rattle.std.specs.List.{sum_by, list_any}
use Rattle.std.specs.FinMap.{get, insert, remove, len, entries, get-entries, entries_sorted, entries-insert, len-entries}
use Rattle.std.specs.FinMap.Entries.{find, put, by_order, where_key, is_sorted, below_all}
use Rattle.std.specs.Ordering.{is_eq, eq_by_cmp}
use Rattle.std.specs.declared.cmp.Ordering.TheVariants.{Less, Equal, Greater}
use Rattle.std.proofs.lemmas.List.Sums.{sum_by-cons}
use Rattle.std.proofs.Math.Nat.{mul-le-mul_left}
use Rattle.std.proofs.lemmas.Bool.{ltb-false}
use Rattle.hl_tree.specs.declared.call.Limits.{Limits}
use Rattle.hl_tree.specs.declared.call.Call.{Call}
use Rattle.hl_tree.specs.declared.call.Call.TheVariants as calls
use Rattle.hl_tree.specs.declared.call.Reply.{Reply}
use Rattle.hl_tree.specs.declared.node.Node.{Node}
use Rattle.hl_tree.specs.declared.node.Node.TheVariants.{Dir, File}
use Rattle.hl_tree.specs.Contents.{written, resized}
use Rattle.hl_tree.specs.Names.{path_cmp, path_length, is_too_long, below, put_under, moved_path}
use Rattle.hl_tree.specs.Moved.{put_all, kept_rows}
use Rattle.hl_tree.specs.Tree.{moved, moved_entries, content_at}
use Rattle.hl_tree.specs.Rules.{Files, Outcome, outcome, tree_of, after, make, write, cut, read, stat, list, unlink, rmdir, rename}
use Rattle.hl_tree.proofs.NamesBelow.{append-below}
use Rattle.hl_tree.proofs.Contents.{length-resized}
use Rattle.hl_tree_laws.proofs.Contents.{length-written}
use Rattle.hl_tree.proofs.Maps.{path_total, path_exact, entries-remove}
use Rattle.hl_tree.proofs.Places.{all_above, find_above}
use Rattle.hl_tree.proofs.Lookups.{content_at-finds}
use Rattle.hl_tree.proofs.Room.{length-where_key-le}
use Rattle.hl_tree.proofs.Sorted.{entries-moved, view_entries}
use Rattle.hl_dump.specs.Dumps.{dump_size}
use Rattle.hl_dump.specs.Longer.{content_in, past, most_growth, renamed}
use Rattle.hl_dump.specs.Reading.{Row}
use Rattle.hl_dump.specs.Sizes.{entry_size, content_size}
use Rattle.hl_dump.proofs.Dumps.{left, right}
use Rattle.hl_dump.proofs.Sizes.{dump_size-rows}
use Rattle.hl_dump.proofs.Steps.{path_length-append}

abbrev Names : Type 0
Names = List (List ℕ)

-- the bytes of rows
abbrev pub size_of : List Row → ℕ
size_of rows = sum_by entry_size rows

-- a row that is put among others
pub size-put : (k : Names) (v : Node (List ℕ)) (es : List Row) → size_of (put path_cmp k v es) ≤ size_of es + entry_size (k, v)
size-put k v [] = omega arith
size-put k v (e ∷ es) =
    let whole = sum_by-cons entry_size e es in
    elim (path_cmp k e.0) as (λ o. path_cmp k e.0 ≡ o → size_of (by_order o ((k, v) ∷ e ∷ es) ((e.0, v) ∷ es) (e ∷ put path_cmp k v es)) ≤ size_of (e ∷ es) + entry_size (k, v)) [
      | Less ↦ λ p. let one = sum_by-cons entry_size (k, v) (e ∷ es) in omega (arith, one)
      | Equal ↦ λ p.
          let one = sum_by-cons entry_size (e.0, v) es in
          let same : entry_size (e.0, v) ≡ entry_size (k, v) = ap (λ (n : Names). entry_size (n, v)) (sym (path_exact k e.0 p)) in
          omega (arith, whole, one, same)
      | Greater ↦ λ p. let one = sum_by-cons entry_size e (put path_cmp k v es) in let rest = size-put k v es in omega (arith, whole, one, rest)
    ] refl

-- a row that is put in the place of another
pub size-put_there : (k : Names) (v old : Node (List ℕ)) (es : List Row) → T (is_sorted path_cmp es) → find path_cmp k es ≡ Some old → size_of (put path_cmp k v es) + entry_size (k, old) ≡ size_of es + entry_size (k, v)
size-put_there k v old [] order found = absurd cc
size-put_there k v old (e ∷ es) order found =
    let whole = sum_by-cons entry_size e es in
    elim (path_cmp k e.0) as (λ o. path_cmp k e.0 ≡ o → cond (is_eq o) (Some e.1) (find path_cmp k es) ≡ Some old → size_of (by_order o ((k, v) ∷ e ∷ es) ((e.0, v) ∷ es) (e ∷ put path_cmp k v es)) + entry_size (k, old) ≡ size_of (e ∷ es) + entry_size (k, v)) [
      | Less ↦ λ p f.
          let above = all_above e.0 es (left (below_all path_cmp e.0 es) _ order) in
          let none : find path_cmp k es ≡ None = find_above k es (λ i d lt. path_total.trans k e.0 _ p (above i d lt)) in
          let clash : None ≡ Some old = sym none ∙ f in absurd cc
      | Equal ↦ λ p f.
          let one = sum_by-cons entry_size (e.0, v) es in
          let key : e.0 ≡ k = sym (path_exact k e.0 p) in
          let value : e.1 ≡ old = cc in
          let new : entry_size (e.0, v) ≡ entry_size (k, v) = ap (λ (n : Names). entry_size (n, v)) key in
          let was : entry_size e ≡ entry_size (k, old) = λ i. entry_size (key i, value i) in
          omega (arith, whole, one, new, was)
      | Greater ↦ λ p f. let one = sum_by-cons entry_size e (put path_cmp k v es) in let rest = size-put_there k v old es (right (below_all path_cmp e.0 es) _ order) f in omega (arith, whole, one, rest)
    ] refl found

-- rows of which some go
pub size-where_key : (p : Names → Bool) (es : List Row) → size_of (where_key path_cmp p es) ≤ size_of es
size-where_key p [] = omega arith
size-where_key p (e ∷ es) =
    let whole = sum_by-cons entry_size e es in
    let rest = size-where_key p es in
    elim (p e.0) as (λ b. size_of (cond b (e ∷ where_key path_cmp p es) (where_key path_cmp p es)) ≤ size_of (e ∷ es)) [
      | true ↦ let one = sum_by-cons entry_size e (where_key path_cmp p es) in omega (arith, whole, rest, one)
      | false ↦ omega (arith, whole, rest)
    ]

pub size-put_all : (es : List Row) → size_of (put_all es) ≤ size_of es
size-put_all [] = omega arith
size-put_all (e ∷ es) =
    let whole = sum_by-cons entry_size e es in
    let rest = size-put_all es in
    let one = size-put e.0 e.1 (put_all es) in
    omega (arith, whole, rest, one)

-- an entry with another path
size_at_most : (p : Names) (node : Node (List ℕ)) → entry_size (p, node) ≤ 5 + path_length p + content_size node
size_at_most [] node = omega arith
size_at_most (name ∷ names) node = omega arith

size_below : (p : Names) (node : Node (List ℕ)) → p ≢ [] → entry_size (p, node) ≡ 5 + path_length p + content_size node
size_below [] node some = absurd (some refl)
size_below (name ∷ names) node some = refl

not_root : (from rest p : Names) → from ≢ [] → from ++ rest ≡ p → p ≢ []
not_root [] rest p some is root = some refl
not_root (x ∷ from) rest p some is root = let clash : x ∷ (from ++ rest) ≡ [] = is ∙ root in cc

size_moved : (from to p : Names) (node : Node (List ℕ)) → from ≢ [] → entry_size (moved_path from to p, node) ≤ entry_size (p, node) + path_length to
size_moved from to p node some =
    elim (below from p) as (λ o. below from p ≡ o → entry_size (put_under to p o, node) ≤ entry_size (p, node) + path_length to) [
      | None ↦ λ h. omega arith
      | Some rest ↦ λ h.
          let is : from ++ rest ≡ p = append-below from p rest h in
          let was = size_below p node (not_root from rest p some is) in
          let now = size_at_most (to ++ rest) node in
          let long = ap path_length is in
          omega (arith, was, now, long, path_length-append from rest, path_length-append to rest)
    ] refl

size-moved_entries : (from to : Names) (es : List Row) → from ≢ [] → size_of (moved_entries from to es) ≤ size_of es + path_length to * length es
size-moved_entries from to [] some = omega arith
size-moved_entries from to (e ∷ es) some =
    let whole = sum_by-cons entry_size e es in
    let one = sum_by-cons entry_size (moved_path from to e.0, e.1) (moved_entries from to es) in
    let first = size_moved from to e.0 e.1 some in
    let rest = size-moved_entries from to es some in
    omega (arith, whole, one, first, rest)

-- the dump after each kind of change
pub dump_size-insert : (t : Files) (k : Names) (v : Node (List ℕ)) → dump_size (insert t k v) ≤ dump_size t + entry_size (k, v)
dump_size-insert t k v =
    let now = dump_size-rows (insert t k v) ∙ ap size_of (entries-insert path_total t k v) in
    let was = dump_size-rows t in
    let more = size-put k v (entries t) in
    omega (arith, now, was, more)

file_size : (k : Names) (old new : List ℕ) → entry_size (k, File new) ≤ entry_size (k, File old) + (length new - length old)
file_size [] old new = omega arith
file_size (name ∷ names) old new = omega arith

pub dump_size-file : (t : Files) (k : Names) (old new : List ℕ) → get t k ≡ Some (File old) → dump_size (insert t k (File new)) ≤ dump_size t + (length new - length old)
dump_size-file t k old new there =
    let now = dump_size-rows (insert t k (File new)) ∙ ap size_of (entries-insert path_total t k (File new)) in
    let was = dump_size-rows t in
    let more = size-put_there k (File new) (File old) (entries t) (entries_sorted t) (sym (get-entries t k) ∙ there) in
    let file = file_size k old new in
    omega (arith, now, was, more, file)

pub dump_size-remove : (t : Files) (k : Names) → dump_size (remove t k) ≤ dump_size t
dump_size-remove t k =
    let now = dump_size-rows (remove t k) ∙ ap size_of (entries-remove t k) in
    let was = dump_size-rows t in
    let less = size-where_key (λ x. not (eq_by_cmp path_cmp k x)) (entries t) in
    omega (arith, now, was, less)

pub dump_size-moved : (t : Files) (from to : Names) → from ≢ [] → dump_size (moved t from to) ≤ dump_size t + path_length to * len t
dump_size-moved t from to some =
    let kept = kept_rows to (entries t) in
    let now : dump_size (moved t from to) ≡ size_of (put_all (moved_entries from to kept)) = dump_size-rows (moved t from to) ∙ ap size_of (sym (entries-moved (entries t) t (view_entries (entries t) t refl) (entries_sorted t) from to)) in
    let was = dump_size-rows t in
    let all = size-put_all (moved_entries from to kept) in
    let each = size-moved_entries from to kept some in
    let less = size-where_key (λ path. is_none (below to path)) (entries t) in
    let fewer : length kept ≤ len t = let n = len-entries t in omega (arith, n, length-where_key-le (λ path. is_none (below to path)) (entries t)) in
    let product = mul-le-mul_left (path_length to) fewer in
    omega (arith, now, was, all, each, less, product)

empty_file : (p : Names) → entry_size (p, File []) ≤ entry_size (p, Dir) + 4
empty_file [] = omega arith
empty_file (name ∷ names) = omega arith

-- what a Rename adds has room in 64 bits
renamed_small : (t : Files) (to : Names) → len t < 2 ^ 32 → renamed t to ≤ 2 ^ 64 - 1
renamed_small t to few =
    let least : min (path_length to) 1023 ≤ 1023 = omega arith in
    let product = mul-le-mul_left (len t) least in
    omega (arith, product, few)

-- a path that is not refused as too long
either_false : (a b : Bool) → (a || b) ≡ false → b ≡ false
either_false true b is = absurd cc
either_false false b is = is

pub not_too_long : (p : Names) → is_too_long p ≡ false → path_length p ≤ 1023
not_too_long p is = ltb-false 1023 (path_length p) (either_false (list_any (λ name. nat_lt 255 (length name)) p) (nat_lt 1023 (path_length p)) is)

module _ (limits : Limits) (t : Files) (r : Reply) (new : Files) where
  make-longer : (node : Node (List ℕ)) (path : Names) → make limits t node path ≡ Ok (r, new) → (path_length path ≤ 1023) × (dump_size new ≤ dump_size t + entry_size (path, node))
  unfolding make
  make-longer node path ok =
      let short : is_too_long path ≡ false = grind arith in
      let is : new ≡ insert t path node = grind arith in
      let size = ap dump_size is in
      (not_too_long path short, omega (arith, size, dump_size-insert t path node))

  write-longer : (path : Names) (at : ℕ) (bytes : List ℕ) → write limits t path at bytes ≡ Ok (r, new) → dump_size new ≤ dump_size t + min (cond (nat_eq (length bytes) 0) 0 (past t path (at + length bytes))) limits.bytes
  unfolding write
  write-longer path at bytes ok =
      elim (content_at t path) as (λ o. content_at t path ≡ o → dump_size new ≤ dump_size t + min (cond (nat_eq (length bytes) 0) 0 (past t path (at + length bytes))) limits.bytes) [
        | Err why ↦ λ e. let clash : ⊥ = grind arith in absurd clash
        | Ok old ↦ λ e. elim (nat_eq (length bytes) 0) as (λ b. nat_eq (length bytes) 0 ≡ b → dump_size new ≤ dump_size t + min (cond b 0 (past t path (at + length bytes))) limits.bytes) [
          | true ↦ λ z. let is : new ≡ t = grind arith in let size = ap dump_size is in omega (arith, size)
          | false ↦ λ z.
              let is : new ≡ insert t path (File (written old at bytes)) = grind arith in
              let within : at + length bytes ≤ limits.bytes = grind arith in
              let there : get t path ≡ Some (File old) = content_at-finds t path old e in
              let size = ap dump_size is in
              let file : past t path (at + length bytes) ≡ at + length bytes - length old = ap (λ o. at + length bytes - length (content_in o)) there in
              omega (arith, size, within, file, dump_size-file t path old (written old at bytes) there, length-written old at bytes)
        ] refl
      ] refl

  cut-longer : (path : Names) (size : ℕ) → cut limits t path size ≡ Ok (r, new) → dump_size new ≤ dump_size t + min (past t path size) limits.bytes
  unfolding cut
  cut-longer path size ok =
      elim (content_at t path) as (λ o. content_at t path ≡ o → dump_size new ≤ dump_size t + min (past t path size) limits.bytes) [
        | Err why ↦ λ e. let clash : ⊥ = grind arith in absurd clash
        | Ok old ↦ λ e.
            let is : new ≡ insert t path (File (resized old size)) = grind arith in
            let within : size ≤ limits.bytes = grind arith in
            let there : get t path ≡ Some (File old) = content_at-finds t path old e in
            let sizes = ap dump_size is in
            let file : past t path size ≡ size - length old = ap (λ o. size - length (content_in o)) there in
            omega (arith, sizes, within, file, dump_size-file t path old (resized old size) there, length-resized old size)
      ] refl

  unlink-longer : (path : Names) → unlink limits t path ≡ Ok (r, new) → dump_size new ≤ dump_size t
  unfolding unlink
  unlink-longer path ok =
      let is : new ≡ remove t path = grind arith in
      let size = ap dump_size is in
      omega (arith, size, dump_size-remove t path)

  rmdir-longer : (path : Names) → rmdir limits t path ≡ Ok (r, new) → dump_size new ≤ dump_size t
  unfolding rmdir
  rmdir-longer path ok =
      let is : new ≡ remove t path = grind arith in
      let size = ap dump_size is in
      omega (arith, size, dump_size-remove t path)

  rename-longer : (from to : Names) → rename limits t from to ≡ Ok (r, new) → dump_size new ≤ dump_size t + renamed t to
  unfolding rename
  rename-longer from to ok =
      let short : is_too_long to ≡ false = grind arith in
      let long : nat_eq (length from) 0 ≡ false = grind arith in
      let some : from ≢ [] = λ root. let clash : true ≡ false = sym (ap (λ (p : Names). nat_eq (length p) 0) root) ∙ long in cc in
      elim (eq_by_cmp path_cmp from to) as (λ b. eq_by_cmp path_cmp from to ≡ b → dump_size new ≤ dump_size t + renamed t to) [
        | true ↦ λ z. let is : new ≡ t = grind arith in let size = ap dump_size is in omega (arith, size)
        | false ↦ λ z.
            let is : new ≡ moved t from to = grind arith in
            let size = ap dump_size is in
            let least : min (path_length to) 1023 ≡ path_length to = let p = not_too_long to short in omega (arith, p) in
            let product : renamed t to ≡ path_length to * len t = ap (λ (n : ℕ). len t * n) least ∙ (let c : len t * path_length to ≡ path_length to * len t = omega arith in c) in
            omega (arith, size, product, dump_size-moved t from to some)
      ] refl

  kept_size : new ≡ t → dump_size new ≤ dump_size t
  kept_size is = let size = ap dump_size is in omega (arith, size)

  -- a call that is not refused
  pub outcome-longer : (call : Call) → limits.bytes < 2 ^ 64 → len t < 2 ^ 32 → outcome limits t call ≡ Ok (r, new) → dump_size new ≤ dump_size t + min (most_growth t call) (2 ^ 64 - 1)
  unfolding read stat list
  outcome-longer (calls.Mkdir path) bytes few ok = let s = make-longer Dir path ok in let one = size_at_most path Dir in omega (arith, s.0, s.1, one)
  outcome-longer (calls.Create path) bytes few ok = let s = make-longer (File []) path ok in let one = size_at_most path Dir in let two = empty_file path in omega (arith, s.0, s.1, one, two)
  outcome-longer (calls.Write path at part) bytes few ok = let s = write-longer path at part ok in omega (arith, s)
  outcome-longer (calls.Cut path size) bytes few ok = let s = cut-longer path size ok in omega (arith, s)
  outcome-longer (calls.Read path at count) bytes few ok = let s = kept_size (grind arith) in omega (arith, s)
  outcome-longer (calls.Stat path) bytes few ok = let s = kept_size (grind arith) in omega (arith, s)
  outcome-longer (calls.List path) bytes few ok = let s = kept_size (grind arith) in omega (arith, s)
  outcome-longer (calls.Unlink path) bytes few ok = let s = unlink-longer path ok in omega (arith, s)
  outcome-longer (calls.Rmdir path) bytes few ok = let s = rmdir-longer path ok in omega (arith, s)
  outcome-longer (calls.Rename from to) bytes few ok = let s = rename-longer from to ok in let small = renamed_small t to few in omega (arith, s, small)
  outcome-longer calls.Sync bytes few ok = let s = kept_size (grind arith) in omega (arith, s)

longer_of : (limits : Limits) (t : Files) (call : Call) (o : Outcome) → limits.bytes < 2 ^ 64 → len t < 2 ^ 32 → outcome limits t call ≡ o → dump_size (tree_of t o) ≤ dump_size t + min (most_growth t call) (2 ^ 64 - 1)
longer_of limits t call (Ok done) bytes few is = outcome-longer limits t done.0 done.1 call bytes few is
longer_of limits t call (Err why) bytes few is = omega arith

-- how much longer a dump is after a call
pub dump_size-after : (limits : Limits) (t : Files) (call : Call) → limits.bytes < 2 ^ 64 → len t < 2 ^ 32 → dump_size (after limits t call) ≤ dump_size t + min (most_growth t call) (2 ^ 64 - 1)
dump_size-after limits t call bytes few = longer_of limits t call (outcome limits t call) bytes few refl
