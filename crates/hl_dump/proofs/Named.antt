-- Each path of a tree is of names after each call, and a dump stays one.
use Rattle.std.proofs.Common.{◌≡◌, ℕ, ◌≤◌, Bool, true, false, not, nat_eq, List, [], ◌∷◌, length, All, Some, None, Ok, Err, is_none, refl, sym, ap, subst, ◌∙◌, arith}
use Rattle.std.specs.FinMap.{insert, remove, len, entries, entries_sorted, entries-insert}
use Rattle.std.specs.FinMap.Entries.{put, by_order, where_key}
use Rattle.std.specs.Ordering.{eq_by_cmp}
use Rattle.std.specs.declared.cmp.Ordering.TheVariants.{Less, Equal, Greater}
use Rattle.std.proofs.lemmas.List.Elements.{All-head, All-tail, All-cons, All-nil, All-append, All-filter, All-map, All-weaker}
use Rattle.hl_tree.specs.declared.call.Limits.{Limits}
use Rattle.hl_tree.specs.declared.call.Call.{Call}
use Rattle.hl_tree.specs.declared.call.Call.TheVariants as calls
use Rattle.hl_tree.specs.declared.call.Reply.{Reply}
use Rattle.hl_tree.specs.declared.node.Node.{Node}
use Rattle.hl_tree.specs.declared.node.Node.TheVariants.{Dir, File}
use Rattle.hl_tree.specs.Contents.{written, resized}
use Rattle.hl_tree.specs.Moved.{put_all, kept_rows}
use Rattle.hl_tree.specs.Names.{IsName, AreNames, path_cmp, below, put_under, moved_path}
use Rattle.hl_tree.specs.Tree.{moved, moved_entries, content_at}
use Rattle.hl_tree.specs.Rules.{Files, Outcome, outcome, tree_of, after, make, write, cut, read, stat, list, unlink, rmdir, rename}
use Rattle.hl_tree_laws.proofs.After.{IsTree-after}
use Rattle.hl_tree.proofs.NamesBelow.{All-below}
use Rattle.hl_tree.proofs.Maps.{path_total, entries-remove}
use Rattle.hl_tree.proofs.Room.{outcome-fits}
use Rattle.hl_tree.proofs.Sorted.{entries-moved, view_entries}
use Rattle.hl_dump.specs.Dumps.{HasDump, dump_limits, dump_max, dump_size}
use Rattle.hl_dump.specs.Longer.{names_of}
use Rattle.hl_dump.specs.Reading.{Row}

abbrev Names : Type 0
Names = List (List ℕ)

abbrev HasNames : Row → Type 0
HasNames e = AreNames e.0

abbrev pub AllNamed : List Row → Type 0
AllNamed rows = All (λ (e : Row). AreNames e.0) rows

-- a row that is put among others
named-put : (k : Names) (v : Node (List ℕ)) (es : List Row) → AreNames k → AllNamed es → AllNamed (put path_cmp k v es)
named-put k v [] key all = All-cons HasNames (k, v) [] key (All-nil HasNames)
named-put k v (e ∷ es) key all =
    let first : AreNames e.0 = All-head HasNames e es all in
    let rest : AllNamed es = All-tail HasNames e es all in
    elim (path_cmp k e.0) as (λ o. AllNamed (by_order o ((k, v) ∷ e ∷ es) ((e.0, v) ∷ es) (e ∷ put path_cmp k v es))) [
      | Less ↦ All-cons HasNames (k, v) (e ∷ es) key all
      | Equal ↦ All-cons HasNames (e.0, v) es first rest
      | Greater ↦ All-cons HasNames e (put path_cmp k v es) first (named-put k v es key rest)
    ]

named-put_all : (es : List Row) → AllNamed es → AllNamed (put_all es)
named-put_all [] all = all
named-put_all (e ∷ es) all = named-put e.0 e.1 (put_all es) (All-head HasNames e es all) (named-put_all es (All-tail HasNames e es all))

named-where_key : (p : Names → Bool) (es : List Row) → AllNamed es → AllNamed (where_key path_cmp p es)
named-where_key p es all = All-filter (λ (e : Row). p e.0) HasNames es all

-- where a path lies once another has moved
named_path : (from to p : Names) → AreNames to → AreNames p → AreNames (moved_path from to p)
named_path from to p target named =
    elim (below from p) as (λ o. below from p ≡ o → AreNames (put_under to p o)) [
      | None ↦ λ h. named
      | Some rest ↦ λ h. All-append IsName to rest target (All-below IsName from p rest h named)
    ] refl

named-moved_entries : (from to : Names) (es : List Row) → AreNames to → AllNamed es → AllNamed (moved_entries from to es)
named-moved_entries from to es target all =
    All-map HasNames (λ (e : Row). (moved_path from to e.0, e.1)) es (All-weaker HasNames (λ (e : Row). AreNames (moved_path from to e.0)) (λ e named. named_path from to e.0 target named) es all)

module _ (limits : Limits) (t : Files) (r : Reply) (new : Files) (all : AllNamed (entries t)) where
  named-same : new ≡ t → AllNamed (entries new)
  named-same is = subst (λ m. AllNamed (entries m)) (sym is) all

  named-insert : (k : Names) (v : Node (List ℕ)) → AreNames k → new ≡ insert t k v → AllNamed (entries new)
  named-insert k v key is = subst AllNamed (sym (ap entries is ∙ entries-insert path_total t k v)) (named-put k v (entries t) key all)

  named-remove : (k : Names) → new ≡ remove t k → AllNamed (entries new)
  named-remove k is = subst AllNamed (sym (ap entries is ∙ entries-remove t k)) (named-where_key (λ x. not (eq_by_cmp path_cmp k x)) (entries t) all)

  named-moved : (from to : Names) → AreNames to → new ≡ moved t from to → AllNamed (entries new)
  named-moved from to target is =
      subst AllNamed (entries-moved (entries t) t (view_entries (entries t) t refl) (entries_sorted t) from to ∙ sym (ap entries is))
      (named-put_all (moved_entries from to (kept_rows to (entries t))) (named-moved_entries from to (kept_rows to (entries t)) target (named-where_key (λ path. is_none (below to path)) (entries t) all)))

  named-make : (node : Node (List ℕ)) (path : Names) → AreNames path → make limits t node path ≡ Ok (r, new) → AllNamed (entries new)
  unfolding make
  named-make node path key ok = named-insert path node key (grind arith)

  named-write : (path : Names) (at : ℕ) (bytes : List ℕ) → AreNames path → write limits t path at bytes ≡ Ok (r, new) → AllNamed (entries new)
  unfolding write
  named-write path at bytes key ok =
      elim (content_at t path) as (λ o. content_at t path ≡ o → AllNamed (entries new)) [
        | Err why ↦ λ e. let clash : ⊥ = grind arith in absurd clash
        | Ok old ↦ λ e. elim (nat_eq (length bytes) 0) as (λ b. nat_eq (length bytes) 0 ≡ b → AllNamed (entries new)) [
          | true ↦ λ z. named-same (grind arith)
          | false ↦ λ z. named-insert path (File (written old at bytes)) key (grind arith)
        ] refl
      ] refl

  named-cut : (path : Names) (size : ℕ) → AreNames path → cut limits t path size ≡ Ok (r, new) → AllNamed (entries new)
  unfolding cut
  named-cut path size key ok =
      elim (content_at t path) as (λ o. content_at t path ≡ o → AllNamed (entries new)) [
        | Err why ↦ λ e. let clash : ⊥ = grind arith in absurd clash
        | Ok old ↦ λ e. named-insert path (File (resized old size)) key (grind arith)
      ] refl

  named-rename : (from to : Names) → AreNames to → rename limits t from to ≡ Ok (r, new) → AllNamed (entries new)
  unfolding rename
  named-rename from to target ok =
      elim (eq_by_cmp path_cmp from to) as (λ b. eq_by_cmp path_cmp from to ≡ b → AllNamed (entries new)) [
        | true ↦ λ z. named-same (grind arith)
        | false ↦ λ z. named-moved from to target (grind arith)
      ] refl

  named-outcome : (call : Call) → AreNames (names_of call) → outcome limits t call ≡ Ok (r, new) → AllNamed (entries new)
  unfolding read stat list unlink rmdir
  named-outcome (calls.Mkdir path) key ok = named-make Dir path key ok
  named-outcome (calls.Create path) key ok = named-make (File []) path key ok
  named-outcome (calls.Write path at bytes) key ok = named-write path at bytes key ok
  named-outcome (calls.Cut path size) key ok = named-cut path size key ok
  named-outcome (calls.Read path at count) key ok = named-same (grind arith)
  named-outcome (calls.Stat path) key ok = named-same (grind arith)
  named-outcome (calls.List path) key ok = named-same (grind arith)
  named-outcome (calls.Unlink path) key ok = named-remove path (grind arith)
  named-outcome (calls.Rmdir path) key ok = named-remove path (grind arith)
  named-outcome (calls.Rename from to) key ok = named-rename from to key ok
  named-outcome calls.Sync key ok = named-same (grind arith)

-- after a call that names what it puts, each path is of names
named_of : (limits : Limits) (t : Files) (call : Call) (o : Outcome) → AllNamed (entries t) → AreNames (names_of call) → outcome limits t call ≡ o → AllNamed (entries (tree_of t o))
named_of limits t call (Ok done) all key is = named-outcome limits t done.0 done.1 all call key is
named_of limits t call (Err why) all key is = all

few_of : (limits : Limits) (t : Files) (call : Call) (o : Outcome) → len t ≤ limits.nodes → outcome limits t call ≡ o → len (tree_of t o) ≤ limits.nodes
few_of limits t call (Ok done) few is = (outcome-fits limits t call done.0 done.1 is).room few
few_of limits t call (Err why) few is = few

-- a tree that can be dumped can be dumped after a call, if its dump isn't too long then
pub HasDump-after : (limits : Limits) (t : Files) (call : Call) → limits ≡ dump_limits → AreNames (names_of call) → HasDump t → dump_size (after limits t call) ≤ dump_max → HasDump (after limits t call)
HasDump-after limits t call is key has short =
    let nodes : limits.nodes ≡ 511 = ap (λ (l : Limits). l.nodes) is in
    let had = has.few in
    let few = few_of limits t call (outcome limits t call) (omega (arith, nodes, had)) refl in
    record {
      is_tree = IsTree-after limits t has.is_tree call;
      named = named_of limits t call (outcome limits t call) has.named key refl;
      few = omega (arith, nodes, few);
      short = short;
    }
