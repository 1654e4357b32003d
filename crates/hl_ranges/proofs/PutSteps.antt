-- Blocks of a node that are put, one behind the other.
use Rattle.std.proofs.Common.{arith, ◌≡◌, inl, inr, ℕ, ◌+◌, ◌*◌, ◌<◌, ◌≤◌, IsSome, List, Option, Some, option_map, refl, ◌∙◌, ap, sym, subst}
use Rattle.std.specs.Prelude.{slice_index, slice_set}
use Rattle.std.specs.FinMap.{get}
use Rattle.std.proofs.lemmas.Bool.{cases_eq}
use Rattle.hl_media.specs.History.{History, state_now}
use Rattle.hl_media.specs.Moments.{Runs}
use Rattle.hl_media.proofs.Runs.{ends_of_run}
use Rattle.hl_log.specs.Rest.{IsUnchanged}
use Rattle.hl_placed.specs.Blocks.{Here, PlacedFile, Shelf, blocks_of}
use Rattle.hl_paths.specs.Nodes.{FlatNode, Nodes}
use Rattle.hl_overlay.specs.declared.draft.NodeDraft.{NodeDraft}
use Rattle.hl_overlay.specs.declared.draft.Shape.{Shape}
use Rattle.hl_overlay.specs.Drafting.{blocks_of_shape}
use Rattle.hl_overlay.specs.DraftTables.{HasBlock, draft_of}
use Rattle.hl_overlaid.specs.NodesNow.{with_node}
use Rattle.hl_overlaid.specs.Changes.{with_block}
use Rattle.hl_overlaid.proofs.NowLemmas.{one, same_nodes, with_node-other, with_node-same}
use Rattle.hl_overlaid.proofs.PutLemmas.{mapped}
use Rattle.hl_store.specs.Values.{StoreValue, layout, nodes_of}
use Rattle.hl_store.specs.Lying.{LiesOver}
use Rattle.hl_store.specs.Finding.{ReadsNodes}
use Rattle.hl_store.specs.Shapes.{IsNumber}
use Rattle.hl_store.specs.Changes.{Always, ChangesNode, IsOfKind, KeepsBeside, KeepsOtherShapes, PutsInto, Reshapes, drafted_shape}
use Rattle.hl_ranges.specs.Files.{OfFile, file_node}
use Rattle.hl_ranges.specs.Ranges.{ChangesFile}
use Rattle.hl_ranges.specs.Writing.{patched}
use Rattle.hl_ranges.proofs.PatchedNodes.{patched_more, patched_none}

-- the size reaches each block before its last byte
pub in_blocks : (size end i : ℕ) → 4096 * i < end → end ≤ size → i < blocks_of size
unfolding blocks_of
in_blocks size end i low high = omega arith

-- a node given twice under a number is given once
with_twice : (nodes : Nodes) (ino : ℕ) (x y : Option FlatNode) → with_node (with_node nodes ino x) ino y ≡ with_node nodes ino y
with_twice nodes ino x y = same_nodes (with_node (with_node nodes ino x) ino y) (with_node nodes ino y) (λ q. elim (cases_eq q ino) as (λ _. get (with_node (with_node nodes ino x) ino y) q ≡ get (with_node nodes ino y) q) [
  | inl at ↦ ap (get (with_node (with_node nodes ino x) ino y)) at ∙ with_node-same (with_node nodes ino x) ino y ∙ sym (ap (get (with_node nodes ino y)) at ∙ with_node-same nodes ino y)
  | inr ne ↦ with_node-other (with_node nodes ino x) ino y q ne ∙ with_node-other nodes ino x q ne ∙ sym (with_node-other nodes ino y q ne)
])

module _ {M : Type 0} where
  -- what is beside stays through two changes
  pub beside_both : (old mid new : StoreValue M) → KeepsBeside old mid → KeepsBeside mid new → KeepsBeside old new
  beside_both old mid new a b = b ∙ ap (λ (x : StoreValue M). record x { overlay = new.overlay; uses = new.uses; tally = new.tally }) a

  -- the machine stays
  pub machine_stays : (old new : StoreValue M) → KeepsBeside old new → new.log.machine ≡ old.log.machine
  machine_stays old new beside = ap (λ (v : StoreValue M). v.log.machine) beside

  -- a number of the site stays one
  pub number_beside : (old new : StoreValue M) (ino : ℕ) → KeepsBeside old new → IsNumber old ino → IsNumber new ino
  number_beside old new ino beside is = record { low = is.low; high = subst (λ (v : StoreValue M). ino < (layout v).inodes) (sym beside) is.high }

  -- A NUMBER DRAFTED AS A NODE of a shape
  module _ (v : StoreValue M) (ino : ℕ) (shape : Shape) (is : drafted_shape v ino ≡ Some (Some shape)) where
    the_draft : (d : NodeDraft) × (draft_of v.overlay.drafts ino ≡ Some d) × (d.shape ≡ Some shape)
    the_draft = mapped (λ (y : NodeDraft). y.shape) (draft_of v.overlay.drafts ino) (Some shape) is

    pub shape_has_block : (i : ℕ) → i < blocks_of shape.size → HasBlock v.overlay.drafts ino i
    shape_has_block i lt = record { draft = the_draft.0; is = the_draft.1; within = subst (λ s. i < blocks_of_shape s) (sym the_draft.2) lt }

    pub shape_there : IsSome (draft_of v.overlay.drafts ino)
    shape_there = subst IsSome (sym the_draft.1) refl

    pub shape_kind : IsOfKind v ino shape.kind
    shape_kind d at s s_is = ap (λ (x : Shape). x.kind) (sym (one (ap (λ (y : NodeDraft). y.shape) (one at the_draft.1) ∙ the_draft.2) s_is))

  -- NONE IS PUT yet
  made_first : (old mid : StoreValue M) (ino : ℕ) (shape : Shape) (now first : ℕ) (new : ℕ → List ℕ) → Reshapes old mid ino now (Some shape) → ChangesNode old mid ino Always (λ was. Some (patched shape now first first new was))
  made_first old mid ino shape now first new r = record {
    beside = r.changes.beside;
    over = r.changes.over;
    nodes = λ c s l. r.changes.nodes c s l ∙ ap (λ n. with_node (nodes_of old c) ino (Some n)) (patched_none shape now first new (get (nodes_of old c) ino));
  }

  -- ONE MORE IS PUT
  made_more : (old mid next : StoreValue M) (ino : ℕ) (shape : Shape) (now first i : ℕ) (new : ℕ → List ℕ) → ChangesNode old mid ino Always (λ was. Some (patched shape now first i new was)) → slice_index mid.uses ino ≡ now
      → PutsInto mid next ino i Always (Here (new i)) → first ≤ i → i < blocks_of shape.size → ChangesNode old next ino Always (λ was. Some (patched shape now first (i + 1) new was))
  made_more old mid next ino shape now first i new a used p low within = record {
    beside = beside_both old mid next a.beside p.changes.beside;
    over = λ c s l always. p.changes.over c s (a.over c s l tt) tt;
    nodes = λ c s l. (
        let was = get (nodes_of old c) ino in
        let put = λ (n : Option FlatNode). option_map (λ (m : FlatNode). with_block m i (Here (new i)) (slice_index mid.uses ino)) n in
        p.changes.nodes c s (a.over c s l tt)
        ∙ ap (λ ns. with_node ns ino (put (get ns ino))) (a.nodes c s l)
        ∙ ap (λ n. with_node (with_node (nodes_of old c) ino (Some (patched shape now first i new was))) ino (put n)) (with_node-same (nodes_of old c) ino (Some (patched shape now first i new was)))
        ∙ with_twice (nodes_of old c) ino (Some (patched shape now first i new was)) (put (Some (patched shape now first i new was)))
        ∙ ap (λ n. with_node (nodes_of old c) ino (Some n)) (patched_more shape now (slice_index mid.uses ino) first i new was low within used));
  }

  -- WHAT WAS PUT SO FAR: the number is of another shape and has the new blocks from one up to this one, each of which took
  -- the room of one. It was used at this moment, and no other was, and no other draft changes its shape.
  pub record PutSoFar (old mid : StoreValue M) (ino : ℕ) (shape : Shape) (now first i : ℕ) (new : ℕ → List ℕ) : Type 0 where
    pub made : ChangesNode old mid ino Always (λ was. Some (patched shape now first i new was))
    pub uses : mid.uses ≡ slice_set old.uses ino now
    pub used : slice_index mid.uses ino ≡ now
    pub drafted : drafted_shape mid ino ≡ Some (Some shape)
    pub others : KeepsOtherShapes old mid ino
    pub room : mid.overlay.room + i ≡ old.overlay.room + first

  -- nothing is put where the number is only reshaped
  pub put_first : (old mid : StoreValue M) (ino : ℕ) (shape : Shape) (now first : ℕ) (new : ℕ → List ℕ) → Reshapes old mid ino now (Some shape) → mid.uses ≡ slice_set old.uses ino now → slice_index mid.uses ino ≡ now
      → PutSoFar old mid ino shape now first first new
  put_first old mid ino shape now first new r uses used = record {
    made = made_first old mid ino shape now first new r;
    uses = uses;
    used = used;
    drafted = r.own;
    others = r.others;
    room = ap (λ n. n + first) r.room;
  }

  -- the next block is put
  pub put_more : (old mid next : StoreValue M) (ino : ℕ) (shape : Shape) (now first i : ℕ) (new : ℕ → List ℕ) → IsNumber old ino → PutSoFar old mid ino shape now first i new
      → PutsInto mid next ino i Always (Here (new i)) → next.overlay.room + 1 ≡ mid.overlay.room → first ≤ i → i < blocks_of shape.size → PutSoFar old next ino shape now first (i + 1) new
  put_more old mid next ino shape now first i new number a p took low within = record {
    made = made_more old mid next ino shape now first i new a.made a.used p low within;
    uses = p.uses ∙ a.uses;
    used = ap (λ us. slice_index us ino) p.uses ∙ a.used;
    drafted = p.shapes ino (there ino number.high) ∙ a.drafted;
    others = λ q lt ne. p.shapes q (there q lt) ∙ a.others q lt ne;
    room = room_more next.overlay.room mid.overlay.room old.overlay.room first i took a.room;
  }
    where
      there : (q : ℕ) → q < (layout old).inodes → q < (layout mid).inodes
      there q lt = subst (λ (v : StoreValue M). q < (layout v).inodes) (sym a.made.beside) lt

      room_more : (x y z m n : ℕ) → x + 1 ≡ y → y + n ≡ z + m → x + (n + 1) ≡ z + m
      room_more x y z m n one all = omega arith

  -- A FILE IS CHANGED behind reads
  pub made_file : (history : M → Option History) (old mid new : StoreValue M) (ino : ℕ) (f : Option FlatNode → Option FlatNode) (change : Shelf → PlacedFile → PlacedFile)
      → ReadsNodes history old mid → Runs (history old.log.machine) (history mid.log.machine) IsUnchanged → ChangesNode mid new ino Always f
      → OfFile history old ino (λ c shelf file. f (Some (file_node file)) ≡ Some (file_node (change shelf file))) → ChangesFile history old new ino change
  made_file history old mid new ino f change reads run made same h told c lies shelf file shows has = (
    (λ k k_told.
        let mid_told : history mid.log.machine ≡ Some k = ap history (sym (machine_stays mid new made.beside)) ∙ k_told in
        subst (λ s. LiesOver new c s) (sym (ends_of_run (history old.log.machine) (history mid.log.machine) IsUnchanged run h told k mid_told)) (made.over c (state_now h) (reads.keeps h told c lies).over tt)),
    made.nodes c (state_now h) (reads.keeps h told c lies).over
        ∙ ap (λ ns. with_node ns ino (f (get ns ino))) (reads.keeps h told c lies).nodes
        ∙ ap (λ x. with_node (nodes_of old c) ino (f x)) has.has
        ∙ ap (with_node (nodes_of old c) ino) (same h told c lies shelf file shows has),
  )
