-- Calls that change the node of one number, one behind the other.
use Rattle.std.proofs.Common.{◌≡◌, ◌≢◌, inl, inr, ℕ, ◌<◌, ◌≤◌, Bool, true, false, true≢false, List, Option, Some, None, IsSome, refl, sym, ◌∙◌, ap, subst, arith}
use Rattle.std.specs.Prelude.{option_map}
use Rattle.std.specs.Option.{ForSome}
use Rattle.std.specs.FinMap.{get}
use Rattle.std.proofs.lemmas.Bool.{cases_eq}
use Rattle.std.proofs.lemmas.List.FromFn.{get_or-map-range_with_len, length-map-range_with_len}
use Rattle.std.proofs.lemmas.List.{ext_get_or}
use Rattle.hl_media.specs.History.{MachineState}
use Rattle.hl_inode.specs.declared.inode.Kind.{Kind}
use Rattle.hl_placed.specs.Blocks.{Block, blocks_of, listed}
use Rattle.hl_placed.specs.Blocks as blocks
use Rattle.hl_paths.specs.Nodes.{FlatNode, Nodes}
use Rattle.hl_nodes.specs.Contents.{Contents}
use Rattle.hl_overlay.specs.declared.draft.NodeDraft.{NodeDraft}
use Rattle.hl_overlay.specs.declared.draft.Shape.{Shape}
use Rattle.hl_overlay.specs.Making.{used_of}
use Rattle.hl_overlay.specs.Pointing.{where_is}
use Rattle.hl_overlay.specs.Drafting.{blocks_of_shape}
use Rattle.hl_overlay.specs.DraftTables.{CanShape, draft_of}
use Rattle.hl_overlay.specs.Overlays.{holding_of}
use Rattle.hl_overlay.specs.Overlays.Holding.{Zeros}
use Rattle.hl_overlaid.specs.NodesNow.{old_block, with_node}
use Rattle.hl_overlaid.specs.Changes.{KeepsKind, node_used, reshaped}
use Rattle.hl_overlaid.proofs.Following.{held_hole}
use Rattle.hl_overlaid.proofs.NowLemmas.{none_some, one, same_nodes, with_node-other, with_node-same}
use Rattle.hl_overlaid.proofs.PutLemmas.{mapped}
use Rattle.hl_store.specs.Values.{StoreValue, layout, nodes_of}
use Rattle.hl_store.specs.Lying.{LiesOver, block_of_number}
use Rattle.hl_store.specs.Changes.{DropsBetween, IsOfKind, KeepsBeside, KeepsShapes, Reshapes, Touches, drafted_shape}
use Rattle.hl_store.proofs.DropSteps.{beside_both, drafted_there}

-- what is some has a value
pub some_there : {A : Type 0} (o : Option A) → IsSome o → (x : A) × (o ≡ Some x)
some_there None is = absurd (true≢false (sym is))
some_there (Some x) is = (x, refl)

-- lists of blocks that are the same below their length
listed_same : (f h : ℕ → Block) (n : ℕ) → ((j : ℕ) → j < n → f j ≡ h j) → listed n f ≡ listed n h
listed_same f h n same =
    let a = length-map-range_with_len f 0 n in
    let b = length-map-range_with_len h 0 n in
    ext_get_or blocks.Hole (listed n f) (listed n h) (a ∙ sym b) (λ k lt. (
    let low : k < n = subst (λ m. k < m) a lt in
    get_or-map-range_with_len f 0 n k k blocks.Hole low (omega arith) ∙ same k low ∙ sym (get_or-map-range_with_len h 0 n k k blocks.Hole low (omega arith))))

-- so a node of a shape is of the blocks below its size alone
reshaped_same : (a b : Option FlatNode) (used : ℕ) (shape : Option Shape) → ((j : ℕ) → j < blocks_of_shape shape → old_block a j ≡ old_block b j) → option_map (reshaped a used) shape ≡ option_map (reshaped b used) shape
reshaped_same a b used None same = refl
reshaped_same a b used (Some s) same = ap (λ (l : List Block). Some (record { kind = s.kind; content = record { size = s.size; used = used_of s.kind used; blocks = l } })) (listed_same (old_block a) (old_block b) (blocks_of s.size) same)

-- another last use moves no block
used_block : (used j : ℕ) (n : Option FlatNode) → old_block (option_map (node_used used) n) j ≡ old_block n j
used_block used j None = refl
used_block used j (Some n) = refl

-- Other nodes, and the blocks of a number's node below one, are as they were. No draft changes its shape.
pub record KeepsBelow {M : Type 0} (old new : StoreValue M) (ino from : ℕ) : Type 0 where
  pub beside : KeepsBeside old new
  pub over : (c : Contents) (s : MachineState) → LiesOver old c s → LiesOver new c s
  pub others : (c : Contents) (s : MachineState) → LiesOver old c s → (q : ℕ) → q ≢ ino → get (nodes_of new c) q ≡ get (nodes_of old c) q
  pub blocks : (c : Contents) (s : MachineState) → LiesOver old c s → (j : ℕ) → j < from → block_of_number new c ino j ≡ block_of_number old c ino j
  pub shapes : KeepsShapes old new
  pub room : new.overlay.room ≡ old.overlay.room

module _ {M : Type 0} where
  -- to drop the blocks from there on keeps those
  pub dropped_below : (old new : StoreValue M) (ino from end : ℕ) → DropsBetween old new ino from end → KeepsBelow old new ino from
  dropped_below old new ino from end d = record { beside = d.beside; over = d.over; others = d.others; blocks = d.blocks; shapes = d.shapes; room = d.room }

  -- to touch keeps all
  pub touched_below : (old new : StoreValue M) (ino used from : ℕ) → Touches old new ino used → KeepsBelow old new ino from
  touched_below old new ino used from t = record {
    beside = t.same ∙ ap (λ (x : StoreValue M). record x { uses = new.uses }) (sym (ap (λ (x : StoreValue M). record old { overlay = x.overlay; tally = x.tally }) t.same));
    over = t.over;
    others = λ c s l q ne. (kept c s l (draft_of old.overlay.drafts ino) refl).0 q ne;
    blocks = λ c s l j lt. (kept c s l (draft_of old.overlay.drafts ino) refl).1 j;
    shapes = λ q lt. ap (λ (x : StoreValue M). drafted_shape x q) t.same;
    room = ap (λ (x : StoreValue M). x.overlay.room) t.same;
  }
    where
      kept : (c : Contents) (s : MachineState) → LiesOver old c s → (x : Option NodeDraft) → draft_of old.overlay.drafts ino ≡ x
          → ((q : ℕ) → q ≢ ino → get (nodes_of new c) q ≡ get (nodes_of old c) q) × ((j : ℕ) → block_of_number new c ino j ≡ block_of_number old c ino j)
      kept c s l None at = (
          let same = t.waits c s l (λ d is. absurd (none_some (sym at ∙ is))) in
          (λ q ne. ap (λ (m : Nodes). get m q) same, λ j. ap (λ (m : Nodes). old_block (get m ino) j) same))
      kept c s l (Some d) at = by d.changed refl
        where
          by : (b : Bool) → d.changed ≡ b → ((q : ℕ) → q ≢ ino → get (nodes_of new c) q ≡ get (nodes_of old c) q) × ((j : ℕ) → block_of_number new c ino j ≡ block_of_number old c ino j)
          by false e = (
              let same = t.waits c s l (λ x is. subst (λ (y : NodeDraft). y.changed ≡ false) (one at is) e) in
              (λ q ne. ap (λ (m : Nodes). get m q) same, λ j. ap (λ (m : Nodes). old_block (get m ino) j) same))
          by true e = (
              let shows = t.shows c s l (d, at, e) in
              let node = option_map (node_used used) (get (nodes_of old c) ino) in (
                λ q ne. ap (λ (m : Nodes). get m q) shows ∙ with_node-other (nodes_of old c) ino node q ne,
                λ j. ap (λ (m : Nodes). old_block (get m ino) j) shows ∙ ap (λ n. old_block n j) (with_node-same (nodes_of old c) ino node) ∙ used_block used j (get (nodes_of old c) ino),
              ))

  -- one behind the other
  pub both_below : (old mid new : StoreValue M) (ino from : ℕ) → KeepsBelow old mid ino from → KeepsBelow mid new ino from → KeepsBelow old new ino from
  both_below old mid new ino from a b = record {
    beside = beside_both old mid new a.beside b.beside;
    over = λ c s l. b.over c s (a.over c s l);
    others = λ c s l q ne. b.others c s (a.over c s l) q ne ∙ a.others c s l q ne;
    blocks = λ c s l j lt. b.blocks c s (a.over c s l) j lt ∙ a.blocks c s l j lt;
    shapes = λ q lt. b.shapes q (subst (λ (x : StoreValue M). q < (layout x).inodes) (sym a.beside) lt) ∙ a.shapes q lt;
    room = b.room ∙ a.room;
  }

  -- RESHAPED behind what keeps its blocks below the new size, a number is reshaped
  pub reshaped_behind : (old mid new : StoreValue M) (ino used : ℕ) (shape : Option Shape) → KeepsBelow old mid ino (blocks_of_shape shape) → Reshapes mid new ino used shape → Reshapes old new ino used shape
  reshaped_behind old mid new ino used shape k r = record {
    changes = record {
      beside = beside_both old mid new k.beside r.changes.beside;
      over = λ c s l always. r.changes.over c s (k.over c s l) tt;
      nodes = λ c s l. r.changes.nodes c s (k.over c s l) ∙ same c s l;
    };
    own = r.own;
    others = λ q lt ne. r.others q (subst (λ (x : StoreValue M). q < (layout x).inodes) (sym k.beside) lt) ne ∙ k.shapes q lt;
    room = r.room ∙ k.room;
  }
    where
      same : (c : Contents) (s : MachineState) → LiesOver old c s
          → with_node (nodes_of mid c) ino (option_map (reshaped (get (nodes_of mid c) ino) used) shape) ≡ with_node (nodes_of old c) ino (option_map (reshaped (get (nodes_of old c) ino) used) shape)
      same c s l =
          let a = option_map (reshaped (get (nodes_of mid c) ino) used) shape in
          let b = option_map (reshaped (get (nodes_of old c) ino) used) shape in
          let own : a ≡ b = reshaped_same (get (nodes_of mid c) ino) (get (nodes_of old c) ino) used shape (λ j lt. k.blocks c s l j lt) in
          same_nodes (with_node (nodes_of mid c) ino a) (with_node (nodes_of old c) ino b) (λ q. elim (cases_eq q ino) [
            | inl at ↦ ap (get (with_node (nodes_of mid c) ino a)) at ∙ with_node-same (nodes_of mid c) ino a ∙ own ∙ sym (ap (get (with_node (nodes_of old c) ino b)) at ∙ with_node-same (nodes_of old c) ino b)
            | inr ne ↦ with_node-other (nodes_of mid c) ino a q ne ∙ k.others c s l q ne ∙ sym (with_node-other (nodes_of old c) ino b q ne)
          ])

  -- a number whose blocks past a size were dropped may get the shape
  pub can_shape : (old new : StoreValue M) (ino : ℕ) (shape : Option Shape) → ino < (layout old).inodes → IsSome (draft_of old.overlay.drafts ino) → ForSome shape (λ s. s.size ≤ 4243456) → DropsBetween old new ino (blocks_of_shape shape) 1036
      → CanShape new.overlay.drafts ino shape
  can_shape old new ino shape high some size drops =
      let d = some_there (draft_of old.overlay.drafts ino) some in
      let e = drafted_there old new ino high drops.shapes d.0 d.1 in
      record { draft = e.0; is = e.1; size = size; ends = λ j low few. held_hole new.overlay.blocks (where_is e.0.pointers j) (held e.0 e.1 j low few) }
    where
      held : (e : NodeDraft) → draft_of new.overlay.drafts ino ≡ Some e → (j : ℕ) → blocks_of_shape shape ≤ j → j < 1036 → holding_of new.overlay.blocks (where_is e.pointers j) ≡ Zeros
      held e at j low few = one (ap (λ (x : Option NodeDraft). option_map (holding_of new.overlay.blocks) (option_map (λ (y : NodeDraft). where_is y.pointers j) x)) at) (drops.holes j low few)

  -- a number that is of the kind of a shape, or of none, keeps it
  pub keeps_kind : (old new : StoreValue M) (ino size : ℕ) (kind : Kind) → ino < (layout old).inodes → KeepsShapes old new → IsOfKind old ino kind → (e : NodeDraft) → draft_of new.overlay.drafts ino ≡ Some e → KeepsKind e (Some (record { kind = kind; size = size }))
  keeps_kind old new ino size kind high keeps of e at =
      let was = mapped (λ (x : NodeDraft). x.shape) (draft_of old.overlay.drafts ino) e.shape (sym (keeps ino high) ∙ ap (option_map (λ (x : NodeDraft). x.shape)) at) in
      inr (λ t t_is s s_is. ap (λ (x : Shape). x.kind) (sym (one refl s_is)) ∙ sym (of was.0 was.1 t (was.2 ∙ t_is)))
