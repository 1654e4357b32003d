-- A draft that follows another is of what the contents have, as that was; and numbers whose drafts say the same have the
-- same nodes.
use Rattle.std.proofs.Common.{◌≡◌, ◌≢◌, inl, inr, ℕ, ◌<◌, ◌≤◌, ◌-◌, Bool, true, false, List, length, Option, Some, None, refl, sym, ◌∙◌, ap, subst}
use Rattle.std.specs.Prelude.{if◌then◌else◌, slice_index, option_map}
use Rattle.std.specs.FinMap.{get}
use Rattle.std.proofs.lemmas.Bool.Decides.{eqb_tells}
use Rattle.hl_media.specs.History.{Image}
use Rattle.hl_addr.specs.Layout.{Layout}
use Rattle.hl_bytes.specs.declared.block.Block as bytes
use Rattle.hl_bytes.specs.declared.records.BlockRecord.{BlockRecord}
use Rattle.hl_placed.specs.Blocks.{Block, blocks_of, listed}
use Rattle.hl_paths.specs.Nodes.{FlatNode, Nodes}
use Rattle.hl_overlay.specs.declared.pointers.Pointer.{Pointer}
use Rattle.hl_overlay.specs.declared.pointers.Pointer.TheVariants.{Hole, Kept, Moved, New}
use Rattle.hl_overlay.specs.declared.draft.NodeDraft.{NodeDraft}
use Rattle.hl_overlay.specs.declared.draft.Shape.{Shape}
use Rattle.hl_overlay.specs.Pointing.{pointer_to, where_is}
use Rattle.hl_overlay.specs.DraftTables.{IsDraftTable, draft_of}
use Rattle.hl_overlay.specs.Overlays.{Holding, holding_of}
use Rattle.hl_overlay.specs.Overlays.Holding.{GoesAway, Remains, Zeros}
use Rattle.hl_overlay.specs.Making.{used_of}
use Rattle.hl_nodes.specs.Pointers.{pointer_in}
use Rattle.hl_nodes.specs.Live.{HasAddress, IsNodeBlock}
use Rattle.hl_nodes.specs.Live.NodeBlock.{Content, Pointers}
use Rattle.hl_nodes.specs.Contents.{Contents}
use Rattle.hl_overlaid.specs.NodesNow.{Overlaid, block_now, draft_node, drafted_now, nodes_now}
use Rattle.hl_overlaid.specs.Over.{IsAsRead, IsDraftOf, IsOfKind}
use Rattle.hl_overlaid.proofs.NowLemmas.{now_drafted, now_past}

-- what is held tells the pointer, unless it is to a new block
pub held_hole : (bs : List (BlockRecord × bytes.Block)) (q : Pointer) → holding_of bs q ≡ Zeros → q ≡ Hole
held_hole bs Hole e = refl
held_hole bs (Kept a) e = absurd (no e)
  where
    no : {a : ℕ} → Remains a ≡ Zeros → ⊥
    no e = cc
held_hole bs (Moved a s p) e = absurd (no e)
  where
    no : {a s p : ℕ} → GoesAway a s p ≡ Zeros → ⊥
    no e = cc
held_hole bs (New n) e = absurd (no e)
  where
    no : {b : List ℕ} → Holding.Fresh b ≡ Zeros → ⊥
    no e = cc

pub held_kept : (bs : List (BlockRecord × bytes.Block)) (q : Pointer) (addr : ℕ) → holding_of bs q ≡ Remains addr → q ≡ Kept addr
held_kept bs Hole addr e = absurd (no e)
  where
    no : {a : ℕ} → Zeros ≡ Remains a → ⊥
    no e = cc
held_kept bs (Kept a) addr e = same e
  where
    same : {a b : ℕ} → Remains a ≡ Remains b → Kept a ≡ Kept b
    same e = cc
held_kept bs (Moved a s p) addr e = absurd (no e)
  where
    no : {a s p b : ℕ} → GoesAway a s p ≡ Remains b → ⊥
    no e = cc
held_kept bs (New n) addr e = absurd (no e)
  where
    no : {b : List ℕ} {a : ℕ} → Holding.Fresh b ≡ Remains a → ⊥
    no e = cc

pub held_moved : (bs : List (BlockRecord × bytes.Block)) (q : Pointer) (addr serial position : ℕ) → holding_of bs q ≡ GoesAway addr serial position → q ≡ Moved addr serial position
held_moved bs Hole addr serial position e = absurd (no e)
  where
    no : {a s p : ℕ} → Zeros ≡ GoesAway a s p → ⊥
    no e = cc
held_moved bs (Kept a) addr serial position e = absurd (no e)
  where
    no : {b a s p : ℕ} → Remains b ≡ GoesAway a s p → ⊥
    no e = cc
held_moved bs (Moved a s p) addr serial position e = same e
  where
    same : {a s p b t q : ℕ} → GoesAway a s p ≡ GoesAway b t q → Moved a s p ≡ Moved b t q
    same e = cc
held_moved bs (New n) addr serial position e = absurd (no e)
  where
    no : {b : List ℕ} {a s p : ℕ} → Holding.Fresh b ≡ GoesAway a s p → ⊥
    no e = cc

pub held_to : (old new : List (BlockRecord × bytes.Block)) (q : Pointer) (x : ℕ) → holding_of new q ≡ holding_of old (pointer_to x) → q ≡ pointer_to x
held_to old new q x e = elim (eqb_tells x 4294967295) [
  | inl t ↦ (let to : pointer_to x ≡ Hole = ap (λ (b : Bool). if b then Hole else Kept x) t.0 in held_hole new q (e ∙ ap (holding_of old) to) ∙ sym to)
  | inr t ↦ (let to : pointer_to x ≡ Kept x = ap (λ (b : Bool). if b then Hole else Kept x) t.0 in held_kept new q x (e ∙ ap (holding_of old) to) ∙ sym to)
]

-- What a draft keeps of another of its number: each block that is kept, while the kind stays; a pointer block with all
-- pointers that it names; and where it isn't changed, that it is as it was read.
pub record Follows (d e : NodeDraft) : Type 0 where
  pub ino : e.ino ≡ d.ino
  pub own : e.own ≡ d.own
  pub kept : (j addr : ℕ) → where_is e.pointers j ≡ Kept addr → where_is d.pointers j ≡ Kept addr
  pub kind : (j addr : ℕ) → j < 1036 → where_is e.pointers j ≡ Kept addr → (s : Shape) → e.shape ≡ Some s → (t : Shape) × (d.shape ≡ Some t) × (t.kind ≡ s.kind)
  pub single : e.single ≢ 4294967295 → e.single ≡ d.single
  pub names : e.single ≢ 4294967295 → (j : ℕ) → 12 ≤ j → j < 1036 → (x : ℕ) → where_is d.pointers j ≡ pointer_to x → where_is e.pointers j ≡ pointer_to x
  pub unchanged : e.changed ≡ false → d.changed ≡ false
  pub shape : e.changed ≡ false → e.shape ≡ d.shape
  pub pointers : e.changed ≡ false → e.single ≡ d.single
  pub holes : e.changed ≡ false → (j : ℕ) → where_is e.pointers j ≡ Hole → where_is d.pointers j ≡ Hole

pub of_following : (g : Layout) (image : Image) (c : Contents) (d e : NodeDraft) → Follows d e → IsDraftOf g image c d → IsDraftOf g image c e
of_following g image c d e follows of = record {
  own = follows.own ∙ of.own ∙ ap (slice_index c.tables.inodes) (sym follows.ino);
  kept = λ i addr small here. subst (λ n. HasAddress g image c.tables n (Content i) addr) (sym follows.ino) (of.kept i addr small (follows.kept i addr here));
  kind = λ i addr small here shape is. (
      let was = follows.kind i addr small here shape is in
      subst (λ n. IsOfKind (get c.nodes n) shape.kind) (sym follows.ino) (λ node at. of.kind i addr small (follows.kept i addr here) was.0 was.1 node at ∙ was.2));
  single = λ some. (
      let same = follows.single some in
      let was : d.single ≢ 4294967295 = (λ none. some (same ∙ none)) in
      subst (λ n. IsNodeBlock g image c.tables n Pointers e.single) (sym follows.ino) (subst (IsNodeBlock g image c.tables d.ino Pointers) (sym same) (of.single was)));
  names = λ some i low high. (
      let same = follows.single some in
      let was : d.single ≢ 4294967295 = (λ none. some (same ∙ none)) in
      follows.names some i low high (pointer_in image d.single (i - 12)) (of.names was i low high) ∙ ap (λ a. pointer_to (pointer_in image a (i - 12))) (sym same));
  as_read = λ unchanged. subst (λ n. IsAsRead (get c.nodes n) e) (sym follows.ino) (read unchanged (get c.nodes d.ino) (of.as_read (follows.unchanged unchanged)));
  pointers_read = λ unchanged address lies. follows.pointers unchanged ∙ of.pointers_read (follows.unchanged unchanged) address (subst (λ n. IsNodeBlock g image c.tables n Pointers address) follows.ino lies);
}
  where
    read : e.changed ≡ false → (x : Option FlatNode) → IsAsRead x d → IsAsRead x e
    read unchanged None is = follows.shape unchanged ∙ is
    read unchanged (Some node) is = (follows.shape unchanged ∙ is.0, λ i lt here. is.1 i lt (follows.holes unchanged i here))

-- a node by its shape, its last use and its blocks
abbrev node_by : ℕ → (ℕ → Block) → Shape → FlatNode
node_by used f shape = record {
  kind = shape.kind;
  content = record { size = shape.size; used = used_of shape.kind used; blocks = listed (blocks_of shape.size) f };
}

-- drafts of one shape whose pointers stand for the same blocks are one node
pub same_node : (old new : Overlaid) (last : Nodes) (d e : NodeDraft) → e.ino ≡ d.ino → e.shape ≡ d.shape → slice_index new.uses d.ino ≡ slice_index old.uses d.ino
    → ((j : ℕ) → block_now (get last d.ino) new.overlay.blocks j (where_is e.pointers j) ≡ block_now (get last d.ino) old.overlay.blocks j (where_is d.pointers j)) → draft_node new last e ≡ draft_node old last d
same_node old new last d e ino shape uses same =
    ap (λ n. option_map (node_by (slice_index new.uses n) (λ j. block_now (get last n) new.overlay.blocks j (where_is e.pointers j))) e.shape) ino
    ∙ ap (λ w. option_map (node_by w (λ j. block_now (get last d.ino) new.overlay.blocks j (where_is e.pointers j))) e.shape) uses
    ∙ ap (λ (f : ℕ → Block). option_map (node_by (slice_index old.uses d.ino) f) e.shape) all
    ∙ ap (option_map (node_by (slice_index old.uses d.ino) (λ j. block_now (get last d.ino) old.overlay.blocks j (where_is d.pointers j)))) shape
  where
    all : ◌≡◌ {A = ℕ → Block} (λ j. block_now (get last d.ino) new.overlay.blocks j (where_is e.pointers j)) (λ j. block_now (get last d.ino) old.overlay.blocks j (where_is d.pointers j))
    all = λ t j. same j t

-- what two overlays say of a number is the same
pub record SaysSame (old new : Overlaid) (last : Nodes) (q : ℕ) (d e : NodeDraft) : Type 0 where
  pub changed : e.changed ≡ d.changed
  pub node : d.changed ≡ true → draft_node new last e ≡ draft_node old last d

pub same_now : (old new : Overlaid) → IsDraftTable old.overlay.drafts → IsDraftTable new.overlay.drafts → (last : Nodes) (q : ℕ) (d e : NodeDraft) → q < length old.overlay.drafts.places → length new.overlay.drafts.places ≡ length old.overlay.drafts.places
    → draft_of old.overlay.drafts q ≡ Some d → draft_of new.overlay.drafts q ≡ Some e → SaysSame old new last q d e → get (nodes_now new last) q ≡ get (nodes_now old last) q
same_now old new table table' last q d e lt numbers at at' same =
    now_drafted new table' last q (Some e) (subst (λ n. q < n) (sym numbers) lt) at' ∙ by d.changed refl ∙ sym (now_drafted old table last q (Some d) lt at)
  where
    by : (b : Bool) → d.changed ≡ b → drafted_now new last q (Some e) ≡ drafted_now old last q (Some d)
    by true is = ap (λ (b : Bool). if b then draft_node new last e else get last q) (same.changed ∙ is) ∙ same.node is ∙ sym (ap (λ (b : Bool). if b then draft_node old last d else get last q) is)
    by false is = ap (λ (b : Bool). if b then draft_node new last e else get last q) (same.changed ∙ is) ∙ sym (ap (λ (b : Bool). if b then draft_node old last d else get last q) is)

pub same_undrafted : (old new : Overlaid) → IsDraftTable old.overlay.drafts → IsDraftTable new.overlay.drafts → (last : Nodes) (q : ℕ) → q < length old.overlay.drafts.places → length new.overlay.drafts.places ≡ length old.overlay.drafts.places
    → draft_of old.overlay.drafts q ≡ None → draft_of new.overlay.drafts q ≡ None → get (nodes_now new last) q ≡ get (nodes_now old last) q
same_undrafted old new table table' last q lt numbers at at' = now_drafted new table' last q None (subst (λ n. q < n) (sym numbers) lt) at' ∙ sym (now_drafted old table last q None lt at)

pub same_past : (old new : Overlaid) → IsDraftTable old.overlay.drafts → IsDraftTable new.overlay.drafts → (last : Nodes) (q : ℕ) → length old.overlay.drafts.places ≤ q → length new.overlay.drafts.places ≡ length old.overlay.drafts.places
    → get (nodes_now new last) q ≡ get (nodes_now old last) q
same_past old new table table' last q ge numbers = now_past new table' last q (subst (λ n. n ≤ q) (sym numbers) ge) ∙ sym (now_past old table last q ge)
