-- A block of a drafted node is put, cleared or sent away.
use Rattle.std.proofs.Common.{◌≡◌, ◌≢◌, ◌⊎◌, inl, inr, ℕ, ◌<◌, ◌≤◌, Bool, false, true≢false, List, length, slice_get, Option, Some, None, refl, sym, ◌∙◌, ap, subst, arith}
use Rattle.std.specs.Prelude.{if◌then◌else◌, slice_index, slice_set, option_map}
use Rattle.std.specs.FinMap.{get}
use Rattle.std.proofs.lemmas.Bool.{cases_eq, cases_lt}
use Rattle.std.proofs.lemmas.Bool.Decides.{leb_tells}
use Rattle.std.proofs.lemmas.List.{ext_get_or, get_or-set_same, get_or-set_other, length-set}
use Rattle.std.proofs.lemmas.List.FromFn.{length-map-range_with_len, get_or-map-range_with_len}
use Rattle.hl_media.specs.History.{Image}
use Rattle.hl_addr.specs.Layout.{Layout}
use Rattle.hl_tseg.specs.SlotTable.{SlotTable, slot_at}
use Rattle.hl_tseg.specs.Slots.{HoldsSerial}
use Rattle.hl_placed.specs.Blocks.{Away, Block, Here, blocks_of, file_block}
use Rattle.hl_placed.specs.Blocks as blocks
use Rattle.hl_paths.specs.Nodes.{FlatNode}
use Rattle.hl_overlay.specs.declared.pointers.Pointer.TheVariants.{Hole, Kept, Moved}
use Rattle.hl_overlay.specs.declared.draft.NodeDraft.{NodeDraft}
use Rattle.hl_overlay.specs.declared.draft.Shape.{Shape}
use Rattle.hl_overlay.specs.Pointing.{where_is}
use Rattle.hl_overlay.specs.Drafting.{blocks_of_shape, with_pointer}
use Rattle.hl_overlay.specs.DraftTables.{draft_of}
use Rattle.hl_overlay.specs.Overlays.{Holding, holding_of, without_pointers}
use Rattle.hl_overlay.specs.Overlays.Holding.{Fresh, GoesAway, Remains, Zeros}
use Rattle.hl_overlay.specs.Making.{used_of}
use Rattle.hl_overlay.proofs.TableLemmas.{blocks_most}
use Rattle.hl_nodes.specs.Contents.{Contents}
use Rattle.hl_nodes.specs.Fates.{KeepsSlots}
use Rattle.hl_overlaid.specs.NodesNow.{Overlaid, block_now, nodes_now, old_block, shaped_node, with_node}
use Rattle.hl_overlaid.specs.Over.{GoesInto, IsOver}
use Rattle.hl_overlaid.specs.Changes.{CanPut, PutsNow, block_held, node_shape, with_block}
use Rattle.hl_overlaid.proofs.NowLemmas.{none_some, now_changed, one, same_nodes, with_node-other, with_node-same}
use Rattle.hl_overlaid.proofs.DraftBlocks.{block_now-held, now_block, now_count, now_shape}
use Rattle.hl_overlaid.proofs.Following.{Follows, held_hole, held_kept, held_moved, held_to, of_following, same_node, same_now, same_past, same_undrafted}

-- what a mapped value comes from
pub mapped : {A B : Type 0} (f : A → B) (o : Option A) (y : B) → option_map f o ≡ Some y → (x : A) × (o ≡ Some x) × (f x ≡ y)
mapped f None y e = absurd (none_some e)
mapped f (Some x) y e = (x, refl, one refl e)

pub mapped_none : {A B : Type 0} (f : A → B) (o : Option A) → option_map f o ≡ None → o ≡ None
mapped_none f None e = refl
mapped_none f (Some x) e = absurd (none_some (sym e))

-- one number has another node
pub with_one : (old new : Overlaid) (c : Contents) (ino : ℕ) (node : Option FlatNode) → get (nodes_now new c.nodes) ino ≡ node → ((q : ℕ) → q ≢ ino → get (nodes_now new c.nodes) q ≡ get (nodes_now old c.nodes) q) → nodes_now new c.nodes ≡ with_node (nodes_now old c.nodes) ino node
with_one old new c ino node own others = same_nodes (nodes_now new c.nodes) (with_node (nodes_now old c.nodes) ino node) (λ q. elim (cases_eq q ino) [
  | inl same ↦ ap (get (nodes_now new c.nodes)) same ∙ own ∙ sym (ap (get (with_node (nodes_now old c.nodes) ino node)) same ∙ with_node-same (nodes_now old c.nodes) ino node)
  | inr ne ↦ others q ne ∙ sym (with_node-other (nodes_now old c.nodes) ino node q ne)
])

module _ (g : Layout) (image : Image) (c : Contents) (old new : Overlaid) (ino i : ℕ) (h : Holding) (is : PutsNow g image c old new ino i h) where
  numbers : length new.overlay.drafts.places ≡ length old.overlay.drafts.places
  numbers = is.puts.numbers

  places : ino < length old.overlay.drafts.places
  places = subst (λ n. ino < n) (sym is.change.before.numbers) is.number

  small : i < 1036
  small = (let most = blocks_most is.block.draft (is.change.before.table.drafts (slice_index old.overlay.drafts.places ino) is.block.draft is.block.is) in let lt = is.block.within in omega arith)

  -- the draft behind the change
  pub drafted : (e : NodeDraft) × (draft_of new.overlay.drafts ino ≡ Some e) × (without_pointers e ≡ without_pointers (with_pointer is.block.draft i Hole))
  drafted = mapped without_pointers (draft_of new.overlay.drafts ino) (without_pointers (with_pointer is.block.draft i Hole)) (is.keeps.own ∙ ap (option_map (λ (x : NodeDraft). without_pointers (with_pointer x i Hole))) is.block.is)

  -- what is held by drafts of a number, before and behind
  pub held_same : (q j : ℕ) (a b : NodeDraft) → q < length old.overlay.drafts.places → (q ≢ ino) ⊎ (j ≢ i) → draft_of old.overlay.drafts q ≡ Some a → draft_of new.overlay.drafts q ≡ Some b
      → holding_of new.overlay.blocks (where_is b.pointers j) ≡ holding_of old.overlay.blocks (where_is a.pointers j)
  held_same q j a b lt apart at_a at_b = one
      (sym (is.puts.others q j lt apart) ∙ ap (λ (x : Option NodeDraft). option_map (holding_of new.overlay.blocks) (option_map (λ (y : NodeDraft). where_is y.pointers j) x)) at_b)
      (ap (λ (x : Option NodeDraft). option_map (holding_of old.overlay.blocks) (option_map (λ (y : NodeDraft). where_is y.pointers j) x)) at_a)

  pub held_here : (e : NodeDraft) → draft_of new.overlay.drafts ino ≡ Some e → holding_of new.overlay.blocks (where_is e.pointers i) ≡ h
  held_here e at_e = one (ap (λ (x : Option NodeDraft). option_map (holding_of new.overlay.blocks) (option_map (λ (y : NodeDraft). where_is y.pointers i) x)) at_e) is.puts.here

  -- the draft of another number
  pub other : (q : ℕ) (e : NodeDraft) → q < length old.overlay.drafts.places → q ≢ ino → draft_of new.overlay.drafts q ≡ Some e → (a : NodeDraft) × (draft_of old.overlay.drafts q ≡ Some a) × (without_pointers a ≡ without_pointers e)
  other q e lt ne at_e = mapped without_pointers (draft_of old.overlay.drafts q) (without_pointers e) (sym (is.keeps.others q lt ne) ∙ ap (option_map without_pointers) at_e)

  -- its node stays
  node_stays : (q : ℕ) → q ≢ ino → get (nodes_now new c.nodes) q ≡ get (nodes_now old c.nodes) q
  node_stays q ne = elim (cases_lt q (length old.overlay.drafts.places)) [
    | inl lt ↦ by lt (draft_of new.overlay.drafts q) refl
    | inr ge ↦ same_past old new is.change.before.table is.change.after.table c.nodes q ge numbers
  ]
    where
      by : q < length old.overlay.drafts.places → (x : Option NodeDraft) → draft_of new.overlay.drafts q ≡ x → get (nodes_now new c.nodes) q ≡ get (nodes_now old c.nodes) q
      by lt None none = same_undrafted old new is.change.before.table is.change.after.table c.nodes q lt numbers (mapped_none without_pointers (draft_of old.overlay.drafts q) (sym (is.keeps.others q lt ne) ∙ ap (option_map without_pointers) none)) none
      by lt (Some e) at_e =
          let a = other q e lt ne at_e in
          let head : without_pointers e ≡ without_pointers a.0 = sym a.2 in
          let own : a.0.ino ≡ q = is.change.before.table.own q a.0 lt a.1 in
          same_now old new is.change.before.table is.change.after.table c.nodes q a.0 e lt numbers a.1 at_e (record {
            changed = ap (λ (x : NodeDraft). x.changed) head;
            node = λ changed. same_node old new c.nodes a.0 e (ap (λ (x : NodeDraft). x.ino) head) (ap (λ (x : NodeDraft). x.shape) head) (is.uses a.0.ino (λ same. ne (sym own ∙ same)))
                (λ j. block_now-held (get c.nodes a.0.ino) new.overlay.blocks j (where_is e.pointers j) ∙ ap (block_held (old_block (get c.nodes a.0.ino) j)) (held_same q j a.0 e lt (inl ne) a.1 at_e) ∙ sym (block_now-held (get c.nodes a.0.ino) old.overlay.blocks j (where_is a.0.pointers j)));
          })

  -- the node of the number was there
  pub put_there : (n : FlatNode) × (get (nodes_now old c.nodes) ino ≡ Some n)
  put_there = (let m = mapped node_shape (get (nodes_now old c.nodes) ino) (shaped is.block.draft.shape refl).0 (sym (now_shape g image c old is.change.has is.change.before is.change.over ino is.number is.block.draft is.block.is) ∙ (shaped is.block.draft.shape refl).1) in (m.0, m.1))
    where
      shaped : (s : Option Shape) → is.block.draft.shape ≡ s → (t : Shape) × (is.block.draft.shape ≡ Some t)
      shaped None e = absurd (let lt : i < blocks_of_shape None = subst (λ x. i < blocks_of_shape x) e is.block.within in omega arith)
      shaped (Some s) e = (s, e)

  module _ (n : FlatNode) (n_is : get (nodes_now old c.nodes) ino ≡ Some n) where
    shape_is : is.block.draft.shape ≡ Some (node_shape n)
    shape_is = now_shape g image c old is.change.has is.change.before is.change.over ino is.number is.block.draft is.block.is ∙ ap (option_map node_shape) n_is

    within : i < length n.content.blocks
    within = subst (λ k. i < k) (sym (now_count g image c old is.change.has is.change.before is.change.over ino is.number is.block.draft is.block.is n n_is)) (subst (λ x. i < blocks_of_shape x) shape_is is.block.within)

    abbrev put : Block
    put = block_held (old_block (get c.nodes ino) i) h

    -- the node of the number has the block
    pub put_own : get (nodes_now new c.nodes) ino ≡ Some (with_block n i (block_held (old_block (get c.nodes ino) i) h) (slice_index new.uses ino))
    put_own =
        let e = drafted in
        let head : without_pointers e.0 ≡ without_pointers (with_pointer is.block.draft i Hole) = e.2 in
        let places' : ino < length new.overlay.drafts.places = subst (λ k. ino < k) (sym numbers) places in
        now_changed new is.change.after.table c.nodes ino e.0 places' e.1 (ap (λ (x : NodeDraft). x.changed) head)
        ∙ ap (λ k. option_map (shaped_node (get c.nodes k) new.overlay.blocks (slice_index new.uses k) e.0.pointers) e.0.shape) (is.change.after.table.own ino e.0 places' e.1)
        ∙ ap (option_map (shaped_node (get c.nodes ino) new.overlay.blocks (slice_index new.uses ino) e.0.pointers)) (ap (λ (x : NodeDraft). x.shape) head ∙ shape_is)
        ∙ ap (λ l. Some (record { kind = n.kind; content = record { size = n.content.size; used = used_of n.kind (slice_index new.uses ino); blocks = l } })) (rows e.0 e.1)
      where
        rows : (e : NodeDraft) → draft_of new.overlay.drafts ino ≡ Some e → blocks.listed (blocks_of n.content.size) (λ j. block_now (get c.nodes ino) new.overlay.blocks j (where_is e.pointers j)) ≡ slice_set n.content.blocks i put
        rows e at_e =
            let count = length-map-range_with_len (λ j. block_now (get c.nodes ino) new.overlay.blocks j (where_is e.pointers j)) 0 (blocks_of n.content.size) in
            let n_count = now_count g image c old is.change.has is.change.before is.change.over ino is.number is.block.draft is.block.is n n_is in
            ext_get_or blocks.Hole (blocks.listed (blocks_of n.content.size) (λ j. block_now (get c.nodes ino) new.overlay.blocks j (where_is e.pointers j))) (slice_set n.content.blocks i put)
            (count ∙ sym n_count ∙ sym (length-set n.content.blocks i put))
            (λ k lt. (
            let low : k < blocks_of n.content.size = subst (λ x. k < x) count lt in
            get_or-map-range_with_len (λ j. block_now (get c.nodes ino) new.overlay.blocks j (where_is e.pointers j)) 0 (blocks_of n.content.size) k k blocks.Hole low (omega arith) ∙ at_row k low))
          where
            few : (k : ℕ) → k < blocks_of n.content.size → k < 1036
            few k low = (let most : blocks_of_shape (Some (node_shape n)) ≤ 1036 = subst (λ x. blocks_of_shape x ≤ 1036) shape_is (blocks_most is.block.draft (is.change.before.table.drafts (slice_index old.overlay.drafts.places ino) is.block.draft is.block.is)) in omega arith)

            at_row : (k : ℕ) → k < blocks_of n.content.size → block_now (get c.nodes ino) new.overlay.blocks k (where_is e.pointers k) ≡ file_block (record { size = 0; used = 0; blocks = slice_set n.content.blocks i put }) k
            at_row k low = elim (cases_eq k i) [
              | inl same ↦ ap (λ j. block_now (get c.nodes ino) new.overlay.blocks j (where_is e.pointers j)) same ∙ block_now-held (get c.nodes ino) new.overlay.blocks i (where_is e.pointers i) ∙ ap (block_held (old_block (get c.nodes ino) i)) (held_here e at_e)
                  ∙ sym (ap (file_block (record { size = 0; used = 0; blocks = slice_set n.content.blocks i put })) same ∙ get_or-set_same n.content.blocks i put blocks.Hole within)
              | inr ne ↦ block_now-held (get c.nodes ino) new.overlay.blocks k (where_is e.pointers k) ∙ ap (block_held (old_block (get c.nodes ino) k)) (held_same ino k is.block.draft e places (inr ne) is.block.is at_e)
                  ∙ sym (block_now-held (get c.nodes ino) old.overlay.blocks k (where_is is.block.draft.pointers k)) ∙ now_block g image c old is.change.has is.change.before is.change.over ino is.number is.block.draft is.block.is k (few k low)
                  ∙ ap (λ x. old_block x k) n_is ∙ sym (get_or-set_other n.content.blocks i k put blocks.Hole ne)
            ]

    -- A BLOCK IS PUT: the nodes now are those before with that block in one of them
    pub put_now : nodes_now new c.nodes ≡ with_node (nodes_now old c.nodes) ino (Some (with_block n i (block_held (old_block (get c.nodes ino) i) h) (slice_index new.uses ino)))
    put_now = with_one old new c ino (Some (with_block n i (block_held (old_block (get c.nodes ino) i) h) (slice_index new.uses ino))) put_own node_stays

  -- and where it may be put, the overlay is over the contents still
  module _ (can : CanPut g c.tables.slots new.slots is.block.draft h) where
    not_kept : (addr : ℕ) → h ≢ Remains addr
    not_kept addr e = subst (CanPut g c.tables.slots new.slots is.block.draft) e can

    not_i : (e : NodeDraft) → draft_of new.overlay.drafts ino ≡ Some e → (j addr : ℕ) → where_is e.pointers j ≡ Kept addr → j ≢ i
    not_i e at_e j addr here same = not_kept addr (sym (held_here e at_e) ∙ ap (holding_of new.overlay.blocks) (ap (where_is e.pointers) (sym same) ∙ here))

    follows_own : (e : NodeDraft) → draft_of new.overlay.drafts ino ≡ Some e → without_pointers e ≡ without_pointers (with_pointer is.block.draft i Hole) → Follows is.block.draft e
    follows_own e at_e head = record {
      ino = ap (λ (x : NodeDraft). x.ino) head;
      own = ap (λ (x : NodeDraft). x.own) head;
      kept = λ j addr here. was j (not_i e at_e j addr here) addr here;
      kind = λ j addr lt here s s_is. (s, sym (ap (λ (x : NodeDraft). x.shape) head) ∙ s_is, refl);
      single = λ some. (single_by some).1;
      names = λ some j low high x named. held_to old.overlay.blocks new.overlay.blocks (where_is e.pointers j) x
          (held_same ino j is.block.draft e places (inr (λ same. (let near = (single_by some).0 in let k : j ≡ i = same in omega arith))) is.block.is at_e ∙ ap (holding_of old.overlay.blocks) named);
      unchanged = λ still. absurd (changed still);
      shape = λ still. absurd (changed still);
      pointers = λ still. absurd (changed still);
      holes = λ still. absurd (changed still);
    }
      where
        changed : e.changed ≡ false → ⊥
        changed still = true≢false (sym (ap (λ (x : NodeDraft). x.changed) head) ∙ still)

        was : (j : ℕ) → j ≢ i → (addr : ℕ) → where_is e.pointers j ≡ Kept addr → where_is is.block.draft.pointers j ≡ Kept addr
        was j ne addr here = held_kept old.overlay.blocks (where_is is.block.draft.pointers j) addr (sym (held_same ino j is.block.draft e places (inr ne) is.block.is at_e) ∙ ap (holding_of new.overlay.blocks) here)

        single_by : e.single ≢ 4294967295 → (i < 12) × (e.single ≡ is.block.draft.single)
        single_by some = elim (leb_tells 12 i) [
          | inl t ↦ absurd (some (ap (λ (x : NodeDraft). x.single) head ∙ ap (λ (b : Bool). if b then 4294967295 else is.block.draft.single) t.0))
          | inr t ↦ (t.1, ap (λ (x : NodeDraft). x.single) head ∙ ap (λ (b : Bool). if b then 4294967295 else is.block.draft.single) t.0)
        ]

    follows_other : (q : ℕ) → q < length old.overlay.drafts.places → q ≢ ino → (a e : NodeDraft) → draft_of old.overlay.drafts q ≡ Some a → draft_of new.overlay.drafts q ≡ Some e → without_pointers e ≡ without_pointers a → Follows a e
    follows_other q lt ne a e at_a at_e head = record {
      ino = ap (λ (x : NodeDraft). x.ino) head;
      own = ap (λ (x : NodeDraft). x.own) head;
      kept = λ j addr here. held_kept old.overlay.blocks (where_is a.pointers j) addr (sym (held_same q j a e lt (inl ne) at_a at_e) ∙ ap (holding_of new.overlay.blocks) here);
      kind = λ j addr small here s s_is. (s, sym (ap (λ (x : NodeDraft). x.shape) head) ∙ s_is, refl);
      single = λ some. ap (λ (x : NodeDraft). x.single) head;
      names = λ some j low high x named. held_to old.overlay.blocks new.overlay.blocks (where_is e.pointers j) x (held_same q j a e lt (inl ne) at_a at_e ∙ ap (holding_of old.overlay.blocks) named);
      unchanged = λ still. sym (ap (λ (x : NodeDraft). x.changed) head) ∙ still;
      shape = λ still. ap (λ (x : NodeDraft). x.shape) head;
      pointers = λ still. ap (λ (x : NodeDraft). x.single) head;
      holes = λ still j here. held_hole old.overlay.blocks (where_is a.pointers j) (sym (held_same q j a e lt (inl ne) at_a at_e) ∙ ap (holding_of new.overlay.blocks) here);
    }

    -- each draft follows one
    follows : (k : ℕ) (e : NodeDraft) → slice_get new.overlay.drafts.items k ≡ Some e → (a : NodeDraft) × (draft_of old.overlay.drafts e.ino ≡ Some a) × Follows a e × (a.shape ≡ e.shape) × (draft_of new.overlay.drafts e.ino ≡ Some e) × (e.ino < length old.overlay.drafts.places)
    follows k e at_k = by (cases_eq e.ino ino)
      where
        at_e : draft_of new.overlay.drafts e.ino ≡ Some e
        at_e = ap (slice_get new.overlay.drafts.items) (is.change.after.table.placed k e at_k).1 ∙ at_k

        lt : e.ino < length old.overlay.drafts.places
        lt = subst (λ n. e.ino < n) numbers (is.change.after.table.placed k e at_k).0

        by : (e.ino ≡ ino) ⊎ (e.ino ≡ ino → ⊥) → (a : NodeDraft) × (draft_of old.overlay.drafts e.ino ≡ Some a) × Follows a e × (a.shape ≡ e.shape) × (draft_of new.overlay.drafts e.ino ≡ Some e) × (e.ino < length old.overlay.drafts.places)
        by (inl same) =
            let at' : draft_of new.overlay.drafts ino ≡ Some e = ap (draft_of new.overlay.drafts) (sym same) ∙ at_e in
            let e_is : drafted.0 ≡ e = one drafted.1 at' in
            let head : without_pointers e ≡ without_pointers (with_pointer is.block.draft i Hole) = ap without_pointers (sym e_is) ∙ drafted.2 in
            (is.block.draft, ap (draft_of old.overlay.drafts) same ∙ is.block.is, follows_own e at' head, sym (ap (λ (x : NodeDraft). x.shape) head), at_e, lt)
        by (inr ne) =
            let a = other e.ino e lt ne at_e in
            (a.0, a.1, follows_other e.ino lt ne a.0 e a.1 at_e (sym a.2), ap (λ (x : NodeDraft). x.shape) a.2, at_e, lt)

    old_away : (a : NodeDraft) (q j addr serial position : ℕ) → draft_of old.overlay.drafts q ≡ Some a → j < 1036 → where_is a.pointers j ≡ Moved addr serial position → GoesInto g new.slots a addr serial position
    old_away a q j addr serial position at_a lt here = subst (λ (t : SlotTable). GoesInto g t a addr serial position) (sym is.change.slots) (is.change.over.away (slice_index old.overlay.drafts.places q) a j addr serial position at_a lt here)

    away : (k : ℕ) (e : NodeDraft) (j addr serial position : ℕ) → slice_get new.overlay.drafts.items k ≡ Some e → j < 1036 → where_is e.pointers j ≡ Moved addr serial position → GoesInto g new.slots e addr serial position
    away k e j addr serial position at_k lt here = (let f = follows k e at_k in into f.0 f.3 (by f.0 f.1 f.4 f.5 (cases_eq e.ino ino) (cases_eq j i)))
      where
        into : (a : NodeDraft) → a.shape ≡ e.shape → GoesInto g new.slots a addr serial position → GoesInto g new.slots e addr serial position
        into a same goes = record { file = λ s s_is. goes.file s (same ∙ s_is); lies = goes.lies }

        by : (a : NodeDraft) → draft_of old.overlay.drafts e.ino ≡ Some a → draft_of new.overlay.drafts e.ino ≡ Some e → e.ino < length old.overlay.drafts.places → (e.ino ≡ ino) ⊎ (e.ino ≡ ino → ⊥) → (j ≡ i) ⊎ (j ≡ i → ⊥) → GoesInto g new.slots a addr serial position
        by a at_a at_e low (inr ne) place = old_away a e.ino j addr serial position at_a lt (held_moved old.overlay.blocks (where_is a.pointers j) addr serial position (sym (held_same e.ino j a e low (inl ne) at_a at_e) ∙ ap (holding_of new.overlay.blocks) here))
        by a at_a at_e low (inl same) (inr ne) = old_away a e.ino j addr serial position at_a lt (held_moved old.overlay.blocks (where_is a.pointers j) addr serial position (sym (held_same e.ino j a e low (inr ne) at_a at_e) ∙ ap (holding_of new.overlay.blocks) here))
        by a at_a at_e low (inl same) (inl same_j) =
            let h_is : h ≡ GoesAway addr serial position = sym (held_here e (ap (draft_of new.overlay.drafts) (sym same) ∙ at_e)) ∙ ap (holding_of new.overlay.blocks) (ap (where_is e.pointers) (sym same_j) ∙ here) in
            let a_is : is.block.draft ≡ a = one is.block.is (ap (draft_of old.overlay.drafts) (sym same) ∙ at_a) in
            subst (λ x. GoesInto g new.slots x addr serial position) a_is (subst (CanPut g c.tables.slots new.slots is.block.draft) h_is can).0

    keeps : (q : ℕ) (node : FlatNode) → get (nodes_now new c.nodes) q ≡ Some node → KeepsSlots c.tables.slots new.slots node
    keeps q node node_is = elim (cases_eq q ino) [
      | inl same ↦ (let n = put_there in subst (KeepsSlots c.tables.slots new.slots) (one (put_own n.0 n.1) (ap (get (nodes_now new c.nodes)) (sym same) ∙ node_is)) (own n.0 n.1))
      | inr ne ↦ subst (λ (t : SlotTable). KeepsSlots c.tables.slots t node) (sym is.change.slots) (is.change.over.slots q node (sym (node_stays q ne) ∙ node_is))
    ]
      where
        by_held : (x : Holding) → CanPut g c.tables.slots new.slots is.block.draft x → (old : Block) (number serial position : ℕ) → block_held old x ≡ Away serial position → HoldsSerial (slot_at c.tables.slots number) serial → HoldsSerial (slot_at new.slots number) serial
        by_held Zeros can' old number serial position e holds = absurd (no e)
          where
            no : {s p : ℕ} → blocks.Hole ≡ Away s p → ⊥
            no e = cc
        by_held (Remains addr) can' old number serial position e holds = absurd can'
        by_held (Fresh bytes) can' old number serial position e holds = absurd (no e)
          where
            no : {b : List ℕ} {s p : ℕ} → Here b ≡ Away s p → ⊥
            no e = cc
        by_held (GoesAway addr s p) can' old number serial position e holds = subst (HoldsSerial (slot_at new.slots number)) (serials e) (can'.1 number (subst (HoldsSerial (slot_at c.tables.slots number)) (sym (serials e)) holds))
          where
            serials : {s p t q : ℕ} → Away s p ≡ Away t q → s ≡ t
            serials e = cc

        own : (n : FlatNode) → get (nodes_now old c.nodes) ino ≡ Some n → KeepsSlots c.tables.slots new.slots (with_block n i (block_held (old_block (get c.nodes ino) i) h) (slice_index new.uses ino))
        own n n_is number j serial position here holds = elim (cases_eq j i) [
          | inl same ↦ by_held h can (old_block (get c.nodes ino) i) number serial position
              (sym (ap (λ k. file_block (with_block n i (block_held (old_block (get c.nodes ino) i) h) (slice_index new.uses ino)).content k) same ∙ get_or-set_same n.content.blocks i (block_held (old_block (get c.nodes ino) i) h) blocks.Hole (within n n_is)) ∙ here) holds
          | inr ne ↦ subst (λ (t : SlotTable). HoldsSerial (slot_at t number) serial) (sym is.change.slots)
              (is.change.over.slots ino n n_is number j serial position (sym (get_or-set_other n.content.blocks i j (block_held (old_block (get c.nodes ino) i) h) blocks.Hole ne) ∙ here) holds)
        ]

    pub put_over : IsOver g new image c
    put_over = record {
      drafts = λ k e at_k. (let f = follows k e at_k in of_following g image c f.0 e f.2 (is.change.over.drafts (slice_index old.overlay.drafts.places e.ino) f.0 f.1));
      away = away;
      slots = keeps;
    }
