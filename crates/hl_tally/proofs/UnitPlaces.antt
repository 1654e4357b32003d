-- Where the blocks of a node lie behind a unit that has its draft.
use Rattle.std.proofs.Common.{◌≡◌, ◌≢◌, ◌⊎◌, inl, inr, ℕ, ◌+◌, ◌-◌, ◌<◌, ◌≤◌, Bool, true, false, true≢false, List, [], ◌∷◌, ◌++◌, length, slice_get, Some, None, refl, sym, ◌∙◌, ap, subst, arith}
use Rattle.std.specs.Prelude.{if◌then◌else◌, slice_index, option_map}
use Rattle.std.proofs.lemmas.Bool.{cases_lt}
use Rattle.std.proofs.lemmas.Bool.Decides.{eqb_tells}
use Rattle.std.proofs.lemmas.List.{get_or_default}
use Rattle.hl_media.specs.History.{Image, MachineState}
use Rattle.hl_addr.specs.Layout.{Layout, IsWithinLimits}
use Rattle.hl_addr.specs.Place.{IsAt}
use Rattle.hl_addr.specs.declared.place.Place.TheVariants.{Tertiary}
use Rattle.hl_bytes.specs.declared.block.Block.{Block}
use Rattle.hl_bytes.specs.declared.records.BlockRecord.{BlockRecord}
use Rattle.hl_bytes.specs.declared.records.TableRecord.{TableRecord}
use Rattle.hl_log.specs.declared.piece.Piece.{Piece}
use Rattle.hl_log.specs.declared.position.Position.{Position}
use Rattle.hl_log.specs.Cut.{addresses}
use Rattle.hl_log.specs.Units.{Brought}
use Rattle.hl_inode.specs.declared.inode.Inode.{Inode}
use Rattle.hl_inode.specs.Inodes.{Spells}
use Rattle.hl_inode.specs.Pointers.{pointers_of}
use Rattle.hl_placed.specs.Blocks.{blocks_of}
use Rattle.hl_tables.specs.Values.{TableValues}
use Rattle.hl_overlay.specs.declared.pointers.Pointer.{Pointer}
use Rattle.hl_overlay.specs.declared.pointers.Pointer.TheVariants as place
use Rattle.hl_overlay.specs.declared.draft.NodeDraft.{NodeDraft}
use Rattle.hl_overlay.specs.declared.draft.Shape.{Shape}
use Rattle.hl_overlay.specs.Pointing.{has_far, pointer_to, where_is}
use Rattle.hl_overlay.specs.Drafting.{IsDraft, blocks_of_shape}
use Rattle.hl_overlay.specs.DraftTables.{draft_of}
use Rattle.hl_overlay.specs.Making.{AddsPointerBlock, IsPointerBlockOf, resolved, shape_wanted}
use Rattle.hl_overlay.proofs.TableLemmas.{blocks_most, slice_get-append_end}
use Rattle.hl_overlay.proofs.MakingLemmas.{adds_all_front}
use Rattle.hl_image.specs.Places.{InLog}
use Rattle.hl_nodes.specs.Pointers.{HasPointerBlock, pointer_in, pointer_of}
use Rattle.hl_nodes.specs.Nodes.{IsInodeAt}
use Rattle.hl_nodes.specs.Live.{HasAddress, IsNodeBlock, LiesAt, NodeBlock, record_of}
use Rattle.hl_nodes.specs.Live.NodeBlock.{Content, Own, Pointers}
use Rattle.hl_nodes.specs.Live.LiveBlock.{OfNode}
use Rattle.hl_nodes.specs.Contents.{Contents}
use Rattle.hl_nodes.specs.Units.{TakesIn, unit_laid}
use Rattle.hl_nodes.specs.Brings.{IsBrought}
use Rattle.hl_nodes.proofs.BringLaws.{brought_there}
use Rattle.hl_log.proofs.Cuts.{cut_in_log}
use Rattle.hl_nodes.proofs.Frame.{one_inode}
use Rattle.hl_nodes.proofs.NodesMade.{most_blocks}
use Rattle.hl_nodes.proofs.PointerLemmas.{in_log-near, in_log-some, pointer_in-same}
use Rattle.hl_nodes.proofs.UnitLaws.{limits, node_in_log}
use Rattle.hl_overlaid.specs.NodesNow.{Overlaid}
use Rattle.hl_overlaid.specs.Over.{IsDraftOf}
use Rattle.hl_overlaid.specs.Units.{IsUnitNow, brought_by, unit_changes}
use Rattle.hl_overlaid.proofs.NowLemmas.{none_some, one}
use Rattle.hl_overlaid.proofs.BehindLemmas.{laid_written}
use Rattle.hl_overlaid.proofs.FarPointers.{far_none, pointer_in_none, pointer_in_some, pointer_of_far, pointer_of_near, resolved-to}
use Rattle.hl_overlaid.proofs.ImageLemmas.{pointers_there}
use Rattle.hl_overlaid.proofs.UnitBlocks.{Brings, in_front, map_at}
use Rattle.hl_overlaid.proofs.UnitMakes.{cut_is, record_there, size}
use Rattle.hl_tally.specs.Tally.{StaysUnder, StaysIn}
use Rattle.hl_tally.proofs.Lives.{IsCounted}

-- what a draft that the unit is to have is
pub wanted_is : (d : NodeDraft) (shape : Shape) → shape_wanted d ≡ Some shape → (d.changed ≡ true) × (d.shape ≡ Some shape)
wanted_is d shape = by d.changed refl
  where
    by : (b : Bool) → d.changed ≡ b → (if b then d.shape else None) ≡ Some shape → (d.changed ≡ true) × (d.shape ≡ Some shape)
    by true e is = (e, is)
    by false e is = absurd (none_some is)

-- an address that is one stands for no hole
not_hole : (x : ℕ) → x ≢ 4294967295 → pointer_to x ≢ place.Hole
not_hole x some e = elim (eqb_tells x 4294967295) [
  | inl t ↦ some t.1
  | inr t ↦ (let f : place.Kept x ≡ place.Hole = sym (ap (λ (b : Bool). if b then place.Hole else place.Kept x) t.0) ∙ e in cc)
]

module _ (g : Layout) (p : Position) (clean : List ℕ) (o : Overlaid) (notes : List TableRecord) (c : Contents) (bs : List (BlockRecord × Block)) (pieces : List Piece) (rest : List ℕ) (first : MachineState) (is : IsUnitNow g p clean o notes c bs pieces rest first) where
  abbrev pub u : Brought
  u = brought_by bs (unit_changes o.overlay notes)

  abbrev pub plan : List ℕ
  plan = addresses g pieces

  abbrev pub laid : TableValues
  laid = unit_laid c.tables u plan

  -- a block of the number that is counted before the unit
  abbrev pub Old : ℕ → NodeBlock → ℕ → Type 0
  Old ino b a = IsCounted g first.content c o.overlay (OfNode ino b) a

  pub planned_in_log : (n : ℕ) → n < length plan → InLog g (slice_index plan n)
  planned_in_log n lt = cut_in_log g p.head clean (length u.records) (length u.changes) pieces rest is.rests.at_rest.head is.rests.at_rest.cleans (cut_is g p clean o notes c bs pieces rest first is) (slice_index plan n)
      (n, lt, get_or_default plan n (slice_index plan n) 0 lt)

  within : IsWithinLimits g
  within = limits g p clean c first is.rests

  pub some : (address : ℕ) → InLog g address → address ≢ 4294967295
  some address at = in_log-some g within address at

  pub planned : (n : ℕ) (b : BlockRecord × Block) → slice_get bs n ≡ Some b → n < length plan
  planned n b at = subst (λ (m : ℕ). n < m) (sym (size g p clean o notes c bs pieces rest first is)) (record_there g p clean o notes c bs pieces rest first is n b at)

  brings_at : (n : ℕ) (b : BlockRecord × Block) (r : BlockRecord) → slice_get bs n ≡ Some b → b.0 ≡ r → IsBrought u plan r b.1.bytes (slice_index plan n)
  brings_at n b r at same = record {
    planned = record { index = n; there = record_there g p clean o notes c bs pieces rest first is n b at; named = map_at (λ (x : BlockRecord × Block). x.0) bs n b r at ∙ same; lies = refl };
    holds = map_at (λ (x : BlockRecord × Block). x.1.bytes) bs n b [] at;
  }

  data_at : (n : ℕ) (b : BlockRecord × Block) → slice_get o.overlay.blocks n ≡ Some b → slice_get bs n ≡ Some b
  data_at n b at = (let front = adds_all_front plan o.uses o.overlay.drafts.items o.overlay.blocks bs is.adds in ap (λ xs. slice_get xs n) front.1 ∙ in_front o.overlay.blocks front.0 n b at)

  module _ (ino : ℕ) (low : 1 ≤ ino) (high : ino < g.inodes) (d : NodeDraft) (at : draft_of o.overlay.drafts ino ≡ Some d) where
    places : ino < length o.overlay.drafts.places
    places = subst (λ n. ino < n) (sym is.whole.numbers) high

    pub is_draft : IsDraft d
    is_draft = is.whole.table.drafts (slice_index o.overlay.drafts.places ino) d at

    pub number : d.ino ≡ ino
    number = is.whole.table.own ino d places at

    pub of : IsDraftOf g first.content c d
    of = is.over.drafts (slice_index o.overlay.drafts.places ino) d at

    stays_by : (b : NodeBlock) (a : ℕ) → StaysIn d b a → StaysUnder o.overlay (OfNode ino b) a
    stays_by b a stays e e_is = subst (λ (x : NodeDraft). StaysIn x b a) (one at e_is) stays

    live_single : d.single ≢ 4294967295 → IsNodeBlock g first.content c.tables ino Pointers d.single
    live_single some_is = subst (λ n. IsNodeBlock g first.content c.tables n Pointers d.single) number (of.single some_is)

    -- a pointer block that stays names a block
    pub single_far : d.single ≢ 4294967295 → (j : ℕ) × (j < 1024) × (where_is d.pointers (12 + j) ≢ place.Hole)
    single_far some_is = by (pointers_there g first.content c is.rests.has ino low high lies.inode lies.there)
      where
        lies : IsNodeBlock g first.content c.tables ino Pointers d.single
        lies = live_single some_is

        by : HasPointerBlock g first.content lies.inode → (j : ℕ) × (j < 1024) × (where_is d.pointers (12 + j) ≢ place.Hole)
        by (inl none) = absurd (some_is (sym lies.lies.1 ∙ none))
        by (inr names) = (
          names.named,
          names.named_low,
          λ hole. (
              let small = names.named_low in
              let back : 12 + names.named - 12 ≡ names.named = omega arith in
              let there : pointer_in first.content d.single names.named ≢ 4294967295 = subst (λ (a : ℕ). pointer_in first.content a names.named ≢ 4294967295) lies.lies.1 names.names in
              not_hole (pointer_in first.content d.single names.named) there
              (ap (λ (m : ℕ). pointer_to (pointer_in first.content d.single m)) (sym back) ∙ sym (of.names some_is (12 + names.named) (omega arith) (omega arith)) ∙ hole)),
        )

    -- the address of a block that stays is one
    pub stays_some : (a : ℕ) → Old ino Pointers a → d.single ≢ 4294967295
    stays_some a s none = some a (node_in_log g first.content c.tables ino Pointers a s.lies) (sym (s.stays d at) ∙ none)

    -- none is the block of a node with more blocks than it may have
    pub old_small : (i a : ℕ) → Old ino (Content i) a → i < 1036
    old_small i a s = (let most = most_blocks s.lies.inode.size s.lies.there.spelled.value.ranges.size in let lt = s.lies.lies.0 in omega arith)

    -- A DRAFT THAT THE UNIT IS TO HAVE

    module _ (shape : Shape) (want : shape_wanted d ≡ Some shape) (brings : Brings plan o.uses d shape o.overlay.blocks bs) where
      changed : d.changed ≡ true
      changed = (wanted_is d shape want).0

      shape_is : d.shape ≡ Some shape
      shape_is = (wanted_is d shape want).1

      few : blocks_of shape.size ≤ 1036
      few = subst (λ s. blocks_of_shape s ≤ 1036) shape_is (blocks_most d is_draft)

      abbrev value : Inode
      value = brings.adds.inode.value

      abbrev own_block : BlockRecord × Block
      own_block = (record { ino = d.ino; index = 4294967295 }, brings.adds.inode.block)

      own_at : slice_get bs (length brings.adds.middle) ≡ Some own_block
      own_at = ap (λ xs. slice_get xs (length brings.adds.middle)) (brings.is ∙ ap (λ xs. xs ++ brings.rest) brings.adds.inode.is)
          ∙ in_front (brings.adds.middle ++ own_block ∷ []) brings.rest (length brings.adds.middle) own_block (slice_get-append_end brings.adds.middle own_block)

      new_at : (block : Block) → brings.adds.middle ≡ brings.before ++ (record { ino = d.ino; index = 4294967294 }, block) ∷ [] → slice_get bs (length brings.before) ≡ Some (record { ino = d.ino; index = 4294967294 }, block)
      new_at block same = ap (λ xs. slice_get xs (length brings.before)) (brings.is ∙ ap (λ xs. xs ++ brings.rest) (brings.adds.inode.is ∙ ap (λ m. m ++ own_block ∷ []) same))
          ∙ in_front ((brings.before ++ (record { ino = d.ino; index = 4294967294 }, block) ∷ []) ++ own_block ∷ []) brings.rest (length brings.before) (record { ino = d.ino; index = 4294967294 }, block)
          (in_front (brings.before ++ (record { ino = d.ino; index = 4294967294 }, block) ∷ []) (own_block ∷ []) (length brings.before) (record { ino = d.ino; index = 4294967294 }, block) (slice_get-append_end brings.before (record { ino = d.ino; index = 4294967294 }, block)))

      new_brought : (block : Block) → brings.adds.middle ≡ brings.before ++ (record { ino = d.ino; index = 4294967294 }, block) ∷ [] → IsBrought u plan (record_of ino Pointers) block.bytes (slice_index plan (length brings.before))
      new_brought block same = brings_at (length brings.before) (record { ino = d.ino; index = 4294967294 }, block) (record_of ino Pointers) (new_at block same) (ap (λ n. record { ino = n; index = 4294967294 }) number)

      -- where the pointer block lies
      data Lies : Type 0 where
        Nowhere : (near : has_far d.pointers ≡ false) (single_is : value.single ≡ 4294967295) → Lies
        There : (some_is : d.single ≢ 4294967295) (single_is : value.single ≡ d.single) → Lies
        Anew : (gone : d.single ≡ 4294967295) (block : Block) (brought : IsBrought u plan (record_of ino Pointers) block.bytes value.single) (names : IsPointerBlockOf plan d block.bytes) → Lies

      lies : Lies
      lies = by brings.adds.pointer_block
        where
          single : value.single ≡ brings.adds.single
          single = brings.adds.inode.is_of.single_is

          by : AddsPointerBlock plan d brings.before brings.adds.middle brings.adds.single → Lies
          by (inl (same, single_is, there)) = far (has_far d.pointers) refl
            where
              far : (b : Bool) → has_far d.pointers ≡ b → Lies
              far true e = There (there e) (single ∙ single_is ∙ ap (λ (b : Bool). if b then d.single else 4294967295) e)
              far false e = Nowhere e (single ∙ single_is ∙ ap (λ (b : Bool). if b then d.single else 4294967295) e)
          by (inr (far, gone, (block, same, single_is, names))) = Anew gone block (subst (IsBrought u plan (record_of ino Pointers) block.bytes) (sym (single ∙ single_is)) (new_brought block same)) names

      -- none of the blocks that the unit has of the node was counted before
      pub fresh_own : (e : ℕ) → Old ino Own e → ⊥
      fresh_own e s = true≢false (sym changed ∙ s.stays d at)

      pub fresh_pointers : d.single ≡ 4294967295 → (e : ℕ) → Old ino Pointers e → ⊥
      fresh_pointers gone e s = stays_some e s gone

      pub fresh_content : (i n : ℕ) → where_is d.pointers i ≡ place.New n → (e : ℕ) → Old ino (Content i) e → ⊥
      fresh_content i n here e s = (let f = sym here ∙ s.stays d at in cc)

      module _ (image : Image) (takes : TakesIn g first.content c u plan image) where
        kept_single : d.single ≢ 4294967295 → image d.single ≡ first.content d.single
        kept_single some_is = takes.kept d.single (record { block = OfNode ino Pointers; lies = live_single some_is })

        brought_single : (block : Block) → IsBrought u plan (record_of ino Pointers) block.bytes value.single → image value.single ≡ block.bytes
        brought_single block brought = brought_there g p clean c first is.rests u pieces rest (cut_is g p clean o notes c bs pieces rest first is) image takes (record_of ino Pointers) block.bytes value.single brought

        in_plan : (index : ℕ) → index < length u.records → index < length plan
        in_plan index lt = subst (λ (m : ℕ). index < m) (sym (size g p clean o notes c bs pieces rest first is)) lt

        single_in_log : (block : Block) → IsBrought u plan (record_of ino Pointers) block.bytes value.single → InLog g value.single
        single_in_log block brought = subst (InLog g) brought.planned.lies (planned_in_log brought.planned.index (in_plan brought.planned.index brought.planned.there))

        far_by : Lies → (j : ℕ) → j < 1024 → pointer_in image value.single j ≡ resolved plan (where_is d.pointers (12 + j))
        far_by (Nowhere near single_is) j lt = ap (λ a. pointer_in image a j) single_is ∙ pointer_in_none image j ∙ sym (ap (resolved plan) (far_none d.pointers near j))
        far_by (There some_is single_is) j lt =
            let less : (12 + j) - 12 ≡ j = omega arith in
            ap (λ a. pointer_in image a j) single_is ∙ pointer_in-same first.content image d.single j (λ ne. kept_single some_is)
            ∙ sym (ap (resolved plan) (of.names some_is (12 + j) (omega arith) (omega arith) ∙ ap (λ m. pointer_to (pointer_in first.content d.single m)) less) ∙ resolved-to plan (pointer_in first.content d.single j))
        far_by (Anew gone block brought names) j lt = pointer_in_some image value.single j (some value.single (single_in_log block brought)) ∙ ap (λ l. slice_index (pointers_of l) j) (brought_single block brought) ∙ names.names j lt

        points : (i : ℕ) → i < 1036 → pointer_of image value i ≡ resolved plan (where_is d.pointers i)
        points i lt = elim (cases_lt i 12) [
          | inl near ↦ pointer_of_near image value i near ∙ brings.adds.inode.is_of.direct i near
          | inr far ↦ (let back : 12 + (i - 12) ≡ i = omega arith in pointer_of_far image value i far ∙ far_by lies (i - 12) (omega arith) ∙ ap (λ m. resolved plan (where_is d.pointers m)) back)
        ]

        -- the inode lies where the unit has it
        entry_is : slice_index laid.inodes ino ≡ slice_index plan (length brings.adds.middle)
        entry_is = ap (slice_index laid.inodes) (sym number) ∙ laid_written g p clean o notes c bs pieces rest first is (length brings.adds.middle) own_block own_at refl

        own_planned : length brings.adds.middle < length plan
        own_planned = planned (length brings.adds.middle) own_block own_at

        inode_now : IsInodeAt g image ino (slice_index laid.inodes ino) value
        inode_now = (
            let brought = brings_at (length brings.adds.middle) own_block (record_of ino Own) own_at (ap (λ n. record { ino = n; index = 4294967295 }) number) in
            let bytes = brought_there g p clean c first is.rests u pieces rest (cut_is g p clean o notes c bs pieces rest first is) image takes (record_of ino Own) brings.adds.inode.block.bytes (slice_index plan (length brings.adds.middle)) brought in
            record {
              in_log = subst (InLog g) (sym entry_is) (planned_in_log (length brings.adds.middle) own_planned);
              spelled = subst (λ (l : List ℕ). Spells l value) (sym (ap image entry_is ∙ bytes)) brings.adds.inode.spelled;
              number = brings.adds.inode.is_of.number ∙ number;
            })

        lives : (b : NodeBlock) (a : ℕ) → LiesAt g image (slice_index laid.inodes ino) value b a → IsNodeBlock g image laid ino b a
        lives b a lies_at = record { low = low; high = high; inode = value; there = inode_now; lies = lies_at }

        -- each of its blocks lies at its address of the plan, or where it was
        pub own_lives : IsNodeBlock g image laid ino Own (slice_index plan (length brings.adds.middle))
        own_lives = lives Own (slice_index plan (length brings.adds.middle)) entry_is

        pub pointers_live : (block : Block) → brings.adds.middle ≡ brings.before ++ (record { ino = d.ino; index = 4294967294 }, block) ∷ [] → brings.adds.single ≡ slice_index plan (length brings.before) → IsNodeBlock g image laid ino Pointers (slice_index plan (length brings.before))
        pointers_live block same single_is = lives Pointers (slice_index plan (length brings.before))
            (planned_in_log (length brings.before) (planned (length brings.before) (record { ino = d.ino; index = 4294967294 }, block) (new_at block same)), brings.adds.inode.is_of.single_is ∙ single_is)

        pub content_lives : (i a : ℕ) → i < 1036 → where_is d.pointers i ≢ place.Hole → InLog g a → resolved plan (where_is d.pointers i) ≡ a → IsNodeBlock g image laid ino (Content i) a
        content_lives i a small block log there = lives (Content i) a (reaches (cases_lt i (blocks_of shape.size)), log, points i small ∙ there)
          where
            reaches : (i < blocks_of shape.size) ⊎ (blocks_of shape.size ≤ i) → i < blocks_of value.size
            reaches (inl lt) = subst (λ n. i < blocks_of n) (sym brings.adds.inode.is_of.size) lt
            reaches (inr ge) = absurd (block (is_draft.ends i (subst (λ s. blocks_of_shape s ≤ i) (sym shape_is) ge) small))

        -- what was counted of the node lies there still
        pub old_lives : (b : NodeBlock) (a : ℕ) → Old ino b a → IsNodeBlock g image laid ino b a
        old_lives Own a s = absurd (fresh_own a s)
        old_lives Pointers a s = by lies
          where
            by : Lies → IsNodeBlock g image laid ino Pointers a
            by (Nowhere near single_is) = (let f = single_far (stays_some a s) in absurd (f.2 (far_none d.pointers near f.0)))
            by (There some_is single_is) = lives Pointers a (node_in_log g first.content c.tables ino Pointers a s.lies, single_is ∙ s.stays d at)
            by (Anew gone block brought names) = absurd (fresh_pointers gone a s)
        old_lives (Content i) a s = content_lives i a (old_small i a s) (λ hole. (let f = sym hole ∙ s.stays d at in cc)) (node_in_log g first.content c.tables ino (Content i) a s.lies) (ap (resolved plan) (s.stays d at))

        -- a block that lives there was counted, or is one of the unit
        abbrev pub Came : NodeBlock → ℕ → Type 0
        Came b a = Old ino b a ⊎ ((j : ℕ) × (j < length plan) × (slice_index plan j ≡ a) × ((e : ℕ) → Old ino b e → ⊥))

        pub came : (b : NodeBlock) (a : ℕ) → IsNodeBlock g image laid ino b a → Came b a
        came Own a l = inr (length brings.adds.middle, own_planned, sym entry_is ∙ l.lies, fresh_own)
        came Pointers a l = by lies
          where
            same : l.inode ≡ value
            same = one_inode (image (slice_index laid.inodes ino)) (image (slice_index laid.inodes ino)) l.inode value refl l.there.spelled inode_now.spelled

            single : value.single ≡ a
            single = ap (λ (v : Inode). v.single) (sym same) ∙ l.lies.1

            by : Lies → Came Pointers a
            by (Nowhere near single_is) = absurd (some a l.lies.0 (sym single ∙ single_is))
            by (There some_is single_is) = (
                let there : d.single ≡ a = sym single_is ∙ single in
                inl (record { lies = subst (λ (x : ℕ). IsNodeBlock g first.content c.tables ino Pointers x) there (live_single some_is); stays = stays_by Pointers a there }))
            by (Anew gone block brought names) = inr (brought.planned.index, in_plan brought.planned.index brought.planned.there, brought.planned.lies ∙ single, fresh_pointers gone)
        came (Content i) a l = by (where_is d.pointers i) refl
          where
            same : l.inode ≡ value
            same = one_inode (image (slice_index laid.inodes ino)) (image (slice_index laid.inodes ino)) l.inode value refl l.there.spelled inode_now.spelled

            small : i < 1036
            small = (let most = most_blocks l.inode.size l.there.spelled.value.ranges.size in let lt = l.lies.0 in omega arith)

            point : resolved plan (where_is d.pointers i) ≡ a
            point = sym (points i small) ∙ ap (λ (v : Inode). pointer_of image v i) (sym same) ∙ l.lies.2

            by : (q : Pointer) → where_is d.pointers i ≡ q → Came (Content i) a
            by place.Hole here = absurd (some a l.lies.1 (sym point ∙ ap (resolved plan) here))
            by (place.Kept addr) here = (
                let there : addr ≡ a = sym (ap (resolved plan) here) ∙ point in
                let had : HasAddress g first.content c.tables ino (Content i) addr = subst (λ n. HasAddress g first.content c.tables n (Content i) addr) number (of.kept i addr small here) in
                inl (record {
                  lies = record { low = had.low; high = had.high; inode = had.inode; there = had.there; lies = (had.points.0, l.lies.1, had.points.2 ∙ there) };
                  stays = stays_by (Content i) a (here ∙ ap place.Kept there);
                }))
            by (place.Moved addr serial position) here = (
                let there : addr ≡ a = sym (ap (resolved plan) here) ∙ point in
                let goes = (is.over.away (slice_index o.overlay.drafts.places ino) d i addr serial position at small here).lies in
                absurd (in_log-near g within a goes.volume goes.slot position l.lies.1 (subst (λ (x : ℕ). IsAt g x (Tertiary goes.volume goes.slot position)) there goes.place)))
            by (place.New n) here = (
                let b = is.whole.named.named ino i n places (ap (option_map (λ (x : NodeDraft). where_is x.pointers i)) at ∙ ap Some here) in
                inr (n, planned n b.0 (data_at n b.0 b.1), sym (ap (resolved plan) here) ∙ point, fresh_content i n here))
