-- A draft as it was read is of what the contents have.
use Rattle.std.proofs.Common.{◌≡◌, ◌≢◌, ◌⊎◌, inl, inr, ℕ, ◌+◌, ◌-◌, ◌<◌, ◌≤◌, Bool, Option, Some, None, refl, sym, ◌∙◌, ap, subst, arith}
use Rattle.std.specs.Prelude.{if◌then◌else◌, slice_index}
use Rattle.std.specs.FinMap.{get}
use Rattle.std.proofs.lemmas.Bool.{cases_lt}
use Rattle.std.proofs.lemmas.Bool.Decides.{eqb_tells}
use Rattle.hl_media.specs.History.{Image}
use Rattle.hl_addr.specs.Layout.{Layout, IsWithinLimits}
use Rattle.hl_addr.specs.Place.{IsAt}
use Rattle.hl_addr.specs.declared.place.Place.TheVariants.{Nothing, Tertiary}
use Rattle.hl_addr.proofs.PlaceLemmas.{place_only}
use Rattle.hl_inode.specs.declared.inode.Inode.{Inode}
use Rattle.hl_inode.specs.declared.inode.Kind.{Kind}
use Rattle.hl_tseg.specs.SlotTable.{SlotTable}
use Rattle.hl_placed.specs.Blocks.{Away, Block, Here, blocks_of, file_block}
use Rattle.hl_placed.specs.Blocks as blocks
use Rattle.hl_paths.specs.Nodes.{FlatNode}
use Rattle.hl_overlay.specs.declared.pointers.Pointer.TheVariants.{Hole, Kept}
use Rattle.hl_overlay.specs.declared.draft.NodeDraft.{NodeDraft}
use Rattle.hl_overlay.specs.declared.draft.Shape.{Shape}
use Rattle.hl_overlay.specs.Pointing.{pointer_to, where_is}
use Rattle.hl_overlay.specs.Drafting.{blocks_of_shape}
use Rattle.hl_overlay.proofs.TableLemmas.{blocks_most}
use Rattle.hl_nodes.specs.Pointers.{HasPointerBlock, pointer_in, pointer_of}
use Rattle.hl_nodes.specs.Blocks.{StandsFor}
use Rattle.hl_nodes.specs.Nodes.{IsInodeAt, IsMapEntry, IsNodeOf}
use Rattle.hl_nodes.specs.Live.{IsNodeBlock}
use Rattle.hl_nodes.specs.Live.NodeBlock.{Pointers}
use Rattle.hl_nodes.specs.Contents.{Contents, HasContents}
use Rattle.hl_nodes.proofs.Frame.{limits_of, one_inode}
use Rattle.hl_nodes.proofs.PointerLemmas.{in_log-some}
use Rattle.hl_overlaid.specs.Over.{IsAsRead, IsDraftOf, IsOfKind}
use Rattle.hl_overlaid.specs.Reading.{ReadsNode, ReadsPointers, ReadsUnused}
use Rattle.hl_overlaid.proofs.NowLemmas.{one}
use Rattle.hl_overlaid.proofs.FarPointers.{pointer_in_none, pointer_in_some, pointer_of_far, pointer_of_near}
use Rattle.hl_overlaid.proofs.ImageLemmas.{pointers_there, single_in_log}

hole_kept : {addr : ℕ} → Hole ≡ Kept addr → ⊥
hole_kept e = cc

kept_hole : {addr : ℕ} → Kept addr ≡ Hole → ⊥
kept_hole e = cc

kept_same : {x addr : ℕ} → Kept x ≡ Kept addr → x ≡ addr
kept_same e = cc

-- the address that a pointer was read from
to_kept : (x addr : ℕ) → pointer_to x ≡ Kept addr → (x ≡ addr) × (addr ≢ 4294967295)
to_kept x addr e = elim (eqb_tells x 4294967295) [
  | inl t ↦ absurd (hole_kept (sym (ap (λ (b : Bool). if b then Hole else Kept x) t.0) ∙ e))
  | inr t ↦ (let same : x ≡ addr = kept_same (sym (ap (λ (b : Bool). if b then Hole else Kept x) t.0) ∙ e) in (same, (λ none. t.1 (same ∙ none))))
]

to_hole : (x : ℕ) → pointer_to x ≡ Hole → x ≡ 4294967295
to_hole x e = elim (eqb_tells x 4294967295) [
  | inl t ↦ t.1
  | inr t ↦ absurd (kept_hole (sym (ap (λ (b : Bool). if b then Hole else Kept x) t.0) ∙ e))
]

-- A NUMBER THAT ISN'T IN USE
pub unused_of : (g : Layout) (image : Image) (c : Contents) → HasContents g image c → (d : NodeDraft) → ReadsUnused g c d → IsDraftOf g image c d
unused_of g image c has d reads = record {
  own = reads.unused.own ∙ sym reads.entry;
  kept = λ i addr small here. absurd (hole_kept (sym (reads.unused.holes i (omega arith) small) ∙ here));
  kind = λ i addr small here. absurd (hole_kept (sym (reads.unused.holes i (omega arith) small) ∙ here));
  single = λ some. absurd (some reads.unused.single);
  names = λ some. absurd (some reads.unused.single);
  as_read = λ unchanged. read (get c.nodes d.ino) (has.nodes.entries d.ino reads.is.number reads.number);
  pointers_read = λ unchanged address lies. absurd (none lies.inode lies.there);
}
  where
    none : (v : Inode) → IsInodeAt g image d.ino (slice_index c.tables.inodes d.ino) v → ⊥
    none v there = in_log-some g (limits_of g image c.rec has.newest has.volumes) (slice_index c.tables.inodes d.ino) there.in_log reads.entry

    read : (x : Option FlatNode) → IsMapEntry g c.tables.slots image d.ino (slice_index c.tables.inodes d.ino) x → IsAsRead x d
    read None entry = reads.unused.shape
    read (Some node) entry = absurd (none entry.inode entry.there)

module _ (g : Layout) (image : Image) (c : Contents) (has : HasContents g image c) (d : NodeDraft) (reads : ReadsNode g image c d) where
  limits : IsWithinLimits g
  limits = limits_of g image c.rec has.newest has.volumes

  low : 1 ≤ d.ino
  low = reads.is.number

  abbrev v : Inode
  v = reads.inode

  has_pointers : HasPointerBlock g image reads.inode
  has_pointers = pointers_there g image c has d.ino low reads.number reads.inode reads.there

  -- the draft as it was read, by its inode
  record IsOf : Type 0 where
    own : d.own ≡ slice_index c.tables.inodes d.ino
    shape : d.shape ≡ Some (record { kind = v.kind; size = v.size })
    single : d.single ≡ v.single
    near : (i : ℕ) → i < 12 → where_is d.pointers i ≡ pointer_to (slice_index v.direct i)
    far : (i : ℕ) → 12 ≤ i → i < 1036 → i < blocks_of v.size → where_is d.pointers i ≡ pointer_to (pointer_in image v.single (i - 12))

  is_of : IsOf
  is_of = by reads.pointers
    where
      by : ((v.single ≡ 4294967295) × (d ≡ reads.read)) ⊎ ReadsPointers image v reads.read d → IsOf
      by (inl (none, same)) = record {
        own = ap (λ (x : NodeDraft). x.own) same ∙ reads.of_inode.own_is;
        shape = ap (λ (x : NodeDraft). x.shape) same ∙ reads.of_inode.shape;
        single = ap (λ (x : NodeDraft). x.single) same ∙ reads.of_inode.single;
        near = λ i lt. ap (λ (x : NodeDraft). where_is x.pointers i) same ∙ reads.of_inode.direct i lt;
        far = λ i from lt within. ap (λ (x : NodeDraft). where_is x.pointers i) same ∙ reads.of_inode.far i from lt ∙ sym (ap pointer_to (ap (λ a. pointer_in image a (i - 12)) none ∙ pointer_in_none image (i - 12)));
      }
      by (inr filled) = record {
        own = ap (λ (x : NodeDraft). x.own) filled.rest ∙ reads.of_inode.own_is;
        shape = shape filled;
        single = ap (λ (x : NodeDraft). x.single) filled.rest ∙ reads.of_inode.single;
        near = λ i lt. filled.direct i lt ∙ reads.of_inode.direct i lt;
        far = λ i from lt within. filled.filled i from (subst (λ s. i < blocks_of_shape s) (sym (shape filled)) within) ∙ ap pointer_to (sym (pointer_in_some image v.single (i - 12) filled.some));
      }
        where
          shape : ReadsPointers image v reads.read d → d.shape ≡ Some (record { kind = v.kind; size = v.size })
          shape filled = ap (λ (x : NodeDraft). x.shape) filled.rest ∙ reads.of_inode.shape

  -- each block is where the inode says
  at_pointer : (i : ℕ) → i < 1036 → i < blocks_of v.size → where_is d.pointers i ≡ pointer_to (pointer_of image v i)
  at_pointer i small within = elim (cases_lt i 12) [
    | inl near ↦ is_of.near i near ∙ ap pointer_to (sym (pointer_of_near image v i near))
    | inr far ↦ is_of.far i far small within ∙ ap pointer_to (sym (pointer_of_far image v i far))
  ]

  past : (i : ℕ) → i < 1036 → blocks_of v.size ≤ i → where_is d.pointers i ≡ Hole
  past i small ge = reads.is.ends i (subst (λ s. blocks_of_shape s ≤ i) (sym is_of.shape) ge) small

  kept_at : (i addr : ℕ) → i < 1036 → where_is d.pointers i ≡ Kept addr → (i < blocks_of v.size) × (addr ≢ 4294967295) × (pointer_of image v i ≡ addr)
  kept_at i addr small here = elim (cases_lt i (blocks_of v.size)) [
    | inl lt ↦ (let t = to_kept (pointer_of image v i) addr (sym (at_pointer i small lt) ∙ here) in (lt, t.1, t.0))
    | inr ge ↦ absurd (hole_kept (sym (past i small ge) ∙ here))
  ]

  far_named : (i : ℕ) → 12 ≤ i → i < 1036 → v.single ≢ 4294967295 → where_is d.pointers i ≡ pointer_to (pointer_in image v.single (i - 12))
  far_named i from small some = elim (cases_lt i (blocks_of v.size)) [
    | inl lt ↦ is_of.far i from small lt
    | inr ge ↦ past i small ge ∙ sym (ap pointer_to (none ge has_pointers))
  ]
    where
      none : blocks_of v.size ≤ i → HasPointerBlock g image v → pointer_in image v.single (i - 12) ≡ 4294967295
      none ge (inl gone) = absurd (some gone)
      none ge (inr is) = is.within (i - 12) (omega arith) (let back : 12 + (i - 12) ≡ i = omega arith in subst (λ n. blocks_of v.size ≤ n) (sym back) ge)

  -- the node of the contents is that of the inode
  same_inode : (w : Inode) → IsInodeAt g image d.ino (slice_index c.tables.inodes d.ino) w → w ≡ v
  same_inode w there = one_inode (image (slice_index c.tables.inodes d.ino)) (image (slice_index c.tables.inodes d.ino)) w v refl there.spelled reads.there.spelled

  with_node_of : (P : Option FlatNode → Type 0) → ((node : FlatNode) → IsNodeOf g c.tables.slots image v node → P (Some node)) → P (get c.nodes d.ino)
  with_node_of P for = by (get c.nodes d.ino) (has.nodes.entries d.ino low reads.number)
    where
      by : (x : Option FlatNode) → IsMapEntry g c.tables.slots image d.ino (slice_index c.tables.inodes d.ino) x → P x
      by None none = absurd (in_log-some g limits (slice_index c.tables.inodes d.ino) reads.there.in_log none)
      by (Some node) entry = for node (subst (λ w. IsNodeOf g c.tables.slots image w node) (same_inode entry.inode entry.there) entry.is)

  -- nothing stands for a block but a hole
  nothing : (slots : SlotTable) (kind : Kind) (b : Block) → StandsFor g slots image kind 4294967295 b → b ≡ blocks.Hole
  nothing slots kind blocks.Hole is = refl
  nothing slots kind (Here bytes) is = absurd (in_log-some g limits 4294967295 is.0 refl)
  nothing slots kind (Away serial position) is = absurd (far is.1.volume is.1.slot is.1.place)
    where
      far : (volume slot : ℕ) → IsAt g 4294967295 (Tertiary volume slot position) → ⊥
      far volume slot place = (let e = place_only g limits 4294967295 (Tertiary volume slot position) Nothing place refl in cc)

  as_read : IsAsRead (get c.nodes d.ino) d
  as_read = with_node_of (λ x. IsAsRead x d) (λ node is. (
    is_of.shape ∙ ap (λ k. Some (record { kind = k; size = v.size })) (sym is.kind_is) ∙ ap (λ n. Some (record { kind = node.kind; size = n })) (sym is.size_is),
    λ i lt here. (
        let within : i < blocks_of v.size = subst (λ n. i < blocks_of n) is.size_is lt in
        let small : i < 1036 = few i within in
        let gone : pointer_of image v i ≡ 4294967295 = to_hole (pointer_of image v i) (sym (at_pointer i small within) ∙ here) in
        nothing c.tables.slots v.kind (file_block node.content i) (subst (λ a. StandsFor g c.tables.slots image v.kind a (file_block node.content i)) gone (is.blocks i within))),
  ))
    where
      few : (i : ℕ) → i < blocks_of v.size → i < 1036
      few i within = (let most : blocks_of_shape (Some (record { kind = v.kind; size = v.size })) ≤ 1036 = subst (λ s. blocks_of_shape s ≤ 1036) is_of.shape (blocks_most d reads.is) in omega arith)

  -- A NODE AS IT WAS READ
  pub read_of : IsDraftOf g image c d
  read_of = record {
    own = is_of.own;
    kept = λ i addr small here. (let k = kept_at i addr small here in record { low = low; high = reads.number; inode = reads.inode; there = reads.there; points = (k.0, k.1, k.2) });
    kind = λ i addr small here shape at. with_node_of (λ x. IsOfKind x shape.kind) (λ node is other same. (
        let shapes : record { kind = v.kind; size = v.size } ≡ shape = one is_of.shape at in
        ap (λ (x : FlatNode). x.kind) (one same refl) ∙ is.kind_is ∙ ap (λ (s : Shape). s.kind) shapes));
    single = λ some. (
        let there : v.single ≢ 4294967295 = (λ none. some (is_of.single ∙ none)) in
        subst (IsNodeBlock g image c.tables d.ino Pointers) (sym is_of.single) (record { low = low; high = reads.number; inode = reads.inode; there = reads.there; lies = (single_in_log g image v has_pointers there, refl) }));
    names = λ some i from small. far_named i from small (λ none. some (is_of.single ∙ none)) ∙ ap (λ a. pointer_to (pointer_in image a (i - 12))) (sym is_of.single);
    as_read = λ unchanged. as_read;
    pointers_read = λ unchanged address lies. is_of.single ∙ ap (λ (w : Inode). w.single) (sym (same_inode lies.inode lies.there)) ∙ lies.lies.1;
  }
