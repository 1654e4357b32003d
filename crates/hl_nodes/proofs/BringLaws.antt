-- An inode that a unit brings is written.
use Rattle.std.proofs.Common.{◌≡◌, ◌⊎◌, inl, inr, ℕ, ◌<◌, List, [], length, get_or, refl, sym, ◌∙◌, ap, subst, arith}
use Rattle.std.specs.Prelude.{slice_index, Some, Contains}
use Rattle.std.proofs.lemmas.List.{get_or-map, get_or_default}
use Rattle.hl_media.specs.History.{Image, MachineState}
use Rattle.hl_addr.specs.Layout.{Layout}
use Rattle.hl_bytes.specs.declared.records.BlockRecord.{BlockRecord}
use Rattle.hl_log.specs.declared.position.Position.{Position}
use Rattle.hl_log.specs.declared.piece.Piece.{Piece}
use Rattle.hl_log.specs.Cut.{AreCut, addresses}
use Rattle.hl_log.specs.Units.{Brought}
use Rattle.hl_log.proofs.TwoPhases.{length-addresses}
use Rattle.hl_inode.specs.declared.inode.Kind.{Kind}
use Rattle.hl_inode.specs.declared.inode.Inode.{Inode}
use Rattle.hl_inode.specs.Inodes.{Spells}
use Rattle.hl_paths.specs.Nodes.{FlatNode}
use Rattle.hl_placed.specs.Blocks.{Away, Block, Here, Hole, file_block}
use Rattle.hl_nodes.specs.Pointers.{pointer_of}
use Rattle.hl_image.specs.Places.{InLog}
use Rattle.hl_nodes.specs.Blocks.{StandsFor}
use Rattle.hl_nodes.specs.Nodes.{IsInodeAt, IsNodeAt}
use Rattle.hl_nodes.specs.Live.{NodeBlock, record_of, LiesAt, IsNodeBlock, IsLive}
use Rattle.hl_nodes.specs.Live.NodeBlock.{Own, Pointers, Content}
use Rattle.hl_nodes.specs.Live.LiveBlock.{OfNode}
use Rattle.hl_nodes.specs.Contents.{Contents, Rests}
use Rattle.hl_nodes.specs.Units.{unit_laid, TakesIn, IsPlanned}
use Rattle.hl_nodes.specs.Fates.{IsBroughtAs}
use Rattle.hl_nodes.specs.Brings.{IsBrought, BringsBlock, BringsPointers, BringsInode}
use Rattle.hl_nodes.proofs.PointerLemmas.{in_log-some, in_log-near}
use Rattle.hl_nodes.proofs.Frame.{one_inode}
use Rattle.hl_log.proofs.Cuts.{cut_in_log}
use Rattle.hl_nodes.proofs.UnitLaws.{limits, node_in_log}

module _ (g : Layout) (p : Position) (clean : List ℕ) (c : Contents) (first : MachineState) (rests : Rests g p clean c first) (u : Brought) (pieces : List Piece) (rest : List ℕ)
    (cut_is : AreCut g p.head clean (length u.records) (length u.changes) pieces rest) where
  abbrev plan : List ℕ
  plan = addresses g pieces

  size : length plan ≡ length u.records
  size = length-addresses g p.head clean (length u.records) (length u.changes) pieces rest cut_is

  in_plan : (index : ℕ) → index < length u.records → Contains plan (slice_index plan index)
  in_plan index lt = (index, omega (arith, size), get_or_default plan index (slice_index plan index) 0 (omega (arith, size)))

  plan_in_log : (address : ℕ) → Contains plan address → InLog g address
  plan_in_log address i = cut_in_log g p.head clean (length u.records) (length u.changes) pieces rest rests.at_rest.head rests.at_rest.cleans cut_is address i

  -- the address of a block of the unit is one of the plan
  brought_in : (r : BlockRecord) (bytes : List ℕ) (address : ℕ) → IsBrought u plan r bytes address → Contains plan address
  brought_in r bytes address is = subst (Contains plan) is.planned.lies (in_plan is.planned.index is.planned.there)

  lives : (ino : ℕ) (block : NodeBlock) (address : ℕ) → IsNodeBlock g first.content c.tables ino block address → IsLive g first.content c.rec c.tables address
  lives ino block address is = record { block = OfNode ino block; lies = is }

  module _ (image : Image) (takes : TakesIn g first.content c u plan image) where
    -- a block of the unit stands at its address
    there_at : (index : ℕ) → index < length u.records → image (slice_index plan index) ≡ get_or u.contents index []
    there_at index lt = sym (get_or-map image plan index 0 [] (omega (arith, size))) ∙ ap (λ (l : List (List ℕ)). get_or l index []) takes.brought

    pub brought_there : (r : BlockRecord) (bytes : List ℕ) (address : ℕ) → IsBrought u plan r bytes address → image address ≡ bytes
    brought_there r bytes address is = ap image (sym is.planned.lies) ∙ there_at is.planned.index is.planned.there ∙ is.holds

    stands_by : (ino : ℕ) (kind : Kind) (i pointer : ℕ) (block : Block) → BringsBlock g first.content c u plan ino kind i pointer block → StandsFor g (unit_laid c.tables u plan).slots image kind pointer block
    stands_by ino kind i pointer Hole is = is
    stands_by ino kind i pointer (Here bytes) (inl own) = (plan_in_log pointer (brought_in (record_of ino (Content i)) bytes pointer own), brought_there (record_of ino (Content i)) bytes pointer own)
    stands_by ino kind i pointer (Here bytes) (inr old) = (node_in_log g first.content c.tables ino (Content i) pointer old.lay, takes.kept pointer (lives ino (Content i) pointer old.lay) ∙ old.holds)
    stands_by ino kind i pointer (Away serial position) is = is

    from_by : (ino : ℕ) (kind : Kind) (i pointer : ℕ) (block : Block) → BringsBlock g first.content c u plan ino kind i pointer block → InLog g pointer → IsPlanned u plan (record_of ino (Content i)) pointer ⊎ IsNodeBlock g first.content c.tables ino (Content i) pointer
    from_by ino kind i pointer Hole is in_log = absurd (in_log-some g (limits g p clean c first rests) pointer in_log is)
    from_by ino kind i pointer (Here bytes) (inl own) in_log = inl own.planned
    from_by ino kind i pointer (Here bytes) (inr old) in_log = inr old.lay
    from_by ino kind i pointer (Away serial position) is in_log = absurd (in_log-near g (limits g p clean c first rests) pointer is.1.volume is.1.slot position in_log is.1.place)

    pointers_from : (ino address : ℕ) → BringsPointers g first.content c u plan ino address → InLog g address → IsPlanned u plan (record_of ino Pointers) address ⊎ IsNodeBlock g first.content c.tables ino Pointers address
    pointers_from ino address (inl none) in_log = absurd (in_log-some g (limits g p clean c first rests) address in_log none)
    pointers_from ino address (inr (inl own)) in_log = inl own.1.planned
    pointers_from ino address (inr (inr old)) in_log = inr old

    module _ (ino index : ℕ) (node : FlatNode) (brings : BringsInode g first.content c u plan ino index node) where
      inode_there : IsInodeAt g image ino (slice_index plan index) brings.inode
      inode_there = record {
        in_log = plan_in_log (slice_index plan index) (in_plan index brings.there);
        spelled = subst (λ (l : List ℕ). Spells l brings.inode) (sym (there_at index brings.there)) brings.spelled;
        number = brings.number;
      }

      node_there : IsNodeAt g (unit_laid c.tables u plan).slots image ino (slice_index plan index) node
      node_there = record {
        inode = brings.inode;
        there = inode_there;
        is = record {
          kind_is = brings.kind_is;
          size_is = brings.size_is;
          used_is = brings.used_is;
          count = brings.count;
          pointers = brings.pointers image takes;
          blocks = λ i lt. stands_by ino brings.inode.kind i (pointer_of image brings.inode i) (file_block node.content i) (brings.blocks image takes i lt);
        };
      }

      block_from : (block : NodeBlock) (address : ℕ) → LiesAt g image (slice_index plan index) brings.inode block address → IsPlanned u plan (record_of ino block) address ⊎ IsNodeBlock g first.content c.tables ino block address
      block_from Own address is = inl (record { index = index; there = brings.there; named = brings.own; lies = is })
      block_from Pointers address is = pointers_from ino address (subst (BringsPointers g first.content c u plan ino) is.1 brings.single) is.0
      block_from (Content i) address is =
          let at : BringsBlock g first.content c u plan ino brings.inode.kind i address (file_block node.content i) =
          subst (λ (a : ℕ). BringsBlock g first.content c u plan ino brings.inode.kind i a (file_block node.content i)) is.2 (brings.blocks image takes i is.0) in
          from_by ino brings.inode.kind i address (file_block node.content i) at is.1

  -- an inode whose pointers name blocks of the unit, or blocks that its node had, is written
  pub brings_write : (ino index : ℕ) (node : FlatNode) → BringsInode g first.content c u plan ino index node → IsBroughtAs g first.content c u plan ino index (Some node)
  brings_write ino index node brings = record {
    there = brings.there;
    own = brings.own;
    value = node;
    is = refl;
    stands = λ image takes. node_there image takes ino index node brings;
    blocks = λ image takes v at block address is.
        let same : v ≡ brings.inode = one_inode (image (slice_index plan index)) (image (slice_index plan index)) v brings.inode refl at.spelled (inode_there image takes ino index node brings).spelled in
        block_from image takes ino index node brings block address (subst (λ (x : Inode). LiesAt g image (slice_index plan index) x block address) same is);
  }
