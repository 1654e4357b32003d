use Rattle.std.proofs.Common.{◌≡◌, List, refl, sym, ◌∙◌, subst, arith}
use Rattle.std.specs.Prelude.{slice_index, Option}
use Rattle.std.proofs.lemmas.Option.{get_or_from_slice_get}
use Rattle.hl_addr.specs.Layout.{IsInodeCount}
use Rattle.hl_bytes.specs.Buffers.{block_of}
use Rattle.hl_tseg.specs.SlotTable.{SlotTable}
use Rattle.hl_nodes.specs.Live.{IsLiveAt}
use Rattle.hl_nodes.specs.Sound.{AwayOnce, AreSlots}
use Rattle.hl_nodes.specs.Found.{nodes_found}
use Rattle.hl_nodes.specs.declared.found.FoundNode.{FoundNode}
use Rattle.hl_found.specs.Found.{contents_found}
use Rattle.hl_found.specs.Listing.{Lists}
use Rattle.hl_found.specs.Soundness.{HasRoot}
use Rattle.hl_found.proofs.SoundFound.{are_sound, sound_place, inodes_are, used_are, within}
use Rattle.hl_found.proofs.soundness.is_sound.Goals as goal

pub inode-requires : goal.inode-requires
inode-requires c =
    let g = c.args.geometry.now in
    let image = block_of c.args.image.now in
    let all = inodes_are g image (contents_found c.args.found.now) c.requires.found.has in
    let two : IsInodeCount g.inodes = (within g image (contents_found c.args.found.now) c.requires.found.has).inode_count in
    let low = two.0 in
    omega arith

pub blocks_are_in_place-requires-clause-used : goal.blocks_are_in_place-requires-clause-used
blocks_are_in_place-requires-clause-used c = used_are c.args.geometry.now (block_of c.args.image.now) (contents_found c.args.found.now) c.requires.found.has

pub returns-then-not-lie_apart : goal.returns-then-not-lie_apart
returns-then-not-lie_apart c =
    let g = c.args.geometry.now in
    let f = c.args.found.now in
    let lists = c.in_ok-lives.ensures in (
      λ e. absurd (cc),
      λ sound. (c.if-not-lie_apart.ensures g (block_of c.args.image.now) f.rec f.tables (subst (Lists (IsLiveAt g (block_of c.args.image.now) f.rec f.tables)) (sym c.as_slice-2.ensures.value) lists)).1 sound.one_block,
    )

pub returns-then-not-blocks_are_in_place : goal.returns-then-not-blocks_are_in_place
returns-then-not-blocks_are_in_place c =
    let g = c.args.geometry.now in
    let f = c.args.found.now in
    let lists = c.in_ok-lives.ensures in (
      λ e. absurd (cc),
      λ sound. (c.if-not-blocks_are_in_place.ensures (block_of c.args.image.now) (subst (Lists (IsLiveAt g (block_of c.args.image.now) f.rec f.tables)) (sym c.as_slice-3.ensures.value) lists)).1
          (sound_place g (block_of c.args.image.now) (contents_found f) sound),
    )

pub returns-then-not-aways_are_apart : goal.returns-then-not-aways_are_apart
returns-then-not-aways_are_apart c = (
  λ e. absurd (cc),
  λ sound. c.if-not-aways_are_apart.ensures.1 (subst (λ (l : List (Option FoundNode)). AwayOnce (nodes_found l)) (sym c.as_slice-4.ensures.value) sound.away_once),
)

pub returns : goal.returns
returns c =
    let g = c.args.geometry.now in
    let f = c.args.found.now in
    let image = block_of c.args.image.now in
    let lists = c.in_ok-lives.ensures in
    let zero : slice_index f.tables.inodes 0 ≡ 4294967295 = get_or_from_slice_get f.tables.inodes 0 c.inode.result 0 c.inode.ensures.value ∙ c.if-inode.false in
    let root = subst (λ (l : List (Option FoundNode)). HasRoot (nodes_found l)) c.as_slice.ensures.value (c.if-not-has_root.ensures.0 refl) in
    let apart = (c.if-not-lie_apart.ensures g image f.rec f.tables (subst (Lists (IsLiveAt g image f.rec f.tables)) (sym c.as_slice-2.ensures.value) lists)).0 refl in
    let place = (c.if-not-blocks_are_in_place.ensures image (subst (Lists (IsLiveAt g image f.rec f.tables)) (sym c.as_slice-3.ensures.value) lists)).0 refl in
    let away = subst (λ (l : List (Option FoundNode)). AwayOnce (nodes_found l)) c.as_slice-4.ensures.value (c.if-not-aways_are_apart.ensures.0 refl) in (
      λ yes. are_sound g image (contents_found f) zero root apart place away (subst (AreSlots g f.tables.slots) c.next_tertiary-next.ensures (subst (λ (s : SlotTable). AreSlots g s c.next_tertiary-next.result) c.slots.ensures (c.slots_are_possible.ensures.0 yes))),
      λ sound. c.slots_are_possible.ensures.1 (subst (λ (s : SlotTable). AreSlots g s c.next_tertiary-next.result) (sym c.slots.ensures) (subst (AreSlots g f.tables.slots) (sym c.next_tertiary-next.ensures) sound.slots)),
    )
