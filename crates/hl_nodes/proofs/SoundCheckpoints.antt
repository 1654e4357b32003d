-- A checkpoint leaves sound contents sound.
use Rattle.std.proofs.Common.{◌≡◌, inl, inr, ⊎_elim, ℕ, ◌/◌, ◌<◌, List, [], length, sym, ◌∙◌, ap, subst}
use Rattle.std.specs.Prelude.{slice_index, Some, Contains}
use Rattle.hl_media.specs.History.{Image, MachineState}
use Rattle.hl_addr.specs.Layout.{Layout}
use Rattle.hl_super.specs.declared.record.Record.{Record}
use Rattle.hl_image.specs.Newest.{start_of}
use Rattle.hl_log.specs.declared.position.Position.{Position}
use Rattle.hl_log.specs.Free.{IsFree, Once}
use Rattle.hl_log.specs.Checkpoints.{HasNew, HasCheckpoint, KeepsRest, Given, restarted_at, FreesLess}
use Rattle.hl_tseg.specs.SlotTable.{SlotTable}
use Rattle.hl_tables.specs.Values.{TableValues}
use Rattle.hl_nodes.specs.Live.{NodeBlock, IsNodeBlock, LiveBlock, IsLiveAt}
use Rattle.hl_nodes.specs.Live.LiveBlock.{Table, OfNode}
use Rattle.hl_nodes.specs.Contents.{Contents, next_tertiary, Rests}
use Rattle.hl_nodes.specs.Checkpoints.{contents_of_tables, after_checkpoint}
use Rattle.hl_nodes.specs.Sound.{AreSlots, IsUsed, IsSound}
use Rattle.hl_nodes.specs.Moments.{IsSoundCheckpoint, HasSameSound}
use Rattle.hl_nodes.proofs.Frame.{block_back}
use Rattle.hl_log.proofs.Addresses.{addresses_free, addresses_once}
use Rattle.hl_log.proofs.CutPlaces.{once_at}
use Rattle.hl_nodes.proofs.CheckpointLaws.{item_in, moved_block, nodes_agree, carried, volumes_are, new_has, old_live_kept, old_holds, serial_kept}
use Rattle.hl_nodes.proofs.SoundUnits.{sound_same}

module _ (g : Layout) (p : Position) (clean : List ℕ) (c : Contents) (first : MachineState) (d : Given) (t : TableValues) (of : IsSoundCheckpoint g p clean d t c first) (image : Image) (keeps : KeepsRest g p clean first image) where
  rests : Rests g p clean c first
  rests = of.is.rests

  module _ (new : Record) (has : HasNew g p clean d (contents_of_tables g t) new image) where
    abbrev rest : List ℕ
    rest = has.tables_stand.1

    frees : FreesLess g p clean (restarted_at new) rest new
    frees = has.tables_stand.2.frees

    -- a block of a node lies where it lay
    back : (ino : ℕ) (block : NodeBlock) (address : ℕ) → IsNodeBlock g image t ino block address → IsNodeBlock g first.content c.tables ino block address
    back ino block address is =
        let carries = carried g p clean c first rests d t of.is.is in
        moved_block g first.content c.tables t ino block address of.is.is.inodes
        (block_back g first.content image t carries.limits c.nodes (nodes_agree g p clean c.parts t c.nodes first carries d (volumes_are g p clean c first rests d t of.is.is) image keeps) carries.nodes_are ino block address is)

    node_apart : (ino : ℕ) (block : NodeBlock) (address : ℕ) → IsNodeBlock g image t ino block address → IsFree g p.head clean address → ⊥
    node_apart ino block address is = rests.apart address (record { block = OfNode ino block; lies = back ino block address is })

    once : Once new.tables
    once =
        let stands = has.tables_stand.2 in
        subst Once (sym stands.named) (addresses_once g p.head clean (length (contents_of_tables g t)) 0 has.tables_stand.0 has.tables_stand.1 rests.at_rest.head rests.at_rest.cleans stands.are_cut)

    table_free : (i : ℕ) → i < length new.tables → IsFree g p.head clean (slice_index new.tables i)
    table_free i lt =
        let stands = has.tables_stand.2 in
        addresses_free g p.head clean (length (contents_of_tables g t)) 0 has.tables_stand.0 has.tables_stand.1 rests.at_rest.head rests.at_rest.cleans stands.are_cut (slice_index new.tables i)
        (subst (λ (l : List ℕ). Contains l (slice_index new.tables i)) stands.named (item_in new.tables i lt))

    apart_too : (i ino : ℕ) (block : NodeBlock) (address : ℕ) → IsLiveAt g image new t (Table i) address → IsNodeBlock g image t ino block address → ⊥
    apart_too i ino block address table node = node_apart ino block address node (subst (IsFree g p.head clean) table.1 (table_free i table.0))

    one_block_on : (x y : LiveBlock) (address : ℕ) → IsLiveAt g image new t x address → IsLiveAt g image new t y address → x ≡ y
    one_block_on (Table i) (Table j) address a b = ap Table (once_at new.tables once i j a.0 b.0 (a.1 ∙ sym b.1))
    one_block_on (Table i) (OfNode ino block) address a b = absurd (apart_too i ino block address a b)
    one_block_on (OfNode ino block) (Table j) address a b = absurd (apart_too j ino block address b a)
    one_block_on (OfNode m x) (OfNode n y) address a b = of.sound.one_block (OfNode m x) (OfNode n y) address (back m x address a) (back n y address b)

    used_on : (block : LiveBlock) (address : ℕ) → IsLiveAt g image new t block address → IsUsed g new [] t (address / g.k)
    used_on (Table i) address is = inr (inl (i, is.0, ap (λ (a : ℕ). a / g.k) is.1))
    used_on (OfNode ino block) address is = inl (of.marks ino block address (back ino block address is))

    none_ahead : (block : LiveBlock) (address : ℕ) → IsLiveAt g image new t block address → IsFree g (start_of new) rest address → ⊥
    none_ahead (Table i) address is free = frees.no_table address (subst (Contains new.tables) is.1 (item_in new.tables i is.0)) free
    none_ahead (OfNode ino block) address is free = node_apart ino block address is (frees.was_free address free)

    slots_on : AreSlots g t.slots (next_tertiary (after_checkpoint c new t))
    slots_on = subst (AreSlots g t.slots) (sym (serial_kept g p clean c first rests d t of.is.is new has.next)) (subst (λ (x : SlotTable). AreSlots g x (next_tertiary c)) (sym of.is.is.slots) of.sound.slots)

    -- the contents behind the checkpoint are sound
    pub sound_new : IsSound g image (after_checkpoint c new t)
    sound_new = record {
      tables_once = λ i j low high e. once_at new.tables once i j low high e;
      no_zero = ap (λ (l : List ℕ). slice_index l 0) of.is.is.inodes ∙ of.sound.no_zero;
      root = of.sound.root;
      root_is = of.sound.root_is;
      root_dir = of.sound.root_dir;
      one_block = one_block_on;
      away_once = of.sound.away_once;
      used = λ address live. used_on live.block address live.lies;
      behind = λ address taken ahead. ⊎_elim {C = ⊥} (λ live. none_ahead live.block address live.lies (inl ahead)) (λ none. none) taken;
      slots = slots_on;
    }

  -- an image with the old record and its chain, or with the new record, has sound contents
  pub checkpoint_sound : HasCheckpoint g p clean (Some c.rec) d (contents_of_tables g t) c.parts image → HasSameSound g d t c image
  checkpoint_sound (inl old) = inl (record {
    has = old_holds g p clean c first rests d t of.is.is image keeps old;
    sound = sound_same g first.content image c (old_live_kept g p clean c first rests d t of.is.is image keeps) rests.has of.sound;
  })
  checkpoint_sound (inr (new, has)) =
      let carries = carried g p clean c first rests d t of.is.is in
      inr (
        new,
        has.next,
        record {
          has = new_has g p clean c.parts t c.nodes first carries d (volumes_are g p clean c first rests d t of.is.is) image keeps new has;
          sound = sound_new new has;
        },
      )
