-- What is counted once a unit or a checkpoint was written.
use Rattle.std.proofs.Common.{◌≡◌, ℕ, List, [], length, map, Some, subst}
use Rattle.hl_media.specs.History.{MachineState}
use Rattle.hl_addr.specs.Layout.{Layout}
use Rattle.hl_bytes.specs.declared.block.Block.{Block}
use Rattle.hl_bytes.specs.declared.records.BlockRecord.{BlockRecord}
use Rattle.hl_bytes.specs.declared.records.TableRecord.{TableRecord}
use Rattle.hl_log.specs.declared.piece.Piece.{Piece}
use Rattle.hl_log.specs.declared.position.Position.{Position}
use Rattle.hl_log.specs.Checkpoints.{Given, HasCheckpointed}
use Rattle.hl_log.specs.Cut.{addresses}
use Rattle.hl_log.specs.Units.{Brought, HasWritten, Numbered}
use Rattle.hl_log.proofs.TwoPhases.{one_cut}
use Rattle.hl_super.specs.declared.record.Record.{Record}
use Rattle.hl_tables.specs.Values.{TableValues}
use Rattle.hl_nodes.specs.Checkpoints.{after_checkpoint, contents_of_tables}
use Rattle.hl_nodes.specs.Contents.{Contents}
use Rattle.hl_nodes.specs.Moments.{IsSoundCheckpoint}
use Rattle.hl_nodes.specs.Sound.{HasSound, IsSound}
use Rattle.hl_nodes.specs.Units.{TakesIn, after_unit}
use Rattle.hl_nodes.proofs.CheckpointLaws.{carried, new_has, old_live_kept, ready, volumes_are}
use Rattle.hl_nodes.proofs.SoundCheckpoints.{sound_new}
use Rattle.hl_nodes.proofs.UnitLaws.{closed}
use Rattle.hl_overlaid.specs.NodesNow.{Overlaid, nodes_now}
use Rattle.hl_overlaid.specs.Units.{IsUnitNow, brought_by, unit_changes}
use Rattle.hl_overlaid.proofs.UnitMakes.{cut_is}
use Rattle.hl_tally.specs.Tally.{IsTally, Tally}
use Rattle.hl_tally.specs.Counting.{tables_counted, unit_counted}
use Rattle.hl_tally.proofs.TableLaws.{table_tally}
use Rattle.hl_tally.proofs.UnitLaws.{unit_tally}

module _ (g : Layout) (p : Position) (clean : List ℕ) (o : Overlaid) (notes : List TableRecord) (c : Contents) (bs : List (BlockRecord × Block)) (pieces : List Piece) (rest : List ℕ) (first : MachineState) (is : IsUnitNow g p clean o notes c bs pieces rest first) where
  abbrev u : Brought
  u = brought_by bs (unit_changes o.overlay notes)

  module _ (q : Position) (left : List ℕ) (s : MachineState) (numbered : Numbered g p clean (length u.records) (length u.changes)) (written : HasWritten g p clean u q left first s) where
    -- what was written is taken in
    taken : TakesIn g first.content c u (addresses g pieces) s.content
    taken = (
        let w = written c.parts is.rests.at_rest (closed g p clean c first is.rests) numbered in
        let same : w.0 ≡ pieces = one_cut g p.head clean (length u.records) (length u.changes) w.0 pieces left rest w.1.stands.are_cut (cut_is g p clean o notes c bs pieces rest first is) in
        record {
          brought = subst (λ (x : List Piece). map s.content (addresses g x) ≡ u.contents) same w.1.stands.blocks;
          kept = λ address live. w.1.same.content address (is.rests.apart address live);
        })

    pub written_tally : IsSound g s.content (after_unit g p c u pieces (nodes_now o c.nodes)) → (behind : Overlaid) → behind.overlay.drafts.items ≡ [] → (n : Tally) → IsTally g o first.content c n
        → IsTally g behind s.content (after_unit g p c u pieces (nodes_now o c.nodes)) (unit_counted g (addresses g pieces) n)
    written_tally sound behind none n t = unit_tally g p clean o notes c bs pieces rest first is s.content taken sound behind none n t

module _ (g : Layout) (p : Position) (clean : List ℕ) (d : Given) (t : TableValues) (c : Contents) (first : MachineState) (of : IsSoundCheckpoint g p clean d t c first) (q : Position) (left : List ℕ) (new : Record) (s : MachineState) (done : HasCheckpointed g p clean d (contents_of_tables g t) q left new first s) where
  pub checkpointed_tally : (o : Overlaid) (n : Tally) → IsTally g o first.content c n → IsTally g o s.content (after_checkpoint c new t) (tables_counted g c.rec.tables new.tables n)
  checkpointed_tally o n tally = (
      let rests = of.is.rests in
      let stands = done c.parts (Some c.rec) (ready g p clean c first rests d t of.is.is of.is.numbered of.is.next_number) in
      let has = new_has g p clean c.parts t c.nodes first (carried g p clean c first rests d t of.is.is) d (volumes_are g p clean c first rests d t of.is.is) s.content stands.2 new stands.0 in
      let behind : HasSound g s.content (after_checkpoint c new t) = record { has = has; sound = sound_new g p clean c first d t of s.content stands.2 new stands.0 } in
      table_tally g first.content s.content c new t o rests.has of.is.is.inodes (old_live_kept g p clean c first rests d t of.is.is s.content stands.2) behind n tally)
