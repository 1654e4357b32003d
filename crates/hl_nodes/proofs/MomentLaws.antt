-- Units and checkpoints of a log, as what they do to contents.
use Rattle.std.proofs.Common.{◌≡◌, ℕ, List, true, Option, ap}
use Rattle.hl_media.specs.History.{History}
use Rattle.hl_media.specs.Moments.{Runs, Ends}
use Rattle.hl_addr.specs.Layout.{Layout}
use Rattle.hl_super.specs.declared.record.Record.{Record}
use Rattle.hl_log.specs.declared.position.Position.{Position}
use Rattle.hl_log.specs.Units.{Brought, WritesUnit, HasWritten, moved}
use Rattle.hl_log.specs.Checkpoints.{Given, Checkpoints, HasCheckpointed, restarted_at}
use Rattle.hl_log.proofs.Wraps.{runs_map}
use Rattle.hl_tables.specs.Values.{TableValues}
use Rattle.hl_nodes.specs.Checkpoints.{contents_of_tables}
use Rattle.hl_nodes.specs.Moments.{MovesNodes, HasMovedNodes, MovesSound, HasMovedSound, KeepsNodes, HasKeptNodes}
use Rattle.hl_nodes.proofs.UnitLaws.{unit_leaves, unit_ends}
use Rattle.hl_nodes.proofs.SoundUnits.{sound_leaves, sound_ends}
use Rattle.hl_nodes.proofs.CheckpointLaws.{checkpoint_leaves, checkpoint_ends}

module _ (g : Layout) (p : Position) (clean : List ℕ) (before now : Option History) where
  -- the writing of a unit
  pub unit_moves : (u : Brought) → Runs before now (WritesUnit g p clean u) → Runs before now (MovesNodes g p clean u)
  unit_moves u run = runs_map before now (WritesUnit g p clean u) (MovesNodes g p clean u) run
      (λ first s writes c pieces rest nodes is. unit_leaves g p clean c first is.rests u pieces rest is.are_cut nodes is.makes s is.numbered writes)

  pub unit_moved : (u : Brought) (q : Position) (left : List ℕ) → u.closes ≡ true → q ≡ moved p q.head q.serial → Ends before now (HasWritten g p clean u q left) → Ends before now (HasMovedNodes g p clean u q left)
  unit_moved u q left closes at ends h e h' e' c pieces rest nodes is =
      unit_ends g p clean c _ is.rests u pieces rest is.are_cut nodes is.makes closes q (ap (λ (x : Position). x.start) at) (ap (λ (x : Position). x.first) at) left _ is.numbered (ends h e h' e')

  -- the writing of a unit over sound contents
  pub unit_moves_sound : (u : Brought) → Runs before now (WritesUnit g p clean u) → Runs before now (MovesSound g p clean u)
  unit_moves_sound u run = runs_map before now (WritesUnit g p clean u) (MovesSound g p clean u) run
      (λ first s writes c pieces rest nodes x. sound_leaves g p clean c first x.is.rests x.sound u pieces rest x.is.are_cut nodes x.is.makes x.keeps s x.is.numbered writes)

  pub unit_moved_sound : (u : Brought) (q : Position) (left : List ℕ) → Ends before now (HasWritten g p clean u q left) → Ends before now (HasMovedSound g p clean u)
  unit_moved_sound u q left ends h e h' e' c pieces rest nodes x = sound_ends g p clean c _ x.is.rests x.sound u pieces rest x.is.are_cut nodes x.is.makes x.keeps q left _ x.is.numbered (ends h e h' e')

  -- a checkpoint
  pub checkpoint_keeps : (d : Given) (t : TableValues) → Runs before now (Checkpoints g p clean d (contents_of_tables g t)) → Runs before now (KeepsNodes g p clean d t)
  checkpoint_keeps d t run = runs_map before now (Checkpoints g p clean d (contents_of_tables g t)) (KeepsNodes g p clean d t) run
      (λ first s writes c is. checkpoint_leaves g p clean c first is.rests d t is.is is.numbered is.next_number s writes)

  pub checkpoint_kept : (d : Given) (t : TableValues) (q : Position) (left : List ℕ) (new : Record) → q ≡ restarted_at new → Ends before now (HasCheckpointed g p clean d (contents_of_tables g t) q left new)
      → Ends before now (HasKeptNodes g p clean d t q left new)
  checkpoint_kept d t q left new at ends h e h' e' c is =
      checkpoint_ends g p clean c _ is.rests d t is.is is.numbered is.next_number q left new _ (ap (λ (x : Position). x.start) at) (ap (λ (x : Position). x.first) at) (ends h e h' e')
