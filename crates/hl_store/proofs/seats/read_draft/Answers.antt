use Rattle.std.proofs.Common.{sym, ◌∙◌, ap, subst}
use Rattle.hl_overlay.specs.declared.draft.NodeDraft.{NodeDraft}
use Rattle.hl_store.specs.Seats.{GivesDraft}
use Rattle.hl_store.proofs.ReadRuns.{reads_then, reads_to}
use Rattle.hl_store.proofs.DraftReads.{far_given, near_given, unused_given}
use Rattle.hl_store.proofs.seats.read_draft.Goals as goal
use Rattle.hl_store.proofs.seats.read_draft.Goals.{then-inode+in_ok-read_block, else-inode}

pub returns-then-own-clause-draft : goal.returns-then-own-clause-draft
returns-then-own-clause-draft g c = unused_given {M = g.row.M.Denot} g.M.Machine.history c.args.log.now c.args.tables.now c.args.ino c.inode-own.result c.requires.high c.inode-own.ensures.value c.in_ok-unused.field-0 c.if-own.true c.in_ok-unused.ensures.value c.in_ok-unused.ensures.is

pub of-requires : goal.of-requires
of-requires g c = c.in_ok-inode.ensures.is

pub returns-in_err-read_block-clause-machine : goal.returns-in_err-read_block-clause-machine
returns-in_err-read_block-clause-machine g c = reads_then c.in_ok-inode.ensures.machine c.in_err-read_block.ensures.machine

pub returns-clause-draft : goal.returns-clause-draft
returns-clause-draft g c = elim c.if-inode.branch [
  | then-inode+in_ok-read_block w ↦ subst (λ (d : NodeDraft). GivesDraft {M = g.row.M.Denot} g.M.Machine.history c.args.log.now c.args.tables.now c.args.ino d) (sym w.draft-is)
      (far_given {M = g.row.M.Denot} g.M.Machine.history c.args.log.now c.args.tables.now c.args.ino c.inode-own.result c.requires.high c.inode-own.ensures.value c.in_ok-inode.inode c.in_ok-draft.draft c.in_ok-inode.ensures.inode c.in_ok-draft.ensures.value c.in_ok-inode.ensures.number
      c.read_inode.new.log w.read_pointers.new.self w.read_block.new.out c.in_ok-inode.ensures.machine.unchanged w.in_ok-read_block.ensures.bytes w.if-inode.true w.read_pointers.ensures.filled w.read_pointers.ensures.direct w.read_pointers.ensures.rest w.read_pointers.ensures.is)
  | else-inode w ↦ subst (λ (d : NodeDraft). GivesDraft {M = g.row.M.Denot} g.M.Machine.history c.args.log.now c.args.tables.now c.args.ino d) (sym w.draft-is)
      (near_given {M = g.row.M.Denot} g.M.Machine.history c.args.log.now c.args.tables.now c.args.ino c.inode-own.result c.requires.high c.inode-own.ensures.value c.in_ok-inode.inode c.in_ok-draft.draft c.in_ok-inode.ensures.inode c.in_ok-draft.ensures.value c.in_ok-inode.ensures.number c.in_ok-draft.ensures.is w.if-inode.false)
]

pub returns-clause-number : goal.returns-clause-number
returns-clause-number g c = elim c.if-inode.branch [
  | then-inode+in_ok-read_block w ↦ ap (λ (d : NodeDraft). d.ino) (w.draft-is ∙ w.read_pointers.ensures.rest) ∙ c.in_ok-draft.ensures.value.number ∙ c.in_ok-inode.ensures.number
  | else-inode w ↦ ap (λ (d : NodeDraft). d.ino) w.draft-is ∙ c.in_ok-draft.ensures.value.number ∙ c.in_ok-inode.ensures.number
]

pub returns-clause-machine : goal.returns-clause-machine
returns-clause-machine g c = elim c.if-inode.branch [
  | then-inode+in_ok-read_block w ↦ reads_to w.log-is (reads_then c.in_ok-inode.ensures.machine w.in_ok-read_block.ensures.machine)
  | else-inode w ↦ reads_to w.log-is c.in_ok-inode.ensures.machine
]
