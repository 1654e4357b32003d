use Rattle.std.proofs.Common.{◌≤◌, List, ℕ, length, sym, ◌∙◌, ap, arith, subst}
use Rattle.std.proofs.lemmas.List.{length-map}
use Rattle.std.proofs.lemmas.List.FromFn.{length-map-range_with_len}
use Rattle.hl_bytes.specs.declared.block.Block.{Block}
use Rattle.hl_media.specs.Moments.{Runs}
use Rattle.hl_log.specs.Checkpoints.{Checkpoints, given_by}
use Rattle.hl_log.specs.Loads.{bytes_of_tables}
use Rattle.hl_log.specs.Logs.{CheckpointEnds}
use Rattle.hl_log.proofs.Sites.{large_segments}
use Rattle.hl_log.proofs.Units.{unit_starts}
use Rattle.hl_log.proofs.TwoPhases.{first_phase, tables_of}
use Rattle.hl_tables.specs.TableBlocks.{table_block}
use Rattle.hl_store.specs.Checkpointing.{blocks_of_tables}
use Rattle.hl_store.proofs.checkpointing.write_tables.Goals as goal

pub checkpoint-requires-clause-tables : goal.checkpoint-requires-clause-tables
checkpoint-requires-clause-tables g c =
    ap length c.as_slice.ensures.value ∙ sym (length-map c.in-Ok.blocks.items (λ (b : Block). b.bytes)) ∙ ap length c.in-Ok.ensures
    ∙ length-map-range_with_len (table_block c.args.tables.now) 0 _ ∙ c.requires.site

pub returns-in-Err-clause-crash : goal.returns-in-Err-clause-crash
returns-in-Err-clause-crash g c =
    let three : 3 ≤ c.args.log.now.geometry.k = omega (arith, large_segments c.args.log.now.geometry c.requires.limits) in
    let tables = blocks_of_tables c.args.tables.now in
    first_phase c.args.log.now.geometry c.args.log.now.at c.args.clean.now (given_by c.args.log.now.rec.number c.args.rec.now) tables three _ _
    (unit_starts c.args.log.now.geometry c.args.log.now.at c.args.clean.now (tables_of tables) (g.M.Machine.history c.args.log.now.machine))

pub returns-in-Ok-clause-crash : goal.returns-in-Ok-clause-crash
returns-in-Ok-clause-crash g c =
    let bytes = ap (λ (bs : List Block). bytes_of_tables bs) c.as_slice.ensures.value ∙ c.in-Ok.ensures in
    subst (λ (tables : List (List ℕ)). Runs (g.M.Machine.history c.args.log.now.machine) (g.M.Machine.history c.checkpoint.new.self.machine)
    (Checkpoints c.args.log.now.geometry c.args.log.now.at c.args.clean.now (given_by c.args.log.now.rec.number c.args.rec.now) tables)) bytes c.checkpoint.ensures.crash

pub returns-in-Ok-clause-ends : goal.returns-in-Ok-clause-ends
returns-in-Ok-clause-ends g c =
    let bytes = ap (λ (bs : List Block). bytes_of_tables bs) c.as_slice.ensures.value ∙ c.in-Ok.ensures in
    subst (λ (tables : List (List ℕ)). CheckpointEnds g.M.Machine.history g.M.Machine.faults g.M.Machine.write_faults c.args.clean.now (given_by c.args.log.now.rec.number c.args.rec.now) tables
    c.args.log.now c.checkpoint.new.self c.checkpoint.result) bytes c.checkpoint.ensures.ends
