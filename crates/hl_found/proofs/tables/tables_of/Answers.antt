use Rattle.std.proofs.Common.{arith}
use Rattle.hl_bytes.specs.Buffers.{block_of}
use Rattle.hl_nodes.proofs.Frame.{limits_of}
use Rattle.hl_log.proofs.Sites.{small_segments}
use Rattle.hl_found.proofs.TablesFound.{chain_may_be_laid, laid_found}
use Rattle.hl_found.proofs.tables.tables_of.Goals as goal

pub lay_parts-requires : goal.lay_parts-requires
lay_parts-requires c =
    let g = c.args.geometry.now in
    let image = block_of c.args.image.now in
    let rec = c.args.rec.now in
    let limits = limits_of g image rec c.requires.record.newest c.requires.record.volumes in
    let spelled = rw c.in-Some.is at c.in_ok-tables.ensures in
    record {
      segments = omega (arith, small_segments g limits, spelled.values.shape.segment_size);
      parts = chain_may_be_laid g image c.in-Some.tables spelled.values.shape limits rec c.args.chain.now c.requires.record c.requires.chain;
    }

pub returns-in-Some : goal.returns-in-Some
returns-in-Some c =
    let spelled = rw (c.in-Some.is, c.items.ensures) at c.in_ok-tables.ensures in
    laid_found c.args.geometry.now (block_of c.args.image.now) c.args.rec.now c.args.chain.now c.in-Some.tables c.lay_parts.new.tables c.requires.chain spelled c.lay_parts.ensures.value
