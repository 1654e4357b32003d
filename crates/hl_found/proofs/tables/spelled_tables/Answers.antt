use Rattle.std.proofs.Common.{◌≡◌, ◌*◌, ◌<◌, sym, arith, refl}
use Rattle.hl_bytes.specs.Buffers.{block_of}
use Rattle.hl_bytes.specs.Fields.{written}
use Rattle.hl_addr.specs.Layout.{table_blocks}
use Rattle.std.specs.Prelude.{slice_index}
use Rattle.hl_image.specs.Places.{InLog}
use Rattle.hl_tables.specs.Values.{fresh}
use Rattle.hl_tables.specs.TableBlocks.{tables_bytes}
use Rattle.hl_tables.proofs.Laid.{same_shape-then}
use Rattle.hl_found.proofs.TablesFound.{blocks_are, read_more}
use Rattle.hl_found.proofs.tables.spelled_tables.Goals as goal

pub blocks-2-preserved : goal.blocks-2-preserved
blocks-2-preserved c =
    let g = c.args.geometry.now in
    let before = c.blocks-2.invariant.shape in
    let blocks = blocks_are g c.in_ok-tables.tables c.in_ok-tables.ensures in
    let lt : c.blocks-2.i < table_blocks g = omega (arith, blocks, c.blocks-i-end.ensures, c.blocks-2-test.true) in
    let log : InLog g (slice_index c.args.addresses.now c.blocks-2.i) = c.if-not-is_in_log.ensures.place.0 refl in
    let wrote : tables_bytes c.read_block.new.self ≡ written (tables_bytes c.blocks-2.tables) (4096 * c.blocks-2.i) c.block_at.result.now = c.if-not-read_block.ensures.read refl in
    record {
      shape = same_shape-then (fresh g) c.blocks-2.tables c.read_block.new.self before c.read_block.ensures.shape;
      read = read_more g c.requires.site (block_of c.args.image.now) c.args.addresses.now c.blocks-2.tables c.read_block.new.self c.blocks-2.i c.block_at.result.now before lt
          c.block_at.ensures.size c.block_at.ensures.bytes log wrote c.blocks-2.invariant.read;
    }

pub returns : goal.returns
returns c =
    let g = c.args.geometry.now in
    let blocks = blocks_are g c.in_ok-tables.tables c.in_ok-tables.ensures in
    record {
      values = c.are_of_site.ensures;
      in_log = λ i lt. (c.blocks-2.invariant.read i (omega (arith, blocks, c.blocks-i-end.ensures, c.blocks-2-test.false, c.requires.count))).0;
      blocks = λ i lt. sym (c.blocks-2.invariant.read i (omega (arith, blocks, c.blocks-i-end.ensures, c.blocks-2-test.false))).1;
    }
