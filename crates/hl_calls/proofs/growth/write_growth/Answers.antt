use Rattle.std.proofs.Common.{◌+◌, ◌-◌, ◌≡◌, ◌/◌, ℕ}
use Rattle.hl_placed.specs.Blocks.{blocks_of, file_block}
use Rattle.hl_calls.specs.Residents.{TellsBlocks}
use Rattle.hl_calls.proofs.FileReads.{of_file_before, read_more, read_one}
use Rattle.hl_calls.proofs.GrownFiles.{chosen, other_chosen, write_direct, write_far}
use Rattle.hl_calls.proofs.growth.write_growth.Goals as goal

pub returns-then-end-le-DIRECT-clause-growth : goal.returns-then-end-le-DIRECT-clause-growth
unfolding blocks_of
returns-then-end-le-DIRECT-clause-growth g c =
    write_direct g.M.Machine.history c.args.store.now c.args.ino c.args.at c.args.bytes.now c.requires.some c.div_ceil-end.result c.in_ok-here.here c.div_ceil-end.ensures c.in_ok-here.ensures.most c.in_ok-here.ensures.count
    c.if-end-le-DIRECT.true

pub returns-in_err-blocks-clause-reads : goal.returns-in_err-blocks-clause-reads
returns-in_err-blocks-clause-reads g c = (read_more (read_one c.count_here.ensures.reads c.count_here.ensures.machine) c.file_blocks.ensures.reads c.file_blocks.ensures.machine).reads

pub returns-in_err-blocks-clause-machine : goal.returns-in_err-blocks-clause-machine
returns-in_err-blocks-clause-machine g c = (read_more (read_one c.count_here.ensures.reads c.count_here.ensures.machine) c.file_blocks.ensures.reads c.file_blocks.ensures.machine).machine

pub returns-in_err-has_pointers-clause-reads : goal.returns-in_err-has_pointers-clause-reads
returns-in_err-has_pointers-clause-reads g c = (read_more (read_more (read_one c.count_here.ensures.reads c.count_here.ensures.machine) c.file_blocks.ensures.reads c.file_blocks.ensures.machine) c.has_block.ensures.reads c.has_block.ensures.machine).reads

pub returns-in_err-has_pointers-clause-machine : goal.returns-in_err-has_pointers-clause-machine
returns-in_err-has_pointers-clause-machine g c = (read_more (read_more (read_one c.count_here.ensures.reads c.count_here.ensures.machine) c.file_blocks.ensures.reads c.file_blocks.ensures.machine) c.has_block.ensures.reads c.has_block.ensures.machine).machine

pub returns-then-has_pointers-clause-growth : goal.returns-then-has_pointers-clause-growth
unfolding blocks_of
returns-then-has_pointers-clause-growth g c =
    let touched : ℕ = c.div_ceil-end.result - c.args.at / 4096 - c.in_ok-here.here in
    write_far g.M.Machine.history c.args.store.now c.args.ino c.args.at c.args.bytes.now c.requires.some c.div_ceil-end.result c.in_ok-here.here c.div_ceil-end.ensures c.in_ok-here.ensures.most c.in_ok-here.ensures.count
    c.in_ok-blocks.blocks c.in_ok-has_pointers.has_pointers _ c.if-end-le-DIRECT.false
    (of_file_before (read_one c.count_here.ensures.reads c.count_here.ensures.machine) c.args.ino (λ contents shelf file. c.in_ok-blocks.blocks ≡ blocks_of file.size) c.in_ok-blocks.ensures.blocks)
    (of_file_before (read_more (read_one c.count_here.ensures.reads c.count_here.ensures.machine) c.file_blocks.ensures.reads c.file_blocks.ensures.machine) c.args.ino
    (λ contents shelf file. TellsBlocks (file_block file) 12 c.in_ok-blocks.blocks c.in_ok-has_pointers.has_pointers) c.in_ok-has_pointers.ensures.found)
    (chosen c.in_ok-has_pointers.has_pointers touched (touched + 1) c.if-has_pointers.true)

pub returns-then-has_pointers-clause-reads : goal.returns-then-has_pointers-clause-reads
returns-then-has_pointers-clause-reads g c = (read_more (read_more (read_one c.count_here.ensures.reads c.count_here.ensures.machine) c.file_blocks.ensures.reads c.file_blocks.ensures.machine) c.has_block.ensures.reads c.has_block.ensures.machine).reads

pub returns-then-has_pointers-clause-machine : goal.returns-then-has_pointers-clause-machine
returns-then-has_pointers-clause-machine g c = (read_more (read_more (read_one c.count_here.ensures.reads c.count_here.ensures.machine) c.file_blocks.ensures.reads c.file_blocks.ensures.machine) c.has_block.ensures.reads c.has_block.ensures.machine).machine

pub returns-else-has_pointers-clause-growth : goal.returns-else-has_pointers-clause-growth
unfolding blocks_of
returns-else-has_pointers-clause-growth g c =
    let touched : ℕ = c.div_ceil-end.result - c.args.at / 4096 - c.in_ok-here.here in
    write_far g.M.Machine.history c.args.store.now c.args.ino c.args.at c.args.bytes.now c.requires.some c.div_ceil-end.result c.in_ok-here.here c.div_ceil-end.ensures c.in_ok-here.ensures.most c.in_ok-here.ensures.count
    c.in_ok-blocks.blocks c.in_ok-has_pointers.has_pointers _ c.if-end-le-DIRECT.false
    (of_file_before (read_one c.count_here.ensures.reads c.count_here.ensures.machine) c.args.ino (λ contents shelf file. c.in_ok-blocks.blocks ≡ blocks_of file.size) c.in_ok-blocks.ensures.blocks)
    (of_file_before (read_more (read_one c.count_here.ensures.reads c.count_here.ensures.machine) c.file_blocks.ensures.reads c.file_blocks.ensures.machine) c.args.ino
    (λ contents shelf file. TellsBlocks (file_block file) 12 c.in_ok-blocks.blocks c.in_ok-has_pointers.has_pointers) c.in_ok-has_pointers.ensures.found)
    (other_chosen c.in_ok-has_pointers.has_pointers touched (touched + 1) c.if-has_pointers.false)

pub returns-else-has_pointers-clause-reads : goal.returns-else-has_pointers-clause-reads
returns-else-has_pointers-clause-reads g c = (read_more (read_more (read_one c.count_here.ensures.reads c.count_here.ensures.machine) c.file_blocks.ensures.reads c.file_blocks.ensures.machine) c.has_block.ensures.reads c.has_block.ensures.machine).reads

pub returns-else-has_pointers-clause-machine : goal.returns-else-has_pointers-clause-machine
returns-else-has_pointers-clause-machine g c = (read_more (read_more (read_one c.count_here.ensures.reads c.count_here.ensures.machine) c.file_blocks.ensures.reads c.file_blocks.ensures.machine) c.has_block.ensures.reads c.has_block.ensures.machine).machine
