use Rattle.std.proofs.Common.{◌+◌, ◌≡◌, inl, inr, ◌&&◌, not}
use Rattle.hl_placed.specs.Blocks.{blocks_of, file_block}
use Rattle.hl_calls.specs.Residents.{TellsBlocks, away_edge, here_below}
use Rattle.hl_calls.proofs.FileReads.{of_file_before, read_more, read_one}
use Rattle.hl_calls.proofs.GrownFiles.{chosen, cut_none, cut_some, none_left, other_chosen, some_left}
use Rattle.hl_calls.proofs.growth.cut_growth.Goals as goal
use Rattle.hl_calls.proofs.growth.cut_growth.Goals.{else-had_pointers-via-then-had_pointers+else-not-has_pointers, else-had_pointers-via-else-had_pointers}

pub returns-then-before-size-clause-growth : goal.returns-then-before-size-clause-growth
returns-then-before-size-clause-growth g c = cut_none g.M.Machine.history c.args.store.now c.args.ino c.args.size c.in_ok-before.before c.in_ok-before.ensures.size c.if-before-size.true

pub returns-in_err-gone-clause-reads : goal.returns-in_err-gone-clause-reads
returns-in_err-gone-clause-reads g c = (read_more (read_one c.file_size.ensures.reads c.file_size.ensures.machine) c.count_here.ensures.reads c.count_here.ensures.machine).reads

pub returns-in_err-gone-clause-machine : goal.returns-in_err-gone-clause-machine
returns-in_err-gone-clause-machine g c = (read_more (read_one c.file_size.ensures.reads c.file_size.ensures.machine) c.count_here.ensures.reads c.count_here.ensures.machine).machine

pub returns-in_err-added-clause-reads : goal.returns-in_err-added-clause-reads
returns-in_err-added-clause-reads g c = (read_more (read_more (read_one c.file_size.ensures.reads c.file_size.ensures.machine) c.count_here.ensures.reads c.count_here.ensures.machine) c.count_edge.ensures.reads c.count_edge.ensures.machine).reads

pub returns-in_err-added-clause-machine : goal.returns-in_err-added-clause-machine
returns-in_err-added-clause-machine g c = (read_more (read_more (read_one c.file_size.ensures.reads c.file_size.ensures.machine) c.count_here.ensures.reads c.count_here.ensures.machine) c.count_edge.ensures.reads c.count_edge.ensures.machine).machine

pub returns-in_err-had_pointers-clause-reads : goal.returns-in_err-had_pointers-clause-reads
returns-in_err-had_pointers-clause-reads g c = (read_more (read_more (read_more (read_one c.file_size.ensures.reads c.file_size.ensures.machine) c.count_here.ensures.reads c.count_here.ensures.machine) c.count_edge.ensures.reads c.count_edge.ensures.machine) c.has_block.ensures.reads c.has_block.ensures.machine).reads

pub returns-in_err-had_pointers-clause-machine : goal.returns-in_err-had_pointers-clause-machine
returns-in_err-had_pointers-clause-machine g c = (read_more (read_more (read_more (read_one c.file_size.ensures.reads c.file_size.ensures.machine) c.count_here.ensures.reads c.count_here.ensures.machine) c.count_edge.ensures.reads c.count_edge.ensures.machine) c.has_block.ensures.reads c.has_block.ensures.machine).machine

pub returns-in_err-has_pointers-clause-reads : goal.returns-in_err-has_pointers-clause-reads
returns-in_err-has_pointers-clause-reads g c = (read_more (read_more (read_more (read_more (read_one c.file_size.ensures.reads c.file_size.ensures.machine) c.count_here.ensures.reads c.count_here.ensures.machine) c.count_edge.ensures.reads c.count_edge.ensures.machine) c.has_block.ensures.reads c.has_block.ensures.machine) c.has_block-2.ensures.reads c.has_block-2.ensures.machine).reads

pub returns-in_err-has_pointers-clause-machine : goal.returns-in_err-has_pointers-clause-machine
returns-in_err-has_pointers-clause-machine g c = (read_more (read_more (read_more (read_more (read_one c.file_size.ensures.reads c.file_size.ensures.machine) c.count_here.ensures.reads c.count_here.ensures.machine) c.count_edge.ensures.reads c.count_edge.ensures.machine) c.has_block.ensures.reads c.has_block.ensures.machine) c.has_block-2.ensures.reads c.has_block-2.ensures.machine).machine

pub returns-then-not-has_pointers-clause-growth : goal.returns-then-not-has_pointers-clause-growth
unfolding blocks_of
returns-then-not-has_pointers-clause-growth g c =
    cut_some g.M.Machine.history c.args.store.now c.args.ino c.args.size c.in_ok-before.before c.in_ok-before.ensures.size
    c.div_ceil-end.result c.div_ceil-kept.result c.in_ok-gone.gone c.in_ok-added.added c.in_ok-had_pointers.had_pointers c.in_ok-has_pointers.has_pointers _ c.if-before-size.false c.div_ceil-end.ensures c.div_ceil-kept.ensures
    (of_file_before (read_one c.file_size.ensures.reads c.file_size.ensures.machine) c.args.ino (λ contents shelf file. here_below (file_block file) c.div_ceil-kept.result + c.in_ok-gone.gone ≡ here_below (file_block file) c.div_ceil-end.result) c.in_ok-gone.ensures.count)
    (of_file_before (read_more (read_one c.file_size.ensures.reads c.file_size.ensures.machine) c.count_here.ensures.reads c.count_here.ensures.machine) c.args.ino (λ contents shelf file. c.in_ok-added.added ≡ away_edge (file_block file) c.args.size) c.in_ok-added.ensures.edge)
    (of_file_before (read_more (read_more (read_one c.file_size.ensures.reads c.file_size.ensures.machine) c.count_here.ensures.reads c.count_here.ensures.machine) c.count_edge.ensures.reads c.count_edge.ensures.machine) c.args.ino (λ contents shelf file. TellsBlocks (file_block file) 12 c.div_ceil-end.result c.in_ok-had_pointers.had_pointers) c.in_ok-had_pointers.ensures.found)
    (of_file_before (read_more (read_more (read_more (read_one c.file_size.ensures.reads c.file_size.ensures.machine) c.count_here.ensures.reads c.count_here.ensures.machine) c.count_edge.ensures.reads c.count_edge.ensures.machine) c.has_block.ensures.reads c.has_block.ensures.machine) c.args.ino (λ contents shelf file. TellsBlocks (file_block file) 12 c.div_ceil-kept.result c.in_ok-has_pointers.has_pointers) c.in_ok-has_pointers.ensures.found)
    (chosen (c.in_ok-had_pointers.had_pointers && not c.in_ok-has_pointers.has_pointers) (c.in_ok-gone.gone + 1) c.in_ok-gone.gone (none_left c.in_ok-had_pointers.had_pointers c.in_ok-has_pointers.has_pointers c.if-had_pointers.true c.if-not-has_pointers.true))

pub returns-then-not-has_pointers-clause-reads : goal.returns-then-not-has_pointers-clause-reads
returns-then-not-has_pointers-clause-reads g c = (read_more (read_more (read_more (read_more (read_one c.file_size.ensures.reads c.file_size.ensures.machine) c.count_here.ensures.reads c.count_here.ensures.machine) c.count_edge.ensures.reads c.count_edge.ensures.machine) c.has_block.ensures.reads c.has_block.ensures.machine) c.has_block-2.ensures.reads c.has_block-2.ensures.machine).reads

pub returns-then-not-has_pointers-clause-machine : goal.returns-then-not-has_pointers-clause-machine
returns-then-not-has_pointers-clause-machine g c = (read_more (read_more (read_more (read_more (read_one c.file_size.ensures.reads c.file_size.ensures.machine) c.count_here.ensures.reads c.count_here.ensures.machine) c.count_edge.ensures.reads c.count_edge.ensures.machine) c.has_block.ensures.reads c.has_block.ensures.machine) c.has_block-2.ensures.reads c.has_block-2.ensures.machine).machine

pub returns-else-had_pointers-clause-growth : goal.returns-else-had_pointers-clause-growth
unfolding blocks_of
returns-else-had_pointers-clause-growth g c =
    cut_some g.M.Machine.history c.args.store.now c.args.ino c.args.size c.in_ok-before.before c.in_ok-before.ensures.size
    c.div_ceil-end.result c.div_ceil-kept.result c.in_ok-gone.gone c.in_ok-added.added c.in_ok-had_pointers.had_pointers c.in_ok-has_pointers.has_pointers _ c.if-before-size.false c.div_ceil-end.ensures c.div_ceil-kept.ensures
    (of_file_before (read_one c.file_size.ensures.reads c.file_size.ensures.machine) c.args.ino (λ contents shelf file. here_below (file_block file) c.div_ceil-kept.result + c.in_ok-gone.gone ≡ here_below (file_block file) c.div_ceil-end.result) c.in_ok-gone.ensures.count)
    (of_file_before (read_more (read_one c.file_size.ensures.reads c.file_size.ensures.machine) c.count_here.ensures.reads c.count_here.ensures.machine) c.args.ino (λ contents shelf file. c.in_ok-added.added ≡ away_edge (file_block file) c.args.size) c.in_ok-added.ensures.edge)
    (of_file_before (read_more (read_more (read_one c.file_size.ensures.reads c.file_size.ensures.machine) c.count_here.ensures.reads c.count_here.ensures.machine) c.count_edge.ensures.reads c.count_edge.ensures.machine) c.args.ino (λ contents shelf file. TellsBlocks (file_block file) 12 c.div_ceil-end.result c.in_ok-had_pointers.had_pointers) c.in_ok-had_pointers.ensures.found)
    (of_file_before (read_more (read_more (read_more (read_one c.file_size.ensures.reads c.file_size.ensures.machine) c.count_here.ensures.reads c.count_here.ensures.machine) c.count_edge.ensures.reads c.count_edge.ensures.machine) c.has_block.ensures.reads c.has_block.ensures.machine) c.args.ino (λ contents shelf file. TellsBlocks (file_block file) 12 c.div_ceil-kept.result c.in_ok-has_pointers.has_pointers) c.in_ok-has_pointers.ensures.found)
    (other_chosen (c.in_ok-had_pointers.had_pointers && not c.in_ok-has_pointers.has_pointers) (c.in_ok-gone.gone + 1) c.in_ok-gone.gone (some_left c.in_ok-had_pointers.had_pointers c.in_ok-has_pointers.has_pointers (elim c.else-had_pointers.branch [
      | else-had_pointers-via-then-had_pointers+else-not-has_pointers w ↦ inr w.if-not-has_pointers.false
      | else-had_pointers-via-else-had_pointers w ↦ inl w.if-had_pointers.false
    ])))

pub returns-else-had_pointers-clause-reads : goal.returns-else-had_pointers-clause-reads
returns-else-had_pointers-clause-reads g c = (read_more (read_more (read_more (read_more (read_one c.file_size.ensures.reads c.file_size.ensures.machine) c.count_here.ensures.reads c.count_here.ensures.machine) c.count_edge.ensures.reads c.count_edge.ensures.machine) c.has_block.ensures.reads c.has_block.ensures.machine) c.has_block-2.ensures.reads c.has_block-2.ensures.machine).reads

pub returns-else-had_pointers-clause-machine : goal.returns-else-had_pointers-clause-machine
returns-else-had_pointers-clause-machine g c = (read_more (read_more (read_more (read_more (read_one c.file_size.ensures.reads c.file_size.ensures.machine) c.count_here.ensures.reads c.count_here.ensures.machine) c.count_edge.ensures.reads c.count_edge.ensures.machine) c.has_block.ensures.reads c.has_block.ensures.machine) c.has_block-2.ensures.reads c.has_block-2.ensures.machine).machine
