use Rattle.std.proofs.Common.{◌≡◌, ◌-◌, ◌+◌, ◌*◌, ◌∙◌, Bool, List, length, refl, sym, ap, arith}
use Rattle.hl_tables.specs.Entries.{flag_bytes, flag_at}
use Rattle.hl_tables.proofs.EntryLemmas.{length-flag_bytes}
use Rattle.hl_bytes.specs.Runs.{run_bytes, run_at}
use Rattle.hl_bytes.specs.Pages.{plain_page}
use Rattle.hl_bytes.proofs.RunLemmas.{length-run_at}
use Rattle.hl_tables.specs.TableBlocks.{in_blocks}
use Rattle.hl_tables.proofs.ReadBlocks.{put_mid_is, block_read, block_again, flag_again}
use Rattle.hl_tables.proofs.reading.read_flags.Goals as goal

pub returns-then-spelled-clause-read : goal.returns-then-spelled-clause-read
returns-then-spelled-clause-read c = λ t.
    let xs = c.args.flags.now in
    let ys = c.copy_from_slice.new.self in
    let from = 1024 * c.args.block in
    let count = c.min-count.result in
    let few = c.min-count.ensures in
    let copied : ys ≡ c.flags_in-spelled.new.out = c.copy_from_slice.ensures.after in
    let size : length ys ≡ count = ap length (copied ∙ c.flags_in-spelled.ensures.candidate) ∙ length-run_at flag_at 4 0 count c.args.bytes.now in
    let k : from + count - from ≡ length ys = omega arith in
    let page = c.flags_in-spelled.ensures.spelled.0 t ∙ ap (λ (l : List Bool). plain_page (run_bytes flag_bytes l)) (sym copied) in
    ap (λ (l : List Bool). in_blocks (run_bytes flag_bytes l)) (put_mid_is xs ys from (from + count - from) (sym k))
    ∙ block_read flag_bytes 4 length-flag_bytes xs ys c.args.bytes.now 1024 from c.args.block count size (omega (arith, few)) refl (omega arith) (omega (arith, c.requires)) c.requires.exists page

pub returns-else-spelled-clause-grammar : goal.returns-else-spelled-clause-grammar
returns-else-spelled-clause-grammar c = λ xs size is.
    let from = 1024 * c.args.block in
    let count = c.min-count.result in
    let few = c.min-count.ensures in
    let within = c.requires.exists in
    let page = block_again flag_bytes flag_at 4 length-flag_bytes flag_again xs c.args.bytes.now 1024 from c.args.block count (λ i. omega (arith, c.type_inv.bytes i)) c.requires.size (omega arith) refl (omega arith) (omega arith) (omega arith) (omega arith) is in
    let read : c.flags_in-spelled.new.out ≡ run_at flag_at 4 0 count c.args.bytes.now = c.flags_in-spelled.ensures.candidate in
    c.flags_in-spelled.ensures.spelled.1 (page ∙ ap (λ (l : List Bool). plain_page (run_bytes flag_bytes l)) (sym read))
