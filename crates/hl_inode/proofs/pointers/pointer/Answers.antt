use Rattle.std.proofs.Common.{◌≡◌, ◌<◌, ◌+◌, ◌*◌, ◌∙◌, ℕ, length, Some, sym, ap, arith}
use Rattle.std.proofs.lemmas.Option.{slice_get-get_or}
use Rattle.hl_bytes.specs.Fields.{u32_at}
use Rattle.hl_bytes.specs.Runs.{u32s_at}
use Rattle.hl_bytes.proofs.RunLemmas.{get_or-run_at, length-u32s}
use Rattle.hl_inode.specs.Pointers.{pointers_of}
use Rattle.hl_inode.proofs.pointers.pointer.Goals as goal

pub returns : goal.returns
unfolding pointers_of
returns c =
    let run = u32s_at 0 1024 c.args.block.now in
    let within : c.args.i < length run = omega (arith, c.requires.within, length-u32s 0 1024 c.args.block.now) in
    let place : 0 + 4 * c.args.i ≡ 4 * c.args.i = omega arith in
    let read = get_or-run_at u32_at 4 0 1024 c.args.block.now c.args.i 0 c.requires.within ∙ ap (λ (k : ℕ). u32_at k c.args.block.now) place in
    slice_get-get_or run c.args.i 0 within ∙ ap Some (read ∙ sym c.get_u32.ensures.number)
