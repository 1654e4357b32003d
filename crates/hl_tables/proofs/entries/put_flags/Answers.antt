use Rattle.std.proofs.Common.{ℕ, ap, ◌≡◌, ◌≤◌, ◌+◌, ◌*◌, ◌∙◌, false, length, get_or, refl, arith}
use Rattle.std.proofs.lemmas.List.{take_more}
use Rattle.hl_bytes.specs.Fields.{le32, written}
use Rattle.hl_bytes.proofs.RunLemmas.{put_init, put_step, put_run_front}
use Rattle.hl_tables.specs.Entries.{flag_bytes}
use Rattle.hl_tables.proofs.EntryLemmas.{length-flag_bytes}
use Rattle.hl_tables.proofs.entries.put_flags.Goals as goal

pub put-init : goal.put-init
put-init c = record { so_far = put_init flag_bytes c.args.bytes.now c.args.at; size = refl }

pub put-preserved : goal.put-preserved
unfolding flag_bytes
put-preserved c =
    let low : c.args.at ≤ length c.args.bytes.now = omega (arith, c.requires) in
    let one : c.put_u32.new.bytes ≡ written c.put.bytes (c.args.at + 4 * c.put.i) (flag_bytes (get_or c.args.flags.now c.put.i false)) = c.put_u32.ensures.whole ∙ ap (λ (n : ℕ). written c.put.bytes (c.args.at + 4 * c.put.i) (le32 n)) c.flag_code.ensures in
    record {
      so_far = put_step flag_bytes 4 length-flag_bytes c.args.bytes.now c.put.bytes c.put_u32.new.bytes c.args.flags.now (get_or c.args.flags.now c.put.i false) c.args.at c.put.i c.put.auto.i-end low (take_more c.args.flags.now c.put.i false c.put-test.true) c.put.invariant.so_far one;
      size = omega arith;
    }

pub returns : goal.returns
returns c = put_run_front flag_bytes 4 length-flag_bytes c.args.bytes.now c.put.bytes c.args.flags.now c.args.at c.put.i c.requires c.put-test.false c.put.invariant.so_far
