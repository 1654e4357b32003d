use Rattle.std.proofs.Common.{◌≡◌, length, arith, refl, ◌∙◌, ap}
use Rattle.sha2.specs.Sha256.{sha256}
use Rattle.hl_media.proofs.Runs.{ends_of_run}
use Rattle.hl_disk.proofs.FirstParts.{parts_of}
use Rattle.hl_disk.proofs.formatting.format.Goals as goal

pub lay_out-requires-clause-parts : goal.lay_out-requires-clause-parts
lay_out-requires-clause-parts g c =
    let first : length c.encode_record.new.out ≡ 4096 = omega arith in
    let label : length c.encode_label.new.out ≡ 4096 = omega arith in
    parts_of _ 12288 _ c.encode_record.new.out c.encode_label.new.out c.digest.result c.requires.room refl refl first label (c.digest.ensures ∙ ap sha256 c.as_slice.ensures) c.encode_record.ensures.bytes c.encode_label.ensures.bytes

pub returns-clause-said : goal.returns-clause-said
returns-clause-said g c = ends_of_run (g.M.Machine.history c.args.machine.now) (g.M.Machine.history c.lay_out.new.machine) (λ first s. s.said ≡ first.said) c.lay_out.ensures.says_nothing
