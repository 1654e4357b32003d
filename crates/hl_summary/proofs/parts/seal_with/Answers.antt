use Rattle.std.proofs.Common.{◌≡◌, ◌+◌, ◌*◌, ◌∙◌, length, drop, refl, sym, arith, length-append, length-drop}
use Rattle.std.proofs.lemmas.List.{length-take-le}
use Rattle.hl_bytes.specs.Buffers.{part_of}
use Rattle.hl_summary.specs.Parts.{with_records}
use Rattle.hl_summary.proofs.SealLemmas.{sealed, sealed_spells}
use Rattle.hl_summary.proofs.parts.seal_with.Goals as goal

pub slice_bounds-put_fields-end-2 : goal.slice_bounds-put_fields-end-2
slice_bounds-put_fields-end-2 c = sym (length-take-le 4096 c.args.part.now (omega arith))

pub put_fields-requires-clause-size : goal.put_fields-requires-clause-size
put_fields-requires-clause-size c = length-take-le 4096 c.args.part.now (omega arith)

pub returns-clause-bytes : goal.returns-clause-bytes
returns-clause-bytes c =
    let s = with_records c.args.heading c.args.blocks.now c.args.tables.now in
    let one : length c.put_fields.new.out ≡ 4096 = c.put_fields.auto.out ∙ length-take-le 4096 c.args.part.now (omega arith) in
    sealed s c.args.part.now c.put_fields.new.out c.end_page_over.new.bytes (1960 + 24 * length c.args.tables.now) c.requires.room c.requires.size one refl c.put_fields.ensures.fields c.end_page_over.ensures

pub returns-clause-checks : goal.returns-clause-checks
returns-clause-checks c =
    let s = with_records c.args.heading c.args.blocks.now c.args.tables.now in
    let one : length c.put_fields.new.out ≡ 4096 = c.put_fields.auto.out ∙ length-take-le 4096 c.args.part.now (omega arith) in
    let is = sealed s c.args.part.now c.put_fields.new.out c.end_page_over.new.bytes (1960 + 24 * length c.args.tables.now) c.requires.room c.requires.size one refl c.put_fields.ensures.fields c.end_page_over.ensures in
    let size : length c.end_page_over.new.bytes ≡ 4096 * (1 + length s.blocks) =
    omega (arith, c.end_page_over.auto.bytes, one, c.requires.size, length-append c.put_fields.new.out (drop 4096 c.args.part.now), length-drop 4096 c.args.part.now) in
    sealed_spells s c.end_page_over.new.bytes (part_of c.args.part.now 1 (length s.blocks)) c.requires.room size is c.put_fields.ensures.fitting
