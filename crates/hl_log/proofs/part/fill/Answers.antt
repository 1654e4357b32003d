use Rattle.std.proofs.Common.{◌≡◌, ◌+◌, ◌*◌, ◌≤◌, [], List, ℕ, length, take, drop, ap, subst, sym, ◌∙◌, arith, append-nil}
use Rattle.std.proofs.lemmas.List.{take_all}
use Rattle.hl_bytes.specs.Buffers.{part_of}
use Rattle.hl_bytes.specs.declared.records.BlockRecord.{BlockRecord}
use Rattle.hl_bytes.proofs.PageLemmas.{drop-page_over}
use Rattle.hl_summary.specs.Parts.{Checks, HasRoom, Spells, summary_fields, with_records}
use Rattle.hl_summary.specs.declared.parts.Summary.{Summary}
use Rattle.hl_summary.proofs.SummaryLemmas.{length-fields, behind_is}
use Rattle.hl_log.specs.Loads.{records_of}
use Rattle.hl_log.proofs.Runs.{own_same, length_taken}
use Rattle.hl_log.proofs.part.fill.Goals as goal

pub seal_with-requires-clause-room : goal.seal_with-requires-clause-room
seal_with-requires-clause-room c =
    let count : length (take c.args.count c.records_from-records.result) ≡ c.args.count = ap length c.records_from-records.ensures ∙ length_taken (records_of c.args.load.now) c.args.first c.args.count c.requires.within in
    record { blocks = omega (arith, c.requires.most); tables = c.requires.changes }

pub seal_with-requires-clause-size : goal.seal_with-requires-clause-size
seal_with-requires-clause-size c =
    let count : length (take c.args.count c.records_from-records.result) ≡ c.args.count = ap length c.records_from-records.ensures ∙ length_taken (records_of c.args.load.now) c.args.first c.args.count c.requires.within in
    omega (arith, c.put_blocks.auto.out, c.requires.size)

pub returns-clause-part : goal.returns-clause-part
returns-clause-part c =
    let new = c.seal_with.new.part in
    let s : Summary = with_records c.args.heading (take c.args.count (drop c.args.first (records_of c.args.load.now))) c.args.tables.now in
    let count : length s.blocks ≡ c.args.count = length_taken (records_of c.args.load.now) c.args.first c.args.count c.requires.within in
    let size : length new ≡ 4096 * (1 + length s.blocks) = omega (arith, c.seal_with.auto.part, c.put_blocks.auto.out, c.requires.size) in
    let checks : Checks s new = subst (λ (l : List BlockRecord). Checks (with_records c.args.heading l c.args.tables.now) new) c.records_from-records.ensures c.seal_with.ensures.checks in
    λ g at ranges. record {
      whole = size;
      spelled = subst (λ (l : List ℕ). Spells g at.seg at.block s.serial l s) (append-nil new) (checks g at.seg at.block [] ranges);
    }

pub returns-clause-blocks : goal.returns-clause-blocks
returns-clause-blocks c =
    let new = c.seal_with.new.part in
    let old = c.put_blocks.new.out in
    let s : Summary = with_records c.args.heading (take c.args.count c.records_from-records.result) c.args.tables.now in
    let count : length s.blocks ≡ c.args.count = ap length c.records_from-records.ensures ∙ length_taken (records_of c.args.load.now) c.args.first c.args.count c.requires.within in
    let room : HasRoom s = record { blocks = omega (arith, c.requires.most); tables = c.requires.changes } in
    let fields_fit : length (summary_fields s) ≤ 4064 = omega (arith, length-fields s room, room.tables) in
    let all : take (4096 * (1 + length s.blocks)) old ≡ old = take_all (4096 * (1 + length s.blocks)) old (omega (arith, c.put_blocks.auto.out, c.requires.size)) in
    let back : drop 4096 new ≡ drop 4096 old = drop-page_over new (summary_fields s) (part_of old 1 (length s.blocks)) c.seal_with.ensures.bytes fields_fit ∙ sym (behind_is old (length s.blocks)) ∙ ap (drop 4096) all in
    own_same old new c.args.count back ∙ c.put_blocks.ensures
