use Rattle.std.proofs.Common.{rules, ◌≡◌, ◌↔◌, List, ℕ, length, Option, Some, Result, Ok, Err}
use Rattle.std.specs.Prelude.{IfOk, IfSome, IsNone}
use Rattle.std.specs.declared.alloc.AllocError.{AllocError}
use Rattle.sha2.specs.Sha256.{sha256}
use Rattle.hl_tree.specs.PlainValue.{Plain}
use Rattle.hl_tree.specs.Rules.{Files}
use Rattle.hl_dump.specs.Dumps.{IsDump, dump_limits}
use Rattle.hl_disk.specs.declared.record.DumpRecord.{DumpRecord}
use Rattle.hl_disk.specs.Reads.{GivesTree, IsRead}
use Rattle.hl_disk.proofs.Reading.{gives_tree, gives_read}
use Rattle.hl_disk.proofs.mounting.checked.Goals as goal

-- the same where memory sufficed
module _ (r : DumpRecord) (bytes : List ℕ) where
  ok_tree : (o : Result (Option Plain) AllocError) → length bytes ≡ r.length → sha256 bytes ≡ r.digest
      → IfOk o (λ x. (t : Files) → (x ≡ Some (record { limits = dump_limits; tree = t })) ↔ IsDump bytes t) → IfOk o (λ x. IsNone x ↔ ((t : Files) → ¬ IsDump bytes t)) → IfOk o (λ x. GivesTree r bytes x)
  ok_tree (Ok x) whole digest found none = gives_tree r bytes x whole digest found none
  ok_tree (Err e) whole digest found none = tt

  ok_read : (o : Result (Option Plain) AllocError)
      → IfOk o (λ x. (t : Files) → (x ≡ Some (record { limits = dump_limits; tree = t })) ↔ IsDump bytes t) → IfOk o (λ x. IsNone x ↔ ((t : Files) → ¬ IsDump bytes t)) → IfOk o (λ x. IfSome x IsRead)
  ok_read (Ok x) found none = gives_read r bytes x found none
  ok_read (Err e) found none = tt

pub returns-then-eq-clause-gives : goal.returns-then-eq-clause-gives
returns-then-eq-clause-gives c =
    let test : sha256 c.args.dump.now ≡ c.args.rec.now.digest = search rules in
    ok_tree c.args.rec.now c.args.dump.now c.read_dump.result c.requires test c.read_dump.ensures.found c.read_dump.ensures.none

pub returns-then-eq-clause-limits : goal.returns-then-eq-clause-limits
returns-then-eq-clause-limits c = ok_read c.args.rec.now c.args.dump.now c.read_dump.result c.read_dump.ensures.found c.read_dump.ensures.none
