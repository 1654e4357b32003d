-- An image stands for one tree.
use Rattle.std.proofs.Common.{◌≡◌, ℕ, ◌≤◌, sym, subst, arith}
use Rattle.hl_media.specs.History.{Image}
use Rattle.hl_tree.specs.Rules.{Files}
use Rattle.hl_dump.specs.Dumps.{IsDump}
use Rattle.hl_dump.proofs.Dumps.{dump_once}
use Rattle.hl_disk.specs.declared.record.DumpRecord.{DumpRecord}
use Rattle.hl_disk.specs.Records.{place_of, Spells}
use Rattle.hl_disk.specs.Disks.{dump_at, Stands, StandsFor}
use Rattle.hl_disk.proofs.RecordLemmas.{once}

-- two records of one number that stand are one
pub one_record : (image : Image) (r s : DumpRecord) → r.number ≡ s.number → Stands image r → Stands image s → r ≡ s
one_record image r s same first second = once (place_of s.number) (image (place_of s.number)) r s (subst (λ (n : ℕ). Spells (place_of n) (image (place_of n)) r) same first) second

-- of the number and the tree that an image stands for there is one
pub stands_once : (blocks : ℕ) (image : Image) (n k : ℕ) (a b : Files) → StandsFor blocks image n a → StandsFor blocks image k b → (n ≡ k) × (a ≡ b)
stands_once blocks image n k a b first second =
    let up : first.newest.number ≤ k = second.others first.newest a first.checks in
    let down : second.newest.number ≤ n = first.others second.newest b second.checks in
    let same : first.newest.number ≡ second.newest.number = omega (arith, up, down, first.number_is, second.number_is) in
    let record_is : first.newest ≡ second.newest = one_record image first.newest second.newest same first.checks.stands second.checks.stands in (
      omega (arith, up, down, first.number_is, second.number_is),
      dump_once (dump_at image first.newest) a b first.checks.dump (subst (λ (r : DumpRecord). IsDump (dump_at image r) b) (sym record_is) second.checks.dump),
    )
