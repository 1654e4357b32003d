-- When another image holds the same tree.
use Rattle.std.proofs.Common.{◌≡◌, ℕ, ◌+◌, ◌<◌, ◌≤◌, List, length, take, sym, ap, subst, arith}
use Rattle.sha2.specs.Sha256.{sha256}
use Rattle.hl_media.specs.History.{Image}
use Rattle.hl_media.proofs.Images.{area_same}
use Rattle.hl_super.specs.Labels as labels
use Rattle.hl_tree.specs.Rules.{Files}
use Rattle.hl_dump.specs.Dumps.{IsDump, dump_size}
use Rattle.hl_disk.specs.declared.record.DumpRecord.{DumpRecord}
use Rattle.hl_disk.specs.Records.{place_of, Spells}
use Rattle.hl_disk.specs.Disks.{start_of, blocks_of, dump_at, Stands, Checks, HasLabel, StandsFor, Holds}

-- the dump of a record is no longer than a half
pub short : (bytes : List ℕ) (r : DumpRecord) (tree : Files) → length bytes ≡ r.length → IsDump bytes tree → r.length ≤ 4194304
short bytes r tree whole dump =
    let size : length bytes ≡ dump_size tree = ap length dump.bytes in
    omega (arith, whole, size, dump.tree.short)

pub blocks_small : (size : ℕ) → size ≤ 4194304 → blocks_of size ≤ 1024
blocks_small size le = omega (arith, le)

module _ (a b : Image) (r : DumpRecord) (tree : Files) where
  -- a record checks in an image that has it and its dump
  pub checks_kept : Checks a r tree → b (place_of r.number) ≡ a (place_of r.number) → ((k : ℕ) → start_of r.number ≤ k → k < start_of r.number + 1024 → b k ≡ a k) → Checks b r tree
  checks_kept is place half =
      let small : blocks_of r.length ≤ 1024 = blocks_small r.length (short (dump_at a r) r tree is.whole is.dump) in
      let bytes : dump_at a r ≡ dump_at b r = sym (ap (take r.length) (area_same b a (start_of r.number) (blocks_of r.length) (λ k le lt. half k le (omega (arith, lt, small))))) in
      record {
        stands = subst (λ (block : List ℕ). Spells (place_of r.number) block r) (sym place) is.stands;
        whole = subst (λ (l : List ℕ). length l ≡ r.length) bytes is.whole;
        digest = subst (λ (l : List ℕ). sha256 l ≡ r.digest) bytes is.digest;
        dump = subst (λ (l : List ℕ). IsDump l tree) bytes is.dump;
      }

-- a label is kept
pub label_kept : (blocks : ℕ) (a b : Image) → HasLabel blocks a → b 0 ≡ a 0 → HasLabel blocks b
label_kept blocks a b label same = (label.0, subst (λ (block : List ℕ). labels.Spells blocks block label.0) (sym same) label.1)

-- an image that has the newest record, its dump and no newer record holds its tree
pub holds_by : (blocks : ℕ) (image : Image) (n : ℕ) (tree : Files) (r : DumpRecord) → HasLabel blocks image → r.number ≡ n → Checks image r tree → ((s : DumpRecord) → Stands image s → s.number ≤ n) → Holds blocks image n tree
holds_by blocks image n tree r label number checks last = record {
  stands = record { label = label; newest = r; number_is = number; checks = checks; others = λ s t c. last s c.stands };
  last = last;
}

pub holds_kept : (blocks n : ℕ) (tree : Files) (a b : Image) → StandsFor blocks a n tree → b 0 ≡ a 0 → b (place_of n) ≡ a (place_of n)
    → ((k : ℕ) → start_of n ≤ k → k < start_of n + 1024 → b k ≡ a k) → ((s : DumpRecord) → Stands b s → s.number ≤ n) → Holds blocks b n tree
holds_kept blocks n tree a b is label place half last =
    let back = sym is.number_is in
    let place2 : b (place_of is.newest.number) ≡ a (place_of is.newest.number) = subst (λ (m : ℕ). b (place_of m) ≡ a (place_of m)) back place in
    let half2 : (k : ℕ) → start_of is.newest.number ≤ k → k < start_of is.newest.number + 1024 → b k ≡ a k =
    subst (λ (m : ℕ). (k : ℕ) → start_of m ≤ k → k < start_of m + 1024 → b k ≡ a k) back half in
    holds_by blocks b n tree is.newest (label_kept blocks a b is.label label) is.number_is (checks_kept a b is.newest tree is.checks place2 half2) last
