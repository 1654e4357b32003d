-- What a stop leaves in each stage of a save.
use Rattle.std.proofs.Common.{◌≡◌, ◌≢◌, ◌⊎◌, inl, inr, ⊎_elim, ℕ, ◌+◌, ◌-◌, ◌/◌, ◌<◌, ◌≤◌, ◌^◌, true, List, [], length, take, refl, sym, ◌∙◌, ap, subst, arith}
use Rattle.std.proofs.lemmas.Bool.{cases_lt}
use Rattle.std.proofs.lemmas.List.{length-take-le}
use Rattle.sha2.specs.Sha256.{sha256}
use Rattle.hl_bytes.proofs.Seals.{length-sha256}
use Rattle.hl_bytes.specs.Buffers.{block_of}
use Rattle.hl_media.specs.History.{Image, area, overwritten, IsWhole, IsUntouched, PendingWrite, MachineState, begun, ended}
use Rattle.hl_media.specs.History.DeviceCall.{Write, Sync}
use Rattle.hl_media.proofs.Images.{overwritten_in, overwritten_out, area_same, area_overwritten, block_of_one}
use Rattle.hl_tree.specs.Rules.{Files}
use Rattle.hl_dump.specs.Dumps.{IsDump}
use Rattle.hl_disk.specs.declared.record.DumpRecord.{DumpRecord}
use Rattle.hl_disk.specs.Records.{place_of, Spells, record_bytes}
use Rattle.hl_disk.specs.Disks.{start_of, blocks_of, dump_at, Stands, StandsFor, Holds}
use Rattle.hl_disk.specs.Stops.{NoChanceOf, IsSettled}
use Rattle.hl_disk.specs.Saves.{HoldsEither, IsSaving}
use Rattle.hl_disk.specs.Packs.{IsPacked}
use Rattle.hl_disk.proofs.RecordLemmas.{once}
use Rattle.hl_disk.proofs.Places.{place_low, place_high, places_differ, place_of_two, start_low, halves}
use Rattle.hl_disk.proofs.Kept.{short, blocks_small, label_kept, holds_by, holds_kept}

module _ (blocks n : ℕ) (new_tree : Files) (r : DumpRecord) (bytes block : List ℕ) (packed : IsPacked (n + 1) new_tree r bytes) (low : n < 2 ^ 64 - 1)
    (is_block : length block ≡ 4096) (spelled : block ≡ record_bytes r) where
  pub whole : IsWhole bytes
  whole = omega (arith, packed.size)

  count : length bytes / 4096 ≡ blocks_of r.length
  count = omega (arith, packed.size)

  length_small : r.length ≤ 4194304
  length_small = short (take r.length bytes) r new_tree (length-take-le r.length bytes packed.fits) packed.dump

  pub small : length bytes / 4096 ≤ 1024
  small = omega (arith, count, blocks_small r.length length_small)

  -- the block spells the record
  spells : Spells (place_of (n + 1)) block r
  spells = record {
    value = record {
      number = omega (arith, packed.number_is);
      parity = ap place_of packed.number_is;
      number_fits = omega (arith, packed.number_is, low);
      length_fits = omega (arith, length_small);
      digest = ap length (sym packed.digest) ∙ length-sha256 (take r.length bytes);
    };
    bytes = spelled;
  }

  module _ (first : MachineState) where
    abbrev pub P : MachineState → Type 0
    P = IsSaving blocks n new_tree first

    -- after the dump, its sync, the record, its sync
    abbrev pub s1 : MachineState
    s1 = ended first (Write (start_of (n + 1)) bytes bytes)

    abbrev pub s2 : MachineState
    s2 = ended s1 (Sync true)

    abbrev pub s3 : MachineState
    s3 = ended s2 (Write (place_of (n + 1)) block block)

    abbrev pub s4 : MachineState
    s4 = ended s3 (Sync true)

    abbrev IsOutside : ℕ → Type 0
    IsOutside k = (k < start_of (n + 1)) ⊎ (start_of (n + 1) + length bytes / 4096 ≤ k)

    front : (k : ℕ) → k ≤ 2 → IsOutside k
    front k le = inl (omega (arith, start_low (n + 1)))

    other_half : (k : ℕ) → start_of n ≤ k → k < start_of n + 1024 → IsOutside k
    other_half k le lt = ⊎_elim (λ below. inl below) (λ above. inr (omega (arith, above, small))) (halves n k le lt)

    -- outside the new dump the image is the one from before
    keeps : (tree : Files) → Holds blocks first.content n tree → (image : Image) → ((k : ℕ) → IsOutside k → image k ≡ first.content k) → Holds blocks image n tree
    keeps tree holds image same = holds_kept blocks n tree first.content image holds.stands (same 0 (front 0 (omega arith))) (same (place_of n) (front (place_of n) (place_high n)))
        (λ k le lt. same k (other_half k le lt))
        (λ s stands. holds.last s (subst (λ (b : List ℕ). Spells (place_of s.number) b s) (same (place_of s.number) (front (place_of s.number) (place_high s.number))) stands))

    -- nothing else is pending
    untouched : (tree : Files) → IsSettled blocks n tree first → (k : ℕ) → IsUntouched first.pending k
    untouched tree settled k = subst (λ (ws : List PendingWrite). IsUntouched ws k) (sym settled.synced) tt

    pub at_start : P first
    at_start = record { said = refl; leaves = λ tree settled image may chance. inl (keeps tree settled.holds image (λ k outside. may k (untouched tree settled k))) }

    pub during_dump : P (begun first (Write (start_of (n + 1)) bytes []))
    during_dump = record { said = refl; leaves = λ tree settled image may chance. inl (keeps tree settled.holds image (λ k outside. may k (outside, untouched tree settled k))) }

    pub after_dump : (after : List ℕ) → P (ended first (Write (start_of (n + 1)) bytes after))
    after_dump after = record {
      said = refl;
      leaves = λ tree settled image may chance. inl (keeps tree settled.holds image
          (λ k outside. may k (outside, untouched tree settled k) ∙ overwritten_out first.content (start_of (n + 1)) (length bytes / 4096) after k outside));
    }

    pub staged : P s2
    staged = record {
      said = refl;
      leaves = λ tree settled image may chance. inl (keeps tree settled.holds image
          (λ k outside. may k tt ∙ overwritten_out first.content (start_of (n + 1)) (length bytes / 4096) bytes k outside));
    }

    abbrev new : Image
    new = overwritten first.content (start_of (n + 1)) (length bytes / 4096) bytes

    new_front : (k : ℕ) → k ≤ 2 → new k ≡ first.content k
    new_front k le = overwritten_out first.content (start_of (n + 1)) (length bytes / 4096) bytes k (front k le)

    not_place : (k : ℕ) → 3 ≤ k → k ≢ place_of (n + 1)
    not_place k le same = omega (arith, le, same, place_high (n + 1))

    not_zero : 0 ≢ place_of (n + 1)
    not_zero same = omega (arith, same, place_low (n + 1))

    module _ (image : Image) (same : (k : ℕ) → k ≢ place_of (n + 1) → image k ≡ new k) where
      label_same : image 0 ≡ first.content 0
      label_same = same 0 not_zero ∙ new_front 0 (omega arith)

      -- the block of the record from before
      old_place : image (place_of n) ≡ first.content (place_of n)
      old_place = same (place_of n) (places_differ n) ∙ new_front (place_of n) (place_high n)

      -- a record that stands is of one of the two blocks
      either_record : (s : DumpRecord) → Stands image s → Spells (place_of n) (first.content (place_of n)) s ⊎ Spells (place_of (n + 1)) (image (place_of (n + 1))) s
      either_record s stands = elim (place_of_two s.number n) [
        | inl here ↦ inl (subst (λ (b : List ℕ). Spells (place_of n) b s) old_place (subst (λ (p : ℕ). Spells p (image p) s) here stands))
        | inr there ↦ inr (subst (λ (p : ℕ). Spells p (image p) s) there stands)
      ]

      new_bytes : dump_at image r ≡ take r.length bytes
      new_bytes =
          let start : start_of r.number ≡ start_of (n + 1) = ap start_of packed.number_is in
          let here : area image (start_of (n + 1)) (length bytes / 4096) ≡ bytes =
          area_same image new (start_of (n + 1)) (length bytes / 4096) (λ k le lt. same k (not_place k (omega (arith, le, start_low (n + 1)))))
          ∙ area_overwritten first.content (start_of (n + 1)) bytes whole in
          ap (take r.length) (ap (λ (k : ℕ). area image k (blocks_of r.length)) start ∙ ap (area image (start_of (n + 1))) (sym count) ∙ here)

      -- with the new record whole
      has_new : (tree : Files) → StandsFor blocks first.content n tree → image (place_of (n + 1)) ≡ block → Holds blocks image (n + 1) new_tree
      has_new tree stands at =
          let place : place_of r.number ≡ place_of (n + 1) = ap place_of packed.number_is in
          let spelled_there : Spells (place_of (n + 1)) (image (place_of (n + 1))) r = subst (λ (b : List ℕ). Spells (place_of (n + 1)) b r) (sym at) spells in
          holds_by blocks image (n + 1) new_tree r (label_kept blocks first.content image stands.label label_same) packed.number_is
          (record {
            stands = subst (λ (p : ℕ). Spells p (image p) r) (sym place) spelled_there;
            whole = ap length new_bytes ∙ length-take-le r.length bytes packed.fits;
            digest = ap sha256 new_bytes ∙ packed.digest;
            dump = subst (λ (l : List ℕ). IsDump l new_tree) (sym new_bytes) packed.dump;
          })
          (λ s there. ⊎_elim
          (λ before. no_newer stands s before)
          (λ here. (let one : s ≡ r = once (place_of (n + 1)) (image (place_of (n + 1))) s r here spelled_there in
          let number : s.number ≡ r.number = ap (λ (v : DumpRecord). v.number) one in
          omega (arith, number, packed.number_is)))
          (either_record s there))
        where
          no_newer : (stands : StandsFor blocks first.content n tree) (s : DumpRecord) → Spells (place_of n) (first.content (place_of n)) s → s.number ≤ n + 1
          no_newer stands s before =
              let mine : Spells (place_of n) (first.content (place_of n)) stands.newest = subst (λ (m : ℕ). Spells (place_of m) (first.content (place_of m)) stands.newest) stands.number_is stands.checks.stands in
              let one : s ≡ stands.newest = once (place_of n) (first.content (place_of n)) s stands.newest before mine in
              let number : s.number ≡ stands.newest.number = ap (λ (v : DumpRecord). v.number) one in
              omega (arith, number, stands.number_is)

      -- with no record as new as the new one
      has_old : (tree : Files) → Holds blocks first.content n tree → ((s : DumpRecord) → Spells (place_of (n + 1)) (image (place_of (n + 1))) s → s.number < n + 1) → Holds blocks image n tree
      has_old tree holds none = holds_kept blocks n tree first.content image holds.stands label_same old_place
          (λ k le lt. same k (not_place k (omega (arith, le, start_low n)))
          ∙ overwritten_out first.content (start_of (n + 1)) (length bytes / 4096) bytes k (other_half k le lt))
          (λ s stands. ⊎_elim
          (λ before. holds.last s (old_stands s before))
          (λ here. let lt = none s here in omega (arith, lt))
          (either_record s stands))
        where
          old_stands : (s : DumpRecord) → Spells (place_of n) (first.content (place_of n)) s → Stands first.content s
          old_stands s before = subst (λ (p : ℕ). Spells p (first.content p) s) (sym before.value.parity) before

    -- a record's write is of one block
    one : length block / 4096 ≡ 1
    one = omega (arith, is_block)

    apart : (k : ℕ) → k ≢ place_of (n + 1) → (k < place_of (n + 1)) ⊎ (place_of (n + 1) + length block / 4096 ≤ k)
    apart k differ = elim (cases_lt k (place_of (n + 1))) [ inl lt ↦ inl lt | inr le ↦ inr (omega (arith, one)) ]

    -- while the new record isn't synced
    either : (tree : Files) → IsSettled blocks n tree first → (image : Image) → ((k : ℕ) → k ≢ place_of (n + 1) → image k ≡ new k)
        → NoChanceOf blocks (record { at = place_of (n + 1); bytes = block; before = new }) image → HoldsEither blocks n tree new_tree image
    either tree settled image same chance = ⊎_elim
        (λ written. inr (has_new image same tree settled.holds.stands written))
        (λ none. inl (has_old image same tree settled.holds (λ s is. let lt = none s is in omega (arith, lt, packed.number_is))))
        (chance.record_write r spells)

    pub during_record : P (begun s2 (Write (place_of (n + 1)) block []))
    during_record = record { said = refl; leaves = λ tree settled image may chance. either tree settled image (λ k differ. may k (apart k differ, tt)) chance.0 }

    pub after_record : (after : List ℕ) → P (ended s2 (Write (place_of (n + 1)) block after))
    after_record after = record {
      said = refl;
      leaves = λ tree settled image may chance. either tree settled image
          (λ k differ. may k (apart k differ, tt) ∙ overwritten_out new (place_of (n + 1)) (length block / 4096) after k (apart k differ)) chance.0;
    }

    same_last : (k : ℕ) → k ≢ place_of (n + 1) → s4.content k ≡ new k
    same_last k differ = overwritten_out new (place_of (n + 1)) (length block / 4096) block k (apart k differ)

    at_last : s4.content (place_of (n + 1)) ≡ block
    at_last =
        let e : place_of (n + 1) - place_of (n + 1) ≡ 0 = omega arith in
        overwritten_in new (place_of (n + 1)) (length block / 4096) block (place_of (n + 1)) (omega arith) (omega (arith, one))
        ∙ ap (block_of block) e ∙ block_of_one block is_block

    pub holds_last : (tree : Files) → StandsFor blocks first.content n tree → IsSettled blocks (n + 1) new_tree s4
    holds_last tree stands = record { synced = refl; holds = has_new s4.content same_last tree stands at_last }

    pub last : P s4
    last = record {
      said = refl;
      leaves = λ tree settled image may chance. inr (has_new image (λ k differ. may k tt ∙ same_last k differ) tree settled.holds.stands (may (place_of (n + 1)) tt ∙ at_last));
    }
