-- What a stop leaves in each stage of making a disk.
use Rattle.std.proofs.Common.{◌≡◌, ◌⊎◌, inl, inr, ⊎_elim, ℕ, ◌+◌, ◌-◌, ◌/◌, ◌<◌, ◌≤◌, true, List, [], length, get_or, refl, sym, ◌∙◌, ap, subst, arith, lit≤}
use Rattle.hl_bytes.specs.Fields.{le32}
use Rattle.hl_bytes.proofs.PageLemmas.{take-page}
use Rattle.hl_bytes.specs.Buffers.{block_of}
use Rattle.hl_media.specs.History.{Image, MachineState, begun, ended}
use Rattle.hl_media.specs.History.DeviceCall.{Write, Sync}
use Rattle.hl_media.proofs.Images.{overwritten_in, overwritten_out, block_of_one}
use Rattle.hl_super.specs.declared.label.Label.{Label}
use Rattle.hl_super.specs.Labels as labels
use Rattle.hl_tree.specs.Tree.{root_alone}
use Rattle.hl_disk.specs.declared.record.DumpRecord.{DumpRecord}
use Rattle.hl_disk.specs.Records.{Spells}
use Rattle.hl_disk.specs.Disks.{HasLabel, Holds}
use Rattle.hl_disk.specs.Stops.{StopLeaves, IsSettled}
use Rattle.hl_disk.specs.Formats.{IsNew}
use Rattle.hl_disk.specs.Parts.{AreParts, first_record}
use Rattle.hl_disk.proofs.RecordLemmas.{once, first_is, first_of_take}
use Rattle.hl_disk.proofs.Places.{place_cases}
use Rattle.hl_disk.proofs.Kept.{holds_by}
use Rattle.hl_disk.proofs.Root.{root_dump}

-- a label begins with an H
label_first : (blocks : ℕ) (block : List ℕ) (v : Label) → labels.Spells blocks block v → get_or block 0 0 ≡ 72
unfolding labels.label_bytes le32
label_first blocks block v p = sym (first_of_take 23 block) ∙ ap (λ (l : List ℕ). get_or l 0 0) (take-page block (labels.label_fields v) 24 p.bytes refl (lit≤ tt))

-- a block that begins with a zero is no label
pub no_label : (blocks : ℕ) (image : Image) → get_or (image 0) 0 0 ≡ 0 → HasLabel blocks image → ⊥
no_label blocks image zero label =
    let e : get_or (image 0) 0 0 ≡ 72 = label_first blocks (image 0) label.0 label.1 in
    omega (arith, zero, e)

-- an image with the record of the empty dump, a label, and no other record holds the root alone
pub holds_root : (blocks : ℕ) (image : Image) → HasLabel blocks image → Spells 1 (image 1) first_record → get_or (image 2) 0 0 ≡ 0 → Holds blocks image 1 root_alone
holds_root blocks image label spelled zero =
    holds_by blocks image 1 root_alone first_record label refl
    (record { stands = spelled; whole = refl; digest = refl; dump = root_dump })
    (λ s stands. ⊎_elim
    (λ here. (let same : s ≡ first_record = once 1 (image 1) s first_record (subst (λ (p : ℕ). Spells p (image p) s) here stands) spelled in
    let number : s.number ≡ 1 = ap (λ (v : DumpRecord). v.number) same in
    omega (arith, number)))
    (λ there. (let e : get_or (image 2) 0 0 ≡ 72 = first_is 2 (image 2) s (subst (λ (p : ℕ). Spells p (image p) s) there stands) in
    absurd (omega (arith, e, zero))))
    (place_cases s.number))

module _ (blocks : ℕ) (Z R L : List ℕ) (parts : AreParts blocks Z R L) (s : MachineState) where
  abbrev pub Q : MachineState → Type 0
  Q = StopLeaves blocks (IsNew blocks)

  -- after the zeros, the record, the label, each with its sync
  abbrev pub cleared : MachineState
  cleared = ended (ended s (Write 0 Z Z)) (Sync true)

  abbrev pub recorded : MachineState
  recorded = ended (ended cleared (Write 1 R R)) (Sync true)

  abbrev pub made : MachineState
  made = ended (ended recorded (Write 0 L L)) (Sync true)

  zero_at : (k : ℕ) → k < 3 → get_or (cleared.content k) 0 0 ≡ 0
  zero_at k lt =
      let e : k - 0 ≡ k = omega arith in
      ap (λ (b : List ℕ). get_or b 0 0) (overwritten_in s.content 0 (length Z / 4096) Z k (omega arith) (omega (arith, lt, parts.three)) ∙ ap (block_of Z) e) ∙ parts.zero k lt

  one_record : length R / 4096 ≡ 1
  one_record = omega (arith, parts.first_block)

  one_label : length L / 4096 ≡ 1
  one_label = omega (arith, parts.label_block)

  -- while block 0 is as it was cleared there is no label
  blank : (image : Image) → image 0 ≡ cleared.content 0 → IsNew blocks image
  blank image same = inl (no_label blocks image (ap (λ (b : List ℕ). get_or b 0 0) same ∙ zero_at 0 (omega arith)))

  pub at_cleared : Q cleared
  at_cleared image may chance = blank image (may 0 tt)

  pub during_record : Q (begun cleared (Write 1 R []))
  during_record image may chance = blank image (may 0 (inl (omega arith), tt))

  pub after_record : (after : List ℕ) → Q (ended cleared (Write 1 R after))
  after_record after image may chance = blank image (may 0 (inl (omega arith), tt) ∙ overwritten_out cleared.content 1 (length R / 4096) after 0 (inl (omega arith)))

  pub at_recorded : Q recorded
  at_recorded image may chance = blank image (may 0 tt ∙ overwritten_out cleared.content 1 (length R / 4096) R 0 (inl (omega arith)))

  record_there : recorded.content 1 ≡ R
  record_there =
      let e : 1 - 1 ≡ 0 = omega arith in
      overwritten_in cleared.content 1 (length R / 4096) R 1 (omega arith) (omega (arith, one_record)) ∙ ap (block_of R) e ∙ block_of_one R parts.first_block

  second_zero : get_or (recorded.content 2) 0 0 ≡ 0
  second_zero = ap (λ (b : List ℕ). get_or b 0 0) (overwritten_out cleared.content 1 (length R / 4096) R 2 (inr (omega (arith, one_record)))) ∙ zero_at 2 (omega arith)

  -- with the label whole
  has_root : (image : Image) → image 0 ≡ L → ((k : ℕ) → 1 ≤ k → image k ≡ recorded.content k) → Holds blocks image 1 root_alone
  has_root image first rest = holds_root blocks image (parts.value, subst (λ (b : List ℕ). labels.Spells blocks b parts.value) (sym first) parts.label_is)
      (subst (λ (b : List ℕ). Spells 1 b first_record) (sym (rest 1 (omega arith) ∙ record_there)) parts.first_is)
      (ap (λ (b : List ℕ). get_or b 0 0) (rest 2 (omega arith)) ∙ second_zero)

  behind : (k : ℕ) → 1 ≤ k → (k < 0) ⊎ (0 + length L / 4096 ≤ k)
  behind k le = inr (omega (arith, one_label))

  either : (image : Image) → ((k : ℕ) → 1 ≤ k → image k ≡ recorded.content k) → (image 0 ≡ L) ⊎ (HasLabel blocks image → ⊥) → IsNew blocks image
  either image rest chance = ⊎_elim (λ whole. inr (has_root image whole rest)) (λ none. inl none) chance

  pub during_label : Q (begun recorded (Write 0 L []))
  during_label image may chance = either image (λ k le. may k (behind k le, tt)) (chance.0.label_write parts.value refl parts.label_is)

  pub after_label : (after : List ℕ) → Q (ended recorded (Write 0 L after))
  after_label after image may chance = either image (λ k le. may k (behind k le, tt) ∙ overwritten_out recorded.content 0 (length L / 4096) after k (behind k le)) (chance.0.label_write parts.value refl parts.label_is)

  label_there : made.content 0 ≡ L
  label_there =
      let e : 0 - 0 ≡ 0 = omega arith in
      overwritten_in recorded.content 0 (length L / 4096) L 0 (omega arith) (omega (arith, one_label)) ∙ ap (block_of L) e ∙ block_of_one L parts.label_block

  kept : (k : ℕ) → 1 ≤ k → made.content k ≡ recorded.content k
  kept k le = overwritten_out recorded.content 0 (length L / 4096) L k (behind k le)

  pub at_made : Q made
  at_made image may chance = inr (has_root image (may 0 tt ∙ label_there) (λ k le. may k tt ∙ kept k le))

  pub settled : IsSettled blocks 1 root_alone made
  settled = record { synced = refl; holds = has_root made.content label_there kept }
