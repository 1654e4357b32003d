-- What a stop leaves while the next record is written.
use Rattle.std.proofs.Common.{◌≡◌, ◌≢◌, ◌⊎◌, inl, inr, ⊎_elim, ℕ, ◌+◌, ◌*◌, ◌%◌, ◌/◌, ◌<◌, ◌≤◌, false, List, [], length, Option, Some, None, Result, OnOk, refl, sym, ◌∙◌, ap, subst, arith}
use Rattle.std.proofs.lemmas.Bool.{cases_eq, cases_lt}
use Rattle.std.proofs.Math.Nat.{mul-le-mul_left}
use Rattle.hl_media.specs.declared.failed.Failed.{Failed}
use Rattle.hl_media.specs.History.{Image, MachineState, History, IsUntouched}
use Rattle.hl_media.specs.Moments.{Runs, Ends}
use Rattle.hl_media.specs.Synced.{AddsSyncedWrite}
use Rattle.hl_media.proofs.Images.{overwritten_out}
use Rattle.hl_addr.specs.Layout.{Layout}
use Rattle.hl_super.specs.declared.record.Record.{Record}
use Rattle.hl_super.specs.Records.{Spells, record_in}
use Rattle.hl_super.proofs.RecordLemmas.{only}
use Rattle.hl_summary.specs.declared.parts.Summary.{Summary}
use Rattle.hl_image.specs.Places.{block_at, log_end}
use Rattle.hl_image.specs.Parts.{NoPart}
use Rattle.hl_image.specs.Chain.{Covers}
use Rattle.hl_image.specs.Newest.{label_of, home_of, IsRecordAt, IsNewest, number_of}
use Rattle.hl_image.specs.Chance.{NoChanceOf}
use Rattle.hl_image.proofs.PartLemmas.{no_part_zeros}
use Rattle.hl_image.proofs.ChainLemmas.{covers_in_log, covers_from}
use Rattle.hl_log.specs.declared.position.Position.{Position}
use Rattle.hl_log.specs.Rest.{AtHead, IsAtRest}
use Rattle.hl_log.specs.Checkpoints.{restarted, HasEither, KeepsBut, Records, HasRecorded}
use Rattle.hl_log.proofs.Steps
use Rattle.hl_log.proofs.Wraps.{pair_runs, pair_ends}

-- odd and even numbers have different blocks, one and two
pub homes : (n : ℕ) → ((home_of n ≡ 1) × (home_of (n + 1) ≡ 2)) ⊎ ((home_of n ≡ 2) × (home_of (n + 1) ≡ 1))
homes n = elim (cases_eq (n % 2) 0) [
  | inl even ↦ inr (omega arith, omega arith)
  | inr odd ↦ inl (omega arith, omega arith)
]

homes_differ : (n : ℕ) → home_of n ≢ home_of (n + 1)
homes_differ n e = ⊎_elim {C = ⊥} (λ a. (let x = a.0 in let y = a.1 in omega arith)) (λ b. (let x = b.0 in let y = b.1 in omega arith)) (homes n)

homes_again : (n : ℕ) → home_of (n + 1 + 1) ≡ home_of n
homes_again n = elim (cases_eq (n % 2) 0) [
  | inl even ↦ omega arith
  | inr odd ↦ omega arith
]

-- a block is one record
one_record : (g : Layout) (image : Image) (at : ℕ) (r t : Record) → IsRecordAt g image at r → IsRecordAt g image at t → r ≡ t
one_record g image at r t x y = sym (only at (label_of g) (image at) (record_in (image at)) refl r x) ∙ only at (label_of g) (image at) (record_in (image at)) refl t y

pub record_same : (g : Layout) (a b : Image) (at : ℕ) (r : Record) → b at ≡ a at → IsRecordAt g a at r → IsRecordAt g b at r
record_same g a b at r same is = subst (λ (l : List ℕ). Spells at (label_of g) l r) (sym same) is

-- images with the same record blocks
pub newest_same : (g : Layout) (a b : Image) (old : Option Record) → (b 1 ≡ a 1) → (b 2 ≡ a 2) → IsNewest g a old → IsNewest g b old
newest_same g a b None one two none = (λ r is. none.0 r (record_same g b a 1 r (sym one) is), λ r is. none.1 r (record_same g b a 2 r (sym two) is))
newest_same g a b (Some o) one two newest = record {
  here = record_same g a b (home_of o.number) o (home_same (home_of o.number) (is_home o.number)) newest.here;
  other = λ r is. newest.other r (record_same g b a (home_of (o.number + 1)) r (sym (home_same (home_of (o.number + 1)) (is_home (o.number + 1)))) is);
}
  where
    is_home : (n : ℕ) → (home_of n ≡ 1) ⊎ (home_of n ≡ 2)
    is_home n = ⊎_elim (λ x. inl x.0) (λ x. inr x.0) (homes n)

    home_same : (k : ℕ) → (k ≡ 1) ⊎ (k ≡ 2) → b k ≡ a k
    home_same k (inl e) = ap b e ∙ one ∙ ap a (sym e)
    home_same k (inr e) = ap b e ∙ two ∙ ap a (sym e)

module _ (g : Layout) (p : Position) (clean : List ℕ) (parts : List Summary) (s : MachineState) (rest : IsAtRest g p clean parts s) (fresh : p.fresh ≡ false) (three : 3 ≤ g.k)
    (old : Option Record) (new : Record) (newest : IsNewest g s.content old) (numbered : new.number ≡ number_of old + 1) (bytes : List ℕ) (one : length bytes ≡ 4096) (is : Spells (home_of new.number) (label_of g) bytes new) where
  abbrev at : ℕ
  at = home_of new.number

  blocks : length bytes / 4096 ≡ 1
  blocks = omega arith

  outside : (k : ℕ) → k ≢ at → (k < at) ⊎ (at + length bytes / 4096 ≤ k)
  outside k differ = elim (cases_lt k at) [ inl lt ↦ inl lt | inr le ↦ inr (omega (arith, blocks)) ]

  -- the same blocks but the record's
  abbrev Same : Image → Type 0
  Same image = KeepsBut at s image

  pub same_torn : (image : Image) → Steps.Torn s at bytes image → Same image
  same_torn image torn k differ un = torn k (outside k differ) un

  untouched_log : (k : ℕ) → k < log_end g → IsUntouched s.pending k
  untouched_log k lt = Steps.untouched g p clean parts s rest k lt

  low : (k : ℕ) → k < 3 → k < log_end g
  low k lt = omega (arith, three)

  head_high : g.k ≤ block_at g p.head
  head_high = (let m : g.k * 1 ≤ g.k * p.head.seg = mul-le-mul_left g.k rest.head.low in omega arith)

  at_low : at < 3
  at_low = ⊎_elim (λ a. (let x = a.0 in omega arith)) (λ b. (let x = b.0 in omega arith)) (homes new.number)

  agrees : (image : Image) → Same image → (k : ℕ) → Covers g p.start parts k → image k ≡ s.content k
  agrees image same k covers =
      let lo = covers_from g s.content p.start p.first parts rest.start rest.walk k covers in
      same k (λ e. omega (arith, three, at_low)) (untouched_log k (covers_in_log g s.content p.start p.first parts rest.start rest.walk k covers))

  none_at_head : (image : Image) → Same image → NoPart g image p.head p.serial
  none_at_head image same =
      let e : image (block_at g p.head) ≡ s.content (block_at g p.head) =
      same (block_at g p.head) (λ e. (let h = head_high in omega (arith, three, at_low))) (untouched_log (block_at g p.head) (Steps.head_in_log g p clean parts s rest)) in
      no_part_zeros g image p.head p.serial (e ∙ subst (AtHead g p parts s.content) fresh rest.at_head)

  -- the record's block aside, the record blocks are as they were
  record_kept : (image : Image) → Same image → (k : ℕ) → k < 3 → k ≢ at → image k ≡ s.content k
  record_kept image same k lt differ = same k differ (untouched_log k (low k lt))

  other_low : (n : ℕ) → home_of n < 3
  other_low n = ⊎_elim (λ a. (let x = a.0 in omega arith)) (λ b. (let x = b.0 in omega arith)) (homes n)

  pub has_new : (image : Image) → Same image → image at ≡ bytes → IsNewest g image (Some new)
  has_new image same there = record {
    here = subst (λ (l : List ℕ). Spells at (label_of g) l new) (sym there) is;
    other = λ r e.
        let differ : home_of (new.number + 1) ≢ at = λ x. homes_differ new.number (sym x) in
        let kept : image (home_of (new.number + 1)) ≡ s.content (home_of (new.number + 1)) = record_kept image same (home_of (new.number + 1)) (other_low (new.number + 1)) differ in
        before old newest numbered r (record_same g image s.content (home_of (new.number + 1)) r (sym kept) e);
  }
    where
      before : (o : Option Record) → IsNewest g s.content o → new.number ≡ number_of o + 1 → (r : Record) → IsRecordAt g s.content (home_of (new.number + 1)) r → r.number < new.number
      before None none number r is_r = ⊎_elim
          (λ a. absurd (none.1 r (subst (λ (k : ℕ). IsRecordAt g s.content k r) a.1 is_r)))
          (λ b. absurd (none.0 r (subst (λ (k : ℕ). IsRecordAt g s.content k r) b.1 is_r)))
          (homes new.number)
      before (Some o) newest number r is_r =
          let place : home_of (new.number + 1) ≡ home_of o.number = ap (λ (n : ℕ). home_of (n + 1)) number ∙ homes_again o.number in
          let same : r ≡ o = one_record g s.content (home_of o.number) r o (subst (λ (k : ℕ). IsRecordAt g s.content k r) place is_r) newest.here in
          let e : r.number ≡ o.number = ap (λ (x : Record). x.number) same in
          omega arith

  pub has_old : (image : Image) → Same image → ((r : Record) → IsRecordAt g image at r → r.number < new.number) → IsNewest g image old
  has_old image same none = by_old old newest numbered
    where
      none_at : (k : ℕ) → k < 3 → ((r : Record) → IsRecordAt g s.content k r → ⊥) → new.number ≡ 1 → (r : Record) → IsRecordAt g image k r → ⊥
      none_at k lt before number r is_r = elim (cases_eq k at) [
        | inl here ↦ (let lt = none r (subst (λ (n : ℕ). IsRecordAt g image n r) here is_r) in omega (arith, is_r.value.ranges.number))
        | inr elsewhere ↦ before r (record_same g image s.content k r (sym (record_kept image same k lt elsewhere)) is_r)
      ]

      by_old : (o : Option Record) → IsNewest g s.content o → new.number ≡ number_of o + 1 → IsNewest g image o
      by_old None before number = (none_at 1 (omega arith) before.0 number, none_at 2 (omega arith) before.1 number)
      by_old (Some o) before number =
          let place : home_of (o.number + 1) ≡ at = ap home_of (sym number) in
          let differ : home_of o.number ≢ at = λ e. homes_differ o.number (e ∙ sym place) in
          let kept : image (home_of o.number) ≡ s.content (home_of o.number) = record_kept image same (home_of o.number) (other_low o.number) differ in
          record {
            here = record_same g s.content image (home_of o.number) o kept before.here;
            other = λ r is_r.
                let lt = none r (subst (λ (k : ℕ). IsRecordAt g image k r) place is_r) in
                let parity : home_of r.number ≡ home_of (o.number + 1) = is_r.value.ranges.parity in
                less r lt parity;
          }
        where
          less : (r : Record) → r.number < new.number → home_of r.number ≡ home_of (o.number + 1) → r.number < o.number
          less r lt parity = elim (cases_eq r.number o.number) [
            | inl e ↦ absurd (homes_differ o.number (ap home_of (sym e) ∙ parity))
            | inr differ ↦ omega arith
          ]

  pub either : (image : Image) → Same image → (image at ≡ bytes) ⊎ ((r : Record) → IsRecordAt g image at r → r.number < new.number) → HasEither g p old new parts image
  either image same chance = ⊎_elim
      (λ whole. inr (has_new image same whole, record { walk = tt; last = (let e : p.serial ≡ p.serial + 0 = omega arith in subst (NoPart g image p.head) e (none_at_head image same)) }))
      (λ none. inl (has_old image same none, Steps.has_none g p clean parts s rest image (agrees image same) (none_at_head image same)))
      chance

  pub torn_either : (image : Image) → Steps.Torn s at bytes image → NoChanceOf g p.start p.first (Steps.pending_of s at bytes) image → HasEither g p old new parts image × KeepsBut at s image
  torn_either image torn chance = (either image (same_torn image torn) (chance.entry new is), same_torn image torn)

  pub now_same : KeepsBut at s (Steps.synced s at bytes).content
  now_same k differ un = overwritten_out s.content at (length bytes / 4096) bytes k (outside k differ)

  pub first_either : (image : Image) → ((k : ℕ) → k < log_end g → image k ≡ s.content k) → HasEither g p old new parts image
  first_either image same = inl (newest_same g s.content image old (same 1 (low 1 (omega arith))) (same 2 (low 2 (omega arith))) newest, Steps.has_same g p clean parts s rest image same)

  pub after : IsAtRest g (restarted p) clean [] (Steps.synced s at bytes)
  after = record {
    quiet = tt;
    start = rest.head;
    head = rest.head;
    cleans = rest.cleans;
    walk = tt;
    head_is = refl;
    serial_is = omega arith;
    behind = λ b none is_free. none;
    at_head = now_same (block_at g p.head) (λ e. (let h = head_high in omega (arith, three, at_low))) (untouched_log (block_at g p.head) (Steps.head_in_log g p clean parts s rest)) ∙ subst (AtHead g p parts s.content) fresh rest.at_head;
  }

  pub now_newest : IsNewest g (Steps.synced s at bytes).content (Some new)
  now_newest = has_new (Steps.synced s at bytes).content now_same (Steps.one_there s.content at bytes one)

  pub synced_either : (image : Image) → ((k : ℕ) → image k ≡ (Steps.synced s at bytes).content k) → HasEither g p old new parts image × KeepsBut at s image
  synced_either image may =
      let same : KeepsBut at s image = λ k differ un. may k ∙ now_same k differ un in
      (either image same (inl (may at ∙ Steps.one_there s.content at bytes one)), same)

module _ (g : Layout) (before now : Option History) (p : Position) (fresh : p.fresh ≡ false) (three : 3 ≤ g.k) (new : Record) (bytes : List ℕ) (one : length bytes ≡ 4096) (is : Spells (home_of new.number) (label_of g) bytes new)
    (r : Result (Unit {0}) Failed) (adds : AddsSyncedWrite before now (home_of new.number) bytes r) where
  pub record_runs : Runs before now (Records g p new)
  record_runs = pair_runs before now (home_of new.number) bytes r adds (Records g p new)
      (λ s clean parts old rest newest numbered image may chance. (
        first_either g p clean parts s rest fresh three old new newest numbered bytes one is image (λ k lt. may k (Steps.untouched g p clean parts s rest k lt)),
        λ k differ un. may k un,
      ))
      (λ s clean parts old rest newest numbered image may chance. torn_either g p clean parts s rest fresh three old new newest numbered bytes one is image (Steps.torn_during s (home_of new.number) bytes [] image may) chance.0)
      (λ s later clean parts old rest newest numbered image may chance. torn_either g p clean parts s rest fresh three old new newest numbered bytes one is image (Steps.torn_after s (home_of new.number) bytes later image may) chance.0)
      (λ s clean parts old rest newest numbered image may chance. synced_either g p clean parts s rest fresh three old new newest numbered bytes one is image (λ k. may k tt))

  pub record_ends : OnOk r (Ends before now (HasRecorded g p new))
  record_ends = pair_ends before now (home_of new.number) bytes r adds (HasRecorded g p new)
      (λ s clean parts old rest newest numbered. (
        after g p clean parts s rest fresh three old new newest numbered bytes one is,
        now_newest g p clean parts s rest fresh three old new newest numbered bytes one is,
        now_same g p clean parts s rest fresh three old new newest numbered bytes one is,
      ))
