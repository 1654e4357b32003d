-- How the parts of a mount are put together.
use Rattle.std.proofs.Common.{◌≡◌, ◌↔◌, inl, inr, ⊎_elim, ℕ, ◌+◌, ◌*◌, List, ◌++◌, length, Option, Some, None, Result, Ok, Err, refl, sym, ◌∙◌, ap, subst, arith}
use Rattle.std.specs.Prelude.{IsNone, IsTrue, IfSome, is_some}
use Rattle.std.specs.Option.{ForSome}
use Rattle.std.proofs.lemmas.Bool.{cases_eq}
use Rattle.sha2.specs.Sha256.{sha256}
use Rattle.hl_media.specs.History.{Image, MachineState, History, HoldsAt, area, content, state_now, with_calls}
use Rattle.hl_media.proofs.Images.{area_holds, block_of_one}
use Rattle.hl_media.proofs.Runs.{goes_on, ends_of_run}
use Rattle.hl_super.specs.declared.label.Label.{Label}
use Rattle.hl_super.specs.Labels as labels
use Rattle.hl_tree.specs.declared.call.Limits.{Limits}
use Rattle.hl_tree.specs.PlainValue.{Plain}
use Rattle.hl_tree.specs.Rules.{Files}
use Rattle.hl_dump.specs.Dumps.{IsDump, dump_limits}
use Rattle.hl_disk.specs.declared.mounting.Mounted.{Mounted}
use Rattle.hl_disk.specs.declared.mounting.MountError.{MountError}
use Rattle.hl_disk.specs.declared.mounting.MountError.TheVariants.{NoLabel, NoRecord, DiskFault, Memory}
use Rattle.hl_disk.specs.declared.record.DumpRecord.{DumpRecord}
use Rattle.hl_disk.specs.Disks.{HasLabel, Stands, Checks, dump_at}
use Rattle.hl_disk.specs.Mounts.{Mounts}
use Rattle.hl_disk.specs.Records.{Spells}
use Rattle.hl_disk.specs.Reads.{OnlyReads, FindsRecord, IsDumpOf, IsRead, GivesTree, Takes, IsOneOf, PicksTree, Picks, IsOrdered}
use Rattle.hl_disk.proofs.Places.{place_cases}

-- reads, and then more reads
pub reads_then : (before mid now : Option History) → OnlyReads before mid → OnlyReads mid now → OnlyReads before now
reads_then before mid now first next = goes_on before mid now (λ first s. s ≡ first) (λ first s. s ≡ first) (λ first s. s ≡ first)
    first (ends_of_run before mid (λ first s. s ≡ first) first) next (λ a b s e f. f ∙ e)

-- what is seen after reads was there before
pub seen_before : (before now : Option History) (P : Image → Type 0) → OnlyReads before now → ForSome now (λ h. P (content h)) → ForSome before (λ h. P (content h))
seen_before before now P run later h e =
    let h' : History = record { opening = h.opening; calls = h.calls ++ run.calls } in
    let told : now ≡ Some h' = run.is ∙ ap (with_calls run.calls) e in
    let same : state_now h' ≡ state_now h = ends_of_run before now (λ first s. s ≡ first) run h e h' told in
    subst P (ap (λ (s : MachineState). s.content) same) (later h' told)

-- a block that was read
pub block_read : (image : Image) (at : ℕ) (block : List ℕ) → length block ≡ 4096 → HoldsAt image at block → image at ≡ block
block_read image at block size holds =
    let e : at ≡ at + 0 = omega arith in
    ap image e ∙ holds 0 (omega (arith, size)) ∙ block_of_one block size

-- blocks that were read
pub blocks_read : (image : Image) (start count : ℕ) (bytes : List ℕ) → length bytes ≡ 4096 * count → HoldsAt image start bytes → area image start count ≡ bytes
blocks_read image start count bytes size holds = area_holds image start count bytes size (λ k lt. holds k (omega (arith, lt, size)))

-- whether a label is found
pub label_found : (blocks : ℕ) (image : Image) (block : List ℕ) (o : Option Label) → image 0 ≡ block → ((v : Label) → (o ≡ Some v) ↔ labels.Spells blocks block v) → IsTrue (is_some o) ↔ HasLabel blocks image
label_found blocks image block None same found = (λ t. cc, λ label. (let e = (found label.0).1 (subst (λ (b : List ℕ). labels.Spells blocks b label.0) same label.1) in cc))
label_found blocks image block (Some v) same found = (λ t. (v, subst (λ (b : List ℕ). labels.Spells blocks b v) (sym same) ((found v).0 refl)), λ label. refl)

-- a record that is found in a block
pub record_found : (image : Image) (at : ℕ) (block : List ℕ) (o : Option DumpRecord) → image at ≡ block → ((v : DumpRecord) → (o ≡ Some v) ↔ Spells at block v) → FindsRecord at image o
record_found image at block o same found = subst (λ (b : List ℕ). (v : DumpRecord) → (o ≡ Some v) ↔ Spells at b v) (sym same) found

-- a tree that was read has the limits of dumps
limits_are : (bytes : List ℕ) (p : Plain) → ((t : Files) → (Some p ≡ Some (record { limits = dump_limits; tree = t })) ↔ IsDump bytes t) → (IsNone (Some p) ↔ ((t : Files) → ¬ IsDump bytes t)) → p.limits ≡ dump_limits
limits_are bytes p found none = elim (cases_eq p.limits.nodes 511) [
  | inl nodes ↦ elim (cases_eq p.limits.bytes 4243456) [
    | inl size ↦ grind arith
    | inr other ↦ wrong (λ same. other (ap (λ (l : Limits). l.bytes) same))
  ]
  | inr other ↦ wrong (λ same. other (ap (λ (l : Limits). l.nodes) same))
]
  where
    wrong : (p.limits ≡ dump_limits → ⊥) → p.limits ≡ dump_limits
    wrong differ =
        let never : IsNone (Some p) = none.1 (λ t is. (let e : Some p ≡ Some (record { limits = dump_limits; tree = t }) = (found t).1 is in
        let same : p ≡ record { limits = dump_limits; tree = t } = cc in
        differ (ap (λ (x : Plain). x.limits) same))) in
        cc

-- and has the dump
pub is_read : (bytes : List ℕ) (p : Plain) → ((t : Files) → (Some p ≡ Some (record { limits = dump_limits; tree = t })) ↔ IsDump bytes t) → (IsNone (Some p) ↔ ((t : Files) → ¬ IsDump bytes t)) → IsDump bytes p.tree × (p.limits ≡ dump_limits)
is_read bytes p found none =
    let limits = limits_are bytes p found none in
    let same : p ≡ record { limits = dump_limits; tree = p.tree } = ap (λ (l : Limits). record { limits = l; tree = p.tree }) limits in
    ((found p.tree).0 (ap (λ (x : Plain). Some x) same), limits)

module _ (r : DumpRecord) (bytes : List ℕ) where
  pub gives_tree : (o : Option Plain) → length bytes ≡ r.length → sha256 bytes ≡ r.digest → ((t : Files) → (o ≡ Some (record { limits = dump_limits; tree = t })) ↔ IsDump bytes t) → (IsNone o ↔ ((t : Files) → ¬ IsDump bytes t)) → GivesTree r bytes o
  gives_tree None whole digest found none = λ t is. none.0 refl t is.dump
  gives_tree (Some p) whole digest found none = record { whole = whole; digest = digest; dump = (is_read bytes p found none).0 }

  pub gives_read : (o : Option Plain) → ((t : Files) → (o ≡ Some (record { limits = dump_limits; tree = t })) ↔ IsDump bytes t) → (IsNone o ↔ ((t : Files) → ¬ IsDump bytes t)) → IfSome o IsRead
  gives_read None found none = tt
  gives_read (Some p) found none = let is = is_read bytes p found none in record { limits = is.1; tree = is.0.tree }

module _ (image : Image) (a b newer older : Option DumpRecord) (ordered : IsOrdered a b newer older) where
  -- one of the two in one order is one of them in the other
  one_of : (s : DumpRecord) → IsOneOf a b s → IsOneOf newer older s
  one_of s one = ⊎_elim
      (λ same. ⊎_elim (λ first. inl (same.0 ∙ first)) (λ second. inr (same.1 ∙ second)) one)
      (λ turned. ⊎_elim (λ first. inr (turned.1 ∙ first)) (λ second. inl (turned.0 ∙ second)) one)
      ordered.same

  back : (s : DumpRecord) → IsOneOf newer older s → IsOneOf a b s
  back s one = ⊎_elim
      (λ same. ⊎_elim (λ first. inl (sym same.0 ∙ first)) (λ second. inr (sym same.1 ∙ second)) one)
      (λ turned. ⊎_elim (λ first. inr (sym turned.0 ∙ first)) (λ second. inl (sym turned.1 ∙ second)) one)
      ordered.same

  one_number : (o : Option DumpRecord) (v s : DumpRecord) → o ≡ Some v → o ≡ Some s → s.number ≡ v.number
  one_number o v s e f = let same : Some s ≡ Some v = sym f ∙ e in let r : s ≡ v = cc in ap (λ (x : DumpRecord). x.number) r

  -- the newer one has its dump
  pub picks_first : (m : Mounted) → Takes image newer (Some m) → PicksTree image a b m
  picks_first m takes = record {
    newest = takes.0;
    one = back takes.0 (inl takes.1);
    number_is = takes.2;
    dump = takes.3;
    others = λ s t one is. ⊎_elim
        (λ first. let e = one_number newer takes.0 s takes.1 first in omega (arith, e, takes.2))
        (λ second. let le = ordered.order takes.0 s takes.1 second in omega (arith, le, takes.2))
        (one_of s one);
  }

  -- the older one alone has its dump
  pub picks_second : (m : Mounted) → Takes image newer None → Takes image older (Some m) → PicksTree image a b m
  picks_second m never takes = record {
    newest = takes.0;
    one = back takes.0 (inr takes.1);
    number_is = takes.2;
    dump = takes.3;
    others = λ s t one is. ⊎_elim
        (λ first. absurd (never s t first is))
        (λ second. let e = one_number older takes.0 s takes.1 second in omega (arith, e, takes.2))
        (one_of s one);
  }

  -- neither has its dump
  pub picks_none : Takes image newer None → Takes image older None → (s : DumpRecord) (t : Files) → IsOneOf a b s → IsDumpOf s (dump_at image s) t → ⊥
  picks_none first second s t one is = ⊎_elim (λ e. first s t e is) (λ e. second s t e is) (one_of s one)

module _ (blocks : ℕ) (image : Image) (odd even : Option DumpRecord) (label : HasLabel blocks image) (first : FindsRecord 1 image odd) (second : FindsRecord 2 image even) where
  stands_found : (s : DumpRecord) → IsOneOf odd even s → Stands image s
  stands_found s one = ⊎_elim
      (λ e. let is = (first s).0 e in subst (λ (p : ℕ). Spells p (image p) s) (sym is.value.parity) is)
      (λ e. let is = (second s).0 e in subst (λ (p : ℕ). Spells p (image p) s) (sym is.value.parity) is)
      one

  found_stands : (s : DumpRecord) → Stands image s → IsOneOf odd even s
  found_stands s stands = ⊎_elim
      (λ one. inl ((first s).1 (subst (λ (p : ℕ). Spells p (image p) s) one stands)))
      (λ two. inr ((second s).1 (subst (λ (p : ℕ). Spells p (image p) s) two stands)))
      (place_cases s.number)

  dump_found : (s : DumpRecord) (t : Files) → Checks image s t → IsDumpOf s (dump_at image s) t
  dump_found s t is = record { whole = is.whole; digest = is.digest; dump = is.dump }

  pub mounts_by : (result : Result Mounted MountError) → Picks image odd even result → Mounts blocks image result
  mounts_by (Ok m) picks = record {
    label = label;
    newest = picks.newest;
    number_is = sym picks.number_is;
    checks = record { stands = stands_found picks.newest picks.one; whole = picks.dump.whole; digest = picks.dump.digest; dump = picks.dump.dump };
    others = λ s t is. picks.others s t (found_stands s is.stands) (dump_found s t is);
  }
  mounts_by (Err NoLabel) picks = absurd picks
  mounts_by (Err NoRecord) picks = (label, λ s t is. picks s t (found_stands s is.stands) (dump_found s t is))
  mounts_by (Err DiskFault) picks = tt
  mounts_by (Err Memory) picks = tt
