-- Table blocks as a batch.
use Rattle.std.proofs.Common.{◌≡◌, inl, ℕ, ◌+◌, ◌-◌, ◌<◌, ◌≤◌, ◌^◌, min, false, List, [], length, Option, refl, sym, ◌∙◌, ap, subst, arith}
use Rattle.std.specs.Prelude.{All, Contains}
use Rattle.std.specs.List.{range_with_len}
use Rattle.std.proofs.lemmas.List.{length-map}
use Rattle.std.proofs.lemmas.List.FromFn.{length-range_with_len, get_or-range_with_len, length-map-range_with_len}
use Rattle.std.proofs.lemmas.List.Elements.{All-nil, All-map, All-from_get_or}
use Rattle.hl_addr.specs.Layout.{Layout, IsWithinLimits, table_blocks}
use Rattle.hl_bytes.specs.declared.block.Block.{Block}
use Rattle.hl_bytes.specs.declared.records.TableRecord.{TableRecord}
use Rattle.hl_summary.specs.Ranges.{IsBlockOf, IsChangeOf}
use Rattle.hl_image.specs.declared.place.LogPlace.{LogPlace}
use Rattle.hl_image.specs.Places.{IsLogPlace}
use Rattle.hl_log.specs.Batches.{IsBatch}
use Rattle.hl_log.specs.Free.{IsFree, AreClean}
use Rattle.hl_log.specs.Cut.{AreCut, IsPlan, HasClean, addresses, place_behind}
use Rattle.hl_log.specs.Loads.{table_record, table_records, bytes_of_tables}
use Rattle.hl_log.specs.declared.position.Position.{Position}
use Rattle.hl_log.specs.declared.checkpoint.Draft.{Draft}
use Rattle.hl_log.specs.Checkpoints.{Records, HasRecorded, Checkpoints, HasCheckpointed, IsRecordBehind, drafted, next_record, restarted_at}
use Rattle.hl_log.specs.Units.{Brought, WritesUnit, HasWritten, GoesOn, moved}
use Rattle.hl_media.specs.History.{History}
use Rattle.hl_media.specs.Moments.{Runs, Ends}
use Rattle.hl_super.specs.declared.record.Record.{Record}
use Rattle.hl_image.specs.Newest.{start_of}
use Rattle.hl_log.proofs.Sites.{few_tables}
use Rattle.hl_log.proofs.Freed.{was_free, none_free}
use Rattle.hl_log.proofs.TwoPhases.{one_cut, tables_of, second_phase, checkpoint_ends}

-- as the batch has them: the blocks themselves say how many there are
abbrev pub brought_tables : List Block → Brought
brought_tables blocks = record { closes = false; records = table_records (length blocks); contents = bytes_of_tables blocks; changes = [] }

pub brought_same : (blocks : List Block) → brought_tables blocks ≡ tables_of (bytes_of_tables blocks)
brought_same blocks = ap (λ (n : ℕ). record { closes = false; records = table_records n; contents = bytes_of_tables blocks; changes = [] }) (sym (length-map blocks (λ (b : Block). b.bytes)))

table_records_of : (inodes tables n : ℕ) → n ≤ tables → All (IsBlockOf inodes tables) (table_records n)
table_records_of inodes tables n few =
    All-map (IsBlockOf inodes tables) table_record (range_with_len 0 n) (All-from_get_or (λ i. IsBlockOf inodes tables (table_record i)) (range_with_len 0 n) 0
    (λ i lt. (let size = length-range_with_len 0 n in let e = get_or-range_with_len 0 n i 0 (omega arith) in inl (refl, omega arith))))

pub tables_batch : (g : Layout) (blocks : List Block) → IsWithinLimits g → length blocks ≡ table_blocks g → IsBatch g (brought_tables blocks)
tables_batch g blocks limits count =
    let size = length-map-range_with_len table_record 0 (length blocks) in
    let none : List TableRecord = [] in
    record {
      of = record { blocks = table_records_of g.inodes (table_blocks g) (length blocks) (omega arith); tables = All-nil (λ r. IsChangeOf g.inodes _ _ r) };
      both = length-map blocks (λ (b : Block). b.bytes) ∙ sym size;
      few = omega (arith, few_tables g limits, size, count);
    }

pub plan_is_enough : (g : Layout) (head : LogPlace) (clean : List ℕ) (n : ℕ) (plan : List ℕ) → IsPlan g head clean n 0 plan → HasClean g head clean (length (table_records n)) 0
plan_is_enough g head clean n plan is = (is.0, is.1, subst (λ (m : ℕ). AreCut g head clean m 0 is.0 is.1) (sym (length-map-range_with_len table_record 0 n)) is.2)

-- as many as there are blocks
goes_on_tables : (g : Layout) (p : Position) (clean : List ℕ) (blocks : List Block) (head : LogPlace) (serial : ℕ) (rest : List ℕ) → GoesOn g p clean (length (table_records (length blocks))) 0 head serial rest
    → GoesOn g p clean (length (bytes_of_tables blocks)) 0 head serial rest
goes_on_tables g p clean blocks head serial rest goes = subst (λ (n : ℕ). GoesOn g p clean n 0 head serial rest)
    (length-map-range_with_len table_record 0 (length blocks) ∙ sym (length-map blocks (λ (b : Block). b.bytes))) goes

-- the record that the call makes
pub record_behind : (g : Layout) (p : Position) (clean : List ℕ) (draft : Draft) (blocks : List Block) (at : Position) (rest : List ℕ) (new : Record) → IsLogPlace g p.head → AreClean g p.head.seg clean
    → new ≡ next_record draft at.head at.serial → IsPlan g p.head clean (length blocks) 0 draft.tables → GoesOn g p clean (length (table_records (length blocks))) 0 at.head at.serial rest
    → IsRecordBehind g p clean rest (drafted draft) (length (bytes_of_tables blocks)) new
record_behind g p clean draft blocks at rest new place cleans value plan goes =
    let n = length (bytes_of_tables blocks) in
    let count : length blocks ≡ n = sym (length-map blocks (λ (b : Block). b.bytes)) in
    let moved_on = goes_on_tables g p clean blocks at.head at.serial rest goes in
    let start : start_of new ≡ at.head = ap start_of value in
    let planned : AreCut g p.head clean n 0 plan.0 plan.1 = subst (λ (m : ℕ). AreCut g p.head clean m 0 plan.0 plan.1) count plan.2 in
    let same : plan.0 ≡ moved_on.pieces = one_cut g p.head clean n 0 plan.0 moved_on.pieces plan.1 rest planned moved_on.are_cut in
    let named : new.tables ≡ addresses g moved_on.pieces = ap (λ (r : Record). r.tables) value ∙ plan.3 ∙ ap (addresses g) same in
    let behind : start_of new ≡ place_behind p.head moved_on.pieces = start ∙ moved_on.head_is in
    record {
      number_is = ap (λ (r : Record). r.number) value;
      tseg_serial = ap (λ (r : Record). r.tseg_serial) value;
      format = ap (λ (r : Record). r.format) value;
      volumes = ap (λ (r : Record). r.volumes) value;
      goes_on = record { pieces = moved_on.pieces; are_cut = moved_on.are_cut; head_is = behind; serial_is = ap (λ (r : Record). r.serial) value ∙ moved_on.serial_is };
      named = named;
      frees = record {
        was_free = λ k free. was_free g p.head clean n 0 moved_on.pieces rest moved_on.are_cut k (subst (λ (x : LogPlace). IsFree g x rest k) behind free);
        no_table = λ k i free. none_free g p.head clean n 0 moved_on.pieces rest place cleans moved_on.are_cut k (subst (λ (l : List ℕ). Contains l k) named i) (subst (λ (x : LogPlace). IsFree g x rest k) behind free);
      };
    }

-- the second phase, in the words of the calls
module _ (g : Layout) (p : Position) (clean : List ℕ) (draft : Draft) (blocks : List Block) (three : 3 ≤ g.k) (at : Position) (rest : List ℕ) (new : Record) (position : at ≡ moved p at.head at.serial) (value : new ≡ next_record draft at.head at.serial)
    (plan : IsPlan g p.head clean (length blocks) 0 draft.tables) (goes : GoesOn g p clean (length (table_records (length blocks))) 0 at.head at.serial rest) (before middle now : Option History) (writes : Runs before middle (WritesUnit g p clean (brought_tables blocks))) (has : Ends before middle (HasWritten g p clean (brought_tables blocks) at rest))
    (records : Runs middle now (Records g at new)) where
  abbrev tables : List (List ℕ)
  tables = bytes_of_tables blocks

  count : length tables ≡ length blocks
  count = length-map blocks (λ (b : Block). b.bytes)

  planned : IsPlan g p.head clean (length tables) 0 new.tables
  planned = subst (λ (n : ℕ). IsPlan g p.head clean n 0 new.tables) (sym count) (subst (IsPlan g p.head clean (length blocks) 0) (sym (ap (λ (r : Record). r.tables) value)) plan)

  number : draft.number + 1 < 2 ^ 64 → new.number ≡ draft.number + 1
  number lt = (let e : new.number ≡ min (draft.number + 1) (2 ^ 64 - 1) = ap (λ (r : Record). r.number) value in omega arith)

  writes_too : Runs before middle (WritesUnit g p clean (tables_of tables))
  writes_too = subst (λ (u : Brought). Runs before middle (WritesUnit g p clean u)) (brought_same blocks) writes

  has_too : Ends before middle (HasWritten g p clean (tables_of tables) (moved p at.head at.serial) rest)
  has_too = subst (λ (u : Brought). Ends before middle (HasWritten g p clean u (moved p at.head at.serial) rest)) (brought_same blocks)
      (subst (λ (q : Position). Ends before middle (HasWritten g p clean (brought_tables blocks) q rest)) position has)

  records_too : Runs middle now (Records g (moved p at.head at.serial) new)
  records_too = subst (λ (q : Position). Runs middle now (Records g q new)) position records

  pub checkpoint_run : Runs before now (Checkpoints g p clean (drafted draft) tables)
  checkpoint_run = second_phase g p clean (drafted draft) tables three at.head at.serial rest new number (ap (λ (r : Record). r.tseg_serial) value) (ap (λ (r : Record). r.format) value) (ap (λ (r : Record). r.volumes) value)
      (ap start_of value) (ap (λ (r : Record). r.serial) value) planned (goes_on_tables g p clean blocks at.head at.serial rest goes) before middle now writes_too has_too records_too

  pub checkpoint_done : Ends middle now (HasRecorded g at new) → Ends before now (HasCheckpointed g p clean (drafted draft) tables (restarted_at new) rest new)
  checkpoint_done recorded =
      let recorded_too = subst (λ (q : Position). Ends middle now (HasRecorded g q new)) position recorded in
      let ends = checkpoint_ends g p clean (drafted draft) tables three at.head at.serial rest new number (ap (λ (r : Record). r.tseg_serial) value) (ap (λ (r : Record). r.format) value) (ap (λ (r : Record). r.volumes) value)
      (ap start_of value) (ap (λ (r : Record). r.serial) value) planned (goes_on_tables g p clean blocks at.head at.serial rest goes) before middle now records_too has_too recorded_too in
      subst (λ (q : Position). Ends before now (HasCheckpointed g p clean (drafted draft) tables q rest new)) (ap restarted_at (sym value)) ends
