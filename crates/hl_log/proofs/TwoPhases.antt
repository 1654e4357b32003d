-- A checkpoint: parts that end no unit, and then a record.
use Rattle.std.proofs.Common.{◌≡◌, inl, inr, ⊎_elim, ℕ, ◌+◌, ◌-◌, ◌*◌, ◌<◌, ◌≤◌, ◌^◌, false, List, [], ◌∷◌, ◌++◌, length, map, Option, Some, refl, sym, ◌∙◌, ap, subst, arith, length-append}
use Rattle.std.proofs.Math.Nat.{mul-le-mul_left}
use Rattle.std.specs.Prelude.{Contains}
use Rattle.std.specs.List.{range_with_len}
use Rattle.std.proofs.lemmas.List.FromFn.{length-range_with_len, length-map-range_with_len}
use Rattle.hl_media.specs.History.{Image, MachineState, History}
use Rattle.hl_media.specs.Moments.{Runs, Ends}
use Rattle.hl_media.proofs.Runs.{goes_on, ends_then}
use Rattle.hl_addr.specs.Layout.{Layout}
use Rattle.hl_super.specs.declared.record.Record.{Record}
use Rattle.hl_summary.specs.declared.parts.Summary.{Summary}
use Rattle.hl_image.specs.declared.place.LogPlace.{LogPlace}
use Rattle.hl_image.specs.Places.{block_at}
use Rattle.hl_image.specs.Parts.{NoPart}
use Rattle.hl_image.proofs.PartLemmas.{no_part_zeros}
use Rattle.hl_image.specs.Chain.{Walk, IsChain, cut, Covers}
use Rattle.hl_image.specs.Newest.{home_of, IsNewest, number_of, start_of}
use Rattle.hl_image.proofs.ChainLemmas.{cut_open, covers_in_log, covers_from, covers_later, walk_covered, walk_behind}
use Rattle.hl_log.specs.declared.position.Position.{Position}
use Rattle.hl_log.specs.declared.piece.Piece.{Piece}
use Rattle.hl_log.specs.Free.{IsFree}
use Rattle.hl_log.specs.Cut.{AreCut, IsPlan, addresses, place_behind, summaries}
use Rattle.hl_log.specs.Loads.{table_records, table_record}
use Rattle.hl_log.specs.Rest.{IsAtRest, IsSame}
use Rattle.hl_log.specs.Units.{Brought, WritesUnit, HasWritten, Numbered, GoesOn, moved}
use Rattle.hl_log.specs.Checkpoints.{Given, restarted, HasTables, HasNew, KeepsRest, KeepsBut, IsReady, Checkpoints, HasCheckpointed, Records, HasRecorded}
use Rattle.hl_log.proofs.Cleans.{in_one_from}
use Rattle.hl_log.proofs.Cutting.{one_next}
use Rattle.hl_log.proofs.Freed.{was_free, none_free}
use Rattle.hl_log.proofs.Unfolding.{blocks_at, blocks_same, addresses_are}
use Rattle.hl_log.proofs.Records.{homes, newest_same}
use Rattle.hl_log.proofs.Steps
use Rattle.hl_log.proofs.Wraps.{runs_map}

-- a unit is cut in one way
pub one_cut : (g : Layout) (at : LogPlace) (clean : List ℕ) (b t : ℕ) (ps qs : List Piece) (x y : List ℕ) → AreCut g at clean b t ps x → AreCut g at clean b t qs y → ps ≡ qs
one_cut g at clean b t [] qs x y none other = absurd none
one_cut g at clean b t (p ∷ ps) [] x y cut none = absurd none
one_cut g at clean b t (p ∷ []) (q ∷ []) x y cut other = ap (λ (k : Piece). k ∷ []) (one_next g at clean b t p q x y cut.0 other.0).0
one_cut g at clean b t (p ∷ []) (q ∷ r ∷ qs) x y cut other =
    absurd (let same = (one_next g at clean b t p q x other.0 cut.0 other.1).0 in let e = ap (λ (k : Piece). k.blocks) same in let f = ap (λ (k : Piece). k.tables) same in let u = cut.1 in let v = cut.2 in let w = other.2 in omega arith)
one_cut g at clean b t (p ∷ r ∷ ps) (q ∷ []) x y cut other =
    absurd (let same = (one_next g at clean b t p q cut.0 y cut.1 other.0).0 in let e = ap (λ (k : Piece). k.blocks) same in let f = ap (λ (k : Piece). k.tables) same in let u = other.1 in let v = other.2 in let w = cut.2 in omega arith)
one_cut g at clean b t (p ∷ r ∷ ps) (q ∷ s ∷ qs) x y cut other =
    let same = one_next g at clean b t q p other.0 cut.0 other.1 cut.1 in
    let moved_cut : AreCut g p.next cut.0 (b - p.blocks) (t - p.tables) (s ∷ qs) y =
    subst (λ (l : List ℕ). AreCut g p.next l (b - p.blocks) (t - p.tables) (s ∷ qs) y) same.1 (subst (λ (k : Piece). AreCut g k.next other.0 (b - k.blocks) (t - k.tables) (s ∷ qs) y) same.0 other.3) in
    ap (λ (l : List Piece). p ∷ l) (one_cut g p.next cut.0 (b - p.blocks) (t - p.tables) (r ∷ ps) (s ∷ qs) x y cut.3 moved_cut) ∙ ap (λ (k : Piece). k ∷ s ∷ qs) (sym same.0)

-- and leaves one rest
pub one_rest : (g : Layout) (at : LogPlace) (clean : List ℕ) (b t : ℕ) (ps : List Piece) (x y : List ℕ) → AreCut g at clean b t ps x → AreCut g at clean b t ps y → x ≡ y
one_rest g at clean b t [] x y none other = absurd none
one_rest g at clean b t (p ∷ []) x y cut other = (one_next g at clean b t p p x y cut.0 other.0).1
one_rest g at clean b t (p ∷ q ∷ ps) x y cut other =
    let same : other.0 ≡ cut.0 = (one_next g at clean b t p p other.0 cut.0 other.1 cut.1).1 in
    one_rest g p.next cut.0 (b - p.blocks) (t - p.tables) (q ∷ ps) x y cut.3 (subst (λ (l : List ℕ). AreCut g p.next l (b - p.blocks) (t - p.tables) (q ∷ ps) y) same other.3)

-- a unit has an address for each block
pub length-addresses : (g : Layout) (at : LogPlace) (clean : List ℕ) (b t : ℕ) (ps : List Piece) (rest : List ℕ) → AreCut g at clean b t ps rest → length (addresses g ps) ≡ b
length-addresses g at clean b t [] rest none = absurd none
length-addresses g at clean b t (p ∷ []) rest cut = omega (arith, length-append (range_with_len (block_at g p.at + 1) p.blocks) [], length-range_with_len (block_at g p.at + 1) p.blocks, cut.1)
length-addresses g at clean b t (p ∷ q ∷ ps) rest cut =
    let more = length-addresses g p.next cut.0 (b - p.blocks) (t - p.tables) (q ∷ ps) rest cut.3 in
    omega (arith, length-append (range_with_len (block_at g p.at + 1) p.blocks) (addresses g (q ∷ ps)), length-range_with_len (block_at g p.at + 1) p.blocks, more, cut.1.blocks_are)

-- the brought table blocks
abbrev pub tables_of : List (List ℕ) → Brought
tables_of tables = record { closes = false; records = table_records (length tables); contents = tables; changes = [] }

module _ (g : Layout) (p : Position) (clean : List ℕ) (d : Given) (tables : List (List ℕ)) (three : 3 ≤ g.k) where
  free_from : (parts : List Summary) (s : MachineState) → IsAtRest g p clean parts s → (k : ℕ) → k < 3 → IsFree g p.head clean k → ⊥
  free_from parts s rest k lt (inl here) = (let m : g.k * 1 ≤ g.k * p.head.seg = mul-le-mul_left g.k rest.head.low in let lo = here.0 in omega arith)
  free_from parts s rest k lt (inr later) = (let lo = in_one_from g p.head.seg clean k rest.cleans later in omega arith)

  count : length (table_records (length tables)) ≡ length tables
  count = length-map-range_with_len table_record 0 (length tables)

  numbered_too : Numbered g p clean (length tables) 0 → Numbered g p clean (length (table_records (length tables))) 0
  numbered_too numbered = subst (λ (n : ℕ). Numbered g p clean n 0) (sym count) numbered

  begins : (first s : MachineState) → WritesUnit g p clean (tables_of tables) first s → Checkpoints g p clean d tables first s
  begins first s writes parts old ready image may chance =
      let w = writes parts ready.at_rest ready.closed (numbered_too ready.numbered) image may chance in
      let kept : (k : ℕ) → k < 3 → image k ≡ first.content k = λ k lt. w.1 k (free_from parts first ready.at_rest k lt) (Steps.untouched g p clean parts first ready.at_rest k (omega (arith, three))) in (
        inl (newest_same g first.content image old (kept 1 (omega arith)) (kept 2 (omega arith)) ready.newest, ⊎_elim (λ chain. chain) (λ unit. absurd (let e = unit.0 in cc)) w.0),
        λ k nf one two un. w.1 k nf un,
      )

  pub first_phase : (before now : Option History) → Runs before now (WritesUnit g p clean (tables_of tables)) → Runs before now (Checkpoints g p clean d tables)
  first_phase before now run = runs_map before now (WritesUnit g p clean (tables_of tables)) (Checkpoints g p clean d tables) run begins

  module _ (head : LogPlace) (serial : ℕ) (rest : List ℕ) (new : Record) (numbered : d.number + 1 < 2 ^ 64 → new.number ≡ d.number + 1) (tseg_is : new.tseg_serial ≡ d.tseg_serial) (format_is : new.format ≡ d.format) (volumes_are : new.volumes ≡ d.volumes)
      (start_is : start_of new ≡ head) (first_is : new.serial ≡ serial) (planned : IsPlan g p.head clean (length tables) 0 new.tables) (goes_on_at : GoesOn g p clean (length tables) 0 head serial rest) where
    abbrev q : Position
    q = moved p head serial

    -- the table parts as they stand behind the chain
    has_tables : (first middle : MachineState) (image : Image) (parts : List Summary) (old : Option Record) → IsReady g p clean d (length tables) parts old first → HasWritten g p clean (tables_of tables) q rest first middle
        → KeepsBut (home_of new.number) middle image → (pieces : List Piece) × HasTables g p clean rest tables new pieces image
    has_tables first middle image parts old ready has kept =
        let h = has parts ready.at_rest ready.closed (numbered_too ready.numbered) in
        let stands = h.1.stands in
        let cut_here : AreCut g p.head clean (length tables) 0 h.0 rest = subst (λ (n : ℕ). AreCut g p.head clean n 0 h.0 rest) count stands.are_cut in
        let same : planned.0 ≡ h.0 = one_cut g p.head clean (length tables) 0 planned.0 h.0 planned.1 rest planned.2 cut_here in
        let named : new.tables ≡ addresses g h.0 = planned.3 ∙ ap (addresses g) same in
        let gone : goes_on_at.pieces ≡ h.0 = one_cut g p.head clean (length tables) 0 goes_on_at.pieces h.0 rest rest goes_on_at.are_cut cut_here in
        let start : start_of new ≡ place_behind p.head h.0 = start_is ∙ goes_on_at.head_is ∙ ap (place_behind p.head) gone in
        let fits : p.serial + length goes_on_at.pieces < 2 ^ 64 = ready.numbered goes_on_at.pieces rest goes_on_at.are_cut in
        let counted : length goes_on_at.pieces ≡ length h.0 = ap (λ (l : List Piece). length l) gone in
        let unit = summaries false p.serial (table_records (length tables)) [] h.0 in
        let there : addresses g h.0 ≡ blocks_at g p.head unit = addresses_are g false p.serial (table_records (length tables)) [] p.head clean h.0 rest stands.are_cut in
        let home_low : home_of new.number < 3 = ⊎_elim (λ a. (let x = a.0 in omega arith)) (λ b. (let x = b.0 in omega arith)) (homes new.number) in
        let kept_unit : (k : ℕ) → Covers g p.head unit k → image k ≡ middle.content k = λ k c.
        let covers : Covers g p.start (parts ++ unit) k = covers_later g p.start parts unit k (subst (λ (x : LogPlace). Covers g x unit k) (sym ready.at_rest.head_is) c) in
        let lo = covers_from g middle.content p.start p.first (parts ++ unit) h.1.at_rest.start h.1.at_rest.walk k covers in
        let hi = covers_in_log g middle.content p.start p.first (parts ++ unit) h.1.at_rest.start h.1.at_rest.walk k covers in
        kept k (λ e. omega (arith, three)) (Steps.untouched g q rest (parts ++ unit) middle h.1.at_rest k hi) in
        let walk_there : Walk g middle.content p.head p.serial unit = subst (λ (n : ℕ). Walk g middle.content p.head n unit) ready.at_rest.serial_is
        (subst (λ (x : LogPlace). Walk g middle.content x (p.first + length parts) unit) ready.at_rest.head_is (walk_behind g middle.content p.start p.first parts unit h.1.at_rest.walk)) in (
          h.0,
          record {
            are_cut = cut_here;
            named = named;
            start_is = start;
            serial_is = omega (arith, first_is, goes_on_at.serial_is);
            frees = record {
              was_free = λ k free. was_free g p.head clean (length tables) 0 h.0 rest cut_here k (subst (λ (x : LogPlace). IsFree g x rest k) start free);
              no_table = λ k i free. none_free g p.head clean (length tables) 0 h.0 rest ready.at_rest.head ready.at_rest.cleans cut_here k (subst (λ (l : List ℕ). Contains l k) named i)
                  (subst (λ (x : LogPlace). IsFree g x rest k) start free);
            };
            walk = walk_covered g middle.content image p.head p.serial unit kept_unit walk_there;
            blocks = ap (map image) (named ∙ there) ∙ blocks_same g image middle.content p.head unit kept_unit ∙ ap (map middle.content) (sym there) ∙ stands.blocks;
          },
        )

    -- what an image has where the new record is its newest
    new_there : (first middle : MachineState) (image : Image) (parts : List Summary) (old : Option Record) → IsReady g p clean d (length tables) parts old first → HasWritten g p clean (tables_of tables) q rest first middle
        → KeepsBut (home_of new.number) middle image → IsNewest g image (Some new) → IsChain g image head serial [] → HasNew g p clean d tables new image
    new_there first middle image parts old ready has kept newest chain =
        let stand = has_tables first middle image parts old ready has kept in
        record {
          next = record { number_is = numbered ready.next_number; tseg_serial = tseg_is; format = format_is; volumes = volumes_are };
          newest = newest;
          chain = record {
            all = [];
            is = refl;
            chain = subst (λ (x : LogPlace). IsChain g image x new.serial []) (sym start_is) (subst (λ (n : ℕ). IsChain g image head n []) (sym first_is) chain);
          };
          tables_stand = (stand.0, rest, stand.1);
        }

    -- beside the record only free blocks have changed
    rest_kept : (first middle : MachineState) (image : Image) → IsSame g p clean first middle → KeepsBut (home_of new.number) middle image → KeepsRest g p clean first image
    rest_kept first middle image same kept k nf one two un =
        kept k (λ e. ⊎_elim {C = ⊥} (λ a. one (e ∙ a.0)) (λ b. two (e ∙ b.0)) (homes new.number)) (same.pending k un) ∙ same.content k nf

    -- the record behind the parts is the next one
    next_is : (parts : List Summary) (old : Option Record) (first middle : MachineState) → IsReady g p clean d (length tables) parts old first → IsSame g p clean first middle → IsAtRest g p clean parts first
        → IsNewest g middle.content old × (new.number ≡ number_of old + 1)
    next_is parts old first middle ready same at_rest =
        let kept : (k : ℕ) → k < 3 → middle.content k ≡ first.content k = λ k lt. same.content k (free_from parts first at_rest k lt) in
        (newest_same g first.content middle.content old (kept 1 (omega arith)) (kept 2 (omega arith)) ready.newest, numbered ready.next_number ∙ ap (λ (n : ℕ). n + 1) (sym ready.number_is))

    step : (first middle s : MachineState) → HasWritten g p clean (tables_of tables) q rest first middle → Records g q new middle s → Checkpoints g p clean d tables first s
    step first middle s has records parts old ready image may chance =
        let h = has parts ready.at_rest ready.closed (numbered_too ready.numbered) in
        let unit = summaries false p.serial (table_records (length tables)) [] h.0 in
        let next = next_is parts old first middle ready h.1.same ready.at_rest in
        let r = records rest (parts ++ unit) old h.1.at_rest next.0 next.1 image may chance in (
          ⊎_elim
              (λ before. inl (
                before.0,
                record {
                  all = (parts ++ unit) ++ before.1.beyond;
                  chain = before.1.chain;
                  is = cut_open (parts ++ unit) before.1.beyond before.1.open_ended ∙ cut_open parts unit h.1.closed ∙ ready.closed;
                },
              ))
              (λ later. inr (new, new_there first middle image parts old ready has r.1 later.0 later.1))
              r.0,
          rest_kept first middle image h.1.same r.1,
        )

    pub second_phase : (before middle now : Option History) → Runs before middle (WritesUnit g p clean (tables_of tables)) → Ends before middle (HasWritten g p clean (tables_of tables) q rest)
        → Runs middle now (Records g q new) → Runs before now (Checkpoints g p clean d tables)
    second_phase before middle now run has records = goes_on before middle now (Checkpoints g p clean d tables) (Records g q new) (HasWritten g p clean (tables_of tables) q rest)
        (first_phase before middle run) has records step

    at_end : (first middle s : MachineState) → HasWritten g p clean (tables_of tables) q rest first middle → HasRecorded g q new middle s → HasCheckpointed g p clean d tables (restarted q) rest new first s
    at_end first middle s has recorded parts old ready =
        let h = has parts ready.at_rest ready.closed (numbered_too ready.numbered) in
        let unit = summaries false p.serial (table_records (length tables)) [] h.0 in
        let next = next_is parts old first middle ready h.1.same ready.at_rest in
        let r = recorded rest (parts ++ unit) old h.1.at_rest next.0 next.1 in
        let chain : IsChain g s.content head serial [] = record { walk = tt; last = (let e : serial ≡ serial + 0 = omega arith in subst (NoPart g s.content head) e (no_part_zeros g s.content head serial r.0.at_head)) } in
        (new_there first middle s.content parts old ready has r.2 r.1 chain, r.0, rest_kept first middle s.content h.1.same r.2, has_tables first middle s.content parts old ready has r.2)

    pub checkpoint_ends : (before middle now : Option History) (run : Runs middle now (Records g q new)) → Ends before middle (HasWritten g p clean (tables_of tables) q rest) → Ends middle now (HasRecorded g q new)
        → Ends before now (HasCheckpointed g p clean d tables (restarted q) rest new)
    checkpoint_ends before middle now run has recorded = ends_then before middle now run.calls run.is (HasWritten g p clean (tables_of tables) q rest) (HasRecorded g q new) (HasCheckpointed g p clean d tables (restarted q) rest new) has recorded at_end
