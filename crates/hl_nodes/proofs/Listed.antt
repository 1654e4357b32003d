-- Rows that grow by the parts of a cut, and rows that nothing writes over.
use Rattle.std.proofs.Common.{◌≡◌, ◌≢◌, inl, inr, ⊎_elim, ℕ, ◌+◌, ◌-◌, ◌*◌, ◌<◌, ◌≤◌, Bool, false, List, [], ◌∷◌, ◌++◌, length, drop, sym, ◌∙◌, ap, subst, arith, length-drop}
use Rattle.std.specs.Prelude.{slice_index, Contains}
use Rattle.std.specs.List.{slice_index_or, range_with_len}
use Rattle.std.proofs.lemmas.Bool.{cases_eq, cases_lt}
use Rattle.std.proofs.lemmas.List.{length-take-le, get_or-take, get_or-drop, get_or_append_left, get_or-append_right}
use Rattle.std.proofs.lemmas.List.FromFn.{length-range_with_len, get_or-range_with_len}
use Rattle.std.proofs.Math.Nat.{mul-le-mul_left}
use Rattle.hl_media.specs.History.{Image, MachineState, IsUntouched}
use Rattle.hl_addr.specs.Layout.{Layout}
use Rattle.hl_bytes.specs.declared.records.BlockRecord.{BlockRecord}
use Rattle.hl_bytes.specs.declared.records.TableRecord.{TableRecord}
use Rattle.hl_summary.specs.declared.parts.Summary.{Summary}
use Rattle.hl_image.specs.declared.place.LogPlace.{LogPlace}
use Rattle.hl_image.specs.Places.{block_at, log_end, IsLogPlace}
use Rattle.hl_image.specs.Parts.{IsPart}
use Rattle.hl_image.specs.Chain.{Walk, end_of}
use Rattle.hl_image.proofs.ChainLemmas.{apart, segment_in_log}
use Rattle.hl_log.specs.declared.position.Position.{Position}
use Rattle.hl_log.specs.declared.piece.Piece.{Piece}
use Rattle.hl_log.specs.Free.{IsFree, InOneOf, AreClean}
use Rattle.hl_log.specs.Cut.{Goes, AreCut, addresses, summary_of, summaries}
use Rattle.hl_log.specs.Rest.{IsAtRest}
use Rattle.hl_log.proofs.Cutting.{place_then}
use Rattle.hl_log.proofs.Steps as steps
use Rattle.hl_log.proofs.Cleans.{first_apart, beside_other, first_or_later}
use Rattle.hl_nodes.specs.Listing.{PartRow, row_end, Lists, IsListed, HasListed}
use Rattle.hl_nodes.proofs.Rows.{LiesIn, row_end-append, lists_more, lists_last, row-append, row_lies, lists_in, row_same}

-- a place that isn't in a segment goes on in no block of it
goes_off : (g : Layout) (other : ℕ) (at : LogPlace) (n : ℕ) (clean : List ℕ) (next : LogPlace) (more : List ℕ) → at.seg ≢ other → AreClean g other clean → Goes g at n clean next more → (next.seg ≢ other) × AreClean g other more
goes_off g other at n clean next more off cleans (inl near) = (λ e. off (sym near.1 ∙ e), subst (AreClean g other) (sym near.3) cleans)
goes_off g other at n clean next more off cleans (inr far) = (let cs = subst (AreClean g other) far.1 cleans in (first_apart g other next.seg more cs, beside_other g other next.seg more cs))

pub moves_off :
    (g : Layout) (other : ℕ) (closes : Bool) (serial : ℕ) (records : List BlockRecord) (changes : List TableRecord) (at : LogPlace) (clean : List ℕ) (b t : ℕ) (pieces : List Piece) (rest : List ℕ)
    → at.seg ≢ other → AreClean g other clean → AreCut g at clean b t pieces rest → (end_of at (summaries closes serial records changes pieces)).seg ≢ other
moves_off g other closes serial records changes at clean b t [] rest off cleans none = absurd none
moves_off g other closes serial records changes at clean b t (p ∷ []) rest off cleans cut = (goes_off g other at p.blocks clean p.next rest off cleans cut.0.goes).0
moves_off g other closes serial records changes at clean b t (p ∷ q ∷ ps) rest off cleans cut =
    let then = goes_off g other at p.blocks clean p.next cut.0 off cleans cut.1.goes in
    moves_off g other closes (serial + 1) (drop p.blocks records) (drop p.tables changes) p.next cut.0 (b - p.blocks) (t - p.tables) (q ∷ ps) rest then.0 then.1 cut.3

-- where a block of the first part lies, and one of a later part
first_lies : (g : Layout) (at : LogPlace) (p : Piece) (ps : List Piece) (address i : ℕ) → p.at ≡ at → i < p.blocks → slice_index (addresses g (p ∷ ps)) i ≡ address → block_at g at + 1 + i ≡ address
first_lies g at p ps address i at_is low lies =
    let row = range_with_len (block_at g p.at + 1) p.blocks in
    ap (λ (x : LogPlace). block_at g x + 1 + i) (sym at_is) ∙ sym (get_or-range_with_len (block_at g p.at + 1) p.blocks i 0 low)
    ∙ sym (get_or_append_left row (addresses g ps) 0 i (omega (arith, length-range_with_len (block_at g p.at + 1) p.blocks))) ∙ lies

later_lies : (g : Layout) (p : Piece) (ps : List Piece) (address i : ℕ) → p.blocks ≤ i → slice_index (addresses g (p ∷ ps)) i ≡ address → slice_index (addresses g ps) (i - p.blocks) ≡ address
later_lies g p ps address i high lies =
    sym (get_or-append_right (range_with_len (block_at g p.at + 1) p.blocks) (addresses g ps) p.blocks i 0 (length-range_with_len (block_at g p.at + 1) p.blocks) high) ∙ lies

module _ (g : Layout) (image : Image) where
  -- a row that reaches a place, with the part that stands there
  grown : (at : LogPlace) (s : Summary) (ps : List Summary) → PartRow g image at.seg 0 ps → row_end 0 ps ≡ at.block → IsPart g image at s.serial s → PartRow g image at.seg 0 (ps ++ s ∷ [])
  grown at s ps row reach is = row-append g image at.seg 0 ps s row (subst (λ (n : ℕ). IsPart g image (record { seg = at.seg; block = n }) s.serial s) (sym reach) is)

  module _ (at : LogPlace) (n : ℕ) (clean : List ℕ) (next : LogPlace) (more : List ℕ) (ps : List Summary) (row : PartRow g image at.seg 0 ps) (reach : row_end 0 ps ≡ at.block + n + 1) where
    -- a row that ends where the log goes on from, and the next place
    row_on : Goes g at n clean next more → IsListed g image next.seg next.block
    row_on (inl near) = record { parts = ps; row = subst (λ (x : ℕ). PartRow g image x 0 ps) (sym near.1) row; reach = reach ∙ sym near.2 }
    row_on (inr far) = record { parts = []; row = tt; reach = sym far.2 }

    -- what is listed before the next place is listed behind it, wherever the log goes on
    listed_then : (head : LogPlace) (r : BlockRecord) (address : ℕ) → AreClean g at.seg clean → ((other : ℕ) → next.seg ≢ other → AreClean g other more → head.seg ≢ other) → Lists g at.seg 0 ps r address
        → ((qs : List Summary) → PartRow g image next.seg 0 qs → row_end 0 qs ≡ next.block → Lists g next.seg 0 qs r address → HasListed g image head r address) → Goes g at n clean next more → HasListed g image head r address
    listed_then head r address cleans off lists go_on (inl near) =
        go_on ps (subst (λ (x : ℕ). PartRow g image x 0 ps) (sym near.1) row) (reach ∙ sym near.2) (subst (λ (x : ℕ). Lists g x 0 ps r address) (sym near.1) lists)
    listed_then head r address cleans off lists go_on (inr far) =
        let cs = subst (AreClean g at.seg) far.1 cleans in
        record { segment = at.seg; parts = ps; row = row; lists = lists; reach = λ e. absurd (off at.seg (first_apart g at.seg next.seg more cs) (beside_other g at.seg next.seg more cs) (sym e)) }

  -- the next place behind one part more
  module _ (serial : ℕ) (ends : Bool) (records : List BlockRecord) (changes : List TableRecord) (at : LogPlace) (p : Piece) (few : p.blocks ≤ length records) (ps : List Summary) (reach : row_end 0 ps ≡ at.block) where
    abbrev part : Summary
    part = summary_of serial ends records changes p

    count : length part.blocks ≡ p.blocks
    count = length-take-le p.blocks records few

    reach_more : row_end 0 (ps ++ part ∷ []) ≡ at.block + p.blocks + 1
    reach_more = omega (arith, row_end-append 0 ps part, reach, count)

    -- the part lists its blocks
    own_listed : (r : BlockRecord) (address i : ℕ) → i < p.blocks → slice_index_or records i r ≡ r → block_at g at + 1 + i ≡ address → Lists g at.seg 0 (ps ++ part ∷ []) r address
    own_listed r address i lt named lies = lists_last g at.seg 0 ps part r address i (omega (arith, count)) (get_or-take p.blocks records i r lt ∙ named) (omega (arith, reach, lies))

  -- behind a cut, the head's segment
  pub ahead_on :
      (closes : Bool) (serial : ℕ) (records : List BlockRecord) (changes : List TableRecord) (at : LogPlace) (clean : List ℕ) (pieces : List Piece) (rest : List ℕ) → AreCut g at clean (length records) (length changes) pieces rest
      → Walk g image at serial (summaries closes serial records changes pieces) → (ps : List Summary) → PartRow g image at.seg 0 ps → row_end 0 ps ≡ at.block
      → IsListed g image (end_of at (summaries closes serial records changes pieces)).seg (end_of at (summaries closes serial records changes pieces)).block
  ahead_on closes serial records changes at clean [] rest none walk ps row reach = absurd none
  ahead_on closes serial records changes at clean (p ∷ []) rest cut walk ps row reach =
      let few : p.blocks ≤ length records = omega (arith, cut.0.blocks_are) in
      let s = summary_of serial closes records changes p in
      row_on at p.blocks clean p.next rest (ps ++ s ∷ []) (grown at s ps row reach walk.0) (reach_more serial closes records changes at p few ps reach) cut.0.goes
  ahead_on closes serial records changes at clean (p ∷ q ∷ ps') rest cut walk ps row reach =
      let few : p.blocks ≤ length records = omega (arith, cut.1.blocks_are) in
      let s = summary_of serial false records changes p in
      let then = row_on at p.blocks clean p.next cut.0 (ps ++ s ∷ []) (grown at s ps row reach walk.0) (reach_more serial false records changes at p few ps reach) cut.1.goes in
      let some = subst (λ (n : ℕ). AreCut g p.next cut.0 n (length changes - p.tables) (q ∷ ps') rest) (sym (length-drop p.blocks records)) cut.3 in
      let more = subst (λ (n : ℕ). AreCut g p.next cut.0 (length (drop p.blocks records)) n (q ∷ ps') rest) (sym (length-drop p.tables changes)) some in
      ahead_on closes (serial + 1) (drop p.blocks records) (drop p.tables changes) p.next cut.0 (q ∷ ps') rest more walk.1 then.parts then.row then.reach

  -- behind a cut, what the parts before it list
  pub listed_on :
      (closes : Bool) (serial : ℕ) (records : List BlockRecord) (changes : List TableRecord) (at : LogPlace) (clean : List ℕ) (pieces : List Piece) (rest : List ℕ) → IsLogPlace g at → AreClean g at.seg clean
      → AreCut g at clean (length records) (length changes) pieces rest → Walk g image at serial (summaries closes serial records changes pieces) → (ps : List Summary) → PartRow g image at.seg 0 ps → row_end 0 ps ≡ at.block
      → (r : BlockRecord) (address : ℕ) → Lists g at.seg 0 ps r address → HasListed g image (end_of at (summaries closes serial records changes pieces)) r address
  listed_on closes serial records changes at clean [] rest place cleans none walk ps row reach r address lists = absurd none
  listed_on closes serial records changes at clean (p ∷ []) rest place cleans cut walk ps row reach r address lists =
      let few : p.blocks ≤ length records = omega (arith, cut.0.blocks_are) in
      let s = summary_of serial closes records changes p in
      listed_then at p.blocks clean p.next rest (ps ++ s ∷ []) (grown at s ps row reach walk.0) (reach_more serial closes records changes at p few ps reach) p.next r address cleans (λ other off cs. off) (lists_more g at.seg 0 ps s r address lists)
      (λ qs on end here. record { segment = p.next.seg; parts = qs; row = on; lists = here; reach = λ e. end }) cut.0.goes
  listed_on closes serial records changes at clean (p ∷ q ∷ ps') rest place cleans cut walk ps row reach r address lists =
      let few : p.blocks ≤ length records = omega (arith, cut.1.blocks_are) in
      let s = summary_of serial false records changes p in
      let then = place_then g at p.blocks clean p.next cut.0 place cleans cut.1.goes in
      let some = subst (λ (n : ℕ). AreCut g p.next cut.0 n (length changes - p.tables) (q ∷ ps') rest) (sym (length-drop p.blocks records)) cut.3 in
      let more = subst (λ (n : ℕ). AreCut g p.next cut.0 (length (drop p.blocks records)) n (q ∷ ps') rest) (sym (length-drop p.tables changes)) some in
      let unit = summaries closes (serial + 1) (drop p.blocks records) (drop p.tables changes) (q ∷ ps') in
      listed_then at p.blocks clean p.next cut.0 (ps ++ s ∷ []) (grown at s ps row reach walk.0) (reach_more serial false records changes at p few ps reach) (end_of p.next unit) r address cleans
      (λ other off cs. moves_off g other closes (serial + 1) (drop p.blocks records) (drop p.tables changes) p.next cut.0 (length (drop p.blocks records)) (length (drop p.tables changes)) (q ∷ ps') rest off cs more)
      (lists_more g at.seg 0 ps s r address lists)
      (λ qs on end here. listed_on closes (serial + 1) (drop p.blocks records) (drop p.tables changes) p.next cut.0 (q ∷ ps') rest then.0 then.1 more walk.1 qs on end r address here) cut.1.goes

  -- and what it brings
  pub brought_on :
      (closes : Bool) (serial : ℕ) (records : List BlockRecord) (changes : List TableRecord) (at : LogPlace) (clean : List ℕ) (pieces : List Piece) (rest : List ℕ) → IsLogPlace g at → AreClean g at.seg clean
      → AreCut g at clean (length records) (length changes) pieces rest → Walk g image at serial (summaries closes serial records changes pieces) → (ps : List Summary) → PartRow g image at.seg 0 ps → row_end 0 ps ≡ at.block
      → (r : BlockRecord) (address i : ℕ) → i < length records → slice_index_or records i r ≡ r → slice_index (addresses g pieces) i ≡ address → HasListed g image (end_of at (summaries closes serial records changes pieces)) r address
  brought_on closes serial records changes at clean [] rest place cleans none walk ps row reach r address i lt named lies = absurd none
  brought_on closes serial records changes at clean (p ∷ []) rest place cleans cut walk ps row reach r address i lt named lies =
      let whole = cut.1 in
      let low : i < p.blocks = omega arith in
      let few : p.blocks ≤ length records = omega arith in
      let s = summary_of serial closes records changes p in
      listed_then at p.blocks clean p.next rest (ps ++ s ∷ []) (grown at s ps row reach walk.0) (reach_more serial closes records changes at p few ps reach) p.next r address cleans (λ other off cs. off)
      (own_listed serial closes records changes at p few ps reach r address i low named (first_lies g at p [] address i cut.0.at_is low lies))
      (λ qs on end here. record { segment = p.next.seg; parts = qs; row = on; lists = here; reach = λ e. end }) cut.0.goes
  brought_on closes serial records changes at clean (p ∷ q ∷ ps') rest place cleans cut walk ps row reach r address i lt named lies =
      let few : p.blocks ≤ length records = omega (arith, cut.1.blocks_are) in
      let s = summary_of serial false records changes p in
      let then = place_then g at p.blocks clean p.next cut.0 place cleans cut.1.goes in
      let some = subst (λ (n : ℕ). AreCut g p.next cut.0 n (length changes - p.tables) (q ∷ ps') rest) (sym (length-drop p.blocks records)) cut.3 in
      let more = subst (λ (n : ℕ). AreCut g p.next cut.0 (length (drop p.blocks records)) n (q ∷ ps') rest) (sym (length-drop p.tables changes)) some in
      let unit = summaries closes (serial + 1) (drop p.blocks records) (drop p.tables changes) (q ∷ ps') in
      elim (cases_lt i p.blocks) [
        | inl low ↦ listed_then at p.blocks clean p.next cut.0 (ps ++ s ∷ []) (grown at s ps row reach walk.0) (reach_more serial false records changes at p few ps reach) (end_of p.next unit) r address cleans
            (λ other off cs. moves_off g other closes (serial + 1) (drop p.blocks records) (drop p.tables changes) p.next cut.0 (length (drop p.blocks records)) (length (drop p.tables changes)) (q ∷ ps') rest off cs more)
            (own_listed serial false records changes at p few ps reach r address i low named (first_lies g at p (q ∷ ps') address i cut.1.at_is low lies))
            (λ qs on end here. listed_on closes (serial + 1) (drop p.blocks records) (drop p.tables changes) p.next cut.0 (q ∷ ps') rest then.0 then.1 more walk.1 qs on end r address here) cut.1.goes
        | inr high ↦ (
            let up = row_on at p.blocks clean p.next cut.0 (ps ++ s ∷ []) (grown at s ps row reach walk.0) (reach_more serial false records changes at p few ps reach) cut.1.goes in
            let back : p.blocks + (i - p.blocks) ≡ i = omega arith in
            brought_on closes (serial + 1) (drop p.blocks records) (drop p.tables changes) p.next cut.0 (q ∷ ps') rest then.0 then.1 more walk.1 up.parts up.row up.reach r address (i - p.blocks) (omega (arith, length-drop p.blocks records))
            (get_or-drop p.blocks records (i - p.blocks) r ∙ ap (λ (n : ℕ). slice_index_or records n r) back ∙ named) (later_lies g p (q ∷ ps') address i high lies)
            )
      ]

-- a block of a segment that isn't in clean ones has no neighbour there
in_one_same : (g : Layout) (seg : ℕ) (clean : List ℕ) (k a : ℕ) → LiesIn g seg k → LiesIn g seg a → InOneOf g clean k → InOneOf g clean a
in_one_same g seg [] k a here there none = absurd none
in_one_same g seg (c ∷ clean) k a here there (inl at) = elim (cases_eq c seg) [
  | inl same ↦ (let e : g.k * c ≡ g.k * seg = ap (λ (x : ℕ). g.k * x) same in let lo = there.from in let hi = there.upto in inl (omega arith, omega arith))
  | inr other ↦ absurd (apart g c seg k other at.0 at.1 here.from here.upto)
]
in_one_same g seg (c ∷ clean) k a here there (inr later) = inr (in_one_same g seg clean k a here there later)

-- a block of a segment among these lies in one of them
in_clean : (g : Layout) (seg : ℕ) (clean : List ℕ) (a : ℕ) → LiesIn g seg a → Contains clean seg → InOneOf g clean a
in_clean g seg [] a there i = absurd (let lt = i.1 in omega arith)
in_clean g seg (c ∷ clean) a there i = ⊎_elim
    (λ same. (let e : g.k * c ≡ g.k * seg = ap (λ (y : ℕ). g.k * y) same in let lo = there.from in let hi = there.upto in inl (omega arith, omega arith)))
    (λ later. inr (in_clean g seg clean a there later))
    (first_or_later c seg clean i)

-- so they are clean beside its segment
clean_beside : (g : Layout) (x seg : ℕ) (clean : List ℕ) (a : ℕ) → LiesIn g seg a → (InOneOf g clean a → ⊥) → AreClean g x clean → AreClean g seg clean
clean_beside g x seg clean a there none cleans = record { in_log = cleans.in_log; once = cleans.once; apart = λ i. none (in_clean g seg clean a there i) }

-- Rows that hold no free block.
module _ (g : Layout) (p : Position) (clean : List ℕ) (parts : List Summary) (first : MachineState) (rest : IsAtRest g p clean parts first) (large : 64 ≤ g.k) (image : Image)
    (keeps : (k : ℕ) → k < log_end g → (IsFree g p.head clean k → ⊥) → (k ≡ 1 → ⊥) → (k ≡ 2 → ⊥) → IsUntouched first.pending k → image k ≡ first.content k) where
  kept : (seg k : ℕ) → LiesIn g seg k → (IsFree g p.head clean k → ⊥) → image k ≡ first.content k
  kept seg k here none =
      let m : g.k * 1 ≤ g.k * seg = mul-le-mul_left g.k here.low in
      let lo = here.from in
      let low = segment_in_log g seg k here.high here.upto in
      keeps k low none (λ e. omega arith) (λ e. omega arith) (steps.untouched g p clean parts first rest k low)

  -- ahead of the head's row
  below_head : (k : ℕ) → LiesIn g p.head.seg k → k < block_at g p.head → IsFree g p.head clean k → ⊥
  below_head k here lt (inl ahead) = (let lo = ahead.0 in omega arith)
  below_head k here lt (inr there) = steps.in_one_apart g p.head.seg clean k rest.cleans there here.from here.upto

  pub ahead_kept : IsListed g first.content p.head.seg p.head.block → IsListed g image p.head.seg p.head.block
  ahead_kept l = record {
    parts = l.parts;
    row = row_same g first.content image p.head.seg 0 l.parts
        (λ k from upto. (let here = row_lies g first.content p.head.seg 0 l.parts l.row k from upto in kept p.head.seg k here (below_head k here (omega (arith, l.reach))))) l.row;
    reach = l.reach;
  }

  module _ (r : BlockRecord) (address : ℕ) (none : IsFree g p.head clean address → ⊥) (l : HasListed g first.content p.head r address) where
    there : LiesIn g l.segment address
    there = (let at = lists_in g first.content l.segment 0 l.parts r address l.row l.lists in row_lies g first.content l.segment 0 l.parts l.row address at.0 at.1)

    beside : (k : ℕ) → LiesIn g l.segment k → l.segment ≢ p.head.seg → IsFree g p.head clean k → ⊥
    beside k here other (inl ahead) =
        let m : g.k * p.head.seg ≤ k = (let lo = ahead.0 in omega arith) in
        apart g l.segment p.head.seg k other here.from here.upto m ahead.1
    beside k here other (inr one) = none (inr (in_one_same g l.segment clean k address here there one))

    row_kept : (k : ℕ) → g.k * l.segment + 0 ≤ k → k < g.k * l.segment + row_end 0 l.parts → image k ≡ first.content k
    row_kept k from upto =
        let here = row_lies g first.content l.segment 0 l.parts l.row k from upto in
        kept l.segment k here (λ free. elim (cases_eq l.segment p.head.seg) [
          | inl same ↦ (let e : g.k * l.segment ≡ g.k * p.head.seg = ap (λ (x : ℕ). g.k * x) same in let end = l.reach same in below_head k (subst (λ (x : ℕ). LiesIn g x k) same here) (omega arith) free)
          | inr other ↦ beside k here other free
        ])

    row_there : PartRow g image l.segment 0 l.parts
    row_there = row_same g first.content image l.segment 0 l.parts row_kept l.row

    pub listed_kept : HasListed g image p.head r address
    listed_kept = record { segment = l.segment; parts = l.parts; row = row_there; lists = l.lists; reach = l.reach }

    -- and it is listed behind a cut that stands in the image
    pub listed_behind : (closes : Bool) (records : List BlockRecord) (changes : List TableRecord) (pieces : List Piece) (left : List ℕ) → AreCut g p.head clean (length records) (length changes) pieces left
        → Walk g image p.head p.serial (summaries closes p.serial records changes pieces) → HasListed g image (end_of p.head (summaries closes p.serial records changes pieces)) r address
    listed_behind closes records changes pieces left cut walk = elim (cases_eq l.segment p.head.seg) [
      | inl same ↦ listed_on g image closes p.serial records changes p.head clean pieces left rest.head rest.cleans cut walk l.parts (subst (λ (x : ℕ). PartRow g image x 0 l.parts) same row_there) (l.reach same) r address
          (subst (λ (x : ℕ). Lists g x 0 l.parts r address) same l.lists)
      | inr other ↦ record {
        segment = l.segment;
        parts = l.parts;
        row = row_there;
        lists = l.lists;
        reach = λ e. absurd (moves_off g l.segment closes p.serial records changes p.head clean (length records) (length changes) pieces left (λ e'. other (sym e'))
            (clean_beside g p.head.seg l.segment clean address there (λ i. none (inr i)) rest.cleans) cut (sym e));
      }
    ]
