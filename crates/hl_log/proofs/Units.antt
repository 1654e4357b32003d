-- How the parts of a unit are put together.
use Rattle.std.proofs.Common.{◌≡◌, inl, inr, ⊎_elim, ℕ, ◌+◌, ◌-◌, ◌<◌, ◌≤◌, ◌^◌, Bool, true, false, List, [], ◌∷◌, ◌++◌, length, take, drop, map, Option, refl, sym, ◌∙◌, ap, subst, arith, append_assoc, append-nil, length-append, length-drop}
use Rattle.std.specs.Prelude.{◌&&◌}
use Rattle.std.specs.List.{range_with_len}
use Rattle.std.proofs.lemmas.List.{map-append, take_all, length-take-le}
use Rattle.std.proofs.Math.Seq.{take-add}
use Rattle.hl_media.specs.History.{Image, MachineState, History, state_now}
use Rattle.hl_media.specs.Moments.{Runs, Ends}
use Rattle.hl_media.proofs.Runs.{goes_on, ends_then, starts}
use Rattle.hl_addr.specs.Layout.{Layout}
use Rattle.hl_summary.specs.declared.parts.Summary.{Summary}
use Rattle.hl_image.specs.declared.place.LogPlace.{LogPlace}
use Rattle.hl_image.specs.Places.{block_at, IsLogPlace}
use Rattle.hl_image.specs.Chain.{end_of, IsChain, cut, IsCutChain, Covers}
use Rattle.hl_image.proofs.ChainLemmas.{cut_open, cut_closed, cut_single, end_of-append, covers_later}
use Rattle.hl_log.specs.declared.position.Position.{Position}
use Rattle.hl_log.specs.declared.piece.Piece.{Piece}
use Rattle.hl_log.specs.Free.{IsFree}
use Rattle.hl_log.specs.Cut.{Goes, Takes, AreCut, HasClean, summary_of, summaries}
use Rattle.hl_log.specs.Rest.{IsAtRest, Has, Keeps, IsSame}
use Rattle.hl_log.specs.Steps.{settled, blocks_behind, KeepsChain, HeadCleared, AddsPiece, HasAddedPiece}
use Rattle.hl_log.specs.Units.{Brought, Stands, with_unit, HasUnit, Numbered, WritesUnit, IsClosed, HasWritten, moved}
use Rattle.hl_log.proofs.Cutting.{Reached, blocks_in, tables_in, blocks_in-append, cut_before, reached_last, takes_some}
use Rattle.hl_log.proofs.Unfolding.{opens, blocks_at, next_summary, opens-append, summaries-last, cut_opens, blocks_at-append, blocks_same, addresses_are}
use Rattle.hl_log.proofs.Steps.{covered, rest_leaves}
use Rattle.hl_log.proofs.Wraps.{runs_map}

and_false : (c : Bool) → (c && false) ≡ false
and_false true = refl
and_false false = refl

and_true : (c : Bool) → (c && true) ≡ c
and_true true = refl
and_true false = refl

blocks_sum : (done : List Piece) (p : Piece) → blocks_in (done ++ p ∷ []) ≡ blocks_in done + p.blocks
blocks_sum done p = blocks_in-append done p

-- A unit is under way: these parts of it stand behind the chain, none of which is its last.
pub record Mid (g : Layout) (p : Position) (clean : List ℕ) (u : Brought) (q : Position) (more : List ℕ) (b t : ℕ) (done : List Piece) (parts : List Summary) (first s : MachineState) : Type 0 where
  pub at_rest : IsAtRest g q more (parts ++ opens p.serial u.records u.changes done) s
  pub same : IsSame g p clean first s
  pub was_free : (k : ℕ) → IsFree g q.head more k → IsFree g p.head clean k
  pub end_is : end_of p.head (opens p.serial u.records u.changes done) ≡ q.head
  pub blocks_are : map s.content (blocks_at g p.head (opens p.serial u.records u.changes done)) ≡ take (blocks_in done) u.contents
  pub serial_is : q.serial ≡ p.serial + length done
  pub numbered : Numbered g q more b t

abbrev pub IsMidway : Layout → Position → List ℕ → Brought → Position → List ℕ → ℕ → ℕ → List Piece → MachineState → MachineState → Type 0
IsMidway g p clean u q more b t done first s = (parts : List Summary) → IsAtRest g p clean parts first → cut parts ≡ parts → Numbered g p clean (length u.records) (length u.changes)
    → Mid g p clean u q more b t done parts first s

-- where the chain has closed parts and open ones behind them
has_cut : (g : Layout) (p : Position) (parts open_parts : List Summary) (image : Image) → cut parts ≡ parts → cut open_parts ≡ [] → Has g p (parts ++ open_parts) image → IsCutChain g image p.start p.first parts
has_cut g p parts open_parts image closed none has = record {
  all = (parts ++ open_parts) ++ has.beyond;
  chain = has.chain;
  is = cut_open (parts ++ open_parts) has.beyond has.open_ended ∙ cut_open parts open_parts none ∙ closed;
}

module _ (g : Layout) (p : Position) (clean : List ℕ) (u : Brought) where
  begins : (first s : MachineState) → KeepsChain g p first s → WritesUnit g p clean u first s
  begins first s keeps parts at_rest closed numbered image may chance =
      let l = keeps clean parts at_rest image may chance in
      (inl (has_cut g p parts [] image closed refl (subst (λ (x : List Summary). Has g p x image) (sym (append-nil parts)) l.0)), l.1)

  pub unit_begins : (before now : Option History) → Runs before now (KeepsChain g p) → Runs before now (WritesUnit g p clean u)
  unit_begins before now run = runs_map before now (KeepsChain g p) (WritesUnit g p clean u) run begins

  pub midway_begins : (before now : Option History) → Ends before now (HeadCleared g p) → Ends before now (IsMidway g p clean u (moved p p.head p.serial) clean (length u.records) (length u.changes) [])
  midway_begins before now ends h e h2 e2 parts at_rest closed numbered =
      let c = ends h e h2 e2 clean parts at_rest in
      record {
        at_rest = subst (λ (l : List Summary). IsAtRest g (settled p) clean l (state_now h2)) (sym (append-nil parts)) c.0;
        same = c.1;
        was_free = λ k f. f;
        end_is = refl;
        blocks_are = refl;
        serial_is = omega arith;
        numbered = numbered;
      }

  module _ (head : LogPlace) (serial : ℕ) (more : List ℕ) (b t : ℕ) (done : List Piece) (reached : Reached g p.head clean (length u.records) (length u.changes) done head more b t)
      (piece : Piece) (then : List ℕ) (takes : Takes g head more b t piece then) (both : length u.contents ≡ length u.records) (last : Bool) where
    abbrev q : Position
    q = moved p head serial

    -- the next part, as it is written, and its blocks
    abbrev pub part : Summary
    part = summary_of serial (u.closes && last) (drop (length u.records - b) u.records) (drop (length u.changes - t) u.changes) piece

    abbrev pub own : List (List ℕ)
    own = take piece.blocks (drop (length u.records - b) u.contents)

    abbrev open_parts : List Summary
    open_parts = opens p.serial u.records u.changes done

    few : piece.blocks ≤ b
    few = omega (arith, takes.blocks_are)

    count : length part.blocks ≡ piece.blocks
    count = length-take-le piece.blocks (drop (length u.records - b) u.records) (omega (arith, length-drop (length u.records - b) u.records, few, reached.blocks_are))

    goes : Goes g head (length part.blocks) more piece.next then
    goes = subst (λ (n : ℕ). Goes g head n more piece.next then) (sym count) takes.goes

    part_is : (ends : Bool) → (u.closes && last) ≡ ends → serial ≡ p.serial + length done → part ≡ next_summary p.serial ends u.records u.changes done piece
    part_is ends is serial_is =
        let x : length u.records - b ≡ blocks_in done = omega (arith, reached.blocks_are) in
        let y : length u.changes - t ≡ tables_in done = omega (arith, reached.tables_are) in
        ap (λ (n : ℕ). summary_of n (u.closes && last) (drop (length u.records - b) u.records) (drop (length u.changes - t) u.changes) piece) serial_is
        ∙ ap (λ (e : Bool). summary_of (p.serial + length done) e (drop (length u.records - b) u.records) (drop (length u.changes - t) u.changes) piece) is
        ∙ ap (λ (n : ℕ). summary_of (p.serial + length done) ends (drop n u.records) (drop (length u.changes - t) u.changes) piece) x
        ∙ ap (λ (n : ℕ). summary_of (p.serial + length done) ends (drop (blocks_in done) u.records) (drop n u.changes) piece) y

    -- the blocks of the unit so far, and those of one more part
    blocks_more : (parts : List Summary) (first middle : MachineState) (a : Image) → IsAtRest g p clean parts first → Mid g p clean u q more b t done parts first middle
        → ((k : ℕ) → Covers g p.start (parts ++ open_parts) k → a k ≡ middle.content k) → blocks_behind g a head (length part.blocks) ≡ own
        → map a (blocks_at g p.head (open_parts ++ part ∷ [])) ≡ take (blocks_in done + piece.blocks) u.contents
    blocks_more parts first middle a at_rest mid same here =
        let x : length u.records - b ≡ blocks_in done = omega (arith, reached.blocks_are) in
        let so_far : map a (blocks_at g p.head open_parts) ≡ take (blocks_in done) u.contents = blocks_same g a middle.content p.head open_parts
        (λ k c. same k (covers_later g p.start parts open_parts k (subst (λ (y : LogPlace). Covers g y open_parts k) (sym at_rest.head_is) c))) ∙ mid.blocks_are in
        let more_there : map a (range_with_len (block_at g (end_of p.head open_parts) + 1) (length part.blocks)) ≡ take piece.blocks (drop (blocks_in done) u.contents) =
        ap (λ (y : LogPlace). map a (range_with_len (block_at g y + 1) (length part.blocks))) mid.end_is ∙ here ∙ ap (λ (n : ℕ). take piece.blocks (drop n u.contents)) x in
        ap (map a) (blocks_at-append g p.head open_parts part)
        ∙ map-append a (blocks_at g p.head open_parts) (range_with_len (block_at g (end_of p.head open_parts) + 1) (length part.blocks))
        ∙ ap (λ (l : List (List ℕ)). l ++ map a (range_with_len (block_at g (end_of p.head open_parts) + 1) (length part.blocks))) so_far
        ∙ ap (λ (l : List (List ℕ)). take (blocks_in done) u.contents ++ l) more_there
        ∙ sym (take-add (blocks_in done) piece.blocks u.contents)

    module _ (no_more : last ≡ true → (b - piece.blocks ≡ 0) × (t - piece.tables ≡ 0)) where
      -- with the last part the unit is whole
      whole : (a : Image) → last ≡ true → serial ≡ p.serial + length done → map a (blocks_at g p.head (open_parts ++ part ∷ [])) ≡ take (blocks_in done + piece.blocks) u.contents
          → (u.closes && last ≡ u.closes) → Stands g p clean then u (done ++ piece ∷ []) a × (open_parts ++ part ∷ [] ≡ summaries u.closes p.serial u.records u.changes (done ++ piece ∷ []))
      whole a is_last serial_is there ends_is =
          let z = no_more is_last in
          let cut_is = reached_last g p.head clean (length u.records) (length u.changes) done head more b t reached piece then takes z.0 z.1 in
          let parts_are : open_parts ++ part ∷ [] ≡ summaries u.closes p.serial u.records u.changes (done ++ piece ∷ []) =
          ap (λ (s : Summary). open_parts ++ s ∷ []) (part_is u.closes ends_is serial_is) ∙ sym (summaries-last u.closes p.serial u.records u.changes done piece) in
          let all : length u.contents ≤ blocks_in done + piece.blocks = (let e = z.0 in omega (arith, reached.blocks_are)) in (
            record {
              are_cut = cut_is;
              blocks = ap (map a) (addresses_are g u.closes p.serial u.records u.changes p.head clean (done ++ piece ∷ []) then cut_is)
                  ∙ ap (λ (l : List Summary). map a (blocks_at g p.head l)) (sym parts_are) ∙ there ∙ take_all (blocks_in done + piece.blocks) u.contents all;
            },
            parts_are,
          )

      step : (first middle s : MachineState) → IsMidway g p clean u q more b t done first middle → AddsPiece g q piece.next part own middle s → WritesUnit g p clean u first s
      step first middle s midway adds parts at_rest closed numbered image may chance =
          let m = midway parts at_rest closed numbered in
          let a = adds more then (parts ++ open_parts) m.at_rest goes image may chance in
          let keeps : Keeps g p clean first image = λ k nf un. a.1 k (λ f. nf (m.was_free k f)) (m.same.pending k un) ∙ m.same.content k nf in
          let same : (k : ℕ) → Covers g p.start (parts ++ open_parts) k → image k ≡ middle.content k = covered g q more (parts ++ open_parts) middle m.at_rest image a.1 in
          let none = cut_opens p.serial u.records u.changes done in (
            ⊎_elim (λ has. inl (has_cut g p parts open_parts image closed none (record { beyond = has.beyond; chain = has.chain; open_ended = has.open_ended })))
                (λ has. by_last last refl u.closes refl m has.0 (blocks_more parts first middle image at_rest m same has.1) none) a.0,
            keeps,
          )
        where
          open_still : (u.closes && last) ≡ false → Has g q ((parts ++ open_parts) ++ part ∷ []) image → cut open_parts ≡ [] → HasUnit g p clean u parts image
          open_still ends_not has none =
              let one : cut (part ∷ []) ≡ [] = cut_single part ends_not in
              inl (has_cut g p parts (open_parts ++ part ∷ []) image closed (cut_open open_parts (part ∷ []) one ∙ none)
              (record { beyond = has.beyond; chain = subst (λ (l : List Summary). IsChain g image p.start p.first (l ++ has.beyond)) (append_assoc parts open_parts (part ∷ [])) has.chain; open_ended = has.open_ended }))

          by_last : (l : Bool) → last ≡ l → (c : Bool) → u.closes ≡ c → Mid g p clean u q more b t done parts first middle → Has g q ((parts ++ open_parts) ++ part ∷ []) image
              → map image (blocks_at g p.head (open_parts ++ part ∷ [])) ≡ take (blocks_in done + piece.blocks) u.contents → cut open_parts ≡ [] → HasUnit g p clean u parts image
          by_last false is c closes m has there none = open_still (ap (λ (x : Bool). u.closes && x) is ∙ and_false u.closes) has none
          by_last true is false closes m has there none = open_still (ap (λ (x : Bool). x && last) closes) has none
          by_last true is true closes m has there none =
              let ends_is : (u.closes && last) ≡ u.closes = ap (λ (x : Bool). u.closes && x) is ∙ and_true u.closes in
              let w = whole image is m.serial_is there ends_is in
              let ends : part.ends ≡ true = ends_is ∙ closes in
              let e : (parts ++ open_parts) ++ part ∷ [] ≡ with_unit p u parts (done ++ piece ∷ []) = append_assoc parts open_parts (part ∷ []) ∙ ap (λ (l : List Summary). parts ++ l) w.1 in
              inr (
                closes,
                (
                  done ++ piece ∷ [],
                  then,
                  w.0,
                  record {
                    all = ((parts ++ open_parts) ++ part ∷ []) ++ has.beyond;
                    chain = has.chain;
                    is = cut_open ((parts ++ open_parts) ++ part ∷ []) has.beyond has.open_ended ∙ cut_closed (parts ++ open_parts) part ends ∙ e;
                  },
                ),
              )

      pub unit_goes_on : (before middle now : Option History) → Runs before middle (WritesUnit g p clean u) → Ends before middle (IsMidway g p clean u q more b t done) → Runs middle now (AddsPiece g q piece.next part own)
          → Runs before now (WritesUnit g p clean u)
      unit_goes_on before middle now run ends adds = goes_on before middle now (WritesUnit g p clean u) (AddsPiece g q piece.next part own) (IsMidway g p clean u q more b t done) run ends adds step

      -- after one more part
      module _ (n : ℕ) (n_is : serial + 1 < 2 ^ 64 → n ≡ serial + 1) (place : IsLogPlace g head) (enough : HasClean g p.head clean (length u.records) (length u.changes)) where
        -- the serial behind the next part has room
        next_fits : Numbered g q more b t → serial + 1 < 2 ^ 64
        next_fits numbered = (let left = reached.left enough.0 enough.1 enough.2 in by_left left.0 left.2)
          where
            by_left : (qs : List Piece) → AreCut g head more b t qs enough.1 → serial + 1 < 2 ^ 64
            by_left [] none = absurd none
            by_left (x ∷ qs) cut = (let fits : serial + length (x ∷ qs) < 2 ^ 64 = numbered (x ∷ qs) enough.1 cut in omega arith)

        after : (first middle s : MachineState) (parts : List Summary) → IsAtRest g p clean parts first → Mid g p clean u q more b t done parts first middle → HasAddedPiece g q piece.next part own middle s
            → IsAtRest g (moved p piece.next n) then ((parts ++ open_parts) ++ part ∷ []) s × IsSame g p clean first s × (map s.content (blocks_at g p.head (open_parts ++ part ∷ [])) ≡ take (blocks_in done + piece.blocks) u.contents)
            × ((k : ℕ) → IsFree g piece.next then k → IsFree g p.head clean k)
        after first middle s parts at_rest m added =
            let a = added more then (parts ++ open_parts) m.at_rest goes in
            let n_same : serial + 1 ≡ n = sym (n_is (next_fits m.numbered)) in
            let same : IsSame g p clean first s = record {
              content = λ k nf. a.same.content k (λ f. nf (m.was_free k f)) ∙ m.same.content k nf;
              pending = λ k un. a.same.pending k (m.same.pending k un);
            } in (
              subst (λ (x : ℕ). IsAtRest g (moved p piece.next x) then ((parts ++ open_parts) ++ part ∷ []) s) n_same a.rest,
              same,
              blocks_more parts first middle s.content at_rest m (λ k c. a.same.content k (m.at_rest.behind k c)) a.blocks_are,
              λ k f. m.was_free k (a.was_free k f),
            )

        pub midway_goes_on : (before middle now : Option History) (run : Runs middle now (AddsPiece g q piece.next part own)) → Ends before middle (IsMidway g p clean u q more b t done) → Ends middle now (HasAddedPiece g q piece.next part own)
            → last ≡ false → 0 < (b - piece.blocks) + (t - piece.tables) → (b2 t2 : ℕ) → b2 ≡ b - piece.blocks → t2 ≡ t - piece.tables
            → Ends before now (IsMidway g p clean u (moved p piece.next n) then b2 t2 (done ++ piece ∷ []))
        midway_goes_on before middle now run ends added not_last some b2 t2 b_is t_is = ends_then before middle now run.calls run.is (IsMidway g p clean u q more b t done) (HasAddedPiece g q piece.next part own)
            (IsMidway g p clean u (moved p piece.next n) then b2 t2 (done ++ piece ∷ [])) ends added
            (λ first m s midway has parts at_rest closed numbered.
            let mid = midway parts at_rest closed numbered in
            let x = after first m s parts at_rest mid has in
            let n_same : n ≡ serial + 1 = n_is (next_fits mid.numbered) in
            let open_is : (u.closes && last) ≡ false = ap (λ (l : Bool). u.closes && l) not_last ∙ and_false u.closes in
            let parts_are : open_parts ++ part ∷ [] ≡ opens p.serial u.records u.changes (done ++ piece ∷ []) =
            ap (λ (y : Summary). open_parts ++ y ∷ []) (part_is false open_is mid.serial_is) ∙ sym (opens-append p.serial u.records u.changes done piece) in
            let takes_more = takes_some g head more b t piece then place takes (omega arith) in
            record {
              at_rest = subst (λ (l : List Summary). IsAtRest g (moved p piece.next n) then l s) (append_assoc parts open_parts (part ∷ []) ∙ ap (λ (l : List Summary). parts ++ l) parts_are) x.0;
              same = x.1;
              was_free = x.3;
              end_is = ap (end_of p.head) (sym parts_are) ∙ end_of-append p.head open_parts (part ∷ []);
              blocks_are = ap (λ (l : List Summary). map s.content (blocks_at g p.head l)) (sym parts_are) ∙ x.2 ∙ ap (λ (k : ℕ). take k u.contents) (sym (blocks_sum done piece));
              serial_is = omega (arith, mid.serial_is, length-append done (piece ∷ []));
              numbered = λ ps rest cut.
                  let left : AreCut g piece.next then (b - piece.blocks) (t - piece.tables) ps rest = subst (λ (k : ℕ). AreCut g piece.next then k (t - piece.tables) ps rest) b_is (subst (λ (k : ℕ). AreCut g piece.next then b2 k ps rest) t_is cut) in
                  let fits : serial + length (piece ∷ ps) < 2 ^ 64 = mid.numbered (piece ∷ ps) rest (cut_before g head more b t piece then takes some ps rest left) in
                  omega arith;
            })

        pub unit_ends : (before middle now : Option History) (run : Runs middle now (AddsPiece g q piece.next part own)) → Ends before middle (IsMidway g p clean u q more b t done) → Ends middle now (HasAddedPiece g q piece.next part own)
            → last ≡ true → Ends before now (HasWritten g p clean u (moved p piece.next n) then)
        unit_ends before middle now run ends added is_last = ends_then before middle now run.calls run.is (IsMidway g p clean u q more b t done) (HasAddedPiece g q piece.next part own)
            (HasWritten g p clean u (moved p piece.next n) then) ends added
            (λ first m s midway has parts at_rest closed numbered.
            let mid = midway parts at_rest closed numbered in
            let x = after first m s parts at_rest mid has in
            let ends_is : (u.closes && last) ≡ u.closes = ap (λ (l : Bool). u.closes && l) is_last ∙ and_true u.closes in
            let w = whole s.content is_last mid.serial_is x.2 ends_is in (
              done ++ piece ∷ [],
              record {
                stands = w.0;
                at_rest = subst (λ (l : List Summary). IsAtRest g (moved p piece.next n) then l s) (append_assoc parts open_parts (part ∷ []) ∙ ap (λ (l : List Summary). parts ++ l) w.1) x.0;
                same = x.1;
                closed = subst (IsClosed u.closes parts) w.1 (closed_by u.closes ends_is parts (cut_opens p.serial u.records u.changes done));
              },
            ))
          where
            closed_by : (c : Bool) → (u.closes && last) ≡ c → (parts : List Summary) → cut open_parts ≡ [] → IsClosed c parts (open_parts ++ part ∷ [])
            closed_by true is parts none = ap cut (sym (append_assoc parts open_parts (part ∷ []))) ∙ cut_closed (parts ++ open_parts) part is ∙ append_assoc parts open_parts (part ∷ [])
            closed_by false is parts none = cut_open open_parts (part ∷ []) (cut_single part is) ∙ none

-- before anything is written
pub unit_starts : (g : Layout) (p : Position) (clean : List ℕ) (u : Brought) (before : Option History) → Runs before before (WritesUnit g p clean u)
unit_starts g p clean u before = unit_begins g p clean u before before (starts before (KeepsChain g p) (λ h e more parts rest. rest_leaves g p more parts (state_now h) rest))
