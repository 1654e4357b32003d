-- The first unit brings the root's inode.
use Rattle.std.proofs.Common.{◌≡◌, inl, inr, ℕ, ◌+◌, ◌*◌, ◌<◌, ◌≤◌, List, [], ◌∷◌, map, drop, get_or, refl, sym, ◌∙◌, ap, subst, arith}
use Rattle.std.specs.Prelude.{Option, slice_index}
use Rattle.std.proofs.Math.Seq.{drop-nil}
use Rattle.hl_media.specs.History.{PendingWrite, MachineState, History, IsUntouched, state_now}
use Rattle.hl_media.specs.Moments.{Ends, Now, Runs}
use Rattle.hl_addr.specs.Layout.{Layout, IsWithinLimits}
use Rattle.hl_bytes.specs.Fields.{zeros}
use Rattle.hl_image.specs.declared.place.LogPlace.{LogPlace}
use Rattle.hl_image.specs.Places.{block_at, log_end}
use Rattle.hl_image.specs.Parts.{NoPart}
use Rattle.hl_image.proofs.PartLemmas.{no_part_zeros}
use Rattle.hl_log.specs.declared.piece.Piece.{Piece}
use Rattle.hl_log.specs.declared.position.Position.{Position}
use Rattle.hl_log.specs.Cut.{addresses}
use Rattle.hl_log.specs.Free.{IsFree}
use Rattle.hl_log.specs.Rest.{IsAtRest, IsSynced, OnlyFrom}
use Rattle.hl_log.specs.Units.{Brought, GoesOn, HasCleanFor, HasWritten, UnitGoesOn, UnitStands, WritesUnit, moved, with_unit}
use Rattle.hl_log.proofs.Sites.{large_segments}
use Rattle.hl_log.proofs.Wraps.{runs_map}
use Rattle.hl_nodes.specs.Listing.{IsListed, ListsUnit}
use Rattle.hl_nodes.specs.Live.{record_of}
use Rattle.hl_nodes.specs.Live.NodeBlock.{Own}
use Rattle.hl_nodes.specs.Units.{IsPlanned}
use Rattle.hl_nodes.proofs.ListingLaws.{unit_lists}
use Rattle.hl_mkfs.specs.Parts.{log_start, root_address, root_bytes, root_unit}
use Rattle.hl_mkfs.specs.Stages.{IsBlank, IsRooted, Leads, LeavesNoLabel, opened_position, rooted_position}
use Rattle.hl_mkfs.specs.Stops.{StopLeaves}
use Rattle.hl_mkfs.proofs.FirstCuts.{goes_to_root, none_clean, only_root_piece, root_cut, root_numbered, root_piece, start_place}

-- nothing below the head is free
pub low_not_free : (g : Layout) (head : LogPlace) (k : ℕ) → k < block_at g head → IsFree g head [] k → ⊥
low_not_free g head k lt (inl ahead) = (let le = ahead.0 in omega arith)
low_not_free g head k lt (inr none) = none

module _ (g : Layout) (is : IsWithinLimits g) (first : MachineState) (blank : IsBlank g first) where
  start_at : block_at g log_start ≡ g.k
  start_at = omega arith

  none_there : NoPart g first.content log_start 1
  none_there = no_part_zeros g first.content log_start 1 (ap first.content start_at ∙ blank.log)

  -- BEFORE ANY UNIT the log is at rest
  pub blank_rests : IsAtRest g opened_position [] [] first
  blank_rests = record {
    quiet = subst (OnlyFrom (log_end g)) (sym blank.bare.synced) tt;
    start = start_place g is;
    head = start_place g is;
    cleans = none_clean g 1;
    walk = tt;
    head_is = refl;
    serial_is = refl;
    behind = λ b none free. none;
    at_head = ([], record { walk = tt; last = none_there }, refl, refl);
  }

  start_listed : IsListed g first.content 1 0
  start_listed = record { parts = []; row = tt; reach = refl }

  untouched : (k : ℕ) → IsUntouched first.pending k
  untouched k = subst (λ (ws : List PendingWrite). IsUntouched ws k) (sym blank.bare.synced) tt

  not_free : (k : ℕ) → k ≤ 2 → 64 ≤ g.k → IsFree g log_start [] k → ⊥
  not_free k low many free = low_not_free g log_start k (omega arith) free

  module _ (many : 64 ≤ g.k) where
    -- THE FIRST UNIT, AT EACH MOMENT: there is no label
    pub root_no_label : (blocks : ℕ) (s : MachineState) → WritesUnit g opened_position [] root_unit first s → StopLeaves blocks g (λ image. image 0 ≡ zeros 4096) s
    root_no_label blocks s writes image may chance label =
        (writes [] blank_rests refl (root_numbered g is) image may chance).1 0 (not_free 0 (omega arith) many) (untouched 0) ∙ blank.bare.cleared.label

    module _ (s : MachineState) (synced : s.pending ≡ []) (written : HasWritten g opened_position [] root_unit rooted_position [] first s) where
      done : (pieces : List Piece) × UnitStands g opened_position [] root_unit rooted_position [] [] pieces first s
      done = written [] blank_rests refl (root_numbered g is)

      lists : (pieces : List Piece) × ListsUnit g opened_position [] root_unit rooted_position [] pieces first s
      lists = unit_lists g opened_position [] root_unit rooted_position [] [] first s is blank_rests refl refl (root_numbered g is) written start_listed

      kept : (k : ℕ) → k ≤ 2 → s.content k ≡ first.content k
      kept k low = done.1.same.content k (not_free k low many)

      place : g.k * 1 + 0 + 1 ≡ root_address g
      place = omega arith

      there : s.content (root_address g) ≡ root_bytes
      there =
          let pieces = only_root_piece g is done.0 [] done.1.stands.are_cut in
          let all : map s.content (addresses g (root_piece ∷ [])) ≡ root_bytes ∷ [] = ap (λ (ps : List Piece). map s.content (addresses g ps)) (sym pieces) ∙ done.1.stands.blocks in
          ap s.content (sym place) ∙ ap (λ (l : List (List ℕ)). get_or l 0 []) all

      planned : (pieces : List Piece) → pieces ≡ root_piece ∷ [] → IsPlanned root_unit (addresses g pieces) (record_of 1 Own) (root_address g)
      planned pieces e = record {
        index = 0;
        there = omega arith;
        named = refl;
        lies = ap (λ (ps : List Piece). slice_index (addresses g ps) 0) e ∙ place;
      }

      -- AND AFTERWARDS the root's inode stands in the log, and is listed
      pub is_rooted : IsRooted g s
      is_rooted = record {
        bare = record {
          synced = synced;
          cleared = record {
            label = kept 0 (omega arith) ∙ blank.bare.cleared.label;
            odd = kept 1 (omega arith) ∙ blank.bare.cleared.odd;
            even = kept 2 (omega arith) ∙ blank.bare.cleared.even;
          };
        };
        parts = with_unit opened_position root_unit [] done.0;
        at_rest = done.1.at_rest;
        closed = done.1.closed;
        root = there;
        ahead = lists.1.ahead;
        listed = lists.1.brought (record_of 1 Own) (root_address g) (planned lists.0 (only_root_piece g is lists.0 [] lists.1.are_cut));
      }

-- the clauses of the call that writes it
module _ (g : Layout) (is : IsWithinLimits g) (before now : Option History) (at : Position) (u : Brought) (at_is : at ≡ opened_position) (unit_is : u ≡ root_unit) where
  pub root_runs : (blocks : ℕ) → Runs before now (WritesUnit g at [] u) → Runs before now (LeavesNoLabel (IsBlank g) blocks g)
  root_runs blocks run = runs_map before now (WritesUnit g at [] u) (LeavesNoLabel (IsBlank g) blocks g) run
      (λ first s writes blank. root_no_label g is first blank (large_segments g is) blocks s
      (subst (λ (p : Position). WritesUnit g p [] root_unit first s) at_is (subst (λ (x : Brought). WritesUnit g at [] x first s) unit_is writes)))

  pub root_position : (q : Position) (used : ℕ) → q ≡ moved at q.head q.serial → UnitGoesOn g at [] u q used → q ≡ rooted_position
  root_position q used q_is on =
      let goes : GoesOn g opened_position [] 1 0 q.head q.serial (drop used []) =
      subst (λ (p : Position). GoesOn g p [] 1 0 q.head q.serial (drop used [])) at_is (subst (λ (x : Brought). UnitGoesOn g at [] x q used) unit_is on) in
      q_is ∙ ap (λ (p : Position). moved p q.head q.serial) at_is ∙ goes_to_root g is q.head q.serial (drop used []) goes

  pub root_ends : (q : Position) (used : ℕ) → q ≡ rooted_position → Ends before now (HasWritten g at [] u q (drop used [])) → Now now IsSynced → Ends before now (Leads (IsBlank g) (IsRooted g))
  root_ends q used q_is written synced h e h' e' blank =
      let w = written h e h' e' in
      let w1 = subst (λ (p : Position). HasWritten g p [] u q (drop used []) (state_now h) (state_now h')) at_is w in
      let w2 = subst (λ (x : Brought). HasWritten g opened_position [] x q (drop used []) (state_now h) (state_now h')) unit_is w1 in
      let w3 = subst (λ (p : Position). HasWritten g opened_position [] root_unit p (drop used []) (state_now h) (state_now h')) q_is w2 in
      let w4 = subst (λ (l : List ℕ). HasWritten g opened_position [] root_unit rooted_position l (state_now h) (state_now h')) (drop-nil used) w3 in
      is_rooted g is (state_now h) blank (large_segments g is) (state_now h') (synced h' e') w4

  -- the segment has room for it
  pub root_enough : HasCleanFor g at.head [] u
  root_enough = subst (λ (p : Position). HasCleanFor g p.head [] u) (sym at_is) (subst (HasCleanFor g log_start []) (sym unit_is) (root_piece ∷ [], [], root_cut g is))
