-- What a unit leaves of the contents of an image.
use Rattle.std.proofs.Common.{◌≡◌, ◌⊎◌, inl, inr, ⊎_elim, ℕ, ◌<◌, ◌≤◌, Bool, true, List, ◌++◌, length, map, refl, sym, ◌∙◌, ap, subst, arith}
use Rattle.std.specs.Prelude.{slice_index, Some, Contains}
use Rattle.std.proofs.lemmas.List.{get_or_default}
use Rattle.hl_bytes.specs.declared.records.BlockRecord.{BlockRecord}
use Rattle.hl_media.specs.History.{Image, MachineState, IsUntouched}
use Rattle.hl_addr.specs.Layout.{Layout, IsWithinLimits}
use Rattle.hl_summary.specs.declared.parts.Summary.{Summary}
use Rattle.hl_image.specs.Places.{log_end, InLog}
use Rattle.hl_image.specs.declared.place.LogPlace.{LogPlace}
use Rattle.hl_image.specs.Chain.{end_of, cut, IsChain, IsCutChain}
use Rattle.hl_image.specs.Newest.{IsNewest, start_of}
use Rattle.hl_image.proofs.ChainLemmas.{cut_cut, cut_open}
use Rattle.hl_log.specs.declared.position.Position.{Position}
use Rattle.hl_log.specs.declared.piece.Piece.{Piece}
use Rattle.hl_log.specs.Cut.{AreCut, addresses, summaries}
use Rattle.hl_log.specs.Rest.{Has, Keeps, StopLeaves}
use Rattle.hl_log.specs.Units.{Brought, with_unit, HasUnit, Numbered, WritesUnit, UnitStands, HasWritten, IsClosed}
use Rattle.hl_log.proofs.Steps as steps
use Rattle.hl_log.proofs.Sites.{large_segments}
use Rattle.hl_log.proofs.Records.{newest_same}
use Rattle.hl_log.proofs.TwoPhases.{one_cut, length-addresses}
use Rattle.hl_tables.specs.Values.{TableValues}
use Rattle.hl_paths.specs.Nodes.{Nodes}
use Rattle.hl_nodes.specs.Tables.{parts_laid, HasLaidTables}
use Rattle.hl_nodes.specs.Live.{NodeBlock, IsNodeBlock, LiveBlock, live_record, IsLiveAt, IsLive}
use Rattle.hl_nodes.specs.Live.NodeBlock.{Own, Pointers, Content}
use Rattle.hl_nodes.specs.Live.LiveBlock.{Table, OfNode}
use Rattle.hl_nodes.specs.Contents.{Contents, HasContents, Rests}
use Rattle.hl_nodes.specs.Units.{unit_laid, TakesIn, IsPlanned, Makes, after_unit}
use Rattle.hl_nodes.proofs.PointerLemmas.{in_log-high}
use Rattle.hl_nodes.proofs.Frame.{limits_of, table_count, contents_same, tables_same}
use Rattle.hl_nodes.proofs.Laying.{parts_laid-append, parts_laid-k, unit_row}
use Rattle.hl_log.proofs.Cleans.{free_from}
use Rattle.hl_log.proofs.Behind.{free_before, none_free}

-- a live block of a node lies in the log
pub node_in_log : (g : Layout) (image : Image) (t : TableValues) (ino : ℕ) (block : NodeBlock) (address : ℕ) → IsNodeBlock g image t ino block address → InLog g address
node_in_log g image t ino Own address is = subst (InLog g) is.lies is.there.in_log
node_in_log g image t ino Pointers address is = is.lies.0
node_in_log g image t ino (Content i) address is = is.lies.1

-- a live block lies in the log
pub live_in_log : (g : Layout) (image : Image) (c : Contents) → HasContents g image c → (address : ℕ) → IsLive g image c.rec c.tables address → InLog g address
live_in_log g image c has address live = by_block live.block live.lies
  where
    by_block : (block : LiveBlock) → IsLiveAt g image c.rec c.tables block address → InLog g address
    by_block (Table i) is = subst (InLog g) is.1 (has.tables.spelled.in_log i is.0)
    by_block (OfNode ino block) is = node_in_log g image c.tables ino block address is

module _ (g : Layout) (p : Position) (clean : List ℕ) (c : Contents) (first : MachineState) (rests : Rests g p clean c first) where
  pub limits : IsWithinLimits g
  limits = limits_of g first.content c.rec rests.has.newest rests.has.volumes

  pub large : 64 ≤ g.k
  large = large_segments g limits

  -- no part of the log is pending
  pub untouched : (k : ℕ) → k < log_end g → IsUntouched first.pending k
  untouched = steps.untouched g p clean c.parts first rests.at_rest

  -- the parts end a unit
  pub closed : cut c.parts ≡ c.parts
  closed = ap cut (sym rests.has.chain.is) ∙ cut_cut rests.has.chain.all ∙ rests.has.chain.is

  -- what a unit keeps: the live blocks and the blocks of the records
  module _ (image : Image) (keeps : Keeps g p clean first image) where
    pub live_kept : (address : ℕ) → IsLive g first.content c.rec c.tables address → image address ≡ first.content address
    live_kept address live = keeps address (rests.apart address live) (untouched address (in_log-high g limits address (live_in_log g first.content c rests.has address live)))

    low_kept : (k : ℕ) → k < g.k → image k ≡ first.content k
    low_kept k low = keeps k
        (λ free. (let from = free_from g p.head clean k rests.at_rest.head rests.at_rest.cleans free in omega arith))
        (untouched k (omega arith))

    pub newest_kept : IsNewest g image (Some c.rec)
    newest_kept = newest_same g first.content image (Some c.rec) (low_kept 1 (omega arith)) (low_kept 2 (omega arith)) rests.has.newest

    -- with the chain as it was the image has the contents as they were
    pub old_kept : IsCutChain g image p.start p.first c.parts → HasContents g image c
    old_kept chain = contents_same g first.content image c live_kept newest_kept chain_is rests.has
      where
        chain_is : IsCutChain g image (start_of c.rec) c.rec.serial c.parts
        chain_is = subst (λ (n : ℕ). IsCutChain g image (start_of c.rec) n c.parts) rests.first_is (subst (λ x. IsCutChain g image x p.first c.parts) rests.start_is chain)

  module _ (u : Brought) (pieces : List Piece) (rest : List ℕ) (cut_is : AreCut g p.head clean (length u.records) (length u.changes) pieces rest) (nodes : Nodes)
      (makes : Makes g first.content c u (addresses g pieces) nodes) where
    abbrev plan : List ℕ
    plan = addresses g pieces

    abbrev after : Contents
    after = after_unit g p c u pieces nodes

    -- a block of the unit lies at an address of its plan
    pub planned_in : (r : BlockRecord) (address : ℕ) → IsPlanned u plan r address → Contains plan address
    planned_in r address is =
        let size : length plan ≡ length u.records = length-addresses g p.head clean (length u.records) (length u.changes) pieces rest cut_is in
        let low : is.index < length plan = (let lt = is.there in omega arith) in
        subst (Contains plan) is.lies (is.index, low, get_or_default plan is.index (slice_index plan is.index) 0 low)

    -- the tables behind the unit are those with the unit laid over them
    laid_is : (before : TableValues) → before.k ≡ g.k → parts_laid before (start_of c.rec) c.parts ≡ c.tables → parts_laid before (start_of c.rec) (with_unit p u c.parts pieces) ≡ after.tables
    unfolding unit_laid
    laid_is before k laid =
        let unit = summaries u.closes p.serial u.records u.changes pieces in
        let head : end_of (start_of c.rec) c.parts ≡ p.head = ap (λ x. end_of x c.parts) (sym rests.start_is) ∙ rests.at_rest.head_is in
        parts_laid-append before (start_of c.rec) c.parts unit
        ∙ ap (λ (t : TableValues). parts_laid t (end_of (start_of c.rec) c.parts) unit) laid
        ∙ ap (λ x. parts_laid c.tables x unit) head
        ∙ unit_row g u.closes c.tables p.serial p.head clean u.records u.changes pieces rest (ap (λ (t : TableValues). t.k) (sym laid) ∙ parts_laid-k before (start_of c.rec) c.parts ∙ k) cut_is makes.frees_others

    module _ (image : Image) (takes : TakesIn g first.content c u plan image) where
      -- an image with the unit's blocks behind the chain has the contents behind the unit
      pub new_there : IsNewest g image (Some c.rec) → IsCutChain g image p.start p.first (with_unit p u c.parts pieces) → HasContents g image after
      new_there newest chain = record {
        newest = newest;
        volumes = rests.has.volumes;
        chain = subst (λ (n : ℕ). IsCutChain g image (start_of c.rec) n after.parts) rests.first_is (subst (λ x. IsCutChain g image x p.first after.parts) rests.start_is chain);
        tables = record { before = tables.before; spelled = tables.spelled; laid_over = laid_is tables.before tables.spelled.values.shape.segment_size tables.laid_over };
        nodes = makes.nodes_are image takes;
      }
        where
          tables : HasLaidTables g image c.rec c.parts c.tables
          tables = tables_same g first.content image c.rec c.parts c.tables (table_count g first.content c.rec rests.has.newest rests.has.volumes) (λ i lt. takes.kept (slice_index c.rec.tables i) (record { block = Table i; lies = (lt, refl) })) rests.has.tables

      -- and each live block is one of the unit's, or lies where it lay before
      pub new_origin : (block : LiveBlock) (address : ℕ) → IsLiveAt g image c.rec after.tables block address → IsPlanned u plan (live_record block) address ⊎ IsLiveAt g first.content c.rec c.tables block address
      new_origin (Table i) address is = inr is
      new_origin (OfNode ino block) address is = makes.blocks_are image takes ino block address is

      pub new_live : (address : ℕ) → IsLive g image c.rec after.tables address → Contains plan address ⊎ IsLive g first.content c.rec c.tables address
      new_live address live = ⊎_elim
          (λ is. inl (planned_in (live_record live.block) address is))
          (λ is. inr (record { block = live.block; lies = is }))
          (new_origin live.block address live.lies)

    -- an image that has all of the unit or none of it has the contents before it or behind it
    pub unit_holds : (image : Image) → Keeps g p clean first image → HasUnit g p clean u c.parts image → HasContents g image c ⊎ HasContents g image after
    unit_holds image keeps (inl chain) = inl (old_kept image keeps chain)
    unit_holds image keeps (inr (closes, (own, left, stands, chain))) =
        let same : own ≡ pieces = one_cut g p.head clean (length u.records) (length u.changes) own pieces left rest stands.are_cut cut_is in
        inr (new_there image (record { brought = subst (λ (l : List Piece). map image (addresses g l) ≡ u.contents) same stands.blocks; kept = live_kept image keeps }) (newest_kept image keeps)
        (subst (λ (l : List Piece). IsCutChain g image p.start p.first (with_unit p u c.parts l)) same chain))

    -- THE UNIT, AT EACH MOMENT: whatever a stop leaves has the contents before it or behind it
    pub unit_leaves : (s : MachineState) → Numbered g p clean (length u.records) (length u.changes) → WritesUnit g p clean u first s
        → StopLeaves g p (λ image. HasContents g image c ⊎ HasContents g image after) s
    unit_leaves s numbered writes image may chance = (let l = writes c.parts rests.at_rest closed numbered image may chance in unit_holds image l.1 l.0)

    module _ (closes : u.closes ≡ true) (q : Position) (start_same : q.start ≡ p.start) (first_same : q.first ≡ p.first) (left : List ℕ) (s : MachineState) (stands : UnitStands g p clean u q left c.parts pieces first s) where
      abbrev unit : List Summary
      unit = summaries u.closes p.serial u.records u.changes pieces

      content_kept : (address : ℕ) → IsLive g first.content c.rec c.tables address → s.content address ≡ first.content address
      content_kept address live = stands.same.content address (rests.apart address live)

      content_newest : IsNewest g s.content (Some c.rec)
      content_newest = newest_same g first.content s.content (Some c.rec) (low 1 (omega arith)) (low 2 (omega arith)) rests.has.newest
        where
          low : (k : ℕ) → k < g.k → s.content k ≡ first.content k
          low k small = stands.same.content k (λ free. (let from = free_from g p.head clean k rests.at_rest.head rests.at_rest.cleans free in omega arith))

      content_chain : IsCutChain g s.content p.start p.first after.parts
      content_chain =
          let has : Has g q after.parts s.content = steps.has_same g q left after.parts s stands.at_rest s.content (λ k lt. refl) in
          let whole : IsClosed true c.parts unit = subst (λ (b : Bool). IsClosed b c.parts unit) closes stands.closed in
          record {
            all = after.parts ++ has.beyond;
            chain = subst (λ (n : ℕ). IsChain g s.content p.start n (after.parts ++ has.beyond)) first_same (subst (λ (x : LogPlace). IsChain g s.content x q.first (after.parts ++ has.beyond)) start_same has.chain);
            is = cut_open after.parts has.beyond has.open_ended ∙ whole;
          }

      unit_rests : Rests g q left after s
      unit_rests = record {
        at_rest = stands.at_rest;
        start_is = start_same ∙ rests.start_is;
        first_is = first_same ∙ rests.first_is;
        has = new_there s.content (record { brought = stands.stands.blocks; kept = content_kept }) content_newest content_chain;
        apart = λ address live free. ⊎_elim
            (λ i. none_free g p clean u q left c.parts pieces first s rests.at_rest start_same stands address i free)
            (λ old. rests.apart address old (free_before g p clean u q left c.parts pieces first s rests.at_rest start_same stands address free))
            (new_live s.content (record { brought = stands.stands.blocks; kept = content_kept }) address live);
      }

    -- THE UNIT, AFTERWARDS: the log is at rest over the contents behind it
    pub unit_ends : u.closes ≡ true → (q : Position) → q.start ≡ p.start → q.first ≡ p.first → (left : List ℕ) (s : MachineState) → Numbered g p clean (length u.records) (length u.changes)
        → HasWritten g p clean u q left first s → Rests g q left after s
    unit_ends closes q start_same first_same left s numbered written =
        let w = written c.parts rests.at_rest closed numbered in
        let same : w.0 ≡ pieces = one_cut g p.head clean (length u.records) (length u.changes) w.0 pieces left rest w.1.stands.are_cut cut_is in
        unit_rests closes q start_same first_same left s (subst (λ (l : List Piece). UnitStands g p clean u q left c.parts l first s) same w.1)
