-- Units and checkpoints keep live blocks listed.
use Rattle.std.proofs.Common.{◌≡◌, ◌⊎◌, inl, inr, ⊎_elim, ℕ, ◌<◌, ◌+◌, ◌≤◌, Bool, true, false, List, [], ◌∷◌, ◌++◌, length, drop, map, Option, refl, sym, ◌∙◌, ap, subst, arith}
use Rattle.std.specs.Prelude.{Some, slice_index}
use Rattle.std.proofs.lemmas.List.FromFn.{length-map-range_with_len, get_or-map-range_with_len}
use Rattle.hl_media.specs.History.{Image, MachineState, History, IsUntouched}
use Rattle.hl_media.specs.Moments.{Runs, Ends}
use Rattle.hl_addr.specs.Layout.{Layout, IsWithinLimits}
use Rattle.hl_bytes.specs.declared.records.BlockRecord.{BlockRecord}
use Rattle.hl_bytes.specs.declared.records.TableRecord.{TableRecord}
use Rattle.hl_super.specs.declared.record.Record.{Record}
use Rattle.hl_summary.specs.declared.parts.Summary.{Summary}
use Rattle.hl_image.specs.declared.place.LogPlace.{LogPlace}
use Rattle.hl_image.specs.Places.{log_end}
use Rattle.hl_image.specs.Chain.{Walk, cut, end_of, IsCutChain}
use Rattle.hl_image.specs.Newest.{start_of}
use Rattle.hl_image.proofs.ChainLemmas.{splits, walk_behind, end_of-append}
use Rattle.hl_log.specs.declared.position.Position.{Position}
use Rattle.hl_log.specs.declared.piece.Piece.{Piece}
use Rattle.hl_log.specs.Free.{IsFree}
use Rattle.hl_log.specs.Cut.{AreCut, addresses, place_behind, summaries}
use Rattle.hl_log.specs.Loads.{table_record, table_records}
use Rattle.hl_log.specs.Rest.{IsAtRest, Keeps, StopLeaves}
use Rattle.hl_log.specs.Units.{Brought, with_unit, HasUnit, Numbered, WritesUnit, HasWritten, moved}
use Rattle.hl_log.specs.Checkpoints.{Given, HasTables, HasNew, HasCheckpoint, KeepsRest, Checkpoints, HasCheckpointed}
use Rattle.hl_log.proofs.Sites.{large_segments}
use Rattle.hl_log.proofs.Resting.{walk_front}
use Rattle.hl_log.proofs.TwoPhases.{one_cut, length-addresses}
use Rattle.hl_log.proofs.Wraps.{runs_map}
use Rattle.hl_tables.specs.Values.{TableValues}
use Rattle.hl_paths.specs.Nodes.{Nodes}
use Rattle.hl_nodes.specs.Live.{LiveBlock, record_of, live_record, IsLiveAt, IsLive}
use Rattle.hl_nodes.specs.Live.LiveBlock.{Table, OfNode}
use Rattle.hl_nodes.specs.Contents.{Contents, Rests}
use Rattle.hl_nodes.specs.Units.{TakesIn, Makes, after_unit}
use Rattle.hl_nodes.specs.Checkpoints.{contents_of_tables, IsCheckpointOf, Carries, checkpointed, after_checkpoint}
use Rattle.hl_nodes.specs.Sound.{head_of}
use Rattle.hl_nodes.specs.Listing.{IsListed, HasListed, AreListed, AreNodesListed, ListsUnit, HoldsListed, MovesListed, HasMovedListed, HasSameListed, KeepsListed, HasKeptListed}
use Rattle.hl_nodes.proofs.Frame.{block_back, live_at_back}
use Rattle.hl_nodes.proofs.PointerLemmas.{in_log-high}
use Rattle.hl_nodes.proofs.RestLaws.{rest_leaves}
use Rattle.hl_nodes.proofs.UnitLaws.{limits, large, untouched, closed, live_in_log, live_kept, newest_kept, old_kept, new_there, new_origin, unit_ends}
use Rattle.hl_nodes.proofs.CheckpointLaws.{moved_block, nodes_agree, carried, volumes_are, new_has, old_live_kept, old_holds, ready}
use Rattle.hl_nodes.proofs.Listed.{ahead_on, brought_on, ahead_kept, listed_kept, listed_behind}

-- where a cut goes on, by its pieces
end_of-summaries : (closes : Bool) (serial : ℕ) (records : List BlockRecord) (changes : List TableRecord) (at : LogPlace) (pieces : List Piece) → end_of at (summaries closes serial records changes pieces) ≡ place_behind at pieces
end_of-summaries closes serial records changes at [] = refl
end_of-summaries closes serial records changes at (p ∷ []) = refl
end_of-summaries closes serial records changes at (p ∷ q ∷ ps) = end_of-summaries closes (serial + 1) (drop p.blocks records) (drop p.tables changes) p.next (q ∷ ps)

-- A checkpoint over tables that name nodes, whose blocks are listed: with its record the table blocks are listed too.
module _ (g : Layout) (p : Position) (clean : List ℕ) (parts : List Summary) (t : TableValues) (nodes : Nodes) (first : MachineState) (carries : Carries g p clean parts t nodes first) (d : Given) (volumes : d.volumes ≡ g.volumes)
    (image : Image) (keeps : KeepsRest g p clean first image) (l : AreNodesListed g first.content t p.head) where
  abbrev tables : List (List ℕ)
  tables = contents_of_tables g t

  abbrev records : List BlockRecord
  records = table_records (length tables)

  count : length records ≡ length tables
  count = length-map-range_with_len table_record 0 (length tables)

  many : 64 ≤ g.k
  many = large_segments g carries.limits

  module _ (new : Record) (has : HasNew g p clean d tables new image) where
    abbrev table_pieces : List Piece
    table_pieces = has.tables_stand.0

    abbrev spare : List ℕ
    spare = has.tables_stand.1

    stands : HasTables g p clean spare tables new table_pieces image
    stands = has.tables_stand.2

    abbrev table_unit : List Summary
    table_unit = summaries false p.serial records [] table_pieces

    cut_here : AreCut g p.head clean (length records) 0 table_pieces spare
    cut_here = subst (λ (n : ℕ). AreCut g p.head clean n 0 table_pieces spare) (sym count) stands.are_cut

    ahead : IsListed g image p.head.seg p.head.block
    ahead = ahead_kept g p clean parts first carries.at_rest many image (λ k low. keeps k) l.ahead

    listed_by : (block : LiveBlock) (address : ℕ) → IsLiveAt g image new t block address → HasListed g image (end_of p.head table_unit) (live_record block) address
    listed_by (Table i) address at =
        let size : length new.tables ≡ length (addresses g table_pieces) = ap (λ (x : List ℕ). length x) stands.named in
        let low = at.0 in
        brought_on g image false p.serial records [] p.head clean table_pieces spare carries.at_rest.head carries.at_rest.cleans cut_here stands.walk ahead.parts ahead.row ahead.reach (live_record (Table i)) address i
        (omega (arith, count, length-addresses g p.head clean (length tables) 0 table_pieces spare stands.are_cut))
        (get_or-map-range_with_len table_record 0 (length tables) i i (live_record (Table i)) (omega (arith, length-addresses g p.head clean (length tables) 0 table_pieces spare stands.are_cut)) (omega arith))
        (ap (λ (x : List ℕ). slice_index x i) (sym stands.named) ∙ at.1)
    listed_by (OfNode ino b) address at =
        let old = block_back g first.content image t carries.limits nodes (nodes_agree g p clean parts t nodes first carries d volumes image keeps) carries.nodes_are ino b address at in
        listed_behind g p clean parts first carries.at_rest many image (λ k low. keeps k) (record_of ino b) address (carries.apart ino b address old) (l.blocks ino b address old) false records [] table_pieces spare cut_here stands.walk

    pub first_holds : HoldsListed g image (checkpointed new t nodes)
    first_holds = record {
      has = new_has g p clean parts t nodes first carries d volumes image keeps new has;
      listed = subst (AreListed g image (checkpointed new t nodes)) (end_of-summaries false p.serial records [] p.head table_pieces ∙ sym stands.start_is) (record {
        ahead = ahead_on g image false p.serial records [] p.head clean table_pieces spare cut_here stands.walk ahead.parts ahead.row ahead.reach;
        blocks = listed_by;
      });
    }

-- What a unit lists, whatever else the image holds.
module _ (g : Layout) (p : Position) (clean : List ℕ) (u : Brought) (q : Position) (left : List ℕ) (parts : List Summary) (first s : MachineState) (limits : IsWithinLimits g) (at_rest : IsAtRest g p clean parts first) (at : q ≡ moved p q.head q.serial) where
  pub unit_lists : cut parts ≡ parts → Numbered g p clean (length u.records) (length u.changes) → HasWritten g p clean u q left first s → IsListed g first.content p.head.seg p.head.block → (pieces : List Piece) × ListsUnit g p clean u q left pieces first s
  unit_lists closed_parts numbered written l =
      let w = written parts at_rest closed_parts numbered in
      let pieces = w.0 in
      let stands = w.1 in
      let unit = summaries u.closes p.serial u.records u.changes pieces in
      let start_same : q.start ≡ p.start = ap (λ (x : Position). x.start) at in
      let first_same : q.first ≡ p.first = ap (λ (x : Position). x.first) at in
      let all : Walk g s.content p.start p.first (parts ++ unit) = subst (λ (x : LogPlace). Walk g s.content x p.first (parts ++ unit)) start_same
      (subst (λ (n : ℕ). Walk g s.content q.start n (parts ++ unit)) first_same stands.at_rest.walk) in
      let walk : Walk g s.content p.head p.serial unit = subst (λ (n : ℕ). Walk g s.content p.head n unit) at_rest.serial_is
      (subst (λ (x : LogPlace). Walk g s.content x (p.first + length parts) unit) at_rest.head_is (walk_behind g s.content p.start p.first parts unit all)) in
      let head : end_of p.head unit ≡ q.head = ap (λ (x : LogPlace). end_of x unit) (sym at_rest.head_is) ∙ sym (end_of-append p.start parts unit)
      ∙ ap (λ (x : LogPlace). end_of x (parts ++ unit)) (sym start_same) ∙ stands.at_rest.head_is in
      let large_log = large_segments g limits in
      let ahead = ahead_kept g p clean parts first at_rest large_log s.content (λ k low none one two un. stands.same.content k none) l in (
        pieces,
        record {
          are_cut = stands.stands.are_cut;
          ahead = subst (λ (x : LogPlace). IsListed g s.content x.seg x.block) head (ahead_on g s.content u.closes p.serial u.records u.changes p.head clean pieces left stands.stands.are_cut walk ahead.parts ahead.row ahead.reach);
          brought = λ r address new. subst (λ (x : LogPlace). HasListed g s.content x r address) head
              (brought_on g s.content u.closes p.serial u.records u.changes p.head clean pieces left at_rest.head at_rest.cleans stands.stands.are_cut walk ahead.parts ahead.row ahead.reach r address new.index new.there new.named new.lies);
          kept = λ r address none old. subst (λ (x : LogPlace). HasListed g s.content x r address) head
              (listed_behind g p clean parts first at_rest large_log s.content (λ k low nf one two un. stands.same.content k nf) r address none old u.closes u.records u.changes pieces left stands.stands.are_cut walk);
        },
      )

module _ (g : Layout) (p : Position) (clean : List ℕ) (c : Contents) (first : MachineState) (rests : Rests g p clean c first) where
  head_is : head_of c.rec c.parts ≡ p.head
  head_is = ap (λ (x : LogPlace). end_of x c.parts) (sym rests.start_is) ∙ rests.at_rest.head_is

  large_here : 64 ≤ g.k
  large_here = large g p clean c first rests

  -- what is not free and is no record stays
  abbrev Stays : Image → Type 0
  Stays image = (k : ℕ) → k < log_end g → (IsFree g p.head clean k → ⊥) → (k ≡ 1 → ⊥) → (k ≡ 2 → ⊥) → IsUntouched first.pending k → image k ≡ first.content k

  old_listed : (image : Image) → Stays image → ((address : ℕ) → IsLive g first.content c.rec c.tables address → image address ≡ first.content address) → AreListed g first.content c p.head → AreListed g image c p.head
  old_listed image stays agree l = record {
    ahead = ahead_kept g p clean c.parts first rests.at_rest large_here image stays l.ahead;
    blocks = λ block address is.
        let old = live_at_back g first.content image c agree rests.has block address is in
        listed_kept g p clean c.parts first rests.at_rest large_here image stays (live_record block) address (rests.apart address (record { block = block; lies = old })) (l.blocks block address old);
  }

  -- WHILE NOTHING IS WRITTEN: whatever a stop leaves has its live blocks listed
  pub rest_leaves_listed : AreListed g first.content c (head_of c.rec c.parts) → StopLeaves g p (λ image. HoldsListed g image c) first
  rest_leaves_listed l image may chance = record {
    has = rest_leaves g p clean c first rests image may chance;
    listed = subst (AreListed g image c) (sym head_is) (old_listed image (λ k low none one two un. may k un)
        (λ address live. may address (untouched g p clean c first rests address (in_log-high g (limits g p clean c first rests) address (live_in_log g first.content c rests.has address live))))
        (subst (AreListed g first.content c) head_is l));
  }

  -- others may write behind the log
  pub same_listed : (image : Image) → ((k : ℕ) → k < log_end g → image k ≡ first.content k) → AreListed g first.content c (head_of c.rec c.parts) → AreListed g image c (head_of c.rec c.parts)
  same_listed image same l = subst (AreListed g image c) (sym head_is) (old_listed image (λ k low none one two un. same k low)
      (λ address live. same address (in_log-high g (limits g p clean c first rests) address (live_in_log g first.content c rests.has address live)))
      (subst (AreListed g first.content c) head_is l))

  -- the parts behind the chain walk from the head
  chain_walk : (image : Image) (unit : List Summary) → Walk g image p.start p.first (c.parts ++ unit) → Walk g image p.head p.serial unit
  chain_walk image unit walk = subst (λ (n : ℕ). Walk g image p.head n unit) rests.at_rest.serial_is
      (subst (λ (x : LogPlace). Walk g image x (p.first + length c.parts) unit) rests.at_rest.head_is (walk_behind g image p.start p.first c.parts unit walk))

  cut_walk : (image : Image) (parts : List Summary) → IsCutChain g image p.start p.first parts → Walk g image p.start p.first parts
  cut_walk image parts chain =
      let all = splits chain.all in
      let whole : chain.all ≡ parts ++ all.beyond = all.is ∙ ap (λ (l : List Summary). l ++ all.beyond) (sym all.cut_is ∙ chain.is) in
      walk_front g image p.start p.first parts all.beyond (subst (λ (l : List Summary). Walk g image p.start p.first l) whole chain.chain.walk)

  module _ (u : Brought) (pieces : List Piece) (rest : List ℕ) (cut_is : AreCut g p.head clean (length u.records) (length u.changes) pieces rest) (nodes : Nodes) (makes : Makes g first.content c u (addresses g pieces) nodes) where
    abbrev after : Contents
    after = after_unit g p c u pieces nodes

    abbrev unit : List Summary
    unit = summaries u.closes p.serial u.records u.changes pieces

    new_head : head_of c.rec after.parts ≡ end_of p.head unit
    new_head = end_of-append (start_of c.rec) c.parts unit ∙ ap (λ (x : LogPlace). end_of x unit) head_is

    -- an image with the unit behind the chain
    new_listed : (image : Image) → Stays image → TakesIn g first.content c u (addresses g pieces) image → Walk g image p.start p.first (with_unit p u c.parts pieces) → AreListed g first.content c p.head → AreListed g image after (head_of c.rec after.parts)
    new_listed image stays takes chain l =
        let walk : Walk g image p.head p.serial unit = chain_walk image unit chain in
        let ahead = ahead_kept g p clean c.parts first rests.at_rest large_here image stays l.ahead in
        subst (AreListed g image after) (sym new_head) (record {
          ahead = ahead_on g image u.closes p.serial u.records u.changes p.head clean pieces rest cut_is walk ahead.parts ahead.row ahead.reach;
          blocks = λ block address is. ⊎_elim
              (λ new. brought_on g image u.closes p.serial u.records u.changes p.head clean pieces rest rests.at_rest.head rests.at_rest.cleans cut_is walk ahead.parts ahead.row ahead.reach (live_record block) address new.index new.there new.named new.lies)
              (λ old. listed_behind g p clean c.parts first rests.at_rest large_here image stays (live_record block) address (rests.apart address (record { block = block; lies = old })) (l.blocks block address old) u.closes u.records u.changes pieces rest cut_is walk)
              (new_origin g p clean c first rests u pieces rest cut_is nodes makes image takes block address is);
        })

    -- an image that has all of the unit or none of it
    pub unit_listed : (image : Image) → Keeps g p clean first image → HasUnit g p clean u c.parts image → AreListed g first.content c p.head → HoldsListed g image c ⊎ HoldsListed g image after
    unit_listed image keeps (inl chain) l = inl (record {
      has = old_kept g p clean c first rests image keeps chain;
      listed = subst (AreListed g image c) (sym head_is) (old_listed image (λ k low none one two un. keeps k none un) (live_kept g p clean c first rests image keeps) l);
    })
    unit_listed image keeps (inr (closes, (own, left, stands, chain))) l =
        let same : own ≡ pieces = one_cut g p.head clean (length u.records) (length u.changes) own pieces left rest stands.are_cut cut_is in
        let takes : TakesIn g first.content c u (addresses g pieces) image = record { brought = subst (λ (l : List Piece). map image (addresses g l) ≡ u.contents) same stands.blocks; kept = live_kept g p clean c first rests image keeps } in
        let there : IsCutChain g image p.start p.first (with_unit p u c.parts pieces) = subst (λ (l : List Piece). IsCutChain g image p.start p.first (with_unit p u c.parts l)) same chain in
        inr (record {
          has = new_there g p clean c first rests u pieces rest cut_is nodes makes image takes (newest_kept g p clean c first rests image keeps) there;
          listed = new_listed image (λ k low none one two un. keeps k none un) takes (cut_walk image (with_unit p u c.parts pieces) there) l;
        })

  -- a checkpoint of the contents
  module _ (d : Given) (t : TableValues) (is : IsCheckpointOf c d t) (image : Image) (keeps : KeepsRest g p clean first image) where
    node_listed : AreListed g first.content c p.head → AreNodesListed g first.content t p.head
    node_listed l = record {
      ahead = l.ahead;
      blocks = λ ino block address at. l.blocks (OfNode ino block) address (moved_block g first.content c.tables t ino block address is.inodes at);
    }

    pub new_holds : (new : Record) → HasNew g p clean d (contents_of_tables g t) new image → AreListed g first.content c p.head → HoldsListed g image (after_checkpoint c new t)
    new_holds new has l = first_holds g p clean c.parts t c.nodes first (carried g p clean c first rests d t is) d (volumes_are g p clean c first rests d t is) image keeps (node_listed l) new has

    pub checkpoint_listed : HasCheckpoint g p clean (Some c.rec) d (contents_of_tables g t) c.parts image → AreListed g first.content c p.head → HasSameListed g d t c image
    checkpoint_listed (inl old) l = inl (record {
      has = old_holds g p clean c first rests d t is image keeps old;
      listed = subst (AreListed g image c) (sym head_is) (old_listed image (λ k low. keeps k) (old_live_kept g p clean c first rests d t is image keeps) l);
    })
    checkpoint_listed (inr (new, has)) l = inr (
      new,
      has.next,
      new_holds new has l,
    )

module _ (g : Layout) (p : Position) (clean : List ℕ) (before now : Option History) where
  listed_at : (c : Contents) (first : MachineState) → Rests g p clean c first → AreListed g first.content c (head_of c.rec c.parts) → AreListed g first.content c p.head
  listed_at c first rests = subst (AreListed g first.content c) (head_is g p clean c first rests)

  pub unit_moves_listed : (u : Brought) → Runs before now (WritesUnit g p clean u) → Runs before now (MovesListed g p clean u)
  unit_moves_listed u run = runs_map before now (WritesUnit g p clean u) (MovesListed g p clean u) run
      (λ first s writes c pieces rest nodes is l image may chance.
      let leaves = writes c.parts is.rests.at_rest (closed g p clean c first is.rests) is.numbered image may chance in
      unit_listed g p clean c first is.rests u pieces rest is.are_cut nodes is.makes image leaves.1 leaves.0 (listed_at c first is.rests l))

  pub unit_moved_listed : (u : Brought) (q : Position) (left : List ℕ) → u.closes ≡ true → q ≡ moved p q.head q.serial → Ends before now (HasWritten g p clean u q left) → Ends before now (HasMovedListed g p clean u)
  unit_moved_listed u q left closes at ends h e h' e' c pieces rest nodes is l = by_end _ _ (ends h e h' e') c pieces rest nodes is l
    where
      by_end : (first s : MachineState) → HasWritten g p clean u q left first s → HasMovedListed g p clean u first s
      by_end first s written c pieces rest nodes is l =
          let w = written c.parts is.rests.at_rest (closed g p clean c first is.rests) is.numbered in
          let same : w.0 ≡ pieces = one_cut g p.head clean (length u.records) (length u.changes) w.0 pieces left rest w.1.stands.are_cut is.are_cut in
          let start_same : q.start ≡ p.start = ap (λ (x : Position). x.start) at in
          let first_same : q.first ≡ p.first = ap (λ (x : Position). x.first) at in
          let there = unit_ends g p clean c first is.rests u pieces rest is.are_cut nodes is.makes closes q start_same first_same left s is.numbered written in
          let walk : Walk g s.content p.start p.first (with_unit p u c.parts pieces) = subst (λ (x : LogPlace). Walk g s.content x p.first (with_unit p u c.parts pieces)) start_same
          (subst (λ (n : ℕ). Walk g s.content q.start n (with_unit p u c.parts pieces)) first_same there.at_rest.walk) in
          record {
            has = there.has;
            listed = new_listed g p clean c first is.rests u pieces rest is.are_cut nodes is.makes s.content (λ k low none one two un. w.1.same.content k none)
                (record {
                  brought = subst (λ (x : List Piece). map s.content (addresses g x) ≡ u.contents) same w.1.stands.blocks;
                  kept = λ address live. w.1.same.content address (is.rests.apart address live);
                })
                walk (listed_at c first is.rests l);
          }

  pub checkpoint_keeps_listed : (d : Given) (t : TableValues) → Runs before now (Checkpoints g p clean d (contents_of_tables g t)) → Runs before now (KeepsListed g p clean d t)
  checkpoint_keeps_listed d t run = runs_map before now (Checkpoints g p clean d (contents_of_tables g t)) (KeepsListed g p clean d t) run
      (λ first s writes c is l image may chance.
      let leaves = writes c.parts (Some c.rec) (ready g p clean c first is.rests d t is.is is.numbered is.next_number) image may chance in
      checkpoint_listed g p clean c first is.rests d t is.is image leaves.1 leaves.0 (listed_at c first is.rests l))

  pub checkpoint_kept_listed : (d : Given) (t : TableValues) (q : Position) (left : List ℕ) (new : Record) → Ends before now (HasCheckpointed g p clean d (contents_of_tables g t) q left new) → Ends before now (HasKeptListed g p clean d t new)
  checkpoint_kept_listed d t q left new ends h e h' e' c is l =
      let done = ends h e h' e' c.parts (Some c.rec) (ready g p clean c _ is.rests d t is.is is.numbered is.next_number) in
      new_holds g p clean c _ is.rests d t is.is _ done.2 new done.0 (listed_at c _ is.rests l)
