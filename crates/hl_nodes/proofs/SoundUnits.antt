-- A unit leaves sound contents sound.
use Rattle.std.proofs.Common.{◌≡◌, ◌⊎◌, inl, inr, ⊎_elim, ℕ, ◌+◌, ◌-◌, ◌*◌, ◌/◌, ◌<◌, List, [], ◌∷◌, ◌++◌, Bool, false, length, sum, map, get_or, refl, sym, ◌∙◌, ap, subst, arith}
use Rattle.std.specs.Prelude.{Contains}
use Rattle.std.specs.List.{slice_index_or}
use Rattle.std.proofs.lemmas.List.{get_or_default}
use Rattle.hl_media.specs.History.{Image, MachineState}
use Rattle.hl_addr.specs.Layout.{Layout, table_blocks}
use Rattle.hl_addr.proofs.SegmentLemmas.{is_in}
use Rattle.hl_bytes.specs.declared.records.BlockRecord.{BlockRecord}
use Rattle.hl_bytes.specs.declared.records.TableRecord.{TableRecord}
use Rattle.hl_summary.specs.Ranges.{IsBlockOf, IsChangeOf}
use Rattle.hl_summary.specs.declared.parts.Summary.{Summary}
use Rattle.hl_image.specs.declared.place.LogPlace.{LogPlace}
use Rattle.hl_image.specs.Places.{block_at}
use Rattle.hl_image.specs.Parts.{next_of}
use Rattle.hl_image.specs.Chain.{end_of, Covers, IsCutChain}
use Rattle.hl_image.specs.Newest.{start_of}
use Rattle.hl_image.proofs.ChainLemmas.{covers-append, covers_later, end_of-append}
use Rattle.hl_log.specs.declared.position.Position.{Position}
use Rattle.hl_log.specs.declared.piece.Piece.{Piece}
use Rattle.hl_log.specs.Free.{IsFree}
use Rattle.hl_log.specs.Cut.{AreCut, addresses, summaries}
use Rattle.hl_log.specs.Rest.{Keeps, StopLeaves}
use Rattle.hl_log.specs.Units.{Brought, with_unit, HasUnit, Numbered, WritesUnit, HasWritten}
use Rattle.hl_log.proofs.TwoPhases.{one_cut, length-addresses}
use Rattle.hl_log.proofs.Unfolding.{addresses_are}
use Rattle.hl_tables.specs.Values.{TableValues}
use Rattle.hl_paths.specs.Nodes.{Nodes}
use Rattle.hl_placed.specs.Blocks.{blocks_of}
use Rattle.hl_nodes.specs.Live.{NodeBlock, record_of, IsNodeBlock, LiveBlock, live_record, IsLiveAt, IsLive}
use Rattle.hl_nodes.specs.Live.NodeBlock.{Own, Pointers, Content}
use Rattle.hl_nodes.specs.Live.LiveBlock.{Table, OfNode}
use Rattle.hl_nodes.specs.Contents.{Contents, HasContents, Rests}
use Rattle.hl_nodes.specs.Units.{blocks_placed, unit_laid, TakesIn, IsPlanned, Makes, after_unit}
use Rattle.hl_nodes.specs.Sound.{head_of, IsUsed, IsAhead, IsTaken, IsSound, HasSound, KeepsSound}
use Rattle.hl_nodes.proofs.Frame.{live_at_back}
use Rattle.hl_log.proofs.Cuts.{was_free, blocks_covered}
use Rattle.hl_log.proofs.Addresses.{addresses_free, addresses_once}
use Rattle.hl_log.proofs.CutPlaces.{once_at, covers_not_free}
use Rattle.hl_nodes.proofs.Lookups.{entry, placed-other, changes-other, unit_laid-used}
use Rattle.hl_nodes.proofs.UnitLaws.{closed, old_kept, new_there, newest_kept, new_origin, planned_in, live_kept}

-- an image that agrees on the live blocks is as sound
pub sound_same : (g : Layout) (a b : Image) (c : Contents) → ((address : ℕ) → IsLive g a c.rec c.tables address → b address ≡ a address) → HasContents g a c → IsSound g a c → IsSound g b c
sound_same g a b c agree has sound = record {
  tables_once = sound.tables_once;
  no_zero = sound.no_zero;
  root = sound.root;
  root_is = sound.root_is;
  root_dir = sound.root_dir;
  one_block = λ x y address is too. sound.one_block x y address (back x address is) (back y address too);
  away_once = sound.away_once;
  used = λ address live. sound.used address (live_back_too address live);
  behind = λ address taken. sound.behind address (⊎_elim (λ live. inl (live_back_too address live)) (λ covers. inr covers) taken);
  slots = sound.slots;
}
  where
    back : (block : LiveBlock) (address : ℕ) → IsLiveAt g b c.rec c.tables block address → IsLiveAt g a c.rec c.tables block address
    back = live_at_back g a b c agree has

    live_back_too : (address : ℕ) → IsLive g b c.rec c.tables address → IsLive g a c.rec c.tables address
    live_back_too address live = record { block = live.block; lies = back live.block address live.lies }

covers_first : (g : Layout) (at : LogPlace) (ps qs : List Summary) (k : ℕ) → Covers g at ps k → Covers g at (ps ++ qs) k
covers_first g at [] qs k none = absurd none
covers_first g at (p ∷ ps) qs k (inl here) = inl here
covers_first g at (p ∷ ps) qs k (inr later) = inr (covers_first g (next_of p) ps qs k later)

-- a unit has a part at the head
head_covered : (g : Layout) (closes : Bool) (serial : ℕ) (records : List BlockRecord) (changes : List TableRecord) (at : LogPlace) (clean : List ℕ) (b t : ℕ) (pieces : List Piece) (rest : List ℕ) → AreCut g at clean b t pieces rest
    → Covers g at (summaries closes serial records changes pieces) (block_at g at)
head_covered g closes serial records changes at clean b t [] rest none = absurd none
head_covered g closes serial records changes at clean b t (p ∷ []) rest cut = inl (omega arith, omega arith)
head_covered g closes serial records changes at clean b t (p ∷ q ∷ ps) rest cut = inl (omega arith, omega arith)

-- a block of a node's contents has a small index
small_index : (g : Layout) (image : Image) (t : TableValues) (ino i address : ℕ) → IsNodeBlock g image t ino (Content i) address → i < 1036
unfolding blocks_of
small_index g image t ino i address is = (let low = is.lies.0 in let size = is.there.spelled.value.ranges.size in omega arith)

module _ (g : Layout) (image : Image) (t : TableValues) (address : ℕ) where
  -- a record names one block
  one_named : (m n : ℕ) (x y : NodeBlock) → IsNodeBlock g image t m x address → IsNodeBlock g image t n y address → record_of m x ≡ record_of n y → OfNode m x ≡ OfNode n y
  one_named m n Own Own a b e = let f : m ≡ n = ap (λ (r : BlockRecord). r.ino) e in ap (λ (k : ℕ). OfNode k Own) f
  one_named m n Own Pointers a b e = absurd (let f : 4294967295 ≡ 4294967294 = ap (λ (r : BlockRecord). r.index) e in omega arith)
  one_named m n Own (Content j) a b e = absurd (let f : 4294967295 ≡ j = ap (λ (r : BlockRecord). r.index) e in let s = small_index g image t n j address b in omega arith)
  one_named m n Pointers Own a b e = absurd (let f : 4294967294 ≡ 4294967295 = ap (λ (r : BlockRecord). r.index) e in omega arith)
  one_named m n Pointers Pointers a b e = let f : m ≡ n = ap (λ (r : BlockRecord). r.ino) e in ap (λ (k : ℕ). OfNode k Pointers) f
  one_named m n Pointers (Content j) a b e = absurd (let f : 4294967294 ≡ j = ap (λ (r : BlockRecord). r.index) e in let s = small_index g image t n j address b in omega arith)
  one_named m n (Content i) Own a b e = absurd (let f : i ≡ 4294967295 = ap (λ (r : BlockRecord). r.index) e in let s = small_index g image t m i address a in omega arith)
  one_named m n (Content i) Pointers a b e = absurd (let f : i ≡ 4294967294 = ap (λ (r : BlockRecord). r.index) e in let s = small_index g image t m i address a in omega arith)
  one_named m n (Content i) (Content j) a b e =
      let f : m ≡ n = ap (λ (r : BlockRecord). r.ino) e in
      let h : i ≡ j = ap (λ (r : BlockRecord). r.index) e in
      ap (λ (k : ℕ). OfNode k (Content i)) f ∙ ap (λ (k : ℕ). OfNode n (Content k)) h

module _ (g : Layout) (p : Position) (clean : List ℕ) (c : Contents) (first : MachineState) (rests : Rests g p clean c first) (sound : IsSound g first.content c) (u : Brought) (pieces : List Piece) (rest : List ℕ)
    (cut_is : AreCut g p.head clean (length u.records) (length u.changes) pieces rest) (nodes : Nodes) (makes : Makes g first.content c u (addresses g pieces) nodes) (keeps_sound : KeepsSound g u (after_unit g p c u pieces nodes)) where
  abbrev plan : List ℕ
  plan = addresses g pieces

  abbrev after : Contents
  after = after_unit g p c u pieces nodes

  abbrev unit : List Summary
  unit = summaries u.closes p.serial u.records u.changes pieces

  head_is : end_of (start_of c.rec) c.parts ≡ p.head
  head_is = ap (λ (x : LogPlace). end_of x c.parts) (sym rests.start_is) ∙ rests.at_rest.head_is

  new_head : head_of c.rec after.parts ≡ end_of p.head unit
  new_head = end_of-append (start_of c.rec) c.parts unit ∙ ap (λ (x : LogPlace). end_of x unit) head_is

  unit_covers : (k : ℕ) → Covers g p.head unit k → Covers g (start_of c.rec) after.parts k
  unit_covers k covers = covers_later g (start_of c.rec) c.parts unit k (subst (λ (x : LogPlace). Covers g x unit k) (sym head_is) covers)

  planned_covers : (r : BlockRecord) (address : ℕ) → IsPlanned u plan r address → Covers g p.head unit address
  planned_covers r address is =
      let i = planned_in g p clean c first rests u pieces rest cut_is nodes makes r address is in
      blocks_covered g p.head unit address (subst (λ (l : List ℕ). Contains l address) (addresses_are g u.closes p.serial u.records u.changes p.head clean pieces rest cut_is) i)

  planned_free : (r : BlockRecord) (address : ℕ) → IsPlanned u plan r address → IsFree g p.head clean address
  planned_free r address is = addresses_free g p.head clean (length u.records) (length u.changes) pieces rest rests.at_rest.head rests.at_rest.cleans cut_is address (planned_in g p clean c first rests u pieces rest cut_is nodes makes r address is)

  -- two blocks at one address of the plan have one record
  same_record : (r q : BlockRecord) (address : ℕ) → IsPlanned u plan r address → IsPlanned u plan q address → r ≡ q
  same_record r q address x y =
      let many : length plan ≡ length u.records = length-addresses g p.head clean (length u.records) (length u.changes) pieces rest cut_is in
      let once = addresses_once g p.head clean (length u.records) (length u.changes) pieces rest rests.at_rest.head rests.at_rest.cleans cut_is in
      let lt = x.there in
      let lt' = y.there in
      let at : x.index ≡ y.index = once_at plan once x.index y.index (omega arith) (omega arith) (x.lies ∙ sym y.lies) in
      sym x.named ∙ get_or_default u.records x.index r q x.there ∙ ap (λ (i : ℕ). get_or u.records i q) at ∙ y.named

  -- what was used is used behind the unit
  used_on : (seg : ℕ) → IsUsed g c.rec c.parts c.tables seg → IsUsed g c.rec after.parts after.tables seg
  used_on seg (inl (low, marked)) = inl (low, ap (λ (l : List Bool). slice_index_or l (seg - 1) false) (unit_laid-used c.tables u plan) ∙ marked)
  used_on seg (inr (inl table)) = inr (inl table)
  used_on seg (inr (inr (inl (b, covers, at)))) = inr (inr (inl (b, covers_first g (start_of c.rec) c.parts unit b covers, at)))
  used_on seg (inr (inr (inr head))) =
      let covers = unit_covers (block_at g p.head) (head_covered g u.closes p.serial u.records u.changes p.head clean (length u.records) (length u.changes) pieces rest cut_is) in
      let room = rests.at_rest.head.room in
      let e : p.head.seg * g.k + p.head.block ≡ block_at g p.head = omega arith in
      let in_seg : block_at g p.head / g.k ≡ p.head.seg = ap (λ (n : ℕ). n / g.k) (sym e) ∙ (is_in g p.head.seg p.head.block (omega arith)).segment_is in
      inr (inr (inl (block_at g p.head, covers, in_seg ∙ ap (λ (x : LogPlace). x.seg) (sym head_is) ∙ head)))

  -- no inode 0 is brought or freed
  no_zero_on : entry after.tables 0 ≡ 4294967295
  unfolding unit_laid
  no_zero_on =
      changes-other (blocks_placed c.tables u.records plan) u.changes 0 (λ r i one e. not_freed r (subst (IsChangeOf g.inodes (sum g.volumes) (length g.volumes)) i.2 (keeps_sound.of.tables i.0 r i.1)) one e)
      ∙ placed-other c.tables u.records plan 0 (λ r i own e. not_brought r (subst (IsBlockOf g.inodes (table_blocks g)) i.2 (keeps_sound.of.blocks i.0 r i.1)) own e)
      ∙ sound.no_zero
    where
      not_brought : (r : BlockRecord) → IsBlockOf g.inodes (table_blocks g) r → r.index ≡ 4294967295 → r.ino ≡ 0 → ⊥
      not_brought r (inl table) own e = (let f = table.0 in omega arith)
      not_brought r (inr inode) own e = (let f = inode.1.0 in omega arith)

      not_freed : (r : TableRecord) → IsChangeOf g.inodes (sum g.volumes) (length g.volumes) r → r.kind ≡ 1 → r.a ≡ 0 → ⊥
      not_freed r (inl is) one e = (let f = is.1.0 in omega arith)
      not_freed r (inr (inl is)) one e = (let f = is.0 in omega arith)
      not_freed r (inr (inr (inl is))) one e = (let f = is.0 in omega arith)
      not_freed r (inr (inr (inr (inl is)))) one e = (let f = is.0 in omega arith)
      not_freed r (inr (inr (inr (inr is)))) one e = (let f = is.0 in omega arith)

  module _ (image : Image) (takes : TakesIn g first.content c u plan image) where
    abbrev OldOr : LiveBlock → ℕ → Type 0
    OldOr block address = IsPlanned u plan (live_record block) address ⊎ IsLiveAt g first.content c.rec c.tables block address

    origin : (block : LiveBlock) (address : ℕ) → IsLiveAt g image c.rec after.tables block address → OldOr block address
    origin = new_origin g p clean c first rests u pieces rest cut_is nodes makes image takes

    mixed : (r : BlockRecord) (block : LiveBlock) (address : ℕ) → IsPlanned u plan r address → IsLiveAt g first.content c.rec c.tables block address → ⊥
    mixed r block address planned old = rests.apart address (record { block = block; lies = old }) (planned_free r address planned)

    named_once : (x y : LiveBlock) (address : ℕ) → IsLiveAt g image c.rec after.tables x address → IsLiveAt g image c.rec after.tables y address → live_record x ≡ live_record y → IsPlanned u plan (live_record x) address → x ≡ y
    named_once (OfNode m x) (OfNode n y) address a b e planned = one_named g image after.tables address m n x y a b e
    named_once (Table i) y address a b e planned = absurd (mixed (live_record (Table i)) (Table i) address planned a)
    named_once (OfNode m x) (Table j) address a b e planned = absurd (mixed (record_of m x) (Table j) address planned b)

    one_block_on : (x y : LiveBlock) (address : ℕ) → IsLiveAt g image c.rec after.tables x address → IsLiveAt g image c.rec after.tables y address → x ≡ y
    one_block_on x y address a b = by_origin (origin x address a) (origin y address b)
      where
        by_origin : OldOr x address → OldOr y address → x ≡ y
        by_origin (inl is) (inl too) = named_once x y address a b (same_record (live_record x) (live_record y) address is too) is
        by_origin (inl is) (inr old) = absurd (mixed (live_record x) y address is old)
        by_origin (inr old) (inl is) = absurd (mixed (live_record y) x address is old)
        by_origin (inr old) (inr too) = sound.one_block x y address old too

    behind_by : (address : ℕ) → IsTaken g image c.rec after.parts after.tables address → IsFree g (end_of p.head unit) rest address → ⊥
    behind_by address (inl live) free = ⊎_elim
        (λ is. covers_not_free g u.closes p.serial u.records u.changes p.head clean pieces rest rests.at_rest.head rests.at_rest.cleans cut_is address (planned_covers (live_record live.block) address is) free)
        (λ old. rests.apart address (record { block = live.block; lies = old }) (free_then address free))
        (origin live.block address live.lies)
      where
        free_then : (address : ℕ) → IsFree g (end_of p.head unit) rest address → IsFree g p.head clean address
        free_then address free = was_free g u.closes p.serial u.records u.changes p.head clean (length u.records) (length u.changes) pieces rest cut_is address free
    behind_by address (inr covers) free = ⊎_elim
        (λ old. rests.at_rest.behind address (subst (λ (x : LogPlace). Covers g x c.parts address) (sym rests.start_is) old)
        (was_free g u.closes p.serial u.records u.changes p.head clean (length u.records) (length u.changes) pieces rest cut_is address free))
        (λ own. covers_not_free g u.closes p.serial u.records u.changes p.head clean pieces rest rests.at_rest.head rests.at_rest.cleans cut_is address (subst (λ (x : LogPlace). Covers g x unit address) head_is own) free)
        (covers-append g (start_of c.rec) c.parts unit address covers)

    -- the contents behind the unit are sound
    pub sound_behind : IsSound g image after
    sound_behind = record {
      tables_once = sound.tables_once;
      no_zero = no_zero_on;
      root = keeps_sound.root;
      root_is = keeps_sound.root_is;
      root_dir = keeps_sound.root_dir;
      one_block = one_block_on;
      away_once = keeps_sound.away_once;
      used = λ address live. ⊎_elim
          (λ is. inr (inr (inl (address, unit_covers address (planned_covers (live_record live.block) address is), refl))))
          (λ old. used_on (address / g.k) (sound.used address (record { block = live.block; lies = old })))
          (origin live.block address live.lies);
      behind = λ address taken ahead. behind_by address taken (inl (subst (λ (x : LogPlace). IsAhead g x address) new_head ahead));
      slots = keeps_sound.slots;
    }

  unit_sound : (image : Image) → Keeps g p clean first image → HasUnit g p clean u c.parts image → HasSound g image c ⊎ HasSound g image after
  unit_sound image keeps (inl chain) = inl (record {
    has = old_kept g p clean c first rests image keeps chain;
    sound = sound_same g first.content image c (live_kept g p clean c first rests image keeps) rests.has sound;
  })
  unit_sound image keeps (inr (closes, (own, left, stands, chain))) =
      let same : own ≡ pieces = one_cut g p.head clean (length u.records) (length u.changes) own pieces left rest stands.are_cut cut_is in
      let takes : TakesIn g first.content c u plan image =
      record { brought = subst (λ (l : List Piece). map image (addresses g l) ≡ u.contents) same stands.blocks; kept = live_kept g p clean c first rests image keeps } in
      inr (record {
        has = new_there g p clean c first rests u pieces rest cut_is nodes makes image takes (newest_kept g p clean c first rests image keeps)
            (subst (λ (l : List Piece). IsCutChain g image p.start p.first (with_unit p u c.parts l)) same chain);
        sound = sound_behind image takes;
      })

  -- THE UNIT, AT EACH MOMENT: whatever a stop leaves has sound contents, those before it or those behind it
  pub sound_leaves : (s : MachineState) → Numbered g p clean (length u.records) (length u.changes) → WritesUnit g p clean u first s → StopLeaves g p (λ image. HasSound g image c ⊎ HasSound g image after) s
  sound_leaves s numbered writes image may chance = (let l = writes c.parts rests.at_rest (closed g p clean c first rests) numbered image may chance in unit_sound image l.1 l.0)

  -- THE UNIT, AFTERWARDS: what reads give is sound
  pub sound_ends : (q : Position) (left : List ℕ) (s : MachineState) → Numbered g p clean (length u.records) (length u.changes) → HasWritten g p clean u q left first s → IsSound g s.content after
  sound_ends q left s numbered written =
      let w = written c.parts rests.at_rest (closed g p clean c first rests) numbered in
      let same : w.0 ≡ pieces = one_cut g p.head clean (length u.records) (length u.changes) w.0 pieces left rest w.1.stands.are_cut cut_is in
      sound_behind s.content (record {
        brought = subst (λ (l : List Piece). map s.content (addresses g l) ≡ u.contents) same w.1.stands.blocks;
        kept = λ address live. w.1.same.content address (rests.apart address live);
      })
