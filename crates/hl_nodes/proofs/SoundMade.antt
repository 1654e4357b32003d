-- The contents of an image that breaks no rule are sound.
use Rattle.std.specs.FinMap.{get}
use Rattle.std.proofs.Common.{◌≡◌, ◌≢◌, ◌⊎◌, inl, inr, ⊎_elim, ℕ, suc, ◌+◌, ◌-◌, ◌/◌, ◌<◌, ◌≤◌, Bool, true, false, cond, List, [], ◌∷◌, length, get_or, sum, refl, sym, ◌∙◌, ap, subst, arith}
use Rattle.std.specs.Prelude.{slice_index, Option, Some, None}
use Rattle.std.specs.List.{AllByRecursion, count_by, slice_index_or}
use Rattle.std.proofs.lemmas.Bool.{cases_lt}
use Rattle.std.proofs.lemmas.List.{get_or_past}
use Rattle.std.proofs.lemmas.List.Sums.{sum_by-cons}
use Rattle.hl_media.specs.History.{Image}
use Rattle.hl_addr.specs.Layout.{Layout, IsWithinLimits}
use Rattle.hl_addr.specs.Place.{IsAt}
use Rattle.hl_addr.specs.Slots.{slot_number}
use Rattle.hl_addr.specs.declared.place.Place.TheVariants.{Tertiary}
use Rattle.hl_addr.proofs.SlotLemmas.{number_only}
use Rattle.hl_addr.proofs.PlaceLemmas.{address_only}
use Rattle.hl_super.specs.declared.record.Record.{Record}
use Rattle.hl_summary.specs.declared.parts.Summary.{Summary}
use Rattle.hl_image.specs.declared.place.LogPlace.{LogPlace}
use Rattle.hl_image.specs.Places.{block_at}
use Rattle.hl_image.specs.Parts.{next_of}
use Rattle.hl_image.specs.Chain.{Covers}
use Rattle.hl_image.specs.Newest.{start_of}
use Rattle.hl_tseg.specs.SlotTable.{slot_at}
use Rattle.hl_tseg.specs.Slots.{is_staged, HoldsSerial}
use Rattle.hl_tseg.specs.declared.slot.Slot.{Slot}
use Rattle.hl_tseg.specs.declared.slot.Slot.TheVariants.{Free, Staged, Home, Spoilt}
use Rattle.hl_tables.specs.Values.{TableValues}
use Rattle.hl_tables.specs.TableBlocks.{inode_blocks, used_blocks}
use Rattle.hl_inode.specs.declared.inode.Kind.TheVariants.{Dir}
use Rattle.hl_inode.specs.declared.inode.Inode.{Inode}
use Rattle.hl_placed.specs.Blocks.{Away, Block, Hole, blocks_of, file_block}
use Rattle.hl_paths.specs.Nodes.{FlatNode, Nodes}
use Rattle.hl_nodes.specs.declared.rule.Rule.TheVariants.{SharedBlock, StrayBlock, SlotEntry}
use Rattle.hl_nodes.specs.Tables.{parts_raised}
use Rattle.hl_nodes.specs.Pointers.{pointer_of}
use Rattle.hl_nodes.specs.Blocks.{LiesAway, StandsFor}
use Rattle.hl_nodes.specs.Nodes.{IsMapEntry, HasNodes}
use Rattle.hl_nodes.specs.Live.{NodeBlock, LiesAt, PointsAt, LiveBlock, IsLiveAt, IsNamedAt}
use Rattle.hl_nodes.specs.Live.NodeBlock.{Own, Pointers, Content}
use Rattle.hl_nodes.specs.Live.LiveBlock.{Table, OfNode}
use Rattle.hl_nodes.specs.Breaks.{IsOffSlot}
use Rattle.hl_nodes.specs.Sound.{head_of, IsUsed, AreSlots, AwayOnce, IsSound}
use Rattle.hl_nodes.proofs.Deciding.{Decided, certain, both, one_of, alike, is_equal, is_below, is_at_most, is_true, some_below}
use Rattle.hl_nodes.proofs.PointerLemmas.{in_log-some}
use Rattle.hl_nodes.proofs.Determined.{far_some}
use Rattle.hl_nodes.proofs.ImageLinks.{in_range, node_there}
use Rattle.hl_nodes.proofs.Unbroken.{IsUnbroken, limits_un, slot_block, slots_are, tables_once}
use Rattle.hl_nodes.proofs.NodesMade.{no_off_entry, there, root_kind}
use Rattle.hl_nodes.proofs.Frame.{one_inode}

-- two blocks are one, or differ
same_block : (x y : NodeBlock) → Decided (x ≡ y)
same_block Own Own = inl refl
same_block Own Pointers = inr (λ e. (cc))
same_block Own (Content j) = inr (λ e. (cc))
same_block Pointers Own = inr (λ e. (cc))
same_block Pointers Pointers = inl refl
same_block Pointers (Content j) = inr (λ e. (cc))
same_block (Content i) Own = inr (λ e. (cc))
same_block (Content i) Pointers = inr (λ e. (cc))
same_block (Content i) (Content j) = alike (λ e. ap Content e) (λ e. (cc)) (is_equal i j)

same_live : (x y : LiveBlock) → Decided (x ≡ y)
same_live (Table i) (Table j) = alike (λ e. ap Table e) (λ e. (cc)) (is_equal i j)
same_live (Table i) (OfNode n y) = inr (λ e. (cc))
same_live (OfNode m x) (Table j) = inr (λ e. (cc))
same_live (OfNode m x) (OfNode n y) = alike {P = (m ≡ n) × (x ≡ y)} (λ e. (let f = e.0 in let h = e.1 in cc)) (λ e. ((cc), (cc))) (both (is_equal m n) (same_block x y))

-- a part of the chain has a block in the segment, or none has
covers_or_not : (g : Layout) (at : LogPlace) (parts : List Summary) (seg : ℕ) → Decided ((b : ℕ) × Covers g at parts b × (b / g.k ≡ seg))
covers_or_not g at [] seg = inr (λ x. x.1)
covers_or_not g at (s ∷ parts) seg = alike {P = ((d : ℕ) × (d < length s.blocks + 1) × ((block_at g at + d) / g.k ≡ seg)) ⊎ ((b : ℕ) × Covers g (next_of s) parts b × (b / g.k ≡ seg))}
    (λ x. ⊎_elim (λ own. (let lt = own.1 in (block_at g at + own.0, inl (omega arith, omega arith), own.2))) (λ later. (later.0, inr later.1, later.2)) x)
    (λ x. ⊎_elim
    (λ own. (let low = own.0 in let high = own.1 in let e : block_at g at + (x.0 - block_at g at) ≡ x.0 = omega arith in inl (x.0 - block_at g at, omega arith, ap (λ (n : ℕ). n / g.k) e ∙ x.2)))
    (λ later. inr (x.0, later, x.2)) x.1)
    (one_of (some_below (λ d. (block_at g at + d) / g.k ≡ seg) (length s.blocks + 1) (λ d lt. is_equal ((block_at g at + d) / g.k) seg)) (covers_or_not g (next_of s) parts seg))

used_or_not : (g : Layout) (rec : Record) (parts : List Summary) (t : TableValues) (seg : ℕ) → Decided (IsUsed g rec parts t seg)
used_or_not g rec parts t seg =
    one_of (both (is_at_most 1 seg) (is_true (slice_index_or t.used (seg - 1) false)))
    (one_of (some_below (λ i. slice_index rec.tables i / g.k ≡ seg) (length rec.tables) (λ i lt. is_equal (slice_index rec.tables i / g.k) seg))
    (one_of (covers_or_not g (start_of rec) parts seg) (is_equal (head_of rec parts).seg seg)))

-- where none passes, none is counted
none_counted : {A : Type 0} (p : A → Bool) (xs : List A) → AllByRecursion (λ x. p x ≡ false) xs → count_by p xs ≡ 0
none_counted p [] all = refl
none_counted p (x ∷ xs) all = sum_by-cons (λ y. cond (p y) 1 0) x xs ∙ ap (λ (b : Bool). cond b 1 0 + count_by p xs) all.0 ∙ (let later = none_counted p xs all.1 in omega arith)

-- some item passes, or each fails
some_passes : {A : Type 0} (p : A → Bool) (d : A) (xs : List A) → ((i : ℕ) × (i < length xs) × (p (get_or xs i d) ≡ true)) ⊎ AllByRecursion (λ x. p x ≡ false) xs
some_passes p d [] = inr tt
some_passes p d (x ∷ xs) = by (p x) refl (some_passes p d xs)
  where
    by : (b : Bool) → p x ≡ b → ((i : ℕ) × (i < length xs) × (p (get_or xs i d) ≡ true)) ⊎ AllByRecursion (λ y. p y ≡ false) xs
        → ((i : ℕ) × (i < length (x ∷ xs)) × (p (get_or (x ∷ xs) i d) ≡ true)) ⊎ AllByRecursion (λ y. p y ≡ false) (x ∷ xs)
    by true e rest = inl (0, omega arith, e)
    by false e (inl (i, lt, passes)) = inl (suc i, omega arith, passes)
    by false e (inr all) = inr (e, all)

staged_is : (slot : Slot) → is_staged slot ≡ true → (line serial : ℕ) × (slot ≡ Staged line serial)
staged_is (Staged line serial) e = (line, serial, refl)
staged_is Free e = absurd (cc)
staged_is (Home serial) e = absurd (cc)
staged_is Spoilt e = absurd (cc)

module _ (g : Layout) (image : Image) (rec : Record) (parts : List Summary) (t : TableValues) (un : IsUnbroken g image rec parts t) where
  limits : IsWithinLimits g
  limits = limits_un g image rec parts t un

  abbrev entry : ℕ → ℕ
  entry ino = slice_index t.inodes ino

  abbrev next : ℕ
  next = parts_raised rec.tseg_serial parts

  -- THE SLOTS

  no_off_slot : (n : ℕ) → n < sum g.volumes → IsOffSlot g t.slots next n → ⊥
  no_off_slot n lt off = un.none SlotEntry (omega arith) (slice_index rec.tables (inode_blocks t + used_blocks t + n / 256)) (n, lt, slot_block g image rec parts t un n lt, off)

  -- a slot that isn't free is one of the rack
  in_rack : (n : ℕ) → (slot_at t.slots n ≡ Free → ⊥) → n < sum g.volumes
  in_rack n some = ⊎_elim (λ lt. subst (λ (k : ℕ). n < k) (slots_are g image rec parts t un) lt) (λ ge. absurd (some (get_or_past t.slots.slots n Free ge))) (cases_lt n (length t.slots.slots))

  staged_in : (n line serial : ℕ) → slot_at t.slots n ≡ Staged line serial → n < sum g.volumes
  staged_in n line serial staged = in_rack n (λ free. (let e = sym staged ∙ free in cc))

  held_in : (n serial : ℕ) → HoldsSerial (slot_at t.slots n) serial → n < sum g.volumes
  held_in n serial holds = in_rack n (λ free. (let e : HoldsSerial Free serial = subst (λ (s : Slot). HoldsSerial s serial) free holds in cc))

  few_staged : count_by is_staged t.slots.slots + 12 ≤ g.lines
  few_staged = certain (is_at_most (count_by is_staged t.slots.slots + 12) g.lines) (λ many. by many (some_passes is_staged Free t.slots.slots))
    where
      by : (count_by is_staged t.slots.slots + 12 ≤ g.lines → ⊥) → ((i : ℕ) × (i < length t.slots.slots) × (is_staged (get_or t.slots.slots i Free) ≡ true)) ⊎ AllByRecursion (λ s. is_staged s ≡ false) t.slots.slots → ⊥
      by many (inl (i, lt, passes)) =
          let staged = staged_is (slot_at t.slots i) passes in
          let over : g.lines < count_by is_staged t.slots.slots + 12 = ⊎_elim (λ h. h) (λ h. absurd (many h)) (cases_lt g.lines (count_by is_staged t.slots.slots + 12)) in
          no_off_slot i (staged_in i staged.0 staged.1 staged.2) (inl (staged.0, staged.1, staged.2, inr (inr over)))
      by many (inr all) = many (let none = none_counted is_staged t.slots.slots all in let lines = limits.line_count.0 in omega arith)

  pub slots_sound : AreSlots g t.slots next
  slots_sound = record {
    lines = λ n line serial staged. certain (is_below line g.lines) (λ far. no_off_slot n (staged_in n line serial staged)
        (inl (line, serial, staged, inl (⊎_elim (λ h. absurd (far h)) (λ h. h) (cases_lt line g.lines)))));
    one_line = λ m n line a b one two. certain (is_equal m n) (λ differ. no_off_slot n (staged_in n line b two) (inl (line, b, two, inr (inl (m, a, differ, one)))));
    few = few_staged;
    below = λ n serial holds. certain (is_below serial next) (λ far. no_off_slot n (held_in n serial holds)
        (inr (serial, holds, inl (⊎_elim (λ h. absurd (far h)) (λ h. h) (cases_lt serial next)))));
    one_slot = λ m n serial one two. certain (is_equal m n) (λ differ. no_off_slot n (held_in n serial two) (inr (serial, two, inr (m, differ, one))));
  }

  -- THE BLOCKS

  one_named : (x y : LiveBlock) (address : ℕ) → IsNamedAt g image rec t x address → IsNamedAt g image rec t y address → x ≡ y
  one_named x y address a b = certain (same_live x y) (λ differ. un.none SharedBlock (omega arith) address (x, y, differ, a, b))

  points : (own : ℕ) (v : Inode) (block : NodeBlock) (address : ℕ) → LiesAt g image own v block address → PointsAt image own v block address
  points own v Own address is = is
  points own v Pointers address is = (in_log-some g limits address is.0, is.1)
  points own v (Content i) address is = (is.0, in_log-some g limits address is.1, is.2)

  named : (x : LiveBlock) (address : ℕ) → IsLiveAt g image rec t x address → IsNamedAt g image rec t x address
  named (Table i) address is = is
  named (OfNode ino block) address is = record { low = is.low; high = is.high; inode = is.inode; there = is.there; points = points (entry ino) is.inode block address is.lies }

  module _ (nodes : Nodes) (has : HasNodes g image t nodes) where
    -- a block that is away is named where its pointer says
    away_named : (m i serial position : ℕ) (x : FlatNode) → get nodes m ≡ Some x → file_block x.content i ≡ Away serial position
        → (address : ℕ) × LiesAway g t.slots address serial position × IsNamedAt g image rec t (OfNode m (Content i)) address
    away_named m i serial position x e at =
        let range = in_range g limits image t nodes has m x e in
        let is = node_there g limits image t nodes has m x e in
        let within : i < blocks_of is.inode.size = subst (λ (n : ℕ). i < n) is.is.count
        (⊎_elim (λ lt. lt) (λ ge. absurd (let past = sym (get_or_past x.content.blocks i Hole ge) ∙ at in cc)) (cases_lt i (length x.content.blocks))) in
        let stands : StandsFor g t.slots image is.inode.kind (pointer_of image is.inode i) (Away serial position) = subst (λ (b : Block). StandsFor g t.slots image is.inode.kind (pointer_of image is.inode i) b) at (is.is.blocks i within) in (
          pointer_of image is.inode i,
          stands.1,
          record {
            low = range.0;
            high = range.1;
            inode = is.inode;
            there = is.there;
            points = (within, far_some g limits t.slots (pointer_of image is.inode i) serial position stands.1, refl);
          },
        )

    away_once : AwayOnce nodes
    away_once m n i j serial position x y e f at at' =
        let a = away_named m i serial position x e at in
        let b = away_named n j serial position y f at' in
        let p = a.1 in
        let q = b.1 in
        let number = slots_sound.one_slot (slot_number g.volumes p.volume p.slot) (slot_number g.volumes q.volume q.slot) serial p.holds q.holds in
        let one = number_only g.volumes p.volume p.slot q.volume q.slot p.place.0 q.place.0 number in
        let place : Tertiary p.volume p.slot position ≡ Tertiary q.volume q.slot position = ap (λ (v : ℕ). Tertiary v p.slot position) one.0 ∙ ap (λ (s : ℕ). Tertiary q.volume s position) one.1 in
        let same : a.0 ≡ b.0 = address_only g a.0 b.0 (Tertiary q.volume q.slot position) (λ dead. (cc)) (subst (IsAt g a.0) place p.place) q.place in
        let block : OfNode m (Content i) ≡ OfNode n (Content j) = one_named (OfNode m (Content i)) (OfNode n (Content j)) b.0 (subst (IsNamedAt g image rec t (OfNode m (Content i))) same a.2) b.2 in
        ((cc), (cc))

    root_used : entry 1 ≢ 4294967295
    root_used none = (let two = limits.inode_count.0 in no_off_entry g image rec parts t un 1 (omega arith) (inr (inr (refl, none))))

    root_node : (node : FlatNode) × (get nodes 1 ≡ Some node)
    root_node = by (get nodes 1) refl (has.entries 1 (omega arith) (let two = limits.inode_count.0 in omega arith))
      where
        by : (o : Option FlatNode) → get nodes 1 ≡ o → IsMapEntry g t.slots image 1 (entry 1) o → (node : FlatNode) × (get nodes 1 ≡ Some node)
        by None e none = absurd (root_used none)
        by (Some node) e is = (node, e)

    root_dir : root_node.0.kind ≡ Dir
    root_dir =
        let two = limits.inode_count.0 in
        let high : 1 < g.inodes = omega arith in
        let is = node_there g limits image t nodes has 1 root_node.0 root_node.1 in
        let own = there g image rec parts t un 1 (omega arith) high root_used in
        is.is.kind_is ∙ ap (λ (v : Inode). v.kind) (one_inode (image (entry 1)) (image (entry 1)) is.inode own.0 refl is.there.spelled own.1.spelled)
        ∙ root_kind g image rec parts t un 1 (omega arith) high root_used refl

    -- SOUND
    pub sound_made : IsSound g image (record { rec = rec; parts = parts; tables = t; nodes = nodes })
    sound_made = record {
      tables_once = tables_once g image rec parts t un;
      no_zero = certain (is_equal (entry 0) 4294967295) (λ some. (let two = limits.inode_count.0 in no_off_entry g image rec parts t un 0 (omega arith) (inr (inl (refl, some)))));
      root = root_node.0;
      root_is = root_node.1;
      root_dir = root_dir;
      one_block = λ x y address a b. one_named x y address (named x address a) (named y address b);
      away_once = away_once;
      used = λ address live. certain (used_or_not g rec parts t (address / g.k)) (λ unused. un.none StrayBlock (omega arith) address (inl (live, unused)));
      behind = λ address taken ahead. un.none StrayBlock (omega arith) address (inr (taken, ahead));
      slots = slots_sound;
    }
