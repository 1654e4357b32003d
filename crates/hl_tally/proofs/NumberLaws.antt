-- What a live number tells of its segment.
use Rattle.std.proofs.Common.{◌≡◌, ◌≢◌, inl, inr, ℕ, ◌+◌, ◌-◌, ◌≤◌, Bool, true, false, not, List, [], ◌∷◌, length, refl, sym, ◌∙◌, ap, subst, arith}
use Rattle.std.specs.Prelude.{Contains, if◌then◌else◌, slice_index}
use Rattle.std.specs.List.{filter}
use Rattle.std.proofs.lemmas.List.Kept.{AllPairs-filter}
use Rattle.hl_media.specs.History.{Image}
use Rattle.hl_addr.specs.Layout.{Layout}
use Rattle.hl_nodes.specs.Live.{IsLiveAt, LiveBlock}
use Rattle.hl_nodes.specs.Live.LiveBlock.{OfNode, Table}
use Rattle.hl_nodes.specs.LiveNumbers.{HasLiveBlocks, IsOfNode, IsTable, LiesInSegment}
use Rattle.hl_nodes.specs.Contents.{Contents}
use Rattle.hl_nodes.specs.Sound.{HasSound}
use Rattle.hl_nodes.proofs.Frame.{limits_of}
use Rattle.hl_nodes.proofs.Membership.{first_or_later, head_in, tail_in}
use Rattle.hl_overlaid.specs.NodesNow.{Overlaid}
use Rattle.hl_tally.specs.Tally.{HasCount, IsTally, StaysLive, Tally}
use Rattle.hl_tally.proofs.Growing.{few_in_segment}
use Rattle.hl_tally.proofs.Lives.{none_stays}
use Rattle.hl_tally.proofs.UnitLaws.{some_in_segment}

-- what is left of a list by a test
filter_in : {A : Type 0} (p : A → Bool) (xs : List A) (x : A) → Contains (filter p xs) x → Contains xs x × (p x ≡ true)
filter_in p [] x i = absurd (let lt = i.1 in omega arith)
filter_in p (y ∷ ys) x i = by (p y) refl (filter_in p ys x) i
  where
    by : (b : Bool) → p y ≡ b → (Contains (filter p ys) x → Contains ys x × (p x ≡ true)) → Contains (if b then y ∷ filter p ys else filter p ys) x → Contains (y ∷ ys) x × (p x ≡ true)
    by true e rest c = elim (first_or_later y x (filter p ys) c) [
      | inl same ↦ (subst (Contains (y ∷ ys)) same (head_in y ys), ap p (sym same) ∙ e)
      | inr later ↦ (tail_in y x ys (rest later).0, (rest later).1)
    ]
    by false e rest c = (tail_in y x ys (rest c).0, (rest c).1)

filter_to : {A : Type 0} (p : A → Bool) (xs : List A) (x : A) → Contains xs x → p x ≡ true → Contains (filter p xs) x
filter_to p [] x i passes = absurd (let lt = i.1 in omega arith)
filter_to p (y ∷ ys) x i passes = by (p y) refl (λ later. filter_to p ys x later passes)
  where
    by : (b : Bool) → p y ≡ b → (Contains ys x → Contains (filter p ys) x) → Contains (if b then y ∷ filter p ys else filter p ys) x
    by true e rest = elim (first_or_later y x ys i) [
      | inl same ↦ subst (Contains (y ∷ filter p ys)) same (head_in y (filter p ys))
      | inr later ↦ tail_in y x (filter p ys) (rest later)
    ]
    by false e rest = elim (first_or_later y x ys i) [
      | inl same ↦ (let clash : false ≡ true = sym e ∙ ap p same ∙ passes in absurd cc)
      | inr later ↦ rest later
    ]

filter_parts : {A : Type 0} (p : A → Bool) (xs : List A) → length (filter p xs) + length (filter (λ x. not (p x)) xs) ≡ length xs
filter_parts p [] = refl
filter_parts p (y ∷ ys) = by (p y) (filter_parts p ys)
  where
    by : (b : Bool) → length (filter p ys) + length (filter (λ x. not (p x)) ys) ≡ length ys
        → length (if b then y ∷ filter p ys else filter p ys) + length (if not b then y ∷ filter (λ x. not (p x)) ys else filter (λ x. not (p x)) ys) ≡ length (y ∷ ys)
    by true rest = omega arith
    by false rest = omega arith

-- blocks of nodes, and those of tables
of_node : LiveBlock → Bool
of_node (Table i) = false
of_node (OfNode ino b) = true

of_node_is : (x : LiveBlock) → of_node x ≡ true → IsOfNode x
unfolding of_node
of_node_is (Table i) e = absurd cc
of_node_is (OfNode ino b) e = tt

is_of_node : (x : LiveBlock) → IsOfNode x → of_node x ≡ true
unfolding of_node
is_of_node (Table i) is = absurd is
is_of_node (OfNode ino b) is = refl

of_table_is : (x : LiveBlock) → not (of_node x) ≡ true → IsTable x
unfolding of_node
of_table_is (Table i) e = tt
of_table_is (OfNode ino b) e = absurd cc

is_of_table : (x : LiveBlock) → IsTable x → not (of_node x) ≡ true
unfolding of_node
is_of_table (Table i) is = refl
is_of_table (OfNode ino b) is = absurd is

module _ (g : Layout) (image : Image) (c : Contents) (o : Overlaid) (n : Tally) (segment : ℕ) (t : IsTally g o image c n) (low : 1 ≤ segment) (high : segment ≤ g.log) where
  abbrev number : ℕ
  number = slice_index n.live (segment - 1)

  -- it is at most as many blocks as the segment has
  pub number_most : HasSound g image c → number ≤ g.k
  number_most sound = few_in_segment g.k (some_in_segment g.k (limits_of g image c.rec sound.has.newest sound.has.volumes).segment_size) (IsLiveAt g image c.rec c.tables) sound.sound.one_block
      (StaysLive g o.overlay image c segment) segment number (λ x s. record { address = s.address; is = s.lies; within = s.within }) (t.live segment low high)

  -- where it is none, the segment has no live block that stays
  pub number_none : number ≡ 0 → (x : LiveBlock) → StaysLive g o.overlay image c segment x → ⊥
  number_none none x s = (
      let has : HasCount (StaysLive g o.overlay image c segment) number = t.live segment low high in
      let i = (has.lists.each x).1 s in
      let lt = i.1 in
      let size = has.count_is in
      omega arith)

  -- where nothing is drafted, it is that of the contents
  pub number_parts : o.overlay.drafts.items ≡ [] → (charge tables : ℕ) × HasLiveBlocks g image c.rec c.tables segment charge tables × (number ≡ charge + tables)
  number_parts none = (length nodes, length others, blocks_are, sym (filter_parts of_node has.blocks ∙ has.count_is))
    where
      has : HasCount (StaysLive g o.overlay image c segment) number
      has = t.live segment low high

      nodes : List LiveBlock
      nodes = filter of_node has.blocks

      others : List LiveBlock
      others = filter (λ x. not (of_node x)) has.blocks

      lies : (x : LiveBlock) → Contains has.blocks x → LiesInSegment g image c.rec c.tables segment x
      lies x i = (let s = (has.lists.each x).0 i in (s.address, s.lies, s.within))

      listed : (x : LiveBlock) → LiesInSegment g image c.rec c.tables segment x → Contains has.blocks x
      listed x at = (has.lists.each x).1 (record { address = at.0; lies = at.1; stays = none_stays o none x at.0; within = at.2 })

      blocks_are : HasLiveBlocks g image c.rec c.tables segment (length nodes) (length others)
      blocks_are = record {
        of_nodes = nodes;
        lists_nodes = record {
          each = λ x. (
            λ i. (let f = filter_in of_node has.blocks x i in (of_node_is x f.1, lies x f.0)),
            λ is. filter_to of_node has.blocks x (listed x is.1) (is_of_node x is.0),
          );
          once = AllPairs-filter (λ a b. a ≢ b) of_node has.blocks has.lists.once;
        };
        charge_is = refl;
        of_tables = others;
        lists_tables = record {
          each = λ x. (
            λ i. (let f = filter_in (λ y. not (of_node y)) has.blocks x i in (of_table_is x f.1, lies x f.0)),
            λ is. filter_to (λ y. not (of_node y)) has.blocks x (listed x is.1) (is_of_table x is.0),
          );
          once = AllPairs-filter (λ a b. a ≢ b) (λ y. not (of_node y)) has.blocks has.lists.once;
        };
        tables_are = refl;
      }
