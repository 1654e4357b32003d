-- New blocks and the pointers that name them, when one pointer changes.
use Rattle.std.proofs.Common.{◌≡◌, ◌≢◌, ◌⊎◌, inl, inr, ℕ, ◌+◌, ◌-◌, ◌<◌, ◌≤◌, List, [], ◌∷◌, ◌++◌, length, length-append, slice_get, slice_set, Option, Some, sym, ◌∙◌, ap, subst, arith}
use Rattle.std.specs.Prelude.{slice_index_or}
use Rattle.std.proofs.lemmas.Bool.{cases_eq, cases_lt}
use Rattle.std.proofs.lemmas.Option.{slice_get_within, slice_get-get_or}
use Rattle.hl_bytes.specs.declared.block.Block.{Block}
use Rattle.hl_bytes.specs.declared.records.BlockRecord.{BlockRecord}
use Rattle.hl_overlay.specs.declared.pointers.Pointer.{Pointer}
use Rattle.hl_overlay.specs.declared.pointers.Pointer.TheVariants.{New}
use Rattle.hl_overlay.specs.Pointing.{IsNotNew}
use Rattle.hl_overlay.specs.Overlays.{AreNamed, AreNamedBut}
use Rattle.hl_overlay.proofs.TableLemmas.{slice_get-set_same, slice_get-set_other, slice_get-append_left, slice_get-append_end}

-- all pointers but one stay
pub record ChangesOne (numbers : ℕ) (f g : ℕ → ℕ → Option Pointer) (ino i : ℕ) (p : Pointer) : Type 0 where
  pub here : g ino i ≡ Some p
  pub others : (q j : ℕ) → q < numbers → (q ≢ ino) ⊎ (j ≢ i) → g q j ≡ f q j

-- two places are the same, or differ
pub same_place : (q j ino i : ℕ) → ((q ≡ ino) × (j ≡ i)) ⊎ ((q ≢ ino) ⊎ (j ≢ i))
same_place q j ino i = elim (cases_eq q ino) [
  | inl a ↦ elim (cases_eq j i) [ inl b ↦ inl (a, b) | inr ne ↦ inr (inr ne) ]
  | inr ne ↦ inr (inl ne)
]

pub no_place : {q j ino i : ℕ} → q ≡ ino → j ≡ i → (q ≢ ino) ⊎ (j ≢ i) → ⊥
no_place a b (inl ne) = ne a
no_place a b (inr ne) = ne b

pub one_value : {A : Type 0} {o : Option A} {a b : A} → o ≡ Some a → o ≡ Some b → a ≡ b
one_value x y = let e = sym x ∙ y in cc

pub one_new : {o : Option Pointer} {m n : ℕ} → o ≡ Some (New m) → o ≡ Some (New n) → m ≡ n
one_new x y = let e = sym x ∙ y in cc

module _ (numbers : ℕ) (f g : ℕ → ℕ → Option Pointer) (blocks : List (BlockRecord × Block)) (are : AreNamed numbers f blocks) where
  -- a pointer to no new block changes to one to no new block
  pub named_still : ((q j n : ℕ) → q < numbers → g q j ≡ Some (New n) → f q j ≡ Some (New n)) → ((q j n : ℕ) → q < numbers → f q j ≡ Some (New n) → g q j ≡ Some (New n)) → AreNamed numbers g blocks
  named_still back forth = record {
    named = λ q j n lt at. are.named q j n lt (back q j n lt at);
    owned = λ n b at. (let o = are.owned n b at in (o.0, forth b.0.ino b.0.index n o.0 o.1));
    small = are.small;
  }

  -- a block comes behind the others
  pub named_behind : (ino i : ℕ) (block : Block) → ino < numbers → i < 1036 → ((n : ℕ) → f ino i ≢ Some (New n)) → ChangesOne numbers f g ino i (New (length blocks)) → AreNamed numbers g (blocks ++ (record { ino = ino; index = i }, block) ∷ [])
  named_behind ino i block low few not_new one = record { named = named; owned = owned; small = small }
    where
      last : BlockRecord × Block
      last = (record { ino = ino; index = i }, block)

      named : (q j n : ℕ) → q < numbers → g q j ≡ Some (New n) → (b : BlockRecord × Block) × (slice_get (blocks ++ (record { ino = ino; index = i }, block) ∷ []) n ≡ Some b) × (b.0 ≡ record { ino = q; index = j })
      named q j n lt at = elim (same_place q j ino i) [
        | inl same ↦ (
            let n_is : n ≡ length blocks = one_new at (ap (λ x. g x j) same.0 ∙ ap (g ino) same.1 ∙ one.here) in
            ((record { ino = ino; index = i }, block), ap (slice_get (blocks ++ (record { ino = ino; index = i }, block) ∷ [])) n_is ∙ slice_get-append_end blocks (record { ino = ino; index = i }, block), (let a = same.0 in let b = same.1 in cc)))
        | inr differ ↦ (
            let o = are.named q j n lt (sym (one.others q j lt differ) ∙ at) in
            (o.0, slice_get-append_left blocks (record { ino = ino; index = i }, block) n (slice_get_within blocks n o.0 o.1) ∙ o.1, o.2))
      ]

      small : (n : ℕ) (b : BlockRecord × Block) → slice_get (blocks ++ (record { ino = ino; index = i }, block) ∷ []) n ≡ Some b → b.0.index < 1036
      small n b at = elim (cases_lt n (length blocks)) [
        | inl lt ↦ are.small n b (sym (slice_get-append_left blocks (record { ino = ino; index = i }, block) n lt) ∙ at)
        | inr ge ↦ (
            let w : n < length blocks + 1 = subst (λ m. n < m) (length-append blocks ((record { ino = ino; index = i }, block) ∷ [])) (slice_get_within (blocks ++ (record { ino = ino; index = i }, block) ∷ []) n b at) in
            let n_is : n ≡ length blocks = omega arith in
            let b_is : b ≡ (record { ino = ino; index = i }, block) = one_value at (ap (slice_get (blocks ++ (record { ino = ino; index = i }, block) ∷ [])) n_is ∙ slice_get-append_end blocks (record { ino = ino; index = i }, block)) in
            subst (λ (x : BlockRecord × Block). x.0.index < 1036) (sym b_is) few)
      ]

      owned : (n : ℕ) (b : BlockRecord × Block) → slice_get (blocks ++ (record { ino = ino; index = i }, block) ∷ []) n ≡ Some b → (b.0.ino < numbers) × (g b.0.ino b.0.index ≡ Some (New n))
      owned n b at = elim (cases_lt n (length blocks)) [
        | inl lt ↦ (
            let o = are.owned n b (sym (slice_get-append_left blocks (record { ino = ino; index = i }, block) n lt) ∙ at) in
            (o.0, one.others b.0.ino b.0.index o.0 (apart n b o.1 (same_place b.0.ino b.0.index ino i)) ∙ o.1))
        | inr ge ↦ (
            let n_is : n ≡ length blocks = at_end n b at ge in
            let b_is : b ≡ (record { ino = ino; index = i }, block) = one_value at (ap (slice_get (blocks ++ (record { ino = ino; index = i }, block) ∷ [])) n_is ∙ slice_get-append_end blocks (record { ino = ino; index = i }, block)) in
            (subst (λ (x : BlockRecord × Block). x.0.ino < numbers) (sym b_is) low, subst (λ (x : BlockRecord × Block). g x.0.ino x.0.index ≡ Some (New n)) (sym b_is) (subst (λ m. g ino i ≡ Some (New m)) (sym n_is) one.here)))
      ]
        where
          apart : (n : ℕ) (b : BlockRecord × Block) → f b.0.ino b.0.index ≡ Some (New n) → ((b.0.ino ≡ ino) × (b.0.index ≡ i)) ⊎ ((b.0.ino ≢ ino) ⊎ (b.0.index ≢ i)) → (b.0.ino ≢ ino) ⊎ (b.0.index ≢ i)
          apart n b at (inl same) = absurd (not_new n (ap (λ x. f x i) (sym same.0) ∙ ap (f b.0.ino) (sym same.1) ∙ at))
          apart n b at (inr differ) = differ

          at_end : (n : ℕ) (b : BlockRecord × Block) → slice_get (blocks ++ (record { ino = ino; index = i }, block) ∷ []) n ≡ Some b → length blocks ≤ n → n ≡ length blocks
          at_end n b at ge = let w = subst (λ m. n < m) (length-append blocks ((record { ino = ino; index = i }, block) ∷ [])) (slice_get_within (blocks ++ (record { ino = ino; index = i }, block) ∷ []) n b at) in omega arith

  -- a block is written over
  pub named_over : (n : ℕ) (old new : BlockRecord × Block) → slice_get blocks n ≡ Some old → new.0 ≡ old.0 → ((q j : ℕ) → g q j ≡ f q j) → AreNamed numbers g (slice_set blocks n new)
  named_over n old new was same stay = record { named = named; owned = owned; small = small }
    where
      within : n < length blocks
      within = slice_get_within blocks n old was

      small : (m : ℕ) (b : BlockRecord × Block) → slice_get (slice_set blocks n new) m ≡ Some b → b.0.index < 1036
      small m b at = elim (cases_eq m n) [
        | inl e ↦ (
            let b_is : b ≡ new = one_value at (ap (slice_get (slice_set blocks n new)) e ∙ slice_get-set_same blocks n new within) in
            let r : b.0 ≡ old.0 = ap (λ (x : BlockRecord × Block). x.0) b_is ∙ same in
            subst (λ (x : BlockRecord). x.index < 1036) (sym r) (are.small n old was))
        | inr ne ↦ are.small m b (sym (slice_get-set_other blocks n m new ne) ∙ at)
      ]

      named : (q j m : ℕ) → q < numbers → g q j ≡ Some (New m) → (b : BlockRecord × Block) × (slice_get (slice_set blocks n new) m ≡ Some b) × (b.0 ≡ record { ino = q; index = j })
      named q j m lt at = (let o = are.named q j m lt (sym (stay q j) ∙ at) in elim (cases_eq m n) [
        | inl e ↦ (new, ap (slice_get (slice_set blocks n new)) e ∙ slice_get-set_same blocks n new within, same ∙ ap (λ (x : BlockRecord × Block). x.0) (one_value was (ap (slice_get blocks) (sym e) ∙ o.1)) ∙ o.2)
        | inr ne ↦ (o.0, slice_get-set_other blocks n m new ne ∙ o.1, o.2)
      ])

      owned : (m : ℕ) (b : BlockRecord × Block) → slice_get (slice_set blocks n new) m ≡ Some b → (b.0.ino < numbers) × (g b.0.ino b.0.index ≡ Some (New m))
      owned m b at = elim (cases_eq m n) [
        | inl e ↦ (
            let b_is : b ≡ new = one_value at (ap (slice_get (slice_set blocks n new)) e ∙ slice_get-set_same blocks n new within) in
            let r : b.0 ≡ old.0 = ap (λ (x : BlockRecord × Block). x.0) b_is ∙ same in
            let o = are.owned n old was in
            (subst (λ (x : BlockRecord). x.ino < numbers) (sym r) o.0, subst (λ (x : BlockRecord). g x.ino x.index ≡ Some (New m)) (sym r) (stay old.0.ino old.0.index ∙ o.1 ∙ ap (λ x. Some (New x)) (sym e))))
        | inr ne ↦ (let o = are.owned m b (sym (slice_get-set_other blocks n m new ne) ∙ at) in (o.0, stay b.0.ino b.0.index ∙ o.1))
      ]

  -- a block is named no more
  pub named_but : (ino i n : ℕ) (p : Pointer) → IsNotNew p → ino < numbers → f ino i ≡ Some (New n) → ChangesOne numbers f g ino i p → AreNamedBut n numbers g blocks
  named_but ino i n p not_new low was one = record {
    named = λ q j m lt at. elim (same_place q j ino i) [
      | inl same ↦ absurd (not_new m (one_value (ap (λ x. g x j) same.0 ∙ ap (g ino) same.1 ∙ one.here) at))
      | inr differ ↦ (let at' = sym (one.others q j lt differ) ∙ at in (apart q j m lt at' differ, are.named q j m lt at'))
    ];
    owned = λ m b at ne. (let o = are.owned m b at in (o.0, one.others b.0.ino b.0.index o.0 (elsewhere b m o.1 ne (same_place b.0.ino b.0.index ino i)) ∙ o.1));
    small = are.small;
  }
    where
      apart : (q j m : ℕ) → q < numbers → f q j ≡ Some (New m) → (q ≢ ino) ⊎ (j ≢ i) → m ≢ n
      apart q j m lt at differ same =
          let a = are.named q j m lt at in
          let b = are.named ino i n low was in
          let blocks_same : a.0 ≡ b.0 = one_value a.1 (ap (slice_get blocks) same ∙ b.1) in
          let records_same : record { ino = q; index = j } ≡ record { ino = ino; index = i } = sym a.2 ∙ ap (λ (x : BlockRecord × Block). x.0) blocks_same ∙ b.2 in
          no_place (ap (λ (x : BlockRecord). x.ino) records_same) (ap (λ (x : BlockRecord). x.index) records_same) differ

      elsewhere : (b : BlockRecord × Block) (m : ℕ) → f b.0.ino b.0.index ≡ Some (New m) → m ≢ n → ((b.0.ino ≡ ino) × (b.0.index ≡ i)) ⊎ ((b.0.ino ≢ ino) ⊎ (b.0.index ≢ i)) → (b.0.ino ≢ ino) ⊎ (b.0.index ≢ i)
      elsewhere b m at ne (inl same) = absurd (ne (one_new (ap (λ x. f x i) (sym same.0) ∙ ap (f b.0.ino) (sym same.1) ∙ at) was))
      elsewhere b m at ne (inr differ) = differ

-- one item is gone, and the last one has its place
pub record Drops (xs left : List (BlockRecord × Block)) (n : ℕ) : Type 0 where
  pub count : length xs ≡ length left + 1
  pub same : (k : ℕ) → k ≢ n → k < length left → slice_get left k ≡ slice_get xs k
  pub moved : n < length left → slice_get left n ≡ slice_get xs (length left)

pub drops_by : (xs left : List (BlockRecord × Block)) (n a b : ℕ) (d : BlockRecord × Block) → a ≡ length xs → b ≡ length left → b + 1 ≡ a
    → (n + 1 < a → slice_index_or left n d ≡ slice_index_or xs (a - 1) d) → ((k : ℕ) → k ≢ n → k + 1 < a → slice_index_or left k d ≡ slice_index_or xs k d) → Drops xs left n
drops_by xs left n a b d a_is b_is count moved same = record {
  count = omega arith;
  same = λ k ne lt. slice_get-get_or left k d lt ∙ ap Some (same k ne (omega arith)) ∙ sym (slice_get-get_or xs k d (omega arith));
  moved = λ lt. (let at_end : a - 1 ≡ length left = omega arith in slice_get-get_or left n d lt ∙ ap Some (moved (omega arith) ∙ ap (λ k. slice_index_or xs k d) at_end) ∙ sym (slice_get-get_or xs (length left) d (omega arith)));
}

module _ (n numbers : ℕ) (f g : ℕ → ℕ → Option Pointer) (blocks left : List (BlockRecord × Block)) (are : AreNamedBut n numbers f blocks) (drops : Drops blocks left n) where
  -- a block that is named and isn't the last is where it was
  pub kept_at : (q j m : ℕ) → q < numbers → f q j ≡ Some (New m) → m ≢ length left → slice_get left m ≡ slice_get blocks m
  kept_at q j m lt at ne =
      let o = are.named q j m lt at in
      let w : m < length blocks = slice_get_within blocks m o.1.0 o.1.1 in
      let c : length blocks ≡ length left + 1 = drops.count in
      drops.same m o.0 (below m (length left) (length blocks) w c ne)
    where
      below : (a b c : ℕ) → a < c → c ≡ b + 1 → a ≢ b → a < b
      below a b c lt e ne = omega arith

  -- the block that goes is the last one
  pub named_last : n ≡ length left → AreNamed numbers f left
  named_last last = record {
    named = λ q j m lt at. (let o = are.named q j m lt at in (o.1.0, kept_at q j m lt at (λ e. o.0 (e ∙ sym last)) ∙ o.1.1, o.1.2));
    owned = λ m b at. are.owned m b (older m b at) (not_it m b at);
    small = λ m b at. are.small m b (older m b at);
  }
    where
      not_it : (m : ℕ) (b : BlockRecord × Block) → slice_get left m ≡ Some b → m ≢ n
      not_it m b at e = (let w : m < length left = slice_get_within left m b at in let h : m ≡ n = e in omega arith)

      older : (m : ℕ) (b : BlockRecord × Block) → slice_get left m ≡ Some b → slice_get blocks m ≡ Some b
      older m b at = sym (drops.same m (not_it m b at) (slice_get_within left m b at)) ∙ at

  -- the last block takes the place
  pub named_moved : (last : BlockRecord × Block) → n < length left → slice_get left n ≡ Some last → ChangesOne numbers f g last.0.ino last.0.index (New n) → AreNamed numbers g left
  named_moved last lt_n is one = record { named = named; owned = owned; small = small }
    where
      was : slice_get blocks (length left) ≡ Some last
      was = sym (drops.moved lt_n) ∙ is

      apart_n : length left ≢ n
      apart_n e = (let h : length left ≡ n = e in omega arith)

      mine : (last.0.ino < numbers) × (f last.0.ino last.0.index ≡ Some (New (length left)))
      mine = are.owned (length left) last was apart_n

      not_last : (q j m : ℕ) → q < numbers → f q j ≡ Some (New m) → (q ≢ last.0.ino) ⊎ (j ≢ last.0.index) → m ≢ length left
      not_last q j m lt at differ e =
          let o = are.named q j m lt at in
          let same : o.1.0 ≡ last = one_value o.1.1 (ap (slice_get blocks) e ∙ was) in
          let records : record { ino = q; index = j } ≡ last.0 = sym o.1.2 ∙ ap (λ (x : BlockRecord × Block). x.0) same in
          no_place (ap (λ (x : BlockRecord). x.ino) records) (ap (λ (x : BlockRecord). x.index) records) differ

      named : (q j m : ℕ) → q < numbers → g q j ≡ Some (New m) → (b : BlockRecord × Block) × (slice_get left m ≡ Some b) × (b.0 ≡ record { ino = q; index = j })
      named q j m lt at = elim (same_place q j last.0.ino last.0.index) [
        | inl same ↦ (
            let m_is : m ≡ n = one_new at (ap (λ x. g x j) same.0 ∙ ap (g last.0.ino) same.1 ∙ one.here) in
            (last, ap (slice_get left) m_is ∙ is, ap (λ x. record { ino = x; index = last.0.index }) (sym same.0) ∙ ap (λ x. record { ino = q; index = x }) (sym same.1)))
        | inr differ ↦ (
            let at' = sym (one.others q j lt differ) ∙ at in
            let o = are.named q j m lt at' in
            (o.1.0, kept_at q j m lt at' (not_last q j m lt at' differ) ∙ o.1.1, o.1.2))
      ]

      elsewhere : (b : BlockRecord × Block) (m : ℕ) → m < length left → f b.0.ino b.0.index ≡ Some (New m) → ((b.0.ino ≡ last.0.ino) × (b.0.index ≡ last.0.index)) ⊎ ((b.0.ino ≢ last.0.ino) ⊎ (b.0.index ≢ last.0.index)) → (b.0.ino ≢ last.0.ino) ⊎ (b.0.index ≢ last.0.index)
      elsewhere b m lt at (inl same) = (let e : m ≡ length left = one_new (ap (λ x. f x last.0.index) (sym same.0) ∙ ap (f b.0.ino) (sym same.1) ∙ at) mine.1 in absurd (omega arith))
      elsewhere b m lt at (inr differ) = differ

      owned : (m : ℕ) (b : BlockRecord × Block) → slice_get left m ≡ Some b → (b.0.ino < numbers) × (g b.0.ino b.0.index ≡ Some (New m))
      owned m b at = elim (cases_eq m n) [
        | inl e ↦ (
            let b_is : b ≡ last = one_value at (ap (slice_get left) e ∙ is) in
            (subst (λ (x : BlockRecord × Block). x.0.ino < numbers) (sym b_is) mine.0, subst (λ (x : BlockRecord × Block). g x.0.ino x.0.index ≡ Some (New m)) (sym b_is) (one.here ∙ ap (λ x. Some (New x)) (sym e))))
        | inr ne ↦ (
            let w : m < length left = slice_get_within left m b at in
            let o = are.owned m b (sym (drops.same m ne w) ∙ at) ne in
            (o.0, one.others b.0.ino b.0.index o.0 (elsewhere b m w o.1 (same_place b.0.ino b.0.index last.0.ino last.0.index)) ∙ o.1))
      ]

      small : (m : ℕ) (b : BlockRecord × Block) → slice_get left m ≡ Some b → b.0.index < 1036
      small m b at = elim (cases_eq m n) [
        | inl e ↦ (let b_is : b ≡ last = one_value at (ap (slice_get left) e ∙ is) in subst (λ (x : BlockRecord × Block). x.0.index < 1036) (sym b_is) (are.small (length left) last was))
        | inr ne ↦ are.small m b (sym (drops.same m ne (slice_get_within left m b at)) ∙ at)
      ]
