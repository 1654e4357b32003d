-- The live numbers of the log's segments, as a unit's blocks come in.
use Rattle.std.proofs.Common.{◌≡◌, ◌≢◌, ◌⊎◌, inl, inr, ⊎_elim, ℕ, zero, suc, ◌+◌, ◌-◌, ◌*◌, ◌/◌, ◌%◌, ◌^◌, ◌<◌, ◌≤◌, min, Bool, true, false, List, [], ◌∷◌, length, length-set, get_or, take, mod-lt, refl, sym, ◌∙◌, ap, subst, arith}
use Rattle.std.specs.Prelude.{if◌then◌else◌, slice_index, slice_set, Contains, eqb}
use Rattle.std.specs.List.{IsDistinct, fold, list_any}
use Rattle.std.proofs.Math.Nat.{div-add-mod}
use Rattle.std.proofs.Math.Seq.{take-length}
use Rattle.std.proofs.lemmas.Bool.{cases_eq}
use Rattle.std.proofs.lemmas.Bool.Decides.{eqb_tells}
use Rattle.std.proofs.lemmas.List.{get_or_default, get_or-set_same, get_or-set_other}
use Rattle.std.proofs.lemmas.List.Sums.{fold_more}
use Rattle.std.proofs.lemmas.Map.Keys.{IsDistinct-from_apart}
use Rattle.std.proofs.lemmas.Map.Steps.{length-le_from_distinct_below}
use Rattle.hl_nodes.specs.Live.{LiveBlock}
use Rattle.hl_nodes.specs.Live.LiveBlock.{Table}
use Rattle.hl_nodes.proofs.Choosing.{choose_list}
use Rattle.hl_nodes.proofs.Membership.{first_or_later, head_in, tail_in}
use Rattle.hl_tally.specs.Tally.{HasCount}
use Rattle.hl_tally.specs.Counting.{added, is_logged}
use Rattle.hl_tally.proofs.Counts.{count_same}
use Rattle.hl_tally.proofs.Segments.{AreCounted, CountsIn, logged_within, recounted}

-- what holds of one block more
pub count_more : (P Q : LiveBlock → Type 0) (n : ℕ) (y : LiveBlock) → (P y → ⊥) → Q y → ((x : LiveBlock) → P x → Q x) → ((x : LiveBlock) → Q x → P x ⊎ (x ≡ y)) → HasCount P n → HasCount Q (n + 1)
count_more P Q n y new is to from has = record {
  blocks = y ∷ has.blocks;
  lists = record {
    each = λ x. (
      λ i. ⊎_elim (λ e. subst Q e is) (λ later. to x ((has.lists.each x).0 later)) (first_or_later y x has.blocks i),
      λ q. ⊎_elim (λ p. tail_in y x has.blocks ((has.lists.each x).1 p)) (λ e. subst (Contains (y ∷ has.blocks)) (sym e) (head_in y has.blocks)) (from x q),
    );
    once = once;
  };
  count_is = (let size = has.count_is in omega arith);
}
  where
    once : (i j : ℕ) (d : LiveBlock) → i < j → j < length (y ∷ has.blocks) → get_or (y ∷ has.blocks) i d ≢ get_or (y ∷ has.blocks) j d
    once i zero d low high e = absurd (omega arith)
    once zero (suc j) d low high e = new ((has.lists.each y).0 (j, omega arith, get_or_default has.blocks j y d (omega arith) ∙ sym e))
    once (suc i) (suc j) d low high e = has.lists.once i j d (omega arith) (omega arith) e

apart_eqb : (a b : ℕ) → a ≢ b → eqb a b ≡ false
apart_eqb a b ne = elim (eqb_tells a b) [ inl t ↦ absurd (ne t.1) | inr t ↦ t.0 ]

any_eqb : (q : ℕ) (xs : List ℕ) (P : ℕ → Type 0) → ((i : ℕ) → i < length xs → P (get_or xs i 0)) → list_any (eqb q) xs ≡ true → P q
any_eqb q [] P each any = absurd (cc)
any_eqb q (x ∷ xs) P each any = elim (eqb_tells q x) [
  | inl t ↦ subst P (sym t.1) (each 0 (omega arith))
  | inr t ↦ any_eqb q xs P (λ i lt. each (suc i) (omega arith)) (rw t.0 at any)
]

module _ (k : ℕ) (some : 0 < k) (L : LiveBlock → ℕ → Type 0) (one : (x y : LiveBlock) (a : ℕ) → L x a → L y a → x ≡ y) where
  -- of distinct blocks in one segment there are at most as many as that has addresses
  pub few_in_segment : (P : LiveBlock → Type 0) (segment n : ℕ) → ((x : LiveBlock) → P x → CountsIn k L segment x) → HasCount P n → n ≤ k
  few_in_segment P segment n lies has = subst (λ (m : ℕ). m ≤ k) (rows.1 ∙ has.count_is) (length-le_from_distinct_below rows.0 k distinct (λ q any. any_eqb q rows.0 (λ r. r < k) below any))
    where
      d : LiveBlock
      d = Table 0

      Row : ℕ → ℕ → Type 0
      Row i r = (a : ℕ) × L (get_or has.blocks i d) a × (a / k ≡ segment) × (a % k ≡ r)

      row : (i : ℕ) → i < length has.blocks → (r : ℕ) × Row i r
      row i lt = (
          let at = lies (get_or has.blocks i d) ((has.lists.each (get_or has.blocks i d)).0 (i, lt, get_or_default has.blocks i (get_or has.blocks i d) d lt)) in
          (at.address % k, (at.address, at.is, at.within, refl)))

      rows : (rs : List ℕ) × (length rs ≡ length has.blocks) × ((i : ℕ) → i < length has.blocks → Row i (get_or rs i 0))
      rows = choose_list Row 0 (length has.blocks) row

      below : (i : ℕ) → i < length rows.0 → get_or rows.0 i 0 < k
      below i lt = (let r = rows.2 i (subst (λ (m : ℕ). i < m) rows.1 lt) in subst (λ (m : ℕ). m < k) r.3 (mod-lt r.0 some))

      differ : (i j : ℕ) → i < j → j < length rows.0 → get_or rows.0 i 0 ≢ get_or rows.0 j 0
      differ i j low high same = (
          let size = rows.1 in
          let x = rows.2 i (omega arith) in
          let y = rows.2 j (omega arith) in
          let a : x.0 ≡ y.0 = sym (div-add-mod x.0 k) ∙ ap (λ (q : ℕ). k * q + x.0 % k) (x.2 ∙ sym y.2) ∙ ap (λ (r : ℕ). k * (y.0 / k) + r) (x.3 ∙ same ∙ sym y.3) ∙ div-add-mod y.0 k in
          has.lists.once i j d low (omega arith) (one (get_or has.blocks i d) (get_or has.blocks j d) y.0 (subst (L (get_or has.blocks i d)) a x.1) y.1))

      distinct : IsDistinct eqb rows.0
      distinct = IsDistinct-from_apart eqb rows.0 (λ i j e low high. apart_eqb (get_or rows.0 i e) (get_or rows.0 j e)
          (λ same. differ i j low high (get_or_default rows.0 i 0 e (omega arith) ∙ same ∙ get_or_default rows.0 j e 0 high)))

-- Each block of a plan comes in at its address, and they are the live blocks with those that stay.
module _ (k : ℕ) (some : 0 < k) (least : k ≤ 512) (S L : LiveBlock → ℕ → Type 0) (plan : List ℕ)
    (one : (x y : LiveBlock) (a : ℕ) → L x a → L y a → x ≡ y) (only : (x : LiveBlock) (a b : ℕ) → L x a → L x b → a ≡ b)
    (stay : (x : LiveBlock) (a : ℕ) → S x a → L x a)
    (from : (x : LiveBlock) (a : ℕ) → L x a → S x a ⊎ ((j : ℕ) × (j < length plan) × (slice_index plan j ≡ a) × ((b : ℕ) → S x b → ⊥)))
    (placed : (j : ℕ) → j < length plan → (x : LiveBlock) × L x (slice_index plan j) × ((b : ℕ) → S x b → ⊥))
    (apart : (i j : ℕ) → i < length plan → j < length plan → slice_index plan i ≡ slice_index plan j → i ≡ j) where
  -- those that stay, and those at the first addresses of the plan
  pub record IsNew (m : ℕ) (x : LiveBlock) (a : ℕ) : Type 0 where
    pub place : ℕ
    pub low : place < m
    pub lies : slice_index plan place ≡ a
    pub lives : L x a
    pub fresh : (b : ℕ) → S x b → ⊥

  abbrev Now : ℕ → LiveBlock → ℕ → Type 0
  Now m x a = S x a ⊎ IsNew m x a

  now_live : (m : ℕ) (x : LiveBlock) (a : ℕ) → Now m x a → L x a
  now_live m x a (inl s) = stay x a s
  now_live m x a (inr n) = n.lives

  module _ (m : ℕ) (lt : m < length plan) (live : List ℕ) (logged : is_logged k (length live) (slice_index plan m) ≡ true) (counted : AreCounted k (Now m) live) where
    abbrev address : ℕ
    address = slice_index plan m

    abbrev y : LiveBlock
    y = (placed m lt).0

    y_lives : L y address
    y_lives = (placed m lt).1

    not_yet : (a : ℕ) → Now m y a → ⊥
    not_yet a (inl s) = (placed m lt).2 a s
    not_yet a (inr n) = (
        let below = n.low in
        let same : n.place ≡ m = apart n.place m (omega arith) lt (n.lies ∙ only y a address n.lives y_lives) in
        omega arith)

    more : (x : LiveBlock) (a : ℕ) → Now m x a → Now (m + 1) x a
    more x a (inl s) = inl s
    more x a (inr n) = inr (record { place = n.place; low = (let below = n.low in omega arith); lies = n.lies; lives = n.lives; fresh = n.fresh })

    y_now : Now (m + 1) y address
    y_now = inr (record { place = m; low = omega arith; lies = refl; lives = y_lives; fresh = (placed m lt).2 })

    less : (x : LiveBlock) (a : ℕ) → Now (m + 1) x a → Now m x a ⊎ ((x ≡ y) × (a ≡ address))
    less x a (inl s) = inl (inl s)
    less x a (inr n) = elim (cases_eq n.place m) [
      | inl e ↦ (
          let at : a ≡ address = sym n.lies ∙ ap (slice_index plan) e in
          inr (one x y address (subst (L x) at n.lives) y_lives, at))
      | inr ne ↦ inl (inr (record { place = n.place; low = (let below = n.low in omega arith); lies = n.lies; lives = n.lives; fresh = n.fresh }))
    ]

    -- in the segment of the block, and in another
    there : (segment n : ℕ) → segment ≡ address / k → HasCount (CountsIn k (Now m) segment) n → HasCount (CountsIn k (Now (m + 1)) segment) (n + 1)
    there segment n s = count_more (CountsIn k (Now m) segment) (CountsIn k (Now (m + 1)) segment) n y (λ c. not_yet c.address c.is) (record { address = address; is = y_now; within = sym s })
        (λ x c. record { address = c.address; is = more x c.address c.is; within = c.within })
        (λ x c. ⊎_elim (λ was. inl (record { address = c.address; is = was; within = c.within })) (λ new. inr new.0) (less x c.address c.is))

    other : (segment n : ℕ) → segment ≢ address / k → HasCount (CountsIn k (Now m) segment) n → HasCount (CountsIn k (Now (m + 1)) segment) n
    other segment n s = count_same (CountsIn k (Now m) segment) (CountsIn k (Now (m + 1)) segment) n
        (λ x c. record { address = c.address; is = more x c.address c.is; within = c.within })
        (λ x c. record { address = c.address; is = ⊎_elim (λ was. was) (λ new. absurd (s (sym c.within ∙ ap (λ (a : ℕ). a / k) new.1))) (less x c.address c.is); within = c.within })

    few : (segment n : ℕ) → HasCount (CountsIn k (Now (m + 1)) segment) n → n ≤ k
    few segment n = few_in_segment k some L one (CountsIn k (Now (m + 1)) segment) segment n (λ x c. record { address = c.address; is = now_live (m + 1) x c.address c.is; within = c.within })

    abbrev spot : ℕ
    spot = address / k - 1

    abbrev number : ℕ
    number = min (slice_index live spot + 1) (2 ^ 32 - 1)

    in_log : AreCounted k (Now (m + 1)) (slice_set live spot number)
    in_log segment low high =
        let w = logged_within k (length live) address logged in
        let w0 = w.0 in
        let w1 = w.1 in
        let top : segment ≤ length live = subst (λ (x : ℕ). segment ≤ x) (length-set live spot number) high in
        let whole : HasCount (CountsIn k (Now m) segment) (slice_index live (segment - 1)) = counted segment low top in
        elim (cases_eq segment (address / k)) [
          | inl e ↦ (
              let at : segment - 1 ≡ spot = ap (λ (x : ℕ). x - 1) e in
              let grown = there segment (slice_index live (segment - 1)) e whole in
              let now : slice_index (slice_set live spot number) (segment - 1) ≡ number = ap (slice_index (slice_set live spot number)) at ∙ get_or-set_same live spot number 0 (omega arith) in
              let most = few segment (slice_index live (segment - 1) + 1) grown in
              let is : slice_index live (segment - 1) + 1 ≡ number = unbounded (slice_index live (segment - 1)) (slice_index live spot) most (ap (slice_index live) at) in
              subst (λ (x : ℕ). HasCount (CountsIn k (Now (m + 1)) segment) x) (is ∙ sym now) grown)
          | inr ne ↦ (
              let apart_spot : segment - 1 ≢ spot = λ e. ne (omega arith) in
              subst (λ (x : ℕ). HasCount (CountsIn k (Now (m + 1)) segment) x) (sym (get_or-set_other live spot (segment - 1) number 0 apart_spot)) (other segment (slice_index live (segment - 1)) ne whole))
        ]
      where
        unbounded : (n o : ℕ) → n + 1 ≤ k → n ≡ o → n + 1 ≡ min (o + 1) (2 ^ 32 - 1)
        unbounded n o most same = omega arith

    comes_in : AreCounted k (Now (m + 1)) (added k live address)
    comes_in = subst (λ (b : Bool). AreCounted k (Now (m + 1)) (if b then slice_set live spot number else live)) (sym logged) in_log

  length-added : (live : List ℕ) (a : ℕ) → length (added k live a) ≡ length live
  length-added live a = by (is_logged k (length live) a)
    where
      by : (b : Bool) → length (if b then slice_set live (a / k - 1) (min (slice_index live (a / k - 1) + 1) (2 ^ 32 - 1)) else live) ≡ length live
      by true = length-set live (a / k - 1) (min (slice_index live (a / k - 1) + 1) (2 ^ 32 - 1))
      by false = refl

  module _ (live : List ℕ) (logged : (j : ℕ) → j < length plan → is_logged k (length live) (slice_index plan j) ≡ true) (counted : AreCounted k S live) where
    up_to : (m : ℕ) → m ≤ length plan → AreCounted k (Now m) (fold (added k) live (take m plan)) × (length (fold (added k) live (take m plan)) ≡ length live)
    up_to zero le = (recounted k S (Now 0) live (λ x a s. inl s) (λ x a n. ⊎_elim (λ s. s) (λ new. absurd (let below = new.low in omega arith)) n) counted, refl)
    up_to (suc m) le =
        let before = up_to m (omega arith) in
        let lt : m < length plan = omega arith in
        let next : suc m ≡ m + 1 = omega arith in
        let here = fold (added k) live (take m plan) in
        let step : fold (added k) live (take (suc m) plan) ≡ added k here (slice_index plan m) = ap (λ (n : ℕ). fold (added k) live (take n plan)) next ∙ fold_more (added k) live plan m 0 lt in
        let in_logged : is_logged k (length here) (slice_index plan m) ≡ true = ap (λ (n : ℕ). is_logged k n (slice_index plan m)) before.1 ∙ logged m lt in (
          subst (λ (l : List ℕ). AreCounted k (Now (suc m)) l) (sym step) (subst (λ (n : ℕ). AreCounted k (Now n) (added k here (slice_index plan m))) (sym next) (comes_in m lt here in_logged before.0)),
          ap (λ (l : List ℕ). length l) step ∙ length-added here (slice_index plan m) ∙ before.1,
        )

    -- behind the plan all live blocks are counted
    pub all_in : AreCounted k L (fold (added k) live plan)
    all_in = (
        let done = up_to (length plan) (omega arith) in
        recounted k (Now (length plan)) L (fold (added k) live plan) (now_live (length plan))
        (λ x a l. ⊎_elim (λ s. inl s) (λ n. inr (record { place = n.0; low = n.1; lies = n.2; lives = l; fresh = n.3 })) (from x a l))
        (subst (λ (l : List ℕ). AreCounted k (Now (length plan)) (fold (added k) live l)) (take-length plan) done.0))

    pub all_in-length : length (fold (added k) live plan) ≡ length live
    all_in-length = (let done = up_to (length plan) (omega arith) in ap (λ (l : List ℕ). length (fold (added k) live l)) (sym (take-length plan)) ∙ done.1)
