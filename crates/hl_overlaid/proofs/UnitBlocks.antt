-- The blocks of a unit, by the drafts that they come from.
use Rattle.std.proofs.Common.{◌≡◌, ◌≢◌, ◌⊎◌, inl, inr, ℕ, zero, suc, ◌+◌, ◌<◌, Bool, true, false, List, [], ◌∷◌, ◌++◌, length, length-append, get_or, slice_get, Option, Some, None, refl, sym, ◌∙◌, ap, subst, arith}
use Rattle.std.specs.Prelude.{if◌then◌else◌, slice_index, Contains, map, option_map}
use Rattle.std.specs.List.{filter}
use Rattle.std.proofs.lemmas.Bool.{cases_lt}
use Rattle.std.proofs.lemmas.List.{get_or_append_left}
use Rattle.std.proofs.lemmas.Option.{slice_get_within, slice_get-get_or, slice_get-map, get_or_from_slice_get}
use Rattle.hl_bytes.specs.declared.block.Block.{Block}
use Rattle.hl_bytes.specs.declared.records.BlockRecord.{BlockRecord}
use Rattle.hl_overlay.specs.declared.draft.NodeDraft.{NodeDraft}
use Rattle.hl_overlay.specs.declared.draft.Shape.{Shape}
use Rattle.hl_overlay.specs.Making.{AddsAll, AddsDraft, AddsPointerBlock, AddsWanted, shape_wanted}
use Rattle.hl_overlay.proofs.TableLemmas.{slice_get-append_left, slice_get-append_end}
use Rattle.hl_overlay.proofs.MakingLemmas.{adds_all_front}
use Rattle.hl_nodes.proofs.Membership.{first_or_later, head_in, tail_in}
use Rattle.hl_overlaid.proofs.NowLemmas.{none_some, one}

-- what a list with one item more has
pub at_behind : (xs : List (BlockRecord × Block)) (x b : BlockRecord × Block) (n : ℕ) → slice_get (xs ++ x ∷ []) n ≡ Some b → (slice_get xs n ≡ Some b) ⊎ ((n ≡ length xs) × (b ≡ x))
at_behind xs x b n at = elim (cases_lt n (length xs)) [
  | inl lt ↦ inl (sym (slice_get-append_left xs x n lt) ∙ at)
  | inr ge ↦ (
      let w : n < length xs + 1 = subst (λ m. n < m) (length-append xs (x ∷ [])) (slice_get_within (xs ++ x ∷ []) n b at) in
      let e : n ≡ length xs = omega arith in
      inr (e, one at (ap (slice_get (xs ++ x ∷ [])) e ∙ slice_get-append_end xs x)))
]

-- what a list has, a longer one has
pub in_front : (xs rest : List (BlockRecord × Block)) (n : ℕ) (b : BlockRecord × Block) → slice_get xs n ≡ Some b → slice_get (xs ++ rest) n ≡ Some b
in_front xs rest n b at =
    let lt : n < length xs = slice_get_within xs n b at in
    slice_get-get_or (xs ++ rest) n b (let l = length-append xs rest in omega arith) ∙ ap Some (get_or_append_left xs rest b n lt ∙ get_or_from_slice_get xs n b b at)

-- the item of a mapped list
pub map_at : {A B : Type 0} (f : A → B) (xs : List A) (n : ℕ) (x : A) (y : B) → slice_get xs n ≡ Some x → get_or (map f xs) n y ≡ f x
map_at f xs n x y at = get_or_from_slice_get (map f xs) n (f x) y (slice_get-map f xs n ∙ ap (option_map f) at)

pub in_map : {A B : Type 0} (f : A → B) (xs : List A) (y : B) → Contains (map f xs) y → (k : ℕ) × (x : A) × (slice_get xs k ≡ Some x) × (f x ≡ y)
in_map f [] y i = absurd (let lt = i.1 in omega arith)
in_map f (x ∷ xs) y i = elim (first_or_later (f x) y (map f xs) i) [
  | inl e ↦ (0, x, refl, e)
  | inr j ↦ (let r = in_map f xs y j in (suc r.0, r.1, r.2, r.3))
]

pub in_filter : {A : Type 0} (p : A → Bool) (xs : List A) (k : ℕ) (x : A) → slice_get (filter p xs) k ≡ Some x → (j : ℕ) × (slice_get xs j ≡ Some x) × (p x ≡ true)
in_filter p [] k x at = absurd (none_some at)
in_filter p (y ∷ ys) k x at = by (p y) refl (λ m is. in_filter p ys m x is) k at
  where
    by : (b : Bool) → p y ≡ b → ((k : ℕ) → slice_get (filter p ys) k ≡ Some x → (j : ℕ) × (slice_get ys j ≡ Some x) × (p x ≡ true)) → (k : ℕ) → slice_get (filter p (y ∷ ys)) k ≡ Some x → (j : ℕ) × (slice_get (y ∷ ys) j ≡ Some x) × (p x ≡ true)
    by false e rec k is = (let r = rec k (sym (ap (λ (b : Bool). slice_get (if b then y ∷ filter p ys else filter p ys) k) e) ∙ is) in (suc r.0, r.1, r.2))
    by true e rec zero is = (let same : y ≡ x = one refl (sym (ap (λ (b : Bool). slice_get (if b then y ∷ filter p ys else filter p ys) 0) e) ∙ is) in (0, ap Some same, ap p (sym same) ∙ e))
    by true e rec (suc k) is = (let r = rec k (sym (ap (λ (b : Bool). slice_get (if b then y ∷ filter p ys else filter p ys) (suc k)) e) ∙ is) in (suc r.0, r.1, r.2))

pub filter_has : {A : Type 0} (p : A → Bool) (xs : List A) (j : ℕ) (x : A) → slice_get xs j ≡ Some x → p x ≡ true → Contains (filter p xs) x
filter_has p [] j x at is = absurd (none_some at)
filter_has p (y ∷ ys) zero x at is = (let same : y ≡ x = one refl at in subst (Contains (filter p (y ∷ ys))) same (subst (λ l. Contains l y) (sym (ap (λ (b : Bool). if b then y ∷ filter p ys else filter p ys) (ap p same ∙ is))) (head_in y (filter p ys))))
filter_has p (y ∷ ys) (suc j) x at is = by (p y) refl (filter_has p ys j x at is)
  where
    by : (b : Bool) → p y ≡ b → Contains (filter p ys) x → Contains (filter p (y ∷ ys)) x
    by true e i = subst (λ l. Contains l x) (sym (ap (λ (b : Bool). if b then y ∷ filter p ys else filter p ys) e)) (tail_in y x (filter p ys) i)
    by false e i = subst (λ l. Contains l x) (sym (ap (λ (b : Bool). if b then y ∷ filter p ys else filter p ys) e)) i

pub map_has : {A B : Type 0} (f : A → B) (xs : List A) (x : A) → Contains xs x → Contains (map f xs) (f x)
map_has f [] x i = absurd (let lt = i.1 in omega arith)
map_has f (y ∷ ys) x i = elim (first_or_later y x ys i) [
  | inl e ↦ subst (λ z. Contains (map f (y ∷ ys)) (f z)) e (head_in (f y) (map f ys))
  | inr j ↦ tail_in (f y) (f x) (map f ys) (map_has f ys x j)
]

not_own : (n : ℕ) → n ≡ 4294967294 → n ≡ 4294967295 → ⊥
not_own n e f = omega arith

-- an inode's own block that a draft brings is that draft's
own_of_one : (plan : List ℕ) (used : ℕ) (d : NodeDraft) (shape : Option Shape) (old new : List (BlockRecord × Block)) → AddsWanted plan used d shape old new → (n : ℕ) (b : BlockRecord × Block) → slice_get new n ≡ Some b → b.0.index ≡ 4294967295
    → (slice_get old n ≡ Some b) ⊎ ((d.ino ≡ b.0.ino) × ((s : Shape) × (shape ≡ Some s)))
own_of_one plan used d None old new same n b at own = inl (ap (λ xs. slice_get xs n) (sym same) ∙ at)
own_of_one plan used d (Some s) old new adds n b at own = by (at_behind adds.middle (record { ino = d.ino; index = 4294967295 }, adds.inode.block) b n (ap (λ xs. slice_get xs n) (sym adds.inode.is) ∙ at))
  where
    in_middle : slice_get adds.middle n ≡ Some b → AddsPointerBlock plan d old adds.middle adds.single → slice_get old n ≡ Some b
    in_middle is (inl (same, single_is, there)) = ap (λ xs. slice_get xs n) (sym same) ∙ is
    in_middle is (inr (far, none, (block, adds_is, single_is, named))) = elim (at_behind old (record { ino = d.ino; index = 4294967294 }, block) b n (ap (λ xs. slice_get xs n) (sym adds_is) ∙ is)) [
      | inl there ↦ there
      | inr last ↦ absurd (not_own b.0.index (ap (λ (x : BlockRecord × Block). x.0.index) last.1) own)
    ]

    by : (slice_get adds.middle n ≡ Some b) ⊎ ((n ≡ length adds.middle) × (b ≡ (record { ino = d.ino; index = 4294967295 }, adds.inode.block))) → (slice_get old n ≡ Some b) ⊎ ((d.ino ≡ b.0.ino) × ((t : Shape) × (Some s ≡ Some t)))
    by (inl is) = inl (in_middle is adds.pointer_block)
    by (inr last) = inr (sym (ap (λ (x : BlockRecord × Block). x.0.ino) last.1), (s, refl))

pub own_of : (plan uses : List ℕ) (ds : List NodeDraft) (old new : List (BlockRecord × Block)) → AddsAll plan uses ds old new → (n : ℕ) (b : BlockRecord × Block) → slice_get new n ≡ Some b → b.0.index ≡ 4294967295
    → (slice_get old n ≡ Some b) ⊎ ((k : ℕ) × (d : NodeDraft) × (slice_get ds k ≡ Some d) × (d.ino ≡ b.0.ino) × ((s : Shape) × (shape_wanted d ≡ Some s)))
own_of plan uses [] old new same n b at own = inl (ap (λ xs. slice_get xs n) (sym same) ∙ at)
own_of plan uses (d ∷ ds) old new (middle, first, all) n b at own = elim (own_of plan uses ds middle new all n b at own) [
  | inl is ↦ elim (own_of_one plan (slice_index uses d.ino) d (shape_wanted d) old middle first n b is own) [
    | inl there ↦ inl there
    | inr mine ↦ inr (0, d, refl, mine.0, mine.1)
  ]
  | inr later ↦ inr (suc later.0, later.1, later.2, later.3, later.4)
]

-- no inode's own block is there twice
abbrev pub HasOnce : List (BlockRecord × Block) → Type 0
HasOnce xs = (i j : ℕ) (a b : BlockRecord × Block) → i < j → slice_get xs i ≡ Some a → slice_get xs j ≡ Some b → a.0.index ≡ 4294967295 → b.0.index ≡ 4294967295 → a.0.ino ≢ b.0.ino

-- no inode's own block is there of this number
abbrev pub HasNoOwn : ℕ → List (BlockRecord × Block) → Type 0
HasNoOwn ino xs = (i : ℕ) (a : BlockRecord × Block) → slice_get xs i ≡ Some a → a.0.index ≡ 4294967295 → a.0.ino ≢ ino

once_behind : (xs : List (BlockRecord × Block)) (x : BlockRecord × Block) → HasOnce xs → (x.0.index ≡ 4294967295 → HasNoOwn x.0.ino xs) → HasOnce (xs ++ x ∷ [])
once_behind xs x once none i j a b lt at_i at_j own_a own_b = elim (at_behind xs x b j at_j) [
  | inl j_in ↦ elim (at_behind xs x a i at_i) [
    | inl i_in ↦ once i j a b lt i_in j_in own_a own_b
    | inr i_last ↦ (let w = slice_get_within xs j b j_in in let e = i_last.0 in absurd (omega arith))
  ]
  | inr j_last ↦ elim (at_behind xs x a i at_i) [
    | inl i_in ↦ (λ same. none (sym (ap (λ (y : BlockRecord × Block). y.0.index) j_last.1) ∙ own_b) i a i_in own_a (same ∙ ap (λ (y : BlockRecord × Block). y.0.ino) j_last.1))
    | inr i_last ↦ (let e = i_last.0 in let f = j_last.0 in absurd (omega arith))
  ]
]

once_of_one : (plan : List ℕ) (used : ℕ) (d : NodeDraft) (shape : Option Shape) (old new : List (BlockRecord × Block)) → AddsWanted plan used d shape old new → HasOnce old → HasNoOwn d.ino old → HasOnce new
once_of_one plan used d None old new same once none = subst HasOnce (sym same) once
once_of_one plan used d (Some s) old new adds once none = subst HasOnce (sym adds.inode.is) (once_behind adds.middle (record { ino = d.ino; index = 4294967295 }, adds.inode.block) (middle adds.pointer_block).0 (λ own. (middle adds.pointer_block).1))
  where
    middle : AddsPointerBlock plan d old adds.middle adds.single → HasOnce adds.middle × HasNoOwn d.ino adds.middle
    middle (inl (same, single_is, there)) = (subst HasOnce (sym same) once, subst (HasNoOwn d.ino) (sym same) none)
    middle (inr (far, gone, (block, is, single_is, named))) = (
      subst HasOnce (sym is) (once_behind old (record { ino = d.ino; index = 4294967294 }, block) once (λ own. absurd (not_own 4294967294 refl own))),
      subst (HasNoOwn d.ino) (sym is) (λ i a at own. elim (at_behind old (record { ino = d.ino; index = 4294967294 }, block) a i at) [
        | inl there ↦ none i a there own
        | inr last ↦ absurd (not_own a.0.index (ap (λ (x : BlockRecord × Block). x.0.index) last.1) own)
      ]),
    )

pub once_of : (plan uses : List ℕ) (ds : List NodeDraft) (old new : List (BlockRecord × Block)) → AddsAll plan uses ds old new → HasOnce old → ((k : ℕ) (d : NodeDraft) → slice_get ds k ≡ Some d → HasNoOwn d.ino old)
    → ((k l : ℕ) (d e : NodeDraft) → k < l → slice_get ds k ≡ Some d → slice_get ds l ≡ Some e → d.ino ≢ e.ino) → HasOnce new
once_of plan uses [] old new same once none apart = subst HasOnce (sym same) once
once_of plan uses (d ∷ ds) old new (middle, first, all) once none apart =
    once_of plan uses ds middle new all (once_of_one plan (slice_index uses d.ino) d (shape_wanted d) old middle first once (none 0 d refl)) none' (λ k l x y lt at_k at_l. apart (suc k) (suc l) x y (omega arith) at_k at_l)
  where
    none' : (k : ℕ) (e : NodeDraft) → slice_get ds k ≡ Some e → HasNoOwn e.ino middle
    none' k e at i a is own = elim (own_of_one plan (slice_index uses d.ino) d (shape_wanted d) old middle first i a is own) [
      | inl there ↦ none (suc k) e at i a there own
      | inr mine ↦ (λ same. apart 0 (suc k) d e (omega arith) refl at (mine.0 ∙ same))
    ]

-- the blocks of a draft come between others
pub record Brings (plan uses : List ℕ) (d : NodeDraft) (shape : Shape) (old new : List (BlockRecord × Block)) : Type 0 where
  pub before : List (BlockRecord × Block)
  pub after : List (BlockRecord × Block)
  pub adds : AddsDraft plan (slice_index uses d.ino) d shape before after
  pub rest : List (BlockRecord × Block)
  pub is : new ≡ after ++ rest

pub brings_of : (plan uses : List ℕ) (ds : List NodeDraft) (old new : List (BlockRecord × Block)) → AddsAll plan uses ds old new → (k : ℕ) (d : NodeDraft) (shape : Shape) → slice_get ds k ≡ Some d → shape_wanted d ≡ Some shape → Brings plan uses d shape old new
brings_of plan uses [] old new same k d shape at want = absurd (none_some at)
brings_of plan uses (e ∷ ds) old new (middle, first, all) zero d shape at want =
    let same : e ≡ d = one refl at in
    let front = adds_all_front plan uses ds middle new all in
    let mine : AddsWanted plan (slice_index uses d.ino) d (shape_wanted d) old middle = subst (λ (x : NodeDraft). AddsWanted plan (slice_index uses x.ino) x (shape_wanted x) old middle) same first in
    let adds : AddsWanted plan (slice_index uses d.ino) d (Some shape) old middle = subst (λ s. AddsWanted plan (slice_index uses d.ino) d s old middle) want mine in
    record { before = old; after = middle; adds = adds; rest = front.0; is = front.1 }
brings_of plan uses (e ∷ ds) old new (middle, first, all) (suc k) d shape at want =
    let r = brings_of plan uses ds middle new all k d shape at want in
    record { before = r.before; after = r.after; adds = r.adds; rest = r.rest; is = r.is }
