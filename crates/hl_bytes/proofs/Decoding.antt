-- Fields that are read from a block that spells them.
use Rattle.std.proofs.Common.{◌≡◌, ◌↔◌, ℕ, ◌+◌, ◌-◌, ◌<◌, ◌≤◌, ◌^◌, List, take, drop, Option, Bool, true, false, cond, Some, None, refl, sym, ap, subst, ◌∙◌, arith}
use Rattle.std.specs.Prelude.{IsNone}
use Rattle.std.proofs.lemmas.Bool.{false≢true}
use Rattle.std.proofs.lemmas.List.{take-take, drop-take, drop-drop}
use Rattle.hl_bytes.specs.Fields.{u32_at, u64_at, le32, le64}
use Rattle.hl_bytes.proofs.Places.{back32, back64}

-- a part of the front of a list
pub part_front : (xs : List ℕ) (at k n : ℕ) → at + k ≤ n → take k (drop at (take n xs)) ≡ take k (drop at xs)
part_front xs at k n le =
    let e : n ≡ at + (n - at) = omega arith in
    let short : k ≤ n - at = omega arith in
    ap (λ (m : ℕ). take k (drop at (take m xs))) e ∙ ap (take k) (drop-take at (n - at) xs) ∙ take-take k (n - at) (drop at xs) short

-- a part of what stands at a place
pub inside : (bytes whole part : List ℕ) (at k n m : ℕ) → take n (drop at bytes) ≡ whole → k + m ≤ n → take m (drop k whole) ≡ part → take m (drop (at + k) bytes) ≡ part
inside bytes whole part at k n m is le within =
    ap (take m) (sym (drop-drop k at bytes)) ∙ sym (part_front (drop at bytes) k m n le) ∙ ap (λ (l : List ℕ). take m (drop k l)) is ∙ within

pub read32 : (block fields : List ℕ) (at n v : ℕ) → take n block ≡ fields → at + 4 ≤ n → v < 2 ^ 32 → take 4 (drop at fields) ≡ le32 v → u32_at at block ≡ v
read32 block fields at n v front le lt is = back32 block at v lt (sym (part_front block at 4 n le) ∙ ap (λ (l : List ℕ). take 4 (drop at l)) front ∙ is)

pub read64 : (block fields : List ℕ) (at n v : ℕ) → take n block ≡ fields → at + 8 ≤ n → v < 2 ^ 64 → take 8 (drop at fields) ≡ le64 v → u64_at at block ≡ v
read64 block fields at n v front le lt is = back64 block at v lt (sym (part_front block at 8 n le) ∙ ap (λ (l : List ℕ). take 8 (drop at l)) front ∙ is)

-- a decoder's answer, where it is some value and where it is none
pub some_is : {A : Type 0} (P : A → Type 0) (x : A) → P x → ((v : A) → P v → x ≡ v) → (v : A) → (Some x ≡ Some v) ↔ P v
some_is P x holds only v = (λ e. let same : x ≡ v = cc in subst P same holds, λ p. ap Some (only v p))

pub none_is : {A : Type 0} (P : A → Type 0) → ((v : A) → P v → ⊥) → (v : A) → (let r : Option A = None in r ≡ Some v) ↔ P v
none_is P never v = (λ e. absurd cc, λ p. absurd (never v p))

-- a decoder that reads x and tests it: where the test holds, and where it fails
pub accepted : {A : Type 0} (P : A → Type 0) (x : A) (r : Bool) → r ≡ true → (r ≡ true → P x) → ((v : A) → P v → x ≡ v) → (v : A) → (Some x ≡ Some v) ↔ P v
accepted P x r is gives only = some_is P x (gives is) only

pub refused : {A : Type 0} (P : A → Type 0) (x : A) (r : Bool) → r ≡ false → (P x → r ≡ true) → ((v : A) → P v → x ≡ v) → (v : A) → (let n : Option A = None in n ≡ Some v) ↔ P v
refused P x r is owes only = none_is P (λ v p. false≢true (sym is ∙ owes (subst P (sym (only v p)) p)))

-- the same for a function of specs/ that tests what it reads
pub chosen : {A : Type 0} (P : A → Type 0) (x : A) (r : Bool) → (r ≡ true → P x) → (P x → r ≡ true) → ((v : A) → P v → x ≡ v) → (v : A) → (cond r (Some x) None ≡ Some v) ↔ P v
chosen P x true gives owes only v = some_is P x (gives refl) only v
chosen P x false gives owes only v = none_is P (λ v p. false≢true (owes (subst P (sym (only v p)) p))) v

-- two answers that meet one relation are one
pub same_answer : {A : Type 0} (P : A → Type 0) (r s : Option A) → ((v : A) → (r ≡ Some v) ↔ P v) → ((v : A) → (s ≡ Some v) ↔ P v) → r ≡ s
same_answer P None None a b = refl
same_answer P (Some x) s a b = sym ((b x).1 ((a x).0 refl))
same_answer P None (Some y) a b = (a y).1 ((b y).0 refl)

-- an answer is none exactly where no value meets the relation
pub none_exactly : {A : Type 0} (P : A → Type 0) (r : Option A) → ((v : A) → (r ≡ Some v) ↔ P v) → IsNone r ↔ ((v : A) → ¬ P v)
none_exactly P None is = (λ t v p. let e = (is v).1 p in absurd cc, λ never. refl)
none_exactly P (Some x) is = (λ t. absurd cc, λ never. absurd (never x ((is x).0 refl)))
