-- Marks, table blocks and clean segments, one more at a time.
use Rattle.std.proofs.Common.{◌≡◌, ◌≢◌, inl, inr, ℕ, zero, suc, ◌+◌, ◌-◌, ◌<◌, ◌≤◌, ◌==◌, Bool, true, false, not, List, [], ◌∷◌, ◌++◌, take, drop, set, get_or, length, length-append, map, filter, Some, slice_get, slice_index, refl, sym, ◌∙◌, ap, subst, arith, if◌then◌else◌}
use Rattle.std.specs.Prelude.{Contains}
use Rattle.std.specs.List.{range_with_len}
use Rattle.std.proofs.lemmas.Bool.{and_parts, eq-eqb, eqb-true}
use Rattle.std.proofs.lemmas.List.{append-nil, take_more}
use Rattle.std.proofs.lemmas.List.Elements.{filter-append}
use Rattle.std.proofs.lemmas.List.FromFn.{map-range_with_len_more}
use Rattle.std.proofs.lemmas.Option.{get_or_from_slice_get}
use Rattle.hl_bytes.specs.declared.block.Block.{Block}
use Rattle.hl_addr.specs.Layout.{Layout}
use Rattle.hl_log.specs.Free.{AreClean, Once}
use Rattle.hl_log.specs.Loads.{bytes_of_tables}
use Rattle.hl_log.proofs.Freed.{in_range}
use Rattle.hl_nodes.proofs.Membership.{first_or_later}
use Rattle.hl_tables.specs.TableBlocks.{table_block}
use Rattle.hl_tables.specs.Values.{TableValues}
use Rattle.hl_store.specs.Checkpointing.{clean_of, is_clean}

-- one mark more is read
pub mark_more : (used marks next : List Bool) (n : ℕ) (b : Bool) → marks ≡ take n used → n < length used → slice_get used (n + 1 - 1) ≡ Some b → next ≡ marks ++ b ∷ [] → next ≡ take (n + 1) used
mark_more used marks next n b so_far lt at is =
    let place : n + 1 - 1 ≡ n = omega arith in
    let mark : get_or used n false ≡ b = get_or_from_slice_get used n b false (ap (slice_get used) (sym place) ∙ at) in
    is ∙ ap (λ (xs : List Bool). xs ++ b ∷ []) so_far ∙ ap (λ (x : Bool). take n used ++ x ∷ []) (sym mark) ∙ sym (take_more used n false lt)

-- one mark more is set
set_more : (xs ys : List Bool) (n : ℕ) → length xs ≡ length ys → n < length xs → set (take n xs ++ drop n ys) n (get_or xs n false) ≡ take (n + 1) xs ++ drop (n + 1) ys
set_more [] ys n same lt = absurd (omega arith)
set_more (x ∷ xs) [] n same lt = absurd (omega arith)
set_more (x ∷ xs) (y ∷ ys) zero same lt = refl
set_more (x ∷ xs) (y ∷ ys) (suc n) same lt =
    let k : suc n + 1 ≡ suc (n + 1) = omega arith in
    ap (λ (zs : List Bool). x ∷ zs) (set_more xs ys n (omega arith) (omega arith))
    ∙ sym (ap (λ (m : ℕ). take m (x ∷ xs) ++ drop m (y ∷ ys)) k)

pub marks_more : (old now next : TableValues) (marks : List Bool) (n : ℕ) → length marks ≡ length old.used → n < length marks → now ≡ record old { used = take n marks ++ drop n old.used }
    → next ≡ record now { used = set now.used (n + 1 - 1) (get_or marks n false) } → next ≡ record old { used = take (n + 1) marks ++ drop (n + 1) old.used }
marks_more old now next marks n same lt so_far is =
    let place : n + 1 - 1 ≡ n = omega arith in
    is
    ∙ ap (λ (t : TableValues). record t { used = set t.used (n + 1 - 1) (get_or marks n false) }) so_far
    ∙ ap (λ (k : ℕ). record old { used = set (take n marks ++ drop n old.used) k (get_or marks n false) }) place
    ∙ ap (λ (us : List Bool). record old { used = us }) (set_more marks old.used n same lt)

-- one block of the tables more
pub table_more : (t : TableValues) (blocks next : List Block) (n : ℕ) (block : Block) → bytes_of_tables blocks ≡ map (table_block t) (range_with_len 0 n) → block.bytes ≡ table_block t n
    → next ≡ blocks ++ block ∷ [] → bytes_of_tables next ≡ map (table_block t) (range_with_len 0 (n + 1))
table_more t blocks next n block so_far bytes is =
    ap bytes_of_tables is ∙ map_push blocks
    ∙ ap (λ (bs : List (List ℕ)). bs ++ block.bytes ∷ []) so_far
    ∙ ap (λ (b : List ℕ). map (table_block t) (range_with_len 0 n) ++ b ∷ []) bytes
    ∙ sym (map-range_with_len_more (table_block t) 0 n n (omega arith))
  where
    map_push : (bs : List Block) → bytes_of_tables (bs ++ block ∷ []) ≡ bytes_of_tables bs ++ block.bytes ∷ []
    map_push [] = refl
    map_push (b ∷ bs) = ap (λ (xs : List (List ℕ)). b.bytes ∷ xs) (map_push bs)

-- a row of numbers with one more
range_more : (a n : ℕ) → range_with_len a (n + 1) ≡ range_with_len a n ++ (a + n) ∷ []
range_more a zero = ap (λ (k : ℕ). k ∷ []) (let k : a ≡ a + 0 = omega arith in k)
range_more a (suc n) =
    let m : suc n + 1 ≡ suc (n + 1) = omega arith in
    let k : a + 1 + n ≡ a + suc n = omega arith in
    ap (range_with_len a) m ∙ ap (λ (xs : List ℕ). a ∷ xs) (range_more (a + 1) n ∙ ap (λ (j : ℕ). range_with_len (a + 1) n ++ j ∷ []) k)

-- the clean ones of the segments so far, and one more
pub record PassesMore (test : ℕ → Bool) (n : ℕ) (next : List ℕ) : Type 0 where
  pub so_far : next ≡ filter test (range_with_len 1 (n + 1))
  pub few : length next ≤ n + 1

pub passes_more : (test : ℕ → Bool) (clean next : List ℕ) (n : ℕ) → clean ≡ filter test (range_with_len 1 n) → length clean ≤ n
    → next ≡ (if test (n + 1) then clean ++ (n + 1) ∷ [] else clean) → PassesMore test n next
passes_more test clean next n so_far few is = by (test (n + 1)) refl
  where
    at : 1 + n ≡ n + 1
    at = omega arith

    whole : filter test (range_with_len 1 (n + 1)) ≡ filter test (range_with_len 1 n) ++ filter test ((n + 1) ∷ [])
    whole = ap (filter test) (range_more 1 n) ∙ filter-append test (range_with_len 1 n) ((1 + n) ∷ []) ∙ ap (λ (k : ℕ). filter test (range_with_len 1 n) ++ filter test (k ∷ [])) at

    by : (b : Bool) → test (n + 1) ≡ b → PassesMore test n next
    by true e =
        let one : next ≡ clean ++ (n + 1) ∷ [] = is ∙ ap (λ (b : Bool). if b then clean ++ (n + 1) ∷ [] else clean) e in
        let size = ap length one ∙ length-append clean ((n + 1) ∷ []) in
        record {
          so_far = one ∙ ap (λ (xs : List ℕ). xs ++ (n + 1) ∷ []) so_far
              ∙ ap (λ (b : Bool). filter test (range_with_len 1 n) ++ (if b then (n + 1) ∷ [] else [])) (sym e) ∙ sym whole;
          few = omega arith;
        }
    by false e =
        let one : next ≡ clean = is ∙ ap (λ (b : Bool). if b then clean ++ (n + 1) ∷ [] else clean) e in
        let size = ap length one in
        record {
          so_far = one ∙ so_far ∙ sym (append-nil (filter test (range_with_len 1 n)))
              ∙ ap (λ (b : Bool). filter test (range_with_len 1 n) ++ (if b then (n + 1) ∷ [] else [])) (sym e) ∙ sym whole;
          few = omega arith;
        }

-- WHAT PASSES A TEST, of a row of numbers

-- a passed number is of the row, and passes
pub passed_in : (test : ℕ → Bool) (xs : List ℕ) (x : ℕ) → Contains (filter test xs) x → Contains xs x × (test x ≡ true)
passed_in test [] x i = absurd (let lt = i.1 in omega arith)
passed_in test (y ∷ ys) x i = by (test y) refl (passed_in test ys x) i
  where
    head : Contains (y ∷ ys) y
    head = (0, omega arith, refl)

    tail : Contains ys x → Contains (y ∷ ys) x
    tail at = (let lt = at.1 in (suc at.0, omega arith, at.2))

    by : (b : Bool) → test y ≡ b → (Contains (filter test ys) x → Contains ys x × (test x ≡ true)) → Contains (if b then y ∷ filter test ys else filter test ys) x → Contains (y ∷ ys) x × (test x ≡ true)
    by true e rest c = elim (first_or_later y x (filter test ys) c) [
      | inl same ↦ (subst (Contains (y ∷ ys)) same head, ap test (sym same) ∙ e)
      | inr later ↦ (tail (rest later).0, (rest later).1)
    ]
    by false e rest c = (tail (rest c).0, (rest c).1)

-- each once
pub passed_once : (test : ℕ → Bool) (a n : ℕ) → Once (filter test (range_with_len a n))
passed_once test a zero = tt
passed_once test a (suc n) = by (test a) (passed_once test (a + 1) n)
  where
    later : Contains (filter test (range_with_len (a + 1) n)) a → ⊥
    later i = (let r = in_range (a + 1) n a (passed_in test (range_with_len (a + 1) n) a i).0 in let low = r.0 in omega arith)

    by : (b : Bool) → Once (filter test (range_with_len (a + 1) n)) → Once (if b then a ∷ filter test (range_with_len (a + 1) n) else filter test (range_with_len (a + 1) n))
    by true rest = (later, rest)
    by false rest = rest

-- and no more than there are
pub passed_few : (test : ℕ → Bool) (xs : List ℕ) → length (filter test xs) ≤ length xs
passed_few test [] = omega arith
passed_few test (y ∷ ys) = by (test y) (passed_few test ys)
  where
    by : (b : Bool) → length (filter test ys) ≤ length ys → length (if b then y ∷ filter test ys else filter test ys) ≤ length (y ∷ ys)
    by true rest = omega arith
    by false rest = omega arith

-- THE CLEAN SEGMENTS are segments of the log, each once, without a live block and not the head's
module _ (head : ℕ) (live : List ℕ) (seg : ℕ) (is : Contains (clean_of head live) seg) where
  passed : Contains (range_with_len 1 (length live)) seg × (is_clean head live seg ≡ true)
  passed = passed_in (is_clean head live) (range_with_len 1 (length live)) seg is

  pub clean_low : 1 ≤ seg
  clean_low = (in_range 1 (length live) seg passed.0).0

  pub clean_high : seg ≤ length live
  clean_high = (let r = in_range 1 (length live) seg passed.0 in let lt = r.1 in omega arith)

  tests : (slice_index live (seg - 1) == 0 ≡ true) × (not (seg == head) ≡ true)
  tests = and_parts (slice_index live (seg - 1) == 0) (not (seg == head)) passed.1

  pub clean_none : slice_index live (seg - 1) ≡ 0
  clean_none = eqb-true (slice_index live (seg - 1)) 0 tests.0

  pub clean_apart : seg ≢ head
  clean_apart same = (let clash : false ≡ true = sym (ap not (eq-eqb seg head same)) ∙ tests.1 in absurd cc)

pub clean_segments_are : (g : Layout) (head : ℕ) (live : List ℕ) → length live ≡ g.log → AreClean g head (clean_of head live)
clean_segments_are g head live size = record {
  in_log = λ seg is. (clean_low head live seg is, subst (λ (n : ℕ). seg ≤ n) size (clean_high head live seg is));
  once = passed_once (is_clean head live) 1 (length live);
  apart = λ is. clean_apart head live head is refl;
}
