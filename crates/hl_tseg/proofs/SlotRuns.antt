-- A run of slots that is written over others, one slot more.
use Rattle.std.proofs.Common.{◌≡◌, ℕ, suc, ◌+◌, ◌<◌, ◌≤◌, List, [], ◌∷◌, ◌++◌, length, take, drop, get_or, sym, ap, ◌∙◌, arith, append_assoc, length-append, length-drop, drop-cons}
use Rattle.std.specs.Prelude.{slice_set}
use Rattle.std.proofs.lemmas.List.{set_at, take_more, take-append-drop, length-take-le}
use Rattle.hl_tseg.specs.SlotTable.{SlotTable, with_run}
use Rattle.hl_tseg.specs.declared.slot.Slot.{Slot}
use Rattle.hl_tseg.specs.declared.slot.Slot.TheVariants.{Free}

-- a run of none changes nothing
pub run-none : {A : Type 0} (xs run : List A) (at : ℕ) → with_run xs at (take 0 run) ≡ xs
run-none {A} xs run at = let e : at + 0 ≡ at = omega arith in ap (λ (n : ℕ). take at xs ++ drop n xs) e ∙ take-append-drop at xs

-- a run keeps the count
pub length-with_run : {A : Type 0} (xs run : List A) (at : ℕ) → at + length run ≤ length xs → length (with_run xs at run) ≡ length xs
length-with_run xs run at le =
    omega (arith, length-append (take at xs) (run ++ drop (at + length run) xs), length-append run (drop (at + length run) xs), length-drop (at + length run) xs, length-take-le at xs (omega arith))

-- one slot more
pub run-more : {A : Type 0} (xs run : List A) (at i : ℕ) (d : A) → at + length run ≤ length xs → i < length run → slice_set (with_run xs at (take i run)) (at + i) (get_or run i d) ≡ with_run xs at (take (i + 1) run)
run-more {A} xs run at i d le lt =
    let few : length (take i run) ≡ i = length-take-le i run (omega arith) in
    let more : at + length (take (i + 1) run) ≡ suc (at + i) = omega (arith, length-take-le (i + 1) run (omega arith)) in
    let front : length (take at xs ++ take i run) ≡ at + i = omega (arith, length-append (take at xs) (take i run), length-take-le at xs (omega arith), few) in
    let rest : drop (at + length (take i run)) xs ≡ get_or xs (at + i) d ∷ drop (suc (at + i)) xs = ap (λ (n : ℕ). drop (at + n) xs) few ∙ drop-cons xs (at + i) d (omega arith) in
    let split : with_run xs at (take i run) ≡ (take at xs ++ take i run) ++ (get_or xs (at + i) d ∷ drop (suc (at + i)) xs) =
    ap (λ (l : List A). take at xs ++ (take i run ++ l)) rest ∙ sym (append_assoc (take at xs) (take i run) (get_or xs (at + i) d ∷ drop (suc (at + i)) xs)) in
    let next : with_run xs at (take (i + 1) run) ≡ (take at xs ++ take i run) ++ (get_or run i d ∷ drop (suc (at + i)) xs) =
    ap (λ (n : ℕ). take at xs ++ (take (i + 1) run ++ drop n xs)) more ∙ ap (λ (l : List A). take at xs ++ (l ++ drop (suc (at + i)) xs)) (take_more run i d lt)
    ∙ ap (λ (l : List A). take at xs ++ l) (append_assoc (take i run) (get_or run i d ∷ []) (drop (suc (at + i)) xs))
    ∙ sym (append_assoc (take at xs) (take i run) (get_or run i d ∷ drop (suc (at + i)) xs)) in
    ap (λ (l : List A). slice_set l (at + i) (get_or run i d)) split ∙ set_at (take at xs ++ take i run) (get_or xs (at + i) d) (drop (suc (at + i)) xs) (get_or run i d) (at + i) front ∙ sym next

pub one_more : (t before after : SlotTable) (run : List Slot) (at i : ℕ) → at + length run ≤ length t.slots → i < length run
    → before ≡ record t { slots = with_run t.slots at (take i run) } → after ≡ record before { slots = slice_set before.slots (at + i) (get_or run i Free) }
    → after ≡ record t { slots = with_run t.slots at (take (i + 1) run) }
one_more t before after run at i le lt so_far is =
    is ∙ ap (λ (b : SlotTable). record b { slots = slice_set b.slots (at + i) (get_or run i Free) }) so_far
    ∙ ap (λ (l : List Slot). record t { slots = l }) (run-more t.slots run at i Free le lt)
