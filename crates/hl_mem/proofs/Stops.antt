-- Calls that are done again up to a moment.
use Rattle.std.proofs.Common.{◌≡◌, ℕ, zero, suc, ◌+◌, ◌*◌, ◌/◌, ◌<◌, ◌≤◌, List, [], ◌∷◌, ◌++◌, length, take, drop, get_or, All, refl, sym, ◌∙◌, ap, subst, arith, length-take}
use Rattle.std.proofs.lemmas.List.{take_more, take_at, map-append, take-map, length-map}
use Rattle.std.proofs.lemmas.List.Elements.{All-get_or}
use Rattle.hl_media.specs.History.{MachineState, DeviceCall, begun, ended, state_after, state_at}
use Rattle.hl_media.proofs.Runs.{state_after-append}
use Rattle.hl_mem.specs.declared.call.Call.{Call}
use Rattle.hl_mem.specs.declared.call.Call.TheVariants.{Reading, Writing, FailedWriting, Syncing, Saying}
use Rattle.hl_mem.specs.Recorded.{call_of, calls_of}
use Rattle.hl_mem.specs.Kept.{IsFit}

get_or-map : (said : List ℕ) (calls : List Call) (i : ℕ) (x : Call) → get_or (calls_of said calls) i (call_of said x) ≡ call_of said (get_or calls i x)
get_or-map said [] i x = refl
get_or-map said (c ∷ calls) zero x = refl
get_or-map said (c ∷ calls) (suc i) x = get_or-map said calls i x

fits : (n : ℕ) (said : List ℕ) (call : Call) → IsFit n (call_of said call) → IsFit n (call_of [] call)
fits n said Reading fit = tt
fits n said (Writing at bytes) fit = fit
fits n said (FailedWriting at bytes after) fit = fit
fits n said (Syncing succeeded) fit = tt
fits n said (Saying start count) fit = tt

-- each kept call is fit, where the calls that they stand for are
pub fit_at : (n : ℕ) (said : List ℕ) (calls : List Call) (told : List DeviceCall) → calls_of said calls ≡ told → All (IsFit n) told
    → (i : ℕ) (x : Call) → i < length calls → x ≡ get_or calls i x → IsFit n (call_of [] x)
fit_at n said calls told is fit i x lt item =
    let here : get_or told i (call_of said x) ≡ call_of said x =
    ap (λ (l : List DeviceCall). get_or l i (call_of said x)) (sym is) ∙ get_or-map said calls i x ∙ ap (call_of said) (sym item) in
    let long : length told ≡ length calls = ap length (sym is) ∙ length-map calls (call_of said) in
    fits n said x (subst (IsFit n) here (All-get_or (IsFit n) told i (call_of said x) (omega arith) fit))

-- the moments 2n and 2n + 1
moment_even : (s : MachineState) (calls : List DeviceCall) (n : ℕ) → n ≤ length calls → state_at s calls (2 * n) ≡ state_after s (take n calls)
moment_even s [] zero le = refl
moment_even s [] (suc n) le = absurd (omega arith)
moment_even s (c ∷ calls) zero le = refl
moment_even s (c ∷ calls) (suc n) le =
    let e : 2 * suc n ≡ suc (suc (2 * n)) = omega arith in
    rw e (moment_even (ended s c) calls n (omega arith))

moment_odd : (s : MachineState) (calls : List DeviceCall) (n : ℕ) (d : DeviceCall) → n < length calls → state_at s calls (suc (2 * n)) ≡ begun (state_after s (take n calls)) (get_or calls n d)
moment_odd s [] n d lt = absurd (omega arith)
moment_odd s (c ∷ calls) zero d lt = refl
moment_odd s (c ∷ calls) (suc n) d lt =
    let e : 2 * suc n ≡ suc (suc (2 * n)) = omega arith in
    rw e (moment_odd (ended s c) calls n d (omega arith))

-- one call more
pub stepped : (s : MachineState) (said : List ℕ) (calls : List Call) (i : ℕ) (x : Call) → i < length calls → x ≡ get_or calls i x
    → state_after s (calls_of said (take (i + 1) calls)) ≡ ended (state_after s (calls_of said (take i calls))) (call_of said x)
stepped s said calls i x lt is =
    ap (λ (l : List Call). state_after s (calls_of said l)) (take_more calls i x lt ∙ ap (λ (y : Call). take i calls ++ y ∷ []) (sym is))
    ∙ ap (state_after s) (map-append (call_of said) (take i calls) (x ∷ []))
    ∙ state_after-append s (calls_of said (take i calls)) (call_of said x ∷ [])

-- what was lent whole comes back whole
pub back : (new old : List ℕ) (n : ℕ) → length new ≡ n → take n (new ++ drop (length new) old) ≡ new
back new old n size = take_at new (drop (length new) old) n size

-- at the moment 2n
pub state_even : (s : MachineState) (said : List ℕ) (calls : List Call) (told : List DeviceCall) (n m : ℕ) → calls_of said calls ≡ told → n ≤ length calls → m ≡ 2 * n
    → state_after s (calls_of said (take n calls)) ≡ state_at s told m
state_even s said calls told n m told_is le is =
    sym (
    ap (λ (l : List DeviceCall). state_at s l m) (sym told_is)
    ∙ ap (state_at s (calls_of said calls)) is ∙ moment_even s (calls_of said calls) n (omega (arith, length-map calls (call_of said), le)) ∙ ap (state_after s) (take-map (call_of said) n calls)
    )

-- at the moment 2n + 1
pub state_odd : (s : MachineState) (said : List ℕ) (calls : List Call) (told : List DeviceCall) (n m : ℕ) (x : Call) → calls_of said calls ≡ told → n < length calls → m ≡ suc (2 * n) → x ≡ get_or calls n x
    → begun (state_after s (calls_of said (take n calls))) (call_of said x) ≡ state_at s told m
state_odd s said calls told n m x told_is lt is item =
    let at : get_or (calls_of said calls) n (call_of said x) ≡ call_of said x = get_or-map said calls n x ∙ ap (call_of said) (sym item) in
    sym (
    ap (λ (l : List DeviceCall). state_at s l m) (sym told_is)
    ∙ ap (state_at s (calls_of said calls)) is ∙ moment_odd s (calls_of said calls) n (call_of said x) (omega (arith, length-map calls (call_of said), lt))
    ∙ ap (λ (l : List DeviceCall). begun (state_after s l) (get_or (calls_of said calls) n (call_of said x))) (take-map (call_of said) n calls)
    ∙ ap (begun (state_after s (calls_of said (take n calls)))) at
    )

-- where a loop over the first calls has ended
pub ended_at : (told : List DeviceCall) (said : List ℕ) (calls read : List Call) (m i : ℕ) → calls_of said calls ≡ told → read ≡ calls → m ≤ 2 * length told → length (take (m / 2) read) ≤ i → i ≤ length (take (m / 2) read)
    → (i ≡ m / 2) × (i ≤ length calls) × (length told ≡ length calls)
ended_at told said calls read m i is same past low high =
    let long = ap length (sym is) ∙ length-map calls (call_of said) in
    let size = ap length same in
    let few = length-take (m / 2) read in
    (omega arith, omega arith, long)
