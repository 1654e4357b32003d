-- What a volume in memory keeps true after a call.
use Rattle.std.proofs.Common.{◌≡◌, ◌≢◌, ℕ, zero, suc, ◌*◌, ◌<◌, ◌^◌, nat_eq, if◌then◌else◌, Bool, true, false, List, [], ◌∷◌, ◌++◌, length, map, get_or, set, replicate, All, Result, Ok, Err, refl, sym, ◌∙◌, ap, subst, arith}
use Rattle.std.specs.Prelude.{IfOk, is_err}
use Rattle.std.specs.declared.alloc.AllocError.{AllocError}
use Rattle.std.proofs.lemmas.List.{map-append, length-replicate}
use Rattle.std.proofs.lemmas.List.Elements.{All-push}
use Rattle.std.proofs.lemmas.Bool.Decides.{nat_tests}
use Rattle.hl_bytes.specs.Fields.{zeros}
use Rattle.hl_media.specs.Volumes.{Slots, VolumeState, MayHold, volume_after, volume_ended, with_slot}
use Rattle.hl_media.proofs.VolumeLaws.{volume_after-append}
use Rattle.hl_mem.specs.Transfers.{AddsTried, IsKeptVolume, IsSized, TriedCall, volume_call}
use Rattle.hl_mem.specs.Transfers.TriedCall.{TriedWrite, TriedSync}

-- these slots are what the volume holds after the call, wherever the first were before it
abbrev pub LeadsSlots : List (List ℕ) → TriedCall → List (List ℕ) → Type 0
LeadsSlots now call next = (s : VolumeState) → ((n : ℕ) → s.slots n ≡ get_or now n []) → (n : ℕ) → (volume_ended s (volume_call call)).slots n ≡ get_or next n []

pub sync_leads_slots : (now : List (List ℕ)) (succeeded : Bool) → LeadsSlots now (TriedSync succeeded) now
sync_leads_slots now true s is n = is n
sync_leads_slots now false s is n = is n

slot_as : (slots : Slots) (slot : ℕ) (bytes : List ℕ) (now next : List (List ℕ)) → ((n : ℕ) → slots n ≡ get_or now n []) → get_or next slot [] ≡ bytes
    → ((n : ℕ) → n ≢ slot → get_or next n [] ≡ get_or now n []) → (n : ℕ) (b : Bool) → nat_eq n slot ≡ b → (if b then bytes else slots n) ≡ get_or next n []
slot_as slots slot bytes now next is there others n true e =
    let same : n ≡ slot = grind (arith, nat_tests) in
    sym there ∙ ap (λ (k : ℕ). get_or next k []) (sym same)
slot_as slots slot bytes now next is there others n false e =
    let other : n ≢ slot = λ same. let no : nat_eq n slot ≡ true = grind (arith, nat_tests) in cc in
    is n ∙ sym (others n other)

-- a write of a slot
pub write_leads_slots : (now next : List (List ℕ)) (slot : ℕ) (bytes after : List ℕ) → get_or next slot [] ≡ after → ((n : ℕ) → n ≢ slot → get_or next n [] ≡ get_or now n []) → LeadsSlots now (TriedWrite slot bytes after) next
unfolding with_slot
write_leads_slots now next slot bytes after there others s is n = slot_as s.slots slot after now next is there others n (nat_eq n slot) refl

module _ (bytes : ℕ) (opening now : List (List ℕ)) (calls : List TriedCall) (kept : IsKeptVolume bytes opening now calls) where
  -- after one call more
  pub volume_kept_then : (call : TriedCall) (next : List (List ℕ)) → IsSized bytes call → length next ≡ length now → All (λ slot. length slot ≡ bytes) next → LeadsSlots now call next → IsKeptVolume bytes opening next (calls ++ call ∷ [])
  volume_kept_then call next sized many sizes leads = record {
    few = subst (λ (n : ℕ). n < 2 ^ 32) (sym many) kept.few;
    as_many = kept.as_many ∙ sym many;
    opening_sizes = kept.opening_sizes;
    sizes = sizes;
    sized = All-push (IsSized bytes) calls call kept.sized sized;
    current = λ n.
        let s : VolumeState = record { slots = λ k. get_or opening k []; unsynced = [] } in
        let last = ap (volume_after s) (map-append volume_call calls (call ∷ [])) ∙ volume_after-append s (map volume_call calls) (volume_call call ∷ []) in
        ap (λ (t : VolumeState). t.slots n) last ∙ leads (volume_after s (map volume_call calls)) kept.current n;
  }

  -- the call was added, or it wasn't
  pub volume_kept_either : (r : Result (Unit {0}) AllocError) (more : List TriedCall) (call : TriedCall) → AddsTried r calls more call → IsSized bytes call → LeadsSlots now call now → IsKeptVolume bytes opening now more
  volume_kept_either (Ok u) more call adds sized leads = subst (λ (l : List TriedCall). IsKeptVolume bytes opening now l) (sym adds) (volume_kept_then call now sized refl kept.sizes leads)
  volume_kept_either (Err e) more call adds sized leads = subst (λ (l : List TriedCall). IsKeptVolume bytes opening now l) (sym adds) kept

-- it was added
pub tried_added : (r : Result (Unit {0}) AllocError) (before now : List TriedCall) (call : TriedCall) → is_err r ≡ false → AddsTried r before now call → now ≡ before ++ call ∷ []
tried_added (Ok u) before now call fine adds = adds
tried_added (Err e) before now call fine adds = cc

-- an element that is there is the same with any other in its place
pub get_or_there : (xs : List (List ℕ)) (i : ℕ) (x : List ℕ) → i < length xs → x ≡ get_or xs i x → get_or xs i [] ≡ x
get_or_there [] i x lt is = absurd (omega arith)
get_or_there (y ∷ xs) zero x lt is = sym is
get_or_there (y ∷ xs) (suc i) x lt is = get_or_there xs i x (omega arith) is

-- slots of one size, one of which is written anew with as many bytes
pub sizes_set : (size : ℕ) (xs : List (List ℕ)) (i : ℕ) (x : List ℕ) → All (λ slot. length slot ≡ size) xs → length x ≡ size → All (λ slot. length slot ≡ size) (set xs i x)
sizes_set size [] i x sizes is k d lt = sizes k d lt
sizes_set size (y ∷ xs) zero x sizes is zero d lt = is
sizes_set size (y ∷ xs) zero x sizes is (suc k) d lt = sizes (suc k) d lt
sizes_set size (y ∷ xs) (suc i) x sizes is zero d lt = sizes zero d (omega arith)
sizes_set size (y ∷ xs) (suc i) x sizes is (suc k) d lt = sizes_set size xs i x (λ j e less. sizes (suc j) e (omega arith)) is k d (omega arith)

pub sizes_replicate : (size n : ℕ) (x : List ℕ) → length x ≡ size → All (λ slot. length slot ≡ size) (replicate n x)
sizes_replicate size zero x is k d lt = absurd (omega arith)
sizes_replicate size (suc n) x is zero d lt = is
sizes_replicate size (suc n) x is (suc k) d lt = sizes_replicate size n x is k d (omega arith)

-- a new volume
pub kept_blank : (blocks slots : ℕ) (opening now : List (List ℕ)) (calls : List TriedCall) → slots < 2 ^ 32 → opening ≡ replicate slots (zeros (4096 * blocks)) → now ≡ replicate slots (zeros (4096 * blocks)) → calls ≡ [] → IsKeptVolume (4096 * blocks) opening now calls
unfolding zeros
kept_blank blocks slots opening now calls few is_opening is_now none =
    let xs = replicate slots (zeros (4096 * blocks)) in
    let size : length (zeros (4096 * blocks)) ≡ 4096 * blocks = length-replicate (4096 * blocks) 0 in
    let sizes = sizes_replicate (4096 * blocks) slots (zeros (4096 * blocks)) size in
    let kept : IsKeptVolume (4096 * blocks) xs xs [] = record {
      few = subst (λ (n : ℕ). n < 2 ^ 32) (sym (length-replicate slots (zeros (4096 * blocks)))) few;
      as_many = refl;
      opening_sizes = sizes;
      sizes = sizes;
      sized = λ k d lt. absurd (omega arith);
      current = λ n. refl;
    } in
    subst (λ (l : List (List ℕ)). IsKeptVolume (4096 * blocks) l now calls) (sym is_opening)
    (subst (λ (l : List (List ℕ)). IsKeptVolume (4096 * blocks) xs l calls) (sym is_now)
    (subst (λ (l : List TriedCall). IsKeptVolume (4096 * blocks) xs xs l) (sym none) kept))

-- what may be left, where it is what a stop leaves
pub may_be_left : (r : Result (List ℕ) AllocError) (s : VolumeState) (slot : ℕ) (torn left : List ℕ) → IfOk r (λ x. x ≡ left) → left ≡ torn → MayHold s slot torn → IfOk r (MayHold s slot)
may_be_left (Ok x) s slot torn left is e may = subst (MayHold s slot) (sym (is ∙ e)) may
may_be_left (Err e) s slot torn left is same may = is
