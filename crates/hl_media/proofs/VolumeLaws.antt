-- What holds of a volume's slots at each moment of a run of calls.
use Rattle.std.proofs.Common.{◌≡◌, ◌≢◌, ⊎_elim, ℕ, zero, suc, ◌+◌, ◌-◌, ◌*◌, ◌<◌, ◌≤◌, nat_lt, if◌then◌else◌, Bool, true, false, List, [], ◌∷◌, ◌++◌, length, Option, Some, None, Result, Ok, Err, refl, sym, ◌∙◌, ap, subst, arith, append_assoc}
use Rattle.std.proofs.lemmas.List.{append-nil}
use Rattle.std.proofs.lemmas.Bool.Decides.{nat_tests}
use Rattle.hl_media.specs.declared.failed.Failed.{Failed}
use Rattle.hl_media.specs.declared.written.Written.{Written}
use Rattle.hl_media.specs.declared.written.Written.TheVariants.{Done, EndOfMedium}
use Rattle.hl_media.specs.Volumes.{Slots, VolumeCall, VolumeHistory, VolumeState, AtEachCall, AtEachVolumeMomentSince, DidSyncSlots, DidWriteSlot, IsSynced, Lasts, MayHold, MayWriteSlot, OthersStay, SlotStays, VolumeNow, VolumeRuns, volume_after, volume_at, volume_at_moment, volume_begun, volume_ended, volume_moment, volume_now, volume_opened, with_slot, with_volume_calls, written_on}
use Rattle.hl_media.specs.Volumes.VolumeCall.{WriteSlot, SyncSlots}
use Rattle.hl_media.specs.Carries.{AddsSyncedSlot, EndsSync}

pub with_slot_same : (slots : Slots) (slot : ℕ) (bytes : List ℕ) → with_slot slots slot bytes slot ≡ bytes
unfolding with_slot
with_slot_same slots slot bytes = grind (arith, nat_tests)

pub with_slot_other : (slots : Slots) (slot : ℕ) (bytes : List ℕ) (k : ℕ) → k ≢ slot → with_slot slots slot bytes k ≡ slots k
unfolding with_slot
with_slot_other slots slot bytes k ne = grind (arith, nat_tests)

-- what a slot holds is among what a stop may leave in it
pub held_may : (s : VolumeState) (slot : ℕ) → MayHold s slot (s.slots slot)
held_may s slot synced = refl

-- what lasts is there
pub lasts_held : (s : VolumeState) (slot : ℕ) (bytes : List ℕ) → Lasts s slot bytes → s.slots slot ≡ bytes
lasts_held s slot bytes lasts = lasts (s.slots slot) (held_may s slot)

-- what is there lasts, once it is synced
pub lasts_synced : (s : VolumeState) (slot : ℕ) (bytes : List ℕ) → IsSynced s.unsynced slot → s.slots slot ≡ bytes → Lasts s slot bytes
lasts_synced s slot bytes synced holds left may = may synced ∙ holds

-- what lasts in a slot that stays goes on lasting
pub lasts_stays : (before now : VolumeState) (slot : ℕ) (bytes : List ℕ) → SlotStays before now slot → Lasts before slot bytes → Lasts now slot bytes
lasts_stays before now slot bytes stays lasts left may = lasts left (stays.leaves left may)

pub stays_still : (s : VolumeState) (slot : ℕ) → SlotStays s s slot
stays_still s slot = record { holds = refl; leaves = λ bytes may. may }

pub stays_on : (first before now : VolumeState) (slot : ℕ) → SlotStays first before slot → SlotStays before now slot → SlotStays first now slot
stays_on first before now slot one two = record { holds = two.holds ∙ one.holds; leaves = λ bytes may. one.leaves bytes (two.leaves bytes may) }

-- one call leaves every slot but the written one
stays_begun : (s : VolumeState) (slot : ℕ) (after : List ℕ) → OthersStay slot s (volume_begun s (WriteSlot slot after))
stays_begun s slot after k ne = record { holds = refl; leaves = λ bytes may synced. may (ne, synced) }

stays_written : (s : VolumeState) (slot : ℕ) (after : List ℕ) → OthersStay slot s (volume_ended s (WriteSlot slot after))
stays_written s slot after k ne =
    let same = with_slot_other s.slots slot after k ne in
    record { holds = same; leaves = λ bytes may synced. may (ne, synced) ∙ same }

stays_synced : (s : VolumeState) (succeeded : Bool) (slot : ℕ) → SlotStays s (volume_ended s (SyncSlots succeeded)) slot
stays_synced s true slot = record { holds = refl; leaves = λ bytes may synced. may tt }
stays_synced s false slot = stays_still s slot

module _ (slot : ℕ) (first s : VolumeState) (here : OthersStay slot first s) where
  then_stays : (t : VolumeState) → OthersStay slot s t → OthersStay slot first t
  then_stays t stays k ne = stays_on first s t k (here k ne) (stays k ne)

  -- a write of the slot, whatever it leaves there
  each_write : (after : List ℕ) (calls : List VolumeCall) → calls ≡ WriteSlot slot after ∷ [] → AtEachCall (OthersStay slot first) s calls
  each_write after calls is = subst (AtEachCall (OthersStay slot first) s) (sym is) (here, then_stays _ (stays_begun s slot after), then_stays _ (stays_written s slot after))

  each_may_write : (bytes : List ℕ) (calls : List VolumeCall) → MayWriteSlot slot bytes calls → AtEachCall (OthersStay slot first) s calls
  each_may_write bytes calls did = ⊎_elim (λ none. subst (AtEachCall (OthersStay slot first) s) (sym none) here) (λ one. each_write one.0 calls one.2) did

  -- what the write of a slot leaves of the others
  pub each_did_write : (bytes : List ℕ) (result : Result Written Failed) (calls : List VolumeCall) → DidWriteSlot slot bytes result calls → AtEachCall (OthersStay slot first) s calls
  each_did_write bytes (Ok Done) calls did = each_write bytes calls did
  each_did_write bytes (Ok EndOfMedium) calls did = each_may_write bytes calls did
  each_did_write bytes (Err failed) calls did = each_may_write bytes calls did

  each_sync : (succeeded : Bool) (calls : List VolumeCall) → calls ≡ SyncSlots succeeded ∷ [] → AtEachCall (OthersStay slot first) s calls
  each_sync succeeded calls is = subst (AtEachCall (OthersStay slot first) s) (sym is) (here, here, then_stays _ (λ k ne. stays_synced s succeeded k))

  -- what a sync leaves of them
  pub each_did_sync : (result : Result (Unit {0}) Failed) (calls : List VolumeCall) → DidSyncSlots result calls → AtEachCall (OthersStay slot first) s calls
  each_did_sync (Ok done) calls did = each_sync true calls did
  each_did_sync (Err failed) calls did = ⊎_elim (λ none. subst (AtEachCall (OthersStay slot first) s) (sym none) here) (λ one. each_sync false calls one) did

pub volume_after-append : (s : VolumeState) (xs ys : List VolumeCall) → volume_after s (xs ++ ys) ≡ volume_after (volume_after s xs) ys
volume_after-append s [] ys = refl
volume_after-append s (x ∷ xs) ys = volume_after-append (volume_ended s x) xs ys

-- later calls change nothing at an earlier moment
pub volume_at-before : (s : VolumeState) (xs ys : List VolumeCall) (m : ℕ) → m ≤ 2 * length xs → volume_at s (xs ++ ys) m ≡ volume_at s xs m
volume_at-before s [] [] m le = refl
volume_at-before s [] (y ∷ ys) zero le = refl
volume_at-before s [] (y ∷ ys) (suc m) le = absurd (omega arith)
volume_at-before s (x ∷ xs) ys zero le = refl
volume_at-before s (x ∷ xs) ys (suc zero) le = refl
volume_at-before s (x ∷ xs) ys (suc (suc m)) le = volume_at-before (volume_ended s x) xs ys m (omega arith)

-- the moments of later calls
pub volume_at-since : (s : VolumeState) (xs ys : List VolumeCall) (m : ℕ) → volume_at s (xs ++ ys) (m + 2 * length xs) ≡ volume_at (volume_after s xs) ys m
volume_at-since s [] ys m = let e : m + 2 * 0 ≡ m = omega arith in rw e
volume_at-since s (x ∷ xs) ys m =
    let e : m + 2 * length (x ∷ xs) ≡ suc (suc (m + 2 * length xs)) = omega arith in
    rw e (volume_at-since (volume_ended s x) xs ys m)

module _ (P : VolumeState → Type 0) where
  pub AtEachCall-at : (s : VolumeState) (calls : List VolumeCall) → AtEachCall P s calls → (m : ℕ) → P (volume_at s calls m)
  AtEachCall-at s [] each m = each
  AtEachCall-at s (c ∷ calls) each zero = each.0
  AtEachCall-at s (c ∷ calls) each (suc zero) = each.1
  AtEachCall-at s (c ∷ calls) each (suc (suc m)) = AtEachCall-at (volume_ended s c) calls each.2 m

  pub AtEachCall-last : (s : VolumeState) (calls : List VolumeCall) → AtEachCall P s calls → P (volume_after s calls)
  AtEachCall-last s [] each = each
  AtEachCall-last s (c ∷ calls) each = AtEachCall-last (volume_ended s c) calls each.2

  pub AtEachCall-append : (s : VolumeState) (xs ys : List VolumeCall) → AtEachCall P s xs → AtEachCall P (volume_after s xs) ys → AtEachCall P s (xs ++ ys)
  AtEachCall-append s [] ys each more = more
  AtEachCall-append s (x ∷ xs) ys each more = (each.0, each.1, AtEachCall-append (volume_ended s x) xs ys each.2 more)

-- a weaker fact of each moment
pub AtEachCall-map : (P Q : VolumeState → Type 0) → ((s : VolumeState) → P s → Q s) → (s : VolumeState) (calls : List VolumeCall) → AtEachCall P s calls → AtEachCall Q s calls
AtEachCall-map P Q weaker s [] each = weaker s each
AtEachCall-map P Q weaker s (c ∷ calls) each = (weaker s each.0, weaker _ each.1, AtEachCall-map P Q weaker (volume_ended s c) calls each.2)

-- what is told of a history before calls that it tells
pub volume_told : (before : Option VolumeHistory) (calls : List VolumeCall) (h' : VolumeHistory) → with_volume_calls calls before ≡ Some h'
    → (h : VolumeHistory) × (before ≡ Some h) × (h' ≡ record { opening = h.opening; calls = h.calls ++ calls })
volume_told None calls h' e = cc
volume_told (Some h) calls h' e = (h, refl, cc)

pub volume_now_is : (h h' : VolumeHistory) (calls : List VolumeCall) → h' ≡ record { opening = h.opening; calls = h.calls ++ calls } → volume_now h' ≡ volume_after (volume_now h) calls
volume_now_is h h' calls e = ap volume_now e ∙ volume_after-append (volume_opened h) h.calls calls

pub with_no_calls : (before : Option VolumeHistory) → before ≡ with_volume_calls [] before
with_no_calls None = refl
with_no_calls (Some h) = ap (λ (calls : List VolumeCall). Some (record { opening = h.opening; calls = calls })) (sym (append-nil h.calls))

pub with_more_calls : (before : Option VolumeHistory) (xs ys : List VolumeCall) → with_volume_calls ys (with_volume_calls xs before) ≡ with_volume_calls (xs ++ ys) before
with_more_calls None xs ys = refl
with_more_calls (Some h) xs ys = ap (λ (calls : List VolumeCall). Some (record { opening = h.opening; calls = calls })) (append_assoc h.calls xs ys)

-- before the first call
pub volume_starts : (before : Option VolumeHistory) (P : VolumeState → VolumeState → Type 0) → VolumeNow before (λ s. P s s) → VolumeRuns before before P
volume_starts before P holds = record { calls = []; is = with_no_calls before; each = holds }

-- where nothing was done, every slot stays
pub volume_rests : (before now : Option VolumeHistory) (slot : ℕ) → now ≡ before → VolumeRuns before now (OthersStay slot)
volume_rests before now slot same =
    subst (λ (o : Option VolumeHistory). VolumeRuns before o (OthersStay slot)) (sym same)
    (volume_starts before (OthersStay slot) (λ h e k ne. stays_still (volume_now h) k))

-- at each moment, as a number
pub at_each_volume_moment : (before now : Option VolumeHistory) (P : VolumeState → VolumeState → Type 0) → VolumeRuns before now P → AtEachVolumeMomentSince before now P
at_each_volume_moment before now P run h e h' e' m later =
    let both : Some h' ≡ with_volume_calls run.calls (Some h) = sym e' ∙ run.is ∙ ap (with_volume_calls run.calls) e in
    let same : h' ≡ record { opening = h.opening; calls = h.calls ++ run.calls } = cc in
    let Q = P (volume_now h) in
    let k = m - volume_moment h in
    let splits : m ≡ k + 2 * length h.calls = omega arith in
    let here = AtEachCall-at Q (volume_now h) run.calls (run.each h e) k in
    let there : Q (volume_at (volume_opened h) (h.calls ++ run.calls) (k + 2 * length h.calls)) = subst Q (sym (volume_at-since (volume_opened h) h.calls run.calls k)) here in
    subst (λ (x : VolumeHistory). Q (volume_at_moment x m)) (sym same)
    (subst (λ (n : ℕ). Q (volume_at (volume_opened h) (h.calls ++ run.calls) n)) (sym splits) there)

-- what lasted in another slot before a run lasts behind it
pub others_last : (before now : Option VolumeHistory) (slot k : ℕ) (bytes : List ℕ) → VolumeRuns before now (OthersStay slot) → k ≢ slot
    → VolumeNow before (λ s. Lasts s k bytes) → VolumeNow now (λ s. Lasts s k bytes)
others_last before now slot k bytes run ne lasts h' e' =
    let told = volume_told before run.calls h' (sym run.is ∙ e') in
    let stays = AtEachCall-last (OthersStay slot (volume_now told.0)) (volume_now told.0) run.calls (run.each told.0 told.1) k ne in
    subst (λ (s : VolumeState). Lasts s k bytes) (sym (volume_now_is told.0 h' run.calls told.2))
    (lasts_stays (volume_now told.0) (volume_after (volume_now told.0) run.calls) k bytes stays (lasts told.0 told.1))

each_ends : (slot : ℕ) (first s : VolumeState) (here : OthersStay slot first s) (synced : List VolumeCall) (write_result result : Result Written Failed) → EndsSync synced write_result result → AtEachCall (OthersStay slot first) s synced
each_ends slot first s here synced (Ok Done) (Ok Done) ends = each_did_sync slot first s here (Ok tt) synced ends
each_ends slot first s here synced (Ok Done) (Ok EndOfMedium) ends = absurd ends
each_ends slot first s here synced (Ok Done) (Err failed) ends = each_did_sync slot first s here (Err failed) synced ends
each_ends slot first s here synced (Ok EndOfMedium) result ends = subst (AtEachCall (OthersStay slot first) s) (sym ends.0) here
each_ends slot first s here synced (Err failed) result ends = subst (AtEachCall (OthersStay slot first) s) (sym ends.0) here

-- a write and its sync leave every other slot
pub synced_others : (before now : Option VolumeHistory) (slot : ℕ) (bytes : List ℕ) (result : Result Written Failed) → AddsSyncedSlot before now slot bytes result → VolumeRuns before now (OthersStay slot)
synced_others before now slot bytes result adds = record {
  calls = adds.written ++ adds.synced;
  is = adds.is;
  each = λ h e.
      let s = volume_now h in
      let P = OthersStay slot s in
      let first = each_did_write slot s s (λ k ne. stays_still s k) bytes adds.write_result adds.written adds.write in
      AtEachCall-append P s adds.written adds.synced first
      (each_ends slot s (volume_after s adds.written) (AtEachCall-last P s adds.written first) adds.synced adds.write_result result adds.sync);
}

ends_done : (s : VolumeState) (slot : ℕ) (bytes : List ℕ) (write_result : Result Written Failed) (written synced : List VolumeCall)
    → DidWriteSlot slot bytes write_result written → EndsSync synced write_result (Ok Done)
    → volume_after s (written ++ synced) ≡ record { slots = with_slot s.slots slot bytes; unsynced = [] }
ends_done s slot bytes (Ok Done) written synced did ends =
    let both : written ++ synced ≡ WriteSlot slot bytes ∷ SyncSlots true ∷ [] = ap (λ (l : List VolumeCall). l ++ synced) did ∙ ap (λ (l : List VolumeCall). WriteSlot slot bytes ∷ l) ends in
    ap (volume_after s) both
ends_done s slot bytes (Ok EndOfMedium) written synced did ends = let no = ends.1 in cc
ends_done s slot bytes (Err failed) written synced did ends = let no = ends.1 in cc

-- a slot that was written and synced lasts
pub synced_lasts : (before now : Option VolumeHistory) (slot : ℕ) (bytes : List ℕ) → AddsSyncedSlot before now slot bytes (Ok Done) → VolumeNow now (λ s. Lasts s slot bytes)
synced_lasts before now slot bytes adds h' e' =
    let told = volume_told before (adds.written ++ adds.synced) h' (sym adds.is ∙ e') in
    let is = volume_now_is told.0 h' (adds.written ++ adds.synced) told.2 ∙ ends_done (volume_now told.0) slot bytes adds.write_result adds.written adds.synced adds.write adds.sync in
    subst (λ (s : VolumeState). Lasts s slot bytes) (sym is)
    (lasts_synced (record { slots = with_slot (volume_now told.0).slots slot bytes; unsynced = [] }) slot bytes tt (with_slot_same (volume_now told.0).slots slot bytes))

below : (slot c : ℕ) (b : Bool) → nat_lt slot c ≡ b → Done ≡ (if b then Done else EndOfMedium) → slot < c
below slot c true is e = grind (arith, nat_tests)
below slot c false is e = cc

not_below : (slot c : ℕ) (b : Bool) → nat_lt slot c ≡ b → EndOfMedium ≡ (if b then Done else EndOfMedium) → c ≤ slot
not_below slot c true is e = cc
not_below slot c false is e = grind (arith, nat_tests)

-- where a write is done, the medium has the slot
pub done_on : (slot c : ℕ) → Done ≡ written_on c slot → slot < c
done_on slot c e = below slot c (nat_lt slot c) refl e

-- where the medium ends, it doesn't
pub ended_on : (slot c : ℕ) → EndOfMedium ≡ written_on c slot → c ≤ slot
ended_on slot c e = not_below slot c (nat_lt slot c) refl e
