-- What a stop leaves in a slot of a volume in memory.
use Rattle.std.proofs.Common.{◌≡◌, ◌≢◌, ℕ, zero, suc, ◌+◌, ◌*◌, ◌<◌, ◌≤◌, nat_eq, if◌then◌else◌, Bool, true, false, List, [], ◌∷◌, ◌++◌, length, take, map, get_or, All, refl, sym, ◌∙◌, ap, subst, arith}
use Rattle.std.proofs.lemmas.List.{take_more, map-append, take-map, length-map, get_or-map}
use Rattle.std.proofs.lemmas.Bool.Decides.{nat_tests}
use Rattle.hl_media.specs.Volumes.{VolumeState, MayHold, volume_at, volume_begun, volume_ended, with_slot}
use Rattle.hl_media.specs.Volumes.VolumeCall.{WriteSlot}
use Rattle.hl_media.proofs.VolumeLaws.{with_slot_same, with_slot_other}
use Rattle.hl_mem.specs.declared.tear.Tear.{Tear}
use Rattle.hl_mem.specs.Tears.{torn_bytes}
use Rattle.hl_mem.specs.declared.transfer.Transfer.{Transfer}
use Rattle.hl_mem.specs.Transfers.{IsSized, SlotLeft, TriedCall, left_after, left_at, left_begun, left_ended, torn_slot, tried, volume_call}
use Rattle.hl_mem.specs.Transfers.TriedCall.{TriedWrite, TriedSync}

-- the first is what the slot holds at such a moment, and a stop may leave the second
record ShowsSlot (s : VolumeState) (slot : ℕ) (l : SlotLeft) : Type 0 where
  held : s.slots slot ≡ l.held
  left : MayHold s slot l.left

module _ (tear : Tear) (slot : ℕ) where
  begun_as : (s : VolumeState) (l : SlotLeft) (at : ℕ) (bytes after : List ℕ) (b : Bool) → nat_eq at slot ≡ b → ShowsSlot s slot l
      → ShowsSlot (volume_begun s (WriteSlot at after)) slot (if b then record { held = l.held; left = torn_bytes tear bytes l.left } else l)
  begun_as s l at bytes after true is shows =
      let same : slot ≡ at = grind (arith, nat_tests) in
      record { held = shows.held; left = λ synced. absurd (synced.0 same) }
  begun_as s l at bytes after false is shows = record { held = shows.held; left = λ synced. shows.left synced.1 }

  begun_shows : (s : VolumeState) (l : SlotLeft) (call : TriedCall) → ShowsSlot s slot l → ShowsSlot (volume_begun s (volume_call call)) slot (left_begun tear slot l call)
  begun_shows s l (TriedWrite at bytes after) shows = begun_as s l at bytes after (nat_eq at slot) refl shows
  begun_shows s l (TriedSync succeeded) shows = shows

  ended_as : (s : VolumeState) (l : SlotLeft) (at : ℕ) (bytes after : List ℕ) (b : Bool) → nat_eq at slot ≡ b → ShowsSlot s slot l
      → ShowsSlot (volume_ended s (WriteSlot at after)) slot (if b then record { held = after; left = torn_bytes tear bytes l.left } else l)
  ended_as s l at bytes after true is shows =
      let same : slot ≡ at = grind (arith, nat_tests) in
      record { held = ap (λ (k : ℕ). with_slot s.slots at after k) same ∙ with_slot_same s.slots at after; left = λ synced. absurd (synced.0 same) }
  ended_as s l at bytes after false is shows =
      let other : slot ≢ at = λ e. let no : nat_eq at slot ≡ true = grind (arith, nat_tests) in cc in
      let stays = with_slot_other s.slots at after slot other in
      record { held = stays ∙ shows.held; left = λ synced. shows.left synced.1 ∙ sym stays }

  ended_shows : (s : VolumeState) (l : SlotLeft) (call : TriedCall) → ShowsSlot s slot l → ShowsSlot (volume_ended s (volume_call call)) slot (left_ended tear slot l call)
  ended_shows s l (TriedWrite at bytes after) shows = ended_as s l at bytes after (nat_eq at slot) refl shows
  ended_shows s l (TriedSync true) shows = record { held = shows.held; left = λ synced. sym shows.held }
  ended_shows s l (TriedSync false) shows = shows

  shows_at : (s : VolumeState) (l : SlotLeft) (calls : List TriedCall) (m : ℕ) → ShowsSlot s slot l → ShowsSlot (volume_at s (map volume_call calls) m) slot (left_at tear slot l calls m)
  shows_at s l [] m shows = shows
  shows_at s l (c ∷ calls) zero shows = shows
  shows_at s l (c ∷ calls) (suc zero) shows = begun_shows s l c shows
  shows_at s l (c ∷ calls) (suc (suc m)) shows = shows_at (volume_ended s (volume_call c)) (left_ended tear slot l c) calls m (ended_shows s l c shows)

  -- what is torn may be left
  pub torn_slot_may : (slots : ℕ → List ℕ) (calls : List TriedCall) (m : ℕ) → MayHold (volume_at (record { slots = slots; unsynced = [] }) (map volume_call calls) m) slot (torn_slot tear slot (slots slot) calls m)
  torn_slot_may slots calls m = (shows_at (record { slots = slots; unsynced = [] }) (record { held = slots slot; left = slots slot }) calls m (record { held = refl; left = λ synced. refl })).left

  pub left_after-append : (l : SlotLeft) (xs ys : List TriedCall) → left_after tear slot l (xs ++ ys) ≡ left_after tear slot (left_after tear slot l xs) ys
  left_after-append l [] ys = refl
  left_after-append l (x ∷ xs) ys = left_after-append (left_ended tear slot l x) xs ys

  -- the moments 2n and 2n + 1
  pub left_even : (l : SlotLeft) (calls : List TriedCall) (n : ℕ) → n ≤ length calls → left_at tear slot l calls (2 * n) ≡ left_after tear slot l (take n calls)
  left_even l [] zero le = refl
  left_even l [] (suc n) le = absurd (omega arith)
  left_even l (c ∷ calls) zero le = refl
  left_even l (c ∷ calls) (suc n) le =
      let e : 2 * suc n ≡ suc (suc (2 * n)) = omega arith in
      rw e (left_even (left_ended tear slot l c) calls n (omega arith))

  pub left_odd : (l : SlotLeft) (calls : List TriedCall) (n : ℕ) (d : TriedCall) → n < length calls → left_at tear slot l calls (suc (2 * n)) ≡ left_begun tear slot (left_after tear slot l (take n calls)) (get_or calls n d)
  left_odd l [] n d lt = absurd (omega arith)
  left_odd l (c ∷ calls) zero d lt = refl
  left_odd l (c ∷ calls) (suc n) d lt =
      let e : 2 * suc n ≡ suc (suc (2 * n)) = omega arith in
      rw e (left_odd (left_ended tear slot l c) calls n d (omega arith))

  -- one call more
  pub left_more : (l : SlotLeft) (calls : List Transfer) (i : ℕ) (x : Transfer) → i < length calls → x ≡ get_or calls i x
      → left_after tear slot l (map tried (take (i + 1) calls)) ≡ left_ended tear slot (left_after tear slot l (map tried (take i calls))) (tried x)
  left_more l calls i x lt is =
      ap (λ (xs : List Transfer). left_after tear slot l (map tried xs)) (take_more calls i x lt ∙ ap (λ (y : Transfer). take i calls ++ y ∷ []) (sym is))
      ∙ ap (left_after tear slot l) (map-append tried (take i calls) (x ∷ []))
      ∙ left_after-append l (map tried (take i calls)) (tried x ∷ [])

  -- what a stop leaves at the moment 2n
  pub torn_even : (opening : List ℕ) (calls : List Transfer) (told : List TriedCall) (n m : ℕ) (l : SlotLeft) → map tried calls ≡ told → n ≤ length calls → m ≡ 2 * n
      → left_after tear slot (record { held = opening; left = opening }) (map tried (take n calls)) ≡ l → l.left ≡ torn_slot tear slot opening told m
  torn_even opening calls told n m l told_is le m_is shows =
      let s : SlotLeft = record { held = opening; left = opening } in
      let long = length-map calls tried in
      let at : left_at tear slot s (map tried calls) m ≡ left_after tear slot s (map tried (take n calls)) =
      ap (left_at tear slot s (map tried calls)) m_is ∙ left_even s (map tried calls) n (omega arith) ∙ ap (left_after tear slot s) (take-map tried n calls) in
      sym (ap (λ (x : List TriedCall). torn_slot tear slot opening x m) (sym told_is) ∙ ap (λ (x : SlotLeft). x.left) (at ∙ shows))

  -- and at the moment 2n + 1
  pub torn_odd : (opening : List ℕ) (calls : List Transfer) (told : List TriedCall) (n m : ℕ) (x : Transfer) (l : SlotLeft) → map tried calls ≡ told → n < length calls → m ≡ suc (2 * n) → x ≡ get_or calls n x
      → left_after tear slot (record { held = opening; left = opening }) (map tried (take n calls)) ≡ l → (left_begun tear slot l (tried x)).left ≡ torn_slot tear slot opening told m
  torn_odd opening calls told n m x l told_is lt m_is item shows =
      let s : SlotLeft = record { held = opening; left = opening } in
      let long = length-map calls tried in
      let call : get_or (map tried calls) n (tried x) ≡ tried x = get_or-map tried calls n x (tried x) lt ∙ ap tried (sym item) in
      let at : left_at tear slot s (map tried calls) m ≡ left_begun tear slot l (tried x) =
      ap (left_at tear slot s (map tried calls)) m_is ∙ left_odd s (map tried calls) n (tried x) (omega arith)
      ∙ ap (left_begun tear slot (left_after tear slot s (take n (map tried calls)))) call
      ∙ ap (λ (y : SlotLeft). left_begun tear slot y (tried x)) (ap (left_after tear slot s) (take-map tried n calls) ∙ shows) in
      sym (ap (λ (y : List TriedCall). torn_slot tear slot opening y m) (sym told_is) ∙ ap (λ (y : SlotLeft). y.left) at)

-- each kept call has the size, where the calls that they stand for have
pub sized_at : (n : ℕ) (calls : List Transfer) (told : List TriedCall) → map tried calls ≡ told → All (IsSized n) told → (i : ℕ) (x : Transfer) → i < length calls → x ≡ get_or calls i x → IsSized n (tried x)
sized_at n calls told is sized i x lt item =
    let here : get_or told i (tried x) ≡ tried x = ap (λ (l : List TriedCall). get_or l i (tried x)) (sym is) ∙ get_or-map tried calls i x (tried x) lt ∙ ap tried (sym item) in
    let long : length told ≡ length calls = ap length (sym is) ∙ length-map calls tried in
    subst (IsSized n) here (sized i (tried x) (omega arith))
