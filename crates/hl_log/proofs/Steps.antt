-- What a stop leaves in each step of writing a part.
use Rattle.std.proofs.Common.{◌≡◌, ◌⊎◌, inl, inr, ⊎_elim, ℕ, zero, suc, ◌+◌, ◌-◌, ◌*◌, ◌/◌, ◌<◌, ◌≤◌, Bool, true, false, List, [], ◌∷◌, ◌++◌, length, map, refl, sym, ◌∙◌, ap, subst, arith, length-append, append-nil}
use Rattle.std.proofs.lemmas.Bool.{cases_lt}
use Rattle.std.specs.List.{range_with_len}
use Rattle.hl_bytes.specs.Buffers.{block_of}
use Rattle.hl_media.specs.History.{Image, overwritten, PendingWrite, MachineState, MayLeave, HoldsAt, IsUntouched, begun, ended}
use Rattle.hl_media.specs.History.DeviceCall.{Write, Sync}
use Rattle.hl_media.proofs.Images.{overwritten_in, overwritten_out, block_of_one}
use Rattle.hl_addr.specs.Layout.{Layout}
use Rattle.hl_bytes.specs.Fields.{zeros}
use Rattle.hl_summary.specs.declared.parts.Summary.{Summary}
use Rattle.hl_summary.specs.Parts.{HasRanges}
use Rattle.hl_image.specs.declared.place.LogPlace.{LogPlace}
use Rattle.hl_image.specs.Places.{block_at, log_end, IsLogPlace}
use Rattle.hl_image.specs.Parts.{IsPartBytes, IsPart, NoPart, next_of}
use Rattle.hl_image.specs.Chain.{Walk, end_of, IsChain, IsCutChain, Covers}
use Rattle.hl_image.specs.Chance.{NoChanceOf}
use Rattle.hl_image.proofs.PartLemmas.{part_there, no_part_zeros}
use Rattle.hl_image.proofs.ChainLemmas.{apart, segment_in_log, next_place, end_of-append, covers-append, walk_covered, walk_more, covers_in_log, chain_same, chain_more, chain_ends, cut_open}
use Rattle.hl_log.specs.declared.position.Position.{Position}
use Rattle.hl_log.specs.Free.{InOneOf, IsFree, AreClean}
use Rattle.hl_log.specs.Cut.{Goes}
use Rattle.hl_log.proofs.Cleans.{first_apart, beside_first, beside_other}
use Rattle.hl_log.specs.Rest.{OnlyFrom, AtHead, IsAtRest, Has, Keeps, IsSame, Leaves}
use Rattle.hl_log.specs.Steps.{settled, behind, own_blocks, blocks_behind, IsNext, HasPart, StandsBehind}

pub quiet_untouched : (b : ℕ) (pending : List PendingWrite) → OnlyFrom b pending → (k : ℕ) → k < b → IsUntouched pending k
quiet_untouched b [] quiet k lt = tt
quiet_untouched b (w ∷ pending) quiet k lt = (let le = quiet.0 in inl (omega arith), quiet_untouched b pending quiet.1 k lt)

-- any bytes in the blocks of a write
abbrev pub Torn : MachineState → ℕ → List ℕ → Image → Type 0
Torn s at bytes image = (k : ℕ) → (k < at) ⊎ (at + length bytes / 4096 ≤ k) → IsUntouched s.pending k → image k ≡ s.content k

abbrev pub pending_of : MachineState → ℕ → List ℕ → PendingWrite
pending_of s at bytes = record { at = at; bytes = bytes; before = s.content }

abbrev pub synced : MachineState → ℕ → List ℕ → MachineState
synced s at bytes = ended (ended s (Write at bytes bytes)) (Sync true)

pub torn_during : (s : MachineState) (at : ℕ) (bytes after : List ℕ) (image : Image) → MayLeave (begun s (Write at bytes after)) image → Torn s at bytes image
torn_during s at bytes after image may k outside untouched = may k (outside, untouched)

pub torn_after : (s : MachineState) (at : ℕ) (bytes after : List ℕ) (image : Image) → MayLeave (ended s (Write at bytes after)) image → Torn s at bytes image
torn_after s at bytes after image may k outside untouched = may k (outside, untouched) ∙ overwritten_out s.content at (length bytes / 4096) after k outside

-- outside a range or in it
pub side : (at n k : ℕ) → ((k < at) ⊎ (at + n ≤ k)) ⊎ ((at ≤ k) × (k < at + n))
side at n k = elim (cases_lt k at) [
  | inl lt ↦ inl (inl lt)
  | inr le ↦ elim (cases_lt k (at + n)) [
    | inl lt ↦ inr (le, lt)
    | inr far ↦ inl (inr far)
  ]
]

-- the blocks of a write are free
abbrev pub InFree : Layout → Position → List ℕ → ℕ → List ℕ → Type 0
InFree g p clean at bytes = (k : ℕ) → at ≤ k → k < at + length bytes / 4096 → IsFree g p.head clean k

pub torn_keeps : (g : Layout) (p : Position) (clean : List ℕ) (s : MachineState) (at : ℕ) (bytes : List ℕ) (image : Image) → InFree g p clean at bytes → Torn s at bytes image → Keeps g p clean s image
torn_keeps g p clean s at bytes image free torn k not_free untouched =
    ⊎_elim (λ outside. torn k outside untouched) (λ inside. absurd (not_free (free k inside.0 inside.1))) (side at (length bytes / 4096) k)

pub synced_same : (g : Layout) (p : Position) (clean : List ℕ) (s : MachineState) (at : ℕ) (bytes : List ℕ) → InFree g p clean at bytes → IsSame g p clean s (synced s at bytes)
synced_same g p clean s at bytes free = record {
  content = λ k not_free. ⊎_elim (λ outside. overwritten_out s.content at (length bytes / 4096) bytes k outside) (λ inside. absurd (not_free (free k inside.0 inside.1))) (side at (length bytes / 4096) k);
  pending = λ k untouched. tt;
}

-- a write of one block
pub one_there : (image : Image) (at : ℕ) (bytes : List ℕ) → length bytes ≡ 4096 → overwritten image at (length bytes / 4096) bytes at ≡ bytes
one_there image at bytes one =
    let e : at - at ≡ 0 = omega arith in
    overwritten_in image at (length bytes / 4096) bytes at (omega arith) (omega arith) ∙ ap (block_of bytes) e ∙ block_of_one bytes one

-- a clean segment has no block of this one
pub in_one_apart : (g : Layout) (c : ℕ) (clean : List ℕ) (b : ℕ) → AreClean g c clean → InOneOf g clean b → g.k * c ≤ b → b < g.k * c + g.k → ⊥
in_one_apart g c [] b cleans none lo hi = none
in_one_apart g c (d ∷ clean) b cleans (inl here) lo hi = apart g d c b (first_apart g c d clean cleans) here.0 here.1 lo hi
in_one_apart g c (d ∷ clean) b cleans (inr later) lo hi = in_one_apart g c clean b (beside_other g c d clean cleans) later lo hi

-- the blocks behind a summary, in an image that holds the part
pub blocks_there : (image : Image) (at : ℕ) (bytes : List ℕ) (n m : ℕ) → ((i : ℕ) → m ≤ i → i < m + n → image (at + i) ≡ block_of bytes i) → map image (range_with_len (at + m) n) ≡ map (block_of bytes) (range_with_len m n)
blocks_there image at bytes zero m holds = refl
blocks_there image at bytes (suc n) m holds =
    let e : at + m + 1 ≡ at + (m + 1) = omega arith in
    ap (λ (x : List ℕ). x ∷ map image (range_with_len (at + m + 1) n)) (holds m (omega arith) (omega arith))
    ∙ ap (λ (k : ℕ). block_of bytes m ∷ map image (range_with_len k n)) e
    ∙ ap (λ (l : List (List ℕ)). block_of bytes m ∷ l) (blocks_there image at bytes n (m + 1) (λ i le lt. holds i (omega arith) (omega arith)))

module _ (g : Layout) (p : Position) (clean : List ℕ) (parts : List Summary) (s : MachineState) (rest : IsAtRest g p clean parts s) where
  -- nothing is pending in the log
  pub untouched : (k : ℕ) → k < log_end g → IsUntouched s.pending k
  untouched k lt = quiet_untouched (log_end g) s.pending rest.quiet k lt

  -- the chain's blocks stay
  pub covered : (image : Image) → Keeps g p clean s image → (k : ℕ) → Covers g p.start parts k → image k ≡ s.content k
  covered image keeps k covers = keeps k (rest.behind k covers) (untouched k (covers_in_log g s.content p.start p.first parts rest.start rest.walk k covers))

  -- the image has the chain's blocks
  abbrev pub Agrees : Image → Type 0
  Agrees image = (k : ℕ) → Covers g p.start parts k → image k ≡ s.content k

  pub walks : (image : Image) → Agrees image → Walk g image p.start p.first parts
  walks image agrees = walk_covered g s.content image p.start p.first parts agrees rest.walk

  pub has_none : (image : Image) → Agrees image → NoPart g image p.head p.serial → Has g p parts image
  has_none image agrees none = record {
    beyond = [];
    chain = subst (λ (l : List Summary). IsChain g image p.start p.first l) (sym (append-nil parts)) (chain_ends g image p.start p.head p.first p.serial parts (walks image agrees) rest.head_is rest.serial_is none);
    open_ended = refl;
  }

  pub has_more : (image : Image) → Agrees image → (q : Summary) → IsPart g image p.head p.serial q → NoPart g image (next_of q) (p.serial + 1) → Has g p (parts ++ q ∷ []) image
  has_more image agrees q some none = record {
    beyond = [];
    chain = subst (λ (l : List Summary). IsChain g image p.start p.first l) (sym (append-nil (parts ++ q ∷ [])))
        (chain_more g image p.start p.head p.first p.serial parts q (walks image agrees) rest.head_is rest.serial_is some none);
    open_ended = refl;
  }

  pub head_in_log : block_at g p.head < log_end g
  head_in_log = segment_in_log g p.head.seg (block_at g p.head) rest.head.high (omega (arith, rest.head.room))

  -- an image with the same log
  pub has_same : (image : Image) → ((k : ℕ) → k < log_end g → image k ≡ s.content k) → Has g p parts image
  has_same image same = by_fresh p.fresh rest.at_head
    where
      by_fresh : (b : Bool) → AtHead g p parts s.content b → Has g p parts image
      by_fresh true at_head = record {
        beyond = at_head.0;
        chain = chain_same g s.content image p.start p.first (parts ++ at_head.0) rest.start same at_head.1;
        open_ended = at_head.2;
      }
      by_fresh false at_head =
          has_none image (λ k covers. same k (covers_in_log g s.content p.start p.first parts rest.start rest.walk k covers))
          (no_part_zeros g image p.head p.serial (same (block_at g p.head) head_in_log ∙ at_head))

  pub rest_leaves : Leaves g p clean (Has g p parts) s s
  rest_leaves image may chance = (has_same image (λ k lt. may k (untouched k lt)), λ k not_free un. may k un)

  -- nothing of the chain changes by writes in free blocks
  module _ (at : ℕ) (bytes : List ℕ) (free : InFree g p clean at bytes) where
    pub torn_agrees : (image : Image) → Torn s at bytes image → Agrees image
    torn_agrees image torn = covered image (torn_keeps g p clean s at bytes image free torn)

    pub synced_agrees : Agrees (synced s at bytes).content
    synced_agrees k covers = (synced_same g p clean s at bytes free).content k (rest.behind k covers)

  -- zeros at the head
  module _ (fresh : p.fresh ≡ true) (bytes : List ℕ) (one : length bytes ≡ 4096) (zero : bytes ≡ zeros 4096) where
    abbrev at : ℕ
    at = block_at g p.head

    blocks : length bytes / 4096 ≡ 1
    blocks = omega arith

    pub head_free : InFree g p clean at bytes
    head_free k le lt = inl (le, omega (arith, rest.head.room, blocks))

    pub head_leaves : (image : Image) → Torn s at bytes image → NoChanceOf g p.start p.first (pending_of s at bytes) image → Has g p parts image × Keeps g p clean s image
    head_leaves image torn chance =
        let at_head : AtHead g p parts s.content true = subst (AtHead g p parts s.content) fresh rest.at_head in
        let here : at ≡ block_at g (end_of p.start parts) = ap (block_at g) (sym rest.head_is) in
        let chain : IsCutChain g s.content p.start p.first parts = record { all = parts ++ at_head.0; chain = at_head.1; is = cut_open parts at_head.0 at_head.2 ∙ at_head.3 } in (
          ⊎_elim
              (λ same. has_same image (λ k lt. ⊎_elim
              (λ outside. torn k outside (untouched k lt))
              (λ inside. (let e : k ≡ at = (let a = inside.0 in let b = inside.1 in omega (arith, blocks)) in ap image e ∙ same ∙ ap s.content (sym e)))
              (side at (length bytes / 4096) k)))
              (λ none. has_none image (torn_agrees at bytes head_free image torn) (subst (λ (x : LogPlace). NoPart g image x p.serial) rest.head_is (subst (NoPart g image (end_of p.start parts)) rest.serial_is none)))
              (chance.zeros parts chain here zero),
          torn_keeps g p clean s at bytes image head_free torn,
        )

    pub head_after : IsAtRest g (settled p) clean parts (synced s at bytes)
    head_after = record {
      quiet = tt;
      start = rest.start;
      head = rest.head;
      cleans = rest.cleans;
      walk = walks (synced s at bytes).content (synced_agrees at bytes head_free);
      head_is = rest.head_is;
      serial_is = rest.serial_is;
      behind = rest.behind;
      at_head = one_there s.content at bytes one ∙ zero;
    }

  pub in_cleans : (c : ℕ) (more : List ℕ) → clean ≡ c ∷ more → AreClean g p.head.seg (c ∷ more)
  in_cleans c more is = subst (AreClean g p.head.seg) is rest.cleans

  pub next_free : (n : ℕ) (next : LogPlace) (more : List ℕ) → Goes g p.head n clean next more → IsFree g p.head clean (block_at g next) × (block_at g next ≡ block_at g p.head → ⊥)
  next_free n next more (inl same) =
      let r = same.0 in
      let a = same.1 in
      let b = same.2 in
      let m : g.k * next.seg ≡ g.k * p.head.seg = ap (λ (n : ℕ). g.k * n) a in
      (inl (omega arith, omega arith), λ e. omega arith)
  next_free n next more (inr other) =
      let z = other.2 in
      let cs = in_cleans next.seg more other.1 in
      let two : 2 ≤ g.k = omega (arith, rest.head.room) in
      let lo : g.k * next.seg ≤ block_at g next = omega arith in
      let hi : block_at g next < g.k * next.seg + g.k = omega arith in (
        subst (λ (l : List ℕ). IsFree g p.head l (block_at g next)) (sym other.1) (inr (inl (lo, hi))),
        λ e. apart g next.seg p.head.seg (block_at g next) (first_apart g p.head.seg next.seg more cs) lo hi (omega arith) (omega (arith, rest.head.room)),
      )

  -- zeros at the next place
  module _ (fresh : p.fresh ≡ false) (n : ℕ) (next : LogPlace) (more : List ℕ) (goes : Goes g p.head n clean next more) (bytes : List ℕ) (one : length bytes ≡ 4096) (zero : bytes ≡ zeros 4096) where
    abbrev to : ℕ
    to = block_at g next

    one_block : length bytes / 4096 ≡ 1
    one_block = omega arith

    next_is_free : IsFree g p.head clean to × (to ≡ block_at g p.head → ⊥)
    next_is_free = next_free n next more goes

    pub to_free : InFree g p clean to bytes
    to_free k le lt = let e : to ≡ k = omega (arith, one_block) in subst (IsFree g p.head clean) e next_is_free.0

    head_zeros : s.content (block_at g p.head) ≡ zeros 4096
    head_zeros = subst (AtHead g p parts s.content) fresh rest.at_head

    head_outside : (block_at g p.head < to) ⊎ (to + length bytes / 4096 ≤ block_at g p.head)
    head_outside = ⊎_elim (λ outside. outside) (λ inside. absurd (next_is_free.1 (let a = inside.0 in let b = inside.1 in omega (arith, one_block)))) (side to (length bytes / 4096) (block_at g p.head))

    pub next_leaves : (image : Image) → Torn s to bytes image → Has g p parts image × Keeps g p clean s image
    next_leaves image torn =
        let e : image (block_at g p.head) ≡ s.content (block_at g p.head) = torn (block_at g p.head) head_outside (untouched (block_at g p.head) head_in_log) in (
          has_none image (torn_agrees to bytes to_free image torn) (no_part_zeros g image p.head p.serial (e ∙ head_zeros)),
          torn_keeps g p clean s to bytes image to_free torn,
        )

    pub next_after : IsAtRest g p clean parts (synced s to bytes)
    next_after = record {
      quiet = tt;
      start = rest.start;
      head = rest.head;
      cleans = rest.cleans;
      walk = walks (synced s to bytes).content (synced_agrees to bytes to_free);
      head_is = rest.head_is;
      serial_is = rest.serial_is;
      behind = rest.behind;
      at_head = subst (AtHead g p parts (synced s to bytes).content) (sym fresh)
          (overwritten_out s.content to (length bytes / 4096) bytes (block_at g p.head) head_outside ∙ head_zeros);
    }

    pub next_is_zeros : (synced s to bytes).content to ≡ zeros 4096
    next_is_zeros = one_there s.content to bytes one ∙ zero

  -- the part
  module _ (fresh : p.fresh ≡ false) (part : Summary) (next : LogPlace) (bytes : List ℕ) (more : List ℕ) (is_next : IsNext g p clean more next bytes part)
      (next_zeros : s.content (block_at g next) ≡ zeros 4096) where
    abbrev here : ℕ
    here = block_at g p.head

    abbrev there : ℕ
    there = block_at g next

    abbrev n : ℕ
    n = length part.blocks

    fit : HasRanges g p.head.seg p.head.block part
    fit = is_next.is.spelled.value.ranges

    count : length bytes / 4096 ≡ n + 1
    count = omega (arith, is_next.is.whole)

    pub put_free : InFree g p clean here bytes
    put_free k le lt = inl (le, omega (arith, fit.within, count))

    is_place : IsLogPlace g next
    is_place = subst (IsLogPlace g) is_next.next_is (next_place g p.head part rest.head fit)

    -- the next place in the same segment is right behind the part
    same_segment : next.seg ≡ p.head.seg → next.block ≡ p.head.block + n + 1 → there ≡ here + n + 1
    same_segment same later = let m : g.k * next.seg ≡ g.k * p.head.seg = ap (λ (n : ℕ). g.k * n) same in omega arith

    next_outside : (there < here) ⊎ (here + length bytes / 4096 ≤ there)
    next_outside = ⊎_elim
        (λ same. inr (let e = same_segment same.1 same.2 in omega (arith, count)))
        (λ other. ⊎_elim (λ outside. outside)
        (λ inside. absurd (let z = other.2 in let a = inside.0 in let b = inside.1 in
        apart g next.seg p.head.seg there (first_apart g p.head.seg next.seg more (in_cleans next.seg more other.1)) (omega arith) (omega (arith, rest.head.room)) (omega arith) (omega (arith, fit.within, count))))
        (side here (length bytes / 4096) there))
        is_next.goes

    next_in_log : there < log_end g
    next_in_log = segment_in_log g next.seg there is_place.high (omega (arith, is_place.room))

    at_part : (image : Image) → HoldsAt image here bytes → IsPart g image p.head p.serial part
    at_part image holds = part_there g image p.head p.serial bytes part is_next.is holds

    pub data_there : (image : Image) → HoldsAt image here bytes → blocks_behind g image p.head n ≡ own_blocks bytes n
    data_there image holds = blocks_there image here bytes n 1 (λ i le lt. holds i (omega (arith, count)))

    with_part : (image : Image) → Agrees image → HoldsAt image here bytes → image there ≡ s.content there → Has g p (parts ++ part ∷ []) image
    with_part image agrees holds e = has_more image agrees part (at_part image holds)
        (subst (λ (x : LogPlace). NoPart g image x (p.serial + 1)) (sym is_next.next_is) (no_part_zeros g image next (p.serial + 1) (e ∙ next_zeros)))

    pub put_leaves : (image : Image) → Torn s here bytes image → NoChanceOf g p.start p.first (pending_of s here bytes) image → HasPart g p part (own_blocks bytes (length part.blocks)) parts image × Keeps g p clean s image
    put_leaves image torn chance =
        let serial : part.serial ≡ p.serial = is_next.is.spelled.serial_is in
        let bytes_are : IsPartBytes g p.head part.serial bytes part = subst (λ (m : ℕ). IsPartBytes g p.head m bytes part) (sym serial) is_next.is in (
          ⊎_elim
              (λ holds. inr (with_part image (torn_agrees here bytes put_free image torn) holds (torn there next_outside (untouched there next_in_log)), data_there image holds))
              (λ none. inl (has_none image (torn_agrees here bytes put_free image torn) (subst (NoPart g image p.head) serial none)))
              (chance.part p.head part refl bytes_are),
          torn_keeps g p clean s here bytes image put_free torn,
        )

    abbrev now : Image
    now = (synced s here bytes).content

    pub put_holds : HoldsAt now here bytes
    put_holds k lt = (let e : here + k - here ≡ k = omega arith in overwritten_in s.content here (length bytes / 4096) bytes (here + k) (omega arith) (omega arith) ∙ ap (block_of bytes) e)

    pub put_data : blocks_behind g now p.head n ≡ own_blocks bytes n
    put_data = data_there now put_holds

    -- what is free behind the part was free before it
    pub was_free : (b : ℕ) → IsFree g next more b → IsFree g p.head clean b
    was_free b is_free = ⊎_elim
        (λ same. ⊎_elim
        (λ near. inl (let e = same_segment same.1 same.2 in let a = near.0 in let b = near.1 in
        let m : g.k * next.seg ≡ g.k * p.head.seg = ap (λ (n : ℕ). g.k * n) same.1 in (omega arith, omega arith)))
        (λ far. inr (subst (λ (l : List ℕ). InOneOf g l b) same.3 far)) is_free)
        (λ other. inr (subst (λ (l : List ℕ). InOneOf g l b) (sym other.1) (⊎_elim
        (λ near. inl (let z = other.2 in let a = near.0 in let c = near.1 in (omega arith, omega arith)))
        (λ far. inr far) is_free)))
        is_next.goes

    -- and the part is not in it
    part_apart : (b : ℕ) → IsFree g next more b → here ≤ b → b ≤ here + n → ⊥
    part_apart b is_free le le2 = ⊎_elim
        (λ same. ⊎_elim
        (λ near. (let e = same_segment same.1 same.2 in let a = near.0 in omega arith))
        (λ far. in_one_apart g p.head.seg clean b rest.cleans (subst (λ (l : List ℕ). InOneOf g l b) same.3 far) (omega arith) (omega (arith, fit.within))) is_free)
        (λ other. in_one_apart g p.head.seg clean b rest.cleans (subst (λ (l : List ℕ). InOneOf g l b) (sym other.1) (⊎_elim
        (λ near. inl (let z = other.2 in let a = near.0 in let c = near.1 in (omega arith, omega arith)))
        (λ far. inr far) is_free)) (omega arith) (omega (arith, fit.within)))
        is_next.goes

    next_cleans : AreClean g next.seg more
    next_cleans = ⊎_elim
        (λ same. subst (λ (l : List ℕ). AreClean g next.seg l) (sym same.3) (subst (λ (c : ℕ). AreClean g c clean) (sym same.1) rest.cleans))
        (λ other. beside_first g p.head.seg next.seg more (in_cleans next.seg more other.1))
        is_next.goes

    end_is : end_of p.start (parts ++ part ∷ []) ≡ next
    end_is = end_of-append p.start parts (part ∷ []) ∙ is_next.next_is

    pub put_after : IsAtRest g (behind p next) more (parts ++ part ∷ []) (synced s here bytes)
    put_after = record {
      quiet = tt;
      start = rest.start;
      head = is_place;
      cleans = next_cleans;
      walk = walk_more g now p.start p.head p.first p.serial parts part (walks now (synced_agrees here bytes put_free)) rest.head_is rest.serial_is (at_part now put_holds);
      head_is = end_is;
      serial_is = omega (arith, length-append parts (part ∷ []), rest.serial_is);
      behind = λ b covers is_free. ⊎_elim
          (λ old. rest.behind b old (was_free b is_free))
          (λ new. ⊎_elim
          (λ own. (let lo = own.0 in let hi = own.1 in
          let e : block_at g (end_of p.start parts) ≡ here = ap (block_at g) rest.head_is in
          part_apart b is_free (omega arith) (omega arith)))
          (λ none. none) new)
          (covers-append g p.start parts (part ∷ []) b covers);
      at_head = subst (AtHead g (behind p next) (parts ++ part ∷ []) now) (sym fresh)
          (overwritten_out s.content here (length bytes / 4096) bytes there next_outside ∙ next_zeros);
    }

    pub put_stands : StandsBehind g p clean more part next (own_blocks bytes (length part.blocks)) parts s (synced s here bytes)
    put_stands = record { rest = put_after; same = synced_same g p clean s here bytes put_free; blocks_are = put_data; was_free = was_free }
