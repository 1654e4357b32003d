-- Where the last blocks of files lie on the disk, and that they aren't zero past the size.
use Rattle.std.proofs.Common.{◌≡◌, inl, inr, ⊎_elim, ℕ, ◌+◌, ◌-◌, ◌*◌, ◌%◌, ◌≤◌, ◌↔◌, List, ◌++◌, length, take, get_or, sym, ap, ◌∙◌, subst, arith}
use Rattle.std.specs.Prelude.{Option, Some, None, Result, Ok, Err, IfOk}
use Rattle.std.proofs.lemmas.Bool.{cases_lt}
use Rattle.std.proofs.lemmas.List.{ext_get_or, get_or_append_left, get_or-append_right, get_or-replicate, get_or-take, get_or_past, length-append, length-take-le, take_all}
use Rattle.hl_bytes.specs.Fields.{zeros}
use Rattle.hl_bytes.proofs.PageLemmas.{length-zeros}
use Rattle.hl_media.specs.History.{History}
use Rattle.hl_media.specs.Moments.{Now}
use Rattle.hl_addr.specs.Layout.{Layout}
use Rattle.hl_addr.specs.Place.{IsAt}
use Rattle.hl_addr.specs.Slots.{slot_number}
use Rattle.hl_addr.specs.declared.place.Place.{Place}
use Rattle.hl_addr.specs.declared.place.Place.TheVariants.{Log, Tertiary}
use Rattle.hl_tseg.specs.declared.slot.Slot.{Slot}
use Rattle.hl_tseg.specs.SlotTable.{SlotTable, slot_at}
use Rattle.hl_nodes.specs.Lines.{IsZeroFrom, OnDisk}
use Rattle.hl_staged.specs.Ends.{IsNonzero, IsOffEnd, IsStagedAt}
use Rattle.hl_nodes.specs.Telling.{Tells}

-- where a pointer's block lies on the disk, by what the pointer's address stands for
module _ (g : Layout) (slots : SlotTable) (pointer : ℕ) (place : Place) (only : (other : Place) → IsAt g pointer other → other ≡ place) where
  pub log_on_disk : (seg position : ℕ) → place ≡ Log seg position → IsAt g pointer (Log seg position) → (block : ℕ) → (Some pointer ≡ Some block) ↔ OnDisk g slots pointer block
  log_on_disk seg position e at block = (λ same. inl (record { segment = seg; block = position; place = at }, (let f = same in cc)), back)
    where
      back : OnDisk g slots pointer block → Some pointer ≡ Some block
      back (inl (logged, same)) = ap Some (sym same)
      back (inr line) = absurd (let never : Tertiary line.volume line.slot line.position ≡ Log seg position = only (Tertiary line.volume line.slot line.position) line.place ∙ e in cc)

  pub staged_on_disk : (volume slot position : ℕ) → place ≡ Tertiary volume slot position → IsAt g pointer (Tertiary volume slot position) → (held : Slot) → held ≡ slot_at slots (slot_number g.volumes volume slot)
      → (found : Option ℕ) → ((block : ℕ) → (found ≡ Some block) ↔ IsStagedAt g held position block) → (block : ℕ) → (found ≡ Some block) ↔ OnDisk g slots pointer block
  staged_on_disk volume slot position e at held is found there block = (λ same. to ((there block).0 same), back)
    where
      to : IsStagedAt g held position block → OnDisk g slots pointer block
      to (line, serial, staged, same) = inr (record { volume = volume; slot = slot; position = position; place = at; line = line; serial = serial; staged = sym is ∙ staged; block_is = same })

      back : OnDisk g slots pointer block → found ≡ Some block
      back (inl (logged, same)) = absurd (let never : Log logged.segment logged.block ≡ Tertiary volume slot position = only (Log logged.segment logged.block) logged.place ∙ e in cc)
      back (inr line) =
          let one : Tertiary line.volume line.slot line.position ≡ Tertiary volume slot position = only (Tertiary line.volume line.slot line.position) line.place ∙ e in
          let v : volume ≡ line.volume = cc in
          let s : slot ≡ line.slot = cc in
          let p : line.position ≡ position = cc in
          let n : slot_number g.volumes volume slot ≡ slot_number g.volumes line.volume line.slot = cc in
          (there block).1 (line.line, line.serial, is ∙ ap (slot_at slots) n ∙ line.staged, subst (λ (k : ℕ). block ≡ g.k * (g.log + 1 + line.line) + k) p line.block_is)

  pub none_on_disk : ((seg position : ℕ) → place ≡ Log seg position → ⊥) → ((volume slot position : ℕ) → place ≡ Tertiary volume slot position → ⊥) → (block : ℕ) → OnDisk g slots pointer block → ⊥
  none_on_disk log far block (inl (logged, same)) = log logged.segment logged.block (sym (only (Log logged.segment logged.block) logged.place))
  none_on_disk log far block (inr line) = far line.volume line.slot line.position (sym (only (Tertiary line.volume line.slot line.position) line.place))

zero_at : (n k : ℕ) → get_or (zeros n) k 0 ≡ 0
unfolding zeros
zero_at n k = ⊎_elim (λ lt. get_or-replicate n k 0 0 lt) (λ ge. get_or_past (zeros n) k 0 (omega (arith, length-zeros n))) (cases_lt k n)

-- zeros stand from a place of a block on exactly where each byte there is zero
pub zero_from : (bytes : List ℕ) (from : ℕ) → length bytes ≡ 4096 → from ≤ 4096 → (take 4096 bytes ≡ take from bytes ++ zeros (4096 - from)) ↔ IsZeroFrom from bytes
zero_from bytes from size le = (to, back)
  where
    all : take 4096 bytes ≡ bytes
    all = take_all 4096 bytes (omega arith)

    front : length (take from bytes) ≡ from
    front = length-take-le from bytes (omega arith)

    to : take 4096 bytes ≡ take from bytes ++ zeros (4096 - from) → IsZeroFrom from bytes
    to e k ge = ap (λ (l : List ℕ). get_or l k 0) (sym all ∙ e) ∙ get_or-append_right (take from bytes) (zeros (4096 - from)) from k 0 front ge ∙ zero_at (4096 - from) (k - from)

    back : IsZeroFrom from bytes → take 4096 bytes ≡ take from bytes ++ zeros (4096 - from)
    back zero = all ∙ ext_get_or 0 bytes (take from bytes ++ zeros (4096 - from)) (omega (arith, length-append (take from bytes) (zeros (4096 - from)), front, length-zeros (4096 - from)))
        (λ k lt. ⊎_elim
        (λ low. sym (get_or_append_left (take from bytes) (zeros (4096 - from)) 0 k (omega (arith, front)) ∙ get_or-take from bytes k 0 low))
        (λ ge. zero k ge ∙ sym (get_or-append_right (take from bytes) (zeros (4096 - from)) from k 0 front ge ∙ zero_at (4096 - from) (k - from)))
        (cases_lt k from))

-- a block that a pointer names
module _ (g : Layout) (slots : SlotTable) (told : Option History) (size pointer : ℕ) where
  pub end_told : {E : Type 0} (at : ℕ) → OnDisk g slots pointer at → ((block : ℕ) → OnDisk g slots pointer block → block ≡ at) → (r : Result (Option ℕ) E)
      → IfOk r (λ off. Now told (λ s. Tells (IsNonzero s.content at (size % 4096)) off)) → IfOk r (λ off. Now told (λ s. Tells (IsOffEnd g slots s.content size pointer) off))
  end_told at there only (Ok None) is = λ h e block (lies, off). is h e block (only block lies, off)
  end_told at there only (Ok (Some block)) is = λ h e. (let off = is h e in (subst (OnDisk g slots pointer) (sym off.0) there, off.1))
  end_told at there only (Err e) is = tt
