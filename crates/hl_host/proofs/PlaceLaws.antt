-- Reads, writes and sayings that go on behind what was done.
use Rattle.std.proofs.Common.{rules, ◌≡◌, ℕ, ◌+◌, ◌-◌, ◌≤◌, List, [], ◌++◌, length, take, drop, Option, Some, None, refl, sym, ◌∙◌, ap, subst, arith, length-take, length-append, length-drop, take-append-drop, append_assoc, append-nil}
use Rattle.std.proofs.lemmas.List.{nil_from_length, take_all, take-append-le, drop-drop, length-take-le, drop-append-le, drop_at}
use Rattle.std.proofs.Math.Seq.{take-add, take-append-add}
use Rattle.std.specs.Io.KnownBytes.{Appends, Keeps}
use borrow.Rule.Slice.PartMut.{put_mid}
use Rattle.hl_bytes.specs.Fields.{written}
use Rattle.hl_bytes.proofs.Places.{drop-written, put_end, written_more, written_none}
use Rattle.hl_host.specs.Places.{AppendsSome, ChangesAt, PutsAt, PutsOn, SaysOn, StandsAt}

-- the first m + n bytes of two lists, the first of which has m
take_both : (m n : ℕ) (xs ys : List ℕ) → length xs ≡ m → take (m + n) (xs ++ ys) ≡ xs ++ take n ys
take_both m n xs ys size = ap (λ (k : ℕ). take (k + n) (xs ++ ys)) (sym size) ∙ take-append-add xs ys n

-- the bytes behind the first, as a part that is lent has them
pub rest_is : (bytes : List ℕ) (done : ℕ) → take (length bytes - done) (drop done bytes) ≡ drop done bytes
rest_is bytes done = take_all (length bytes - done) (drop done bytes) (omega (arith, length-drop done bytes))

module _ (content : Option (List ℕ)) (from done at : ℕ) (out piece : List ℕ) (is : at ≡ from + done) (low : done ≤ length out) (there : StandsAt content from done out) where
  -- more bytes were read behind the first
  pub stands_more : (n : ℕ) → StandsAt content at n piece → StandsAt content from (done + n) (put_mid done (length out - done) out piece)
  stands_more n more held told =
      ap (take (done + n)) (put_end out piece done)
      ∙ take_both done n (take done out) piece (length-take-le done out low)
      ∙ ap (λ (l : List ℕ). l ++ take n piece) (there held told)
      ∙ ap (λ (l : List ℕ). take done (drop from held) ++ l) (more held told ∙ ap (λ (k : ℕ). take n (drop k held)) is ∙ ap (take n) (sym (drop-drop done from held)))
      ∙ sym (take-add done n (drop from held))

  -- none were
  pub stands_still : StandsAt content from done (put_mid done (length out - done) out piece)
  stands_still held told =
      ap (take done) (put_end out piece done)
      ∙ take-append-le done (take done out) piece (omega (arith, length-take-le done out low))
      ∙ take_all done (take done out) (omega (arith, length-take-le done out low))
      ∙ there held told

module _ (before now : Option (List ℕ)) (from done at : ℕ) (bytes : List ℕ) (is : at ≡ from + done) where
  -- more bytes were written behind the first
  pub puts_more : (n : ℕ) → done + n ≤ length bytes → PutsAt before now at (take n (take (length bytes - done) (drop done bytes))) → PutsOn before now from bytes done (done + n)
  puts_more n fits given first there held told room =
      let xs = take done bytes in
      let ys = take n (drop done bytes) in
      let more = subst (λ (l : List ℕ). PutsAt before now at (take n l)) (rest_is bytes done) given in
      let long_x : length xs ≡ done = length-take-le done bytes (omega arith) in
      let long_y : length ys ≡ n = length-take-le n (drop done bytes) (omega (arith, length-drop done bytes)) in
      let long_b : length (take (done + n) bytes) ≡ done + n = length-take-le (done + n) bytes fits in
      let mid : before ≡ Some (written held from xs) = there held told (omega arith) in
      let long_m : length (written held from xs) ≡ length held = omega (
        arith,
        length-append (take from held) (xs ++ drop (from + length xs) held),
        length-append xs (drop (from + length xs) held),
        length-drop (from + length xs) held,
        length-take-le from held (omega arith),
      ) in
      more (written held from xs) mid (omega arith)
      ∙ ap (λ (k : ℕ). Some (written (written held from xs) k ys)) (is ∙ ap (λ (k : ℕ). from + k) (sym long_x))
      ∙ ap Some (written_more held xs ys from (from + length xs) refl (omega arith))
      ∙ ap (λ (l : List ℕ). Some (written held from l)) (sym (take-add done n bytes))

  -- none were
  pub puts_still : now ≡ before → PutsOn before now from bytes done done
  puts_still same first there held told room = same ∙ there held told room

-- before the first
pub puts_none : (content : Option (List ℕ)) (from : ℕ) (bytes : List ℕ) → PutsAt content content from (take 0 bytes)
puts_none content from bytes held told room =
    let none : take 0 bytes ≡ [] = nil_from_length (take 0 bytes) (length-take-le 0 bytes (omega arith)) in
    told ∙ ap Some (written_none held from) ∙ ap (λ (l : List ℕ). Some (written held from l)) (sym none)

-- a write of what is there
written_same : (held : List ℕ) (at n : ℕ) → at + n ≤ length held → written held at (take n (drop at held)) ≡ held
written_same held at n fits =
    let bytes = take n (drop at held) in
    let long : length bytes ≡ n = length-take-le n (drop at held) (omega (arith, length-drop at held)) in
    ap (λ (k : ℕ). take at held ++ (bytes ++ drop (at + k) held)) long
    ∙ ap (λ (l : List ℕ). take at held ++ (bytes ++ l)) (sym (drop-drop n at held))
    ∙ ap (λ (l : List ℕ). take at held ++ l) (take-append-drop n (drop at held))
    ∙ take-append-drop at held

-- where nothing was written
pub changes_none : (content : Option (List ℕ)) (from n : ℕ) → ChangesAt content content from n
changes_none content from n held told room =
    let bytes = take n (drop from held) in
    (bytes, length-take-le n (drop from held) (omega (arith, length-drop from held)), told ∙ ap Some (sym (written_same held from n room)))

-- what was written so far is a change of as many bytes as there are
pub puts_changes : (before now : Option (List ℕ)) (from done : ℕ) (bytes : List ℕ) → done ≤ length bytes → PutsAt before now from (take done bytes) → ChangesAt before now from (length bytes)
puts_changes before now from done bytes low there held told room =
    let xs = take done bytes in
    let long_x : length xs ≡ done = length-take-le done bytes low in
    let n = length bytes - done in
    let m = from + length xs in
    let z = written held from xs in
    let ys = take n (drop m held) in
    let long_y : length ys ≡ n = length-take-le n (drop m held) (omega (arith, length-drop m held)) in
    let long_z : length z ≡ length held = omega (
      arith,
      length-append (take from held) (xs ++ drop m held),
      length-append xs (drop m held),
      length-drop m held,
      length-take-le from held (omega arith),
    ) in
    let behind : drop m z ≡ drop m held = drop-written held xs from m (omega arith) (omega arith) in
    let same : written held from (xs ++ ys) ≡ z =
    sym (written_more held xs ys from m refl (omega arith)) ∙ ap (λ (l : List ℕ). written z m (take n l)) (sym behind) ∙ written_same z m n (omega arith) in
    (xs ++ ys, omega (arith, length-append xs ys), there held told (omega arith) ∙ ap Some (sym same))

-- more bytes were said behind the first
pub says_more : (before now : Option (List ℕ)) (bytes : List ℕ) (done n : ℕ) → Appends before now (take n (take (length bytes - done) (drop done bytes))) → SaysOn before now bytes done (done + n)
says_more before now bytes done n more None there = search rules
says_more None now bytes done n more (Some xs) there = absurd there
says_more (Some ys) None bytes done n more (Some xs) there = absurd more
says_more (Some ys) (Some zs) bytes done n more (Some xs) there =
    more ∙ ap (λ (l : List ℕ). ys ++ take n l) (rest_is bytes done) ∙ ap (λ (l : List ℕ). l ++ take n (drop done bytes)) there
    ∙ append_assoc xs (take done bytes) (take n (drop done bytes))
    ∙ ap (λ (l : List ℕ). xs ++ l) (sym (take-add done n bytes))

-- none were
pub says_still : (before now : Option (List ℕ)) (bytes : List ℕ) → Keeps before now → (first : Option (List ℕ)) → Appends first before bytes → Appends first now bytes
says_still before now bytes kept None there = search rules
says_still None now bytes kept (Some xs) there = absurd there
says_still (Some ys) None bytes kept (Some xs) there = absurd kept
says_still (Some ys) (Some zs) bytes kept (Some xs) there = kept ∙ there

-- before the first
pub says_none : (contents : Option (List ℕ)) (bytes : List ℕ) → Appends contents contents (take 0 bytes)
says_none None bytes = search rules
says_none (Some xs) bytes =
    let none : take 0 bytes ≡ [] = nil_from_length (take 0 bytes) (length-take-le 0 bytes (omega arith)) in
    sym (append-nil xs) ∙ ap (λ (l : List ℕ). xs ++ l) (sym none)
