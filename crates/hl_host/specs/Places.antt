-- What is read from places of a file and written to them.
use Rattle.std.specs.Prelude.{◌≡◌, ℕ, ◌+◌, ◌≤◌, ◌<◌, List, [], ◌++◌, length, take, drop, Option, Some, None, Result, MatchResult}
use Rattle.std.specs.Option.{ForSome}
use Rattle.std.specs.Io.KnownBytes.{Appends}
use Rattle.hl_bytes.specs.Fields.{written}

-- the first n of these bytes stand in the file from this byte on, where it tells what it holds
abbrev pub StandsAt : Option (List ℕ) → ℕ → ℕ → List ℕ → Type 0
StandsAt content from n bytes = ForSome content (λ held. take n bytes ≡ take n (drop from held))

-- no byte of the file stands there, where it tells what it holds
abbrev pub EndsBefore : Option (List ℕ) → ℕ → Type 0
EndsBefore content from = ForSome content (λ held. length held ≤ from)

-- a read gave the first n bytes that stand there, and none only at the end or with no room
abbrev pub GivesAt : {E : Type 0} → Option (List ℕ) → ℕ → Result ℕ E → List ℕ → Type 0
GivesAt content from result bytes = MatchResult result (λ n. StandsAt content from n bytes × (n ≡ 0 → 0 < length bytes → EndsBefore content from)) (λ _. Unit {0})

-- the bytes took the place of as many, where the file tells what it holds and that place lies in it
abbrev pub PutsAt : Option (List ℕ) → Option (List ℕ) → ℕ → List ℕ → Type 0
PutsAt before now from bytes = ForSome before (λ held. from + length bytes ≤ length held → now ≡ Some (written held from bytes))

-- a write put the first n bytes there, and one that failed put none
abbrev pub WritesAt : {E : Type 0} → Option (List ℕ) → Option (List ℕ) → ℕ → Result ℕ E → List ℕ → Type 0
WritesAt before now from result bytes = MatchResult result (λ n. PutsAt before now from (take n bytes)) (λ _. now ≡ before)

-- only as many bytes from there on may have changed
abbrev pub ChangesAt : Option (List ℕ) → Option (List ℕ) → ℕ → ℕ → Type 0
ChangesAt before now from n = ForSome before (λ held. from + n ≤ length held → (bytes : List ℕ) × (length bytes ≡ n) × (now ≡ Some (written held from bytes)))

-- some first part of the bytes was said
abbrev pub AppendsSome : Option (List ℕ) → Option (List ℕ) → List ℕ → Type 0
AppendsSome before now bytes = (n : ℕ) × Appends before now (take n bytes)

-- where the first `done` bytes stood there since, the first `more` stand there now
abbrev pub PutsOn : Option (List ℕ) → Option (List ℕ) → ℕ → List ℕ → ℕ → ℕ → Type 0
PutsOn before now from bytes done more = (first : Option (List ℕ)) → PutsAt first before from (take done bytes) → PutsAt first now from (take more bytes)

-- where the first `done` bytes were said since, the first `more` are now
abbrev pub SaysOn : Option (List ℕ) → Option (List ℕ) → List ℕ → ℕ → ℕ → Type 0
SaysOn before now bytes done more = (first : Option (List ℕ)) → Appends first before (take done bytes) → Appends first now (take more bytes)
