-- What holds at each moment of writing one part.
use Rattle.std.specs.Prelude.{◌≡◌, ◌⊎◌, ℕ, ◌+◌, false, List, [], ◌∷◌, ◌++◌, length, map}
use Rattle.std.specs.List.{range_with_len}
use Rattle.hl_bytes.specs.Buffers.{block_of}
use Rattle.hl_media.specs.History.{Image, MachineState}
use Rattle.hl_addr.specs.Layout.{Layout}
use Rattle.hl_bytes.specs.Fields.{zeros}
use Rattle.hl_summary.specs.declared.parts.Summary.{Summary}
use Rattle.hl_image.specs.declared.place.LogPlace.{LogPlace}
use Rattle.hl_image.specs.Places.{block_at}
use Rattle.hl_image.specs.Parts.{IsPartBytes, next_of}
use Rattle.hl_log.specs.declared.position.Position.{Position}
use Rattle.hl_log.specs.Free.{IsFree}
use Rattle.hl_log.specs.Cut.{Goes}
use Rattle.hl_log.specs.Rest.{IsAtRest, Has, IsSame, Leaves}

-- after the first zeros
abbrev pub settled : Position → Position
settled p =
    record { start = p.start; first = p.first; head = p.head; serial = p.serial; fresh = false }

-- after a part that names this place
abbrev pub behind : Position → LogPlace → Position
behind p next =
    record { start = p.start; first = p.first; head = next; serial = p.serial + 1; fresh = p.fresh }

-- the blocks behind a part's summary, in its bytes and in an image
abbrev pub own_blocks : List ℕ → ℕ → List (List ℕ)
own_blocks bytes n = map (block_of bytes) (range_with_len 1 n)

abbrev pub blocks_behind : Layout → Image → LogPlace → ℕ → List (List ℕ)
blocks_behind g image at n = map image (range_with_len (block_at g at + 1) n)

-- at each moment of clearing the head
abbrev pub KeepsChain : Layout → Position → MachineState → MachineState → Type 0
KeepsChain g p first s = (clean : List ℕ) (parts : List Summary) → IsAtRest g p clean parts first
    → Leaves g p clean (Has g p parts) first s

abbrev pub HeadCleared : Layout → Position → MachineState → MachineState → Type 0
HeadCleared g p first s = (clean : List ℕ) (parts : List Summary) → IsAtRest g p clean parts first
    → IsAtRest g (settled p) clean parts s × IsSame g p clean first s

-- at each moment of clearing the place behind a next part
abbrev pub KeepsChainTo : Layout → Position → LogPlace → MachineState → MachineState → Type 0
KeepsChainTo g p next first s = (n : ℕ) (clean more : List ℕ) (parts : List Summary)
    → IsAtRest g p clean parts first → Goes g p.head n clean next more
    → Leaves g p clean (Has g p parts) first s

abbrev pub NextCleared : Layout → Position → LogPlace → MachineState → MachineState → Type 0
NextCleared g p next first s = (n : ℕ) (clean more : List ℕ) (parts : List Summary)
    → IsAtRest g p clean parts first → Goes g p.head n clean next more
    → IsAtRest g p clean parts s × IsSame g p clean first s
    × (s.content (block_at g next) ≡ zeros 4096)

-- the bytes are a part for the head, and it goes on there
pub record IsNext (g : Layout) (p : Position) (clean more : List ℕ) (next : LogPlace)
    (bytes : List ℕ) (part : Summary) : Type 0 where
  pub is : IsPartBytes g p.head p.serial bytes part
  pub next_is : next_of part ≡ next
  pub goes : Goes g p.head (length part.blocks) clean next more

-- the chain is as it was, or this part stands behind it with these blocks
abbrev pub HasPart : Layout → Position → Summary → List (List ℕ) → List Summary → Image → Type 0
HasPart g p part blocks parts image = Has g p parts image
    ⊎ (Has g p (parts ++ part ∷ []) image
    × (blocks_behind g image p.head (length part.blocks) ≡ blocks))

-- the part stands behind the chain with these blocks
pub record StandsBehind (g : Layout) (p : Position) (clean more : List ℕ) (part : Summary)
    (next : LogPlace) (blocks : List (List ℕ)) (parts : List Summary)
    (first s : MachineState) : Type 0 where
  pub rest : IsAtRest g (behind p next) more (parts ++ part ∷ []) s
  pub same : IsSame g p clean first s
  pub blocks_are : blocks_behind g s.content p.head (length part.blocks) ≡ blocks
  pub was_free : (b : ℕ) → IsFree g next more b → IsFree g p.head clean b

-- at each moment of writing a part, behind which zeros stand
abbrev pub PutsPart : Layout → Position → LogPlace → List ℕ → MachineState → MachineState → Type 0
PutsPart g p next bytes first s = (clean more : List ℕ) (parts : List Summary) (part : Summary)
    → IsAtRest g p clean parts first → IsNext g p clean more next bytes part
    → first.content (block_at g next) ≡ zeros 4096
    → Leaves g p clean (HasPart g p part (own_blocks bytes (length part.blocks)) parts) first s

abbrev pub HasPut : Layout → Position → LogPlace → List ℕ → MachineState → MachineState → Type 0
HasPut g p next bytes first s = (clean more : List ℕ) (parts : List Summary) (part : Summary)
    → IsAtRest g p clean parts first → IsNext g p clean more next bytes part
    → first.content (block_at g next) ≡ zeros 4096
    → StandsBehind g p clean more part next (own_blocks bytes (length part.blocks)) parts first s

-- the same with the next place cleared first
abbrev pub AddsPart : Layout → Position → LogPlace → List ℕ → MachineState → MachineState → Type 0
AddsPart g p next bytes first s = (clean more : List ℕ) (parts : List Summary) (part : Summary)
    → IsAtRest g p clean parts first → IsNext g p clean more next bytes part
    → Leaves g p clean (HasPart g p part (own_blocks bytes (length part.blocks)) parts) first s

abbrev pub HasAdded : Layout → Position → LogPlace → List ℕ → MachineState → MachineState → Type 0
HasAdded g p next bytes first s = (clean more : List ℕ) (parts : List Summary) (part : Summary)
    → IsAtRest g p clean parts first → IsNext g p clean more next bytes part
    → StandsBehind g p clean more part next (own_blocks bytes (length part.blocks)) parts first s

-- the same of a part of which these blocks are known
abbrev pub AddsPiece : Layout → Position → LogPlace → Summary → List (List ℕ) → MachineState
    → MachineState → Type 0
AddsPiece g p next part blocks first s = (clean more : List ℕ) (parts : List Summary)
    → IsAtRest g p clean parts first → Goes g p.head (length part.blocks) clean next more
    → Leaves g p clean (HasPart g p part blocks parts) first s

abbrev pub HasAddedPiece : Layout → Position → LogPlace → Summary → List (List ℕ) → MachineState
    → MachineState → Type 0
HasAddedPiece g p next part blocks first s = (clean more : List ℕ) (parts : List Summary)
    → IsAtRest g p clean parts first → Goes g p.head (length part.blocks) clean next more
    → StandsBehind g p clean more part next blocks parts first s
