-- What a stop makes of the writes that no sync has followed.
use Rattle.std.specs.Prelude.{◌≡◌, ℕ, ◌/◌, List, [], ◌∷◌, ◌++◌, length, take, drop, replicate}
use Rattle.hl_bytes.specs.Buffers.{block_of}
use Rattle.hl_media.specs.History.{Image, MachineState, PendingWrite, area, overwritten}
use Rattle.hl_mem.specs.declared.tear.Tear.{Tear}
use Rattle.hl_mem.specs.declared.tear.Tear.TheVariants.{Old, New, Prefix, Filled}

-- what is left of a write of the bytes over others: none of it, all of it, its first bytes, or one byte everywhere
abbrev pub torn_bytes : Tear → List ℕ → List ℕ → List ℕ
torn_bytes Old bytes before = before
torn_bytes New bytes before = bytes
torn_bytes (Prefix count) bytes before = take count bytes ++ drop count before
torn_bytes (Filled byte) bytes before = replicate (length bytes) byte

-- the image with a torn write of the bytes from a block on
abbrev pub torn_write : Tear → ℕ → List ℕ → Image → Image
torn_write tear at bytes image = overwritten image at (length bytes / 4096) (torn_bytes tear bytes (area image at (length bytes / 4096)))

-- each pending write is torn over what the earlier ones leave, and the first over what was there before it
abbrev pub torn_writes : Tear → List PendingWrite → Image → Image
torn_writes tear [] content = content
torn_writes tear (w ∷ pending) content = torn_write tear w.at w.bytes (torn_writes tear pending w.before)

-- the image that a stop at such a moment leaves
abbrev pub torn : Tear → MachineState → Image
torn tear s = torn_writes tear s.pending s.content

-- these bytes are that image
abbrev pub IsTorn : Tear → MachineState → List ℕ → Type 0
IsTorn tear s bytes = (k : ℕ) → block_of bytes k ≡ torn tear s k

-- bytes after a torn write of others from a block on
abbrev pub TearsWrite : Tear → ℕ → List ℕ → List ℕ → List ℕ → Type 0
TearsWrite tear at bytes before now = (k : ℕ) → block_of now k ≡ torn_write tear at bytes (block_of before) k
