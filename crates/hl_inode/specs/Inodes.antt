-- An inode as bytes.
use Rattle.std.specs.Prelude.{◌≡◌, ◌⊎◌, ℕ, ◌+◌, ◌/◌, ◌^◌, ◌<◌, ◌≤◌, ◌==◌, if◌then◌else◌, List, [], ◌∷◌, ◌++◌, length, slice_index}
use Rattle.std.specs.List.{AllByRecursion}
use Rattle.hl_bytes.specs.Fields.{le32, le64, u32_at, u64_at}
use Rattle.hl_bytes.specs.Runs.{numbers32, u32s_at}
use Rattle.hl_bytes.specs.Pages.{plain_page}
use Rattle.hl_inode.specs.declared.inode.Kind.{Kind}
use Rattle.hl_inode.specs.declared.inode.Kind.TheVariants.{File, Dir}
use Rattle.hl_inode.specs.declared.inode.Inode.{Inode}

-- the number that stands for a kind, and the kind that a number stands for if any
abbrev pub code_of : Kind → ℕ
code_of File = 1
code_of Dir = 2

abbrev pub kind_of : ℕ → Kind
kind_of code = if code == 2 then Dir else File

-- every pointer from a place on is Nothing
abbrev pub AreNothing : ℕ → List ℕ → Type 0
AreNothing from pointers = (i : ℕ) → i < length pointers → from ≤ i → slice_index pointers i ≡ 4294967295

-- what an inode's own bytes show: the ranges of its fields, and Nothing for each pointer past the size
pub record HasRanges (v : Inode) : Type 0 where
  pub number : 1 ≤ v.number
  pub size : v.size ≤ 4243456
  pub used : (v.kind ≡ File) ⊎ (v.used ≡ 0)
  pub direct : AreNothing ((v.size + 4095) / 4096) v.direct
  pub single : (49152 < v.size) ⊎ (v.single ≡ 4294967295)

-- twelve direct pointers, and numbers that have room in their fields
pub record HasRoom (v : Inode) : Type 0 where
  pub number : v.number < 2 ^ 32
  pub used : v.used < 2 ^ 64
  pub count : length v.direct ≡ 12
  pub direct : AllByRecursion (λ n. n < 2 ^ 32) v.direct
  pub single : v.single < 2 ^ 32

-- an inode that a block can spell
pub record IsInode (v : Inode) : Type 0 where
  pub ranges : HasRanges v
  pub room : HasRoom v

-- the bytes `HLINODE1`
abbrev pub magic : List ℕ
magic = 72 ∷ 76 ∷ 73 ∷ 78 ∷ 79 ∷ 68 ∷ 69 ∷ 49 ∷ []

-- the fields before the direct pointers, and all fields
abbrev pub inode_head : Inode → List ℕ
inode_head v = (((magic ++ le32 v.number) ++ le32 (code_of v.kind)) ++ le64 v.size) ++ le64 v.used

abbrev pub inode_fields : Inode → List ℕ
inode_fields v = (inode_head v ++ numbers32 v.direct) ++ le32 v.single

-- the one spelling of an inode
unfoldable pub inode_bytes : Inode → List ℕ
inode_bytes v = plain_page (inode_fields v)

-- a block is the spelling of an inode
pub record Spells (block : List ℕ) (v : Inode) : Type 0 where
  pub value : IsInode v
  pub bytes : block ≡ inode_bytes v

-- the candidate: what stands at the fields' places
unfoldable pub inode_in : List ℕ → Inode
inode_in bytes = record { number = u32_at 8 bytes; kind = kind_of (u32_at 12 bytes); size = u64_at 16 bytes; used = u64_at 24 bytes; direct = u32s_at 32 12 bytes; single = u32_at 80 bytes }
