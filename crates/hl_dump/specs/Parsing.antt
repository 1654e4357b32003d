-- What is read from a place of the bytes of a dump.
use Rattle.std.specs.Prelude.{◌≡◌, ℕ, ◌^◌, ◌<◌, ◌≤◌, List, ◌∷◌, ◌++◌, length, drop, Option, Some, None}
use Rattle.hl_bytes.specs.Fields.{le32}
use Rattle.hl_tree.specs.Names.{path_length}
use Rattle.hl_dump.specs.Dumps.{path_bytes, entry_bytes}
use Rattle.hl_dump.specs.Reading.{Row, IsPath, IsEntry}
use Rattle.hl_dump.specs.declared.parse.Head.{Head}
use Rattle.hl_dump.specs.declared.parse.Content.{Content}
use Rattle.hl_dump.specs.declared.parse.Entry.{Entry}

-- from one place to another stands this part
pub record Stands (bytes : List ℕ) (at end : ℕ) (part : List ℕ) : Type 0 where
  pub order : at < end
  pub within : end ≤ length bytes
  pub is : drop at bytes ≡ part ++ drop end bytes

-- the kind, and the path with its length
abbrev pub head_bytes : ℕ → List (List ℕ) → List ℕ
head_bytes kind path = (kind ∷ le32 (path_length path)) ++ path_bytes path

-- the bytes of a file, with their length
abbrev pub content_bytes : List ℕ → List ℕ
content_bytes bytes = le32 (length bytes) ++ bytes

-- the kind and the path that stand there, or none
abbrev pub ReadsHead : List ℕ → ℕ → Option Head → Type 0
ReadsHead bytes at (Some head) = IsPath head.path × (path_length head.path < 2 ^ 32) × Stands bytes at head.end (head_bytes head.kind head.path)
ReadsHead bytes at None = (kind : ℕ) (path : List (List ℕ)) (rest : List ℕ) → IsPath path → path_length path < 2 ^ 32 → drop at bytes ≡ head_bytes kind path ++ rest → ⊥

-- the content that stands there, or none
abbrev pub ReadsContent : List ℕ → ℕ → Option Content → Type 0
ReadsContent bytes at (Some content) = (length content.bytes < 2 ^ 32) × Stands bytes at content.end (content_bytes content.bytes)
ReadsContent bytes at None = (content rest : List ℕ) → length content < 2 ^ 32 → drop at bytes ≡ content_bytes content ++ rest → ⊥

-- the entry that stands there, or none
abbrev pub ReadsEntry : List ℕ → ℕ → Option Entry → Type 0
ReadsEntry bytes at (Some entry) = IsEntry (entry.path, entry.node) × Stands bytes at entry.end (entry_bytes (entry.path, entry.node))
ReadsEntry bytes at None = (e : Row) (rest : List ℕ) → IsEntry e → drop at bytes ≡ entry_bytes e ++ rest → ⊥
