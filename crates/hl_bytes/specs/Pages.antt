-- Blocks of fields: what the fields leave is zero.
use Rattle.std.specs.Prelude.{ℕ, ◌-◌, List, ◌++◌, length}
use Rattle.hl_bytes.specs.Fields.{zeros}
use Rattle.hl_bytes.specs.Sealing.{sealed, sealed_over}

-- fields, and zeros up to a size
unfoldable pub padded : ℕ → List ℕ → List ℕ
padded size fields = fields ++ zeros (size - length fields)

-- a block of fields without a digest
unfoldable pub plain_page : List ℕ → List ℕ
plain_page fields = padded 4096 fields

-- a block of fields that ends with its digest
unfoldable pub page : List ℕ → List ℕ
page fields = sealed (padded 4064 fields)

-- a block of fields that ends with the digest of itself and of the blocks behind it
unfoldable pub page_over : List ℕ → List ℕ → List ℕ
page_over fields behind = sealed_over (padded 4064 fields) behind
