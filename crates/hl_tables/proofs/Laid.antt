-- One record more of those that are laid over the tables.
use Rattle.std.proofs.Common.{◌≡◌, ℕ, zero, suc, ◌+◌, ◌<◌, List, [], ◌∷◌, take, get_or, length, ap, ◌∙◌, arith}
use Rattle.hl_bytes.specs.declared.records.BlockRecord.{BlockRecord}
use Rattle.hl_tables.specs.Values.{TableValues, SameShape}
use Rattle.hl_tables.specs.Laying.{block_laid, blocks_laid}

pub blocks_laid-more :
    (t : TableValues) (address : ℕ) (rs : List BlockRecord) (i : ℕ) (d : BlockRecord)
    → i < length rs → blocks_laid t address (take (i + 1) rs) ≡ block_laid (blocks_laid t address (take i rs)) (address + i) (get_or rs i d)
blocks_laid-more t address [] i d lt = absurd (omega arith)
blocks_laid-more t address (r ∷ rs) zero d lt = let e : address ≡ address + 0 = omega arith in ap (λ (a : ℕ). block_laid t a r) e
blocks_laid-more t address (r ∷ rs) (suc i) d lt =
    let k : suc i + 1 ≡ suc (i + 1) = omega arith in
    let e : address + 1 + i ≡ address + suc i = omega arith in
    let T = blocks_laid (block_laid t address r) (address + 1) (take i rs) in
    ap (λ (m : ℕ). blocks_laid t address (take m (r ∷ rs))) k
    ∙ blocks_laid-more (block_laid t address r) (address + 1) rs i d (omega arith)
    ∙ ap (λ (a : ℕ). block_laid T a (get_or rs i d)) e

-- tables of one site, over two steps
pub same_shape-then : (a b c : TableValues) → SameShape a b → SameShape b c → SameShape a c
same_shape-then a b c p q =
    record {
      segment_size = q.segment_size ∙ p.segment_size;
      inodes = q.inodes ∙ p.inodes;
      used = q.used ∙ p.used;
      volumes = q.volumes ∙ p.volumes;
      slots = q.slots ∙ p.slots;
      full = q.full ∙ p.full;
    }
