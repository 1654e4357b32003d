use Rattle.std.proofs.Common.{◌≡◌, ◌++◌, ◌<◌, ◌^◌, ◌∙◌, ℕ, List, length, take, drop, All, sym, ap, subst}
use Rattle.hl_addr.specs.Layout.{IsInodeCount}
use Rattle.hl_tables.proofs.TablesRead.{items_written}
use Rattle.hl_tables.proofs.tables.Tables.read_inode_block.Goals as goal

pub invariant_of-self : goal.invariant_of-self
invariant_of-self c =
    let ns : List ℕ = c.read_numbers.new.numbers in
    let size : length ns ≡ c.self.inside.inodes.len = c.read_numbers.auto.numbers ∙ c.deref_mut.ensures.len in
    let count : length ns ≡ length c.self.inside.inodes.items = c.read_numbers.auto.numbers ∙ ap length c.deref_mut.ensures.value in
    let same : take c.self.inside.inodes.len (ns ++ drop (length ns) c.self.inside.inodes.items) ≡ ns = items_written ns c.self.inside.inodes.items c.self.inside.inodes.len size in
    record {
      segment_size = c.self.invariant.segment_size;
      inode_count = subst (λ (l : List ℕ). IsInodeCount (length l)) (sym same) (subst IsInodeCount (sym count) c.self.invariant.inode_count);
      log_count = c.self.invariant.log_count;
      addresses = subst (λ (l : List ℕ). All (λ number. number < 2 ^ 32) l) (sym same) c.read_numbers.ensures.fit;
    }
