-- Whether a block is the spelling of an inode.
use Rattle.std.proofs.Common.{◌≡◌, inl, inr, ℕ, ◌+◌, ◌/◌, ◌<◌, ◌≤◌, ◌^◌, List, length, refl, sym, subst}
use Rattle.hl_inode.specs.declared.inode.Kind.{Kind}
use Rattle.hl_inode.specs.declared.inode.Kind.TheVariants.{File, Dir}
use Rattle.hl_inode.specs.declared.inode.Inode.{Inode}
use Rattle.hl_inode.specs.Inodes.{AreNothing, HasRanges, IsInode, inode_bytes, inode_in, Spells}
use Rattle.hl_inode.proofs.InodeLemmas.{only}
use Rattle.std.specs.Prelude.{slice_index}
use Rattle.hl_nodes.proofs.Deciding.{Decided, both, one_of, where_so, alike, is_equal, is_below, is_at_most, same_bytes, each_of, all_below}

pub is_file : (kind : Kind) → Decided (kind ≡ File)
is_file File = inl refl
is_file Dir = inr (λ e. (cc))

pub is_dir : (kind : Kind) → Decided (kind ≡ Dir)
is_dir Dir = inl refl
is_dir File = inr (λ e. (cc))

are_nothing : (from : ℕ) (pointers : List ℕ) → Decided (AreNothing from pointers)
are_nothing from pointers = all_below (λ i. from ≤ i → slice_index pointers i ≡ 4294967295) (length pointers) (λ i lt. where_so (is_at_most from i) (λ le. is_equal (slice_index pointers i) 4294967295))

has_ranges : (v : Inode) → Decided (HasRanges v)
has_ranges v = alike
    (λ (number, (size, (used, (direct, single)))). record { number = number; size = size; used = used; direct = direct; single = single })
    (λ r. (r.number, (r.size, (r.used, (r.direct, r.single)))))
    (both (is_at_most 1 v.number) (both (is_at_most v.size 4243456) (both (one_of (is_file v.kind) (is_equal v.used 0))
    (both (are_nothing ((v.size + 4095) / 4096) v.direct) (one_of (is_below 49152 v.size) (is_equal v.single 4294967295))))))

is_inode : (v : Inode) → Decided (IsInode v)
is_inode v = alike
    (λ (ranges, (number, (used, (count, (direct, single))))). record { ranges = ranges; room = record { number = number; used = used; count = count; direct = direct; single = single } })
    (λ r. (r.ranges, (r.room.number, (r.room.used, (r.room.count, (r.room.direct, r.room.single))))))
    (both (has_ranges v) (both (is_below v.number (2 ^ 32)) (both (is_below v.used (2 ^ 64)) (both (is_equal (length v.direct) 12)
    (both (each_of (λ n. n < 2 ^ 32) (λ n. is_below n (2 ^ 32)) v.direct) (is_below v.single (2 ^ 32)))))))

spells : (block : List ℕ) (v : Inode) → Decided (Spells block v)
spells block v = alike (λ (value, bytes). record { value = value; bytes = bytes }) (λ s. (s.value, s.bytes)) (both (is_inode v) (same_bytes block (inode_bytes v)))

-- a block spells an inode, or none
pub inode_or_not : (block : List ℕ) → Decided ((v : Inode) × Spells block v)
inode_or_not block = alike (λ s. (inode_in block, s)) (λ x. subst (Spells block) (sym (only block (inode_in block) refl x.0 x.1)) x.1) (spells block (inode_in block))
