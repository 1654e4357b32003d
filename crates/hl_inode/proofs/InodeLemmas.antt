-- An inode that was spelled is read.
use Rattle.std.proofs.Common.{◌≡◌, ℕ, ◌*◌, ◌<◌, ◌^◌, List, ◌++◌, length, take, drop, refl, sym, subst, ap, ◌∙◌, arith, lit≤, lit<, length-append}
use Rattle.std.specs.List.{AllByRecursion}
use Rattle.std.proofs.lemmas.List.{take_at, drop_at}
use Rattle.hl_bytes.specs.Fields.{le32, le64}
use Rattle.hl_bytes.specs.Runs.{numbers32, u32s_at}
use Rattle.hl_bytes.proofs.Places.{IsBytes}
use Rattle.hl_bytes.proofs.PageLemmas.{take-plain_page}
use Rattle.hl_bytes.proofs.Decoding.{read32, read64}
use Rattle.hl_bytes.proofs.RunLemmas.{length-numbers32, read_run, u32_fits, u64_fits, u32s_fit, length-u32s}
use Rattle.hl_inode.specs.declared.inode.Kind.{Kind}
use Rattle.hl_inode.specs.declared.inode.Kind.TheVariants.{File, Dir}
use Rattle.hl_inode.specs.declared.inode.Inode.{Inode}
use Rattle.hl_inode.specs.Inodes.{IsInode, HasRoom, code_of, kind_of, inode_head, inode_fields, inode_bytes, inode_in, Spells}

-- a kind's number fits its field
code_fits : (k : Kind) → code_of k < 2 ^ 32
code_fits File = lit< tt
code_fits Dir = lit< tt

-- a kind is read from its number
kind_again : (k : Kind) → kind_of (code_of k) ≡ k
kind_again File = refl
kind_again Dir = refl

-- an inode that is spelled is read
again : (v : Inode) → IsInode v → inode_in (inode_bytes v) ≡ v
unfolding inode_in inode_bytes le32 le64
again v ok =
    let b = inode_bytes v in
    let size : length (inode_head v ++ numbers32 v.direct) ≡ 80 = omega (arith, length-append (inode_head v) (numbers32 v.direct), length-numbers32 v.direct, ok.room.count) in
    let whole : length (inode_fields v) ≡ 84 = omega (arith, length-append (inode_head v ++ numbers32 v.direct) (le32 v.single), size) in
    let front : take 84 b ≡ inode_fields v = take-plain_page b (inode_fields v) 84 refl whole in
    let run : take (4 * length v.direct) (drop 32 (inode_fields v)) ≡ numbers32 v.direct = take_at (numbers32 v.direct) (le32 v.single) (4 * length v.direct) (length-numbers32 v.direct) in
    let direct : u32s_at 32 12 b ≡ v.direct = subst (λ (n : ℕ). u32s_at 32 n b ≡ v.direct) ok.room.count (read_run b (inode_fields v) v.direct 32 84 front (omega (arith, ok.room.count)) ok.room.direct run) in
    let size_fits : v.size < 2 ^ 64 = omega (arith, ok.ranges.size) in
    let last : take 4 (drop 80 (inode_fields v)) ≡ le32 v.single = ap (take 4) (drop_at (inode_head v ++ numbers32 v.direct) (le32 v.single) 80 size) in
    rw (
      read32 b (inode_fields v) 8 84 v.number front (lit≤ tt) ok.room.number refl,
      read32 b (inode_fields v) 12 84 (code_of v.kind) front (lit≤ tt) (code_fits v.kind) refl,
      read64 b (inode_fields v) 16 84 v.size front (lit≤ tt) size_fits refl,
      read64 b (inode_fields v) 24 84 v.used front (lit≤ tt) ok.room.used refl,
      direct,
      read32 b (inode_fields v) 80 84 v.single front (lit≤ tt) ok.room.single last,
      kind_again v.kind,
    )
    refl

-- what a block spells is its candidate
pub only : (block : List ℕ) (x : Inode) → x ≡ inode_in block → (v : Inode) → Spells block v → x ≡ v
only block x is v p = is ∙ ap inode_in p.bytes ∙ again v p.value

-- what is read has room in its fields
pub has_room : (block : List ℕ) (x : Inode) → IsBytes block → x ≡ inode_in block → HasRoom x
unfolding inode_in
has_room block x fits is =
    record {
      number = subst (λ (n : ℕ). n < 2 ^ 32) (sym (ap (λ (v : Inode). v.number) is)) (u32_fits block 8 fits);
      used = subst (λ (n : ℕ). n < 2 ^ 64) (sym (ap (λ (v : Inode). v.used) is)) (u64_fits block 24 fits);
      count = ap (λ (v : Inode). length v.direct) is ∙ length-u32s 32 12 block;
      direct = subst (λ (l : List ℕ). AllByRecursion (λ n. n < 2 ^ 32) l) (sym (ap (λ (v : Inode). v.direct) is)) (u32s_fit block 32 12 fits);
      single = subst (λ (n : ℕ). n < 2 ^ 32) (sym (ap (λ (v : Inode). v.single) is)) (u32_fits block 80 fits);
    }
