-- The entries that the blocks of a directory are.
use Rattle.std.proofs.Common.{◌≡◌, ℕ, ◌+◌, ◌-◌, ◌*◌, ◌/◌, ◌%◌, ◌<◌, ◌≤◌, List, ◌++◌, length, get_or, take, sym, ◌∙◌, ap, subst, arith, length-append}
use Rattle.std.proofs.lemmas.Grind.{same_number_lists}
use Rattle.std.proofs.lemmas.List.{length-take-le, take_all, take_at}
use Rattle.hl_media.specs.History.{Image}
use Rattle.hl_addr.specs.Layout.{Layout}
use Rattle.hl_bytes.specs.Fields.{zeros}
use Rattle.hl_bytes.proofs.PageLemmas.{length-zeros}
use Rattle.hl_dir.specs.declared.entry.Entry.{Entry}
use Rattle.hl_dir.specs.Dirs.{dir_bytes}
use Rattle.hl_inode.specs.declared.inode.Inode.{Inode}
use Rattle.hl_image.specs.Places.{InLog}
use Rattle.hl_placed.specs.Blocks.{blocks_of, padded_block}
use Rattle.hl_placed.proofs.Blocks.{get_or-padded_block}
use Rattle.hl_nodes.specs.Pointers.{pointer_of}
use Rattle.hl_nodes.specs.Directories.{HoldsEntries}
use Rattle.hl_hierarchy.specs.Bytes.{AreBlocks, AreInLog, AreOf, HasOutside, SpellsTo}
use Rattle.hl_hierarchy.proofs.BlockBytes.{cut_block, zeros_behind}

-- a size fits into its blocks
pub size_fits : (size count : ℕ) → count ≡ blocks_of size → size ≤ 4096 * count
unfolding blocks_of
size_fits size count is = omega arith

module _ (g : Layout) (image : Image) (v : Inode) (pointers : List ℕ) (of : AreOf image v pointers) where
  -- a directory that holds entries has a pointer for each block, each in the log
  pub none_outside : HasOutside g pointers → (es : List Entry) → HoldsEntries g image v es → ⊥
  none_outside out es held =
      let count = of.count in
      let low = out.low in
      let lt : out.index < blocks_of v.size = omega arith in
      out.outside (subst (InLog g) (sym (of.are out.index lt)) (held.in_log out.index lt))

  module _ (bytes : List ℕ) (are : AreBlocks image pointers bytes) where
    fits : v.size ≤ length bytes
    fits = let f = size_fits v.size (length pointers) of.count in let s = are.size in omega arith

    -- block i of the inode is block i of the bytes
    own_block : (i : ℕ) → i < blocks_of v.size → image (pointer_of image v i) ≡ padded_block bytes i
    own_block i lt =
        let count = of.count in
        let low : i < length pointers = omega arith in
        ap image (sym (of.are i lt)) ∙ are.blocks i low

    -- WHAT THE BYTES SPELL IS HELD
    pub held : AreInLog g pointers → (es : List Entry) → SpellsTo v.size bytes es → HoldsEntries g image v es
    held logged es spells =
        let count = of.count in
        let long = length-take-le v.size bytes fits in record {
          entries = spells.spelled.value;
          size = sym long ∙ ap length spells.spelled.spelled;
          in_log = λ i lt. (let low : i < length pointers = omega arith in subst (InLog g) (of.are i lt) (logged.in_log i low));
          blocks = λ i lt. own_block i lt ∙ cut_block bytes (take v.size bytes) (length bytes - v.size) spells.rest i ∙ ap (λ (l : List ℕ). padded_block l i) spells.spelled.spelled;
        }

    module _ (es : List Entry) (has : HoldsEntries g image v es) where
      -- each byte is that of the entries
      same_byte : (j : ℕ) → j < length bytes → get_or bytes j 0 ≡ get_or (dir_bytes es) j 0
      same_byte j lt =
          let count = of.count in
          let size = are.size in
          let low : j / 4096 < blocks_of v.size = omega arith in
          let few : j % 4096 < 4096 = omega arith in
          let place : 4096 * (j / 4096) + j % 4096 ≡ j = omega arith in
          ap (λ (n : ℕ). get_or bytes n 0) (sym place)
          ∙ sym (get_or-padded_block bytes (j / 4096) (j % 4096) few)
          ∙ ap (λ (l : List ℕ). get_or l (j % 4096) 0) (sym (own_block (j / 4096) low) ∙ has.blocks (j / 4096) low)
          ∙ get_or-padded_block (dir_bytes es) (j / 4096) (j % 4096) few
          ∙ ap (λ (n : ℕ). get_or (dir_bytes es) n 0) place

      then_zeros : bytes ≡ dir_bytes es ++ zeros (length bytes - v.size)
      then_zeros =
          let size = has.size in
          let room = fits in
          let both = length-append (dir_bytes es) (zeros (length bytes - v.size)) in
          let rest = length-zeros (length bytes - v.size) in
          let long : length bytes ≡ length (dir_bytes es ++ zeros (length bytes - v.size)) = omega arith in
          same_number_lists bytes (dir_bytes es ++ zeros (length bytes - v.size)) long (λ j lt. same_byte j lt ∙ sym (zeros_behind (dir_bytes es) (length bytes - v.size) j))

      -- WHAT IS HELD THE BYTES SPELL
      pub spells : SpellsTo v.size bytes es
      spells =
          let front : take v.size bytes ≡ dir_bytes es = ap (take v.size) then_zeros ∙ take_at (dir_bytes es) (zeros (length bytes - v.size)) v.size (sym has.size) in record {
            spelled = record { value = has.entries; spelled = front };
            rest = take_all (length bytes) bytes (omega arith) ∙ then_zeros ∙ ap (λ (l : List ℕ). l ++ zeros (length bytes - v.size)) (sym front);
          }
