-- Whether the blocks of an inode are entries.
use Rattle.std.proofs.Common.{◌≡◌, inl, inr, ℕ, ◌+◌, ◌*◌, ◌/◌, ◌%◌, ◌<◌, List, length, get_or, drop, map, sym, ap, ◌∙◌, subst, arith}
use Rattle.std.specs.List.{range_with_len}
use Rattle.std.proofs.lemmas.List.{ext_get_or, get_or-drop}
use Rattle.std.proofs.lemmas.List.FromFn.{length-map-range_with_len, get_or-map-range_with_len}
use Rattle.hl_media.specs.History.{Image}
use Rattle.hl_addr.specs.Layout.{Layout}
use Rattle.hl_tree_laws.proofs.Contents.{get_or-resized}
use Rattle.hl_dir.specs.declared.entry.Entry.{Entry}
use Rattle.hl_dir.specs.Dirs.{HaveRoom, dir_bytes}
use Rattle.hl_dir.proofs.DirLemmas.{spelled_once}
use Rattle.hl_inode.specs.declared.inode.Inode.{Inode}
use Rattle.hl_placed.specs.Blocks.{blocks_of, padded_block}
use Rattle.hl_nodes.specs.Pointers.{pointer_of}
use Rattle.hl_image.specs.Places.{InLog}
use Rattle.hl_nodes.specs.Directories.{HoldsEntries}
use Rattle.hl_nodes.proofs.Deciding.{Decided, both, alike, is_equal, same_bytes, all_below}
use Rattle.hl_nodes.proofs.EntriesDecided.{are_sorted, spelled_or_not}
use Rattle.hl_nodes.proofs.PlaceDecided.{in_log}

module _ (g : Layout) (image : Image) (v : Inode) where
  -- the bytes that the inode's pointers name
  bytes_in : List ℕ
  bytes_in = map (λ j. get_or (image (pointer_of image v (j / 4096))) (j % 4096) 0) (range_with_len 0 v.size)

  within : (j : ℕ) → j < v.size → j / 4096 < blocks_of v.size
  unfolding blocks_of
  within j lt = omega arith

  held_bytes : (es : List Entry) → HoldsEntries g image v es → bytes_in ≡ dir_bytes es
  unfolding bytes_in padded_block
  held_bytes es held =
      let count : length bytes_in ≡ v.size = length-map-range_with_len (λ j. get_or (image (pointer_of image v (j / 4096))) (j % 4096) 0) 0 v.size in
      let size = held.size in
      ext_get_or 0 bytes_in (dir_bytes es) (count ∙ size)
      (λ j lt.
      let low : j < v.size = omega arith in
      let place : 4096 * (j / 4096) + j % 4096 ≡ j = omega arith in
      get_or-map-range_with_len (λ j. get_or (image (pointer_of image v (j / 4096))) (j % 4096) 0) 0 v.size j j 0 low (omega arith)
      ∙ ap (λ (l : List ℕ). get_or l (j % 4096) 0) (held.blocks (j / 4096) (within j low))
      ∙ get_or-resized (drop (4096 * (j / 4096)) (dir_bytes es)) 4096 (j % 4096) (omega arith)
      ∙ get_or-drop (4096 * (j / 4096)) (dir_bytes es) (j % 4096) 0 ∙ ap (λ (k : ℕ). get_or (dir_bytes es) k 0) place)

  -- an inode holds the entries of one list
  pub one_held : (es fs : List Entry) → HoldsEntries g image v es → HoldsEntries g image v fs → fs ≡ es
  one_held es fs a b = spelled_once es fs a.entries.0 b.entries.0 (sym (held_bytes es a) ∙ held_bytes fs b)

  held : (es : List Entry) → HaveRoom es → Decided (HoldsEntries g image v es)
  held es room = alike
      (λ (sorted, (size, (logged, blocks))). record { entries = (room, sorted); size = size; in_log = logged; blocks = blocks })
      (λ h. (h.entries.1, (h.size, (h.in_log, h.blocks))))
      (both (are_sorted es) (both (is_equal v.size (length (dir_bytes es)))
      (both (all_below (λ i. InLog g (pointer_of image v i)) (blocks_of v.size) (λ i lt. in_log g (pointer_of image v i)))
      (all_below (λ i. image (pointer_of image v i) ≡ padded_block (dir_bytes es) i) (blocks_of v.size) (λ i lt. same_bytes (image (pointer_of image v i)) (padded_block (dir_bytes es) i))))))

  -- the inode holds some entries, or none
  pub held_or_not : Decided ((es : List Entry) × HoldsEntries g image v es)
  held_or_not = by (spelled_or_not bytes_in)
    where
      by : Decided ((es : List Entry) × HaveRoom es × (bytes_in ≡ dir_bytes es)) → Decided ((es : List Entry) × HoldsEntries g image v es)
      by (inl (es, room, is)) = alike (λ h. (es, h)) (λ x. subst (HoldsEntries g image v) (spelled_once es x.0 room x.1.entries.0 (sym is ∙ held_bytes x.0 x.1)) x.1) (held es room)
      by (inr never) = inr (λ x. never (x.0, x.1.entries.0, held_bytes x.0 x.1))
