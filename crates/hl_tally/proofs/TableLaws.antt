-- THE CHECKPOINT: what is counted behind it.
use Rattle.std.proofs.Common.{◌≡◌, ◌≢◌, ◌⊎◌, true, inl, inr, ⊎_elim, ℕ, zero, suc, ◌+◌, ◌<◌, ◌≤◌, List, length, take, refl, sym, ◌∙◌, ap, subst, arith}
use Rattle.std.specs.Prelude.{slice_index}
use Rattle.std.specs.List.{fold}
use Rattle.std.proofs.Math.Seq.{take-length}
use Rattle.std.proofs.lemmas.Bool.{cases_lt}
use Rattle.std.proofs.lemmas.List.Sums.{fold_more}
use Rattle.hl_media.specs.History.{Image}
use Rattle.hl_addr.specs.Layout.{IsWithinLimits, Layout}
use Rattle.hl_super.specs.declared.record.Record.{Record}
use Rattle.hl_tables.specs.Values.{TableValues}
use Rattle.hl_nodes.specs.Live.{IsLive, IsNodeBlock, LiveBlock, NodeBlock}
use Rattle.hl_nodes.specs.Live.LiveBlock.{OfNode, Table}
use Rattle.hl_nodes.specs.Checkpoints.{after_checkpoint}
use Rattle.hl_nodes.specs.Contents.{Contents, HasContents}
use Rattle.hl_nodes.specs.Sound.{HasSound}
use Rattle.hl_nodes.proofs.Frame.{limits_of}
use Rattle.hl_overlaid.specs.NodesNow.{Overlaid}
use Rattle.hl_tally.specs.Tally.{IsTally, Tally}
use Rattle.hl_tally.specs.Counting.{added, is_logged, removed, tables_counted}
use Rattle.hl_tally.proofs.Growing.{all_in, all_in-length}
use Rattle.hl_tally.proofs.Lives.{IsCounted, counted_live, counted_of}
use Rattle.hl_tally.proofs.SameLive.{node_back, node_forth}
use Rattle.hl_tally.proofs.Segments.{AreCounted, Without, in_logged, length-removed, let_go, recounted}
use Rattle.hl_tally.proofs.UnitLaws.{lies_once, most_segment, some_in_segment, tables_shift}

table_once : (i j : ℕ) → Table i ≡ Table j → i ≡ j
table_once i j e = cc

module _ (g : Layout) (before image : Image) (c : Contents) (new : Record) (t : TableValues) (o : Overlaid) (has : HasContents g before c) (inodes : t.inodes ≡ c.tables.inodes) (kept : (address : ℕ) → IsLive g before c.rec c.tables address → image address ≡ before address)
    (behind : HasSound g image (after_checkpoint c new t)) where
  limits : IsWithinLimits g
  limits = limits_of g before c.rec has.newest has.volumes

  abbrev Was : LiveBlock → ℕ → Type 0
  Was = IsCounted g before c o.overlay

  abbrev Now : LiveBlock → ℕ → Type 0
  Now = IsCounted g image (after_checkpoint c new t) o.overlay

  -- the blocks of nodes lie where they lay
  back : (ino : ℕ) (b : NodeBlock) (a : ℕ) → IsNodeBlock g image c.tables ino b a → IsNodeBlock g before c.tables ino b a
  back = node_back g before image c has kept

  forth : (ino : ℕ) (b : NodeBlock) (a : ℕ) → IsNodeBlock g before c.tables ino b a → IsNodeBlock g image c.tables ino b a
  forth = node_forth g before image c has kept

  same_entry : (ino : ℕ) → slice_index t.inodes ino ≡ slice_index c.tables.inodes ino
  same_entry ino = ap (λ (l : List ℕ). slice_index l ino) inodes

  -- what is left without the first table blocks
  pub record IsLeft (m : ℕ) (x : LiveBlock) (a : ℕ) : Type 0 where
    pub was : Was x a
    pub others : (j : ℕ) → j < m → x ≢ Table j

  table_gone : (m : ℕ) → length c.rec.tables ≤ m → (j a : ℕ) → IsLeft m (Table j) a → ⊥
  table_gone m all j a left = (let lt = left.was.lies.0 in left.others j (omega arith) refl)

  let_table : (m : ℕ) → m < length c.rec.tables → (live : List ℕ) → length live ≡ g.log → AreCounted g.k (IsLeft m) live → AreCounted g.k (IsLeft (m + 1)) (removed g.k live (slice_index c.rec.tables m))
  let_table m lt live size counted = recounted g.k (Without (Table m) (IsLeft m)) (IsLeft (m + 1)) (removed g.k live (slice_index c.rec.tables m))
      (λ x a w. record { was = w.0.was; others = λ j low e. ⊎_elim (λ less. w.0.others j less e) (λ more. w.1 (e ∙ ap Table (let at : j ≡ m = omega arith in at))) (cases_lt j m) })
      (λ x a left. (record { was = left.was; others = λ j low. left.others j (omega arith) }, left.others m (omega arith)))
      (let_go g.k (IsLeft m) (Table m) live (slice_index c.rec.tables m) (λ a left. sym left.was.lies.1) counted
      (λ logged. record { was = record { lies = (lt, refl); stays = tt }; others = λ j low e. (let same = table_once m j e in omega arith) }))

  removed_to : (live : List ℕ) → length live ≡ g.log → AreCounted g.k Was live → (m : ℕ) → m ≤ length c.rec.tables
      → AreCounted g.k (IsLeft m) (fold (removed g.k) live (take m c.rec.tables)) × (length (fold (removed g.k) live (take m c.rec.tables)) ≡ g.log)
  removed_to live size counted zero le = (recounted g.k Was (IsLeft 0) live (λ x a s. record { was = s; others = λ j low. absurd (omega arith) }) (λ x a left. left.was) counted, size)
  removed_to live size counted (suc m) le =
      let done = removed_to live size counted m (omega arith) in
      let lt : m < length c.rec.tables = omega arith in
      let next : suc m ≡ m + 1 = omega arith in
      let here = fold (removed g.k) live (take m c.rec.tables) in
      let step : fold (removed g.k) live (take (suc m) c.rec.tables) ≡ removed g.k here (slice_index c.rec.tables m) = ap (λ (n : ℕ). fold (removed g.k) live (take n c.rec.tables)) next ∙ fold_more (removed g.k) live c.rec.tables m 0 lt in (
        subst (λ (l : List ℕ). AreCounted g.k (IsLeft (suc m)) l) (sym step) (subst (λ (n : ℕ). AreCounted g.k (IsLeft n) (removed g.k here (slice_index c.rec.tables m))) (sym next) (let_table m lt here done.1 done.0)),
        ap (λ (l : List ℕ). length l) step ∙ length-removed g.k here (slice_index c.rec.tables m) ∙ done.1,
      )

  abbrev Left : LiveBlock → ℕ → Type 0
  Left = IsLeft (length c.rec.tables)

  all_removed : (live : List ℕ) → length live ≡ g.log → AreCounted g.k Was live → AreCounted g.k Left (fold (removed g.k) live c.rec.tables) × (length (fold (removed g.k) live c.rec.tables) ≡ g.log)
  all_removed live size counted = (
      let done = removed_to live size counted (length c.rec.tables) (omega arith) in (
        subst (λ (l : List ℕ). AreCounted g.k Left (fold (removed g.k) live l)) (take-length c.rec.tables) done.0,
        ap (λ (l : List ℕ). length (fold (removed g.k) live l)) (sym (take-length c.rec.tables)) ∙ done.1,
      ))

  -- what is left lives behind the checkpoint, with the new table blocks
  stay : (x : LiveBlock) (a : ℕ) → Left x a → Now x a
  stay (Table j) a left = absurd (table_gone (length c.rec.tables) (omega arith) j a left)
  stay (OfNode ino b) a left = record { lies = tables_shift g image c.tables t ino b a (sym (same_entry ino)) (forth ino b a left.was.lies); stays = left.was.stays }

  abbrev CameFrom : LiveBlock → ℕ → Type 0
  CameFrom x a = Left x a ⊎ ((j : ℕ) × (j < length new.tables) × (slice_index new.tables j ≡ a) × ((e : ℕ) → Left x e → ⊥))

  from : (x : LiveBlock) (a : ℕ) → Now x a → CameFrom x a
  from (Table j) a now = inr (j, now.lies.0, now.lies.1, λ e left. table_gone (length c.rec.tables) (omega arith) j e left)
  from (OfNode ino b) a now = inl (record {
    was = record { lies = back ino b a (tables_shift g image t c.tables ino b a (same_entry ino) now.lies); stays = now.stays };
    others = λ j low e. (cc);
  })

  placed : (j : ℕ) → j < length new.tables → (x : LiveBlock) × Now x (slice_index new.tables j) × ((e : ℕ) → Left x e → ⊥)
  placed j lt = (Table j, record { lies = (lt, refl); stays = tt }, λ e left. table_gone (length c.rec.tables) (omega arith) j e left)

  module _ (n : Tally) (tally : IsTally g o before c n) where
    abbrev cleared : List ℕ
    cleared = fold (removed g.k) n.live c.rec.tables

    gone : AreCounted g.k Left cleared × (length cleared ≡ g.log)
    gone = all_removed n.live tally.segments (counted_of g o before c n tally)

    logged : (j : ℕ) → j < length new.tables → is_logged g.k (length cleared) (slice_index new.tables j) ≡ true
    logged j lt = ap (λ (m : ℕ). is_logged g.k m (slice_index new.tables j)) gone.1 ∙ in_logged g (slice_index new.tables j) (behind.has.tables.spelled.in_log j lt)

    one : (x y : LiveBlock) (a : ℕ) → Now x a → Now y a → x ≡ y
    one x y a p q = behind.sound.one_block x y a p.lies q.lies

    only : (x : LiveBlock) (a b : ℕ) → Now x a → Now x b → a ≡ b
    only x a b p q = lies_once g image new t x a b p.lies q.lies

    size : length (fold (added g.k) cleared new.tables) ≡ g.log
    size = all_in-length g.k (some_in_segment g.k limits.segment_size) (most_segment g.k limits.segment_size) Left Now new.tables one only stay from placed behind.sound.tables_once cleared logged gone.0 ∙ gone.1

    -- THE CHECKPOINT: its table blocks are counted, and those before aren't
    pub table_tally : IsTally g o image (after_checkpoint c new t) (tables_counted g c.rec.tables new.tables n)
    table_tally = record {
      numbers = tally.numbers;
      segments = size;
      in_use = tally.in_use;
      charge = tally.charge;
      live = counted_live g o.overlay image (after_checkpoint c new t) (fold (added g.k) cleared new.tables) size
          (all_in g.k (some_in_segment g.k limits.segment_size) (most_segment g.k limits.segment_size) Left Now new.tables one only stay from placed behind.sound.tables_once cleared logged gone.0);
    }
