-- What is counted where nothing is drafted.
use Rattle.std.proofs.Common.{◌≡◌, ◌⊎◌, inr, ℕ, ◌-◌, ◌<◌, ◌≤◌, true, List, [], length, replicate, is_some, refl, sym, ◌∙◌, ap, subst, arith}
use Rattle.std.specs.Prelude.{slice_index}
use Rattle.std.specs.List.{fold}
use Rattle.std.specs.FinMap.{get}
use Rattle.std.proofs.lemmas.List.{get_or-replicate, get_or_default, length-replicate}
use Rattle.hl_media.specs.History.{Image}
use Rattle.hl_addr.specs.Layout.{IsWithinLimits, Layout}
use Rattle.hl_paths.specs.Nodes.{Nodes, flat_charge}
use Rattle.hl_nodes.specs.Live.{IsLive, IsLiveAt, LiveBlock}
use Rattle.hl_nodes.specs.Contents.{Contents}
use Rattle.hl_log.proofs.CutPlaces.{once_at}
use Rattle.hl_nodes.proofs.Frame.{limits_of}
use Rattle.hl_nodes.proofs.UnitLaws.{live_in_log}
use Rattle.hl_overlaid.specs.NodesNow.{Overlaid}
use Rattle.hl_overlaid.proofs.NowLemmas.{now_none}
use Rattle.hl_tally.specs.Tally.{HasCount, IsTally, StaysLive, Tally}
use Rattle.hl_tally.specs.Counting.{CountsLive, added, is_logged}
use Rattle.hl_tally.proofs.Growing.{all_in, all_in-length}
use Rattle.hl_tally.proofs.Lives.{IsCounted, counted_live, none_stays}
use Rattle.hl_tally.proofs.Segments.{AreCounted, CountsIn, in_logged, recounted}
use Rattle.hl_tally.proofs.UnitLaws.{lies_once, most_segment, some_in_segment}

-- before any block is counted
abbrev NoBlock : LiveBlock → ℕ → Type 0
NoBlock x a = ⊥

spot_below : (n m segment : ℕ) → m ≡ n → 1 ≤ segment → segment ≤ m → segment - 1 < n
spot_below n m segment same low high = omega arith

none_counted : (k n : ℕ) → AreCounted k NoBlock (replicate n 0)
none_counted k n segment low high = subst (λ (m : ℕ). HasCount (CountsIn k NoBlock segment) m) (sym (get_or-replicate n (segment - 1) 0 0 (spot_below n (length (replicate n 0)) segment (length-replicate n 0) low high))) (record {
  blocks = [];
  lists = record { each = λ x. (λ i. absurd (let lt = i.1 in omega arith), λ c. absurd c.is); once = λ i j d lt more. absurd (omega arith) };
  count_is = refl;
})

module _ (g : Layout) (image : Image) (c : Contents) (o : Overlaid) (n : Tally) (addresses : List ℕ) (counts : CountsLive g image c o addresses n) where
  abbrev L : LiveBlock → ℕ → Type 0
  L = IsLiveAt g image c.rec c.tables

  limits : IsWithinLimits g
  limits = limits_of g image c.rec counts.sound.has.newest counts.sound.has.volumes

  live_there : (j : ℕ) → j < length addresses → IsLive g image c.rec c.tables (slice_index addresses j)
  live_there j lt = (counts.each (slice_index addresses j)).0 (j, lt, get_or_default addresses j (slice_index addresses j) 0 lt)

  from : (x : LiveBlock) (a : ℕ) → L x a → NoBlock x a ⊎ ((j : ℕ) × (j < length addresses) × (slice_index addresses j ≡ a) × ((e : ℕ) → NoBlock x e → ⊥))
  from x a lies = (let at = (counts.each a).1 (record { block = x; lies = lies }) in inr (at.0, at.1, get_or_default addresses at.0 0 a at.1 ∙ at.2, λ e s. s))

  placed : (j : ℕ) → j < length addresses → (x : LiveBlock) × L x (slice_index addresses j) × ((e : ℕ) → NoBlock x e → ⊥)
  placed j lt = (let live = live_there j lt in (live.block, live.lies, λ e s. s))

  abbrev zeros : List ℕ
  zeros = replicate g.log 0

  logged : (j : ℕ) → j < length addresses → is_logged g.k (length zeros) (slice_index addresses j) ≡ true
  logged j lt = ap (λ (m : ℕ). is_logged g.k m (slice_index addresses j)) (length-replicate g.log 0) ∙ in_logged g (slice_index addresses j) (live_in_log g image c counts.sound.has (slice_index addresses j) (live_there j lt))

  size : length (fold (added g.k) zeros addresses) ≡ g.log
  size = all_in-length g.k (some_in_segment g.k limits.segment_size) (most_segment g.k limits.segment_size) NoBlock L addresses counts.sound.sound.one_block (lies_once g image c.rec c.tables) (λ x a s. absurd s) from placed (once_at addresses counts.once) zeros logged (none_counted g.k g.log)
      ∙ length-replicate g.log 0

  all_counted : AreCounted g.k L (fold (added g.k) zeros addresses)
  all_counted = all_in g.k (some_in_segment g.k limits.segment_size) (most_segment g.k limits.segment_size) NoBlock L addresses counts.sound.sound.one_block (lies_once g image c.rec c.tables) (λ x a s. absurd s) from placed (once_at addresses counts.once) zeros logged (none_counted g.k g.log)

  pub mounted_tally : IsTally g o image c n
  mounted_tally = record {
    numbers = counts.numbers;
    segments = ap length counts.live ∙ size;
    in_use = λ ino low high. counts.in_use ino low high ∙ ap (λ (m : Nodes). is_some (get m ino)) (sym (now_none o c.nodes counts.none));
    charge = counts.charge ∙ ap flat_charge (sym (now_none o c.nodes counts.none));
    live = subst (λ (l : List ℕ). (segment : ℕ) → 1 ≤ segment → segment ≤ g.log → HasCount (StaysLive g o.overlay image c segment) (slice_index l (segment - 1))) (sym counts.live)
        (counted_live g o.overlay image c (fold (added g.k) zeros addresses) size
        (recounted g.k L (IsCounted g image c o.overlay) (fold (added g.k) zeros addresses) (λ x a lies. record { lies = lies; stays = none_stays o counts.none x a }) (λ x a s. s.lies) all_counted));
  }
