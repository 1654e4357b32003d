-- Summaries that may stand one where the other names.
use Rattle.std.proofs.Common.{◌≡◌, inl, inr, ℕ, zero, suc, ◌+◌, ◌<◌, ◌≤◌, List, [], ◌∷◌, ◌++◌, length, take, sym, ◌∙◌, subst, arith}
use Rattle.std.specs.Prelude.{All, sum}
use Rattle.std.proofs.lemmas.List.Elements.{All-nil, All-cons, All-weaker}
use Rattle.hl_addr.specs.Layout.{Layout, IsWithinLimits, table_blocks}
use Rattle.hl_bytes.specs.declared.records.BlockRecord.{BlockRecord}
use Rattle.hl_bytes.specs.declared.records.TableRecord.{TableRecord}
use Rattle.hl_summary.specs.declared.parts.Summary.{Summary}
use Rattle.hl_summary.specs.Ranges.{IsBlockOf, IsChangeOf}
use Rattle.hl_image.specs.declared.place.LogPlace.{LogPlace}
use Rattle.hl_image.specs.Places.{IsLogPlace}
use Rattle.hl_image.specs.Parts.{next_of}
use Rattle.hl_image.specs.Chain.{end_of, placed}
use Rattle.hl_image.proofs.ChainLemmas.{next_place}
use Rattle.hl_tables.specs.Values.{TableValues, SameShape, fresh}
use Rattle.hl_tables.specs.Laying.{HasInode, HasTarget}
use Rattle.hl_found.specs.Found.{MayBeLaid}
use Rattle.hl_found.proofs.TablesFound.{inodes_are, used_are, slots_are}
use Rattle.hl_recovery.specs.Chains.{AreSummaries}
use Rattle.hl_recovery.specs.Covering.{LiesInLog}

module _ (g : Layout) where
  pub summaries-append : (at : LogPlace) (ps qs : List Summary) → AreSummaries g at ps → AreSummaries g (end_of at ps) qs → AreSummaries g at (ps ++ qs)
  summaries-append at [] qs are more = more
  summaries-append at (p ∷ ps) qs are more = (are.0, summaries-append (next_of p) ps qs are.1 more)

  pub summaries-take : (at : LogPlace) (n : ℕ) (ps : List Summary) → AreSummaries g at ps → AreSummaries g at (take n ps)
  summaries-take at zero ps are = tt
  summaries-take at (suc n) [] are = tt
  summaries-take at (suc n) (p ∷ ps) are = (are.0, summaries-take (next_of p) n ps are.1)

  pub end_placed : (at : LogPlace) (ps : List Summary) → IsLogPlace g at → AreSummaries g at ps → IsLogPlace g (end_of at ps)
  end_placed at [] place are = place
  end_placed at (p ∷ ps) place are = end_placed (next_of p) ps (next_place g at p place are.0.ranges) are.1

  -- each part lies in its segment
  pub parts_lie : (at : LogPlace) (ps : List Summary) → IsLogPlace g at → AreSummaries g at ps → All (LiesInLog g) (placed at ps)
  parts_lie at [] place are = All-nil (LiesInLog g)
  parts_lie at (p ∷ ps) place are =
      let within = are.0.ranges.within in
      All-cons (LiesInLog g) (record { seg = at.seg; block = at.block; summary = p }) (placed (next_of p) ps)
      (record { low = place.low; high = place.high; room = omega arith })
      (parts_lie (next_of p) ps (next_place g at p place are.0.ranges) are.1)

  module _ (t : TableValues) (shape : SameShape (fresh g) t) (limits : IsWithinLimits g) where
    own_inode : (r : BlockRecord) → IsBlockOf g.inodes (table_blocks g) r → HasInode t r
    own_inode r (inl table) own = absurd (let e = sym own ∙ table.0 in let no : ⊥ = omega arith in no)
    own_inode r (inr is) own = subst (λ (n : ℕ). r.ino < n) (sym (inodes_are g limits t shape)) is.1.1

    own_target : (r : TableRecord) → IsChangeOf g.inodes (sum g.volumes) (length g.volumes) r → HasTarget t r
    own_target r is = record {
      inode = λ one. subst (λ (n : ℕ). r.a < n) (sym (inodes_are g limits t shape)) (by_inode one is);
      slot = λ low high. subst (λ (n : ℕ). r.a < n) (sym (slots_are g limits t shape)) (by_slot low high is);
      volume = λ five. subst (λ (l : List ℕ). r.a < length l) (sym shape.volumes) (by_volume five is);
    }
      where
        by_inode : r.kind ≡ 1 → IsChangeOf g.inodes (sum g.volumes) (length g.volumes) r → r.a < g.inodes
        by_inode one (inl a) = a.1.1
        by_inode one (inr (inl a)) = absurd (let k = a.0 in omega arith)
        by_inode one (inr (inr (inl a))) = absurd (let k = a.0 in omega arith)
        by_inode one (inr (inr (inr (inl a)))) = absurd (let k = a.0 in omega arith)
        by_inode one (inr (inr (inr (inr a)))) = absurd (let k = a.0 in omega arith)

        by_slot : 2 ≤ r.kind → r.kind ≤ 4 → IsChangeOf g.inodes (sum g.volumes) (length g.volumes) r → r.a < sum g.volumes
        by_slot low high (inl a) = absurd (let k = a.0 in omega arith)
        by_slot low high (inr (inl a)) = a.1
        by_slot low high (inr (inr (inl a))) = a.1
        by_slot low high (inr (inr (inr (inl a)))) = a.1
        by_slot low high (inr (inr (inr (inr a)))) = absurd (let k = a.0 in omega arith)

        by_volume : r.kind ≡ 5 → IsChangeOf g.inodes (sum g.volumes) (length g.volumes) r → r.a < length g.volumes
        by_volume five (inl a) = absurd (let k = a.0 in omega arith)
        by_volume five (inr (inl a)) = absurd (let k = a.0 in omega arith)
        by_volume five (inr (inr (inl a))) = absurd (let k = a.0 in omega arith)
        by_volume five (inr (inr (inr (inl a)))) = absurd (let k = a.0 in omega arith)
        by_volume five (inr (inr (inr (inr a)))) = a.1

    -- the parts may be laid over tables of the site
    pub parts_may : (at : LogPlace) (ps : List Summary) → IsLogPlace g at → AreSummaries g at ps → All (MayBeLaid t) (placed at ps)
    parts_may at [] place are = All-nil (MayBeLaid t)
    parts_may at (p ∷ ps) place are =
        let ranges = are.0.ranges in
        let within = ranges.within in
        All-cons (MayBeLaid t) (record { seg = at.seg; block = at.block; summary = p }) (placed (next_of p) ps)
        (record {
          seg = subst (λ (n : ℕ). at.seg ≤ n) (sym (used_are g limits t shape)) place.high;
          room = subst (λ (n : ℕ). at.block + 1 + length p.blocks ≤ n) (sym shape.segment_size) (omega arith);
          inodes = All-weaker (IsBlockOf g.inodes (table_blocks g)) (HasInode t) own_inode p.blocks ranges.blocks;
          targets = All-weaker (IsChangeOf g.inodes (sum g.volumes) (length g.volumes)) (HasTarget t) own_target p.tables ranges.tables;
        })
        (parts_may (next_of p) ps (next_place g at p place ranges) are.1)
