use Rattle.std.proofs.Common.{◌∙◌, ◌≤◌, ◌/◌, ℕ, List, length, sum, All, sym, ap, subst}
use Rattle.toml.specs.Data.{get_member}
use Rattle.toml.specs.View.{table_view}
use Rattle.hl_addr.specs.Layout.{IsSlotCount, table_blocks_of}
use Rattle.hl_site.specs.declared.key.Key.{Key}
use Rattle.hl_site.specs.declared.key.Key.TheVariants.{SegmentBlocks, LogSegments, Lines, Inodes, Volumes}
use Rattle.hl_site.specs.Key.{name_of}
use Rattle.hl_site.specs.Site.{volumes_of}
use Rattle.hl_site.proofs.Outcomes.{meant_ok}
use Rattle.hl_site.proofs.Limits.{volumes_within, site_within}
use Rattle.hl_site.proofs.reading.site_in.Goals as goal

pub table_blocks_for-blocks-requires-clause-volumes : goal.table_blocks_for-blocks-requires-clause-volumes
table_blocks_for-blocks-requires-clause-volumes c =
    let counts = volumes_within (get_member (name_of Volumes) (table_view c.args.table.now)) c.in_ok-volumes.volumes (meant_ok c.volumes_in.result (volumes_of (get_member (name_of Volumes) (table_view c.args.table.now))) c.in_ok-volumes.volumes c.volumes_in.ensures c.in_ok-volumes.was) in
    subst (λ (l : List ℕ). length l ≤ 32) (sym c.items.ensures) counts.0.1

pub table_blocks_for-blocks-requires-clause-slots : goal.table_blocks_for-blocks-requires-clause-slots
table_blocks_for-blocks-requires-clause-slots c =
    let counts = volumes_within (get_member (name_of Volumes) (table_view c.args.table.now)) c.in_ok-volumes.volumes (meant_ok c.volumes_in.result (volumes_of (get_member (name_of Volumes) (table_view c.args.table.now))) c.in_ok-volumes.volumes c.volumes_in.ensures c.in_ok-volumes.was) in
    subst (λ (l : List ℕ). All IsSlotCount l) (sym c.items.ensures) counts.1

pub invariant_of-result : goal.invariant_of-result
invariant_of-result c =
    let at = λ (key : Key). get_member (name_of key) (table_view c.args.table.now) in
    site_within c.in_ok-k.k c.in_ok-log.log c.in_ok-lines.lines c.in_ok-inodes.inodes c.in_ok-volumes.volumes (at SegmentBlocks) (at LogSegments) (at Lines) (at Inodes)
    (sym c.number_at.ensures ∙ c.in_ok-k.was)
    (sym c.number_at-2.ensures ∙ c.in_ok-log.was)
    (sym c.number_at-3.ensures ∙ c.in_ok-lines.was)
    (sym c.number_at-4.ensures ∙ c.in_ok-inodes.was)
    (volumes_within (at Volumes) c.in_ok-volumes.volumes (meant_ok c.volumes_in.result (volumes_of (at Volumes)) c.in_ok-volumes.volumes c.volumes_in.ensures c.in_ok-volumes.was))
    (subst (λ (n : ℕ). n ≤ c.in_ok-k.k / 2) (c.table_blocks_for-blocks.ensures ∙ ap (λ (l : List ℕ). table_blocks_of c.in_ok-log.log c.in_ok-inodes.inodes (sum l)) c.items.ensures) c.if-k-blocks.false)
