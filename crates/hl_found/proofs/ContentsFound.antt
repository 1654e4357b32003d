-- An image has the contents that are found in it, or none.
use Rattle.std.proofs.Common.{◌≡◌, ⊎_elim, ℕ, List, subst}
use Rattle.std.specs.Prelude.{Some, None}
use Rattle.hl_media.specs.History.{Image}
use Rattle.hl_addr.specs.Layout.{Layout}
use Rattle.hl_super.specs.declared.record.Record.{Record}
use Rattle.hl_summary.specs.declared.parts.Summary.{Summary}
use Rattle.hl_image.specs.declared.chain.ChainPart.{ChainPart}
use Rattle.hl_image.specs.Chain.{IsCutChain}
use Rattle.hl_image.specs.Newest.{IsNewest, IsRecordAt, start_of}
use Rattle.hl_image.proofs.ChainLemmas.{one_cut_chain}
use Rattle.hl_log.proofs.Records.{homes}
use Rattle.hl_tables.specs.Values.{TableValues, AreTables}
use Rattle.hl_paths.specs.Nodes.{Nodes}
use Rattle.hl_nodes.specs.Tables.{HasLaidTables}
use Rattle.hl_nodes.specs.Nodes.{HasNodes}
use Rattle.hl_nodes.specs.Contents.{Contents, HasContents}
use Rattle.hl_nodes.proofs.Determined.{one_newest, one_tables}
use Rattle.hl_nodes.proofs.Frame.{limits_of}
use Rattle.hl_nodes.proofs.LaidTables.{chain_laid}
use Rattle.hl_found.specs.Found.{AreChainParts, parts_found}

module _ (g : Layout) (image : Image) where
  -- an image without a record has no contents
  pub no_record : IsNewest g image None → (c : Contents) → HasContents g image c → ⊥
  no_record none c has = ⊎_elim
      (λ a. none.0 c.rec (subst (λ (n : ℕ). IsRecordAt g image n c.rec) a.0 has.newest.here))
      (λ a. none.1 c.rec (subst (λ (n : ℕ). IsRecordAt g image n c.rec) a.0 has.newest.here))
      (homes c.rec.number)

  module _ (rec : Record) (newest : IsNewest g image (Some rec)) where
    pub same_record : (c : Contents) → HasContents g image c → c.rec ≡ rec
    same_record c has = one_newest g image c.rec rec has.newest newest

    -- nor has one whose newest record has other volumes
    pub no_volumes : (rec.volumes ≡ g.volumes → ⊥) → (c : Contents) → HasContents g image c → ⊥
    no_volumes differ c has = differ (subst (λ (r : Record). r.volumes ≡ g.volumes) (same_record c has) has.volumes)

    module _ (volumes : rec.volumes ≡ g.volumes) (chain : List ChainPart) (are : AreChainParts g image rec chain) where
      -- the tables of the image are those of the site
      pub of_site : (t : TableValues) → HasLaidTables g image rec (parts_found chain) t → AreTables g t
      of_site t has = subst (AreTables g) has.laid_over (chain_laid g image rec (parts_found chain) newest volumes are.cut has.before has.spelled.values)

      same_parts : (c : Contents) → HasContents g image c → c.parts ≡ parts_found chain
      same_parts c has = one_cut_chain g image (start_of rec) rec.serial c.parts (parts_found chain)
          (subst (λ (r : Record). IsCutChain g image (start_of r) r.serial c.parts) (same_record c has) has.chain) are.cut

      their_tables : (c : Contents) → HasContents g image c → HasLaidTables g image rec (parts_found chain) c.tables
      their_tables c has = subst (λ (ps : List Summary). HasLaidTables g image rec ps c.tables) (same_parts c has)
          (subst (λ (r : Record). HasLaidTables g image r c.parts c.tables) (same_record c has) has.tables)

      -- nor has one whose table blocks spell no tables
      pub no_tables : ((t : TableValues) → HasLaidTables g image rec (parts_found chain) t → ⊥) → (c : Contents) → HasContents g image c → ⊥
      no_tables never c has = never c.tables (their_tables c has)

      -- nor has one whose tables name no nodes
      pub no_nodes : (t : TableValues) → HasLaidTables g image rec (parts_found chain) t → ((nodes : Nodes) → HasNodes g image t nodes → ⊥) → (c : Contents) → HasContents g image c → ⊥
      no_nodes t is never c has = never c.nodes (subst (λ (u : TableValues). HasNodes g image u c.nodes)
          (one_tables g (limits_of g image rec newest volumes) image rec (parts_found chain) c.tables t (their_tables c has) is) has.nodes)
