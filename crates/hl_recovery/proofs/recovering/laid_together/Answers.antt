use Rattle.std.proofs.Common.{◌+◌, ◌-◌, ◌^◌, ◌∙◌, ℕ, List, sym, ap, subst, arith}
use Rattle.std.specs.Prelude.{All, min, slice_index}
use Rattle.std.specs.List.{fold}
use Rattle.hl_image.specs.declared.chain.ChainPart.{ChainPart}
use Rattle.hl_image.specs.Newest.{start_of}
use Rattle.hl_image.specs.Places.{IsLogPlace}
use Rattle.hl_tables.specs.Values.{fresh}
use Rattle.hl_tables.proofs.Laid.{same_shape-then}
use Rattle.hl_nodes.specs.Tables.{parts_raised}
use Rattle.hl_found.specs.Found.{MayBeLaid, parts_found, part_laid}
use Rattle.hl_found.proofs.TablesFound.{laid_found}
use Rattle.hl_recovery.specs.Covering.{LiesInLog, reach}
use Rattle.hl_recovery.proofs.SummaryChains.{end_placed, parts_lie, parts_may}
use Rattle.hl_recovery.proofs.ChainWalks.{length_found}
use Rattle.hl_recovery.proofs.CoveredReach.{covered_to, parts_raise_to}
use Rattle.hl_recovery.proofs.recovering.laid_together.Goals as goal

pub lay_parts-requires-clause-parts : goal.lay_parts-requires-clause-parts
lay_parts-requires-clause-parts c =
    let site = c.args.site in
    let is = c.requires.site.1 in
    let chain = c.args.chain.parts.items in
    subst (All (MayBeLaid c.args.tables)) (c.requires.chain.places ∙ sym c.as_slice.ensures.value)
    (parts_may site.geometry c.args.tables c.requires.tables.shape is.limits (start_of site.rec) (parts_found chain) is.start c.requires.chain.summaries)

pub are_of_site-requires : goal.are_of_site-requires
are_of_site-requires c = same_shape-then (fresh c.args.site.geometry) c.args.tables c.lay_parts.new.tables c.requires.tables.shape c.lay_parts.ensures.shape

pub covered_segments-requires-clause-parts : goal.covered_segments-requires-clause-parts
covered_segments-requires-clause-parts c =
    let site = c.args.site in
    let is = c.requires.site.1 in
    let chain = c.args.chain.parts.items in
    subst (All (LiesInLog site.geometry)) (c.requires.chain.places ∙ sym c.as_slice-2.ensures.value)
    (parts_lie site.geometry (start_of site.rec) (parts_found chain) is.start c.requires.chain.summaries)

pub returns-clause-ready : goal.returns-clause-ready
returns-clause-ready c = λ blocks rack is same.
    let site = c.args.site in
    let chain = c.args.chain.parts.items in
    let place = end_placed site.geometry (start_of site.rec) (parts_found chain) is.start c.requires.chain.summaries in
    record {
      room = is.room;
      rack_is = same;
      volumes = is.volumes;
      start = is.start;
      head = subst (IsLogPlace site.geometry) (sym c.requires.chain.at_is) place;
      segments = c.in_ok-covered.ensures.size;
      tseg_serial = omega (arith, is.tseg_serial, c.raised_behind-tseg_serial.ensures, parts_raise_to site.rec.tseg_serial (parts_found c.as_slice-3.result.now));
      blocks_named = is.tables;
      tables = c.are_of_site.ensures;
    }

pub returns-clause-recovered : goal.returns-clause-recovered
returns-clause-recovered c = λ blocks rack image has same are spelled places.
    let site = c.args.site in
    let chain = c.args.chain.parts.items in
    let start = start_of site.rec in
    let behind = c.requires.chain in
    record {
      site = has;
      rack_is = same;
      parts = parts_found chain;
      chain = are.cut;
      at_is = behind.at_is;
      serial_is = behind.serial_is ∙ ap (λ (n : ℕ). min (site.rec.serial + n) (2 ^ 64 - 1)) (sym (length_found chain));
      covers = λ seg low. covered_to site.geometry seg start (parts_found chain) (slice_index c.in_ok-covered.covered.items seg) behind.summaries
          (c.in_ok-covered.ensures.reach seg low ∙ ap (fold (reach seg) 0) (c.as_slice-2.ensures.value ∙ sym behind.places));
      tseg_serial_is = c.raised_behind-tseg_serial.ensures ∙ ap (λ (l : List ChainPart). parts_raised site.rec.tseg_serial (parts_found l)) c.as_slice-3.ensures.value;
      laid = laid_found site.geometry image site.rec chain c.args.tables c.lay_parts.new.tables are spelled
          (c.lay_parts.ensures.value ∙ ap (fold part_laid c.args.tables) c.as_slice.ensures.value);
      in_place = places;
    }
