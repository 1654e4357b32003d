use Rattle.std.proofs.Common.{◌≡◌, ◌+◌, ◌≤◌, ℕ, List, length, arith}
use Rattle.std.specs.Global.{Vec}
use Rattle.std.proofs.lemmas.Result.{IfOk-weaker}
use Rattle.hl_media.specs.History.{Image}
use Rattle.hl_super.specs.declared.record.Record.{Record}
use Rattle.hl_summary.specs.declared.parts.Summary.{Summary}
use Rattle.hl_log.specs.Free.{AreClean}
use Rattle.hl_tables.specs.Values.{TableValues}
use Rattle.hl_nodes.specs.Rooms.{AreCleanAtMount}
use Rattle.hl_nodes.specs.Sound.{head_of}
use Rattle.hl_census.specs.Clearing.{AreEmptyBelow}
use Rattle.hl_nodes.specs.Covering.{IsCovered}
use Rattle.hl_census.specs.Living.{AreLive}
use Rattle.hl_census.proofs.CleanSegments.{clean_at_mount, clean_in_log}
use Rattle.hl_census.proofs.clearing.clean.Goals as goal

pub returns-clause-of_log : goal.returns-clause-of_log
returns-clause-of_log c =
    let g = c.args.geometry.now in
    let at = c.args.at in
    let covered = c.args.covered.now in
    let live = c.args.live.now in
    IfOk-weaker c.empty_segments.result
    (λ (r : Vec ℕ). AreEmptyBelow at covered live (g.log + 1) r.items)
    (λ (r : Vec ℕ). AreClean g at.seg r.items)
    (λ r are. clean_in_log g c.empty_segments.ensures.limits at covered live r.items are)
    c.empty_segments.ensures.empty

pub returns-clause-few : goal.returns-clause-few
returns-clause-few c =
    let g = c.args.geometry.now in
    IfOk-weaker c.empty_segments.result
    (λ (r : Vec ℕ). AreEmptyBelow c.args.at c.args.covered.now c.args.live.now (g.log + 1) r.items)
    (λ (r : Vec ℕ). length r.items ≤ g.log)
    (λ r are. (let lt = are.few in omega arith))
    c.empty_segments.ensures.empty

pub returns-clause-clean : goal.returns-clause-clean
returns-clause-clean c =
    let g = c.args.geometry.now in
    let at = c.args.at in
    let covered = c.args.covered.now in
    let live = c.args.live.now in
    IfOk-weaker c.empty_segments.result
    (λ (r : Vec ℕ). AreEmptyBelow at covered live (g.log + 1) r.items)
    (λ (r : Vec ℕ). (image : Image) (rec : Record) (parts : List Summary) (t : TableValues) → at ≡ head_of rec parts → IsCovered g rec parts covered → AreLive g image rec t live → AreCleanAtMount g image rec parts t r.items)
    (λ r are image rec parts t head covers counted. clean_at_mount g c.empty_segments.ensures.limits at covered live r.items are image rec parts t head covers counted)
    c.empty_segments.ensures.empty
