use Rattle.std.proofs.Common.{◌≡◌, ℕ, List, ◌∙◌, ap}
use Rattle.std.specs.Global.{Vec}
use Rattle.std.proofs.lemmas.Result.{IfOk-weaker}
use Rattle.hl_media.specs.History.{Image}
use Rattle.hl_addr.specs.Layout.{IsWithinLimits, Layout}
use Rattle.hl_tables.specs.Values.{TableValues}
use Rattle.hl_survey.specs.Surveys.{AreSurveyed}
use Rattle.hl_census.specs.Naming.{AreNamed, named_addresses}
use Rattle.hl_census.proofs.NamedBlocks.{are_named}
use Rattle.hl_census.proofs.naming.named.Goals as goal

pub returns : goal.returns
returns c =
    let found = c.args.found.now in
    let rec = c.args.rec.now in
    IfOk-weaker c.addresses_of.result
    (λ (r : Vec ℕ). r.items ≡ named_addresses c.items.result.now found)
    (λ (r : Vec ℕ). (g : Layout) (image : Image) (t : TableValues) → IsWithinLimits g → AreSurveyed g image t found → AreNamed g image rec t r.items)
    (λ r is g image t limits are. are_named g image rec t limits found are r.items (is ∙ ap (λ (l : List ℕ). named_addresses l found) c.items.ensures))
    c.addresses_of.ensures
