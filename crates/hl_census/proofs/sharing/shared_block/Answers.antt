use Rattle.std.proofs.Common.{ℕ, List}
use Rattle.std.specs.Prelude.{Option}
use Rattle.std.proofs.lemmas.Result.{IfOk-weaker}
use Rattle.hl_media.specs.History.{Image}
use Rattle.hl_addr.specs.Layout.{Layout}
use Rattle.hl_super.specs.declared.record.Record.{Record}
use Rattle.hl_summary.specs.declared.parts.Summary.{Summary}
use Rattle.hl_tables.specs.Values.{TableValues}
use Rattle.hl_nodes.specs.declared.rule.Rule.TheVariants.{SharedBlock}
use Rattle.hl_census.specs.Naming.{AreNamed}
use Rattle.hl_census.specs.Sharing.{TellsTwice}
use Rattle.hl_nodes.specs.Telling.{TellsBroken}
use Rattle.hl_census.proofs.Shared.{shared_told}
use Rattle.hl_census.proofs.sharing.shared_block.Goals as goal

pub returns : goal.returns
returns c =
    let addresses = c.args.named.now in
    IfOk-weaker c.repeated.result
    (λ (told : Option ℕ). TellsTwice addresses told)
    (λ (told : Option ℕ). (g : Layout) (image : Image) (rec : Record) (parts : List Summary) (t : TableValues) → AreNamed g image rec t addresses → TellsBroken g image rec parts t SharedBlock told)
    (λ told is g image rec parts t named. shared_told g image rec parts t addresses named told is)
    c.repeated.ensures
