use Rattle.std.proofs.Common.{◌≡◌, ◌+◌, ◌<◌, ◌^◌, length, refl, sym, ◌∙◌, ap, arith}
use Rattle.std.specs.Prelude.{count_by}
use Rattle.hl_overlay.specs.Drafting.{is_freed}
use Rattle.hl_overlay.specs.DraftTables.{others_in}
use Rattle.hl_overlay.proofs.TableLemmas.{admitted_in}
use Rattle.hl_overlay.proofs.CountLemmas.{freed_push, items_few, others_push}
use Rattle.hl_overlay.proofs.drafts.Drafts.admit.Goals as goal

pub invariant_of-self-2 : goal.invariant_of-self-2
invariant_of-self-2 c =
    let place : length c.as_slice-place.result.now ≡ length c.self.inside.items.items = ap length c.as_slice-place.ensures.value in
    let few : length c.self.inside.items.items + 1 < 2 ^ 64 = (let most = items_few _ c.self.invariant.table in let numbers = c.self.invariant.table.few in omega arith) in record {
      table = (admitted_in _ c.args.self.now _ c.self.view_is c.args.draft (length c.as_slice-place.result.now) c.self.invariant.table c.requires.number c.requires.none c.requires.is place few c.in_ok-push.ensures.items refl).0;
      others_are = c.self.invariant.others_are ∙ sym (ap others_in c.in_ok-push.ensures.items ∙ others_push c.self.inside.items.items c.args.draft c.requires.unchanged);
      freed_are = c.self.invariant.freed_are ∙ sym (ap (count_by is_freed) c.in_ok-push.ensures.items ∙ freed_push c.self.inside.items.items c.args.draft c.requires.unchanged);
    }

pub returns-clause-ok : goal.returns-clause-ok
returns-clause-ok c =
    let place : length c.as_slice-place.result.now ≡ length c.self.inside.items.items = ap length c.as_slice-place.ensures.value in
    let few : length c.self.inside.items.items + 1 < 2 ^ 64 = (let most = items_few _ c.self.invariant.table in let numbers = c.self.invariant.table.few in omega arith) in
    (admitted_in _ c.args.self.now _ c.self.view_is c.args.draft (length c.as_slice-place.result.now) c.self.invariant.table c.requires.number c.requires.none c.requires.is place few c.in_ok-push.ensures.items refl).1
