use Rattle.std.proofs.Common.{ℕ, List, sym, subst}
use Rattle.hl_media.specs.History.{begun}
use Rattle.hl_mem.specs.declared.call.Call.{Call}
use Rattle.hl_mem.specs.Recorded.{call_of}
use Rattle.hl_mem.specs.Tears.{IsTorn, TearsWrite}
use Rattle.hl_mem.proofs.Torn.{torn_then}
use Rattle.hl_mem.proofs.call.Call.redo_begun.Goals as goal

pub returns-in-Writing-clause-torn : goal.returns-in-Writing-clause-torn
returns-in-Writing-clause-torn c said s is =
    let at = c.in-Writing.at in
    let bytes = c.in-Writing.bytes.items in
    let new = c.tear_write.new.image in
    let tears = subst (λ (l : List ℕ). TearsWrite c.args.tear at l c.args.image.now new) c.deref.ensures.value c.tear_write.ensures.torn in
    subst (λ (call : Call). IsTorn c.args.tear (begun s (call_of said call)) new) (sym c.in-Writing.is) (torn_then c.args.tear s at bytes bytes c.args.image.now new tears is)

pub returns-in-FailedWriting-clause-torn : goal.returns-in-FailedWriting-clause-torn
returns-in-FailedWriting-clause-torn c said s is =
    let at = c.in-FailedWriting.at in
    let bytes = c.in-FailedWriting.bytes.items in
    let new = c.tear_write-in-FailedWriting.new.image in
    let tears = subst (λ (l : List ℕ). TearsWrite c.args.tear at l c.args.image.now new) c.deref-in-FailedWriting.ensures.value c.tear_write-in-FailedWriting.ensures.torn in
    subst (λ (call : Call). IsTorn c.args.tear (begun s (call_of said call)) new) (sym c.in-FailedWriting.is) (torn_then c.args.tear s at bytes c.in-FailedWriting.after.items c.args.image.now new tears is)
