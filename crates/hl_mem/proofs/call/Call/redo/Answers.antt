use Rattle.std.proofs.Common.{List, ℕ, sym, subst}
use Rattle.hl_media.specs.History.{ended}
use Rattle.hl_media.specs.History.DeviceCall.{Write}
use Rattle.hl_mem.specs.declared.call.Call.{Call}
use Rattle.hl_mem.specs.Recorded.{call_of}
use Rattle.hl_mem.specs.Kept.{Shows}
use Rattle.hl_mem.proofs.call.Call.redo.Goals as goal

pub returns-in-Writing : goal.returns-in-Writing
returns-in-Writing c said s shows =
    let content = c.redo_write.new.content in
    let image = c.redo_write.new.image in
    let at = c.in-Writing.at in
    let done = c.redo_write.ensures s shows in
    let bytes = subst (λ (l : List ℕ). Shows c.args.tear (ended s (Write at l c.deref-in-Writing.result.now)) content image) c.deref.ensures.value done in
    let after = subst (λ (l : List ℕ). Shows c.args.tear (ended s (Write at c.in-Writing.bytes.items l)) content image) c.deref-in-Writing.ensures.value bytes in
    subst (λ (call : Call). Shows c.args.tear (ended s (call_of said call)) content image) (sym c.in-Writing.is) after

pub returns-in-FailedWriting : goal.returns-in-FailedWriting
returns-in-FailedWriting c said s shows =
    let content = c.redo_write-in-FailedWriting.new.content in
    let image = c.redo_write-in-FailedWriting.new.image in
    let at = c.in-FailedWriting.at in
    let done = c.redo_write-in-FailedWriting.ensures s shows in
    let bytes = subst (λ (l : List ℕ). Shows c.args.tear (ended s (Write at l c.deref-in-FailedWriting-2.result.now)) content image) c.deref-in-FailedWriting.ensures.value done in
    let after = subst (λ (l : List ℕ). Shows c.args.tear (ended s (Write at c.in-FailedWriting.bytes.items l)) content image) c.deref-in-FailedWriting-2.ensures.value bytes in
    subst (λ (call : Call). Shows c.args.tear (ended s (call_of said call)) content image) (sym c.in-FailedWriting.is) after
