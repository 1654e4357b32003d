use Rattle.std.proofs.Common.{sym, subst}
use Rattle.hl_tree.specs.declared.call.Call.{Call}
use Rattle.hl_calls.specs.Calls.{MakesCall}
use Rattle.hl_files.proofs.calling.make.Goals as goal

pub returns-in-Mkdir-clause-made : goal.returns-in-Mkdir-clause-made
returns-in-Mkdir-clause-made g c = subst (λ (call : Call). MakesCall g.M.Machine.history g.M.Machine.faults c.args.store.now c.mkdir.new.store c.args.now call c.mkdir.result) (sym c.in-Mkdir.is) c.mkdir.ensures.made

pub returns-in-Create-clause-made : goal.returns-in-Create-clause-made
returns-in-Create-clause-made g c = subst (λ (call : Call). MakesCall g.M.Machine.history g.M.Machine.faults c.args.store.now c.create.new.store c.args.now call c.create.result) (sym c.in-Create.is) c.create.ensures.made

pub returns-in-Write-clause-made : goal.returns-in-Write-clause-made
returns-in-Write-clause-made g c = subst (λ (call : Call). MakesCall g.M.Machine.history g.M.Machine.faults c.args.store.now c.write.new.store c.args.now call c.write.result) (sym c.in-Write.is) c.write.ensures.made

pub returns-in-Cut-clause-made : goal.returns-in-Cut-clause-made
returns-in-Cut-clause-made g c = subst (λ (call : Call). MakesCall g.M.Machine.history g.M.Machine.faults c.args.store.now c.cut.new.store c.args.now call c.cut.result) (sym c.in-Cut.is) c.cut.ensures.made

pub returns-in-Read-clause-made : goal.returns-in-Read-clause-made
returns-in-Read-clause-made g c = subst (λ (call : Call). MakesCall g.M.Machine.history g.M.Machine.faults c.args.store.now c.read.new.store c.args.now call c.read.result) (sym c.in-Read.is) c.read.ensures.made

pub returns-in-Stat-clause-made : goal.returns-in-Stat-clause-made
returns-in-Stat-clause-made g c = subst (λ (call : Call). MakesCall g.M.Machine.history g.M.Machine.faults c.args.store.now c.stat.new.store c.args.now call c.stat.result) (sym c.in-Stat.is) c.stat.ensures.made

pub returns-in-List-clause-made : goal.returns-in-List-clause-made
returns-in-List-clause-made g c = subst (λ (call : Call). MakesCall g.M.Machine.history g.M.Machine.faults c.args.store.now c.list.new.store c.args.now call c.list.result) (sym c.in-List.is) c.list.ensures.made

pub returns-in-Unlink-clause-made : goal.returns-in-Unlink-clause-made
returns-in-Unlink-clause-made g c = subst (λ (call : Call). MakesCall g.M.Machine.history g.M.Machine.faults c.args.store.now c.unlink.new.store c.args.now call c.unlink.result) (sym c.in-Unlink.is) c.unlink.ensures.made

pub returns-in-Rmdir-clause-made : goal.returns-in-Rmdir-clause-made
returns-in-Rmdir-clause-made g c = subst (λ (call : Call). MakesCall g.M.Machine.history g.M.Machine.faults c.args.store.now c.rmdir.new.store c.args.now call c.rmdir.result) (sym c.in-Rmdir.is) c.rmdir.ensures.made

pub returns-in-Rename-clause-made : goal.returns-in-Rename-clause-made
returns-in-Rename-clause-made g c = subst (λ (call : Call). MakesCall g.M.Machine.history g.M.Machine.faults c.args.store.now c.rename.new.store c.args.now call c.rename.result) (sym c.in-Rename.is) c.rename.ensures.made
