use Rattle.std.proofs.Common.{ℕ, Option, Result, Ok, Err, OnOk, sym, subst}
use Rattle.hl_media.specs.History.{History}
use Rattle.hl_media.specs.Moments.{Ends}
use Rattle.hl_tree.specs.Rules.{Files}
use Rattle.hl_disk.specs.Saves.{HasSaved}
use Rattle.hl_world.specs.declared.fault.CloseFault.{CloseFault}
use Rattle.hl_world.specs.Worlds.{Standing, Syncs}
use Rattle.hl_world.proofs.world.World.close.Goals as goal

-- what is kept where no fault comes
saved : (blocks number : ℕ) (tree : Files) (before now : Option History) (number' : ℕ) (r : Result (Unit {0}) CloseFault)
    → Syncs blocks number tree before now number' r → OnOk r (Ends before now (HasSaved blocks number tree))
saved blocks number tree before now number' (Ok u) syncs = syncs.1
saved blocks number tree before now number' (Err why) syncs = tt

pub returns-clause-saved : goal.returns-clause-saved
returns-clause-saved g c = subst (λ (s : Standing _). OnOk c.sync-closed.result (Ends (g.M.Machine.history c.args.self.machine) (g.M.Machine.history s.machine) (HasSaved (g.M.Machine.blocks c.args.self.machine) c.args.self.number c.args.self.files.tree)))
    (sym c.self.view_is) (saved _ _ _ _ _ c.sync-closed.new.self.number c.sync-closed.result c.sync-closed.ensures.syncs)
