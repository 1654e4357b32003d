use Rattle.std.proofs.Common.{sym, List, subst}
use Rattle.hl_mem.specs.declared.call.Call.{Call}
use Rattle.hl_mem.specs.Recorded.{IsRecorded}
use Rattle.hl_mem.proofs.Recordings.{quiet_recorded}
use Rattle.hl_mem.proofs.recording.Recording.add.Goals as goal

pub invariant_of-self-2 : goal.invariant_of-self-2
invariant_of-self-2 c = subst (λ (l : List Call). IsRecorded c.self.inside.said.items l) (sym c.in_ok-push.ensures.items)
    (quiet_recorded c.self.inside.said.items c.self.inside.calls.items c.args.call c.requires c.self.invariant)
