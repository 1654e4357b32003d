use Rattle.std.proofs.Common.{inl, inr, [], List, Ok, refl, sym, ◌∙◌, ap}
use Rattle.std.proofs.lemmas.List.{append-nil}
use Rattle.hl_media.specs.History.{DeviceCall, with_calls}
use Rattle.hl_media.proofs.Runs.{then_adds}
use Rattle.hl_media.proofs.SyncedWrites.{failed_is}
use Rattle.hl_media.proofs.synced.write_synced.Goals as goal

pub returns-in_err-write-clause-did : goal.returns-in_err-write-clause-did
returns-in_err-write-clause-did g c =
    let err = failed_is c.from_residual.result c.from_residual.ensures.0 in
    let w = c.write.ensures.did in
    record {
      written = w.calls;
      synced = [];
      is = w.is ∙ ap (λ (l : List DeviceCall). with_calls l (g.M.Machine.history c.args.machine.now)) (sym (append-nil w.calls));
      write_result = c.write.result;
      write = w.did;
      sync = inl (refl, c.in_err-write.was ∙ sym err, err);
    }

pub returns-clause-did : goal.returns-clause-did
returns-clause-did g c =
    let w = c.in_ok-write.ensures.did in
    record {
      written = w.calls;
      synced = c.sync.ensures.did.calls;
      is = then_adds (g.M.Machine.history c.args.machine.now) (g.M.Machine.history c.write.new.self) (g.M.Machine.history c.sync.new.self) w.calls w.is c.sync.ensures.did;
      write_result = Ok tt;
      write = w.did;
      sync = inr (refl, c.sync.ensures.did.did);
    }
