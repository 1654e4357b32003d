use Rattle.std.proofs.Common.{◌≡◌, Result, Ok, Err, OnOk, refl}
use Rattle.hl_media.specs.declared.failed.Failed.{Failed}
use Rattle.hl_disk.proofs.Formatted.{first_failed, second_formats, last_formats, formatted, quiet, quiet_then}
use Rattle.hl_disk.proofs.formatting.lay_out.Goals as goal

pub returns-in_err-write_synced-clause-formats : goal.returns-in_err-write_synced-clause-formats
returns-in_err-write_synced-clause-formats g c = first_failed _ _ _ _ _ _ (rw c.in_err-write_synced.was at c.write_synced.ensures.did)

pub returns-in_err-write_synced-clause-says_nothing : goal.returns-in_err-write_synced-clause-says_nothing
returns-in_err-write_synced-clause-says_nothing g c = quiet _ _ _ _ _ c.write_synced.ensures.did

pub returns-in_err-write_synced-2-clause-formats : goal.returns-in_err-write_synced-2-clause-formats
returns-in_err-write_synced-2-clause-formats g c =
    second_formats _ _ _ _ c.requires.parts _ _ _ (g.M.Machine.history c.args.machine.now) _ c.in_ok-write_synced.ensures.did _ c.write_synced-2.ensures.did

pub returns-in_err-write_synced-2-clause-says_nothing : goal.returns-in_err-write_synced-2-clause-says_nothing
returns-in_err-write_synced-2-clause-says_nothing g c = quiet_then _ _ _ (quiet _ _ _ _ _ c.in_ok-write_synced.ensures.did) (quiet _ _ _ _ _ c.write_synced-2.ensures.did)

pub returns-clause-formatted : goal.returns-clause-formatted
returns-clause-formatted g c =
    on_ok c.write_synced-3.result _ (λ u e.
    formatted _ _ _ _ c.requires.parts _ _ _ _ _ c.in_ok-write_synced.ensures.did _ c.in_ok-write_synced-2.ensures.did u (rw e at c.write_synced-3.ensures.did))
  where
    on_ok : (r : Result (Unit {0}) Failed) (P : Type 0) → ((u : Unit {0}) → r ≡ Ok u → P) → OnOk r P
    on_ok (Ok u) P holds = holds u refl
    on_ok (Err e) P holds = tt

pub returns-clause-formats : goal.returns-clause-formats
returns-clause-formats g c =
    last_formats _ _ _ _ c.requires.parts _ _ _ _ _ c.in_ok-write_synced.ensures.did _ c.in_ok-write_synced-2.ensures.did _ c.write_synced-3.ensures.did

pub returns-clause-says_nothing : goal.returns-clause-says_nothing
returns-clause-says_nothing g c =
    quiet_then _ _ _ (quiet_then _ _ _ (quiet _ _ _ _ _ c.in_ok-write_synced.ensures.did) (quiet _ _ _ _ _ c.in_ok-write_synced-2.ensures.did)) (quiet _ _ _ _ _ c.write_synced-3.ensures.did)
