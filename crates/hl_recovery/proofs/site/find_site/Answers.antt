use Rattle.std.proofs.Common.{List, ℕ, subst, ◌∙◌}
use Rattle.std.proofs.lemmas.Result.{err_from_is_err_and}
use Rattle.hl_recovery.specs.Racks.{DifferFirstAt}
use Rattle.hl_recovery.proofs.site.find_site.Goals as goal

pub returns-in_err-site-clause-stopped : goal.returns-in_err-site-clause-stopped
returns-in_err-site-clause-stopped g c =
    let p = err_from_is_err_and c.from_residual.result c.from_residual.ensures.1 in
    rw (p.1, p.2) (λ h e. c.in_err-site.ensures.stopped h e c.args.rack.now)

pub returns-in-Some-clause-stopped : goal.returns-in-Some-clause-stopped
returns-in-Some-clause-stopped g c = λ h e. record {
  geometry = c.in_ok-site.site.geometry;
  rec = c.in_ok-site.site.rec;
  site = c.in_ok-site.ensures.found h e;
  differ = subst (λ (l : List ℕ). DifferFirstAt l c.args.rack.now c.in-Some.volume) (c.items.ensures ∙ c.in_ok-site.ensures.site.volumes) c.in-Some.ensures;
  slots_is = c.slots_of.ensures;
}
