use Rattle.std.proofs.Common.{◌≡◌, ℕ, ◌<◌, get_or}
use Rattle.hl_site.proofs.devices.first_difference.Given as goal

abbrev pub invariant-volumes : goal.invariant-volumes
invariant-volumes l = (i : ℕ) → i < l.volume → get_or l.volumes i 0 ≡ get_or l.rack i 0
