use Rattle.std.proofs.Common.{◌≡◌, ℕ, List, ◌++◌, drop, Result, Ok, Err}
use Rattle.toml.specs.View.{items_view}
use Rattle.hl_site.specs.declared.error.SiteError.{SiteError}
use Rattle.hl_site.specs.Site.{slots_of}
use Rattle.hl_site.proofs.reading.slots_in.Given as goal

-- the slots that were read, before those that the other entries give
abbrev pub after : List ℕ → Result (List ℕ) SiteError → Result (List ℕ) SiteError
after done (Ok others) = Ok (done ++ others)
after done (Err why) = Err why

abbrev pub invariant-entries : goal.invariant-entries
invariant-entries l = slots_of (items_view l.entries) ≡ after l.slots.items (slots_of (items_view (drop l.entry-index l.entries)))
