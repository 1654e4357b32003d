use Rattle.std.proofs.Common.{◌≡◌, ℕ, ◌++◌, List, length, take, drop, sym, ◌∙◌, subst}
use Rattle.std.proofs.lemmas.List.{take_at}
use Rattle.hl_media.specs.History.{content}
use Rattle.hl_hierarchy.specs.Hierarchies.{AreNamed}
use Rattle.hl_hierarchy.proofs.naming.name_numbers.Goals as goal

pub returns-clause-names : goal.returns-clause-names
returns-clause-names g c h e t are =
    let new = c.name_all.new.parents in
    let rest = drop (length new) c.in_ok-parents.parents.items in
    let count : length new ≡ c.in_ok-parents.parents.len = c.name_all.auto.parents ∙ c.as_mut_slice.ensures.len in
    let whole : take c.in_ok-parents.parents.len (new ++ rest) ≡ new = take_at new rest c.in_ok-parents.parents.len count in
    subst (λ (l : List ℕ). AreNamed c.args.geometry.now (content h) c.args.found.now l) (sym whole) (c.in_ok-name_all.ensures.names h e t are)
