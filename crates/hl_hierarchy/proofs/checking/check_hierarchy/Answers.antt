use Rattle.std.proofs.Common.{ℕ, List, sym, subst}
use Rattle.std.specs.Prelude.{MatchOption, Option}
use Rattle.hl_media.specs.History.{content}
use Rattle.hl_nodes.specs.Breaks.{Breaks}
use Rattle.hl_nodes.specs.declared.rule.Rule.TheVariants.{LostInode}
use Rattle.hl_hierarchy.specs.Climbing.{AreBelowRoot, IsLost}
use Rattle.hl_hierarchy.proofs.NamedNumbers.{dir_of}
use Rattle.hl_hierarchy.proofs.Kept.{hierarchy_kept, lost_breaks}
use Rattle.hl_hierarchy.proofs.checking.check_hierarchy.Goals as goal

pub returns-in-None-clause-kept : goal.returns-in-None-clause-kept
returns-in-None-clause-kept g c h e t are =
    let found = c.args.found.now in
    let parents = c.in_ok-parents.parents.items in
    let none = subst (λ (o : Option ℕ). MatchOption o (AreBelowRoot found c.as_slice.result.now) (IsLost found c.as_slice.result.now)) c.in-None.is c.in_ok-lost_number.ensures in
    hierarchy_kept c.args.geometry.now (content h) t found c.in_ok-parents.ensures.limits are parents (c.in_ok-parents.ensures.names h e t are)
    (subst (AreBelowRoot found) c.as_slice.ensures.value none)

pub returns-clause-stops : goal.returns-clause-stops
returns-clause-stops g c h e t are rec parts =
    let found = c.args.found.now in
    let parents = c.in_ok-parents.parents.items in
    let ino = c.in-Some.ino in
    let some = subst (λ (o : Option ℕ). MatchOption o (AreBelowRoot found c.as_slice.result.now) (IsLost found c.as_slice.result.now)) c.in-Some.is c.in_ok-lost_number.ensures in
    let lost = subst (λ (l : List ℕ). IsLost found l ino) c.as_slice.ensures.value some in
    let dir = dir_of found ino lost.used in
    subst (λ (block : ℕ). Breaks c.args.geometry.now (content h) rec parts t LostInode block) (sym (c.inode_block.ensures dir.0 dir.1))
    (lost_breaks c.args.geometry.now (content h) t found c.in_ok-parents.ensures.limits are parents (c.in_ok-parents.ensures.names h e t are) ino lost dir.0 dir.1 rec parts)
