use Rattle.std.proofs.Common.{◌≡◌, Bool, [], ◌∷◌, ◌++◌, sym, subst}
use Rattle.std.specs.Prelude.{Contains, Some}
use Rattle.hl_dir.specs.declared.entry.Entry.{Entry}
use Rattle.hl_paths.specs.Links.{resolve}
use Rattle.hl_paths.specs.Numbered.{links}
use Rattle.hl_found.specs.Reach.{at_path, Goes}
use Rattle.hl_found.proofs.ReachFound.{entries_go}
use Rattle.hl_found.proofs.reach.reach_entries.Goals as goal

pub each-preserved : goal.each-preserved
each-preserved c = λ numbered are entries reached lead.
    let before = c.each.invariant numbered are entries reached lead in
    let leads = subst (λ (e : Entry). resolve (links numbered) (c.args.path.now ++ e.name ∷ []) ≡ Some e.ino) (sym c.index-entries-k.is) (lead c.each.k c.index-entries-k.result c.each-test.true) in
    let one = c.in_ok-reach_entry.ensures numbered are entries before.0 leads in
    entries_go numbered c.args.reached.now.items c.each.reached.items c.reach_entry.new.reached.items c.args.path.now c.args.entries.now c.each.k c.index-entries-k.result c.each-test.true c.index-entries-k.is before
    (subst (λ (b : Bool). Goes numbered c.each.reached.items c.reach_entry.new.reached.items (Contains c.reach_entry.new.reached.items (at_path (c.args.path.now ++ c.index-entries-k.result.name ∷ []) c.index-entries-k.result.ino)) b) c.if-not-branch.false one)
