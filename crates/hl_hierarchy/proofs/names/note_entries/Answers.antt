use Rattle.std.proofs.Common.{◌≡◌, get_or, sym, ◌∙◌, ap, subst}
use Rattle.std.specs.Prelude.{slice_index}
use Rattle.hl_dir.specs.declared.entry.Entry.{Entry}
use Rattle.hl_hierarchy.specs.Naming.{numbers, IsNameable, Notes}
use Rattle.hl_hierarchy.proofs.Noting.{notes_more, notes_none, number_of}
use Rattle.hl_hierarchy.proofs.names.note_entries.Goals as goal

pub entries-init : goal.entries-init
entries-init c = notes_none c.args.found.now (numbers c.args.entries.now) c.args.parents.now c.args.ino

pub entries-preserved : goal.entries-preserved
entries-preserved c =
    let es = c.args.entries.now in
    let k = c.entries.k in
    let e = c.index-entries-k.result in
    let child : slice_index (numbers es) k ≡ (get_or es k e).ino = number_of es k e c.entries-test.true (sym c.index-entries-k.is) ∙ ap (λ (x : Entry). x.ino) c.index-entries-k.is in
    let found = c.args.found.now in
    notes_more found (numbers es) c.args.parents.now c.args.ino c.entries.parents k c.entries.invariant c.note.new.parents c.requires.low
    (subst (IsNameable found) (sym child) (c.note.ensures.may c.if-not-note.false))
    (subst (Notes c.entries.parents c.note.new.parents c.args.ino) (sym child) (c.note.ensures.noted c.if-not-note.false))
