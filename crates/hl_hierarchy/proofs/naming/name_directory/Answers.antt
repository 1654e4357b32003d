use Rattle.std.proofs.Common.{ℕ, List, length, subst}
use Rattle.std.proofs.lemmas.Result.{err_from_is_err_and}
use Rattle.hl_media.specs.History.{Image, content}
use Rattle.hl_dir.specs.declared.entry.Entry.{Entry}
use Rattle.hl_nodes.specs.declared.rule.Rule.{Rule}
use Rattle.hl_survey.proofs.Stopping.{stops_where}
use Rattle.hl_hierarchy.specs.Naming.{numbers, IsOffSomewhere, NotesEach}
use Rattle.hl_hierarchy.specs.Hierarchies.{BreaksDirectory, BreaksNaming, HoldsAt}
use Rattle.hl_hierarchy.proofs.NamedNumbers.{are_of, at_found, below_more, entry_breaks, named_more}
use Rattle.hl_hierarchy.proofs.naming.name_directory.Goals as goal

pub returns-in_err-entries-clause-stops : goal.returns-in_err-entries-clause-stops
returns-in_err-entries-clause-stops g c =
    let p = err_from_is_err_and c.from_residual.result c.from_residual.ensures.1 in
    let site = c.args.geometry.now in
    let found = c.args.found.now in
    let dir = c.args.dir.now in
    let Told = λ (image : Image) (rule : Rule) (block : ℕ). BreaksDirectory site dir image rule block in
    let More = λ (image : Image) (rule : Rule) (block : ℕ). BreaksNaming site found c.args.parents.now c.args.ino image rule block in
    rw (p.1, p.2)
    (stops_where Told More (λ (image : Image). Unit {0}) (g.M.Machine.history c.args.machine.now) (λ h e. tt)
    (λ image _ rule block told below named t are. told t c.args.ino (at_found found site image t are c.args.ino dir c.requires.dir) c.requires.kind) c.in_err-entries.field-0.0 c.in_err-entries.ensures.stops)

pub returns-then-note_entries-clause-names : goal.returns-then-note_entries-clause-names
returns-then-note_entries-clause-names g c h e t are named =
    let site = c.args.geometry.now in
    let found = c.args.found.now in
    let dir = c.args.dir.now in
    let ino = c.args.ino in
    let es = c.in_ok-entries.entries in
    let held : HoldsAt site (content h) found ino es = record {
      dir = dir;
      is = c.requires.dir;
      kind = c.requires.kind;
      holds = c.in_ok-entries.ensures.entries h e (are_of site (content h) t ino dir (at_found found site (content h) t are ino dir c.requires.dir));
    } in
    let notes : NotesEach found (numbers es) (length es) c.args.parents.now c.note_entries.new.parents ino =
    subst (λ (l : List Entry). NotesEach found (numbers l) (length l) c.args.parents.now c.note_entries.new.parents ino) c.items.ensures (c.note_entries.ensures.noted c.if-note_entries.true) in
    named_more found site (content h) t are ino es held c.args.parents.now named c.note_entries.new.parents notes

pub returns-then-note_entries-clause-below : goal.returns-then-note_entries-clause-below
returns-then-note_entries-clause-below g c below =
    let es = c.items.result.now in
    below_more c.args.found.now (numbers es) c.args.parents.now c.note_entries.new.parents (length es) c.args.ino (c.note_entries.ensures.noted c.if-note_entries.true) below

pub returns-clause-stops : goal.returns-clause-stops
returns-clause-stops g c h e below named t are rec parts =
    let site = c.args.geometry.now in
    let found = c.args.found.now in
    let dir = c.args.dir.now in
    let ino = c.args.ino in
    let es = c.in_ok-entries.entries in
    let held : HoldsAt site (content h) found ino es = record {
      dir = dir;
      is = c.requires.dir;
      kind = c.requires.kind;
      holds = c.in_ok-entries.ensures.entries h e (are_of site (content h) t ino dir (at_found found site (content h) t are ino dir c.requires.dir));
    } in
    let off : IsOffSomewhere found (numbers es) c.args.parents.now =
    subst (λ (l : List Entry). IsOffSomewhere found (numbers l) c.args.parents.now) c.items.ensures (c.note_entries.ensures.not c.if-note_entries.false) in
    entry_breaks found site (content h) t are ino es held c.args.parents.now named below off.0 off.1 rec parts
