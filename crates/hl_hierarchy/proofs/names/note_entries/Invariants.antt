use Rattle.hl_hierarchy.specs.Naming.{numbers, NotesEach}
use Rattle.hl_hierarchy.proofs.names.note_entries.Given as goal

abbrev pub invariant-entries : goal.invariant-entries
invariant-entries l = NotesEach l.found (numbers l.entries) l.k l.fn.parents l.parents l.ino
