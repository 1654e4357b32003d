use Rattle.std.proofs.Common.{refl}
use Rattle.hl_paths.specs.Entries.{with_entry, without_entry}
use Rattle.hl_rename.proofs.EditedBytes.{become_both, renamed_size, same_through}
use Rattle.hl_rename.proofs.editing.renamed.Goals as goal

pub returns-clause-edits : goal.returns-clause-edits
returns-clause-edits c =
    record {
      number = refl;
      become = become_both (without_entry c.args.name.now) (with_entry c.args.to_name.now c.args.number) c.args.parent.bytes.items c.remove.new.bytes.items c.insert.new.bytes.items c.remove.ensures.entries (c.in-Ok.ensures.entries c.requires);
      front = same_through c.in_ok-first.first c.in-Ok.second c.lower-from.result c.args.parent.bytes.items c.remove.new.bytes.items c.insert.new.bytes.items c.lower-from.ensures.one c.lower-from.ensures.other c.in_ok-first.ensures.front c.in-Ok.ensures.front;
    }

pub returns-clause-size : goal.returns-clause-size
returns-clause-size c =
    λ es spells some. renamed_size es c.args.name.now c.args.to_name.now c.args.parent.bytes.items c.remove.new.bytes.items c.insert.new.bytes.items spells some c.in_ok-first.ensures.len
    (c.in-Ok.ensures.len (without_entry c.args.name.now es) (c.remove.ensures.entries es spells))
