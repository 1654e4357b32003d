use Rattle.std.proofs.Common.{◌≡◌, sym, ap, ◌∙◌}
use Rattle.std.specs.Prelude.{Some, None}
use Rattle.std.proofs.lemmas.List.{get_or_default}
use Rattle.hl_media.specs.History.{content}
use Rattle.hl_inode.specs.declared.inode.Kind.TheVariants.{File, Dir}
use Rattle.hl_survey.specs.declared.found.FoundInode.{FoundInode}
use Rattle.hl_survey.proofs.Unchanged.{reads_none}
use Rattle.hl_hierarchy.specs.Naming.{at_number}
use Rattle.hl_hierarchy.proofs.NamedNumbers.{named_beside, one_dir}
use Rattle.hl_hierarchy.proofs.naming.name_number.Goals as goal

pub name_directory-requires-clause-dir : goal.name_directory-requires-clause-dir
name_directory-requires-clause-dir g c = get_or_default c.args.found.now c.args.ino None c.index-found-ino.result c.requires.high ∙ sym c.index-found-ino.is ∙ c.in-Some.is

pub returns-in-None-clause-names : goal.returns-in-None-clause-names
returns-in-None-clause-names g c h e t are named =
    let none : at_number c.args.found.now c.args.ino ≡ None = get_or_default c.args.found.now c.args.ino None c.index-found-ino.result c.requires.high ∙ sym c.index-found-ino.is ∙ c.in-None.is in
    named_beside c.args.found.now c.args.geometry.now (content h) t are c.args.parents.now c.args.ino (λ dir is kind. (let x = sym none ∙ is in cc)) named

pub returns-in-None-clause-machine : goal.returns-in-None-clause-machine
returns-in-None-clause-machine g c = reads_none c.args.machine.now

pub returns-in-File-clause-names : goal.returns-in-File-clause-names
returns-in-File-clause-names g c h e t are named =
    let own : at_number c.args.found.now c.args.ino ≡ Some c.in-Some.dir = get_or_default c.args.found.now c.args.ino None c.index-found-ino.result c.requires.high ∙ sym c.index-found-ino.is ∙ c.in-Some.is in
    named_beside c.args.found.now c.args.geometry.now (content h) t are c.args.parents.now c.args.ino
    (λ dir is kind. (let x : File ≡ Dir = sym c.in-File.is ∙ ap (λ (d : FoundInode). d.inode.kind) (one_dir c.args.found.now c.args.ino c.in-Some.dir dir own is) ∙ kind in cc)) named

pub returns-in-File-clause-machine : goal.returns-in-File-clause-machine
returns-in-File-clause-machine g c = reads_none c.args.machine.now
