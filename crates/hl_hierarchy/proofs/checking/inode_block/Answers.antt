use Rattle.std.proofs.Common.{◌≡◌, sym, ap, ◌∙◌}
use Rattle.std.specs.Prelude.{Some, None}
use Rattle.std.proofs.lemmas.List.{get_or_default}
use Rattle.hl_survey.specs.declared.found.FoundInode.{FoundInode}
use Rattle.hl_hierarchy.specs.Naming.{at_number}
use Rattle.hl_hierarchy.proofs.NamedNumbers.{one_dir}
use Rattle.hl_hierarchy.proofs.checking.inode_block.Goals as goal

pub returns-in-Some : goal.returns-in-Some
returns-in-Some c = λ dir is.
    let own : at_number c.args.found.now c.args.ino ≡ Some c.in-Some.dir = get_or_default c.args.found.now c.args.ino None c.index-found-ino.result c.requires ∙ sym c.index-found-ino.is ∙ c.in-Some.is in
    ap (λ (d : FoundInode). d.address) (one_dir c.args.found.now c.args.ino c.in-Some.dir dir own is)

pub returns-in-None : goal.returns-in-None
returns-in-None c = λ dir is.
    let none : at_number c.args.found.now c.args.ino ≡ None = get_or_default c.args.found.now c.args.ino None c.index-found-ino.result c.requires ∙ sym c.index-found-ino.is ∙ c.in-None.is in
    let x = sym none ∙ is in
    absurd (cc)
