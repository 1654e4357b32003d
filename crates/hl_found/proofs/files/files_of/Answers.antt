use Rattle.std.proofs.Common.{◌/◌, length, refl}
use Rattle.std.proofs.lemmas.Result.{IfOk-weaker}
use Rattle.hl_bytes.specs.Buffers.{block_of}
use Rattle.hl_found.specs.Files.{FindsFiles, FindsTree}
use Rattle.hl_found.specs.Found.{contents_found}
use Rattle.hl_found.specs.Shelves.{shelf_of}
use Rattle.hl_found.proofs.FilesFound.{files_found}
use Rattle.hl_found.proofs.files.files_of.Goals as goal

pub returns-in-Some : goal.returns-in-Some
returns-in-Some c =
    let g = c.args.geometry.now in
    let image = block_of c.args.image.now in
    let blocks = length c.args.image.now / 4096 in
    let shelf = shelf_of c.args.shelf.now in
    let contents = contents_found c.in-Some.found in
    let are = rw c.in-Some.is at c.in_ok-found.ensures in
    IfOk-weaker c.tree_in.result (FindsTree g image contents shelf) (FindsFiles blocks g image shelf)
    (files_found blocks g image contents shelf (c.if-not-has_label.ensures.label.0 refl) are.has) c.tree_in.ensures
