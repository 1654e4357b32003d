use Rattle.hl_nodes.proofs.OneFiles.{one_files, one_site}
use Rattle.hl_nodes.proofs.image_laws.an_image_has_one_tree_of_files.Goals as goal

pub returns : goal.returns
returns c = record {
  site = λ blocks image shelf g h a b x y. one_site blocks image shelf g h a b x y;
  files = λ blocks image shelf g a b x y. one_files blocks g image shelf a b x y;
}
