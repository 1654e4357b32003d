use Rattle.hl_nodes.proofs.Frame.{limits_of, table_count}
use Rattle.hl_nodes.proofs.LaidTables.{laid_are_tables}
use Rattle.hl_nodes.proofs.image_laws.a_record_names_its_site.Goals as goal

pub returns : goal.returns
returns r = record {
  limits = λ g image rec newest volumes. limits_of g image rec newest volumes;
  count = λ g image rec newest volumes. table_count g image rec newest volumes;
  tables = λ g image c has. laid_are_tables g image c has;
}
