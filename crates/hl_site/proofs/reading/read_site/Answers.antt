use Rattle.toml.specs.View.{table_view}
use Rattle.hl_site.proofs.Documents.{reads_document}
use Rattle.hl_site.proofs.reading.read_site.Goals as goal

pub returns-in-Ok : goal.returns-in-Ok
returns-in-Ok c = reads_document c.args.text.now (table_view c.in-Ok.table) c.site_in.result c.in-Ok.ensures.ok c.site_in.ensures
