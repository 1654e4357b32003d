use Rattle.hl_tables.proofs.TableSpelling.{tables_decide}
use Rattle.hl_tables.proofs.laws.told_by_blocks.Goals as goal

pub returns : goal.returns
returns c = λ g one other limits a b same. tables_decide g limits one other a b same
