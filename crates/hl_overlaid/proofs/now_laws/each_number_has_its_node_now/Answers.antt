use Rattle.std.proofs.Common.{◌≤◌, subst, sym}
use Rattle.hl_overlaid.proofs.NowLemmas.{get-nodes_now, now_past, now_zero}
use Rattle.hl_overlaid.proofs.now_laws.each_number_has_its_node_now.Goals as goal

pub returns-clause-each : goal.returns-clause-each
returns-clause-each r g o is last ino = get-nodes_now o is.table last ino

pub returns-clause-zero : goal.returns-clause-zero
returns-clause-zero r g o is last none = now_zero o is.table last none

pub returns-clause-past : goal.returns-clause-past
returns-clause-past r g o is last ino ge = now_past o is.table last ino (subst (λ n. n ≤ ino) (sym is.numbers) ge)
