use Rattle.hl_overlaid.proofs.DraftBlocks.{now_held, now_shape}
use Rattle.hl_overlaid.proofs.KeptBlocks.{held_stands}
use Rattle.hl_overlaid.proofs.draft_laws.a_draft_is_of_the_node_now.Goals as goal

pub returns-clause-shape : goal.returns-clause-shape
returns-clause-shape r g image c o has whole over ino high d at = now_shape g image c o has whole over ino high d at

pub returns-clause-blocks : goal.returns-clause-blocks
returns-clause-blocks r g image c o has whole over ino high d at i few h held = now_held g image c o has whole over ino high d at i few h held

pub returns-clause-kept : goal.returns-clause-kept
returns-clause-kept r g image c o has whole over ino high d at i addr small held n is = held_stands g image c o has whole over ino high d at i addr small held n is
