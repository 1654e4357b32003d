use Rattle.hl_overlay.proofs.OverlayLemmas.{put_over}
use Rattle.hl_overlay.proofs.overlay.Overlay.put.Goals as goal

pub returns-in-New-clause-put : goal.returns-in-New-clause-put
returns-in-New-clause-put c = (put_over c.args.self.now c.write_over.new.self c.args.ino c.args.i c.in-New.n c.args.bytes.now c.requires.block.draft c.in-New.ensures.is c.requires.number c.requires.block.is (c.in-New.ensures.draft c.requires.block.draft c.requires.block.is).0 c.in-New.ensures.value c.write_over.ensures).0

pub returns-in-New-clause-rest : goal.returns-in-New-clause-rest
returns-in-New-clause-rest c = (put_over c.args.self.now c.write_over.new.self c.args.ino c.args.i c.in-New.n c.args.bytes.now c.requires.block.draft c.in-New.ensures.is c.requires.number c.requires.block.is (c.in-New.ensures.draft c.requires.block.draft c.requires.block.is).0 c.in-New.ensures.value c.write_over.ensures).1
