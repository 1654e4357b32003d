use Rattle.hl_media.specs.History.{content}
use Rattle.hl_recovery.proofs.SiteReads.{label_found}
use Rattle.hl_recovery.proofs.label.find_label.Goals as goal

pub returns-clause-found : goal.returns-clause-found
returns-clause-found g c =
    let found = rw c.blocks-blocks.ensures at c.decode_label.ensures.found in
    λ h e. label_found (g.M.Machine.blocks c.args.machine.now) (content h) c.read_block.new.out c.decode_label.result (c.in_ok-read_block.ensures.bytes h e) found
