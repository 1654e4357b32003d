use Rattle.hl_bytes.proofs.PageLemmas.{ended_over}
use Rattle.hl_bytes.proofs.pages.end_page_over.Goals as goal

pub returns : goal.returns
returns c = ended_over c.args.bytes.now c.put_zeros.new.bytes c.seal_over.new.bytes c.args.end c.requires.within c.requires.size c.put_zeros.ensures.front c.put_zeros.ensures.whole c.seal_over.ensures
