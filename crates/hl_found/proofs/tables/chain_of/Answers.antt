use Rattle.std.specs.Global.{Vec}
use Rattle.std.specs.Prelude.{List, ◌≡◌}
use Rattle.std.proofs.lemmas.Result.{IfOk-weaker}
use Rattle.hl_summary.specs.declared.parts.Summary.{Summary}
use Rattle.hl_bytes.specs.Buffers.{block_of}
use Rattle.hl_image.specs.declared.chain.ChainPart.{ChainPart}
use Rattle.hl_image.specs.Chain.{IsCutChain, placed}
use Rattle.hl_image.specs.Newest.{start_of}
use Rattle.hl_found.specs.Found.{AreChainParts}
use Rattle.hl_found.proofs.TablesFound.{chain_found}
use Rattle.hl_found.proofs.tables.chain_of.Goals as goal

pub returns : goal.returns
returns c =
    let g = c.args.geometry.now in
    let image = block_of c.args.image.now in
    let rec = c.args.rec.now in
    IfOk-weaker c.chain_parts.result
    (λ (chain : Vec ChainPart). (parts : List Summary) × IsCutChain g image (start_of rec) rec.serial parts × (chain.items ≡ placed (start_of rec) parts))
    (λ (chain : Vec ChainPart). AreChainParts g image rec chain.items)
    (λ chain x. chain_found g image rec chain.items x.0 x.1 x.2)
    c.chain_parts.ensures
