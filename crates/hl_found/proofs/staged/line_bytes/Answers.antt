use Rattle.std.proofs.Common.{◌≡◌, ◌+◌, ◌-◌, ◌*◌, take, drop, subst, arith}
use Rattle.hl_addr.specs.Layout.{Layout}
use Rattle.hl_bytes.specs.Buffers.{block_of}
use Rattle.hl_nodes.specs.Lines.{line_bytes}
use Rattle.hl_found.proofs.StagedFound.{line_is}
use Rattle.hl_found.proofs.staged.line_bytes.Goals as goal

pub returns-clause-bytes : goal.returns-clause-bytes
returns-clause-bytes c =
    let n : 4096 * (c.geometry.inside.k * (c.geometry.inside.log + 1 + c.args.line)) + 4096 * c.geometry.inside.k - 4096 * (c.geometry.inside.k * (c.geometry.inside.log + 1 + c.args.line)) ≡ 4096 * c.geometry.inside.k = omega arith in
    subst (λ (g : Layout). take (4096 * (c.geometry.inside.k * (c.geometry.inside.log + 1 + c.args.line)) + 4096 * c.geometry.inside.k - 4096 * (c.geometry.inside.k * (c.geometry.inside.log + 1 + c.args.line))) (drop (4096 * (c.geometry.inside.k * (c.geometry.inside.log + 1 + c.args.line))) c.args.image.now) ≡ line_bytes g (block_of c.args.image.now) c.args.line)
    c.geometry.view_is
    (line_is (record { k = c.geometry.inside.k; log = c.geometry.inside.log; lines = c.geometry.inside.lines; inodes = c.geometry.inside.inodes; volumes = c.geometry.inside.volumes }) c.args.image.now c.args.line _ n)
