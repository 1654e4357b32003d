use Rattle.std.proofs.Common.{◌/◌, ◌-◌, ◌≡◌, length, ap, refl}
use Rattle.std.proofs.lemmas.Result.{IfOk-weaker}
use Rattle.hl_links.specs.Links.{IsPrepared, IsReady}
use Rattle.hl_links.proofs.ReadyRooms.{directory_ready}
use Rattle.hl_links.proofs.changing.DirectoryChange.prepare.Goals as goal

pub returns-clause-ready : goal.returns-clause-ready
returns-clause-ready g c =
    let change = c.args.self.now in
    let size_is : length c.as_slice-size.result.now ≡ length change.bytes.items = ap length c.as_slice-size.ensures.value in
    IfOk-weaker c.prepare.result (λ done. IsPrepared {M = g.row.M.Denot} c.args.store.now c.prepare.new.store change.number (c.div_ceil-end.result - change.from / 4096))
    (λ done. IsReady {M = g.row.M.Denot} c.args.store.now c.prepare.new.store change)
    (λ done prepared. directory_ready {M = g.row.M.Denot} c.args.store.now c.prepare.new.store change (length c.as_slice-size.result.now) (change.from / 4096) c.div_ceil-end.result size_is
    c.if-size-gt-FILE_MAX.false c.if-size-self.false refl c.div_ceil-end.ensures prepared)
    c.prepare.ensures.ready
