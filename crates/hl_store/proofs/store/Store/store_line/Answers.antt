use Rattle.std.proofs.Common.{◌≤◌, ◌*◌, ◌∙◌, ap, sym, subst}
use Rattle.hl_addr.specs.Layout.{Layout}
use Rattle.hl_image.specs.Places.{log_end}
use Rattle.hl_nodes.specs.Lines.{line_start}
use Rattle.hl_store.specs.Values.{StoreValue}
use Rattle.hl_store.proofs.LineSteps.{area_written, part_all, write_did, write_lasts, write_stays}
use Rattle.hl_store.proofs.store.Store.store_line.Goals as goal

pub returns-clause-did : goal.returns-clause-did
returns-clause-did g c =
    let behind = subst (λ (l : Layout). log_end l ≤ c.line_start-at.result) c.geometry-2.ensures.value c.line_start-at.ensures.behind in
    let blocks = ap (λ (l : Layout). 4096 * l.k) (c.behind-self.view_is ∙ c.geometry.ensures.value) in
    let size = c.requires.size ∙ ap (λ (v : StoreValue g.row.M.Denot). 4096 * v.log.geometry.k) (sym c.self.view_is) ∙ sym blocks in
    write_did {M = g.row.M.Denot} g.M.Machine.history _ _ c.write.new.self c.write.result c.self.view_is c.write.ensures.same _ _ behind c.write.ensures.did c.args.line c.args.buf.now
    (c.line_start-at.ensures.value ∙ ap (λ (l : Layout). line_start l c.args.line) c.geometry-2.ensures.value) (c.part.ensures.value ∙ part_all c.args.buf.now _ size)

pub returns-clause-bytes : goal.returns-clause-bytes
returns-clause-bytes g c = area_written _ _ c.write.result _ _ c.args.buf.now c.requires.size (returns-clause-did g c)

pub returns-clause-crash : goal.returns-clause-crash
returns-clause-crash g c =
    let behind = subst (λ (l : Layout). log_end l ≤ c.line_start-at.result) c.geometry-2.ensures.value c.line_start-at.ensures.behind in
    write_lasts {M = g.row.M.Denot} g.M.Machine.history _ _ c.write.new.self c.write.result c.self.view_is c.write.ensures.same _ _ behind c.write.ensures.did

pub returns-clause-keeps : goal.returns-clause-keeps
returns-clause-keeps g c =
    let behind = subst (λ (l : Layout). log_end l ≤ c.line_start-at.result) c.geometry-2.ensures.value c.line_start-at.ensures.behind in
    write_stays {M = g.row.M.Denot} g.M.Machine.history _ _ c.write.new.self c.write.result c.self.view_is c.write.ensures.same _ _ behind c.write.ensures.did
