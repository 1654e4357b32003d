use Rattle.std.proofs.Common.{sym, ◌∙◌, ◌+◌, ◌-◌, take, drop, arith, length-drop}
use Rattle.hl_script.proofs.Fronts.{behind_end}
use Rattle.hl_script.proofs.buffer.Buffer.read.Goals as goal

pub returns-in-Ok-clause-bytes : goal.returns-in-Ok-clause-bytes
returns-in-Ok-clause-bytes g c =
    let end = c.make_room-start.result + (c.self.inside.end - c.self.inside.start) in (
      take c.in-Ok.count (drop end c.read_behind.new.bytes.items),
      behind_end c.make_room-start.new.bytes.items c.read_behind.new.bytes.items _ _ _ _ (omega arith)
          (omega (arith, c.make_room-start.ensures.room, c.in-Ok.ensures.len)) c.in-Ok.ensures.front
          (c.make_room-start.ensures.same ∙ c.self.view_is),
      sym c.in-Ok.ensures.bound.1,
      c.in-Ok.ensures.bytes.0,
      λ zero. c.in-Ok.ensures.bytes.1 zero
          (simp length-drop (omega (arith, c.make_room-start.ensures.room, c.in-Ok.ensures.len))),
    )
