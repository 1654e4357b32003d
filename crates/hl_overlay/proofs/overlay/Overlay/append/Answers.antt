use Rattle.std.proofs.Common.{rules, ◌≡◌, ◌-◌, ◌<◌, Some, length, sym, ap, subst, arith}
use Rattle.hl_overlay.specs.DraftTables.{draft_of}
use Rattle.hl_overlay.specs.Overlays.{OverlayValue, IsOverlay, PutsBlock, KeepsDrafts}
use Rattle.hl_overlay.specs.Overlays.Holding.{Fresh}
use Rattle.hl_overlay.proofs.OverlayLemmas.{appended_in}
use Rattle.hl_overlay.proofs.overlay.Overlay.append.Goals as goal

appends : (c : goal.After-self-1) → IsOverlay (record { drafts = c.point.new.self; blocks = c.push.new.self.items; room = c.self.inside.room - 1 })
    × PutsBlock c.args.self.now (record { drafts = c.point.new.self; blocks = c.push.new.self.items; room = c.self.inside.room - 1 }) c.args.ino c.args.i (Fresh c.args.bytes.now)
    × KeepsDrafts c.args.self.now (record { drafts = c.point.new.self; blocks = c.push.new.self.items; room = c.self.inside.room - 1 }) c.args.ino c.args.i
appends c =
    let facts = c.requires.draft c.requires.block.draft c.requires.block.is in
    let within : c.args.i < length c.requires.block.draft.pointers = (let count = facts.1 in let small = facts.2 in omega arith) in
    let at : draft_of c.self.inside.drafts c.args.ino ≡ Some c.requires.block.draft = subst (λ (x : OverlayValue). draft_of x.drafts c.args.ino ≡ Some c.requires.block.draft) (sym c.self.view_is) c.requires.block.is in
    appended_in (record { drafts = c.self.inside.drafts; blocks = c.self.inside.blocks.items; room = c.self.inside.room }) c.args.self.now (record { drafts = c.point.new.self; blocks = c.push.new.self.items; room = c.self.inside.room - 1 })
    c.self.view_is c.args.ino c.args.i (length c.as_slice.result.now) c.copied_block.result c.args.bytes.now c.requires.block.draft c.copied_block.ensures c.self.invariant.named c.requires.number c.requires.block.is within facts.2 c.requires.other (ap length c.as_slice.ensures.value) (c.point.ensures.moved c.requires.block.draft at) c.in-Ok.ensures.items

pub invariant_of-self : goal.invariant_of-self
invariant_of-self c = record { named = (appends c).0; room = record { there = search rules; small = search rules } }

pub returns-clause-put : goal.returns-clause-put
returns-clause-put c = (appends c).1

pub returns-clause-rest : goal.returns-clause-rest
returns-clause-rest c = (appends c).2
