use Rattle.std.proofs.Common.{rules, ◌≢◌, ℕ, Some, ap, arith}
use Rattle.hl_overlay.specs.declared.pointers.Pointer.TheVariants.{New}
use Rattle.hl_overlay.specs.Overlays.{where_in}
use Rattle.hl_overlay.proofs.NamedLemmas.{one_value}
use Rattle.hl_overlay.proofs.OverlayLemmas.{replaced_but_in, replaced_new_in, replaced_old_in, within_pointers}
use Rattle.hl_overlay.proofs.overlay.Overlay.replace.Goals as goal

pub drop_block-requires-clause-named : goal.drop_block-requires-clause-named
drop_block-requires-clause-named c =
    let within = within_pointers c.args.self.now.drafts c.args.ino c.args.i c.requires.block.draft c.pointer-before.ensures.draft c.requires.block.is in
    replaced_but_in (record { drafts = c.self.inside.drafts; blocks = c.self.inside.blocks.items; room = c.self.inside.room }) c.args.self.now c.self.view_is c.point.new.self c.args.ino c.args.i c.in-New.n c.args.pointer c.requires.block.draft c.requires.not_new c.self.invariant.named c.requires.number c.requires.block.is within c.in-New.ensures.value c.point.ensures.moved

pub invariant_of-self : goal.invariant_of-self
invariant_of-self c =
    let within = within_pointers c.args.self.now.drafts c.args.ino c.args.i c.requires.block.draft c.pointer-before.ensures.draft c.requires.block.is in record {
      named = (replaced_new_in (record { drafts = c.self.inside.drafts; blocks = c.self.inside.blocks.items; room = c.self.inside.room }) c.args.self.now c.self.view_is c.point.new.self c.drop_block.new.drafts c.drop_block.new.blocks.items c.args.ino c.args.i c.args.pointer c.requires.block.draft c.requires.not_new c.requires.number c.requires.block.is within c.point.ensures.moved c.drop_block.ensures.drops).0;
      room = record { there = first_of (search rules, omega arith); small = first_of (search rules, omega arith) };
    }

pub returns-in-New-clause-put : goal.returns-in-New-clause-put
returns-in-New-clause-put c =
    let within = within_pointers c.args.self.now.drafts c.args.ino c.args.i c.requires.block.draft c.pointer-before.ensures.draft c.requires.block.is in
    (replaced_new_in (record { drafts = c.self.inside.drafts; blocks = c.self.inside.blocks.items; room = c.self.inside.room }) c.args.self.now c.self.view_is c.point.new.self c.drop_block.new.drafts c.drop_block.new.blocks.items c.args.ino c.args.i c.args.pointer c.requires.block.draft c.requires.not_new c.requires.number c.requires.block.is within c.point.ensures.moved c.drop_block.ensures.drops).1

pub returns-in-New-clause-rest : goal.returns-in-New-clause-rest
returns-in-New-clause-rest c =
    let within = within_pointers c.args.self.now.drafts c.args.ino c.args.i c.requires.block.draft c.pointer-before.ensures.draft c.requires.block.is in
    (replaced_new_in (record { drafts = c.self.inside.drafts; blocks = c.self.inside.blocks.items; room = c.self.inside.room }) c.args.self.now c.self.view_is c.point.new.self c.drop_block.new.drafts c.drop_block.new.blocks.items c.args.ino c.args.i c.args.pointer c.requires.block.draft c.requires.not_new c.requires.number c.requires.block.is within c.point.ensures.moved c.drop_block.ensures.drops).2

pub invariant_of-self-in_default : goal.invariant_of-self-in_default
invariant_of-self-in_default c =
    let within = within_pointers c.args.self.now.drafts c.args.ino c.args.i c.requires.block.draft c.pointer-before.ensures.draft c.requires.block.is in
    let other : (n : ℕ) → where_in c.args.self.now.drafts c.args.ino c.args.i ≢ Some (New n) = (λ n at. c.in_default.not-New n (one_value c.pointer-before.ensures.value at)) in record {
      named = (replaced_old_in (record { drafts = c.self.inside.drafts; blocks = c.self.inside.blocks.items; room = c.self.inside.room }) c.args.self.now c.self.view_is c.point.new.self c.args.ino c.args.i c.args.pointer c.requires.block.draft c.requires.not_new c.self.invariant.named c.requires.number c.requires.block.is within other c.point.ensures.moved).0;
      room = c.self.invariant.room;
    }

pub returns-in_default : goal.returns-in_default
returns-in_default c =
    let within = within_pointers c.args.self.now.drafts c.args.ino c.args.i c.requires.block.draft c.pointer-before.ensures.draft c.requires.block.is in
    let other : (n : ℕ) → where_in c.args.self.now.drafts c.args.ino c.args.i ≢ Some (New n) = (λ n at. c.in_default.not-New n (one_value c.pointer-before.ensures.value at)) in
    let done = replaced_old_in (record { drafts = c.self.inside.drafts; blocks = c.self.inside.blocks.items; room = c.self.inside.room }) c.args.self.now c.self.view_is c.point.new.self c.args.ino c.args.i c.args.pointer c.requires.block.draft c.requires.not_new c.self.invariant.named c.requires.number c.requires.block.is within other c.point.ensures.moved in
    record { put = done.1; rest = done.2; before = c.pointer-before.ensures.value; room = ap (λ x. x.room) c.self.view_is }
