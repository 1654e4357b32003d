use Rattle.std.proofs.Common.{rules, ◌-◌, ◌<◌, length, slice_set, refl, sym, ap, subst, arith}
use Rattle.std.proofs.lemmas.Option.{slice_get_read}
use Rattle.hl_overlay.specs.Overlays.{OverlayValue}
use Rattle.hl_overlay.proofs.OverlayLemmas.{written_over, writes_over_in}
use Rattle.hl_overlay.proofs.overlay.Overlay.write_over.Goals as goal

pub invariant_of-self : goal.invariant_of-self
invariant_of-self c =
    let lt : c.args.n < length c.self.inside.blocks.items = subst (λ (x : OverlayValue). c.args.n < length x.blocks) (sym c.self.view_is) c.requires.within in record {
      named = written_over (record { drafts = c.self.inside.drafts; blocks = c.self.inside.blocks.items; room = c.self.inside.room }) 0 c.args.n c.index_mut.result.now c.copy_from_slice.new.self c.self.invariant.named (slice_get_read c.self.inside.blocks.items (length c.self.inside.blocks.items) c.args.n c.index_mut.result.now refl lt c.index_mut.ensures.value);
      room = record { there = search rules; small = search rules };
    }

pub returns : goal.returns
returns c =
    let lt : c.args.n < length c.self.inside.blocks.items = subst (λ (x : OverlayValue). c.args.n < length x.blocks) (sym c.self.view_is) c.requires.within in
    writes_over_in (record { drafts = c.self.inside.drafts; blocks = c.self.inside.blocks.items; room = c.self.inside.room }) c.args.self.now (record { drafts = c.self.inside.drafts; blocks = slice_set c.self.inside.blocks.items c.args.n (c.index_mut.result.now.0, record { bytes = c.copy_from_slice.new.self }); room = c.self.inside.room - 1 }) c.self.view_is c.args.n c.index_mut.result.now c.args.bytes.now (slice_get_read c.self.inside.blocks.items (length c.self.inside.blocks.items) c.args.n c.index_mut.result.now refl lt c.index_mut.ensures.value)
    refl (ap (λ bytes. slice_set c.self.inside.blocks.items c.args.n (c.index_mut.result.now.0, record { bytes = bytes })) c.copy_from_slice.ensures.after) (let room : 0 < c.self.inside.room = subst (λ (x : OverlayValue). 0 < x.room) (sym c.self.view_is) c.requires.room in omega arith)
