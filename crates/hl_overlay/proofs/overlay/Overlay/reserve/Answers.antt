use Rattle.std.proofs.Common.{rules, List, length, sym, subst}
use Rattle.hl_bytes.specs.declared.block.Block.{Block}
use Rattle.hl_bytes.specs.declared.records.BlockRecord.{BlockRecord}
use Rattle.hl_overlay.specs.Overlays.{AreNamed, where_in}
use Rattle.hl_overlay.proofs.overlay.Overlay.reserve.Goals as goal

pub invariant_of-self-2 : goal.invariant_of-self-2
invariant_of-self-2 c = record {
  named = subst (λ (bs : List (BlockRecord × Block)). AreNamed (length c.self.inside.drafts.places) (where_in c.self.inside.drafts) bs) (sym c.in_ok-reserve.ensures.items) c.self.invariant.named;
  room = record { there = search rules; small = search rules };
}
