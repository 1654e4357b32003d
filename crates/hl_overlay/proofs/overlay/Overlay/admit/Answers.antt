use Rattle.std.proofs.Common.{rules, ◌≡◌, None, List, length, sym, subst}
use Rattle.hl_bytes.specs.declared.block.Block.{Block}
use Rattle.hl_bytes.specs.declared.records.BlockRecord.{BlockRecord}
use Rattle.hl_overlay.specs.DraftTables.{draft_of}
use Rattle.hl_overlay.specs.Overlays.{AreNamed, OverlayValue, where_in}
use Rattle.hl_overlay.proofs.OverlayLemmas.{admitted_named}
use Rattle.hl_overlay.proofs.overlay.Overlay.admit.Goals as goal

pub invariant_of-self-2 : goal.invariant_of-self-2
invariant_of-self-2 c =
    let none : draft_of c.self.inside.drafts c.args.draft.ino ≡ None = subst (λ (x : OverlayValue). draft_of x.drafts c.args.draft.ino ≡ None) (sym c.self.view_is) c.requires.absent in
    let are : AreNamed (length c.self.inside.drafts.places) (where_in c.self.inside.drafts) c.reserve.new.self.items = subst (λ (bs : List (BlockRecord × Block)). AreNamed (length c.self.inside.drafts.places) (where_in c.self.inside.drafts) bs) (sym c.in_ok-reserve.ensures.items) c.self.invariant.named in
    record { named = admitted_named c.self.inside.drafts c.admit.new.self c.reserve.new.self.items c.args.draft c.in_ok-admit.ensures.ok none c.requires.is c.requires.unchanged are; room = record { there = search rules; small = search rules } }
