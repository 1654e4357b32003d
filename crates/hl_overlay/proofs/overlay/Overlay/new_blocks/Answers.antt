use Rattle.std.proofs.Common.{◌≡◌, ◌*◌, ◌≤◌, length, rules, sym, subst, arith}
use Rattle.hl_overlay.specs.Overlays.{OverlayValue, where_in}
use Rattle.hl_overlay.proofs.CountLemmas.{blocks_few}
use Rattle.hl_overlay.proofs.overlay.Overlay.new_blocks.Goals as goal

pub returns-clause-most : goal.returns-clause-most
returns-clause-most c =
    let few = blocks_few (length c.self.inside.drafts.places) (where_in c.self.inside.drafts) c.self.inside.blocks.items c.self.invariant.named in
    let count : c.len.result ≡ length c.self.inside.blocks.items = first_of (search rules, omega arith) in
    subst (λ (x : OverlayValue). c.len.result ≤ 1036 * length x.drafts.places) c.self.view_is (subst (λ n. n ≤ 1036 * length c.self.inside.drafts.places) (sym count) few)
