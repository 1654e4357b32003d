use Rattle.std.proofs.Common.{◌≡◌, ◌-◌, ◌+◌, ℕ, List, sym, ◌∙◌, ap}
use Rattle.std.proofs.lemmas.List.{with_items_is}
use Rattle.hl_overlay.specs.declared.pointers.Pointer.{Pointer}
use Rattle.hl_overlay.specs.Pointing.{where_is}
use Rattle.hl_tally.specs.Counting.{charge_at, charge_held, far_charge, removed, without_block, without_own, without_pointer_block}
use Rattle.hl_store.proofs.CountLemmas.{tally_same, far_gone, near_stays, not_kept, charge_reckoned}
use Rattle.hl_store.proofs.counts.Counts.change_block.Goals as goal
use Rattle.hl_store.proofs.counts.Counts.change_block.Goals.{then-i-ge-DIRECT, else-i-ge-DIRECT, in-Kept, in_default}

pub returns-clause-counts : goal.returns-clause-counts
returns-clause-counts c = λ g h d e k_is log_is held_is was_is before_is is_is room.
    let old = c.args.self.now in
    let k = c.args.k in
    let i = c.args.i in
    let before = c.args.before in
    let own = c.let_own_go.ensures in
    let at_first : c.if-i-ge-DIRECT.self-inside.in_use ≡ c.self.inside.in_use = elim c.if-i-ge-DIRECT.branch [
      | then-i-ge-DIRECT w ↦ ap (λ x. x.in_use) w.self-inside-is
      | else-i-ge-DIRECT w ↦ ap (λ x. x.in_use) w.self-inside-is
    ] in
    let then_in_use : c.match-before.self-inside.in_use ≡ c.if-i-ge-DIRECT.self-inside.in_use = elim c.match-before.branch [
      | in-Kept v ↦ ap (λ x. x.in_use) v.self-inside-is
      | in_default v ↦ ap (λ x. x.in_use) v.self-inside-is
    ] in
    let at_charge : c.if-i-ge-DIRECT.self-inside.charge ≡ c.self.inside.charge = elim c.if-i-ge-DIRECT.branch [
      | then-i-ge-DIRECT w ↦ ap (λ x. x.charge) w.self-inside-is
      | else-i-ge-DIRECT w ↦ ap (λ x. x.charge) w.self-inside-is
    ] in
    let then_charge : c.match-before.self-inside.charge ≡ c.if-i-ge-DIRECT.self-inside.charge = elim c.match-before.branch [
      | in-Kept v ↦ ap (λ x. x.charge) v.self-inside-is
      | in_default v ↦ ap (λ x. x.charge) v.self-inside-is
    ] in
    let at_live : c.if-i-ge-DIRECT.self-inside.live.items ≡ without_pointer_block k d i c.self.inside.live.items = elim c.if-i-ge-DIRECT.branch [
      | then-i-ge-DIRECT w ↦ ap (λ x. x.live.items) w.self-inside-is ∙ with_items_is c.self.inside.live w.remove_live.new.live (w.remove_live.auto.live ∙ w.deref_mut.ensures.len) ∙ w.remove_live.ensures ∙ ap (λ (l : List ℕ). removed k l c.args.was.now.single) w.deref_mut.ensures.value
          ∙ far_gone k i c.args.was.now.single d c.self.inside.live.items w.if-i-ge-DIRECT.true (ap (λ x. x.single) was_is)
      | else-i-ge-DIRECT w ↦ ap (λ x. x.live.items) w.self-inside-is ∙ near_stays k i d c.self.inside.live.items w.if-i-ge-DIRECT.false
    ] in
    let then_live : c.match-before.self-inside.live.items ≡ without_block k before c.if-i-ge-DIRECT.self-inside.live.items = elim c.match-before.branch [
      | in-Kept v ↦ ap (λ x. x.live.items) v.self-inside-is ∙ with_items_is c.if-i-ge-DIRECT.self-inside.live v.remove_live-in-Kept.new.live (v.remove_live-in-Kept.auto.live ∙ v.deref_mut-in-Kept.ensures.len) ∙ v.remove_live-in-Kept.ensures ∙ ap (λ (l : List ℕ). removed k l v.in-Kept.addr) v.deref_mut-in-Kept.ensures.value
          ∙ sym (ap (λ (p : Pointer). without_block k p c.if-i-ge-DIRECT.self-inside.live.items) v.in-Kept.is)
      | in_default v ↦ ap (λ x. x.live.items) v.self-inside-is ∙ not_kept k before c.if-i-ge-DIRECT.self-inside.live.items v.in_default.not-Kept
    ] in
    let own_live : c.self.inside.live.items ≡ without_own k d old.live = ap (λ x. x.live) c.self.view_is ∙ own.live d was_is in
    let own_charge : c.self.inside.charge ≡ old.charge = ap (λ x. x.charge) c.self.view_is ∙ ap (λ x. x.charge) own.rest in
    let own_in_use : c.self.inside.in_use ≡ old.in_use = ap (λ x. x.in_use) c.self.view_is ∙ ap (λ x. x.in_use) own.rest in
    let charged : c.saturating_sub-self-inside.result ≡ (old.charge + (c.args.held + c.far_charge-2.result)) - (c.charge_at.result + c.far_charge.result) =
    charge_reckoned c.saturating_sub-self-inside.result c.saturating_add.result c.match-before.self-inside.charge c.args.held c.far_charge-2.result c.charge_at.result c.far_charge.result old.charge
    c.saturating_add.ensures c.saturating_sub-self-inside.ensures (then_charge ∙ at_charge ∙ own_charge) room c.requires.held c.far_charge-2.ensures.most in
    tally_same _ _
    (then_in_use ∙ at_first ∙ own_in_use)
    (charged
    ∙ ap (λ (n : ℕ). (old.charge + (n + c.far_charge-2.result)) - (c.charge_at.result + c.far_charge.result)) (sym held_is)
    ∙ ap (λ (n : ℕ). (old.charge + (charge_held h + n)) - (c.charge_at.result + c.far_charge.result)) (c.far_charge-2.ensures.value e is_is)
    ∙ ap (λ (n : ℕ). (old.charge + (charge_held h + far_charge e)) - (n + c.far_charge.result)) (c.charge_at.ensures.value g k_is log_is ∙ sym (ap (charge_at g) before_is))
    ∙ ap (λ (n : ℕ). (old.charge + (charge_held h + far_charge e)) - (charge_at g (where_is d.pointers i) + n)) (c.far_charge.ensures.value d was_is))
    (then_live ∙ ap (without_block k before) at_live ∙ ap (λ (l : List ℕ). without_block k before (without_pointer_block k d i l)) own_live
    ∙ sym (ap (λ (p : Pointer). without_block k p (without_pointer_block k d i (without_own k d old.live))) before_is)
    ∙ sym (ap (λ (n : ℕ). without_block n (where_is d.pointers i) (without_pointer_block n d i (without_own n d old.live))) k_is))
