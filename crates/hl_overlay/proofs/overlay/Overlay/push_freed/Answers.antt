use Rattle.std.proofs.Common.{rules, ◌≡◌, ℕ, zero, suc, ◌+◌, ◌<◌, ◌≤◌, Bool, true, false, cond, List, [], ◌∷◌, ◌++◌, length, length-append, get_or, map, take, refl, sym, ◌∙◌, ap, arith, vec_capacity}
use Rattle.std.specs.List.{filter}
use Rattle.hl_overlay.specs.declared.draft.NodeDraft.{NodeDraft}
use Rattle.hl_overlay.specs.Drafting.{is_freed}
use Rattle.hl_overlay.specs.DraftTables.{freed_of, freed_record}
use Rattle.hl_overlay.proofs.overlay.Overlay.push_freed.Goals as goal

-- before a number that becomes free there are fewer of them than in all
freed_before : (ds : List NodeDraft) (i : ℕ) (d : NodeDraft) → i < length ds → d ≡ get_or ds i d → is_freed d ≡ true → length (freed_of (take i ds)) < length (freed_of ds)
freed_before [] i d lt is freed = absurd (omega arith)
freed_before (e ∷ ds) zero d lt is freed =
    let one : length (freed_of (e ∷ ds)) ≡ length (freed_of ds) + 1 = ap (λ (b : Bool). length (map freed_record (cond b (e ∷ filter is_freed ds) (filter is_freed ds)))) (ap is_freed (sym is) ∙ freed) ∙ omega arith in
    omega arith
freed_before (e ∷ ds) (suc i) d lt is freed = by (is_freed e) (freed_before ds i d (omega arith) is freed)
  where
    by : (b : Bool) → length (freed_of (take i ds)) < length (freed_of ds)
        → length (map freed_record (cond b (e ∷ filter is_freed (take i ds)) (filter is_freed (take i ds)))) < length (map freed_record (cond b (e ∷ filter is_freed ds) (filter is_freed ds)))
    by true lt = omega arith
    by false lt = lt

pub returns-in_err-push-clause-full : goal.returns-in_err-push-clause-full
returns-in_err-push-clause-full c =
    let before = freed_before c.drafts-draft-items.result.now c.freed.draft-index c.draft-item.result c.freed-test.true c.draft-item.is (sym c.is_freed.ensures ∙ c.if-is_freed.true) in
    let so_far : length c.freed.changes.items ≡ length c.args.changes.now.items + length (freed_of (take c.freed.draft-index c.drafts-draft-items.result.now)) = ap length c.freed.invariant.0 ∙ length-append c.args.changes.now.items (freed_of (take c.freed.draft-index c.drafts-draft-items.result.now)) in
    let same : length (freed_of c.drafts-draft-items.result.now) ≡ length (freed_of c.args.self.now.drafts.items) = ap (λ (ds : List NodeDraft). length (freed_of ds)) c.drafts-draft-items.ensures.value in
    let full = c.in_err-push.ensures.full in
    let grew = c.freed.invariant.1 in
    let less : vec_capacity c.args.changes.now < length c.args.changes.now.items + length (freed_of c.args.self.now.drafts.items) = omega arith in
    search rules
