use Rattle.std.proofs.Common.{◌≡◌, ℕ, List, length, sym, ap, ◌∙◌, subst}
use Rattle.std.specs.Prelude.{None, Some}
use Rattle.std.specs.List.{slice_index_or}
use Rattle.hl_found.specs.declared.reach.Reached.{Reached}
use Rattle.hl_found.specs.declared.directories.FoundUse.TheVariants as use_of
use Rattle.hl_found.specs.Reach.{Goes, HasEntriesOf, LeadTo}
use Rattle.hl_found.proofs.ReachFound.{names_lead, children_go, no_children}
use Rattle.hl_found.proofs.reach.reach_children.Goals as goal

pub returns-in-Some : goal.returns-in-Some
returns-in-Some c = λ numbered are entries reached d.
    let old = c.args.reached.now.items in
    let new = c.reach_entries.new.reached.items in
    let x = slice_index_or old c.args.at d in
    let es = c.in-Some.entries.now in
    let path = c.in_ok-path.ensures d ∙ ap (λ (l : List Reached). (slice_index_or l c.args.at d).path) c.as_slice.ensures.value in
    let number = c.number_at-number.ensures d ∙ ap (λ (l : List Reached). (slice_index_or l c.args.at d).number) c.as_slice-2.ensures.value in
    let own = subst (λ (n : ℕ). slice_index_or c.args.uses.now n None ≡ Some (use_of.Directory es)) number c.in-Some.ensures in
    let lead = names_lead numbered c.args.uses.now are entries x.path x.number es (reached.lead c.args.at d c.requires.there) own in
    let goes = c.in_ok-linked-in-Some.ensures numbered are entries reached (subst (λ (p : List (List ℕ)). LeadTo numbered p es) (sym path) lead) in
    children_go numbered c.args.uses.now are entries old new x es c.in_ok-linked-in-Some.linked own
    (subst (λ (p : List (List ℕ)). Goes numbered old new (HasEntriesOf p es (length es) new) c.in_ok-linked-in-Some.linked) path goes)

pub returns : goal.returns
returns c = λ numbered are entries reached d.
    let old = c.args.reached.now.items in
    let number = c.number_at-number.ensures d ∙ ap (λ (l : List Reached). (slice_index_or l c.args.at d).number) c.as_slice-2.ensures.value in
    no_children numbered c.args.uses.now are entries old (slice_index_or old c.args.at d) reached
    (λ es own. c.in-None.ensures es (subst (λ (n : ℕ). slice_index_or c.args.uses.now n None ≡ Some (use_of.Directory es)) (sym number) own))
