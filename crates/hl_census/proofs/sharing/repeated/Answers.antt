use Rattle.std.proofs.Common.{ℕ, List, sym, subst}
use Rattle.std.specs.List.Sorted.{IsNonDecreasing}
use Rattle.std.proofs.lemmas.List.Sorted.{IsNonDecreasingBy-from_sort}
use Rattle.hl_census.specs.Sharing.{TellsTwice}
use Rattle.hl_census.proofs.Repeats.{told_of_order}
use Rattle.hl_census.proofs.sharing.repeated.Goals as goal

pub twice-requires : goal.twice-requires
twice-requires c = subst (λ (l : List ℕ). IsNonDecreasing l) (sym c.as_slice.ensures.value) (IsNonDecreasingBy-from_sort (λ (x : ℕ). x) c.sort.new.self.items c.in_ok-sort.ensures.sorted)

pub returns : goal.returns
returns c = subst (λ (l : List ℕ). TellsTwice l c.twice.result) c.in_ok-sorted.ensures.items
    (told_of_order c.in_ok-sorted.sorted.items c.sort.new.self.items c.in_ok-sort.ensures.permutation c.twice.result
    (subst (λ (l : List ℕ). TellsTwice l c.twice.result) c.as_slice.ensures.value c.twice.ensures))
