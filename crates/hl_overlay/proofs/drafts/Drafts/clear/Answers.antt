use Rattle.std.proofs.Common.{List, length, sym, ap, subst}
use Rattle.std.specs.Prelude.{count_by}
use Rattle.hl_overlay.specs.declared.draft.NodeDraft.{NodeDraft}
use Rattle.hl_overlay.specs.Clearing.{IsClearedTo}
use Rattle.hl_overlay.specs.Drafting.{is_freed}
use Rattle.hl_overlay.specs.DraftTables.{others_in}
use Rattle.hl_overlay.proofs.TableLemmas.{cleared}
use Rattle.hl_overlay.proofs.TrimLemmas.{numbers_in}
use Rattle.hl_overlay.proofs.drafts.Drafts.clear.Goals as goal

pub forget-requires : goal.forget-requires
forget-requires c = numbers_in _ c.as_slice.result.now c.self.invariant.table c.as_slice.ensures.value

pub invariant_of-self : goal.invariant_of-self
invariant_of-self c = record {
  table = cleared _ _ c.self.invariant.table c.clear.ensures.items (subst (λ (xs : List NodeDraft). IsClearedTo (length xs) xs c.self.inside.places.items c.forget.new.places.items) c.as_slice.ensures.value c.forget.ensures);
  others_are = sym (ap others_in c.clear.ensures.items);
  freed_are = sym (ap (count_by is_freed) c.clear.ensures.items);
}
