use Rattle.std.proofs.Common.{◌≡◌, ◌⊎◌, inl, inr, ℕ, ◌/◌, ◌<◌, List, length, refl, sym, ap, ◌∙◌, subst, arith}
use Rattle.std.specs.Prelude.{IsTrue, nat_eq}
use Rattle.std.proofs.lemmas.Bool.Decides.{nat_tests}
use Rattle.std.specs.List.{slice_index_or}
use Rattle.hl_image.specs.declared.place.LogPlace.{LogPlace}
use Rattle.hl_image.specs.declared.chain.ChainPart.{ChainPart}
use Rattle.hl_nodes.specs.Sound.{head_of, IsMarked}
use Rattle.hl_found.specs.Found.{parts_found}
use Rattle.hl_found.specs.Segments.{HavePartIn}
use Rattle.hl_found.proofs.SegmentsFound.{to_used, from_used}
use Rattle.hl_found.proofs.segments.is_used.Goals as goal

pub returns-then-have_table_in : goal.returns-then-have_table_in
returns-then-have_table_in c = (
  λ yes. (let there = subst (λ (l : List ℕ). (i : ℕ) × (i < length l) × (slice_index_or l i 0 / c.args.geometry.now.k ≡ c.args.segment)) c.items.ensures (c.if-have_table_in.ensures.0 refl) in to_used c.args.geometry.now c.args.found.now c.requires.places c.args.segment (inr (inl there))),
  λ used. refl,
)

pub returns-then-have_part_in : goal.returns-then-have_part_in
returns-then-have_part_in c = (
  λ yes. to_used c.args.geometry.now c.args.found.now c.requires.places c.args.segment (inr (inr (inl (subst (λ (l : List ChainPart). HavePartIn c.args.geometry.now l c.args.segment) c.as_slice.ensures.value (c.if-have_part_in.ensures.0 refl))))),
  λ used. refl,
)

pub returns : goal.returns
returns c =
    let head = ap (λ (h : LogPlace). h.seg) c.requires.head in (
      λ yes. to_used c.args.geometry.now c.args.found.now c.requires.places c.args.segment (inr (inr (inr (sym head ∙ grind (arith, nat_tests, yes))))),
      λ used. by head (from_used c.args.geometry.now c.args.found.now c.requires.places c.args.segment used),
    )
  where
    by : c.args.head.seg ≡ (head_of c.args.found.now.rec (parts_found c.args.found.now.chain.items)).seg
        → IsMarked c.args.found.now.tables c.args.segment ⊎ (((i : ℕ) × (i < length c.args.found.now.rec.tables) × (slice_index_or c.args.found.now.rec.tables i 0 / c.args.geometry.now.k ≡ c.args.segment)) ⊎ (HavePartIn c.args.geometry.now c.args.found.now.chain.items c.args.segment ⊎ ((head_of c.args.found.now.rec (parts_found c.args.found.now.chain.items)).seg ≡ c.args.segment)))
        → IsTrue (nat_eq c.args.head.seg c.args.segment)
    by head (inl m) = absurd (let e = c.if-is_marked.ensures.1 m in cc)
    by head (inr (inl t)) = absurd (let e = c.if-have_table_in.ensures.1 (subst (λ (l : List ℕ). (i : ℕ) × (i < length l) × (slice_index_or l i 0 / c.args.geometry.now.k ≡ c.args.segment)) (sym c.items.ensures) t) in cc)
    by head (inr (inr (inl h))) = absurd (let e = c.if-have_part_in.ensures.1 (subst (λ (l : List ChainPart). HavePartIn c.args.geometry.now l c.args.segment) (sym c.as_slice.ensures.value) h) in cc)
    by head (inr (inr (inr e))) = (let same = head ∙ e in grind (arith, nat_tests))
