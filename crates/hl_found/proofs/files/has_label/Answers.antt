use Rattle.std.proofs.Common.{◌≡◌, true, ◌&&◌, refl, sym, ◌∙◌, subst, length, ◌/◌, arith}
use Rattle.std.proofs.lemmas.Bool.{eqb-true}
use Rattle.std.proofs.Math.Dec.{eqb, eqb_refl}
use Rattle.hl_bytes.specs.Buffers.{block_of}
use Rattle.hl_super.specs.Labels.{Spells}
use Rattle.hl_super.specs.declared.label.Label.{Label}
use Rattle.hl_image.specs.Newest.{label_of}
use Rattle.hl_found.proofs.files.has_label.Goals as goal

-- fields that are all the same make one label
same_label : (a b : Label) → (eqb a.k b.k && (eqb a.log b.log && (eqb a.lines b.lines && eqb a.inodes b.inodes))) ≡ true → a ≡ b
same_label a b e = grind (arith, eqb-true)

itself : (a b : Label) → a ≡ b → (eqb a.k b.k && (eqb a.log b.log && (eqb a.lines b.lines && eqb a.inodes b.inodes))) ≡ true
itself a b e = grind (arith, eqb_refl)

pub returns-in-Some-clause-label : goal.returns-in-Some-clause-label
returns-in-Some-clause-label c =
    let found = c.in-Some.ensures.found in (
      λ yes. subst (λ v. Spells (length c.args.image.now / 4096) (block_of c.args.image.now 0) v) (same_label c.in-Some.label c.label_of.result (sym c.eq.ensures ∙ yes) ∙ c.label_of.ensures.label)
          (subst (λ b. Spells (length c.args.image.now / 4096) b c.in-Some.label) c.block_at.ensures.bytes ((found c.in-Some.label).0 refl)),
      λ spells. c.eq.ensures ∙ itself c.in-Some.label c.label_of.result (let both = (found (label_of c.args.geometry.now)).1 (subst (λ b. Spells (length c.args.image.now / 4096) b (label_of c.args.geometry.now)) (sym c.block_at.ensures.bytes) spells) in let own = c.label_of.ensures.label in cc),
    )
