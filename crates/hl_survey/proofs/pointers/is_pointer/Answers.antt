use Rattle.std.proofs.Common.{ℕ, sym, subst}
use Rattle.hl_addr.specs.Place.{IsAt}
use Rattle.hl_addr.specs.declared.place.Place.{Place}
use Rattle.hl_addr.specs.declared.place.Place.TheVariants.{Tertiary}
use Rattle.hl_survey.specs.Pointing.{HoldsBlock}
use Rattle.hl_survey.proofs.Classes.{away_pointer, no_pointer, pointer_away}
use Rattle.hl_survey.proofs.pointers.is_pointer.Goals as goal

pub returns-in_default : goal.returns-in_default
returns-in_default c = (
  λ e. absurd cc,
  λ is. absurd (no_pointer c.args.geometry.now c.args.slots.now c.args.kind c.args.address c.class.result c.class.ensures.only c.in_default.not-Log c.in_default.not-Tertiary c.in_default.not-Nothing is),
)

pub returns-in-Tertiary : goal.returns-in-Tertiary
returns-in-Tertiary c =
    let g = c.args.geometry.now in
    let at : IsAt g c.args.address (Tertiary c.in-Tertiary.volume c.in-Tertiary.slot c.in-Tertiary.block) = subst (λ (x : Place). IsAt g c.args.address x) c.in-Tertiary.is c.class.ensures.at in
    let Holds : ℕ → Type 0 = λ n. HoldsBlock c.held_slot-held.result c.args.kind c.in-Tertiary.block n in (
      λ so. away_pointer g c.args.slots.now c.args.kind c.args.address c.class.result c.class.ensures.only c.in-Tertiary.volume c.in-Tertiary.slot c.in-Tertiary.block at
          c.held_slot-held.result (sym c.held_slot-held.ensures) (subst Holds c.data_max.ensures (c.holds_block.ensures.0 so)),
      λ is. c.holds_block.ensures.1 (subst Holds (sym c.data_max.ensures) (pointer_away g c.args.slots.now c.args.kind c.args.address c.class.result c.class.ensures.only
          c.in-Tertiary.volume c.in-Tertiary.slot c.in-Tertiary.block at c.held_slot-held.result (sym c.held_slot-held.ensures) is)),
    )
