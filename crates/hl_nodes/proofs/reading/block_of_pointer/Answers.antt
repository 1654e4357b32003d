use Rattle.std.proofs.Common.{ℕ, sym, subst}
use Rattle.hl_bytes.specs.Buffers.{block_of}
use Rattle.hl_addr.specs.Place.{IsAt}
use Rattle.hl_addr.specs.declared.place.Place.{Place}
use Rattle.hl_addr.specs.declared.place.Place.TheVariants.{Tertiary}
use Rattle.hl_nodes.specs.Found.{FindsAway}
use Rattle.hl_nodes.proofs.ClassLemmas.{no_block, away_found}
use Rattle.hl_nodes.proofs.reading.block_of_pointer.Goals as goal

pub returns-in-Tertiary : goal.returns-in-Tertiary
returns-in-Tertiary c =
    let g = c.args.geometry.now in
    let at : IsAt g c.args.address (Tertiary c.in-Tertiary.volume c.in-Tertiary.slot c.in-Tertiary.block) = subst (λ (x : Place). IsAt g c.args.address x) c.in-Tertiary.is c.class.ensures.at in
    away_found g c.args.slots.now (block_of c.args.image.now) c.args.kind c.args.address c.class.result c.class.ensures.only c.in-Tertiary.volume c.in-Tertiary.slot c.in-Tertiary.block at
    c.held_slot-held.result (sym c.held_slot-held.ensures) c.away_block.result (subst (λ (n : ℕ). FindsAway c.held_slot-held.result c.args.kind c.in-Tertiary.block n c.away_block.result) c.data_max.ensures c.away_block.ensures)

pub returns-in_default : goal.returns-in_default
returns-in_default c = no_block c.args.geometry.now c.args.slots.now (block_of c.args.image.now) c.args.kind c.args.address c.class.result c.class.ensures.only c.in_default.not-Log c.in_default.not-Tertiary c.in_default.not-Nothing
