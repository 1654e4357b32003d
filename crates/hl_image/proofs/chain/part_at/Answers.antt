use Rattle.std.proofs.Common.{◌≡◌, ◌↔◌, ◌≤◌, ◌*◌, ap, refl, arith, Some, IsNone}
use Rattle.hl_bytes.specs.Buffers.{block_of}
use Rattle.hl_addr.specs.Layout.{Layout}
use Rattle.hl_summary.specs.declared.parts.Summary.{Summary}
use Rattle.hl_summary.specs.Parts.{Spells}
use Rattle.hl_image.specs.Places.{block_at}
use Rattle.hl_image.specs.Parts.{IsPart, NoPart}
use Rattle.hl_image.proofs.PartLemmas.{part_of_bytes, bytes_of_part}
use Rattle.hl_image.proofs.Walking.{if_ok_map}
use Rattle.hl_image.proofs.chain.part_at.Goals as goal

pub returns-clause-found : goal.returns-clause-found
returns-clause-found c =
    let g = c.args.geometry.now in
    let at = c.args.at in
    let high : at.seg ≤ g.log = omega (arith, ap (λ (v : Layout). v.log) c.geometry.view_is) in
    let P = Spells g at.seg at.block c.args.serial c.rest_of_segment-rest.result.now in
    let Q = IsPart g (block_of c.args.image.now) at c.args.serial in
    if_ok_map c.check.result (λ r. (s : Summary) → (r ≡ Some s) ↔ P s) (λ r. (s : Summary) → (r ≡ Some s) ↔ Q s)
    (λ r h s. (
      λ e. part_of_bytes g c.args.image.now at c.args.serial c.rest_of_segment-rest.result.now c.requires high (4096 * block_at g at) refl c.rest_of_segment-rest.ensures.bytes s ((h s).0 e),
      λ q. (h s).1 (bytes_of_part g c.args.image.now at c.args.serial c.rest_of_segment-rest.result.now c.requires high (4096 * block_at g at) refl c.rest_of_segment-rest.ensures.bytes s q),
    ))
    c.check.ensures.found

pub returns-clause-none : goal.returns-clause-none
returns-clause-none c =
    let g = c.args.geometry.now in
    let at = c.args.at in
    let high : at.seg ≤ g.log = omega (arith, ap (λ (v : Layout). v.log) c.geometry.view_is) in
    let P = Spells g at.seg at.block c.args.serial c.rest_of_segment-rest.result.now in
    if_ok_map c.check.result (λ r. IsNone r ↔ ((s : Summary) → ¬ P s)) (λ r. IsNone r ↔ NoPart g (block_of c.args.image.now) at c.args.serial)
    (λ r h. (
      λ e s q. h.0 e s (bytes_of_part g c.args.image.now at c.args.serial c.rest_of_segment-rest.result.now c.requires high (4096 * block_at g at) refl c.rest_of_segment-rest.ensures.bytes s q),
      λ no. h.1 (λ s p. no s (part_of_bytes g c.args.image.now at c.args.serial c.rest_of_segment-rest.result.now c.requires high (4096 * block_at g at) refl c.rest_of_segment-rest.ensures.bytes s p)),
    ))
    c.check.ensures.none
