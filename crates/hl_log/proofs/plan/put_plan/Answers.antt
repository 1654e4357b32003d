use Rattle.std.proofs.Common.{◌≡◌, ◌+◌, ◌-◌, ◌≤◌, List, ◌++◌, ◌∷◌, [], ℕ, length, take, drop, refl, arith, ap, subst, sym, ◌∙◌}
use Rattle.std.specs.List.{range_with_len}
use Rattle.std.proofs.lemmas.List.{take_all}
use Rattle.hl_addr.specs.Layout.{Layout}
use Rattle.hl_image.specs.declared.place.LogPlace.{LogPlace}
use Rattle.hl_image.specs.Places.{block_at, IsLogPlace}
use Rattle.hl_log.specs.Cut.{addresses}
use Rattle.hl_log.specs.declared.piece.Piece.{Piece}
use Rattle.hl_log.proofs.Batching.{some_left}
use Rattle.hl_log.proofs.Cutting.{reached_first, none_reached, pushed, turn_place, turn_cleans, turn_more, turn_last, turn_smaller, within}
use Rattle.hl_log.proofs.plan.put_plan.Goals as goal

pub cut-init : goal.cut-init
cut-init c =
    let zero : length c.args.addresses.now - length c.args.addresses.now ≡ 0 = omega arith in
    let none : take (length c.args.addresses.now - length c.args.addresses.now) c.args.addresses.now ≡ [] = ap (λ (n : ℕ). take n c.args.addresses.now) zero in
    record {
      place = c.requires.place;
      cleans = c.requires.clean;
      used = omega arith;
      size = refl;
      some = omega arith;
      reached = ([], reached_first c.args.geometry.now c.args.head c.args.clean.now (length c.args.addresses.now) c.args.tables, none);
    }

pub unreachable-requires : goal.unreachable-requires
unreachable-requires c =
    none_reached c.args.geometry.now c.args.head c.args.clean.now (length c.args.addresses.now) c.args.tables c.cut.invariant.reached.0 c.cut.left.at (drop c.cut.left.used c.args.clean.now) c.cut.left.blocks c.cut.left.tables
    c.cut.invariant.reached.1 (λ p more takes. c.in_default.ensures p more takes) c.requires.enough

pub put_addresses-requires-clause-place : goal.put_addresses-requires-clause-place
put_addresses-requires-clause-place c = subst (IsLogPlace c.args.geometry.now) (sym c.in-Some.ensures.takes.at_is) c.cut.invariant.place

pub put_addresses-requires-clause-within : goal.put_addresses-requires-clause-within
put_addresses-requires-clause-within c =
    omega (arith, within c.args.geometry.now c.cut.left.at (drop c.cut.left.used c.args.clean.now) c.cut.left.blocks c.cut.left.tables c.in-Some.piece (drop c.in-Some.behind.used c.args.clean.now) c.cut.invariant.place c.in-Some.ensures.takes, ap (λ (x : LogPlace). x.block) c.in-Some.ensures.takes.at_is)

-- the addresses so far, with those of one more part
more_addresses : (g : Layout) (done : List Piece) (p : Piece) (n left behind : ℕ) (old new : List ℕ) → take (n - left) old ≡ addresses g done → take (n - left + p.blocks) new ≡ take (n - left) old ++ range_with_len (block_at g p.at + 1) p.blocks
    → behind ≡ left - p.blocks → p.blocks ≤ left → left ≤ n → take (n - behind) new ≡ addresses g (done ++ p ∷ [])
more_addresses g done p n left behind old new so_far more is le low =
    let e : n - behind ≡ n - left + p.blocks = omega arith in
    ap (λ (k : ℕ). take k new) e ∙ pushed g done p (take (n - left) old) (take (n - left + p.blocks) new) so_far more

pub returns-then-is_done : goal.returns-then-is_done
returns-then-is_done c =
    let G = c.args.geometry.now in
    let n = length c.args.addresses.now in
    let l = c.in-Some.ensures in
    let inv = c.cut.invariant in
    let r = inv.reached in
    let new = c.put_addresses.new.addresses in
    let none = c.is_done.ensures.0 c.if-is_done.true in
    let le : c.in-Some.piece.blocks ≤ c.cut.left.blocks = omega (arith, l.takes.blocks_are) in
    let all : n - c.in-Some.behind.blocks ≡ n = omega (arith, none.0) in
    let size : length new ≡ n = c.put_addresses.auto.addresses ∙ inv.size in (
      r.0 ++ c.in-Some.piece ∷ [],
      drop c.in-Some.behind.used c.args.clean.now,
      turn_last G c.args.head c.args.clean.now n c.args.tables c.cut.left c.in-Some.behind c.in-Some.piece l inv.place inv.cleans r.0 r.1 none.0 none.1,
      sym (take_all n new (omega arith)) ∙ ap (λ (k : ℕ). take k new) (sym all)
          ∙ more_addresses G r.0 c.in-Some.piece n c.cut.left.blocks c.in-Some.behind.blocks c.cut.addresses new r.2 c.put_addresses.ensures l.blocks_left le inv.some,
    )

pub cut-preserved : goal.cut-preserved
cut-preserved c =
    let G = c.args.geometry.now in
    let n = length c.args.addresses.now in
    let l = c.in-Some.ensures in
    let inv = c.cut.invariant in
    let r = inv.reached in
    let some = some_left c.in-Some.behind.blocks c.in-Some.behind.tables c.is_done.result c.is_done.ensures c.if-is_done.false in
    let le : c.in-Some.piece.blocks ≤ c.cut.left.blocks = omega (arith, l.takes.blocks_are) in
    record {
      place = turn_place G c.args.head c.args.clean.now n c.args.tables c.cut.left c.in-Some.behind c.in-Some.piece l inv.place inv.cleans r.0 r.1;
      cleans = turn_cleans G c.args.head c.args.clean.now n c.args.tables c.cut.left c.in-Some.behind c.in-Some.piece l inv.place inv.cleans r.0 r.1;
      used = l.used_high;
      size = c.put_addresses.auto.addresses ∙ inv.size;
      some = omega (arith, inv.some, l.blocks_left);
      reached = (
        r.0 ++ c.in-Some.piece ∷ [],
        turn_more G c.args.head c.args.clean.now n c.args.tables c.cut.left c.in-Some.behind c.in-Some.piece l inv.place inv.cleans r.0 r.1 some,
        more_addresses G r.0 c.in-Some.piece n c.cut.left.blocks c.in-Some.behind.blocks c.cut.addresses c.put_addresses.new.addresses r.2 c.put_addresses.ensures l.blocks_left le inv.some,
      );
    }

pub cut-smaller : goal.cut-smaller
cut-smaller c =
    let some = some_left c.in-Some.behind.blocks c.in-Some.behind.tables c.is_done.result c.is_done.ensures c.if-is_done.false in
    let s = turn_smaller c.args.geometry.now c.args.head c.args.clean.now (length c.args.addresses.now) c.args.tables c.cut.left c.in-Some.behind c.in-Some.piece c.in-Some.ensures c.cut.invariant.place c.cut.invariant.cleans c.cut.invariant.reached.0
    c.cut.invariant.reached.1 some in
    omega arith
