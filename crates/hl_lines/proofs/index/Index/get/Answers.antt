use Rattle.std.proofs.Common.{◌≡◌, ◌<◌, ℕ, List, Some, Err, Ok, get_or, length, sym, ap, ◌∙◌, subst, arith}
use Rattle.std.proofs.lemmas.Grind.{get_or_default_zero}
use Rattle.hl_lines.specs.Index.{Index, IsPlace, look}
use Rattle.hl_lines.proofs.IndexLemmas.{look-found, look-none}
use Rattle.hl_lines.proofs.index.Index.get.Goals as goal

pub index-requires : goal.index-requires
index-requires c =
    let place : IsPlace c.deref.result.now c.args.key (Ok c.in-Ok.at) = subst (IsPlace c.deref.result.now c.args.key) c.in-Ok.is c.place_of.ensures in
    omega (arith, c.self.invariant.0.each, c.self.inside.numbers.ok, place.0, ap length c.deref.ensures.value)

pub returns-in-Ok : goal.returns-in-Ok
returns-in-Ok c =
    let old : Index = record { keys = c.self.inside.keys.items; numbers = c.self.inside.numbers.items; room = c.self.inside.room } in
    let i = c.in-Ok.at in
    let place : IsPlace old.keys c.args.key (Ok i) = subst (λ (ks : List ℕ). IsPlace ks c.args.key (Ok i)) c.deref.ensures.value (subst (IsPlace c.deref.result.now c.args.key) c.in-Ok.is c.place_of.ensures) in
    let within : i < length old.numbers = omega (arith, c.self.invariant.0.each, place.0) in
    let read : c.index.result.now ≡ get_or old.numbers i 0 = c.index.ensures ∙ get_or_default_zero old.numbers i c.index.result.now within in
    ap Some read ∙ sym (look-found old c.args.key i c.self.invariant.0 place) ∙ ap (look c.args.key) c.self.view_is

pub returns-in-Err : goal.returns-in-Err
returns-in-Err c =
    let old : Index = record { keys = c.self.inside.keys.items; numbers = c.self.inside.numbers.items; room = c.self.inside.room } in
    let i = c.in-Err.field-0 in
    let place : IsPlace old.keys c.args.key (Err i) = subst (λ (ks : List ℕ). IsPlace ks c.args.key (Err i)) c.deref.ensures.value (subst (IsPlace c.deref.result.now c.args.key) c.in-Err.is c.place_of.ensures) in
    sym (look-none old c.args.key i place) ∙ ap (look c.args.key) c.self.view_is
