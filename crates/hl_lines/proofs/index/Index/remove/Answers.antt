use Rattle.std.proofs.Common.{◌≡◌, ℕ, List, Err, Ok, sym, subst, arith}
use Rattle.std.specs.Prelude.{IsSome}
use Rattle.std.specs.List.{remove}
use Rattle.hl_lines.specs.Index.{Index, IsIndex, IsPlace, Drops, look}
use Rattle.hl_lines.proofs.IndexLemmas.{drops, look-none, some_none}
use Rattle.hl_lines.proofs.index.Index.remove.Goals as goal

pub unreachable-requires : goal.unreachable-requires
unreachable-requires c =
    let old : Index = record { keys = c.self.inside.keys.items; numbers = c.self.inside.numbers.items; room = c.self.inside.room } in
    let i = c.in_default.field-0 in
    let place : IsPlace old.keys c.args.key (Err i) = subst (λ (ks : List ℕ). IsPlace ks c.args.key (Err i)) c.deref.ensures.value (subst (IsPlace c.deref.result.now c.args.key) c.in_default.is c.place_of.ensures) in
    let there : IsSome (look c.args.key old) = subst (λ (x : Index). IsSome (look c.args.key x)) (sym c.self.view_is) c.requires in
    some_none (look c.args.key old) there (look-none old c.args.key i place)

pub invariant_of-self : goal.invariant_of-self
invariant_of-self c =
    let old : Index = record { keys = c.self.inside.keys.items; numbers = c.self.inside.numbers.items; room = c.self.inside.room } in
    let at = c.in-Ok.at in
    let key = c.args.key in
    let place : IsPlace old.keys key (Ok at) = subst (λ (ks : List ℕ). IsPlace ks key (Ok at)) c.deref.ensures.value (subst (IsPlace c.deref.result.now key) c.in-Ok.is c.place_of.ensures) in
    let both = drops old at key c.self.invariant.0 place in
    let keys : c.remove.new.self.items ≡ remove old.keys at = c.remove.ensures.items in
    let numbers : c.remove-2.new.self.items ≡ remove old.numbers at = c.remove-2.ensures.items in
    let a = c.self.invariant.1 in
    let b = c.self.invariant.2 in
    let d = c.remove.ensures.capacity in
    let e = c.remove-2.ensures.capacity in (
      subst (λ (ns : List ℕ). IsIndex (record { keys = c.remove.new.self.items; numbers = ns; room = old.room })) (sym numbers)
          (subst (λ (ks : List ℕ). IsIndex (record { keys = ks; numbers = remove old.numbers at; room = old.room })) (sym keys) both.0),
      omega arith,
      omega arith,
    )

pub returns : goal.returns
returns c =
    let old : Index = record { keys = c.self.inside.keys.items; numbers = c.self.inside.numbers.items; room = c.self.inside.room } in
    let at = c.in-Ok.at in
    let key = c.args.key in
    let place : IsPlace old.keys key (Ok at) = subst (λ (ks : List ℕ). IsPlace ks key (Ok at)) c.deref.ensures.value (subst (IsPlace c.deref.result.now key) c.in-Ok.is c.place_of.ensures) in
    let both = drops old at key c.self.invariant.0 place in
    let keys : c.remove.new.self.items ≡ remove old.keys at = c.remove.ensures.items in
    let numbers : c.remove-2.new.self.items ≡ remove old.numbers at = c.remove-2.ensures.items in
    let Done : List ℕ → List ℕ → Type 0 = λ ks ns. Drops old key (record { keys = ks; numbers = ns; room = old.room }) in
    subst (λ (x : Index). Drops x key (record { keys = c.remove.new.self.items; numbers = c.remove-2.new.self.items; room = old.room })) c.self.view_is
    (subst (Done c.remove.new.self.items) (sym numbers) (subst (λ ks. Done ks (remove old.numbers at)) (sym keys) both.1))
