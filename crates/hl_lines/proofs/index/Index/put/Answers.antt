use Rattle.std.proofs.Common.{◌≡◌, ◌<◌, ℕ, List, None, Err, Ok, get_or, length, sym, subst, arith}
use Rattle.std.specs.List.{insert}
use Rattle.hl_lines.specs.Index.{Index, IsIndex, IsPlace, Puts, look}
use Rattle.hl_lines.proofs.IndexLemmas.{puts, look-found, none_some}
use Rattle.hl_lines.proofs.index.Index.put.Goals as goal

pub unreachable-requires : goal.unreachable-requires
unreachable-requires c =
    let old : Index = record { keys = c.self.inside.keys.items; numbers = c.self.inside.numbers.items; room = c.self.inside.room } in
    let i = c.in_default.field-0 in
    let place : IsPlace old.keys c.args.key (Ok i) = subst (λ (ks : List ℕ). IsPlace ks c.args.key (Ok i)) c.deref.ensures.value (subst (IsPlace c.deref.result.now c.args.key) c.in_default.is c.place_of.ensures) in
    let absent : look c.args.key old ≡ None = subst (λ (x : Index). look c.args.key x ≡ None) (sym c.self.view_is) c.requires.absent in
    none_some (look c.args.key old) (get_or old.numbers i 0) absent (look-found old c.args.key i c.self.invariant.0 place)

pub invariant_of-self : goal.invariant_of-self
invariant_of-self c =
    let old : Index = record { keys = c.self.inside.keys.items; numbers = c.self.inside.numbers.items; room = c.self.inside.room } in
    let at = c.in-Err.at in
    let key = c.args.key in
    let place : IsPlace old.keys key (Err at) = subst (λ (ks : List ℕ). IsPlace ks key (Err at)) c.deref.ensures.value (subst (IsPlace c.deref.result.now key) c.in-Err.is c.place_of.ensures) in
    let absent : look key old ≡ None = subst (λ (x : Index). look key x ≡ None) (sym c.self.view_is) c.requires.absent in
    let room : length old.keys < old.room = subst (λ (x : Index). length x.keys < x.room) (sym c.self.view_is) c.requires.room in
    let both = puts old at key c.args.number c.self.invariant.0 absent room place in
    let keys : c.insert.new.self.items ≡ insert old.keys at key = c.in-Ok.ensures.items in
    let numbers : c.insert-2.new.self.items ≡ insert old.numbers at c.args.number = c.in-Ok-insert.ensures.items in
    let a = c.self.invariant.1 in
    let b = c.self.invariant.2 in
    let d = c.insert.ensures.capacity in
    let e = c.insert-2.ensures.capacity in (
      subst (λ (ns : List ℕ). IsIndex (record { keys = c.insert.new.self.items; numbers = ns; room = old.room })) (sym numbers)
          (subst (λ (ks : List ℕ). IsIndex (record { keys = ks; numbers = insert old.numbers at c.args.number; room = old.room })) (sym keys) both.0),
      omega arith,
      omega arith,
    )

pub returns : goal.returns
returns c =
    let old : Index = record { keys = c.self.inside.keys.items; numbers = c.self.inside.numbers.items; room = c.self.inside.room } in
    let at = c.in-Err.at in
    let key = c.args.key in
    let place : IsPlace old.keys key (Err at) = subst (λ (ks : List ℕ). IsPlace ks key (Err at)) c.deref.ensures.value (subst (IsPlace c.deref.result.now key) c.in-Err.is c.place_of.ensures) in
    let absent : look key old ≡ None = subst (λ (x : Index). look key x ≡ None) (sym c.self.view_is) c.requires.absent in
    let room : length old.keys < old.room = subst (λ (x : Index). length x.keys < x.room) (sym c.self.view_is) c.requires.room in
    let both = puts old at key c.args.number c.self.invariant.0 absent room place in
    let keys : c.insert.new.self.items ≡ insert old.keys at key = c.in-Ok.ensures.items in
    let numbers : c.insert-2.new.self.items ≡ insert old.numbers at c.args.number = c.in-Ok-insert.ensures.items in
    let Done : List ℕ → List ℕ → Type 0 = λ ks ns. Puts old key c.args.number (record { keys = ks; numbers = ns; room = old.room }) in
    subst (λ (x : Index). Puts x key c.args.number (record { keys = c.insert.new.self.items; numbers = c.insert-2.new.self.items; room = old.room })) c.self.view_is
    (subst (Done c.insert.new.self.items) (sym numbers) (subst (λ ks. Done ks (insert old.numbers at c.args.number)) (sym keys) both.1))
