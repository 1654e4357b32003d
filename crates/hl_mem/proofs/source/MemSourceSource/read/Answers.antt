use Rattle.std.proofs.Common.{◌≡◌, ℕ, List, length, take, drop, arith, ap, sym, ◌∙◌, length-append, length-drop}
use Rattle.std.proofs.lemmas.List.{drop_all}
use Rattle.hl_mem.specs.Told.{Input}
use Rattle.hl_mem.proofs.Taken.{taken}
use Rattle.hl_mem.proofs.source.MemSourceSource.read.Goals as goal

pub returns-clause-bytes : goal.returns-clause-bytes
returns-clause-bytes c =
    let whole = ap length c.as_slice.ensures.value in
    let back = c.split_at.ensures.back_len in
    let count = c.min-count.result in
    let at = c.self.inside.at in
    let bytes = c.self.inside.bytes.items in
    let left : c.args.self.now.left ≡ drop at bytes = ap (λ (i : Input). i.left) (sym c.self.view_is) in (
      left
          ∙ taken bytes c.args.out.now c.copy_from_slice.new.self at count
          (c.copy_from_slice.ensures.after
          ∙ ap (λ (l : List ℕ). take count l) (c.split_at.ensures.back ∙ ap (λ (l : List ℕ). drop at l) c.as_slice.ensures.value))
          (omega (arith, whole, back, c.min.ensures, c.min-count.ensures)),
      λ z some.
          let joined = length-append c.copy_from_slice.new.self (drop count c.args.out.now) in
          let dropped = length-drop count c.args.out.now in
          drop_all _ bytes
          (omega (arith, whole, back, c.min.ensures, c.min-count.ensures, c.copy_from_slice.ensures.len, c.self.invariant.1)),
    )
