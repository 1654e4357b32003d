use Rattle.std.proofs.Common.{[], List, ℕ, ◌++◌, ◌-◌, length, take, drop, sym, ap, ◌∙◌, arith}
use Rattle.std.proofs.lemmas.List.{length-take-le, take_rest}
use Rattle.sha2.specs.Sha256.{sha256}
use Rattle.hl_bytes.proofs.sealing.digest_over.Goals as goal

pub slice_bounds-update-end : goal.slice_bounds-update-end
slice_bounds-update-end c = sym (length-take-le 4064 c.args.bytes.now (omega arith))

pub returns : goal.returns
returns c =
    let front = take 4064 c.args.bytes.now in
    let back = take (length c.args.bytes.now - 4096) (drop 4096 c.args.bytes.now) in
    c.finalize.ensures (front ++ back) (c.update-2.ensures front (c.update.ensures [] c.new-hasher.ensures)) ∙ ap (λ (l : List ℕ). sha256 (front ++ l)) (take_rest c.args.bytes.now 4096)
