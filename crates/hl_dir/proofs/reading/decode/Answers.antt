use Rattle.std.proofs.Common.{◌≡◌, ◌↔◌, ℕ, List, Option, Some, None, subst, sym, ap, ◌∙◌}
use Rattle.hl_bytes.proofs.Decoding.{accepted, refused, none_is, none_exactly}
use Rattle.hl_dir.specs.declared.entry.Entry.{Entry}
use Rattle.hl_dir.specs.Dirs.{AreSorted, HaveRoom, Reads, Spells, dir_bytes}
use Rattle.hl_dir.proofs.DirLemmas.{spelled_once}
use Rattle.hl_dir.proofs.reading.decode.Goals as goal

pub returns-then-are_sorted : goal.returns-then-are_sorted
returns-then-are_sorted c =
    let r : HaveRoom c.in-Some.entries.items × (c.args.bytes.now ≡ dir_bytes c.in-Some.entries.items) = subst (Reads c.args.bytes.now) c.in-Some.is c.in_ok-entries.ensures in
    let is = c.of-entries.ensures in
    let P = Spells c.args.bytes.now in
    let x : List Entry = c.of-entries.result in
    let found : (v : List Entry) → (Some x ≡ Some v) ↔ P v =
    accepted P x c.are_sorted.result c.if-are_sorted.true
    (λ t. record { value = (subst HaveRoom (sym is) r.0, subst AreSorted c.items.ensures (c.are_sorted.ensures.0 t)); spelled = r.1 ∙ ap dir_bytes (sym is) })
    (λ v p. is ∙ spelled_once v c.in-Some.entries.items p.value.0 r.0 (sym p.spelled ∙ r.1)) in
    record { found = found; none = none_exactly P (Some x) found }

pub returns-else-are_sorted : goal.returns-else-are_sorted
returns-else-are_sorted c =
    let r : HaveRoom c.in-Some.entries.items × (c.args.bytes.now ≡ dir_bytes c.in-Some.entries.items) = subst (Reads c.args.bytes.now) c.in-Some.is c.in_ok-entries.ensures in
    let is = c.of-entries.ensures in
    let P = Spells c.args.bytes.now in
    let x : List Entry = c.of-entries.result in
    let nothing : Option (List Entry) = None in
    let found : (v : List Entry) → (nothing ≡ Some v) ↔ P v =
    refused P x c.are_sorted.result c.if-are_sorted.false (λ p. c.are_sorted.ensures.1 (subst AreSorted (sym c.items.ensures) p.value.1))
    (λ v p. is ∙ spelled_once v c.in-Some.entries.items p.value.0 r.0 (sym p.spelled ∙ r.1)) in
    record { found = found; none = none_exactly P nothing found }
