use Rattle.std.proofs.Common.{◌≡◌, ◌∙◌, ℕ, ◌<◌, ◌⊎◌, List, ◌^◌, w64, Some, Err, Result, inl, inr, sym, ap, subst, arith}
use Rattle.std.proofs.lemmas.Int.{to_z_pos}
use Rattle.toml.specs.Data.{as_array, get_member}
use Rattle.toml.specs.View.{view, items_view, table_view}
use Rattle.hl_site.specs.declared.key.Key.TheVariants.{Volumes}
use Rattle.hl_site.specs.declared.error.SiteError.{SiteError}
use Rattle.hl_site.specs.declared.error.SiteError.TheVariants.{OutOfRange}
use Rattle.hl_site.specs.Key.{name_of}
use Rattle.hl_site.specs.Site.{IsUnlessMemory, slots_of}
use Rattle.hl_site.proofs.Limits.{volumes_few, volumes_off}
use Rattle.hl_site.proofs.reading.volumes_in.Goals.{then-count-lt1-via-then-count-lt1, then-count-lt1-via-else-count-lt1+then-count-gt32}
use Rattle.hl_site.proofs.reading.volumes_in.Goals as goal

pub returns-then-count-lt1 : goal.returns-then-count-lt1
returns-then-count-lt1 c =
    let member : get_member (name_of Volumes) (table_view c.args.table.now) ≡ Some (view c.in-Some.value.now) = sym (rw c.in-Some.is at c.value_at.ensures) in
    let list : as_array (view c.in-Some.value.now) ≡ Some (items_view c.in-Some-as_array.entries.now.items) = sym (rw c.in-Some-as_array.is at c.as_array.ensures) in
    let off : (c.len-count.result < 1) ⊎ (32 < c.len-count.result) =
    elim c.then-count-lt1.branch [
      | then-count-lt1-via-then-count-lt1 w ↦ inl w.if-count-lt1.true
      | then-count-lt1-via-else-count-lt1+then-count-gt32 w ↦ inr w.if-count-gt32.true
    ] in
    let small : c.len-count.result < 2 ^ 63 = omega (arith, c.len-count.ensures, c.in-Some-as_array.entries.now.ok.1, c.in-Some-as_array.entries.now.small) in
    inr (ap (λ z. Err (OutOfRange Volumes z)) (to_z_pos w64 c.len-count.result small)
    ∙ sym (volumes_off (get_member (name_of Volumes) (table_view c.args.table.now)) (view c.in-Some.value.now) c.in-Some-as_array.entries.now.items c.len-count.result member list (c.len-count.ensures ∙ c.in-Some-as_array.entries.now.ok.0) off))

pub returns : goal.returns
returns c =
    let member : get_member (name_of Volumes) (table_view c.args.table.now) ≡ Some (view c.in-Some.value.now) = sym (rw c.in-Some.is at c.value_at.ensures) in
    let list : as_array (view c.in-Some.value.now) ≡ Some (items_view c.in-Some-as_array.entries.now.items) = sym (rw c.in-Some-as_array.is at c.as_array.ensures) in
    let few = volumes_few (get_member (name_of Volumes) (table_view c.args.table.now)) (view c.in-Some.value.now) c.in-Some-as_array.entries.now.items c.len-count.result member list (c.len-count.ensures ∙ c.in-Some-as_array.entries.now.ok.0) c.if-count-lt1.false c.if-count-gt32.false in
    subst (λ (meant : Result (List ℕ) SiteError). IsUnlessMemory c.slots_in.result meant) (ap (λ es. slots_of (items_view es)) c.as_slice.ensures.value ∙ sym few) c.slots_in.ensures
