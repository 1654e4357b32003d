use Rattle.std.proofs.Common.{◌≡◌, ◌≢◌, ◌<◌, ◌∙◌, ◌∷◌, ℕ, List, length, set, sym, ap, arith}
use Rattle.hl_lines.specs.Index.{look}
use Rattle.lru.specs.LruCache.{LruCache, lru_cache}
use Rattle.hl_lines.specs.Lines.{segment_of, held_segment, used, homed}
use Rattle.hl_lines.specs.LineTable.{Lines, with_homed}
use Rattle.hl_lines.specs.Indexes.{Has, order_of}
use Rattle.hl_lines.specs.declared.state.LineState.{LineState}
use Rattle.hl_lines.specs.declared.state.LineState.TheVariants.{Clean, Staging}
use Rattle.hl_lines.proofs.Changes.{at}
use Rattle.hl_lines.proofs.Tables.{homed_indexed, put_is, no_use, own_alone, order-used, some_found, there_by}
use Rattle.hl_lines.proofs.table.LineTable.home.Goals as goal

pub remove-requires : goal.remove-requires
remove-requires c =
    let S = c.self.inside.states.items in
    let line = c.args.line in
    let tseg = c.in-Staging.tseg in
    let was : at S line ≡ Staging tseg = sym (ap (λ l. at l line) c.deref.ensures.value) ∙ sym c.state_of.ensures ∙ c.in-Staging.is in
    let near : line < length S = there_by S line (Staging tseg) was (λ e. cc) in
    some_found line (look tseg c.self.inside.held) (c.self.invariant.kept.all tseg line (ap held_segment was))

pub index_mut-requires : goal.index_mut-requires
index_mut-requires c =
    let S = c.self.inside.states.items in
    let line = c.args.line in
    let tseg = c.in-Staging.tseg in
    let was : at S line ≡ Staging tseg = sym (ap (λ l. at l line) c.deref.ensures.value) ∙ sym c.state_of.ensures ∙ c.in-Staging.is in
    let near : line < length S = there_by S line (Staging tseg) was (λ e. cc) in
    omega (arith, near, c.self.inside.states.ok)

pub invariant_of-self-2 : goal.invariant_of-self-2
invariant_of-self-2 c =
    let S = c.self.inside.states.items in
    let line = c.args.line in
    let tseg = c.in-Staging.tseg in
    let was : at S line ≡ Staging tseg = sym (ap (λ l. at l line) c.deref.ensures.value) ∙ sym c.state_of.ensures ∙ c.in-Staging.is in
    let near : line < length S = there_by S line (Staging tseg) was (λ e. cc) in
    let clean : LruCache ℕ ℕ = c.self.inside.clean in
    let apart : (t : ℕ) → at S line ≢ Clean t = λ t e. let clash : Staging tseg ≡ Clean t = sym was ∙ e in cc in
    let none : (l : ℕ) → Has clean.entries tseg l → ⊥ = no_use S line tseg clean.entries c.self.invariant.uses apart (own_alone S line tseg c.self.invariant.single (ap segment_of was)) in
    let put : c.put.new.self ≡ lru_cache ((tseg, line) ∷ clean.entries) clean.cap = put_is S line tseg clean c.put.new.self c.self.invariant.uses c.self.invariant.few c.self.invariant.unbounded none c.in-Ok.ensures.entries in
    homed_indexed S line tseg clean c.put.new.self c.self.inside.held c.remove.new.self c.self.inside.lowest c.self.invariant near was put c.remove.ensures

pub returns-clause-home : goal.returns-clause-home
returns-clause-home c =
    let S = c.self.inside.states.items in
    let line = c.args.line in
    let tseg = c.in-Staging.tseg in
    let was : at S line ≡ Staging tseg = sym (ap (λ l. at l line) c.deref.ensures.value) ∙ sym c.state_of.ensures ∙ c.in-Staging.is in
    let near : line < length S = there_by S line (Staging tseg) was (λ e. cc) in
    let clean : LruCache ℕ ℕ = c.self.inside.clean in
    let apart : (t : ℕ) → at S line ≢ Clean t = λ t e. let clash : Staging tseg ≡ Clean t = sym was ∙ e in cc in
    let none : (l : ℕ) → Has clean.entries tseg l → ⊥ = no_use S line tseg clean.entries c.self.invariant.uses apart (own_alone S line tseg c.self.invariant.single (ap segment_of was)) in
    let put : c.put.new.self ≡ lru_cache ((tseg, line) ∷ clean.entries) clean.cap = put_is S line tseg clean c.put.new.self c.self.invariant.uses c.self.invariant.few c.self.invariant.unbounded none c.in-Ok.ensures.entries in
    let order : order_of c.put.new.self.entries ≡ used line (order_of clean.entries) = ap (λ (l : LruCache ℕ ℕ). order_of l.entries) put ∙ order-used S line tseg clean.entries c.self.invariant.uses apart in
    ap (λ (o : List ℕ). record { states = set S line (Clean tseg); order = o }) order
    ∙ ap (λ (s : LineState). record { states = set S line s; order = used line (order_of clean.entries) }) (sym (ap homed was))
    ∙ ap (λ (x : Lines). with_homed x line) c.self.view_is
