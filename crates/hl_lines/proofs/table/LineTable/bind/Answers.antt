use Rattle.std.proofs.Common.{◌≡◌, ◌≢◌, ◌<◌, ◌∙◌, ◌∷◌, ℕ, List, Some, true, length, set, sym, ap, subst, arith}
use Rattle.lru.specs.LruCache.{LruCache, lru_cache}
use Rattle.hl_lines.specs.Lines.{is_aside, segment_of, used}
use Rattle.hl_lines.specs.LineTable.{Lines, NoOther, state_at, with_bound}
use Rattle.hl_lines.specs.Indexes.{Has, AreIndexed, order_of}
use Rattle.hl_lines.specs.declared.state.LineState.TheVariants.{Clean, Aside}
use Rattle.hl_lines.proofs.Changes.{at}
use Rattle.hl_lines.proofs.Tables.{bound_indexed, put_is, no_use, order-used, is_aside_state, there_by}
use Rattle.hl_lines.proofs.table.LineTable.bind.Goals as goal

pub index_mut-requires : goal.index_mut-requires
index_mut-requires c =
    let S = c.self.inside.states.items in
    let line = c.args.line in
    let was : at S line ≡ Aside = is_aside_state (at S line) (subst (λ (x : Lines). is_aside (state_at x line) ≡ true) (sym c.self.view_is) c.requires.aside) in
    let near : line < length S = there_by S line Aside was (λ e. cc) in
    omega (arith, near, c.self.inside.states.ok)

pub invariant_of-self : goal.invariant_of-self
invariant_of-self c = subst (λ (clean : LruCache ℕ ℕ). AreIndexed c.self.inside.states.items clean c.self.inside.held c.self.inside.lowest) (sym c.in_default.ensures.err) c.self.invariant

pub invariant_of-self-2 : goal.invariant_of-self-2
invariant_of-self-2 c =
    let S = c.self.inside.states.items in
    let line = c.args.line in
    let was : at S line ≡ Aside = is_aside_state (at S line) (subst (λ (x : Lines). is_aside (state_at x line) ≡ true) (sym c.self.view_is) c.requires.aside) in
    let near : line < length S = there_by S line Aside was (λ e. cc) in
    let free : (other : ℕ) → other ≢ line → segment_of (at S other) ≢ Some c.args.tseg = subst (λ (x : Lines). NoOther x line c.args.tseg) (sym c.self.view_is) c.requires.free in
    let clean : LruCache ℕ ℕ = c.self.inside.clean in
    let none : (l : ℕ) → Has clean.entries c.args.tseg l → ⊥ = no_use S line c.args.tseg clean.entries c.self.invariant.uses (λ t e. let clash : Aside ≡ Clean t = sym was ∙ e in cc) free in
    let put : c.put.new.self ≡ lru_cache ((c.args.tseg, line) ∷ clean.entries) clean.cap = put_is S line c.args.tseg clean c.put.new.self c.self.invariant.uses c.self.invariant.few c.self.invariant.unbounded none c.in-Ok.ensures.entries in
    bound_indexed S line c.args.tseg clean c.put.new.self c.self.inside.held c.self.inside.lowest c.self.invariant near was free put

pub returns : goal.returns
returns c =
    let S = c.self.inside.states.items in
    let line = c.args.line in
    let was : at S line ≡ Aside = is_aside_state (at S line) (subst (λ (x : Lines). is_aside (state_at x line) ≡ true) (sym c.self.view_is) c.requires.aside) in
    let near : line < length S = there_by S line Aside was (λ e. cc) in
    let free : (other : ℕ) → other ≢ line → segment_of (at S other) ≢ Some c.args.tseg = subst (λ (x : Lines). NoOther x line c.args.tseg) (sym c.self.view_is) c.requires.free in
    let clean : LruCache ℕ ℕ = c.self.inside.clean in
    let none : (l : ℕ) → Has clean.entries c.args.tseg l → ⊥ = no_use S line c.args.tseg clean.entries c.self.invariant.uses (λ t e. let clash : Aside ≡ Clean t = sym was ∙ e in cc) free in
    let put : c.put.new.self ≡ lru_cache ((c.args.tseg, line) ∷ clean.entries) clean.cap = put_is S line c.args.tseg clean c.put.new.self c.self.invariant.uses c.self.invariant.few c.self.invariant.unbounded none c.in-Ok.ensures.entries in
    let order : order_of c.put.new.self.entries ≡ used line (order_of clean.entries) = ap (λ (l : LruCache ℕ ℕ). order_of l.entries) put ∙ order-used S line c.args.tseg clean.entries c.self.invariant.uses (λ t e. let clash : Aside ≡ Clean t = sym was ∙ e in cc) in
    record {
      bound = ap (λ (o : List ℕ). record { states = set S line (Clean c.args.tseg); order = o }) order ∙ ap (λ (x : Lines). with_bound x c.args.tseg line) c.self.view_is;
      kept = tt;
    }
