use Rattle.std.proofs.Common.{◌∙◌, ℕ, List, ap}
use Rattle.lru.specs.LruCache.{LruCache}
use Rattle.hl_lines.specs.LineTable.{Lines, with_touched}
use Rattle.hl_lines.specs.Indexes.{order_of}
use Rattle.hl_lines.proofs.Lookups.{touched_indexed, touched_order}
use Rattle.hl_lines.proofs.table.LineTable.touch.Goals as goal

pub invariant_of-self : goal.invariant_of-self
invariant_of-self c =
    let x = c.self.inside in
    touched_indexed x.states.items x.clean c.promote.new.self x.held x.lowest c.args.tseg c.self.invariant c.promote.ensures.entries

pub returns : goal.returns
returns c =
    let x = c.self.inside in
    ap (λ (l : LruCache ℕ ℕ). record { states = x.states.items; order = order_of l.entries }) c.promote.ensures.entries
    ∙ ap (λ (o : List ℕ). record { states = x.states.items; order = o }) (touched_order x.states.items x.clean x.held x.lowest c.args.tseg c.self.invariant)
    ∙ ap (λ (t : Lines). with_touched t c.args.tseg) c.self.view_is
