use Rattle.std.proofs.Common.{◌≡◌, ◌≢◌, ◌<◌, ℕ, Some, true, length, set, sym, ap, subst, arith}
use Rattle.hl_lines.specs.Lines.{is_aside, segment_of, held_segment}
use Rattle.hl_lines.specs.LineTable.{Lines, NoOther, state_at}
use Rattle.hl_lines.specs.Indexes.{held_weight}
use Rattle.hl_lines.specs.declared.state.LineState.TheVariants.{Staging, Aside}
use Rattle.hl_lines.proofs.Changes.{at}
use Rattle.hl_lines.proofs.Tables.{held_indexed, none_held, room_held, is_aside_state, there_by}
use Rattle.hl_lines.proofs.table.LineTable.hold.Goals as goal

pub put-requires : goal.put-requires
put-requires c =
    let S = c.self.inside.states.items in
    let line = c.args.line in
    let was : at S line ≡ Aside = is_aside_state (at S line) (subst (λ (x : Lines). is_aside (state_at x line) ≡ true) (sym c.self.view_is) c.requires.aside) in
    let near : line < length S = there_by S line Aside was (λ e. cc) in
    let free : (other : ℕ) → other ≢ line → segment_of (at S other) ≢ Some c.args.tseg = subst (λ (x : Lines). NoOther x line c.args.tseg) (sym c.self.view_is) c.requires.free in
    record {
      absent = none_held S line c.args.tseg c.self.inside.held c.self.invariant.kept (ap held_segment was) free;
      room = room_held S line c.self.inside.held c.self.invariant.kept near (ap held_weight was);
    }

pub index_mut-requires : goal.index_mut-requires
index_mut-requires c =
    let S = c.self.inside.states.items in
    let line = c.args.line in
    let was : at S line ≡ Aside = is_aside_state (at S line) (subst (λ (x : Lines). is_aside (state_at x line) ≡ true) (sym c.self.view_is) c.requires.aside) in
    let near : line < length S = there_by S line Aside was (λ e. cc) in
    omega (arith, near, c.self.inside.states.ok)

pub invariant_of-self : goal.invariant_of-self
invariant_of-self c =
    let S = c.self.inside.states.items in
    let line = c.args.line in
    let was : at S line ≡ Aside = is_aside_state (at S line) (subst (λ (x : Lines). is_aside (state_at x line) ≡ true) (sym c.self.view_is) c.requires.aside) in
    let near : line < length S = there_by S line Aside was (λ e. cc) in
    let free : (other : ℕ) → other ≢ line → segment_of (at S other) ≢ Some c.args.tseg = subst (λ (x : Lines). NoOther x line c.args.tseg) (sym c.self.view_is) c.requires.free in
    let absent = none_held S line c.args.tseg c.self.inside.held c.self.invariant.kept (ap held_segment was) free in
    held_indexed S line c.args.tseg c.self.inside.clean c.self.inside.held c.put.new.self c.self.inside.lowest c.self.invariant near was free absent c.put.ensures

pub returns : goal.returns
returns c = ap (λ (x : Lines). record x { states = set x.states c.args.line (Staging c.args.tseg) }) c.self.view_is
