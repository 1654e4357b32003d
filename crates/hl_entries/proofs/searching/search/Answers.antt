use Rattle.std.proofs.Common.{arith, ◌≡◌, ◌+◌, ◌-◌, length, take, drop, sym, ap, length-take-le, length-drop}
use Rattle.hl_tree.proofs.NamesBelow.{name_exact}
use Rattle.hl_entries.proofs.Search.{begun, passed_on, found_here, missing_here, missing_end}
use Rattle.hl_entries.proofs.searching.search.Goals as goal

pub entries-init : goal.entries-init
entries-init c = record { within = omega arith; reached = λ es spells. begun c.args.bytes.now c.args.name.now es spells }

pub entries-preserved : goal.entries-preserved
entries-preserved c = record {
  within = c.in-Some.ensures.within;
  reached = λ es spells. (
      let r = c.entries.invariant.reached es spells in
      passed_on c.args.bytes.now c.args.name.now es spells c.entries.at c.in-Some.end r.0 r.1 c.in-Some.ensures.end c.in-Some.ensures.within (sym c.in-Less.ensures)
      );
}

pub returns-in-Equal-clause-found : goal.returns-in-Equal-clause-found
returns-in-Equal-clause-found c = λ es spells.
    let r = c.entries.invariant.reached es spells in
    found_here c.args.bytes.now c.args.name.now es spells c.entries.at c.in-Some.end c.get_u32-ino.result r.0 r.1 c.in-Some.ensures.end c.in-Some.ensures.within (sym c.in-Equal.ensures) c.get_u32-ino.ensures.number

pub returns-in-Equal-clause-within : goal.returns-in-Equal-clause-within
returns-in-Equal-clause-within c =
    let bytes = c.args.bytes.now in
    let at = c.entries.at in
    let end = c.in-Some.end in
    let same : take (end - (at + 5)) (drop (at + 5) bytes) ≡ c.args.name.now = name_exact _ c.args.name.now (sym c.in-Equal.ensures) in
    let count = length-take-le (end - (at + 5)) (drop (at + 5) bytes) (omega (arith, length-drop (at + 5) bytes, c.in-Some.ensures.within)) in
    omega (arith, ap length same, count, c.in-Some.ensures.end, c.in-Some.ensures.within)

pub returns-in-Greater-clause-found : goal.returns-in-Greater-clause-found
returns-in-Greater-clause-found c = λ es spells.
    let r = c.entries.invariant.reached es spells in
    missing_here c.args.bytes.now c.args.name.now es spells c.entries.at c.in-Some.end r.0 r.1 c.in-Some.ensures.end c.in-Some.ensures.within (sym c.in-Greater.ensures)

pub returns-clause-found : goal.returns-clause-found
returns-clause-found c = λ es spells.
    let r = c.entries.invariant.reached es spells in
    missing_end c.args.bytes.now c.args.name.now es spells c.entries.at r.0 r.1 c.in_default.ensures.cut
