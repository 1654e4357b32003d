use Rattle.std.proofs.Common.{◌≡◌, ◌*◌, ◌/◌, ◌<◌, ◌≤◌, ℕ, length, take, map, get_or, List, sym, ◌∙◌, ap, subst, arith, get_or-take, length-take}
use Rattle.std.proofs.lemmas.List.{length-map}
use Rattle.hl_mem.specs.declared.transfer.Transfer.{Transfer}
use Rattle.hl_mem.specs.Transfers.{IsSized, SlotLeft, TriedCall, left_ended, tried}
use Rattle.hl_mem.proofs.SlotStops.{left_more, sized_at, torn_even, torn_odd}
use Rattle.hl_mem.proofs.transfers.Transfers.stop_slot.Goals as goal

-- the call that a loop over a first part reads
read_at : (calls read : List Transfer) (n i : ℕ) (x : Transfer) → read ≡ calls → i < length (take n read) → x ≡ get_or (take n read) i x → (i < length calls) × (x ≡ get_or calls i x)
read_at calls read n i x same lt item =
    let few = length-take n read in (
      subst (λ (l : List Transfer). i < length l) same (omega arith),
      item ∙ get_or-take n read i x (omega arith) ∙ ap (λ (l : List Transfer). get_or l i x) same,
    )

sized_as : (m n : ℕ) (call : TriedCall) → m ≡ n → IsSized n call → IsSized m call
sized_as m n call e sized = subst (λ (k : ℕ). IsSized k call) (sym e) sized

pub redo-requires-clause-sized : goal.redo-requires-clause-sized
redo-requires-clause-sized c =
    let calls = c.self.inside.calls.items in
    let read = read_at calls c.deref.result.now (c.args.moment / 2) c.redo.call-index c.call-item.result c.deref.ensures.value c.redo-test.true c.call-item.is in
    sized_as (length c.redo.held) (length c.args.opening.now) (tried c.call-item.result) c.redo.invariant.held_size
    (sized_at (length c.args.opening.now) calls c.args.self.now c.self.view_is c.requires.sized c.redo.call-index c.call-item.result read.0 read.1)

pub redo-requires-clause-same : goal.redo-requires-clause-same
redo-requires-clause-same c = c.redo.invariant.left_size ∙ sym c.redo.invariant.held_size

pub redo-preserved : goal.redo-preserved
redo-preserved c =
    let calls = c.self.inside.calls.items in
    let call = c.call-item.result in
    let read = read_at calls c.deref.result.now (c.args.moment / 2) c.redo.call-index call c.deref.ensures.value c.redo-test.true c.call-item.is in
    record {
      shows = left_more c.args.tear c.args.slot (record { held = c.args.opening.now; left = c.args.opening.now }) calls c.redo.call-index call read.0 read.1
          ∙ ap (λ (l : SlotLeft). left_ended c.args.tear c.args.slot l (tried call)) c.redo.invariant.shows ∙ sym c.redo-in-redo.ensures.left;
      held_size = c.redo-in-redo.ensures.held_size ∙ c.redo.invariant.held_size;
      left_size = c.redo-in-redo.ensures.left_size ∙ c.redo.invariant.left_size;
    }

-- where the loop has ended
ended_at : (told : List TriedCall) (calls read : List Transfer) (m i : ℕ) → map tried calls ≡ told → read ≡ calls → m ≤ 2 * length told → length (take (m / 2) read) ≤ i → i ≤ length (take (m / 2) read)
    → (i ≡ m / 2) × (i ≤ length calls) × (length told ≡ length calls)
ended_at told calls read m i is same past low high =
    let long = ap length (sym is) ∙ length-map calls tried in
    let size = ap length same in
    let few = length-take (m / 2) read in
    (omega arith, omega arith, long)

pub redo_begun-requires : goal.redo_begun-requires
redo_begun-requires c =
    let calls = c.self.inside.calls.items in
    let n = c.args.moment / 2 in
    let at = ended_at c.args.self.now calls c.deref.result.now c.args.moment c.redo.call-index c.self.view_is c.deref.ensures.value c.requires.past c.redo-test.false c.redo.auto.call-index-end in
    let lt : n < length calls = omega (arith, at.0, at.2, c.if-moment-eq0.false, c.requires.past) in
    sized_as (length c.redo.left) (length c.args.opening.now) (tried c.index.result.now) c.redo.invariant.left_size
    (sized_at (length c.args.opening.now) calls c.args.self.now c.self.view_is c.requires.sized n c.index.result.now lt c.index.ensures)

pub returns-then-moment-eq0 : goal.returns-then-moment-eq0
returns-then-moment-eq0 c =
    let calls = c.self.inside.calls.items in
    let at = ended_at c.args.self.now calls c.deref.result.now c.args.moment c.redo.call-index c.self.view_is c.deref.ensures.value c.requires.past c.redo-test.false c.redo.auto.call-index-end in
    torn_even c.args.tear c.args.slot c.args.opening.now calls c.args.self.now c.redo.call-index c.args.moment (record { held = c.redo.held; left = c.redo.left }) c.self.view_is at.1 (omega (arith, at.0, c.if-moment-eq0.true)) c.redo.invariant.shows

pub returns : goal.returns
returns c =
    let calls = c.self.inside.calls.items in
    let at = ended_at c.args.self.now calls c.deref.result.now c.args.moment c.redo.call-index c.self.view_is c.deref.ensures.value c.requires.past c.redo-test.false c.redo.auto.call-index-end in
    let i = c.redo.call-index in
    let lt : i < length calls = omega (arith, at.0, at.2, c.if-moment-eq0.false, c.requires.past) in
    let item : c.index.result.now ≡ get_or calls i c.index.result.now = c.index.ensures ∙ ap (λ (k : ℕ). get_or calls k c.index.result.now) (sym at.0) in
    c.redo_begun.ensures c.redo.held
    ∙ torn_odd c.args.tear c.args.slot c.args.opening.now calls c.args.self.now i c.args.moment c.index.result.now (record { held = c.redo.held; left = c.redo.left }) c.self.view_is lt (omega (arith, at.0, c.if-moment-eq0.false)) item c.redo.invariant.shows
