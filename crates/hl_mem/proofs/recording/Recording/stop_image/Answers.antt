use Rattle.std.proofs.Common.{◌≡◌, ◌/◌, ◌<◌, ℕ, length, take, drop, get_or, List, [], ◌++◌, refl, sym, ◌∙◌, ap, subst, arith, get_or-take, length-take}
use Rattle.hl_bytes.specs.Buffers.{block_of}
use Rattle.hl_media.specs.History.{DeviceCall, MachineState, MayLeave, state_after, state_at, opened}
use Rattle.hl_mem.specs.declared.call.Call.{Call}
use Rattle.hl_mem.specs.Recorded.{calls_of, call_of}
use Rattle.hl_mem.specs.declared.tear.Tear.{Tear}
use Rattle.hl_mem.specs.Tears.{IsTorn}
use Rattle.hl_mem.specs.Kept.{Shows, IsFit}
use Rattle.hl_mem.proofs.Stops.{fit_at, stepped, back, ended_at, state_even, state_odd}
use Rattle.hl_mem.proofs.recording.Recording.stop_image.Goals as goal

-- what the bytes show, where they are written in other ways
shows_as : (tear : Tear) (s t : MachineState) (now left now' left' : List ℕ) → s ≡ t → now ≡ now' → left ≡ left' → Shows tear s now left → Shows tear t now' left'
shows_as tear s t now left now' left' a b c shows =
    subst (λ (x : MachineState). Shows tear x now' left') a (subst (λ (l : List ℕ). Shows tear s l left') b (subst (λ (l : List ℕ). Shows tear s now l) c shows))

-- the size of the disk, where it is written in another way
fit_as : (m n : ℕ) (call : DeviceCall) → n ≡ m → IsFit m call → IsFit n call
fit_as m n call e fit = subst (λ (k : ℕ). IsFit k call) (sym e) fit

pub redo-requires-clause-fit : goal.redo-requires-clause-fit
redo-requires-clause-fit c =
    let calls = c.self.inside.calls.items in
    let i = c.loop-call.call-index in
    let n = c.args.moment / 2 in
    let kept = c.deref.ensures.value in
    let in_part : i < n = omega (arith, c.loop-call-test.true, length-take n c.deref.result.now) in
    let lt : i < length calls = subst (λ (l : List Call). i < length l) kept (omega (arith, c.loop-call-test.true, length-take n c.deref.result.now)) in
    let item : c.call-item.result ≡ get_or calls i c.call-item.result =
    c.call-item.is ∙ get_or-take n c.deref.result.now i c.call-item.result in_part ∙ ap (λ (l : List Call). get_or l i c.call-item.result) kept in
    fit_as (length c.args.opening.now) (length c.as_mut_slice.result.now) (call_of [] c.call-item.result)
    (ap length c.as_mut_slice.ensures.value ∙ c.loop-call.invariant.content_size)
    (fit_at (length c.args.opening.now) c.self.inside.said.items calls c.args.self.now c.self.view_is c.requires.fit i c.call-item.result lt item)

pub loop-call-preserved : goal.loop-call-preserved
loop-call-preserved c =
    let inv = c.loop-call.invariant in
    let said = c.self.inside.said.items in
    let calls = c.self.inside.calls.items in
    let i = c.loop-call.call-index in
    let n = c.args.moment / 2 in
    let s = opened (record { opening = block_of c.args.opening.now; calls = [] }) in
    let kept = c.deref.ensures.value in
    let in_part : i < n = omega (arith, c.loop-call-test.true, length-take n c.deref.result.now) in
    let lt : i < length calls = subst (λ (l : List Call). i < length l) kept (omega (arith, c.loop-call-test.true, length-take n c.deref.result.now)) in
    let item : c.call-item.result ≡ get_or calls i c.call-item.result =
    c.call-item.is ∙ get_or-take n c.deref.result.now i c.call-item.result in_part ∙ ap (λ (l : List Call). get_or l i c.call-item.result) kept in
    let here : Shows c.args.tear (state_after s (calls_of said (take i calls))) c.as_mut_slice.result.now c.as_mut_slice-in-loop-call.result.now =
    shows_as c.args.tear _ _ _ _ _ _ refl (sym c.as_mut_slice.ensures.value) (sym c.as_mut_slice-in-loop-call.ensures.value) inv.shows in
    let next = c.redo.ensures said (state_after s (calls_of said (take i calls))) here in
    let len_c : length c.redo.new.content ≡ c.loop-call.content.len = c.redo.auto.content ∙ c.as_mut_slice.ensures.len in
    let len_i : length c.redo.new.image ≡ c.loop-call.image.len = c.redo.auto.image ∙ c.as_mut_slice-in-loop-call.ensures.len in
    let back_c : take c.loop-call.content.len (c.redo.new.content ++ drop (length c.redo.new.content) c.loop-call.content.items) ≡ c.redo.new.content = back c.redo.new.content c.loop-call.content.items c.loop-call.content.len len_c in
    let back_i : take c.loop-call.image.len (c.redo.new.image ++ drop (length c.redo.new.image) c.loop-call.image.items) ≡ c.redo.new.image = back c.redo.new.image c.loop-call.image.items c.loop-call.image.len len_i in
    record {
      shows = shows_as c.args.tear _ _ _ _ _ _ (sym (stepped s said calls i c.call-item.result lt item)) (sym back_c) (sym back_i) next;
      content_size = ap length back_c ∙ c.redo.auto.content ∙ ap length c.as_mut_slice.ensures.value ∙ inv.content_size;
      image_size = ap length back_i ∙ c.redo.auto.image ∙ ap length c.as_mut_slice-in-loop-call.ensures.value ∙ inv.image_size;
    }

pub redo_begun-requires : goal.redo_begun-requires
redo_begun-requires c =
    let calls = c.self.inside.calls.items in
    let n = c.args.moment / 2 in
    let at = ended_at c.args.self.now c.self.inside.said.items calls c.deref.result.now c.args.moment c.loop-call.call-index c.self.view_is c.deref.ensures.value c.requires.past c.loop-call-test.false c.loop-call.auto.call-index-end in
    let lt : n < length calls = omega (arith, at.0, at.2, c.if-moment-eq0.false, c.requires.past) in
    record {
      fit = fit_as (length c.args.opening.now) (length c.as_mut_slice-2.result.now) (call_of [] c.index.result.now)
          (ap length c.as_mut_slice-2.ensures.value ∙ c.loop-call.invariant.image_size)
          (fit_at (length c.args.opening.now) c.self.inside.said.items calls c.args.self.now c.self.view_is c.requires.fit n c.index.result.now lt c.index.ensures);
    }

pub returns-then-moment-eq0-clause-image : goal.returns-then-moment-eq0-clause-image
returns-then-moment-eq0-clause-image c =
    let calls = c.self.inside.calls.items in
    let said = c.self.inside.said.items in
    let at = ended_at c.args.self.now said calls c.deref.result.now c.args.moment c.loop-call.call-index c.self.view_is c.deref.ensures.value c.requires.past c.loop-call-test.false c.loop-call.auto.call-index-end in
    let s = opened (record { opening = block_of c.args.opening.now; calls = [] }) in
    subst (λ (t : MachineState). MayLeave t (block_of c.loop-call.image.items))
    (state_even s said calls c.args.self.now c.loop-call.call-index c.args.moment c.self.view_is at.1 (omega (arith, at.0, c.if-moment-eq0.true))) c.loop-call.invariant.shows.image

pub returns-then-moment-eq0-clause-torn : goal.returns-then-moment-eq0-clause-torn
returns-then-moment-eq0-clause-torn c =
    let calls = c.self.inside.calls.items in
    let said = c.self.inside.said.items in
    let at = ended_at c.args.self.now said calls c.deref.result.now c.args.moment c.loop-call.call-index c.self.view_is c.deref.ensures.value c.requires.past c.loop-call-test.false c.loop-call.auto.call-index-end in
    let s = opened (record { opening = block_of c.args.opening.now; calls = [] }) in
    subst (λ (t : MachineState). IsTorn c.args.tear t c.loop-call.image.items)
    (state_even s said calls c.args.self.now c.loop-call.call-index c.args.moment c.self.view_is at.1 (omega (arith, at.0, c.if-moment-eq0.true))) c.loop-call.invariant.shows.torn

pub returns-clause-image : goal.returns-clause-image
returns-clause-image c =
    let calls = c.self.inside.calls.items in
    let said = c.self.inside.said.items in
    let i = c.loop-call.call-index in
    let at = ended_at c.args.self.now said calls c.deref.result.now c.args.moment i c.self.view_is c.deref.ensures.value c.requires.past c.loop-call-test.false c.loop-call.auto.call-index-end in
    let lt : i < length calls = omega (arith, at.0, at.2, c.if-moment-eq0.false, c.requires.past) in
    let item : c.index.result.now ≡ get_or calls i c.index.result.now = c.index.ensures ∙ ap (λ (k : ℕ). get_or calls k c.index.result.now) (sym at.0) in
    let first = state_after (opened (record { opening = block_of c.args.opening.now; calls = [] })) (calls_of said (take i calls)) in
    let new = c.redo_begun.new.image in
    let whole = back new c.loop-call.image.items c.loop-call.image.len (c.redo_begun.auto.image ∙ c.as_mut_slice-2.ensures.len) in
    let now = state_odd (opened (record { opening = block_of c.args.opening.now; calls = [] })) said calls c.args.self.now i c.args.moment c.index.result.now c.self.view_is lt (omega (arith, at.0, c.if-moment-eq0.false)) item in
    let here = subst (λ (l : List ℕ). MayLeave first (block_of l)) (sym c.as_mut_slice-2.ensures.value) c.loop-call.invariant.shows.image in
    subst (λ (l : List ℕ). MayLeave (state_at (opened (record { opening = block_of c.args.opening.now; calls = [] })) c.args.self.now c.args.moment) (block_of l)) (sym whole)
    (subst (λ (t : MachineState). MayLeave t (block_of new)) now (c.redo_begun.ensures.may said first here))

pub returns-clause-torn : goal.returns-clause-torn
returns-clause-torn c =
    let calls = c.self.inside.calls.items in
    let said = c.self.inside.said.items in
    let i = c.loop-call.call-index in
    let at = ended_at c.args.self.now said calls c.deref.result.now c.args.moment i c.self.view_is c.deref.ensures.value c.requires.past c.loop-call-test.false c.loop-call.auto.call-index-end in
    let lt : i < length calls = omega (arith, at.0, at.2, c.if-moment-eq0.false, c.requires.past) in
    let item : c.index.result.now ≡ get_or calls i c.index.result.now = c.index.ensures ∙ ap (λ (k : ℕ). get_or calls k c.index.result.now) (sym at.0) in
    let first = state_after (opened (record { opening = block_of c.args.opening.now; calls = [] })) (calls_of said (take i calls)) in
    let new = c.redo_begun.new.image in
    let whole = back new c.loop-call.image.items c.loop-call.image.len (c.redo_begun.auto.image ∙ c.as_mut_slice-2.ensures.len) in
    let now = state_odd (opened (record { opening = block_of c.args.opening.now; calls = [] })) said calls c.args.self.now i c.args.moment c.index.result.now c.self.view_is lt (omega (arith, at.0, c.if-moment-eq0.false)) item in
    let here = subst (IsTorn c.args.tear first) (sym c.as_mut_slice-2.ensures.value) c.loop-call.invariant.shows.torn in
    subst (IsTorn c.args.tear (state_at (opened (record { opening = block_of c.args.opening.now; calls = [] })) c.args.self.now c.args.moment)) (sym whole)
    (subst (λ (t : MachineState). IsTorn c.args.tear t new) now (c.redo_begun.ensures.torn said first here))
