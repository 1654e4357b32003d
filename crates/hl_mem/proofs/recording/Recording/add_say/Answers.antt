use Rattle.std.proofs.Common.{◌≡◌, ℕ, List, [], ◌∷◌, ◌++◌, length, ap, sym, ◌∙◌, subst, arith}
use Rattle.hl_media.specs.History.{DeviceCall}
use Rattle.hl_media.specs.History.DeviceCall.{Say}
use Rattle.hl_mem.specs.declared.call.Call.{Call}
use Rattle.hl_mem.specs.declared.call.Call.TheVariants.{Saying}
use Rattle.hl_mem.specs.Recorded.{calls_of, IsRecorded}
use Rattle.hl_mem.proofs.Recordings.{say_recorded, calls_of-say}
use Rattle.hl_mem.proofs.recording.Recording.add_say.Goals as goal

-- the calls that are kept
added : (new reserved old : List Call) (start : ℕ) (said bytes : List ℕ) → new ≡ reserved ++ Saying start (length bytes) ∷ [] → reserved ≡ old → start ≡ length said → new ≡ old ++ Saying (length said) (length bytes) ∷ []
added new reserved old start said bytes a b c = cc

pub invariant_of-self-2 : goal.invariant_of-self-2
invariant_of-self-2 c =
    let said = c.self.inside.said.items in
    let calls = c.self.inside.calls.items in
    let bytes = c.args.bytes.now in
    let longer = c.in_ok-extend_from_slice.ensures.items in
    let more = added c.push_reserved.new.self.items c.reserve.new.self.items calls c.len-start.result said bytes c.push_reserved.ensures.items c.reserve.ensures.items (omega (arith, c.len-start.ensures, c.self.inside.said.ok)) in
    subst (λ (l : List ℕ). IsRecorded l c.push_reserved.new.self.items) (sym longer)
    (subst (λ (l : List Call). IsRecorded (said ++ bytes) l) (sym more) (say_recorded said bytes calls c.self.invariant))

pub returns : goal.returns
returns c =
    let said = c.self.inside.said.items in
    let calls = c.self.inside.calls.items in
    let bytes = c.args.bytes.now in
    let longer = c.in_ok-extend_from_slice.ensures.items in
    let more = added c.push_reserved.new.self.items c.reserve.new.self.items calls c.len-start.result said bytes c.push_reserved.ensures.items c.reserve.ensures.items (omega (arith, c.len-start.ensures, c.self.inside.said.ok)) in
    ap (λ (l : List ℕ). calls_of l c.push_reserved.new.self.items) longer
    ∙ ap (λ (l : List Call). calls_of (said ++ bytes) l) more
    ∙ calls_of-say said bytes calls c.self.invariant.within
    ∙ ap (λ (l : List DeviceCall). l ++ Say bytes ∷ []) c.self.view_is
