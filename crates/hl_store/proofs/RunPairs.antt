-- Two facts of each moment of one run.
use Rattle.std.proofs.Common.{◌≡◌, List, [], ◌∷◌, ◌++◌, drop, length, Option, Some, refl, subst, sym, ap, ◌∙◌}
use Rattle.std.proofs.lemmas.Option.{same_Some}
use Rattle.hl_media.specs.History.{DeviceCall, History, MachineState, ended, state_now, with_calls}
use Rattle.hl_media.specs.Moments.{AtEach, Runs}

AtEach-both : (P Q : MachineState → Type 0) (s : MachineState) (calls : List DeviceCall) → AtEach P s calls → AtEach Q s calls → AtEach (λ t. P t × Q t) s calls
AtEach-both P Q s [] p q = (p, q)
AtEach-both P Q s (c ∷ calls) p q = ((p.0, q.0), (p.1, q.1), AtEach-both P Q (ended s c) calls p.2 q.2)

behind : (xs ys : List DeviceCall) → drop (length xs) (xs ++ ys) ≡ ys
behind [] ys = refl
behind (x ∷ xs) ys = behind xs ys

-- the calls since a history are determined
one_run : (h : History) (xs ys : List DeviceCall) → with_calls xs (Some h) ≡ with_calls ys (Some h) → xs ≡ ys
one_run h xs ys same =
    let lists : h.calls ++ xs ≡ h.calls ++ ys = ap (λ (x : History). x.calls) (same_Some _ _ same) in
    sym (behind h.calls xs) ∙ ap (drop (length h.calls)) lists ∙ behind h.calls ys

pub runs_both : (before now : Option History) (P Q : MachineState → MachineState → Type 0) → Runs before now P → Runs before now Q → Runs before now (λ first s. P first s × Q first s)
runs_both before now P Q p q = record {
  calls = p.calls;
  is = p.is;
  each = λ h e.
      let same : q.calls ≡ p.calls = one_run h q.calls p.calls (ap (with_calls q.calls) (sym e) ∙ sym q.is ∙ p.is ∙ ap (with_calls p.calls) e) in
      AtEach-both (P (state_now h)) (Q (state_now h)) (state_now h) p.calls (p.each h e) (subst (AtEach (Q (state_now h)) (state_now h)) same (q.each h e));
}
