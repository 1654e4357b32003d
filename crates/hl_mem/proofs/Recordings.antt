-- Calls that are added to a recording.
use Rattle.std.proofs.Common.{◌≡◌, ℕ, ◌≤◌, true, false, List, [], ◌∷◌, ◌++◌, length, take, drop, All, refl, ◌∙◌, ap, arith, length-append, length-drop, append_assoc}
use Rattle.std.proofs.lemmas.List.{map-append, take-append-le, drop-append-le, drop_at, take_all}
use Rattle.std.proofs.lemmas.List.Elements.{All-push, All-head, All-tail, All-weaker}
use Rattle.hl_media.specs.History.{DeviceCall, MachineState, ended, state_after}
use Rattle.hl_media.specs.History.DeviceCall.{Say}
use Rattle.hl_media.proofs.Runs.{state_after-append}
use Rattle.hl_mem.specs.declared.call.Call.{Call}
use Rattle.hl_mem.specs.declared.call.Call.TheVariants.{Reading, Writing, FailedWriting, Syncing, Saying}
use Rattle.hl_mem.specs.Recorded.{call_of, calls_of, IsWithin, IsQuiet, IsRecorded}

-- more bytes said change no earlier call
call_of-more : (said more : List ℕ) (call : Call) → IsWithin (length said) call → call_of (said ++ more) call ≡ call_of said call
call_of-more said more Reading within = refl
call_of-more said more (Writing at bytes) within = refl
call_of-more said more (FailedWriting at bytes after) within = refl
call_of-more said more (Syncing succeeded) within = refl
call_of-more said more (Saying start count) within = ap Say (
    ap (take count) (drop-append-le start said more (omega arith))
    ∙ take-append-le count (drop start said) more (omega (arith, length-drop start said)))

calls_of-more : (said more : List ℕ) (calls : List Call) → All (IsWithin (length said)) calls → calls_of (said ++ more) calls ≡ calls_of said calls
calls_of-more said more [] within = refl
calls_of-more said more (call ∷ calls) within =
    ap (λ (c : DeviceCall). c ∷ calls_of (said ++ more) calls) (call_of-more said more call (All-head (IsWithin (length said)) call calls within))
    ∙ ap (λ (l : List DeviceCall). call_of said call ∷ l) (calls_of-more said more calls (All-tail (IsWithin (length said)) call calls within))

within-more : (m n : ℕ) → m ≤ n → (call : Call) → IsWithin m call → IsWithin n call
within-more m n le Reading within = tt
within-more m n le (Writing at bytes) within = tt
within-more m n le (FailedWriting at bytes after) within = tt
within-more m n le (Syncing succeeded) within = tt
within-more m n le (Saying start count) within = omega arith

-- a call that says nothing stands for the same whatever was said
pub quiet_is : (said : List ℕ) (call : Call) → IsQuiet call → call_of said call ≡ call_of [] call
quiet_is said Reading quiet = refl
quiet_is said (Writing at bytes) quiet = refl
quiet_is said (FailedWriting at bytes after) quiet = refl
quiet_is said (Syncing succeeded) quiet = refl
quiet_is said (Saying start count) quiet = absurd quiet

quiet_within : (n : ℕ) (call : Call) → IsQuiet call → IsWithin n call
quiet_within n Reading quiet = tt
quiet_within n (Writing at bytes) quiet = tt
quiet_within n (FailedWriting at bytes after) quiet = tt
quiet_within n (Syncing succeeded) quiet = tt
quiet_within n (Saying start count) quiet = absurd quiet

quiet_says : (said : List ℕ) (call : Call) (s : MachineState) → IsQuiet call → (ended s (call_of said call)).said ≡ s.said
quiet_says said Reading s quiet = refl
quiet_says said (Writing at bytes) s quiet = refl
quiet_says said (FailedWriting at bytes after) s quiet = refl
quiet_says said (Syncing true) s quiet = refl
quiet_says said (Syncing false) s quiet = refl
quiet_says said (Saying start count) s quiet = absurd quiet

pub calls_of-quiet : (said : List ℕ) (calls : List Call) (call : Call) → IsQuiet call → calls_of said (calls ++ call ∷ []) ≡ calls_of said calls ++ call_of [] call ∷ []
calls_of-quiet said calls call quiet = map-append (call_of said) calls (call ∷ []) ∙ ap (λ (c : DeviceCall). calls_of said calls ++ c ∷ []) (quiet_is said call quiet)

-- what is said after one call more
said_then : (s : MachineState) (calls : List DeviceCall) (call : DeviceCall) → (state_after s (calls ++ call ∷ [])).said ≡ (ended (state_after s calls) call).said
said_then s calls call = ap (λ (t : MachineState). t.said) (state_after-append s calls (call ∷ []))

pub quiet_recorded : (said : List ℕ) (calls : List Call) (call : Call) → IsQuiet call → IsRecorded said calls → IsRecorded said (calls ++ call ∷ [])
quiet_recorded said calls call quiet recorded = record {
  within = All-push (IsWithin (length said)) calls call recorded.within (quiet_within (length said) call quiet);
  says = λ s.
      ap (λ (l : List DeviceCall). (state_after s l).said) (map-append (call_of said) calls (call ∷ []))
      ∙ said_then s (calls_of said calls) (call_of said call)
      ∙ quiet_says said call (state_after s (calls_of said calls)) quiet
      ∙ recorded.says s;
}

pub calls_of-say : (said bytes : List ℕ) (calls : List Call) → All (IsWithin (length said)) calls
    → calls_of (said ++ bytes) (calls ++ Saying (length said) (length bytes) ∷ []) ≡ calls_of said calls ++ Say bytes ∷ []
calls_of-say said bytes calls within =
    map-append (call_of (said ++ bytes)) calls (Saying (length said) (length bytes) ∷ [])
    ∙ ap (λ (l : List DeviceCall). l ++ call_of (said ++ bytes) (Saying (length said) (length bytes)) ∷ []) (calls_of-more said bytes calls within)
    ∙ ap (λ (l : List ℕ). calls_of said calls ++ Say l ∷ [])
    (ap (take (length bytes)) (drop_at said bytes (length said) refl) ∙ take_all (length bytes) bytes (omega arith))

pub say_recorded : (said bytes : List ℕ) (calls : List Call) → IsRecorded said calls → IsRecorded (said ++ bytes) (calls ++ Saying (length said) (length bytes) ∷ [])
say_recorded said bytes calls recorded = record {
  within =
      let longer : length said ≤ length (said ++ bytes) = omega (arith, length-append said bytes) in
      let earlier = All-weaker (IsWithin (length said)) (IsWithin (length (said ++ bytes))) (within-more (length said) (length (said ++ bytes)) longer) calls recorded.within in
      All-push (IsWithin (length (said ++ bytes))) calls (Saying (length said) (length bytes)) earlier (omega (arith, length-append said bytes));
  says = λ s.
      ap (λ (l : List DeviceCall). (state_after s l).said) (calls_of-say said bytes calls recorded.within)
      ∙ said_then s (calls_of said calls) (Say bytes)
      ∙ ap (λ (l : List ℕ). l ++ bytes) (recorded.says s)
      ∙ append_assoc s.said said bytes;
}
