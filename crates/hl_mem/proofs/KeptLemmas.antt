-- What a machine in memory keeps true after a call.
use Rattle.std.proofs.Common.{◌≡◌, ℕ, ◌*◌, List, [], ◌∷◌, ◌++◌, length, Result, Ok, Err, true, false, Bool, refl, sym, ◌∙◌, ap, subst}
use Rattle.std.specs.Prelude.{is_err}
use Rattle.std.specs.declared.alloc.AllocError.{AllocError}
use Rattle.std.proofs.lemmas.List.Elements.{All-push}
use Rattle.hl_bytes.specs.Buffers.{block_of}
use Rattle.hl_media.specs.History.{MachineState, DeviceCall, ended, state_after, opened}
use Rattle.hl_media.specs.History.DeviceCall.{Read, Sync, Say}
use Rattle.hl_media.proofs.Runs.{state_after-append}
use Rattle.hl_mem.specs.Recorded.{AddsCall}
use Rattle.hl_mem.specs.Kept.{IsFit, IsKept}

-- these bytes show the disk after the call, wherever the first showed it before
abbrev pub Leads : List ℕ → DeviceCall → List ℕ → Type 0
Leads bytes call next = (s : MachineState) → ((k : ℕ) → s.content k ≡ block_of bytes k) → (k : ℕ) → (ended s call).content k ≡ block_of next k

-- calls that write nothing
pub read_leads : (bytes : List ℕ) → Leads bytes Read bytes
read_leads bytes s is k = is k

pub say_leads : (bytes said : List ℕ) → Leads bytes (Say said) bytes
say_leads bytes said s is k = is k

pub sync_leads : (bytes : List ℕ) (succeeded : Bool) → Leads bytes (Sync succeeded) bytes
sync_leads bytes true s is k = is k
sync_leads bytes false s is k = is k

module _ (blocks : ℕ) (opening : List ℕ) (calls : List DeviceCall) (bytes : List ℕ) (kept : IsKept blocks opening calls bytes) where
  -- after one call more
  pub kept_then : (call : DeviceCall) (next : List ℕ) → IsFit (4096 * blocks) call → length next ≡ length bytes → Leads bytes call next → IsKept blocks opening (calls ++ call ∷ []) next
  kept_then call next fit size leads = record {
    opening_size = kept.opening_size;
    size = size ∙ kept.size;
    fit = All-push (IsFit (4096 * blocks)) calls call kept.fit fit;
    current = λ k.
        let s = opened (record { opening = block_of opening; calls = calls }) in
        ap (λ (t : MachineState). t.content k) (state_after-append s calls (call ∷ [])) ∙ leads (state_after s calls) kept.current k;
  }

  -- the call was added, or it wasn't
  pub kept_either : (r : Result (Unit {0}) AllocError) (now : List DeviceCall) (call : DeviceCall) → AddsCall r calls now call → IsFit (4096 * blocks) call → Leads bytes call bytes → IsKept blocks opening now bytes
  kept_either (Ok u) now call adds fit leads = subst (λ (l : List DeviceCall). IsKept blocks opening l bytes) (sym adds) (kept_then call bytes fit refl leads)
  kept_either (Err e) now call adds fit leads = subst (λ (l : List DeviceCall). IsKept blocks opening l bytes) (sym adds) kept

-- it was added
pub added : (r : Result (Unit {0}) AllocError) (before now : List DeviceCall) (call : DeviceCall) → is_err r ≡ false → AddsCall r before now call → now ≡ before ++ call ∷ []
added (Ok u) before now call fine adds = adds
added (Err e) before now call fine adds = cc
