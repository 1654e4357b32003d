-- What a file call that isn't a sync leaves alone.
use Rattle.std.proofs.Common.{◌≡◌, ℕ, true, false, refl, arith}
use Rattle.hl_media.specs.Causes.{HasCause}
use Rattle.hl_tree.specs.declared.call.Call.{Call}
use Rattle.hl_tree.specs.declared.call.Call.TheVariants as calls
use Rattle.hl_script.specs.declared.line.Line.{Line}
use Rattle.hl_script.specs.declared.line.Line.TheVariants as line
use Rattle.hl_script.specs.declared.said.Said.{Said}
use Rattle.hl_world.specs.Worlds.{is_acknowledged, is_eio, answer_part}

-- only a sync is acknowledged
pub not_acknowledged : (call : Call) → (call ≡ calls.Sync → ⊥) → (answer : Said) → is_acknowledged (line.File call) answer ≡ false
not_acknowledged (calls.Mkdir path) other answer = refl
not_acknowledged (calls.Create path) other answer = refl
not_acknowledged (calls.Write path at bytes) other answer = refl
not_acknowledged (calls.Cut path size) other answer = refl
not_acknowledged (calls.Read path at len) other answer = refl
not_acknowledged (calls.Stat path) other answer = refl
not_acknowledged (calls.List path) other answer = refl
not_acknowledged (calls.Unlink path) other answer = refl
not_acknowledged (calls.Rmdir path) other answer = refl
not_acknowledged (calls.Rename from to) other answer = refl
not_acknowledged calls.Sync other answer = absurd (other refl)

-- a count that stays has a cause for each answer but that the disk failed
pub stays : (n : ℕ) (answer : Said) → is_eio answer ≡ false → HasCause n n (answer_part answer)
stays n answer quiet = rw quiet (record { later = omega arith; failed = tt; kept = refl })

-- what is acknowledged is a sync
pub acknowledged_is : (l : Line) (answer : Said) → is_acknowledged l answer ≡ true → l ≡ line.File calls.Sync
acknowledged_is (line.File calls.Sync) answer is = refl
acknowledged_is (line.File (calls.Mkdir path)) answer is = absurd (let h : false ≡ true = is in cc)
acknowledged_is (line.File (calls.Create path)) answer is = absurd (let h : false ≡ true = is in cc)
acknowledged_is (line.File (calls.Write path at bytes)) answer is = absurd (let h : false ≡ true = is in cc)
acknowledged_is (line.File (calls.Cut path size)) answer is = absurd (let h : false ≡ true = is in cc)
acknowledged_is (line.File (calls.Read path at len)) answer is = absurd (let h : false ≡ true = is in cc)
acknowledged_is (line.File (calls.Stat path)) answer is = absurd (let h : false ≡ true = is in cc)
acknowledged_is (line.File (calls.List path)) answer is = absurd (let h : false ≡ true = is in cc)
acknowledged_is (line.File (calls.Unlink path)) answer is = absurd (let h : false ≡ true = is in cc)
acknowledged_is (line.File (calls.Rmdir path)) answer is = absurd (let h : false ≡ true = is in cc)
acknowledged_is (line.File (calls.Rename from to)) answer is = absurd (let h : false ≡ true = is in cc)
acknowledged_is (line.Rank count) answer is = absurd (let h : false ≡ true = is in cc)
acknowledged_is (line.Stage paths) answer is = absurd (let h : false ≡ true = is in cc)
acknowledged_is line.Copy answer is = absurd (let h : false ≡ true = is in cc)
acknowledged_is (line.Fetch path block) answer is = absurd (let h : false ≡ true = is in cc)
acknowledged_is (line.Move job) answer is = absurd (let h : false ≡ true = is in cc)
acknowledged_is (line.End job) answer is = absurd (let h : false ≡ true = is in cc)
acknowledged_is (line.Eject number) answer is = absurd (let h : false ≡ true = is in cc)
acknowledged_is line.Clean answer is = absurd (let h : false ≡ true = is in cc)
acknowledged_is line.Checkpoint answer is = absurd (let h : false ≡ true = is in cc)
