-- A run over a script on a disk that stands for a tree finishes, unless a device fails or memory is wanting.
use Rattle.std.proofs.Common.{◌≡◌, ◌⊎◌, inl, inr, ◌≤◌, ◌<◌, ◌+◌, ℕ, List, [], ◌∷◌, ◌++◌, length, map, Option, refl, subst, arith}
use Rattle.std.specs.List.{AllByRecursion}
use Rattle.hl_media.specs.History.{History}
use Rattle.hl_script.specs.Spelling.{spelling}
use Rattle.hl_script.specs.Input.{lines_of, line_of, beyond, longest}
use Rattle.hl_script.proofs.Cuts.{lines_cut}
use Rattle.hl_tree.specs.Rules.{Files}
use Rattle.hl_dump.specs.Dumps.{dump_limits}
use Rattle.hl_disk.specs.declared.mounting.MountError.TheVariants.{NoLabel, NoRecord, DiskFault}
use Rattle.hl_disk.specs.declared.mounting.MountError.TheVariants as mount
use Rattle.hl_world.specs.declared.fault.CloseFault.TheVariants.{Disk}
use Rattle.hl_world.specs.declared.fault.CloseFault.TheVariants as close
use Rattle.hl_run.specs.Run.{DoneLine, IsClocked, Ran, RanOver, KeepsLines, CameTo, input_limit, status_of}
use Rattle.hl_run.specs.Scripts.{IsGoodText, IsScript, IsWhole}
use Rattle.hl_run.specs.declared.end.End.{End}
use Rattle.hl_run.specs.declared.end.End.TheVariants.{Finished, BadLine, Output, Broken, Input, Memory, TooLong}
use Rattle.hl_run.specs.declared.end.Finish.{Finish}
use Rattle.hl_run.specs.declared.end.Finish.TheVariants.{Refused, Ended, Unclosed}

-- what is behind the first of two lists of lines
behind : (P : List ℕ → Type 0) (xs ys : List (List ℕ)) → AllByRecursion P (xs ++ ys) → AllByRecursion P ys
behind P [] ys all = all
behind P (x ∷ xs) ys all = behind P xs ys all.1

-- a line of a script isn't too long
short_line : (rest : List ℕ) → AllByRecursion IsGoodText (lines_of rest) → length (line_of rest) ≤ longest
short_line [] all = omega arith
short_line (b ∷ bytes) all =
    let good : AllByRecursion IsGoodText (line_of (b ∷ bytes) ∷ lines_of (beyond (b ∷ bytes))) = subst (AllByRecursion IsGoodText) (lines_cut (b ∷ bytes) (omega arith)) all in
    good.0.0

module _ (C B : Type 0) (opening : Files) (input : List ℕ) (script : IsScript input) where
  rest_is_good : (end : End) (text : List ℕ) (r : Ran C B dump_limits input_limit opening input end text) → AllByRecursion IsGoodText (lines_of r.rest)
  rest_is_good end text r = behind IsGoodText (map (λ (d : DoneLine). spelling d.line) r.done) (lines_of r.rest) (subst (AllByRecursion IsGoodText) r.cut script.lines)

  -- a script has no bad line
  no_bad_line : (text : List ℕ) → Ran C B dump_limits input_limit opening input BadLine text → ⊥
  no_bad_line text r =
      let e = r.ends.1 in
      let good : AllByRecursion IsGoodText (e.0 ∷ lines_of (beyond r.rest)) = subst (AllByRecursion IsGoodText) e.1 (rest_is_good BadLine text r) in
      let line = good.0.1 in
      e.2 line.0 line.1 line.2 line.3

  -- and passes no limit
  no_limit : (text : List ℕ) → Ran C B dump_limits input_limit opening input TooLong text → ⊥
  no_limit text r = by_limit r.ends.1
    where
      fits : length (line_of r.rest) ≤ longest
      fits = short_line r.rest (rest_is_good TooLong text r)

      by_limit : (longest < length (line_of r.rest)) ⊎ (input_limit + length (beyond r.rest) < length input) → ⊥
      by_limit (inl long) = let le = fits in omega (arith, long, le)
      by_limit (inr over) = let le = script.short in omega (arith, over, le)

-- what is left of a run that met no fault
pub finishes : (C B : Type 0) (blocks : ℕ) (left times times' : Option (List ℕ)) (before now : Option History) → IsWhole blocks left before
    → (finish : Finish) → CameTo C B blocks left times times' before now finish → (status_of finish ≡ 5 → ⊥) → (status_of finish ≡ 6 → ⊥) → (status_of finish ≡ 7 → ⊥) → (status_of finish ≡ 0) ⊎ (status_of finish ≡ 8)
finishes C B blocks left times times' before now w (Refused NoLabel) came disk output input = absurd (came.0 w.history w.tells w.stands.label)
finishes C B blocks left times times' before now w (Refused NoRecord) came disk output input = absurd ((came.0 w.history w.tells).1 w.stands.newest w.tree w.stands.checks)
finishes C B blocks left times times' before now w (Refused DiskFault) came disk output input = absurd (disk refl)
finishes C B blocks left times times' before now w (Refused mount.Memory) came disk output input = inr refl
finishes C B blocks left times times' before now w (Ended Finished) came disk output input = inl refl
finishes C B blocks left times times' before now w (Ended BadLine) came disk output input =
    let ran = subst (λ (o : Option (List ℕ)). RanOver C B (KeepsLines blocks now BadLine) (IsClocked times times' BadLine) blocks o before now BadLine) w.told came in absurd (no_bad_line C B ran.0 w.input w.script ran.2.0 ran.2.1)
finishes C B blocks left times times' before now w (Ended Output) came disk output input = absurd (output refl)
finishes C B blocks left times times' before now w (Ended Broken) came disk output input = absurd (disk refl)
finishes C B blocks left times times' before now w (Ended Input) came disk output input = absurd (input refl)
finishes C B blocks left times times' before now w (Ended Memory) came disk output input = inr refl
finishes C B blocks left times times' before now w (Ended TooLong) came disk output input =
    let ran = subst (λ (o : Option (List ℕ)). RanOver C B (KeepsLines blocks now TooLong) (IsClocked times times' TooLong) blocks o before now TooLong) w.told came in absurd (no_limit C B ran.0 w.input w.script ran.2.0 ran.2.1)
finishes C B blocks left times times' before now w (Unclosed end Disk) came disk output input = absurd (disk refl)
finishes C B blocks left times times' before now w (Unclosed end close.Memory) came disk output input = inr refl
