-- What is heard of a run, moment by moment.
use Rattle.std.proofs.Common.{◌≡◌, ◌≤◌, ◌+◌, ℕ, suc, true, false, if◌then◌else◌, List, [], ◌∷◌, ◌++◌, length, map, Option, refl, sym, ap, ◌∙◌, arith, append_assoc, append-nil}
use Rattle.std.specs.List.{concat}
use Rattle.hl_media.specs.History.{History, MachineState, ended, state_after, state_now}
use Rattle.hl_media.specs.History.DeviceCall.{Say}
use Rattle.hl_media.specs.Moments.{AtEach, Runs}
use Rattle.hl_media.specs.Moments.{Ends as LastMoment}
use Rattle.hl_media.specs.Saying.{Says, SaysSome}
use Rattle.hl_media.proofs.Runs.{ends_from}
use Rattle.hl_script.specs.declared.said.Said.{Said}
use Rattle.hl_script.specs.Answer.{answer_line}
use Rattle.hl_script.specs.Input.{is_newline}
use Rattle.hl_run.specs.Run.{DoneLine, HasSaid, IsPart, answers, whole_lines}
use Rattle.hl_run.proofs.OneLine.{by_lines, one_line}

-- a first part of a text has been said since, and the disk is as it was
pub record Heard (text : List ℕ) (first s : MachineState) : Type 0 where
  pub part : List ℕ
  pub is_part : IsPart part text
  pub said : s.said ≡ first.said ++ part
  pub content : s.content ≡ first.content
  pub pending : s.pending ≡ first.pending

each_piece : (text : List ℕ) (first s : MachineState) (a rest : List ℕ) (pieces : List (List ℕ)) → s.said ≡ first.said ++ a → s.content ≡ first.content → s.pending ≡ first.pending
    → text ≡ (a ++ concat pieces) ++ rest → AtEach (Heard text first) s (map Say pieces)
each_piece text first s a rest [] is content pending cut =
    record { part = a; is_part = (rest, cut ∙ ap (λ l. l ++ rest) (append-nil a)); said = is; content = content; pending = pending }
each_piece text first s a rest (piece ∷ pieces) is content pending cut =
    let here : Heard text first s = record { part = a; is_part = (concat (piece ∷ pieces) ++ rest, cut ∙ append_assoc a (concat (piece ∷ pieces)) rest); said = is; content = content; pending = pending } in
    let said : s.said ++ piece ≡ first.said ++ (a ++ piece) = ap (λ l. l ++ piece) is ∙ append_assoc first.said a piece in
    let left : text ≡ ((a ++ piece) ++ concat pieces) ++ rest = cut ∙ ap (λ l. l ++ rest) (sym (append_assoc a piece (concat pieces))) in
    (here, here, each_piece text first (ended s (Say piece)) (a ++ piece) rest pieces said content pending left)

-- saying a first part of a text, and nothing else
pub part_heard : (before now : Option History) (part rest text : List ℕ) → text ≡ part ++ rest → Says before now part → Runs before now (Heard text)
part_heard before now part rest text cut says = record {
  calls = map Say says.pieces;
  is = says.is;
  each = λ h e.
      let s = state_now h in
      each_piece text s s [] rest says.pieces (sym (append-nil s.said)) refl refl (cut ∙ ap (λ l. l ++ rest) (sym says.whole));
}

pub text_heard : (before now : Option History) (text : List ℕ) → Says before now text → Runs before now (Heard text)
text_heard before now text says = part_heard before now text [] text (sym (append-nil text)) says

pub some_heard : (before now : Option History) (text : List ℕ) → SaysSome before now text → Runs before now (Heard text)
some_heard before now text some = part_heard before now some.part some.rest text some.cut some.says

-- ---- counting lines

pub whole_lines-append : (xs ys : List ℕ) → whole_lines (xs ++ ys) ≡ whole_lines xs + whole_lines ys
whole_lines-append [] ys = omega arith
whole_lines-append (x ∷ xs) ys = let more = whole_lines-append xs ys in
    elim (is_newline x) as (λ b. (if b then suc (whole_lines (xs ++ ys)) else whole_lines (xs ++ ys)) ≡ (if b then suc (whole_lines xs) else whole_lines xs) + whole_lines ys) [
      | true ↦ omega (arith, more)
      | false ↦ more
    ]

-- an answer is one line
pub whole_lines-answers : (done : List DoneLine) → whole_lines (answers done) ≡ length done
whole_lines-answers [] = refl
whole_lines-answers (d ∷ done) =
    let one = one_line d.answer in
    let more = whole_lines-answers done in
    let both = whole_lines-append (answer_line d.answer) (answers done) in
    omega (arith, one, more, both)

-- a first part of a text has no more lines
pub whole_lines-part : (part text : List ℕ) → IsPart part text → whole_lines part ≤ whole_lines text
whole_lines-part part text is =
    let both : whole_lines text ≡ whole_lines part + whole_lines is.0 = ap whole_lines is.1 ∙ whole_lines-append part is.0 in
    omega (arith, both)

pub part_of_answer : (part : List ℕ) (a : Said) → IsPart part (answer_line a) → whole_lines part ≤ 1
part_of_answer part a is =
    let le = whole_lines-part part (answer_line a) is in
    let one = one_line a in
    omega (arith, le, one)

-- ---- what has been said

-- what was said so far, as the lines that are done and those to come have it
abbrev pub has_said : (lines : List DoneLine) (extra whole : List ℕ) (first now : MachineState) (text rest : List ℕ) → now.said ≡ first.said ++ text → answers lines ++ extra ≡ text ++ rest
    → IsPart text whole → HasSaid lines whole first now
has_said lines extra whole first now text rest said cut within =
    let found = by_lines lines extra text rest (sym cut) in
    record { text = text; part = found.0; said = said; line_by_line = found.1; within = within }

pub part_of_more : (part text more : List ℕ) → IsPart part text → IsPart part (text ++ more)
part_of_more part text more is = (is.0 ++ more, ap (λ l. l ++ more) is.1 ∙ append_assoc part is.0 more)

pub part_behind : (front part text : List ℕ) → IsPart part text → IsPart (front ++ part) (front ++ text)
part_behind front part text is = (is.0, ap (λ l. front ++ l) is.1 ∙ sym (append_assoc front part is.0))

-- what is left behind saying a text
said_pieces : (first s : MachineState) (a : List ℕ) (pieces : List (List ℕ)) → s.said ≡ first.said ++ a → s.content ≡ first.content → s.pending ≡ first.pending
    → ((state_after s (map Say pieces)).said ≡ first.said ++ (a ++ concat pieces)) × ((state_after s (map Say pieces)).content ≡ first.content) × ((state_after s (map Say pieces)).pending ≡ first.pending)
said_pieces first s a [] said content pending = (said ∙ ap (λ l. first.said ++ l) (sym (append-nil a)), content, pending)
said_pieces first s a (piece ∷ pieces) said content pending =
    let here : s.said ++ piece ≡ first.said ++ (a ++ piece) = ap (λ l. l ++ piece) said ∙ append_assoc first.said a piece in
    let rest = said_pieces first (ended s (Say piece)) (a ++ piece) pieces here content pending in
    (rest.0 ∙ ap (λ l. first.said ++ l) (append_assoc a piece (concat pieces)), rest.1, rest.2)

-- a text is said, and the disk is as it was
abbrev pub HasTold : List ℕ → MachineState → MachineState → Type 0
HasTold text first s = (s.said ≡ first.said ++ text) × (s.content ≡ first.content) × (s.pending ≡ first.pending)

pub says_end : (before now : Option History) (text : List ℕ) → Says before now text → LastMoment before now (HasTold text)
says_end before now text says = ends_from before now (map Say says.pieces) says.is (HasTold text) (λ h e.
    let s = state_now h in
    let told = said_pieces s s [] says.pieces (sym (append-nil s.said)) refl refl in
    (told.0 ∙ ap (λ l. s.said ++ l) says.whole, told.1, told.2))
