-- Texts that are said where nothing else is done but to read.
use Rattle.std.proofs.Common.{◌≡◌, ◌⊎◌, inl, inr, ⊎_elim, ℕ, Result, Ok, Err, OnOk, List, [], ◌++◌, Option, refl, sym, ap, ◌∙◌, append-nil}
use Rattle.hl_media.specs.History.{History, MachineState, state_now}
use Rattle.hl_media.specs.declared.failed.Failed.{Failed}
use Rattle.hl_media.specs.Moments.{Now, Runs}
use Rattle.hl_media.specs.Moments.{Ends as LastMoment}
use Rattle.hl_media.specs.Saying.{Says, SaysSome}
use Rattle.hl_media.proofs.Runs.{AtEach-map, goes_on, ends_of_run, ends_then, starts, told_before}
use Rattle.hl_tree.specs.Tree.{root_alone}
use Rattle.hl_disk.specs.Formats.{Formats}
use Rattle.hl_disk.specs.Stops.{IsSettled}
use Rattle.hl_disk.proofs.More.{formats_more}
use Rattle.hl_run.specs.Command.{made_text}
use Rattle.hl_run.specs.Makes.{Makes}
use Rattle.hl_run.specs.declared.making.Making.TheVariants.{Made, Unsaid}
use Rattle.hl_run.proofs.Points.{same_settled}
use Rattle.hl_run.specs.Run.{IsPart, IsAlone, SaysAlone}
use Rattle.hl_run.proofs.Hearing.{Heard, text_heard, some_heard, says_end}

-- weaker facts of each moment
runs_map : (before now : Option History) (P Q : MachineState → MachineState → Type 0) → ((first s : MachineState) → P first s → Q first s) → Runs before now P → Runs before now Q
runs_map before now P Q weaker run = record {
  calls = run.calls;
  is = run.is;
  each = λ h e. AtEach-map (P (state_now h)) (Q (state_now h)) (weaker (state_now h)) (state_now h) run.calls (run.each h e);
}

heard_alone : (text : List ℕ) (before now : Option History) → Runs before now (Heard text) → Runs before now (IsAlone text)
heard_alone text before now run = runs_map before now (Heard text) (IsAlone text) (λ first s heard. (heard.content, heard.pending, (heard.part, heard.said, heard.is_part))) run

-- a text is said, as far as it could be
pub alone : (Cut : Type 0) (text : List ℕ) (before now : Option History) → Says before now text ⊎ (Cut × SaysSome before now text) → SaysAlone Cut text before now
alone Cut text before now (inl says) = (heard_alone text before now (text_heard before now text says), inl (λ h e h' e'. (says_end before now text says h e h' e').0))
alone Cut text before now (inr some) = (heard_alone text before now (some_heard before now text some.1), inr some.0)

-- it is said whole where nothing failed
pub whole_told : (before now : Option History) (text : List ℕ) (r : Result (Unit {0}) Failed) → OnOk r (Says before now text) → OnOk r (LastMoment before now (λ first s. s.said ≡ first.said ++ text))
whole_told before now text (Ok u) says = λ h e h' e'. (says_end before now text says h e h' e').0
whole_told before now text (Err e) says = tt

-- a disk that was made, and then a first part of a text
module _ (blocks : ℕ) (before mid now : Option History) (formats : Formats blocks before mid) (settled : Now mid (IsSettled blocks 1 root_alone)) (said : LastMoment before mid (λ first s. s.said ≡ first.said))
    (run : Runs mid now (IsAlone made_text)) where
  still_formats : Formats blocks before now
  still_formats = formats_more blocks before mid now formats settled (runs_map mid now (IsAlone made_text) (λ m s. (s.content ≡ m.content) × (s.pending ≡ m.pending)) (λ m s is. (is.0, is.1)) run)

  still_settled : Now now (IsSettled blocks 1 root_alone)
  still_settled h' e' =
      let told = told_before mid run.calls h' (sym run.is ∙ e') in
      let last = ends_of_run mid now (IsAlone made_text) run told.0 told.1 h' e' in
      same_settled blocks 1 root_alone (state_now told.0) (state_now h') (settled told.0 told.1) last.0 last.1

  pub made_whole : LastMoment mid now (λ m s. s.said ≡ m.said ++ made_text) → Makes blocks before now Made
  made_whole whole = record {
    formats = still_formats;
    leaves = (
      still_settled,
      ends_then before mid now run.calls run.is (λ first s. s.said ≡ first.said) (λ m s. s.said ≡ m.said ++ made_text) (λ first s. s.said ≡ first.said ++ made_text) said whole
          (λ first m s b q. q ∙ ap (λ l. l ++ made_text) b),
    );
  }

  pub made_unsaid : Makes blocks before now Unsaid
  made_unsaid = record {
    formats = still_formats;
    leaves = (
      still_settled,
      ends_then before mid now run.calls run.is (λ first s. s.said ≡ first.said) (IsAlone made_text) (λ first s. (part : List ℕ) × (s.said ≡ first.said ++ part) × IsPart part made_text) said (ends_of_run mid now (IsAlone made_text) run)
          (λ first m s b q. (q.2.0, q.2.1 ∙ ap (λ l. l ++ q.2.0) b, q.2.2)),
    );
  }

-- nothing is said
pub silent : (Cut : Type 0) (now : Option History) → SaysAlone Cut [] now now
silent Cut now = (
  starts now (IsAlone []) (λ h e. (refl, refl, ([], sym (append-nil (state_now h).said), ([], refl)))),
  inl (λ h e h' e'. (let same : h' ≡ h = cc in ap (λ (x : History). (state_now x).said) same ∙ sym (append-nil (state_now h).said))),
)

-- behind calls that change nothing
pub alone_behind : (Cut : Type 0) (text : List ℕ) (before mid now : Option History) → Runs before mid (λ first s. s ≡ first) → SaysAlone Cut text mid now → SaysAlone Cut text before now
alone_behind Cut text before mid now still says = (
  goes_on before mid now (IsAlone text) (IsAlone text) (λ first s. s ≡ first)
      (runs_map before mid (λ first s. s ≡ first) (IsAlone text) (λ first s same. (
        ap (λ (x : MachineState). x.content) same,
        ap (λ (x : MachineState). x.pending) same,
        ([], ap (λ (x : MachineState). x.said) same ∙ sym (append-nil first.said), (text, refl)),
      )) still)
      (ends_of_run before mid (λ first s. s ≡ first) still) says.0
      (λ first m s same alone_is. (
        alone_is.0 ∙ ap (λ (x : MachineState). x.content) same,
        alone_is.1 ∙ ap (λ (x : MachineState). x.pending) same,
        (alone_is.2.0, alone_is.2.1 ∙ ap (λ (x : MachineState). x.said ++ alone_is.2.0) same, alone_is.2.2),
      )),
  ⊎_elim
      (λ whole. inl (ends_then before mid now says.0.calls says.0.is (λ first s. s ≡ first) (λ m s. s.said ≡ m.said ++ text) (λ first s. s.said ≡ first.said ++ text) (ends_of_run before mid (λ first s. s ≡ first) still) whole
      (λ first m s same told. told ∙ ap (λ (x : MachineState). x.said ++ text) same)))
      (λ cut. inr cut) says.1,
)
