-- Steps in plain files, one and many.
use Rattle.std.specs.Prelude.{◌≡◌, ℕ, ◌-◌, ◌^◌, ◌<◌, List, [], ◌∷◌, Option, None, Some}
use Rattle.std.specs.FinMap.{insert}
use Rattle.hl_addr.specs.Layout.{Layout}
use Rattle.hl_tree.specs.declared.call.Call.{Call}
use Rattle.hl_tree.specs.declared.call.Reply.{Reply}
use Rattle.hl_tree.specs.Rules.{Files, after, reply}
use Rattle.hl_tree.specs.Tree.{IsTree}
use Rattle.hl_placed.specs.Blocks.{Shelf, SerialsBelow}
use Rattle.hl_placed.specs.Placed.{plain, ArePlaced, EachFile}
use Rattle.hl_placed.specs.Staging.{HoldsBlocks}
use Rattle.hl_model.specs.Allowed.{IsAllowed}
use Rattle.hl_model.specs.Answers.{SiteAnswer}
use Rattle.hl_model.specs.Answers as answers
use Rattle.hl_model.specs.Events.{SiteEvent, FileCall, Stage}
use Rattle.hl_model.specs.Site.{SiteState}
use Rattle.hl_model.specs.Stagings.{chosen}
use Rattle.hl_model.specs.Steps.{State, SiteStep, shelf_broken}
use Rattle.hl_model.specs.Ruled.{limits_of}
use Rattle.hl_model.specs.Units.{Middles}

-- a staging brings a segment to the shelf
abbrev pub shelf_after : Shelf → ℕ → List ℕ → SiteAnswer → Shelf
shelf_after shelf serial segment (answers.Staged blocks volume slot line) = insert shelf serial segment
shelf_after shelf serial segment answer = shelf

-- a file call that is done changes the plain tree by the file rules, and nothing else does
abbrev pub plain_after : Layout → Files → SiteEvent → SiteAnswer → Files
plain_after g files (FileCall now call) (answers.Done reply) = after (limits_of g) files call
plain_after g files event answer = files

-- a file call that is done answers by the file rules
abbrev pub IsReply : Layout → Files → SiteEvent → SiteAnswer → Type 0
IsReply g files event answer = (now : ℕ) (call : Call) (said : Reply)
    → event ≡ FileCall now call → answer ≡ answers.Done said → said ≡ reply (limits_of g) files call

-- what a staging wrote holds the blocks that it takes
abbrev pub Writes : Layout → Shelf → SiteState → List ℕ → SiteEvent → SiteAnswer → Type 0
Writes g shelf s segment (Stage paths) (answers.Staged blocks volume slot line) =
    HoldsBlocks (plain shelf s.tree) segment 1 (chosen g s paths)
Writes g shelf s segment event answer = Unit {0}

pub record InPlain (g : Layout) (shelf : Shelf) (before : SiteState) (segment : List ℕ) (event : SiteEvent)
    (answer : SiteAnswer) (after : SiteState) : Type 0 where
  pub tree : plain (shelf_after shelf before.next_serial segment answer) after.tree
      ≡ plain_after g (plain shelf before.tree) event answer
  pub reply : IsReply g (plain shelf before.tree) event answer

-- what holds of a site between steps
pub record IsSite (shelf : Shelf) (s : SiteState) : Type 0 where
  pub tree : IsTree (plain shelf s.tree)
  pub files : ArePlaced shelf s.tree
  pub serials : EachFile (SerialsBelow s.next_serial) s.tree

-- WHOLE RUNS

-- what was asked and answered, and what the step did in between
pub record Stepped : Type 0 where
  pub event : SiteEvent
  pub answer : SiteAnswer
  pub mid : Middles

-- a staging that broke as it stopped the site may have brought its segment
abbrev pub shelf_failed : SiteEvent → Option ℕ → Shelf → ℕ → List ℕ → Shelf
shelf_failed event None shelf serial segment = shelf
shelf_failed event (Some faults) shelf serial segment = shelf_broken event shelf serial segment

-- the shelf behind a step, which left the site stopped so
abbrev pub shelf_behind : SiteEvent → SiteAnswer → Option ℕ → Shelf → ℕ → List ℕ → Shelf
shelf_behind event answers.Eio stopped shelf serial segment = shelf_failed event stopped shelf serial segment
shelf_behind event answer stopped shelf serial segment = shelf_after shelf serial segment answer

-- a step of a run: it was allowed, the serials don't end, and what it staged holds its blocks
pub record Takes (g : Layout) (shelf : Shelf) (before : State) (entry : Stepped) (after : State) : Type 0 where
  pub allowed : IsAllowed before.site entry.event
  pub room : before.site.next_serial < 2 ^ 64 - 1
  pub writes : Writes g shelf before.site entry.mid.segment entry.event entry.answer
  pub step : SiteStep g shelf entry.mid before entry.event entry.answer after

-- steps one after another, that which stops the site and those behind it among them
abbrev pub Run : Layout → Shelf → State → List Stepped → Shelf → State → Type 0
Run g shelf before [] last after = (last ≡ shelf) × (after ≡ before)
Run g shelf before (entry ∷ entries) last after = (mid : State)
    × Takes g shelf before entry mid
    × Run g (shelf_behind entry.event entry.answer mid.site.stopped shelf before.site.next_serial entry.mid.segment)
    mid entries last after

-- the plain tree after a run
abbrev pub plain_run : Layout → Files → List Stepped → Files
plain_run g files [] = files
plain_run g files (entry ∷ entries) = plain_run g (plain_after g files entry.event entry.answer) entries

-- each reply in a run is that of the file rules on the plain tree then
abbrev pub AreReplies : Layout → Files → List Stepped → Type 0
AreReplies g files [] = Unit {0}
AreReplies g files (entry ∷ entries) = IsReply g files entry.event entry.answer
    × AreReplies g (plain_after g files entry.event entry.answer) entries

-- a site that stopped stays so, and neither its tree nor the shelf changes
pub record StaysStopped (faults : ℕ) (first : Shelf) (before : State) (last : Shelf) (after : State) : Type 0 where
  pub stopped : after.site.stopped ≡ Some faults
  pub tree : after.site.tree ≡ before.site.tree
  pub shelf : last ≡ first
