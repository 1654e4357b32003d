-- What the units, passes and checkpoints of a step do to the log.
use Rattle.std.specs.Prelude.{◌≡◌, ◌⊎◌, ℕ, ◌<◌, ◌≤◌, nat_lt, ◌++◌, List, [], ◌∷◌, length, Contains, true, false, Bool}
use Rattle.hl_tree.specs.declared.call.Reply.TheVariants as replies
use Rattle.hl_model.specs.Answers.{SiteAnswer}
use Rattle.hl_model.specs.Answers as answers
use Rattle.hl_model.specs.Cleaning.{Live, LogUse}

-- The segment is used, is not the head, and no block of the tree lies in it.
pub record HoldsNone (log : LogUse) (segment : ℕ) : Type 0 where
  pub one : Live
  pub listed : Contains log.live one
  pub same : one.segment ≡ segment
  pub empty : one.charge ≡ 0

-- none lies in a segment that was cleaned since the last checkpoint
abbrev pub AreEmptied : LogUse → Type 0
AreEmptied log = (segment : ℕ) → Contains log.cleaned segment → HoldsNone log segment

-- nothing is dirty while passes are left
abbrev pub IsQuiet : LogUse → Type 0
IsQuiet log = log.left ≡ true → log.tidy ≡ true

-- No record was written, and these segments were cleaned besides; or one was, and only these were cleaned since.
abbrev pub CleansMore : List ℕ → LogUse → LogUse → Type 0
CleansMore more before after =
    ((after.number ≡ before.number) × (after.cleaned ≡ before.cleaned ++ more))
    ⊎ ((before.number < after.number) × (after.cleaned ≡ more))

-- Units and passes. Nothing is dirty behind them. A pass ends with a checkpoint; only one that was left cleaned segments,
-- four at most, without.
pub record Cleans (before after : LogUse) : Type 0 where
  pub more : List ℕ
  pub cleaned : CleansMore more before after
  pub few : length more ≤ 4
  pub none : after.left ≡ false → more ≡ []
  pub tidy : after.tidy ≡ true
  pub emptied : AreEmptied after

-- what writes nothing in the log leaves it
abbrev pub LogGoesOn : Bool → LogUse → LogUse → Type 0
LogGoesOn true before after = Cleans before after
LogGoesOn false before after = after ≡ before

-- What a step does in between: the log once its first unit is written and its passes are run, the log behind the unit that
-- cleans a segment, and the segment that a staging writes in its line.
pub record Middles : Type 0 where
  pub first : LogUse
  pub unit : LogUse
  pub segment : List ℕ

-- WHAT FOLLOWS THE FIRST UNIT

-- a unit or a checkpoint may begin: six segments are clean, and no pass was left
pub record HasRoomFor (log : LogUse) : Type 0 where
  pub clean : 6 ≤ log.clean
  pub ran : log.left ≡ false

-- a unit, and passes
pub record WritesMore (before after : LogUse) : Type 0 where
  pub room : HasRoomFor before
  pub cleans : Cleans before after

-- A unit cleans the segment, so that no block of the tree lies in it. Passes follow where it leaves fewer than ten clean.
pub record HasCleaned (segment : ℕ) (mid : Middles) (after : LogUse) : Type 0 where
  pub room : HasRoomFor mid.first
  pub number : mid.unit.number ≡ mid.first.number
  pub cleaned : mid.unit.cleaned ≡ mid.first.cleaned ++ segment ∷ []
  pub tidy : mid.unit.tidy ≡ true
  pub ran : mid.unit.left ≡ false
  pub emptied : AreEmptied mid.unit
  pub passes : LogGoesOn (nat_lt mid.unit.clean 10) mid.unit after

-- A checkpoint is written, so that the cleaned segments begin anew. Passes may follow.
pub record HasBegunAnew (before after : LogUse) : Type 0 where
  pub room : HasRoomFor before
  pub number : before.number < after.number
  pub few : length after.cleaned ≤ 4
  pub none : after.left ≡ false → after.cleaned ≡ []
  pub tidy : after.tidy ≡ true
  pub emptied : AreEmptied after

-- the same segments in the same order, and in none of them more of the tree
abbrev pub AreNoFuller : List Live → List Live → Type 0
AreNoFuller [] [] = Unit {0}
AreNoFuller (one ∷ ones) (was ∷ weres) = (one.segment ≡ was.segment) × (one.charge ≤ was.charge) × AreNoFuller ones weres
AreNoFuller ones weres = ⊥

-- A file call takes blocks out of segments and makes others dirty, and that only while no pass is left. It writes nothing.
pub record HasChanged (before after : LogUse) : Type 0 where
  pub number : after.number ≡ before.number
  pub cleaned : after.cleaned ≡ before.cleaned
  pub clean : after.clean ≡ before.clean
  pub left : after.left ≡ before.left
  pub live : AreNoFuller after.live before.live
  pub quiet : before.left ≡ true → after ≡ before

-- The log behind what the answer says. A unit follows a staging and the end of a copy, a cleaning writes one, and a
-- checkpoint begins anew; nothing else writes there.
abbrev pub LeavesLog : SiteAnswer → Middles → LogUse → Type 0
LeavesLog (answers.Done (replies.Refused why)) mid after = after ≡ mid.first
LeavesLog (answers.Done reply) mid after = HasChanged mid.first after
LeavesLog (answers.Staged blocks volume slot line) mid after = WritesMore mid.first after
LeavesLog answers.Home mid after = WritesMore mid.first after
LeavesLog (answers.Moved volume slot) mid after = WritesMore mid.first after
LeavesLog answers.Stuck mid after = WritesMore mid.first after
LeavesLog (answers.Cleaned segment) mid after = HasCleaned segment mid after
LeavesLog answers.Checkpointed mid after = HasBegunAnew mid.first after
LeavesLog answer mid after = after ≡ mid.first

-- those answers stand behind a unit or a checkpoint
abbrev pub writes_more : SiteAnswer → Bool
writes_more (answers.Staged blocks volume slot line) = true
writes_more answers.Home = true
writes_more (answers.Moved volume slot) = true
writes_more answers.Stuck = true
writes_more (answers.Cleaned segment) = true
writes_more answers.Checkpointed = true
writes_more answer = false
