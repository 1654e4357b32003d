-- The laws of a site, which the functions of this crate have as their contracts.
use Rattle.std.specs.Prelude.{◌≡◌, ℕ, ◌-◌, ◌^◌, ◌<◌, ◌≤◌, Bool, true, List, length, None, Some, Ok, Err, get_or}
use Rattle.hl_addr.specs.Layout.{Layout, IsLineCount}
use Rattle.hl_placed.specs.Blocks.{Shelf}
use Rattle.hl_placed.specs.Placed.{PlacedTree, plain}
use Rattle.hl_model.specs.Allowed.{IsAllowed}
use Rattle.hl_model.specs.Answers.{SiteAnswer}
use Rattle.hl_model.specs.Answers as answers
use Rattle.hl_model.specs.Begins.{begin_need}
use Rattle.hl_media.specs.declared.job.JobNote.{JobNote}
use Rattle.hl_model.specs.Cache.{AreCleanLines, IsCache, IsOut}
use Rattle.hl_model.specs.Claims.{Claim, IsNoGreater, MeetsClaim, claim_of}
use Rattle.hl_model.specs.Cleaning.{LogUse}
use Rattle.hl_model.specs.Closed.{IsClosed, tables_of}
use Rattle.hl_model.specs.Events.{SiteEvent, Back, EndJob, ends_no_job}
use Rattle.hl_model.specs.InSlots.{AreInSlots}
use Rattle.hl_model.specs.Keeping.{AreHeld, BringsBack, Follow, JobsFollow}
use Rattle.hl_lines.specs.declared.state.LineState.TheVariants.{Empty, Staging}
use Rattle.hl_lines.specs.Lines.{segment_of}
use Rattle.hl_script.specs.declared.said.Said.{Said}
use Rattle.hl_model.specs.LineRuns.{ArePlain, LineRun, TimedLine, files_behind}
use Rattle.hl_model.specs.Mounted.{AreOpeningTables, IsMounted, OpeningTables, mounted}
use Rattle.hl_model.specs.Ruled.{told_of}
use Rattle.hl_model.specs.Rules.{rules}
use Rattle.hl_model.specs.Runs.{AreReplies, IsSite, Run, StaysStopped, Stepped, Takes, Writes, plain_run, shelf_after, shelf_behind}
use Rattle.hl_model.specs.Shelves.{JobOut, KeepsShelf}
use Rattle.hl_model.specs.Site.{SiteState}
use Rattle.hl_model.specs.Standing.{IsStanding}
use Rattle.hl_model.specs.Steps.{SiteStep, State}
use Rattle.hl_model.specs.Units.{AreEmptied, Middles}
use Rattle.hl_model.specs.Worlds.{WorldState}

-- WHOLE RUNS

-- nothing but the file calls changes the plain tree
abbrev pub RunsArePlain : Type 0
RunsArePlain = (g : Layout) (shelf : Shelf) (before : State) (steps : List Stepped) (last : Shelf) (after : State)
    → IsSite shelf before.site → Run g shelf before steps last after
    → plain last after.site.tree ≡ plain_run g (plain shelf before.site.tree) steps

-- each reply is that of plain files
abbrev pub RepliesArePlain : Type 0
RepliesArePlain = (g : Layout) (shelf : Shelf) (before : State) (steps : List Stepped) (last : Shelf) (after : State)
    → IsSite shelf before.site → Run g shelf before steps last after
    → AreReplies g (plain shelf before.site.tree) steps

-- the state stays one of a site while it runs
abbrev pub RunsStaySites : Type 0
RunsStaySites = (g : Layout) (shelf : Shelf) (before : State) (steps : List Stepped) (last : Shelf) (after : State)
    → IsSite shelf before.site → Run g shelf before steps last after
    → after.site.stopped ≡ None → IsSite last after.site

-- and so it does once a write failed: it stays stopped, with its tree, and the shelf stays
abbrev pub StoppedSitesStay : Type 0
StoppedSitesStay = (g : Layout) (shelf : Shelf) (before : State) (steps : List Stepped) (last : Shelf) (after : State)
    (faults : ℕ) → before.site.stopped ≡ Some faults → Run g shelf before steps last after
    → StaysStopped faults shelf before last after

-- THE LINES OF A SCRIPT

-- lines are steps of one run
abbrev pub LinesAreOneRun : Type 0
LinesAreOneRun = (g : Layout) (w : WorldState) (lines : List TimedLine) (said : List Said) (after : WorldState)
    → LineRun g w lines said after → (steps : List Stepped) × Run g w.shelf w.state steps after.shelf after.state

-- nothing but the file calls that are replied to changes the files
abbrev pub LinesLeaveFiles : Type 0
LinesLeaveFiles = (g : Layout) (w : WorldState) (lines : List TimedLine) (said : List Said) (after : WorldState)
    → IsSite w.shelf w.state.site → LineRun g w lines said after
    → plain after.shelf after.state.site.tree ≡ files_behind g (plain w.shelf w.state.site.tree) lines said

-- and each reply is that of plain files
abbrev pub LinesArePlain : Type 0
LinesArePlain = (g : Layout) (w : WorldState) (lines : List TimedLine) (said : List Said) (after : WorldState)
    → IsSite w.shelf w.state.site → LineRun g w lines said after
    → ArePlain g (plain w.shelf w.state.site.tree) lines said

-- THE INVARIANT

-- a step of a site that goes on running keeps what holds of it
abbrev pub StepsStand : Type 0
StepsStand = (g : Layout) (shelf : Shelf) (before : State) (entry : Stepped) (after : State)
    → IsStanding g shelf before → Takes g shelf before entry after → after.site.stopped ≡ None
    → IsStanding g
    (shelf_behind entry.event entry.answer after.site.stopped shelf before.site.next_serial entry.mid.segment) after

-- and so does a run
abbrev pub RunsStand : Type 0
RunsStand = (g : Layout) (shelf : Shelf) (before : State) (steps : List Stepped) (last : Shelf) (after : State)
    → IsStanding g shelf before → Run g shelf before steps last after → after.site.stopped ≡ None
    → IsStanding g last after

-- it holds of the state that a mount gives, whose files are placed over the shelf
abbrev pub MountsStand : Type 0
MountsStand = (g : Layout) (shelf : Shelf) (tree : PlacedTree) (tables : OpeningTables) (counts : List ℕ) (s : State)
    → AreOpeningTables g tables → length counts ≡ length g.volumes → IsMounted g tree tables counts s
    → IsSite shelf (mounted g tree tables counts) → AreInSlots (mounted g tree tables counts)
    → IsStanding g shelf s

-- and of that which a mount gives of what a closing leaves
abbrev pub ClosedSitesStandAgain : Type 0
ClosedSitesStandAgain = (g : Layout) (shelf : Shelf) (before after : State) (counts : List ℕ) (again : State)
    → IsStanding g shelf before → IsClosed before after → length counts ≡ length g.volumes
    → IsMounted g after.site.tree (tables_of after.site) counts again → IsStanding g shelf again

-- LINES, SLOTS AND JOBS

-- no event but the end of a job takes a line out of staging
abbrev pub StagingStays : Type 0
StagingStays = (g : Layout) (s : SiteState) → AreCleanLines s.lines s.order
    → (line t : ℕ) → get_or s.lines line Empty ≡ Staging t
    → (log : LogUse) (shelf : Shelf) (event : SiteEvent) → ends_no_job event ≡ true
    → (answer : SiteAnswer) (new : SiteState) → rules g s log shelf event ≡ Ok (answer, new)
    → get_or new.lines line Empty ≡ Staging t

-- a step in which no write failed keeps what holds of lines, slots and jobs
abbrev pub CachesStay : Type 0
CachesStay = (g : Layout) (shelf : Shelf) (mid : Middles) (before : State) (event : SiteEvent) (answer : SiteAnswer) (after : State)
    → IsCache g before.site → IsAllowed before.site event → before.site.next_serial < 2 ^ 64 - 1
    → after.site.stopped ≡ None → SiteStep g shelf mid before event answer after → IsCache g after.site

-- it holds of the site that a mount gives
abbrev pub MountsGiveCaches : Type 0
MountsGiveCaches = (g : Layout) (tree : PlacedTree) (tables : OpeningTables) (counts : List ℕ)
    → AreOpeningTables g tables → length counts ≡ length g.volumes → IsCache g (mounted g tree tables counts)

-- one line holds a segment
abbrev pub SegmentsHaveOneLine : Type 0
SegmentsHaveOneLine = (g : Layout) (s : SiteState) → IsCache g s → (line other t : ℕ)
    → segment_of (get_or s.lines line Empty) ≡ Some t → segment_of (get_or s.lines other Empty) ≡ Some t
    → line ≡ other

-- a fetch always finds a line
abbrev pub FetchesFindLines : Type 0
FetchesFindLines = (g : Layout) (s : SiteState) → IsCache g s → IsLineCount g.lines
    → (t : ℕ) (keep : List ℕ) → length keep ≤ 8 → begin_need g s t keep ≡ Err answers.NoLine → ⊥

-- and no job that comes back is stale
abbrev pub JobsAreNotStale : Type 0
JobsAreNotStale = (g : Layout) (s : SiteState) → IsCache g s
    → (log : LogUse) (shelf : Shelf) (job : Back) → IsAllowed s (EndJob job)
    → (told_of s (rules g s log shelf (EndJob job))).0 ≡ answers.Stale → ⊥

-- in such a step each away block stays in a segment that a slot holds
abbrev pub AwayBlocksStayInSlots : Type 0
AwayBlocksStayInSlots = (g : Layout) (shelf : Shelf) (mid : Middles) (before : State) (event : SiteEvent) (answer : SiteAnswer) (after : State)
    → IsSite shelf before.site → AreInSlots before.site
    → after.site.stopped ≡ None → SiteStep g shelf mid before event answer after → AreInSlots after.site

-- in such a step the segments that were cleaned since the last checkpoint go on holding no block of the tree
abbrev pub CleanedStayEmpty : Type 0
CleanedStayEmpty = (g : Layout) (shelf : Shelf) (mid : Middles) (before : State) (event : SiteEvent) (answer : SiteAnswer) (after : State)
    → AreEmptied before.log → after.site.stopped ≡ None → SiteStep g shelf mid before event answer after
    → AreEmptied after.log

-- THE SHELF

-- what a test lets pass
abbrev pub Passes : (ℕ → List ℕ → Bool) → ℕ → List ℕ → Type 0
Passes test n bytes = test n bytes ≡ true

-- A shelf that is kept stays kept by an answer that changes the site, with the new segment after a staging.
abbrev pub ShelvesStayKept : Type 0
ShelvesStayKept = (g : Layout) (shelf : Shelf) (s : SiteState) (log : LogUse) (event : SiteEvent)
    (answer : SiteAnswer) (new : SiteState) (may may_after : ℕ → List ℕ → Bool)
    (before after : ℕ → List ℕ) (segment buffer : List ℕ) (jobs jobs_after : List JobOut)
    → IsCache g s → s.next_serial < 2 ^ 64 - 1 → IsAllowed s event → AreHeld s jobs → BringsBack event buffer jobs
    → KeepsShelf (Passes may) before s.slots s.lines jobs shelf
    → rules g s log shelf event ≡ Ok (answer, new)
    → Follow (Passes may) (Passes may_after) before after segment buffer s event answer
    → JobsFollow answer before jobs jobs_after
    → KeepsShelf (Passes may_after) after new.slots new.lines jobs_after (shelf_after shelf s.next_serial segment answer)

-- CLAIMS

-- a claim is no greater than itself
abbrev pub ClaimsAreNoGreater : Type 0
ClaimsAreNoGreater = (claim : Claim) → IsNoGreater claim claim

-- nor than one that is greater than a third
abbrev pub ClaimsAreOrdered : Type 0
ClaimsAreOrdered = (one other third : Claim) → IsNoGreater one other → IsNoGreater other third → IsNoGreater one third

-- what meets a claim meets each one that is no greater
abbrev pub SmallerClaimsAreMet : Type 0
SmallerClaimsAreMet = (k : ℕ) (may : ℕ → List ℕ → Bool) (buffer : List ℕ) (one other : Claim)
    → IsNoGreater one other → MeetsClaim k (Passes may) buffer other → MeetsClaim k (Passes may) buffer one

-- in a step in which no write failed the claim of a job that stays out doesn't grow
abbrev pub ClaimsDontGrow : Type 0
ClaimsDontGrow = (g : Layout) (shelf : Shelf) (mid : Middles) (before : State) (event : SiteEvent) (answer : SiteAnswer) (after : State)
    → IsSite shelf before.site → IsCache g before.site → IsAllowed before.site event → before.site.next_serial < 2 ^ 64 - 1
    → Writes g shelf before.site mid.segment event answer → after.site.stopped ≡ None → SiteStep g shelf mid before event answer after
    → (job : JobNote) → IsOut job before.site.jobs → IsOut job after.site.jobs
    → IsNoGreater
    (claim_of g after.site (plain (shelf_after shelf before.site.next_serial mid.segment answer) after.site.tree) job)
    (claim_of g before.site (plain shelf before.site.tree) job)
