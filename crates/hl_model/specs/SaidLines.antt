-- What a line of a script says.
use Rattle.std.specs.Prelude.{Option, Some, None}
use Rattle.hl_media.specs.declared.job.Carried.{Carried}
use Rattle.hl_media.specs.declared.job.Carried.TheVariants.{Done, EndOfMedium, Fault}
use Rattle.hl_script.specs.declared.said.Said.{Said}
use Rattle.hl_script.specs.declared.said.Said.TheVariants as said
use Rattle.hl_model.specs.Answers.{SiteAnswer}
use Rattle.hl_model.specs.Answers as answers

-- what is said of an answer; that a segment is needed is never said, nor what requests are answered
abbrev pub said_of : SiteAnswer → Option Said
said_of (answers.Done reply) = Some (said.Reply reply)
said_of answers.NoSpace = Some said.NoSpace
said_of (answers.Needs t) = None
said_of answers.Eio = Some said.Eio
said_of answers.LogFull = Some said.LogFull
said_of answers.Memory = Some said.Memory
said_of (answers.Stopped faults) = Some (said.Stopped faults)
said_of (answers.PathRefused why) = Some (said.PathRefused why)
said_of (answers.Ranked paths) = Some (said.Ranked paths)
said_of (answers.Staged blocks volume slot line) = Some (said.Staged blocks volume slot line)
said_of answers.Nothing = Some said.Nothing
said_of answers.NoLine = Some said.NoLine
said_of answers.NoSlot = Some said.NoSlot
said_of (answers.Job job) = Some (said.Job job.number)
said_of answers.NoneLeft = Some said.NoneLeft
said_of (answers.Busy volume job) = Some (said.Busy volume job)
said_of answers.Drives = Some said.Drives
said_of answers.Here = Some said.Here
said_of answers.Home = Some said.Home
said_of (answers.Moved volume slot) = Some (said.MovedTo volume slot)
said_of answers.Stuck = Some said.Stuck
said_of answers.Bound = Some said.Bound
said_of answers.Stale = Some said.Stale
said_of answers.Evol = Some said.Evol
said_of (answers.Ebad kept found) = Some (said.Ebad kept found)
said_of answers.Unmoved = Some said.Unmoved
said_of answers.Ejected = Some said.Ejected
said_of answers.Staging = Some said.Staging
said_of answers.Empty = Some said.Empty
said_of answers.InJob = Some said.InJob
said_of (answers.Cleaned segment) = Some (said.Cleaned segment)
said_of answers.Checkpointed = Some said.Checkpointed
said_of (answers.Posted number) = None
said_of (answers.Request number tseg keep) = None
said_of answers.Waiting = None
said_of (answers.Settled how) = None

-- what is said of a transfer
abbrev pub said_carried : Carried → Said
said_carried Done = said.Moved
said_carried EndOfMedium = said.Medium
said_carried (Fault faults) = said.Evol
