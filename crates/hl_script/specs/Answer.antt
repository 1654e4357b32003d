-- The text of each answer: the words that it begins with, and then its fields.
use Rattle.std.specs.Prelude.{ℕ, Bool, true, false, ◌==◌, ◌&&◌, not, nat_le, if◌then◌else◌, List, [], ◌∷◌, ◌++◌, codes, decimal}
use Rattle.std.specs.List.{flat_map}
use Rattle.hex.specs.Hex.{encode_lower}
use Rattle.hl_tree.specs.declared.call.Refusal.{Refusal}
use Rattle.hl_tree.specs.declared.call.Refusal.TheVariants as refusal
use Rattle.hl_tree.specs.declared.call.Reply.{Reply}
use Rattle.hl_tree.specs.declared.call.Reply.TheVariants as reply
use Rattle.hl_script.specs.declared.said.Said.{Said}
use Rattle.hl_script.specs.declared.said.Said.TheVariants as said

-- a byte that stands for itself in a printed name
abbrev pub is_plain : ℕ → Bool
is_plain b = nat_le 33 b && nat_le b 126 && not (b == 37)

-- a byte of a printed name: itself, or a percent sign and its two hex digits
abbrev pub printed_byte : ℕ → List ℕ
printed_byte b = if is_plain b then b ∷ [] else 37 ∷ encode_lower (b ∷ [])

abbrev pub printed_name : List ℕ → List ℕ
printed_name name = flat_map printed_byte name

-- a slash, and the names with slashes between them
abbrev pub printed_path : List (List ℕ) → List ℕ
printed_path [] = 47 ∷ []
printed_path (name ∷ names) = flat_map (λ n. 47 ∷ printed_name n) (name ∷ names)

-- the hex digits behind a space, where there are any
abbrev pub printed_data : List ℕ → List ℕ
printed_data [] = []
printed_data (b ∷ bytes) = 32 ∷ encode_lower (b ∷ bytes)

-- a number behind a space
abbrev pub printed_number : ℕ → List ℕ
printed_number n = 32 ∷ decimal n

abbrev pub refusal_text : Refusal → List ℕ
refusal_text refusal.Enoent = codes "err ENOENT"
refusal_text refusal.Eexist = codes "err EEXIST"
refusal_text refusal.Enotdir = codes "err ENOTDIR"
refusal_text refusal.Eisdir = codes "err EISDIR"
refusal_text refusal.Enotempty = codes "err ENOTEMPTY"
refusal_text refusal.Einval = codes "err EINVAL"
refusal_text refusal.Efbig = codes "err EFBIG"
refusal_text refusal.Enametoolong = codes "err ENAMETOOLONG"
refusal_text refusal.Einodes = codes "err EINODES"

-- the word that a reply begins with
abbrev pub reply_word : Reply → List ℕ
reply_word reply.Ok = codes "ok"
reply_word (reply.Data bytes) = codes "data"
reply_word (reply.File size) = codes "file"
reply_word (reply.Dir count) = codes "dir"
reply_word (reply.Names names) = codes "names"
reply_word (reply.Refused why) = refusal_text why
reply_word reply.Memory = []

abbrev pub reply_fields : Reply → List ℕ
reply_fields (reply.Data bytes) = printed_data bytes
reply_fields (reply.File size) = printed_number size
reply_fields (reply.Dir count) = printed_number count
reply_fields (reply.Names names) = flat_map (λ n. 32 ∷ printed_name n) names
reply_fields _ = []

-- the word that an answer begins with
abbrev pub answer_word : Said → List ℕ
answer_word (said.Reply r) = reply_word r
answer_word (said.PathRefused why) = refusal_text why
answer_word said.NoSpace = codes "err ENOSPC"
answer_word said.Eio = codes "err EIO"
answer_word said.LogFull = codes "err ELOG"
answer_word said.Evol = codes "err EVOL"
answer_word (said.Ebad kept found) = codes "err EBAD"
answer_word (said.Stopped faults) = codes "stopped"
answer_word (said.Ranked paths) = codes "ranked"
answer_word (said.Staged blocks volume slot line) = codes "staged"
answer_word said.Nothing = codes "nothing"
answer_word said.NoLine = codes "lines"
answer_word said.NoSlot = codes "full"
answer_word (said.Job job) = codes "job"
answer_word said.NoneLeft = codes "none"
answer_word (said.Busy volume job) = codes "busy"
answer_word said.Drives = codes "drives"
answer_word said.Here = codes "here"
answer_word said.NoJob = codes "nojob"
answer_word said.Unmoved = codes "unmoved"
answer_word said.Moved = codes "moved"
answer_word said.Medium = codes "medium"
answer_word said.Home = codes "home"
answer_word said.Stuck = codes "stuck"
answer_word said.Bound = codes "bound"
answer_word said.Stale = codes "stale"
answer_word (said.MovedTo volume slot) = codes "moved"
answer_word said.Ejected = codes "ok"
answer_word said.Checkpointed = codes "ok"
answer_word said.Staging = codes "staging"
answer_word said.Empty = codes "empty"
answer_word said.InJob = codes "injob"
answer_word (said.Cleaned segment) = codes "cleaned"
answer_word said.Memory = []

abbrev pub answer_fields : Said → List ℕ
answer_fields (said.Reply r) = reply_fields r
answer_fields (said.Ranked paths) = flat_map (λ p. 32 ∷ printed_path p) paths
answer_fields (said.Staged blocks volume slot line) =
    printed_number blocks ++ codes " volume" ++ printed_number volume ++ codes " slot" ++ printed_number slot
    ++ codes " line" ++ printed_number line
answer_fields (said.Job job) = printed_number job
answer_fields (said.Busy volume job) = printed_number volume ++ printed_number job
answer_fields (said.MovedTo volume slot) = printed_number volume ++ printed_number slot
answer_fields (said.Cleaned segment) = printed_number segment
answer_fields _ = []

abbrev pub answer_text : Said → List ℕ
answer_text answer = answer_word answer ++ answer_fields answer

-- the answer as a line
abbrev pub answer_line : Said → List ℕ
answer_line answer = answer_text answer ++ 10 ∷ []

-- memory ran out: there is no text
abbrev pub is_memory : Said → Bool
is_memory said.Memory = true
is_memory (said.Reply reply.Memory) = true
is_memory _ = false
