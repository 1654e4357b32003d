-- The kinds of lines, by their first word.
use Rattle.std.specs.Prelude.{ℕ, List, Some, None, codes, bytes_eq, if◌then◌else◌}
use Rattle.std.specs.declared.option.Option.{Option}
use Rattle.hl_script.specs.declared.kind.Kind.{Kind}
use Rattle.hl_script.specs.declared.kind.Kind.TheVariants as kind

abbrev pub keyword : Kind → List ℕ
keyword kind.Mkdir = codes "mkdir"
keyword kind.Create = codes "create"
keyword kind.Stat = codes "stat"
keyword kind.List = codes "list"
keyword kind.Unlink = codes "unlink"
keyword kind.Rmdir = codes "rmdir"
keyword kind.Write = codes "write"
keyword kind.Cut = codes "cut"
keyword kind.Read = codes "read"
keyword kind.Rename = codes "rename"
keyword kind.Sync = codes "sync"
keyword kind.Rank = codes "rank"
keyword kind.Stage = codes "stage"
keyword kind.Copy = codes "copy"
keyword kind.Fetch = codes "fetch"
keyword kind.Move = codes "move"
keyword kind.End = codes "end"
keyword kind.Eject = codes "eject"
keyword kind.Clean = codes "clean"
keyword kind.Checkpoint = codes "checkpoint"

-- the kind that the word names
unfoldable pub kind_at : List ℕ → Option Kind
kind_at word =
    if bytes_eq word (codes "mkdir") then Some kind.Mkdir
    else if bytes_eq word (codes "create") then Some kind.Create
    else if bytes_eq word (codes "stat") then Some kind.Stat
    else if bytes_eq word (codes "list") then Some kind.List
    else if bytes_eq word (codes "unlink") then Some kind.Unlink
    else if bytes_eq word (codes "rmdir") then Some kind.Rmdir
    else if bytes_eq word (codes "write") then Some kind.Write
    else if bytes_eq word (codes "cut") then Some kind.Cut
    else if bytes_eq word (codes "read") then Some kind.Read
    else if bytes_eq word (codes "rename") then Some kind.Rename
    else if bytes_eq word (codes "sync") then Some kind.Sync
    else if bytes_eq word (codes "rank") then Some kind.Rank
    else if bytes_eq word (codes "stage") then Some kind.Stage
    else if bytes_eq word (codes "copy") then Some kind.Copy
    else if bytes_eq word (codes "fetch") then Some kind.Fetch
    else if bytes_eq word (codes "move") then Some kind.Move
    else if bytes_eq word (codes "end") then Some kind.End
    else if bytes_eq word (codes "eject") then Some kind.Eject
    else if bytes_eq word (codes "clean") then Some kind.Clean
    else if bytes_eq word (codes "checkpoint") then Some kind.Checkpoint
    else None
