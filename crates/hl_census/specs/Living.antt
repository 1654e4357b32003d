-- How many live blocks lie in each log segment.
use Rattle.std.specs.Prelude.{◌≡◌, ◌↔◌, ℕ, Contains, List, replicate}
use Rattle.std.specs.List.{fold}
use Rattle.hl_media.specs.History.{Image}
use Rattle.hl_addr.specs.Layout.{Layout}
use Rattle.hl_log.specs.Free.{Once}
use Rattle.hl_super.specs.declared.record.Record.{Record}
use Rattle.hl_tables.specs.Values.{TableValues}
use Rattle.hl_nodes.specs.Live.{IsLive}
use Rattle.hl_tally.specs.Counting.{added}

-- the live numbers of the log's segments, from 1 on: counted from the addresses of all live blocks, each once
pub record AreLive (g : Layout) (image : Image) (rec : Record) (t : TableValues) (live : List ℕ) : Type 0 where
  pub addresses : List ℕ
  pub each : (address : ℕ) → Contains addresses address ↔ IsLive g image rec t address
  pub once : Once addresses
  pub are : live ≡ fold (added g.k) (replicate g.log 0) addresses
