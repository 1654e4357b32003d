-- What the calls about whole segments and lines leave of a store.
use Rattle.std.specs.Prelude.{◌≡◌, ℕ, ◌*◌, List}
use Rattle.hl_media.specs.History.{Image, MachineState, area}
use Rattle.hl_addr.specs.Layout.{Layout}
use Rattle.hl_log.specs.Rest.{StopLeaves}
use Rattle.hl_nodes.specs.Contents.{Contents}
use Rattle.hl_store.specs.Values.{StoreValue, layout}
use Rattle.hl_store.specs.Lying.{LiesOver}
use Rattle.hl_store.specs.Finding.{KeepsNodes}
use Rattle.hl_store.specs.Flushes.{Holds}

-- the first block of a log segment
abbrev pub segment_start : Layout → ℕ → ℕ
segment_start g seg = g.k * seg

-- the bytes of a log segment
abbrev pub segment_bytes : Layout → Image → ℕ → List ℕ
segment_bytes g image seg = area image (segment_start g seg) g.k

module _ {M : Type 0} where
  -- the store lies over what it lay over, with the nodes that it had
  abbrev pub KeepsAllNodes : StoreValue M → StoreValue M → Type 0
  KeepsAllNodes old new = (c : Contents) (s : MachineState) → LiesOver old c s → KeepsNodes old new s c

  -- at this moment whatever a stop leaves, unless by chance, has the contents over which the store lay at first
  abbrev pub LastsOver : StoreValue M → MachineState → MachineState → Type 0
  LastsOver v first s = (c : Contents) → LiesOver v c first → StopLeaves (layout v) v.log.at (Holds v c) s

  -- at this moment the store lies over the contents over which it lay at first, with the nodes that it had
  abbrev pub StaysOver : StoreValue M → StoreValue M → MachineState → MachineState → Type 0
  StaysOver old new first s = (c : Contents) → LiesOver old c first → KeepsNodes old new s c

  -- nothing but what is known of the lines changes
  abbrev pub ChangesLines : StoreValue M → StoreValue M → Type 0
  ChangesLines old new = new ≡ record old { lines = new.lines }
