-- What a store of a trial is opened with.
use Rattle.std.specs.Prelude.{◌≡◌, ℕ, ◌<◌, ◌≤◌, ◌^◌, List, Contains, length}
use Rattle.hl_addr.specs.Layout.{Layout}
use Rattle.hl_log.specs.Free.{AreClean, Once}
use Rattle.hl_store.specs.declared.store.StoreParts.{StoreParts}

-- segments from 1 up to one, each once, and not the head's
pub record AreCleanTo (head end : ℕ) (clean : List ℕ) : Type 0 where
  pub within : (c : ℕ) → Contains clean c → (1 ≤ c) × (c < end)
  pub once : Once clean
  pub apart : Contains clean head → ⊥
  pub few : length clean ≤ end

-- the parts are of each log of the site whose head is in the segment
pub record AreOfLog (g : Layout) (head : ℕ) (parts : StoreParts) : Type 0 where
  pub inodes : length parts.tables.inodes ≡ g.inodes
  pub used : length parts.tables.used ≡ g.log
  pub blocks : parts.tables.k ≡ g.k
  pub volumes : parts.tables.slots.volumes ≡ g.volumes
  pub uses : length parts.uses.items ≡ g.inodes
  pub live : length parts.live.items ≡ g.log
  pub lines : length parts.lines.states ≡ g.lines
  pub clean : AreClean g head parts.clean.items
  pub few : length parts.clean.items < 2 ^ 32
