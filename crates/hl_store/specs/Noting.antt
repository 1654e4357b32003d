-- Changes of slots and volumes that the next unit is to have.
use Rattle.std.specs.Prelude.{◌≡◌, [], ◌∷◌, ◌++◌}
use Rattle.hl_media.specs.History.{MachineState}
use Rattle.hl_bytes.specs.declared.records.TableRecord.{TableRecord}
use Rattle.hl_tables.specs.Laying.{changed}
use Rattle.hl_nodes.specs.Contents.{Contents}
use Rattle.hl_nodes.specs.Sound.{AreSlots}
use Rattle.hl_nodes.specs.Tables.{raised}
use Rattle.hl_overlaid.specs.Changes.{KeepsAllSlots}
use Rattle.hl_store.specs.Values.{StoreValue, layout, nodes_of, overlaid}
use Rattle.hl_store.specs.Lying.{LiesOver}
use Rattle.hl_store.specs.Reserving.{HasAsMuch}

module _ {M : Type 0} where
  -- the store with a change of a slot or a volume made in its tables and put into the next unit
  abbrev pub with_note : StoreValue M → TableRecord → StoreValue M
  with_note v change = record v {
    tables = changed v.tables change;
    notes = v.notes ++ change ∷ [];
    tseg_serial = raised v.tseg_serial change;
  }

  -- A change of a slot or a volume is noted, and there is memory for as much as there was. The store lies over what it lay over, where the slots are possible then and
  -- hold each segment of which a node has a block, and no node changes.
  pub record Notes (old new : StoreValue M) (change : TableRecord) : Type 0 where
    pub same : new ≡ record (with_note old change) { reserved = new.reserved }
    pub much : HasAsMuch old.reserved new.reserved
    pub over : (c : Contents) (s : MachineState) → LiesOver old c s
        → AreSlots (layout old) new.tables.slots new.tseg_serial
        → KeepsAllSlots (overlaid old) c.nodes new.tables.slots → LiesOver new c s
    pub nodes : (c : Contents) → nodes_of new c ≡ nodes_of old c
