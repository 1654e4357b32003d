-- A number is used at another moment.
use Rattle.std.proofs.Common.{◌≡◌, ℕ, ◌<◌, refl, sym, subst}
use Rattle.std.specs.Prelude.{slice_index, slice_set, option_map}
use Rattle.std.specs.FinMap.{get}
use Rattle.std.proofs.lemmas.List.{get_or-set_other, get_or-set_same}
use Rattle.hl_media.specs.History.{MachineState}
use Rattle.hl_nodes.specs.Contents.{Contents}
use Rattle.hl_overlay.specs.Overlays.{IsWholeOverlay}
use Rattle.hl_overlaid.specs.NodesNow.{IsOverlaid, with_node}
use Rattle.hl_overlaid.specs.Changes.{KeepsOtherUses, node_used}
use Rattle.hl_overlaid.proofs.UseLemmas.{use_over, use_shows, use_waits}
use Rattle.hl_tally.proofs.ReachLaws.{uses_tally}
use Rattle.hl_store.specs.Values.{StoreValue, layout, nodes_of, overlaid}
use Rattle.hl_store.specs.Shapes.{IsShaped}
use Rattle.hl_store.specs.Lying.{LiesOver}
use Rattle.hl_store.specs.Changes.{Touches}

module _ {M : Type 0} (v : StoreValue M) (shaped : IsShaped v) (whole : IsWholeOverlay v.overlay) where
  -- what is overlaid is so for the site
  pub overlaid_whole : IsOverlaid (layout v) (overlaid v)
  overlaid_whole = record { table = whole.table; named = whole.named; numbers = shaped.drafts; each_use = shaped.uses }

  module _ (ino used : ℕ) (high : ino < (layout v).inodes) where
    -- the store with the number used then
    abbrev after : StoreValue M
    after = record v { uses = slice_set v.uses ino used }

    others : KeepsOtherUses v.uses (slice_set v.uses ino used) ino
    others q ne = get_or-set_other v.uses ino q used 0 ne

    own : slice_index (slice_set v.uses ino used) ino ≡ used
    own = get_or-set_same v.uses ino used 0 (subst (λ n. ino < n) (sym shaped.uses) high)

    -- it lies over what it lay over
    pub lies_touched : (c : Contents) (s : MachineState) → LiesOver v c s → LiesOver (record v { uses = slice_set v.uses ino used }) c s
    lies_touched c s l = record {
      rests = l.rests;
      sound = l.sound;
      listed = l.listed;
      rec = l.rec;
      inodes = l.inodes;
      slots = l.slots;
      serial = l.serial;
      possible = l.possible;
      over = use_over (layout v) s.content c (overlaid v) overlaid_whole (slice_set v.uses ino used) ino others high l.over;
      tally = uses_tally (layout v) s.content c (overlaid v) overlaid_whole (slice_set v.uses ino used) ino others high v.tally l.tally;
    }

    -- THE NUMBER IS USED then
    pub touched : Touches v (record v { uses = slice_set v.uses ino used }) ino used
    touched = record {
      same = refl;
      uses = others;
      own = own;
      over = lies_touched;
      shows = λ c s l changed. subst (λ u. nodes_of after c ≡ with_node (nodes_of v c) ino (option_map (node_used u) (get (nodes_of v c) ino))) own
          (use_shows (layout v) (overlaid v) overlaid_whole (slice_set v.uses ino used) ino others c high changed);
      waits = λ c s l none. use_waits (layout v) (overlaid v) overlaid_whole (slice_set v.uses ino used) ino others c.nodes none;
    }
