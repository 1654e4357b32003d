-- A store with other drafts of the same nodes.
use Rattle.std.proofs.Common.{Bor, ◌≡◌, inl, inr, ℕ, ◌+◌, ◌<◌, true, false, List, [], ◌∷◌, ◌++◌, length, Option, Some, None, is_some, refl, sym, ◌∙◌, ap, subst, arith}
use Rattle.std.specs.Prelude.{IsSome}
use Rattle.std.specs.Option.{option_copied}
use Rattle.std.proofs.lemmas.Bool.{cases_eq}
use Rattle.hl_media.specs.History.{History, MachineState, state_now}
use Rattle.hl_log.specs.Logs.{LogValue, with_machine}
use Rattle.hl_nodes.specs.Contents.{Contents}
use Rattle.hl_overlay.specs.declared.draft.NodeDraft.{NodeDraft}
use Rattle.hl_overlay.specs.DraftTables.{Redrafts, Trims, draft_of, freed_of, others_in, others_of}
use Rattle.hl_overlay.specs.Overlays.{IsWholeOverlay, OverlayValue}
use Rattle.hl_overlay.proofs.CountLemmas.{freed_length, freed_push, others_push}
use Rattle.hl_overlaid.specs.NodesNow.{IsOverlaid}
use Rattle.hl_overlaid.specs.Over.{IsDraftOf, IsOver}
use Rattle.hl_overlaid.specs.Changes.{AdmitsNow, IsChange, TrimsNow}
use Rattle.hl_overlaid.proofs.KeepLemmas.{admitted_now, admitted_over, room_now, room_over, trimmed_now, trimmed_over}
use Rattle.hl_overlaid.proofs.NowLemmas.{none_some}
use Rattle.hl_tally.specs.Tally.{IsTally}
use Rattle.hl_tally.proofs.ReachLaws.{room_tally}
use Rattle.hl_tally.proofs.ReadLaws.{admitted_tally, trimmed_tally}
use Rattle.hl_store.specs.Values.{StoreValue, dirty_of, layout, nodes_of, overlaid}
use Rattle.hl_store.specs.Shapes.{IsShaped}
use Rattle.hl_store.specs.Lying.{LiesOver}
use Rattle.hl_store.specs.Finding.{KeepsNodes}
use Rattle.hl_store.specs.Seats.{GivesDraft, Releases, Seats}

-- what is there is something
pub some_is : {A : Type 0} (o : Option A) (x : A) → o ≡ Some x → IsSome o
some_is o x is = subst IsSome (sym is) refl

-- whether a draft was found
pub found_some : (r : Option (Bor NodeDraft)) (o : Option NodeDraft) → is_some r ≡ true → option_copied r ≡ o → IsSome o
found_some None o there is = absurd cc
found_some (Some d) o there is = some_is o d.now (sym is)

pub found_none : (r : Option (Bor NodeDraft)) (o : Option NodeDraft) → is_some r ≡ false → option_copied r ≡ o → o ≡ None
found_none None o gone is = sym is
found_none (Some d) o gone is = absurd cc

-- the freed numbers of the drafts with one more that isn't changed
freed_same : (ds : List NodeDraft) (d : NodeDraft) → d.changed ≡ false → length (freed_of (ds ++ d ∷ [])) ≡ length (freed_of ds)
freed_same ds d unchanged = sym (freed_length (ds ++ d ∷ [])) ∙ freed_push ds d unchanged ∙ freed_length ds

module _ {M : Type 0} where
  -- the store with another machine and another overlay
  abbrev pub with_overlay : StoreValue M → M → OverlayValue → StoreValue M
  with_overlay v m o = record v { log = with_machine v.log m; overlay = o }

  module _ (old : StoreValue M) (m : M) (o : OverlayValue) where
    -- it lies over what it lay over, where its overlay does and as much is counted
    pub lies_with : (c : Contents) (s : MachineState) → LiesOver old c s → IsOver (layout old) (overlaid (with_overlay old m o)) s.content c
        → IsTally (layout old) (overlaid (with_overlay old m o)) s.content c old.tally → LiesOver (with_overlay old m o) c s
    lies_with c s lies over tally = record {
      rests = lies.rests;
      sound = lies.sound;
      listed = lies.listed;
      rec = lies.rec;
      inodes = lies.inodes;
      slots = lies.slots;
      serial = lies.serial;
      possible = lies.possible;
      over = over;
      tally = tally;
    }

    -- an overlay of the store's numbers is one of the site
    pub overlaid_is : IsShaped old → IsWholeOverlay o → length o.drafts.places ≡ length old.overlay.drafts.places → IsOverlaid (layout old) (overlaid (with_overlay old m o))
    overlaid_is shaped whole numbers = record { table = whole.table; named = whole.named; numbers = numbers ∙ shaped.drafts; each_use = shaped.uses }

    -- with the same slots it is a change of the overlay over the contents
    pub change_is : (c : Contents) (s : MachineState) → LiesOver old c s → IsShaped old → IsWholeOverlay old.overlay → IsWholeOverlay o → length o.drafts.places ≡ length old.overlay.drafts.places
        → IsChange (layout old) s.content c (overlaid old) (overlaid (with_overlay old m o))
    change_is c s lies shaped was whole numbers = record {
      has = lies.rests.has;
      before = record { table = was.table; named = was.named; numbers = shaped.drafts; each_use = shaped.uses };
      after = overlaid_is shaped whole numbers;
      over = lies.over;
      slots = refl;
    }

    -- ANOTHER ROOM
    module _ (room : ℕ) (is : o ≡ record old.overlay { room = room }) where
      -- the nodes stay
      pub roomed_nodes : (c : Contents) → nodes_of (with_overlay old m o) c ≡ nodes_of old c
      roomed_nodes c = ap (λ (x : OverlayValue). nodes_of (with_overlay old m x) c) is ∙ room_now (overlaid old) room c.nodes

      -- and the store lies over what it lay over
      pub roomed_lies : (c : Contents) (s : MachineState) → LiesOver old c s → LiesOver (with_overlay old m o) c s
      roomed_lies c s lies = subst (λ (x : OverlayValue). LiesOver (with_overlay old m x) c s) (sym is) (record {
        rests = lies.rests;
        sound = lies.sound;
        listed = lies.listed;
        rec = lies.rec;
        inodes = lies.inodes;
        slots = lies.slots;
        serial = lies.serial;
        possible = lies.possible;
        over = room_over (layout old) s.content c (overlaid old) room lies.over;
        tally = room_tally (layout old) s.content c (overlaid old) room old.tally lies.tally;
      })

    -- A DRAFT MORE
    module _ (d : NodeDraft) (shaped : IsShaped old) (was : IsWholeOverlay old.overlay) (whole : IsWholeOverlay o) (absent : draft_of old.overlay.drafts d.ino ≡ None) (unchanged : d.changed ≡ false) (redrafts : Redrafts old.overlay.drafts o.drafts d.ino d)
        (blocks : o.blocks ≡ old.overlay.blocks) where
      -- the overlay admits the draft, over the contents
      admits : (c : Contents) (s : MachineState) → LiesOver old c s → IsDraftOf (layout old) s.content c d → AdmitsNow (layout old) s.content c (overlaid old) (overlaid (with_overlay old m o)) d
      admits c s lies of = record {
        change = change_is c s lies shaped was whole redrafts.numbers;
        uses = refl;
        absent = absent;
        unchanged = unchanged;
        of = of;
        redrafts = redrafts;
        blocks = blocks;
      }

      -- the store lies over what it lay over, with the same nodes
      pub admitted_keeps : (c : Contents) (s : MachineState) → LiesOver old c s → IsDraftOf (layout old) s.content c d → KeepsNodes old (with_overlay old m o) s c
      admitted_keeps c s lies of = record {
        over = lies_with c s lies (admitted_over (layout old) s.content c (overlaid old) (overlaid (with_overlay old m o)) d (admits c s lies of))
            (admitted_tally (layout old) (overlaid old) (overlaid (with_overlay old m o)) s.content c old.tally d (admits c s lies of) lies.tally);
        nodes = admitted_now (layout old) s.content c (overlaid old) (overlaid (with_overlay old m o)) d (admits c s lies of);
      }

      -- each draft that there was is there
      pub admitted_drafted : (q : ℕ) (e : NodeDraft) → q < (layout old).inodes → draft_of old.overlay.drafts q ≡ Some e → draft_of o.drafts q ≡ Some e
      admitted_drafted q e low at = elim (cases_eq q d.ino) [
        | inl same ↦ absurd (none_some (sym absent ∙ ap (draft_of old.overlay.drafts) (sym same) ∙ at))
        | inr ne ↦ redrafts.others q (subst (λ n. q < n) (sym shaped.drafts) low) ne ∙ at
      ]

    -- AT MOST SO MANY DRAFTS
    module _ (most : ℕ) (shaped : IsShaped old) (was : IsWholeOverlay old.overlay) (whole : IsWholeOverlay o) (trims : Trims most old.overlay.drafts o.drafts) (blocks : o.blocks ≡ old.overlay.blocks) where
      -- the overlay's drafts are trimmed, over the contents
      trims_now : (c : Contents) (s : MachineState) → LiesOver old c s → TrimsNow (layout old) s.content c (overlaid old) (overlaid (with_overlay old m o)) most
      trims_now c s lies = record { change = change_is c s lies shaped was whole trims.numbers; uses = refl; trims = trims; blocks = blocks }

      -- the nodes stay
      pub trimmed_nodes : (c : Contents) (s : MachineState) → LiesOver old c s → nodes_of (with_overlay old m o) c ≡ nodes_of old c
      trimmed_nodes c s lies = trimmed_now (layout old) s.content c (overlaid old) (overlaid (with_overlay old m o)) most (trims_now c s lies)

      -- and the store lies over what it lay over
      pub trimmed_lies : (c : Contents) (s : MachineState) → LiesOver old c s → LiesOver (with_overlay old m o) c s
      trimmed_lies c s lies = lies_with c s lies (trimmed_over (layout old) s.content c (overlaid old) (overlaid (with_overlay old m o)) most (trims_now c s lies))
          (trimmed_tally (layout old) (overlaid old) (overlaid (with_overlay old m o)) s.content c old.tally most (trims_now c s lies) lies.tally)

  -- A number that is drafted gets room.
  pub roomed_seats : (history : M → Option History) (self t new : StoreValue M) (ino count : ℕ) (o : OverlayValue) → t ≡ self → new ≡ with_overlay t t.log.machine o → o ≡ record t.overlay { room = t.overlay.room + count }
      → IsShaped t → IsWholeOverlay t.overlay → IsSome (draft_of t.overlay.drafts ino) → Seats history self new ino count
  roomed_seats history self t new ino count o view_is new_is is shaped was there =
      subst (λ (x : StoreValue M). Seats history x new ino count) view_is
      (subst (λ (x : StoreValue M). Seats history t x ino count) (sym new_is) (record {
        reads = record {
          same = refl;
          keeps = λ h told c lies. record { over = roomed_lies t t.log.machine o (t.overlay.room + count) is c (state_now h) lies; nodes = roomed_nodes t t.log.machine o (t.overlay.room + count) is c };
          drafted = λ q d low at. ap (λ (x : OverlayValue). draft_of x.drafts q) is ∙ at;
          dirty = ap (λ (x : OverlayValue). dirty_of (with_overlay t t.log.machine x)) is;
          blocks = ap (λ (x : OverlayValue). x.blocks) is;
        };
        drafted = subst (λ (x : OverlayValue). IsSome (draft_of x.drafts ino)) (sym is) there;
        room = ap (λ (x : OverlayValue). x.room) is;
        whole = subst (λ (x : OverlayValue). IsOverlaid (layout t) (overlaid (with_overlay t t.log.machine x))) (sym is) (record { table = was.table; named = was.named; numbers = shaped.drafts; each_use = shaped.uses });
      }))

  -- A number that isn't drafted gets the draft that was read, and room.
  pub admitted_seats : (history : M → Option History) (self t new : StoreValue M) (ino count : ℕ) (l : LogValue M) (o : OverlayValue) (d : NodeDraft) → t ≡ self → new ≡ record t { log = l; overlay = o } → l ≡ with_machine t.log l.machine
      → IsShaped t → IsWholeOverlay t.overlay → IsWholeOverlay o → d.ino ≡ ino → draft_of t.overlay.drafts ino ≡ None → d.changed ≡ false → GivesDraft history t.log t.tables ino d
      → Redrafts t.overlay.drafts o.drafts d.ino d → o.drafts.items ≡ t.overlay.drafts.items ++ d ∷ [] → o.blocks ≡ t.overlay.blocks → o.room ≡ t.overlay.room + count
      → Seats history self new ino count
  admitted_seats history self t new ino count l o d view_is is_new log_is shaped was whole number absent unchanged given redrafts last blocks room =
      subst (λ (x : StoreValue M). Seats history x new ino count) view_is
      (subst (λ (x : StoreValue M). Seats history t x ino count) (sym new_is) (record {
        reads = record {
          same = refl;
          keeps = λ h told c lies. admitted_keeps t l.machine o d shaped was whole none unchanged redrafts blocks c (state_now h) lies (given h told c lies.rests.has lies.inodes);
          drafted = admitted_drafted t l.machine o d shaped was whole none unchanged redrafts blocks;
          dirty = same_dirty;
          blocks = blocks;
        };
        drafted = some_is (draft_of o.drafts ino) d (ap (draft_of o.drafts) (sym number) ∙ redrafts.drafted);
        room = room;
        whole = overlaid_is t l.machine o shaped whole redrafts.numbers;
      }))
    where
      new_is : new ≡ with_overlay t l.machine o
      new_is = is_new ∙ ap (λ (x : LogValue M). record t { log = x; overlay = o }) log_is

      none : draft_of t.overlay.drafts d.ino ≡ None
      none = ap (draft_of t.overlay.drafts) number ∙ absent

      same_dirty : dirty_of (with_overlay t l.machine o) ≡ dirty_of t
      same_dirty =
          let new_blocks : length o.blocks ≡ length t.overlay.blocks = ap length blocks in
          let others : others_of o.drafts ≡ others_of t.overlay.drafts = ap others_in last ∙ others_push t.overlay.drafts.items d unchanged in
          let freed : length (freed_of o.drafts.items) ≡ length (freed_of t.overlay.drafts.items) = ap (λ (ds : List NodeDraft). length (freed_of ds)) last ∙ freed_same t.overlay.drafts.items d unchanged in
          omega arith

  -- Drafts that aren't changed go, and the room is given up.
  pub released : (self t new : StoreValue M) (mid o : OverlayValue) → t ≡ self → new ≡ with_overlay t t.log.machine o → IsShaped t → IsWholeOverlay t.overlay → IsWholeOverlay mid
      → Trims 64 t.overlay.drafts mid.drafts → mid.blocks ≡ t.overlay.blocks → o ≡ record mid { room = 0 } → Releases self new
  released self t new mid o view_is new_is shaped was whole trims blocks is =
      subst (λ (x : StoreValue M). Releases x new) view_is
      (subst (λ (x : StoreValue M). Releases t x) (sym new_is) (record {
        same = refl;
        over = λ c s lies. roomed_lies trimmed t.log.machine o 0 is c s (trimmed_lies t t.log.machine mid 64 shaped was whole trims blocks c s lies);
        nodes = λ c s lies. roomed_nodes trimmed t.log.machine o 0 is c ∙ trimmed_nodes t t.log.machine mid 64 shaped was whole trims blocks c s lies;
        trims = subst (λ (x : OverlayValue). Trims 64 t.overlay.drafts x.drafts) (sym is) trims;
        dirty = same_dirty;
        blocks = ap (λ (x : OverlayValue). x.blocks) is ∙ blocks;
        room = ap (λ (x : OverlayValue). x.room) is;
      }))
    where
      trimmed : StoreValue M
      trimmed = with_overlay t t.log.machine mid

      same_dirty : dirty_of (with_overlay t t.log.machine o) ≡ dirty_of t
      same_dirty = ap (λ (x : OverlayValue). dirty_of (with_overlay t t.log.machine x)) is ∙ (
          let new_blocks : length mid.blocks ≡ length t.overlay.blocks = ap length blocks in
          let others : others_of mid.drafts ≡ others_of t.overlay.drafts = trims.others in
          let freed : length (freed_of mid.drafts.items) ≡ length (freed_of t.overlay.drafts.items) = ap length trims.freed in
          omega arith)
