-- A store with other memory.
use Rattle.std.proofs.Common.{◌≡◌, ℕ, ◌+◌, ◌*◌, ◌<◌, ◌≤◌, ◌^◌, Bool, cond, List, get_or, length, length-append, refl, sym, ◌∙◌, ap, subst, arith}
use Rattle.std.specs.Prelude.{count_by, sum_by}
use Rattle.std.proofs.lemmas.List.Sums.{sum_by-le}
use Rattle.hl_bytes.specs.declared.records.TableRecord.{TableRecord}
use Rattle.hl_overlay.specs.declared.draft.NodeDraft.{NodeDraft}
use Rattle.hl_overlay.specs.Drafting.{count_for, is_freed}
use Rattle.hl_overlay.specs.DraftTables.{freed_of, others_in}
use Rattle.hl_overlay.specs.Overlays.{OverlayValue}
use Rattle.hl_overlay.proofs.CountLemmas.{count_most, freed_length, one_most}
use Rattle.hl_overlaid.specs.Units.{unit_changes}
use Rattle.hl_log.specs.Logs.{LogValue, with_machine}
use Rattle.hl_store.specs.Values.{Reserved, StoreValue}
use Rattle.hl_store.specs.Shapes.{IsShaped}
use Rattle.hl_store.specs.Reserving.{HasAsMuch, IsNoteRefused, IsReserved, KeepsButMemory, KeepsEach, Reserves}
use Rattle.hl_store.proofs.SeatLemmas.{roomed_lies, roomed_nodes, with_overlay}

-- each draft has at most two blocks besides its new ones
others_held : (ds : List NodeDraft) → others_in ds ≤ 2 * length ds
others_held ds = (let sum : sum_by count_for ds ≤ length ds * 2 = sum_by-le count_for 2 ds (λ k d lt. count_most (get_or ds k d)) in omega arith)

-- and frees at most one number
freed_held : (ds : List NodeDraft) → length (freed_of ds) ≤ length ds
freed_held ds =
    let sum : sum_by (λ (d : NodeDraft). cond (is_freed d) 1 0) ds ≤ length ds * 1 = sum_by-le (λ (d : NodeDraft). cond (is_freed d) 1 0) 1 ds (λ k d lt. one_most (is_freed (get_or ds k d))) in
    let all : count_by is_freed ds ≡ length (freed_of ds) = freed_length ds in
    omega arith

-- there is memory for as much as there is
pub as_much : (r : Reserved) → HasAsMuch r r
as_much r = record { plan = omega arith; changes = omega arith; notes = omega arith }

module _ {M : Type 0} where
  module _ (v : StoreValue M) (r : Reserved) (b : Bool) where
    -- the store with other memory
    abbrev pub with_memory : StoreValue M
    with_memory = record v { reserved = r; has_buffer = b }

    -- it lies over what it lay over, with the same nodes
    pub memory_keeps : KeepsEach v with_memory
    memory_keeps c s lies = record {
      over = record {
        rests = lies.rests;
        sound = lies.sound;
        listed = lies.listed;
        rec = lies.rec;
        inodes = lies.inodes;
        slots = lies.slots;
        serial = lies.serial;
        possible = lies.possible;
        over = lies.over;
        tally = lies.tally;
      };
      nodes = refl;
    }

    -- and each list is as long as it was
    pub memory_shaped : IsShaped v → IsShaped with_memory
    memory_shaped shaped = record {
      limits = shaped.limits;
      drafts = shaped.drafts;
      uses = shaped.uses;
      inodes = shaped.inodes;
      used = shaped.used;
      blocks = shaped.blocks;
      volumes = shaped.volumes;
      in_use = shaped.in_use;
      live = shaped.live;
      lines = shaped.lines;
      clean = shaped.clean;
      few = shaped.few;
      notes = shaped.notes;
    }

  -- a store keeps all of itself
  pub all_kept : (v : StoreValue M) → KeepsButMemory v v
  all_kept v = record { same = refl; much = as_much v.reserved; keeps = λ c s lies. record { over = lies; nodes = refl } }

  -- a store that is another one but for its memory, of which there is as much
  pub memory_kept : (self t : StoreValue M) (r : Reserved) → t ≡ self → HasAsMuch t.reserved r → KeepsButMemory self (record t { reserved = r })
  memory_kept self t r view_is much = subst (λ (x : StoreValue M). KeepsButMemory x (record t { reserved = r })) view_is
      (record { same = refl; much = much; keeps = memory_keeps t r t.has_buffer })

  -- a note is refused, whose list is as it was
  pub note_refused : (self t : StoreValue M) → t ≡ self → t.reserved.notes ≤ length t.notes → (r : Reserved) → HasAsMuch t.reserved r → (notes : List TableRecord) → notes ≡ t.notes → IsNoteRefused self (record t { notes = notes; reserved = r })
  note_refused self t view_is full r much notes same =
      subst (λ (ns : List TableRecord). IsNoteRefused self (record t { notes = ns; reserved = r })) (sym same)
      (subst (λ (x : StoreValue M). ¬ (length x.notes < x.reserved.notes)) view_is (λ more. absurd (omega arith)), memory_kept self t r view_is much)

  -- the same of memory that is taken, of which some part was had
  pub notes_kept : (self t : StoreValue M) → t ≡ self → (r : Reserved) → HasAsMuch t.reserved r → (notes : List TableRecord) → notes ≡ t.notes → (o : OverlayValue) → o ≡ t.overlay → KeepsButMemory self (record t { notes = notes; overlay = o; reserved = r })
  notes_kept self t view_is r much notes same o o_same =
      subst (λ (ns : List TableRecord). KeepsButMemory self (record t { notes = ns; overlay = o; reserved = r })) (sym same)
      (subst (λ (x : OverlayValue). KeepsButMemory self (record t { overlay = x; reserved = r })) (sym o_same) (memory_kept self t r view_is much))

  -- MEMORY IS RESERVED
  module _ (t : StoreValue M) (r : Reserved) (tables : ℕ) where
    abbrev held : ℕ
    held = length t.overlay.drafts.items

    abbrev roomed : OverlayValue
    roomed = record t.overlay { room = t.overlay.room + 2 * held }

    abbrev reserved : StoreValue M
    reserved = record t { overlay = roomed; reserved = r }

    reserved_now : length t.overlay.blocks + t.overlay.room + 2 * held ≤ r.plan → held + length t.notes + tables ≤ r.changes → held + length t.notes + tables < 2 ^ 32 → IsReserved reserved
    reserved_now plan changes few =
        let others = others_held t.overlay.drafts.items in
        let freed = freed_held t.overlay.drafts.items in
        let both : length (unit_changes t.overlay t.notes) ≡ length (freed_of t.overlay.drafts.items) + length t.notes = length-append (freed_of t.overlay.drafts.items) t.notes in
        record { plan = omega arith; changes = omega arith; room = omega arith; few = omega arith }

    reserved_keeps : KeepsEach t reserved
    reserved_keeps c s lies =
        let o = with_overlay t t.log.machine roomed in
        let lies_there = roomed_lies t t.log.machine roomed (t.overlay.room + 2 * held) refl c s lies in
        record { over = (memory_keeps o r t.has_buffer c s lies_there).over; nodes = roomed_nodes t t.log.machine roomed (t.overlay.room + 2 * held) refl c }

    pub reserves : (self : StoreValue M) → t ≡ self → HasAsMuch t.reserved r → (others blocks count : ℕ) → others ≡ held + held + 0 → blocks ≡ length t.overlay.blocks + t.overlay.room + others → count ≡ held + length t.notes + tables
        → blocks ≤ r.plan → count ≤ r.changes → count < 2 ^ 32 → length t.notes + tables ≤ r.notes → (notes : List TableRecord) → notes ≡ t.notes → (o : OverlayValue) → o ≡ record t.overlay { room = t.overlay.room + others }
        → Reserves self (record t { notes = notes; overlay = o; reserved = r }) tables
    reserves self view_is much others blocks count others_are blocks_are count_are plan changes few more notes same o is =
        let twice : others ≡ 2 * held = omega arith in
        let at : o ≡ roomed = is ∙ ap (λ (n : ℕ). record t.overlay { room = t.overlay.room + n }) twice in
        let plan_fits : length t.overlay.blocks + t.overlay.room + 2 * held ≤ r.plan = omega arith in
        let changes_fit : held + length t.notes + tables ≤ r.changes = omega arith in
        let few_are : held + length t.notes + tables < 2 ^ 32 = subst (λ n. n < 2 ^ 32) count_are few in
        subst (λ (x : StoreValue M). Reserves x (record t { notes = notes; overlay = o; reserved = r }) tables) view_is
        (subst (λ (ns : List TableRecord). Reserves t (record t { notes = ns; overlay = o; reserved = r }) tables) (sym same)
        (subst (λ (x : OverlayValue). Reserves t (record t { overlay = x; reserved = r }) tables) (sym at) (record {
          same = refl;
          plan = plan_fits;
          changes = changes_fit;
          few = few_are;
          notes = more;
          much = much;
          now = reserved_now plan_fits changes_fit few_are;
          keeps = reserved_keeps;
        })))

  -- a store whose machine was read lies over what it lay over, with the same nodes
  pub read_keeps : (self t : StoreValue M) → t ≡ self → (l : LogValue M) → l ≡ with_machine t.log l.machine → KeepsEach self (record t { log = l })
  read_keeps self t view_is l same = subst (λ (x : StoreValue M). KeepsEach x (record t { log = l })) view_is
      (subst (λ (x : LogValue M). KeepsEach t (record t { log = x })) (sym same) (λ c s lies. record {
        over = roomed_lies t l.machine t.overlay t.overlay.room refl c s lies;
        nodes = roomed_nodes t l.machine t.overlay t.overlay.room refl c;
      }))
