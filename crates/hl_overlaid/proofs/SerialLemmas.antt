-- The next tertiary serial behind a unit.
use Rattle.std.proofs.Common.{◌≡◌, ℕ, ◌+◌, ◌-◌, Bool, List, [], ◌∷◌, ◌++◌, length, length-drop, drop, take, refl, sym, ◌∙◌, ap, subst, arith}
use Rattle.std.specs.Prelude.{map}
use Rattle.std.specs.List.{filter, fold}
use Rattle.std.proofs.lemmas.List.{take-append-drop, take_all}
use Rattle.std.proofs.lemmas.List.Sums.{fold-append}
use Rattle.hl_media.specs.History.{MachineState}
use Rattle.hl_addr.specs.Layout.{Layout}
use Rattle.hl_bytes.specs.declared.block.Block.{Block}
use Rattle.hl_bytes.specs.declared.records.BlockRecord.{BlockRecord}
use Rattle.hl_bytes.specs.declared.records.TableRecord.{TableRecord}
use Rattle.hl_summary.specs.declared.parts.Summary.{Summary}
use Rattle.hl_image.specs.declared.place.LogPlace.{LogPlace}
use Rattle.hl_log.specs.declared.piece.Piece.{Piece}
use Rattle.hl_log.specs.declared.position.Position.{Position}
use Rattle.hl_log.specs.Cut.{AreCut, summaries}
use Rattle.hl_overlay.specs.declared.draft.NodeDraft.{NodeDraft}
use Rattle.hl_overlay.specs.Drafting.{is_freed}
use Rattle.hl_overlay.specs.DraftTables.{freed_record}
use Rattle.hl_paths.specs.Nodes.{Nodes}
use Rattle.hl_nodes.specs.Tables.{parts_raised, raised}
use Rattle.hl_nodes.specs.Contents.{Contents, next_tertiary}
use Rattle.hl_nodes.specs.Units.{after_unit}
use Rattle.hl_overlaid.specs.NodesNow.{Overlaid}
use Rattle.hl_overlaid.specs.Units.{IsUnitNow, brought_by, unit_changes}
use Rattle.hl_overlaid.proofs.UnitMakes.{cut_is}

-- parts behind parts
parts_raised-append : (next : ℕ) (ps qs : List Summary) → parts_raised next (ps ++ qs) ≡ parts_raised (parts_raised next ps) qs
parts_raised-append next [] qs = refl
parts_raised-append next (s ∷ ps) qs = parts_raised-append (fold raised next s.tables) ps qs

-- a unit raises it by its changes, whatever its parts
unit_raises : (g : Layout) (closes : Bool) (next serial : ℕ) (at : LogPlace) (clean : List ℕ) (b : ℕ) (records : List BlockRecord) (changes : List TableRecord) (pieces : List Piece) (rest : List ℕ)
    → AreCut g at clean b (length changes) pieces rest → parts_raised next (summaries closes serial records changes pieces) ≡ fold raised next changes
unit_raises g closes next serial at clean b records changes [] rest cut = absurd cut
unit_raises g closes next serial at clean b records changes (p ∷ []) rest cut = (let tables = cut.2 in ap (fold raised next) (take_all p.tables changes (omega arith)))
unit_raises g closes next serial at clean b records changes (p ∷ q ∷ ps) rest cut =
    unit_raises g closes (fold raised next (take p.tables changes)) (serial + 1) p.next cut.0 (b - p.blocks) (drop p.blocks records) (drop p.tables changes) (q ∷ ps) rest
    (subst (λ (n : ℕ). AreCut g p.next cut.0 (b - p.blocks) n (q ∷ ps) rest) (sym (length-drop p.tables changes)) cut.3)
    ∙ sym (fold-append raised next (take p.tables changes) (drop p.tables changes)) ∙ ap (fold raised next) (take-append-drop p.tables changes)

-- numbers that become free don't
freed_raise : (next : ℕ) (ds : List NodeDraft) → fold raised next (map freed_record ds) ≡ next
freed_raise next [] = refl
freed_raise next (d ∷ ds) = freed_raise next ds

-- BEHIND THE UNIT the next tertiary serial is the one before, raised by what was noted
pub serial_now : (g : Layout) (p : Position) (clean : List ℕ) (o : Overlaid) (notes : List TableRecord) (c : Contents) (bs : List (BlockRecord × Block)) (pieces : List Piece) (rest : List ℕ) (first : MachineState) → IsUnitNow g p clean o notes c bs pieces rest first
    → (nodes : Nodes) → next_tertiary (after_unit g p c (brought_by bs (unit_changes o.overlay notes)) pieces nodes) ≡ fold raised (next_tertiary c) notes
serial_now g p clean o notes c bs pieces rest first is nodes =
    parts_raised-append c.rec.tseg_serial c.parts (summaries (brought_by bs (unit_changes o.overlay notes)).closes p.serial (brought_by bs (unit_changes o.overlay notes)).records (unit_changes o.overlay notes) pieces)
    ∙ unit_raises g (brought_by bs (unit_changes o.overlay notes)).closes (next_tertiary c) p.serial p.head clean (length (brought_by bs (unit_changes o.overlay notes)).records) (brought_by bs (unit_changes o.overlay notes)).records (unit_changes o.overlay notes) pieces rest (cut_is g p clean o notes c bs pieces rest first is)
    ∙ fold-append raised (next_tertiary c) (map freed_record (filter is_freed o.overlay.drafts.items)) notes ∙ ap (λ n. fold raised n notes) (freed_raise (next_tertiary c) (filter is_freed o.overlay.drafts.items))
