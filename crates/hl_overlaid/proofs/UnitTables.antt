-- What the changes of a unit make of the tables: the numbers that become free, and what was noted of slots.
use Rattle.std.proofs.Common.{◌≡◌, inl, inr, ℕ, zero, suc, ◌-◌, ◌≤◌, Bool, true, false, List, [], ◌∷◌, ◌++◌, length, length-append, get_or, refl, sym, ◌∙◌, ap, subst, arith}
use Rattle.std.specs.Prelude.{if◌then◌else◌, All, Contains, map}
use Rattle.std.specs.List.{filter, fold}
use Rattle.std.proofs.lemmas.Bool.{cases_lt}
use Rattle.std.proofs.lemmas.List.{get_or_append_left, length-map}
use Rattle.std.proofs.lemmas.List.Sums.{fold-append}
use Rattle.std.proofs.Math.Seq.{get_or-append_right}
use Rattle.hl_bytes.specs.declared.records.BlockRecord.{BlockRecord}
use Rattle.hl_bytes.specs.declared.records.TableRecord.{TableRecord}
use Rattle.hl_tables.specs.Values.{TableValues}
use Rattle.hl_tables.specs.Laying.{changed}
use Rattle.hl_overlay.specs.declared.draft.NodeDraft.{NodeDraft}
use Rattle.hl_overlay.specs.Clearing.{HaveOwnNumbers}
use Rattle.hl_overlay.specs.DraftTables.{freed_record}
use Rattle.hl_overlay.proofs.CountLemmas.{there}
use Rattle.hl_nodes.specs.Units.{FreesOnce, blocks_placed, unit_laid}
use Rattle.hl_nodes.proofs.Lookups.{unit_laid-slots}
use Rattle.hl_overlaid.specs.Units.{IsOfSlots}
use Rattle.hl_overlaid.proofs.NowLemmas.{none_some}
use Rattle.hl_overlaid.proofs.UnitBlocks.{in_filter, map_at}

-- the record of an inode's own block
pub own_record : NodeDraft → BlockRecord
own_record d = record { ino = d.ino; index = 4294967295 }

pub nowhere : NodeDraft → ℕ
nowhere d = 4294967295

-- to free numbers is to lay their inodes nowhere
pub freed-placed : (t : TableValues) (ds : List NodeDraft) → fold changed t (map freed_record ds) ≡ blocks_placed t (map own_record ds) (map nowhere ds)
unfolding own_record nowhere
freed-placed t [] = refl
freed-placed t (d ∷ ds) = freed-placed (changed t (freed_record d)) ds

-- so that the slots are those that the notes give
pub changes-slots : (t : TableValues) (ds : List NodeDraft) (notes : List TableRecord) → (fold changed t (map freed_record ds ++ notes)).slots ≡ (fold changed t notes).slots
unfolding unit_laid
changes-slots t ds notes =
    ap (λ (x : TableValues). x.slots) (fold-append changed t (map freed_record ds) notes ∙ ap (λ (x : TableValues). fold changed x notes) (freed-placed t ds))
    ∙ unit_laid-slots t (record { closes = true; records = map own_record ds; contents = []; changes = notes }) (map nowhere ds)

-- no two of the drafts that pass a test have one number
pub filter_apart : (p : NodeDraft → Bool) (xs : List NodeDraft) → HaveOwnNumbers xs → HaveOwnNumbers (filter p xs)
filter_apart p [] apart = λ j k d e lt at at'. absurd (none_some at)
filter_apart p (x ∷ xs) apart = by (p x) refl (filter_apart p xs (λ j k d e lt at at'. apart (suc j) (suc k) d e (omega arith) at at'))
  where
    first : HaveOwnNumbers (filter p xs) → HaveOwnNumbers (x ∷ filter p xs)
    first rest j zero d e less is is' = absurd (omega arith)
    first rest zero (suc k) d e less is is' = (let l = in_filter p xs k e is' in apart 0 (suc l.0) d e (omega arith) is l.1)
    first rest (suc j) (suc k) d e less is is' = rest j k d e (omega arith) is is'

    by : (b : Bool) → p x ≡ b → HaveOwnNumbers (filter p xs) → HaveOwnNumbers (filter p (x ∷ xs))
    by true is rest = subst (λ (b : Bool). HaveOwnNumbers (if b then x ∷ filter p xs else filter p xs)) (sym is) (first rest)
    by false is rest = subst (λ (b : Bool). HaveOwnNumbers (if b then x ∷ filter p xs else filter p xs)) (sym is) rest

-- what a list has, a longer one has
pub append_has : {A : Type 0} (xs ys : List A) (x : A) → Contains xs x → Contains (xs ++ ys) x
append_has xs ys x i = (i.0, (let lt = i.1 in let n = length-append xs ys in omega arith), get_or_append_left xs ys x i.0 i.1 ∙ i.2)

-- a note frees no number
pub not_freeing : (notes : List TableRecord) → All IsOfSlots notes → (r : TableRecord) → Contains notes r → r.kind ≡ 1 → ⊥
not_freeing notes of r i kind = (let high : 2 ≤ r.kind = subst IsOfSlots i.2 (of i.0 r i.1) in omega arith)

-- no number is freed twice
pub frees_once_by : (fs : List NodeDraft) (notes : List TableRecord) → HaveOwnNumbers fs → All IsOfSlots notes → FreesOnce (map freed_record fs ++ notes)
frees_once_by fs notes apart of i j d lt high one_i one_j same = elim (cases_lt j (length (map freed_record fs))) [
  | inl low ↦ (
      let n = length-map fs freed_record in
      let x = there fs i (omega arith) in
      let y = there fs j (omega arith) in
      let at_i : get_or (map freed_record fs ++ notes) i d ≡ freed_record x.0 = get_or_append_left (map freed_record fs) notes d i (omega arith) ∙ map_at freed_record fs i x.0 d x.1 in
      let at_j : get_or (map freed_record fs ++ notes) j d ≡ freed_record y.0 = get_or_append_left (map freed_record fs) notes d j low ∙ map_at freed_record fs j y.0 d y.1 in
      apart i j x.0 y.0 lt x.1 y.1 (sym (ap (λ (r : TableRecord). r.a) at_i) ∙ same ∙ ap (λ (r : TableRecord). r.a) at_j))
  | inr ge ↦ (
      let n = length-append (map freed_record fs) notes in
      let at_j : get_or (map freed_record fs ++ notes) j d ≡ get_or notes (j - length (map freed_record fs)) d = get_or-append_right (map freed_record fs) notes j d ge in
      let two : 2 ≤ (get_or notes (j - length (map freed_record fs)) d).kind = of (j - length (map freed_record fs)) d (omega arith) in
      let kind : (get_or notes (j - length (map freed_record fs)) d).kind ≡ 1 = sym (ap (λ (r : TableRecord). r.kind) at_j) ∙ one_j in
      absurd (omega arith))
]
