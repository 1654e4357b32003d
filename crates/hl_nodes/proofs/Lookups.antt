-- Where an inode lies once a unit is laid over the tables.
use Rattle.std.proofs.Common.{◌≡◌, ◌≢◌, inl, inr, ⊎_elim, ℕ, zero, suc, ◌+◌, ◌*◌, ◌<◌, ◌⊎◌, Bool, true, false, List, [], ◌∷◌, length, get_or, set, refl, sym, ◌∙◌, ap, subst, arith}
use Rattle.std.specs.Prelude.{◌==◌, if◌then◌else◌, slice_index, Contains}
use Rattle.std.specs.List.{fold}
use Rattle.std.proofs.lemmas.Bool.{cases_eq}
use Rattle.std.proofs.lemmas.Bool.Decides.{eqb_tells}
use Rattle.std.proofs.lemmas.List.{get_or-set_same, get_or-set_other, length-set}
use Rattle.hl_bytes.specs.declared.records.BlockRecord.{BlockRecord}
use Rattle.hl_bytes.specs.declared.records.TableRecord.{TableRecord}
use Rattle.hl_summary.specs.declared.parts.Summary.{Summary}
use Rattle.hl_image.specs.declared.place.LogPlace.{LogPlace}
use Rattle.hl_image.specs.Parts.{next_of}
use Rattle.hl_log.specs.Units.{Brought}
use Rattle.hl_tseg.specs.SlotTable.{SlotTable, slot_at}
use Rattle.hl_tseg.specs.declared.slot.Slot.TheVariants.{Staged, Home, Spoilt}
use Rattle.hl_tables.specs.Values.{TableValues}
use Rattle.hl_tables.specs.Laying.{with_inode, block_laid, blocks_laid, changed, laid}
use Rattle.hl_paths.specs.Nodes.{FlatNode}
use Rattle.hl_nodes.specs.Tables.{parts_laid}
use Rattle.hl_tseg.specs.Slots.{HoldsSerial}
use Rattle.hl_nodes.specs.Units.{blocks_placed, unit_laid}
use Rattle.hl_nodes.specs.Fates.{KeepsSlots}
use Rattle.hl_nodes.proofs.Membership.{head_in, tail_in, first_or_later}
use Rattle.hl_nodes.proofs.Laying.{by_kind}

-- where an inode lies
abbrev pub entry : TableValues → ℕ → ℕ
entry t ino = slice_index t.inodes ino

-- a block that isn't the inode's own leaves it
block_laid-other : (t : TableValues) (a : ℕ) (r : BlockRecord) (ino : ℕ) → (r.index ≡ 4294967295 → r.ino ≢ ino) → entry (block_laid t a r) ino ≡ entry t ino
block_laid-other t a r ino other = ⊎_elim
    (λ own. ap (λ (b : Bool). entry (if b then with_inode t r.ino a else t) ino) own.0 ∙ get_or-set_other t.inodes r.ino ino a 0 (λ e. other own.1 (sym e)))
    (λ not. ap (λ (b : Bool). entry (if b then with_inode t r.ino a else t) ino) not.0)
    (eqb_tells r.index 4294967295)

block_laid-own : (t : TableValues) (a : ℕ) (r : BlockRecord) (ino : ℕ) → r ≡ record { ino = ino; index = 4294967295 } → ino < length t.inodes → entry (block_laid t a r) ino ≡ a
block_laid-own t a r ino is lt = ap (λ (q : BlockRecord). entry (block_laid t a q) ino) is ∙ get_or-set_same t.inodes ino a 0 lt

block_laid-length : (t : TableValues) (a : ℕ) (r : BlockRecord) (own : Bool) → length (if own then with_inode t r.ino a else t).inodes ≡ length t.inodes
block_laid-length t a r true = length-set t.inodes r.ino a
block_laid-length t a r false = refl

pub placed-other : (t : TableValues) (rs : List BlockRecord) (plan : List ℕ) (ino : ℕ) → ((r : BlockRecord) → Contains rs r → r.index ≡ 4294967295 → r.ino ≢ ino) → entry (blocks_placed t rs plan) ino ≡ entry t ino
placed-other t [] plan ino other = refl
placed-other t (r ∷ rs) [] ino other = refl
placed-other t (r ∷ rs) (a ∷ plan) ino other = placed-other (block_laid t a r) rs plan ino (λ q i. other q (tail_in r q rs i)) ∙ block_laid-other t a r ino (other r (head_in r rs))

pub placed-own : (t : TableValues) (rs : List BlockRecord) (plan : List ℕ) (j ino : ℕ) → j < length rs → length plan ≡ length rs → get_or rs j (record { ino = ino; index = 4294967295 }) ≡ record { ino = ino; index = 4294967295 }
    → ((i : ℕ) (d : BlockRecord) → j < i → i < length rs → (get_or rs i d).index ≡ 4294967295 → (get_or rs i d).ino ≢ ino) → ino < length t.inodes → entry (blocks_placed t rs plan) ino ≡ slice_index plan j
placed-own t [] plan j ino lt size is later exists = absurd (omega arith)
placed-own t (r ∷ rs) [] j ino lt size is later exists = absurd (omega arith)
placed-own t (r ∷ rs) (a ∷ plan) zero ino lt size is later exists =
    placed-other (block_laid t a r) rs plan ino (λ q i own e. (let low = i.1 in later (suc i.0) q (omega arith) (omega arith) (ap (λ (x : BlockRecord). x.index) i.2 ∙ own) (ap (λ (x : BlockRecord). x.ino) i.2 ∙ e)))
    ∙ block_laid-own t a r ino is exists
placed-own t (r ∷ rs) (a ∷ plan) (suc j) ino lt size is later exists =
    placed-own (block_laid t a r) rs plan j ino (omega arith) (omega arith) is (λ i d low high. later (suc i) d (omega arith) (omega arith))
    (omega (arith, block_laid-length t a r (r.index == 4294967295)))

pub placed-length : (t : TableValues) (rs : List BlockRecord) (plan : List ℕ) → length (blocks_placed t rs plan).inodes ≡ length t.inodes
placed-length t [] plan = refl
placed-length t (r ∷ rs) [] = refl
placed-length t (r ∷ rs) (a ∷ plan) = placed-length (block_laid t a r) rs plan ∙ block_laid-length t a r (r.index == 4294967295)

-- a change that isn't the freeing of an inode leaves all
kinds-inodes : (t : TableValues) (c : TableRecord) (two three four five : Bool) → (by_kind t c false two three four five).inodes ≡ t.inodes
kinds-inodes t c true three four five = refl
kinds-inodes t c false true four five = refl
kinds-inodes t c false false true five = refl
kinds-inodes t c false false false true = refl
kinds-inodes t c false false false false = refl

not_freeing : (t : TableValues) (c : TableRecord) → (c.kind == 1) ≡ false → (changed t c).inodes ≡ t.inodes
not_freeing t c is = ap (λ (b : Bool). (by_kind t c b (c.kind == 2) (c.kind == 3) (c.kind == 4) (c.kind == 5)).inodes) is ∙ kinds-inodes t c (c.kind == 2) (c.kind == 3) (c.kind == 4) (c.kind == 5)

freeing : (t : TableValues) (c : TableRecord) → (c.kind == 1) ≡ true → (changed t c).inodes ≡ (with_inode t c.a 4294967295).inodes
freeing t c is = ap (λ (b : Bool). (by_kind t c b (c.kind == 2) (c.kind == 3) (c.kind == 4) (c.kind == 5)).inodes) is

changed-length : (t : TableValues) (c : TableRecord) → length (changed t c).inodes ≡ length t.inodes
changed-length t c = ⊎_elim (λ yes. ap length (freeing t c yes.0) ∙ length-set t.inodes c.a 4294967295) (λ not. ap length (not_freeing t c not.0)) (eqb_tells c.kind 1)

pub changes-length : (t : TableValues) (cs : List TableRecord) → length (fold changed t cs).inodes ≡ length t.inodes
changes-length t [] = refl
changes-length t (c ∷ cs) = changes-length (changed t c) cs ∙ changed-length t c

changed-other : (t : TableValues) (c : TableRecord) (ino : ℕ) → (c.kind ≡ 1 → c.a ≢ ino) → entry (changed t c) ino ≡ entry t ino
changed-other t c ino other = ⊎_elim
    (λ yes. ap (λ (l : List ℕ). slice_index l ino) (freeing t c yes.0) ∙ get_or-set_other t.inodes c.a ino 4294967295 0 (λ e. other yes.1 (sym e)))
    (λ not. ap (λ (l : List ℕ). slice_index l ino) (not_freeing t c not.0))
    (eqb_tells c.kind 1)

pub changes-other : (t : TableValues) (cs : List TableRecord) (ino : ℕ) → ((c : TableRecord) → Contains cs c → c.kind ≡ 1 → c.a ≢ ino) → entry (fold changed t cs) ino ≡ entry t ino
changes-other t [] ino other = refl
changes-other t (c ∷ cs) ino other = changes-other (changed t c) cs ino (λ d i. other d (tail_in c d cs i)) ∙ changed-other t c ino (other c (head_in c cs))

-- what is freed stays freed
changed-nothing : (t : TableValues) (c : TableRecord) (ino : ℕ) → ino < length t.inodes → entry t ino ≡ 4294967295 → entry (changed t c) ino ≡ 4294967295
changed-nothing t c ino lt is = ⊎_elim
    (λ yes. ap (λ (l : List ℕ). slice_index l ino) (freeing t c yes.0) ∙ by_number (cases_eq c.a ino))
    (λ not. ap (λ (l : List ℕ). slice_index l ino) (not_freeing t c not.0) ∙ is)
    (eqb_tells c.kind 1)
  where
    by_number : (c.a ≡ ino) ⊎ (c.a ≡ ino → ⊥) → entry (with_inode t c.a 4294967295) ino ≡ 4294967295
    by_number (inl same) = ap (λ (n : ℕ). entry (with_inode t n 4294967295) ino) same ∙ get_or-set_same t.inodes ino 4294967295 0 lt
    by_number (inr other) = get_or-set_other t.inodes c.a ino 4294967295 0 (λ e. other (sym e)) ∙ is

changes-nothing : (t : TableValues) (cs : List TableRecord) (ino : ℕ) → ino < length t.inodes → entry t ino ≡ 4294967295 → entry (fold changed t cs) ino ≡ 4294967295
changes-nothing t [] ino lt is = is
changes-nothing t (c ∷ cs) ino lt is = changes-nothing (changed t c) cs ino (omega (arith, changed-length t c)) (changed-nothing t c ino lt is)

pub changes-freed : (t : TableValues) (cs : List TableRecord) (ino : ℕ) → ino < length t.inodes → Contains cs (record { kind = 1; a = ino; b = 0; serial = 0 }) → entry (fold changed t cs) ino ≡ 4294967295
changes-freed t [] ino lt i = absurd (let low = i.1 in omega arith)
changes-freed t (c ∷ cs) ino lt i = ⊎_elim
    (λ here. changes-nothing (changed t c) cs ino (omega (arith, changed-length t c)) (ap (λ (d : TableRecord). entry (changed t d) ino) here ∙ get_or-set_same t.inodes ino 4294967295 0 lt))
    (λ later. changes-freed (changed t c) cs ino (omega (arith, changed-length t c)) later)
    (first_or_later c (record { kind = 1; a = ino; b = 0; serial = 0 }) cs i)

-- laying keeps how many inodes there are
blocks_laid-length : (t : TableValues) (a : ℕ) (rs : List BlockRecord) → length (blocks_laid t a rs).inodes ≡ length t.inodes
blocks_laid-length t a [] = refl
blocks_laid-length t a (r ∷ rs) = blocks_laid-length (block_laid t a r) (a + 1) rs ∙ block_laid-length t a r (r.index == 4294967295)

pub parts_laid-length : (t : TableValues) (at : LogPlace) (ps : List Summary) → length (parts_laid t at ps).inodes ≡ length t.inodes
parts_laid-length t at [] = refl
parts_laid-length t at (s ∷ ps) =
    parts_laid-length (laid t at.seg (at.block + 1) s.blocks s.tables) (next_of s) ps
    ∙ changes-length (blocks_laid t (at.seg * t.k + (at.block + 1)) s.blocks) s.tables ∙ blocks_laid-length t (at.seg * t.k + (at.block + 1)) s.blocks

-- what the slots hold once a unit is laid over the tables: only its changes count
block_laid-slots : (t : TableValues) (a : ℕ) (r : BlockRecord) (own : Bool) → (if own then with_inode t r.ino a else t).slots ≡ t.slots
block_laid-slots t a r true = refl
block_laid-slots t a r false = refl

placed-slots : (t : TableValues) (rs : List BlockRecord) (plan : List ℕ) → (blocks_placed t rs plan).slots ≡ t.slots
placed-slots t [] plan = refl
placed-slots t (r ∷ rs) [] = refl
placed-slots t (r ∷ rs) (a ∷ plan) = placed-slots (block_laid t a r) rs plan ∙ block_laid-slots t a r (r.index == 4294967295)

by_kind-slots : (s t : TableValues) (c : TableRecord) (one two three four five : Bool) → s.slots ≡ t.slots → (by_kind s c one two three four five).slots ≡ (by_kind t c one two three four five).slots
by_kind-slots s t c true two three four five e = e
by_kind-slots s t c false true three four five e = ap (λ (x : SlotTable). record x { slots = set x.slots c.a (Staged c.b c.serial) }) e
by_kind-slots s t c false false true four five e = ap (λ (x : SlotTable). record x { slots = set x.slots c.a (Home c.serial) }) e
by_kind-slots s t c false false false true five e = ap (λ (x : SlotTable). record x { slots = set x.slots c.a Spoilt }) e
by_kind-slots s t c false false false false true e = ap (λ (x : SlotTable). record x { full = set x.full c.a true }) e
by_kind-slots s t c false false false false false e = e

changes-slots : (s t : TableValues) (cs : List TableRecord) → s.slots ≡ t.slots → (fold changed s cs).slots ≡ (fold changed t cs).slots
changes-slots s t [] e = e
changes-slots s t (c ∷ cs) e = changes-slots (changed s c) (changed t c) cs (by_kind-slots s t c (c.kind == 1) (c.kind == 2) (c.kind == 3) (c.kind == 4) (c.kind == 5) e)

pub unit_laid-slots : (t : TableValues) (u : Brought) (plan : List ℕ) → (unit_laid t u plan).slots ≡ (fold changed t u.changes).slots
unfolding unit_laid
unit_laid-slots t u plan = changes-slots (blocks_placed t u.records plan) t u.changes (placed-slots t u.records plan)

-- a unit that at most frees inodes leaves the slots
freeing-slots : (t : TableValues) (c : TableRecord) → c.kind ≡ 1 → (changed t c).slots ≡ t.slots
freeing-slots t c one = ⊎_elim (λ yes. ap (λ (b : Bool). (by_kind t c b (c.kind == 2) (c.kind == 3) (c.kind == 4) (c.kind == 5)).slots) yes.0) (λ not. absurd (not.1 one)) (eqb_tells c.kind 1)

frees-slots : (t : TableValues) (cs : List TableRecord) → ((c : TableRecord) → Contains cs c → c.kind ≡ 1) → (fold changed t cs).slots ≡ t.slots
frees-slots t [] frees = refl
frees-slots t (c ∷ cs) frees = frees-slots (changed t c) cs (λ d i. frees d (tail_in c d cs i)) ∙ freeing-slots t c (frees c (head_in c cs))

pub unit_frees-slots : (t : TableValues) (u : Brought) (plan : List ℕ) → ((c : TableRecord) → Contains u.changes c → c.kind ≡ 1) → (unit_laid t u plan).slots ≡ t.slots
unit_frees-slots t u plan frees = unit_laid-slots t u plan ∙ frees-slots t u.changes frees

-- so that no node loses a segment
pub unit_frees-keeps : (t : TableValues) (u : Brought) (plan : List ℕ) → ((c : TableRecord) → Contains u.changes c → c.kind ≡ 1) → (node : FlatNode) → KeepsSlots t.slots (unit_laid t u plan).slots node
unit_frees-keeps t u plan frees node number i serial position is holds = subst (λ (s : SlotTable). HoldsSerial (slot_at s number) serial) (sym (unit_frees-slots t u plan frees)) holds

-- laying a unit leaves which segments are marked used
by_kind-used : (t : TableValues) (c : TableRecord) (one two three four five : Bool) → (by_kind t c one two three four five).used ≡ t.used
by_kind-used t c true two three four five = refl
by_kind-used t c false true three four five = refl
by_kind-used t c false false true four five = refl
by_kind-used t c false false false true five = refl
by_kind-used t c false false false false true = refl
by_kind-used t c false false false false false = refl

changes-used : (t : TableValues) (cs : List TableRecord) → (fold changed t cs).used ≡ t.used
changes-used t [] = refl
changes-used t (c ∷ cs) = changes-used (changed t c) cs ∙ by_kind-used t c (c.kind == 1) (c.kind == 2) (c.kind == 3) (c.kind == 4) (c.kind == 5)

block_laid-used : (t : TableValues) (a : ℕ) (r : BlockRecord) (own : Bool) → (if own then with_inode t r.ino a else t).used ≡ t.used
block_laid-used t a r true = refl
block_laid-used t a r false = refl

placed-used : (t : TableValues) (rs : List BlockRecord) (plan : List ℕ) → (blocks_placed t rs plan).used ≡ t.used
placed-used t [] plan = refl
placed-used t (r ∷ rs) [] = refl
placed-used t (r ∷ rs) (a ∷ plan) = placed-used (block_laid t a r) rs plan ∙ block_laid-used t a r (r.index == 4294967295)

pub unit_laid-used : (t : TableValues) (u : Brought) (plan : List ℕ) → (unit_laid t u plan).used ≡ t.used
unfolding unit_laid
unit_laid-used t u plan = changes-used (blocks_placed t u.records plan) u.changes ∙ placed-used t u.records plan
