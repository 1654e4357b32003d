-- Units and notes of a trial.
use Rattle.std.proofs.Common.{◌≡◌, inl, inr, refl, sym, subst, ℕ, ◌<◌, ◌≤◌, List, length, arith, Option, Some, None}
use Rattle.std.specs.Prelude.{sum}
use Rattle.hl_addr.specs.Layout.{Layout}
use Rattle.hl_bytes.specs.declared.records.TableRecord.{TableRecord}
use Rattle.hl_media.specs.History.{History}
use Rattle.hl_log.specs.declared.unit.UnitAnswer.{UnitAnswer}
use Rattle.hl_log.specs.declared.unit.UnitAnswer.TheVariants as answer
use Rattle.hl_store.specs.Values.{IsTidy, StoreValue}
use Rattle.hl_store.specs.Flushes.{FlushEnds}
use Rattle.hl_store.specs.Shapes.{IsNoteOf}

module _ {M : Type 0} where
  -- behind a unit that was written nothing is dirty or noted
  pub tidy_behind : (history : M → Option History) (faults write_faults : M → ℕ) (old new : StoreValue M) (used : ℕ) (a : UnitAnswer)
      → a ≡ answer.Written used → FlushEnds history faults write_faults old new a → IsTidy new
  tidy_behind history faults write_faults old new used a is ends = elim (subst (λ (x : UnitAnswer). FlushEnds history faults write_faults old new x) is ends) [
    | inl nothing ↦ subst (λ (v : StoreValue M). IsTidy v) (sym nothing.1) nothing.0
    | inr written ↦ written.2.tidy
  ]

-- a change of each kind
pub note_staged : (g : Layout) (r : TableRecord) → r.kind ≡ 2 → r.a < sum g.volumes → IsNoteOf g r
note_staged g r kind a = (omega (arith, kind), inr (inl (kind, a)))

pub note_home : (g : Layout) (r : TableRecord) → r.kind ≡ 3 → r.a < sum g.volumes → r.b ≡ 0 → IsNoteOf g r
note_home g r kind a b = (omega (arith, kind), inr (inr (inl (kind, a, b))))

pub note_spoilt : (g : Layout) (r : TableRecord) → r.kind ≡ 4 → r.a < sum g.volumes → r.b ≡ 0 → r.serial ≡ 0 → IsNoteOf g r
note_spoilt g r kind a b serial = (omega (arith, kind), inr (inr (inr (inl (kind, a, b, serial)))))

pub note_full : (g : Layout) (r : TableRecord) → r.kind ≡ 5 → r.a < length g.volumes → r.b ≡ 0 → r.serial ≡ 0 → IsNoteOf g r
note_full g r kind a b serial = (omega (arith, kind), inr (inr (inr (inr (kind, a, b, serial)))))
