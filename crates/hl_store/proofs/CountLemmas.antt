-- What a block of a draft is counted.
use Rattle.std.proofs.Common.{◌≡◌, ◌<◌, ◌≤◌, ◌+◌, ◌-◌, ℕ, List, refl, sym, ◌∙◌, ap, arith}
use Rattle.std.specs.Prelude.{Bool, min, if◌then◌else◌}
use Rattle.std.proofs.lemmas.Bool.{le-leb, lt-leb}
use Rattle.hl_overlay.specs.declared.pointers.Pointer.{Pointer}
use Rattle.hl_overlay.specs.declared.pointers.Pointer.TheVariants.{Hole, Kept, Moved, New}
use Rattle.hl_overlay.specs.declared.draft.NodeDraft.{NodeDraft}
use Rattle.hl_tally.specs.Tally.{Tally}
use Rattle.hl_tally.specs.Counting.{removed, without_block, without_pointer_block}

-- counts of the same fields are the same
pub tally_same : (a b : Tally) → a.in_use ≡ b.in_use → a.charge ≡ b.charge → a.live ≡ b.live → a ≡ b
tally_same a b x y z = λ i. record { in_use = x i; charge = y i; live = z i }

-- a pointer block is let go from block 12 on
pub far_gone : (k i single : ℕ) (d : NodeDraft) (live : List ℕ) → 12 ≤ i → d.single ≡ single → removed k live single ≡ without_pointer_block k d i live
far_gone k i single d live le is = ap (removed k live) (sym is) ∙ sym (ap (λ (b : Bool). if b then removed k live d.single else live) (le-leb 12 i le))

pub near_stays : (k i : ℕ) (d : NodeDraft) (live : List ℕ) → i < 12 → live ≡ without_pointer_block k d i live
near_stays k i d live lt = sym (ap (λ (b : Bool). if b then removed k live d.single else live) (lt-leb 12 i lt))

-- a block that the disk doesn't have is not let go
pub not_kept : (k : ℕ) (p : Pointer) (live : List ℕ) → ((addr : ℕ) → p ≡ Kept addr → ⊥) → live ≡ without_block k p live
not_kept k Hole live other = refl
not_kept k (Kept addr) live other = absurd (other addr refl)
not_kept k (Moved addr serial position) live other = refl
not_kept k (New n) live other = refl

-- the charge, which has room
pub charge_reckoned : (result sum charge held far_now at far old : ℕ) → sum ≡ min (charge + (held + far_now)) 4294967295 → result ≡ sum - (at + far) → charge ≡ old → old + 2 < 4294967296 → held ≤ 1 → far_now ≤ 1
    → result ≡ (old + (held + far_now)) - (at + far)
charge_reckoned result sum charge held far_now at far old a b c d e f = omega arith
