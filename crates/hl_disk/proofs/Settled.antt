-- Images with the same blocks stand for the same tree, and a stop leaves what is settled.
use Rattle.std.proofs.Common.{◌≡◌, inl, ℕ, List, [], length, take, refl, sym, ◌∙◌, ap, subst}
use Rattle.sha2.specs.Sha256.{sha256}
use Rattle.hl_media.specs.History.{Image, MachineState, IsUntouched, PendingWrite}
use Rattle.hl_media.proofs.Images.{area_same}
use Rattle.hl_super.specs.Labels as labels
use Rattle.hl_tree.specs.Rules.{Files}
use Rattle.hl_dump.specs.Dumps.{IsDump}
use Rattle.hl_disk.specs.declared.record.DumpRecord.{DumpRecord}
use Rattle.hl_disk.specs.Records.{place_of, Spells}
use Rattle.hl_disk.specs.Disks.{start_of, blocks_of, dump_at, Stands, Checks, StandsFor, Holds}
use Rattle.hl_disk.specs.Stops.{StopLeaves, IsSettled}
use Rattle.hl_disk.specs.Saves.{IsSaving}

module _ (image other : Image) (same : (k : ℕ) → image k ≡ other k) where
  dump_same : (r : DumpRecord) → dump_at image r ≡ dump_at other r
  dump_same r = ap (take r.length) (area_same image other (start_of r.number) (blocks_of r.length) (λ k low high. same k))

  stands_same : (r : DumpRecord) → Stands other r → Stands image r
  stands_same r is = subst (λ (block : List ℕ). Spells (place_of r.number) block r) (sym (same (place_of r.number))) is

  checks_same : (r : DumpRecord) (tree : Files) → Checks other r tree → Checks image r tree
  checks_same r tree is =
      let bytes = sym (dump_same r) in
      record {
        stands = stands_same r is.stands;
        whole = subst (λ (l : List ℕ). length l ≡ r.length) bytes is.whole;
        digest = subst (λ (l : List ℕ). sha256 l ≡ r.digest) bytes is.digest;
        dump = subst (λ (l : List ℕ). IsDump l tree) bytes is.dump;
      }

module _ (blocks : ℕ) (image other : Image) (same : (k : ℕ) → image k ≡ other k) where
  back : (k : ℕ) → other k ≡ image k
  back k = sym (same k)

  pub StandsFor-same : (n : ℕ) (tree : Files) → StandsFor blocks other n tree → StandsFor blocks image n tree
  StandsFor-same n tree is = record {
    label = (is.label.0, subst (λ (block : List ℕ). labels.Spells blocks block is.label.0) (back 0) is.label.1);
    newest = is.newest;
    number_is = is.number_is;
    checks = checks_same image other same is.newest tree is.checks;
    others = λ s t checks. is.others s t (checks_same other image back s t checks);
  }

  -- the same blocks hold the same tree
  pub Holds-same : (n : ℕ) (tree : Files) → Holds blocks other n tree → Holds blocks image n tree
  Holds-same n tree is = record { stands = StandsFor-same n tree is.stands; last = λ s stands. is.last s (stands_same other image back s stands) }

-- a stop leaves what is settled
pub settled_leaves : (blocks n : ℕ) (tree : Files) (m s : MachineState) → IsSettled blocks n tree m → s.content ≡ m.content → s.pending ≡ m.pending
    → StopLeaves blocks (λ image. Holds blocks image n tree) s
settled_leaves blocks n tree m s is content pending image may chance =
    let none : s.pending ≡ [] = pending ∙ is.synced in
    let same : (k : ℕ) → image k ≡ m.content k = λ k. may k (subst (λ (ws : List PendingWrite). IsUntouched ws k) (sym none) tt) ∙ ap (λ (i : Image). i k) content in
    Holds-same blocks image m.content same n tree is.holds

-- where nothing is done, a save is under way
pub nothing_saved : (blocks n : ℕ) (tree : Files) (s : MachineState) → IsSaving blocks n tree s s
nothing_saved blocks n tree s = record { said = refl; leaves = λ old settled image may chance. inl (settled_leaves blocks n old s s settled refl refl image may chance) }
