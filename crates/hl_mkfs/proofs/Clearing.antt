-- Zeros in the disk's first blocks, and in the log's.
use Rattle.std.proofs.Common.{◌≡◌, inl, ℕ, ◌-◌, ◌/◌, ◌<◌, ◌≤◌, List, [], length, Option, Result, refl, sym, ◌∙◌, ap, subst, arith}
use Rattle.std.specs.Prelude.{OnOk}
use Rattle.hl_addr.specs.Layout.{Layout}
use Rattle.hl_bytes.specs.Fields.{zeros}
use Rattle.hl_bytes.specs.Buffers.{block_of}
use Rattle.hl_media.specs.declared.failed.Failed.{Failed}
use Rattle.hl_media.specs.History.{Image, History, IsUntouched, MachineState, PendingWrite, overwritten}
use Rattle.hl_media.specs.Moments.{Ends, Runs}
use Rattle.hl_media.specs.Synced.{AddsSyncedWrite}
use Rattle.hl_media.proofs.Images.{overwritten_in, overwritten_out}
use Rattle.hl_log.proofs.Steps.{one_there, torn_after, torn_during}
use Rattle.hl_log.proofs.Wraps.{pair_ends, pair_runs}
use Rattle.hl_mkfs.specs.Stages.{IsBare, IsBlank, Leads, LeavesNoLabel}

module _ (g : Layout) (many : 64 ≤ g.k) (bytes : List ℕ) (size : length bytes ≡ 4096) (zero : bytes ≡ zeros 4096)
    (before now : Option History) (r : Result (Unit {0}) Failed) (adds : AddsSyncedWrite before now g.k bytes r) where
  untouched : (s : MachineState) → IsBare s → IsUntouched s.pending 0
  untouched s bare = subst (λ (ws : List PendingWrite). IsUntouched ws 0) (sym bare.synced) tt

  low_kept : (s : MachineState) (k : ℕ) → k ≤ 2 → overwritten s.content g.k (length bytes / 4096) bytes k ≡ s.content k
  low_kept s k low = overwritten_out s.content g.k (length bytes / 4096) bytes k (inl (omega arith))

  -- while the log's first block is cleared there is no label
  pub clear_runs : (blocks : ℕ) → Runs before now (LeavesNoLabel IsBare blocks g)
  clear_runs blocks = pair_runs before now g.k bytes r adds (LeavesNoLabel IsBare blocks g)
      (λ s bare image may chance label. may 0 (untouched s bare) ∙ bare.cleared.label)
      (λ s bare image may chance label. torn_during s g.k bytes [] image may 0 (inl (omega arith)) (untouched s bare) ∙ bare.cleared.label)
      (λ s after bare image may chance label. torn_after s g.k bytes after image may 0 (inl (omega arith)) (untouched s bare) ∙ bare.cleared.label)
      (λ s bare image may chance label. may 0 tt ∙ low_kept s 0 (omega arith) ∙ bare.cleared.label)

  pub clear_ends : OnOk r (Ends before now (Leads IsBare (IsBlank g)))
  clear_ends = pair_ends before now g.k bytes r adds (Leads IsBare (IsBlank g)) (λ s bare. record {
    bare = record {
      synced = refl;
      cleared = record {
        label = low_kept s 0 (omega arith) ∙ bare.cleared.label;
        odd = low_kept s 1 (omega arith) ∙ bare.cleared.odd;
        even = low_kept s 2 (omega arith) ∙ bare.cleared.even;
      };
    };
    log = one_there s.content g.k bytes size ∙ zero;
  })

-- the first three blocks, whatever was there
module _ (bytes : List ℕ) (size : length bytes ≡ 12288) (zero : (k : ℕ) → k < 3 → block_of bytes k ≡ zeros 4096)
    (before now : Option History) (r : Result (Unit {0}) Failed) (adds : AddsSyncedWrite before now 0 bytes r) where
  cleared : (image : Image) (k : ℕ) → k < 3 → overwritten image 0 (length bytes / 4096) bytes k ≡ zeros 4096
  cleared image k lt =
      let e : k - 0 ≡ k = omega arith in
      overwritten_in image 0 (length bytes / 4096) bytes k (omega arith) (omega arith) ∙ ap (block_of bytes) e ∙ zero k lt

  pub bare_ends : OnOk r (Ends before now (λ first s. IsBare s))
  bare_ends = pair_ends before now 0 bytes r adds (λ first s. IsBare s) (λ s. record {
    synced = refl;
    cleared = record { label = cleared s.content 0 (omega arith); odd = cleared s.content 1 (omega arith); even = cleared s.content 2 (omega arith) };
  })
