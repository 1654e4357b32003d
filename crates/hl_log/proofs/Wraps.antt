-- Each step as a run of calls.
use Rattle.std.proofs.Common.{◌≡◌, inl, inr, ⊎_elim, ℕ, true, false, List, [], ◌∷◌, ◌++◌, length, Option, Result, Ok, Err, OnOk, sym, ◌∙◌, ap, subst}
use Rattle.hl_media.specs.declared.failed.Failed.{Failed}
use Rattle.hl_media.specs.History.{Image, MachineState, MayLeave, History, state_now, state_after, begun, ended, DidWrite}
use Rattle.hl_media.specs.History.DeviceCall.{Write}
use Rattle.hl_media.specs.Moments.{Runs, Ends}
use Rattle.hl_media.specs.Synced.{AddsSyncedWrite}
use Rattle.hl_media.proofs.Runs.{AtEach-map, after_write, after_sync, state_after-append, ends_from, ends_then, goes_on}
use Rattle.hl_media.proofs.SyncedWrites.{each_synced_write}
use Rattle.hl_addr.specs.Layout.{Layout}
use Rattle.hl_bytes.specs.Fields.{zeros}
use Rattle.hl_bytes.proofs.PageLemmas.{length-zeros}
use Rattle.hl_summary.specs.declared.parts.Summary.{Summary}
use Rattle.hl_image.specs.declared.place.LogPlace.{LogPlace}
use Rattle.hl_image.specs.Places.{block_at}
use Rattle.hl_image.specs.Parts.{IsPartBytes, next_of}
use Rattle.hl_log.specs.declared.position.Position.{Position}
use Rattle.hl_log.specs.Rest.{Keeps, IsSame}
use Rattle.hl_log.specs.Steps.{settled, behind, KeepsChain, HeadCleared, KeepsChainTo, NextCleared, PutsPart, HasPut, AddsPart, HasAdded, AddsPiece, HasAddedPiece, own_blocks}
use Rattle.hl_log.proofs.Steps

module _ (before now : Option History) (at : ℕ) (bytes : List ℕ) (r : Result (Unit {0}) Failed) (adds : AddsSyncedWrite before now at bytes r) where
  pub pair_runs : (P : MachineState → MachineState → Type 0) → ((s : MachineState) → P s s) → ((s : MachineState) → P s (begun s (Write at bytes [])))
      → ((s : MachineState) (after : List ℕ) → P s (ended s (Write at bytes after))) → ((s : MachineState) → P s (Steps.synced s at bytes)) → Runs before now P
  pair_runs P here during after last = record {
    calls = adds.written ++ adds.synced;
    is = adds.is;
    each = λ h e. (let s = state_now h in each_synced_write before now at bytes r adds s (P s) (here s) (during s) (λ bytes size. after s bytes) (last s));
  }

-- a write and a sync that succeed
pub pair_ends : (before now : Option History) (at : ℕ) (bytes : List ℕ) (r : Result (Unit {0}) Failed) → AddsSyncedWrite before now at bytes r
    → (B : MachineState → MachineState → Type 0) → ((s : MachineState) → B s (Steps.synced s at bytes)) → OnOk r (Ends before now B)
pair_ends before now at bytes (Err e) adds B last = tt
pair_ends before now at bytes (Ok u) adds B last = ends_from before now (adds.written ++ adds.synced) adds.is B (λ h e. subst (B (state_now h)) (sym (leads (state_now h))) (last (state_now h)))
  where
    leads : (s : MachineState) → state_after s (adds.written ++ adds.synced) ≡ Steps.synced s at bytes
    leads s = ⊎_elim
        (λ none. (let e : Ok u ≡ Err (record {}) = none.2 in absurd cc))
        (λ did.
        let written : DidWrite at bytes (Ok tt) adds.written = subst (λ (x : Result (Unit {0}) Failed). DidWrite at bytes x adds.written) did.0 adds.write in
        state_after-append s adds.written adds.synced
        ∙ ap (λ (x : MachineState). state_after x adds.synced) (after_write s at bytes adds.written tt written)
        ∙ after_sync (ended s (Write at bytes bytes)) adds.synced u did.1)
        adds.sync

-- what holds of a first moment's blocks holds of a later one's
pub later_keeps : (g : Layout) (p : Position) (clean : List ℕ) (first s : MachineState) (image : Image) → IsSame g p clean first s → MayLeave s image → Keeps g p clean first image
later_keeps g p clean first s image same may k not_free untouched = may k (same.pending k untouched) ∙ same.content k not_free

-- a block of zeros
one_block : (bytes : List ℕ) → bytes ≡ zeros 4096 → length bytes ≡ 4096
one_block bytes zero = ap length zero ∙ length-zeros 4096

module _ (g : Layout) (before now : Option History) (p : Position) (bytes : List ℕ) (r : Result (Unit {0}) Failed) where
  module _ (fresh : p.fresh ≡ true) (zero : bytes ≡ zeros 4096) (adds : AddsSyncedWrite before now (block_at g p.head) bytes r) where
    one : length bytes ≡ 4096
    one = one_block bytes zero

    pub head_runs : Runs before now (KeepsChain g p)
    head_runs = pair_runs before now (block_at g p.head) bytes r adds (KeepsChain g p)
        (λ s clean parts rest. Steps.rest_leaves g p clean parts s rest)
        (λ s clean parts rest image may chance. Steps.head_leaves g p clean parts s rest fresh bytes one zero image (Steps.torn_during s (block_at g p.head) bytes [] image may) chance.0)
        (λ s after clean parts rest image may chance. Steps.head_leaves g p clean parts s rest fresh bytes one zero image (Steps.torn_after s (block_at g p.head) bytes after image may) chance.0)
        (λ s clean parts rest image may chance.
        let after = Steps.head_after g p clean parts s rest fresh bytes one zero in
        let has = (Steps.rest_leaves g (settled p) clean parts (Steps.synced s (block_at g p.head) bytes) after image may chance).0 in (
          record { beyond = has.beyond; chain = has.chain; open_ended = has.open_ended },
          later_keeps g p clean s _ image (Steps.synced_same g p clean s (block_at g p.head) bytes (Steps.head_free g p clean parts s rest fresh bytes one zero)) may,
        ))

    pub head_ends : OnOk r (Ends before now (HeadCleared g p))
    head_ends = pair_ends before now (block_at g p.head) bytes r adds (HeadCleared g p) (λ s clean parts rest.
        (Steps.head_after g p clean parts s rest fresh bytes one zero, Steps.synced_same g p clean s (block_at g p.head) bytes (Steps.head_free g p clean parts s rest fresh bytes one zero)))

  module _ (fresh : p.fresh ≡ false) (next : LogPlace) (zero : bytes ≡ zeros 4096) (adds : AddsSyncedWrite before now (block_at g next) bytes r) where
    one_too : length bytes ≡ 4096
    one_too = one_block bytes zero

    pub next_runs : Runs before now (KeepsChainTo g p next)
    next_runs = pair_runs before now (block_at g next) bytes r adds (KeepsChainTo g p next)
        (λ s n clean more parts rest goes. Steps.rest_leaves g p clean parts s rest)
        (λ s n clean more parts rest goes image may chance. Steps.next_leaves g p clean parts s rest fresh n next more goes bytes one_too zero image (Steps.torn_during s (block_at g next) bytes [] image may))
        (λ s after n clean more parts rest goes image may chance. Steps.next_leaves g p clean parts s rest fresh n next more goes bytes one_too zero image (Steps.torn_after s (block_at g next) bytes after image may))
        (λ s n clean more parts rest goes image may chance. (
          (Steps.rest_leaves g p clean parts (Steps.synced s (block_at g next) bytes) (Steps.next_after g p clean parts s rest fresh n next more goes bytes one_too zero) image may chance).0,
          later_keeps g p clean s _ image (Steps.synced_same g p clean s (block_at g next) bytes (Steps.to_free g p clean parts s rest fresh n next more goes bytes one_too zero)) may,
        ))

    pub next_ends : OnOk r (Ends before now (NextCleared g p next))
    next_ends = pair_ends before now (block_at g next) bytes r adds (NextCleared g p next) (λ s n clean more parts rest goes. (
      Steps.next_after g p clean parts s rest fresh n next more goes bytes one_too zero,
      Steps.synced_same g p clean s (block_at g next) bytes (Steps.to_free g p clean parts s rest fresh n next more goes bytes one_too zero),
      Steps.next_is_zeros g p clean parts s rest fresh n next more goes bytes one_too zero,
    ))

  module _ (fresh : p.fresh ≡ false) (next : LogPlace) (adds : AddsSyncedWrite before now (block_at g p.head) bytes r) where
    pub put_runs : Runs before now (PutsPart g p next bytes)
    put_runs = pair_runs before now (block_at g p.head) bytes r adds (PutsPart g p next bytes)
        (λ s clean more parts part rest is zero image may chance. (let l = Steps.rest_leaves g p clean parts s rest image may chance in (inl l.0, l.1)))
        (λ s clean more parts part rest is zero image may chance. Steps.put_leaves g p clean parts s rest fresh part next bytes more is zero image (Steps.torn_during s (block_at g p.head) bytes [] image may) chance.0)
        (λ s after clean more parts part rest is zero image may chance. Steps.put_leaves g p clean parts s rest fresh part next bytes more is zero image (Steps.torn_after s (block_at g p.head) bytes after image may) chance.0)
        (λ s clean more parts part rest is zero image may chance.
        let s2 = Steps.synced s (block_at g p.head) bytes in
        let has = (Steps.rest_leaves g (behind p next) more (parts ++ part ∷ []) s2 (Steps.put_after g p clean parts s rest fresh part next bytes more is zero) image may chance).0 in (
          inr (
            record { beyond = has.beyond; chain = has.chain; open_ended = has.open_ended },
            Steps.data_there g p clean parts s rest fresh part next bytes more is zero image
                (λ k lt. may _ tt ∙ Steps.put_holds g p clean parts s rest fresh part next bytes more is zero k lt),
          ),
          later_keeps g p clean s _ image (Steps.synced_same g p clean s (block_at g p.head) bytes (Steps.put_free g p clean parts s rest fresh part next bytes more is zero)) may,
        ))

    pub put_ends : OnOk r (Ends before now (HasPut g p next bytes))
    put_ends = pair_ends before now (block_at g p.head) bytes r adds (HasPut g p next bytes) (λ s clean more parts part rest is zero.
        Steps.put_stands g p clean parts s rest fresh part next bytes more is zero)

pub runs_map : (before now : Option History) (P Q : MachineState → MachineState → Type 0) → Runs before now P → ((first s : MachineState) → P first s → Q first s) → Runs before now Q
runs_map before now P Q run weaker = record {
  calls = run.calls;
  is = run.is;
  each = λ h e. AtEach-map (P _) (Q _) (weaker _) _ run.calls (run.each h e);
}

pub same_then : (g : Layout) (p : Position) (clean : List ℕ) (a b c : MachineState) → IsSame g p clean a b → IsSame g p clean b c → IsSame g p clean a c
same_then g p clean a b c x y = record {
  content = λ k nf. y.content k nf ∙ x.content k nf;
  pending = λ k un. y.pending k (x.pending k un);
}

pub keeps_then : (g : Layout) (p : Position) (clean : List ℕ) (a b : MachineState) (image : Image) → IsSame g p clean a b → Keeps g p clean b image → Keeps g p clean a image
keeps_then g p clean a b image same keeps k nf un = keeps k nf (same.pending k un) ∙ same.content k nf

-- a part, with the zeros behind it first
module _ (g : Layout) (p : Position) (next : LogPlace) (bytes : List ℕ) where
  weaken : (first s : MachineState) → KeepsChainTo g p next first s → AddsPart g p next bytes first s
  weaken first s keeps clean more parts part at_rest is image may chance = (let l = keeps (length part.blocks) clean more parts at_rest is.goes image may chance in (inl l.0, l.1))

  step : (first middle s : MachineState) → NextCleared g p next first middle → PutsPart g p next bytes middle s → AddsPart g p next bytes first s
  step first middle s cleared puts clean more parts part at_rest is image may chance =
      let c = cleared (length part.blocks) clean more parts at_rest is.goes in
      let l = puts clean more parts part c.0 is c.2 image may chance in
      (l.0, keeps_then g p clean first middle image c.1 l.1)

  pub adds_first : (before now : Option History) → Runs before now (KeepsChainTo g p next) → Runs before now (AddsPart g p next bytes)
  adds_first before now run = runs_map before now (KeepsChainTo g p next) (AddsPart g p next bytes) run weaken

  pub adds_second : (before middle now : Option History) → Runs before middle (KeepsChainTo g p next) → Ends before middle (NextCleared g p next) → Runs middle now (PutsPart g p next bytes) → Runs before now (AddsPart g p next bytes)
  adds_second before middle now run cleared puts = goes_on before middle now (AddsPart g p next bytes) (PutsPart g p next bytes) (NextCleared g p next)
      (adds_first before middle run) cleared puts step

  pub has_added : (before middle now : Option History) (r : Result (Unit {0}) Failed) → Ends before middle (NextCleared g p next) → Runs middle now (PutsPart g p next bytes) → OnOk r (Ends middle now (HasPut g p next bytes)) → OnOk r (Ends before now (HasAdded g p next bytes))
  has_added before middle now (Err e) cleared run put = tt
  has_added before middle now (Ok u) cleared run put = ends_then before middle now run.calls run.is (NextCleared g p next) (HasPut g p next bytes) (HasAdded g p next bytes) cleared put
      (λ a m s clear has clean more parts part at_rest is.
      let c = clear (length part.blocks) clean more parts at_rest is.goes in
      let h = has clean more parts part c.0 is c.2 in
      record { rest = h.rest; same = same_then g p clean a m s c.1 h.same; blocks_are = h.blocks_are; was_free = h.was_free })

-- a part of which these blocks are known
module _ (g : Layout) (p : Position) (next : LogPlace) (part : Summary) (bytes : List ℕ) (blocks : List (List ℕ)) (is : IsPartBytes g p.head p.serial bytes part) (next_is : next_of part ≡ next)
    (own : own_blocks bytes (length part.blocks) ≡ blocks) where
  piece_weaker : (first s : MachineState) → AddsPart g p next bytes first s → AddsPiece g p next part blocks first s
  piece_weaker first s adds clean more parts at_rest goes image may chance =
      let l = adds clean more parts part at_rest (record { is = is; next_is = next_is; goes = goes }) image may chance in
      (⊎_elim (λ none. inl none) (λ has. inr (has.0, has.1 ∙ own)) l.0, l.1)

  pub adds_piece : (before now : Option History) → Runs before now (AddsPart g p next bytes) → Runs before now (AddsPiece g p next part blocks)
  adds_piece before now run = runs_map before now (AddsPart g p next bytes) (AddsPiece g p next part blocks) run piece_weaker

  pub has_added_piece : (before now : Option History) (r : Result (Unit {0}) Failed) → OnOk r (Ends before now (HasAdded g p next bytes)) → OnOk r (Ends before now (HasAddedPiece g p next part blocks))
  has_added_piece before now (Err e) added = tt
  has_added_piece before now (Ok u) added = λ h e h2 e2 clean more parts at_rest goes.
      let s = added h e h2 e2 clean more parts part at_rest (record { is = is; next_is = next_is; goes = goes }) in
      record { rest = s.rest; same = s.same; blocks_are = s.blocks_are ∙ own; was_free = s.was_free }
