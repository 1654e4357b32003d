-- The log stays at rest while others use its machine.
use Rattle.std.proofs.Common.{◌≡◌, inl, ℕ, ◌+◌, ◌/◌, ◌<◌, ◌≤◌, Bool, true, false, List, [], ◌∷◌, ◌++◌, length, take, Option, Result, refl, sym, ◌∙◌, ap, subst, arith}
use Rattle.hl_media.specs.declared.failed.Failed.{Failed}
use Rattle.hl_media.specs.History.{Image, MachineState, History, begun, ended, state_now, Adds, DidRead, DidWrite, DidSync, DidSay}
use Rattle.hl_media.specs.History.DeviceCall.{Write, Sync, Say}
use Rattle.hl_media.specs.Moments.{Runs, Now}
use Rattle.hl_media.proofs.Runs.{each_read, each_write, each_sync, each_say}
use Rattle.hl_media.proofs.Images.{overwritten_out}
use Rattle.hl_addr.specs.Layout.{Layout}
use Rattle.hl_summary.specs.declared.parts.Summary.{Summary}
use Rattle.hl_image.specs.declared.place.LogPlace.{LogPlace}
use Rattle.hl_image.specs.Places.{block_at, log_end}
use Rattle.hl_image.specs.Parts.{next_of}
use Rattle.hl_image.specs.Chain.{IsChain, cut, Walk, Covers}
use Rattle.hl_image.proofs.ChainLemmas.{splits, cut_cut, covers_in_log, walk_covered, chain_same}
use Rattle.hl_log.specs.declared.position.Position.{Position}
use Rattle.hl_log.specs.Free.{IsFree, AreClean}
use Rattle.hl_log.specs.Rest.{OnlyFrom, AtHead, IsAtRest, Stays}
use Rattle.hl_log.specs.Logs.{Opens}
use Rattle.hl_log.proofs.Steps.{head_in_log}

-- a state with the same log
pub rest_same : (g : Layout) (p : Position) (clean : List ℕ) (parts : List Summary) (s t : MachineState) → IsAtRest g p clean parts s → OnlyFrom (log_end g) t.pending → ((k : ℕ) → k < log_end g → t.content k ≡ s.content k) → IsAtRest g p clean parts t
rest_same g p clean parts s t rest quiet same = record {
  quiet = quiet;
  start = rest.start;
  head = rest.head;
  cleans = rest.cleans;
  walk = walk_covered g s.content t.content p.start p.first parts (λ k c. same k (covers_in_log g s.content p.start p.first parts rest.start rest.walk k c)) rest.walk;
  head_is = rest.head_is;
  serial_is = rest.serial_is;
  behind = rest.behind;
  at_head = by_fresh p.fresh rest.at_head;
}
  where
    by_fresh : (b : Bool) → AtHead g p parts s.content b → AtHead g p parts t.content b
    by_fresh true at_head = (at_head.0, chain_same g s.content t.content p.start p.first (parts ++ at_head.0) rest.start same at_head.1, at_head.2, at_head.3)
    by_fresh false at_head = same (block_at g p.head) (head_in_log g p clean parts s rest) ∙ at_head

-- other segments may be clean for the next unit
pub with_clean : (g : Layout) (p : Position) (clean more : List ℕ) (parts : List Summary) (s : MachineState) → IsAtRest g p clean parts s → AreClean g p.head.seg more
    → ((b : ℕ) → Covers g p.start parts b → IsFree g p.head more b → ⊥) → IsAtRest g p more parts s
with_clean g p clean more parts s rest cleans behind = record {
  quiet = rest.quiet;
  start = rest.start;
  head = rest.head;
  cleans = cleans;
  walk = rest.walk;
  head_is = rest.head_is;
  serial_is = rest.serial_is;
  behind = behind;
  at_head = rest.at_head;
}

-- the front of a walk
pub walk_front : (g : Layout) (a : Image) (at : LogPlace) (serial : ℕ) (ps qs : List Summary) → Walk g a at serial (ps ++ qs) → Walk g a at serial ps
walk_front g a at serial [] qs walk = tt
walk_front g a at serial (p ∷ ps) qs walk = (walk.0, walk_front g a (next_of p) (serial + 1) ps qs walk.1)

module _ (g : Layout) (p : Position) where
  stays_begun : (s : MachineState) (at : ℕ) (bytes after : List ℕ) → log_end g ≤ at → Stays g p s (begun s (Write at bytes after))
  stays_begun s at bytes after behind clean parts rest = rest_same g p clean parts s (begun s (Write at bytes after)) rest (behind, rest.quiet) (λ k lt. refl)

  stays_written : (s : MachineState) (at : ℕ) (bytes after : List ℕ) → log_end g ≤ at → Stays g p s (ended s (Write at bytes after))
  stays_written s at bytes after behind clean parts rest = rest_same g p clean parts s (ended s (Write at bytes after)) rest (behind, rest.quiet)
      (λ k lt. overwritten_out s.content at (length bytes / 4096) after k (inl (omega arith)))

  stays_synced : (s : MachineState) → Stays g p s (ended s (Sync true))
  stays_synced s clean parts rest = rest_same g p clean parts s (ended s (Sync true)) rest tt (λ k lt. refl)

  stays_said : (s : MachineState) (bytes : List ℕ) → Stays g p s (ended s (Say bytes))
  stays_said s bytes clean parts rest = rest_same g p clean parts s (ended s (Say bytes)) rest rest.quiet (λ k lt. refl)

  module _ (before now : Option History) (r : Result (Unit {0}) Failed) where
    pub read_stays : Adds before now (DidRead r) → Runs before now (Stays g p)
    read_stays adds = record { calls = adds.calls; is = adds.is; each = λ h e. each_read (Stays g p (state_now h)) (state_now h) r adds.calls adds.did (λ clean parts rest. rest) }

    pub write_stays : (at : ℕ) (bytes : List ℕ) → log_end g ≤ at → Adds before now (DidWrite at bytes r) → Runs before now (Stays g p)
    write_stays at bytes behind adds = record {
      calls = adds.calls;
      is = adds.is;
      each = λ h e. (let s = state_now h in each_write (Stays g p s) s at bytes r adds.calls adds.did (λ clean parts rest. rest) (stays_begun s at bytes [] behind) (λ after size. stays_written s at bytes after behind));
    }

    pub sync_stays : Adds before now (DidSync r) → Runs before now (Stays g p)
    sync_stays adds = record { calls = adds.calls; is = adds.is; each = λ h e. (let s = state_now h in each_sync (Stays g p s) s r adds.calls adds.did (λ clean parts rest. rest) (stays_synced s)) }

    pub say_stays : (bytes : List ℕ) → Adds before now (DidSay bytes r) → Runs before now (Stays g p)
    say_stays bytes adds = record {
      calls = adds.calls;
      is = adds.is;
      each = λ h e. (let s = state_now h in each_say (Stays g p s) s bytes r adds.calls adds.did (λ clean parts rest. rest) (stays_said s bytes) (λ n. stays_said s (take n bytes)));
    }

  -- a log that is opened behind the cut chain is at rest
  opens : p.fresh ≡ true → (s : MachineState) → Opens g p s
  opens fresh s clean parts is =
      let all = splits is.chain.all in
      let closed : all.closed ≡ parts = sym all.cut_is ∙ is.chain.is in
      let whole : is.chain.all ≡ parts ++ all.beyond = all.is ∙ ap (λ (l : List Summary). l ++ all.beyond) closed in
      let chain : IsChain g s.content p.start p.first (parts ++ all.beyond) = subst (λ (l : List Summary). IsChain g s.content p.start p.first l) whole is.chain.chain in
      record {
        quiet = is.quiet;
        start = is.start;
        head = is.head;
        cleans = is.cleans;
        walk = walk_front g s.content p.start p.first parts all.beyond chain.walk;
        head_is = is.head_is;
        serial_is = is.serial_is;
        behind = is.behind;
        at_head = subst (AtHead g p parts s.content) (sym fresh) (all.beyond, chain, all.open_ended, ap cut (sym is.chain.is) ∙ cut_cut is.chain.all ∙ is.chain.is);
      }

  pub opens_now : p.fresh ≡ true → (told : Option History) → Now told (Opens g p)
  opens_now fresh told h e = opens fresh (state_now h)
