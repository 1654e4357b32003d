-- Calls that touch nothing but what lies behind the log.
use Rattle.std.proofs.Common.{◌≡◌, inl, ℕ, ◌*◌, ◌/◌, ◌<◌, ◌≤◌, true, List, [], length, Option, Result, OnOk, Ok, Err, refl, sym, ◌∙◌, subst, arith}
use Rattle.std.specs.Option.{ForSome}
use Rattle.std.proofs.lemmas.List.{take_all}
use Rattle.hl_media.specs.declared.failed.Failed.{Failed}
use Rattle.hl_media.specs.History.{Adds, DidSync, DidWrite, History, HoldsAt, MachineState, area, begun, content, ended, overwritten, state_now}
use Rattle.hl_media.specs.History.DeviceCall.{Sync, Write}
use Rattle.hl_media.specs.Moments.{Now, Runs}
use Rattle.hl_media.proofs.Runs.{after_write, each_sync, each_write, now_from}
use Rattle.hl_media.proofs.Images.{area_holds, area_overwritten, overwritten_out}
use Rattle.hl_bytes.specs.Buffers.{part_of, with_part}
use Rattle.hl_bytes.proofs.WholeParts.{whole_written}
use Rattle.hl_image.specs.Places.{log_end}
use Rattle.hl_log.specs.Logs.{LogValue, with_machine}
use Rattle.hl_log.specs.Rest.{OnlyFrom, StopLeaves}
use Rattle.hl_log.proofs.Wraps.{runs_map}
use Rattle.hl_nodes.specs.Contents.{Contents}
use Rattle.hl_nodes.specs.Lines.{line_start}
use Rattle.hl_nodes.specs.Live.{IsLive}
use Rattle.hl_nodes.proofs.ListingLaws.{rest_leaves_listed, same_listed}
use Rattle.hl_nodes.proofs.PointerLemmas.{in_log-high}
use Rattle.hl_nodes.proofs.RestLaws.{rest_leaves, rests_same}
use Rattle.hl_nodes.proofs.SoundUnits.{sound_same}
use Rattle.hl_nodes.proofs.UnitLaws.{limits, live_in_log, untouched}
use Rattle.hl_overlaid.proofs.ImageLemmas.{over_log}
use Rattle.hl_tally.proofs.ReachLaws.{log_tally}
use Rattle.hl_store.specs.Values.{StoreValue, layout, overlaid}
use Rattle.hl_store.specs.Lying.{LiesOver}
use Rattle.hl_store.specs.Finding.{on_machine}
use Rattle.hl_store.specs.Flushes.{Holds}
use Rattle.hl_store.specs.LineWrites.{LastsOver, StaysOver}

-- all blocks of a buffer
pub part_all : (bytes : List ℕ) (k : ℕ) → length bytes ≡ 4096 * k → part_of bytes 0 k ≡ bytes
unfolding part_of
part_all bytes k size = take_all (4096 * k) bytes (omega arith)

-- what a read of a whole buffer gives
pub area_read : (told : Option History) (r : Result (Unit {0}) Failed) (at k : ℕ) (bytes part : List ℕ) → length bytes ≡ 4096 * k → length part ≡ 4096 * k
    → OnOk r (ForSome told (λ h. HoldsAt (content h) at part)) → OnOk r (Now told (λ s. area s.content at k ≡ with_part bytes 0 part))
area_read told (Ok u) at k bytes part size same holds = λ h e.
    area_holds (content h) at k part same (λ i lt. holds h e i (omega arith)) ∙ sym (whole_written bytes part (same ∙ sym size))
area_read told (Err e) at k bytes part size same holds = tt

-- what reads give behind a write of a whole buffer
pub area_written : (before now : Option History) (r : Result (Unit {0}) Failed) (at k : ℕ) (bytes : List ℕ) → length bytes ≡ 4096 * k → Adds before now (DidWrite at bytes r) → OnOk r (Now now (λ s. area s.content at k ≡ bytes))
area_written before now (Ok u) at k bytes size adds =
    let count : length bytes / 4096 ≡ k = omega arith in
    now_from before now adds.calls adds.is (λ s. Unit {0}) (λ s. area s.content at k ≡ bytes) (λ h e. tt) (λ s none.
    subst (λ (t : MachineState). area t.content at k ≡ bytes) (sym (after_write s at bytes adds.calls u adds.did))
    (subst (λ n. area (overwritten s.content at (length bytes / 4096) bytes) at n ≡ bytes) count (area_overwritten s.content at bytes (omega arith))))
area_written before now (Err e) at k bytes size adds = tt

module _ {M : Type 0} where
  module _ (v : StoreValue M) (c : Contents) (s : MachineState) (lies : LiesOver v c s) where
    -- live blocks are blocks of the log
    live_low : (address : ℕ) → IsLive (layout v) s.content c.rec c.tables address → address < log_end (layout v)
    live_low address live = in_log-high (layout v) (limits (layout v) v.log.at v.clean c s lies.rests) address (live_in_log (layout v) s.content c lies.rests.has address live)

    -- a state with the same log, in which nothing is pending in the log
    pub lies_same : (t : MachineState) → OnlyFrom (log_end (layout v)) t.pending → ((k : ℕ) → k < log_end (layout v) → t.content k ≡ s.content k) → LiesOver v c t
    lies_same t quiet same = record {
      rests = rests_same (layout v) v.log.at v.clean c s lies.rests t quiet same;
      sound = sound_same (layout v) s.content t.content c (λ address live. same address (live_low address live)) lies.rests.has lies.sound;
      listed = same_listed (layout v) v.log.at v.clean c s lies.rests t.content same lies.listed;
      rec = lies.rec;
      inodes = lies.inodes;
      slots = lies.slots;
      serial = lies.serial;
      possible = lies.possible;
      over = over_log (layout v) s.content t.content c lies.rests.has same (overlaid v) lies.over;
      tally = log_tally (layout v) s.content t.content c (overlaid v) v.tally lies.rests.has same lies.tally;
    }

    -- whatever a stop leaves has the contents
    pub lies_lasts : StopLeaves (layout v) v.log.at (Holds v c) s
    lies_lasts image may chance = record {
      sound = record {
        has = rest_leaves (layout v) v.log.at v.clean c s lies.rests image may chance;
        sound = sound_same (layout v) s.content image c (λ address live. may address (untouched (layout v) v.log.at v.clean c s lies.rests address (live_low address live))) lies.rests.has lies.sound;
      };
      listed = rest_leaves_listed (layout v) v.log.at v.clean c s lies.rests lies.listed image may chance;
    }

    -- with another machine it lies over the same
    pub lies_on : (m : M) → LiesOver (on_machine v m) c s
    lies_on m = record {
      rests = lies.rests;
      sound = lies.sound;
      listed = lies.listed;
      rec = lies.rec;
      inodes = lies.inodes;
      slots = lies.slots;
      serial = lies.serial;
      possible = lies.possible;
      over = lies.over;
      tally = lies.tally;
    }

  -- what the store lies over at a moment it lies over at each later one
  abbrev StaysLying : StoreValue M → MachineState → MachineState → Type 0
  StaysLying v first s = (c : Contents) → LiesOver v c first → LiesOver v c s

  write_lies : (v : StoreValue M) (at : ℕ) (bytes : List ℕ) (r : Result (Unit {0}) Failed) (before now : Option History) → log_end (layout v) ≤ at → Adds before now (DidWrite at bytes r)
      → Runs before now (StaysLying v)
  write_lies v at bytes r before now behind adds = record {
    calls = adds.calls;
    is = adds.is;
    each = λ h e. each_write (StaysLying v (state_now h)) (state_now h) at bytes r adds.calls adds.did
        (λ c lies. lies)
        (λ c lies. lies_same v c (state_now h) lies (begun (state_now h) (Write at bytes [])) (behind, lies.rests.at_rest.quiet) (λ k lt. refl))
        (λ after size c lies. lies_same v c (state_now h) lies (ended (state_now h) (Write at bytes after)) (behind, lies.rests.at_rest.quiet)
        (λ k lt. overwritten_out (state_now h).content at (length bytes / 4096) after k (inl (omega arith))));
  }

  sync_lies : (v : StoreValue M) (r : Result (Unit {0}) Failed) (before now : Option History) → Adds before now (DidSync r) → Runs before now (StaysLying v)
  sync_lies v r before now adds = record {
    calls = adds.calls;
    is = adds.is;
    each = λ h e. each_sync (StaysLying v (state_now h)) (state_now h) r adds.calls adds.did
        (λ c lies. lies)
        (λ c lies. lies_same v c (state_now h) lies (ended (state_now h) (Sync true)) tt (λ k lt. refl));
  }

  -- so whatever a stop leaves at each moment has the contents
  lying_lasts : (v : StoreValue M) (before now : Option History) → Runs before now (StaysLying v) → Runs before now (LastsOver v)
  lying_lasts v before now run = runs_map before now (StaysLying v) (LastsOver v) run (λ first s stays c lies. lies_lasts v c s (stays c lies))

  -- and on another machine the store stays with its nodes
  lying_stays : (v : StoreValue M) (m : M) (before now : Option History) → Runs before now (StaysLying v) → Runs before now (StaysOver v (on_machine v m))
  lying_stays v m before now run = runs_map before now (StaysLying v) (StaysOver v (on_machine v m)) run (λ first s stays c lies. record { over = lies_on v c s (stays c lies) m; nodes = refl })

  module _ (history : M → Option History) (self t : StoreValue M) (l : LogValue M) (r : Result (Unit {0}) Failed) (view_is : t ≡ self) (same : l ≡ with_machine t.log l.machine) where
    -- A WRITE behind the log
    module _ (at : ℕ) (bytes : List ℕ) (behind : log_end (layout t) ≤ at) (adds : Adds (history t.log.machine) (history l.machine) (DidWrite at bytes r)) where
      pub write_lasts : Runs (history self.log.machine) (history l.machine) (LastsOver self)
      write_lasts = subst (λ (x : StoreValue M). Runs (history x.log.machine) (history l.machine) (LastsOver x)) view_is
          (lying_lasts t (history t.log.machine) (history l.machine) (write_lies t at bytes r (history t.log.machine) (history l.machine) behind adds))

      pub write_stays : Runs (history self.log.machine) (history l.machine) (StaysOver self (record t { log = l }))
      write_stays = subst (λ (x : StoreValue M). Runs (history x.log.machine) (history l.machine) (StaysOver x (record t { log = l }))) view_is
          (subst (λ (x : LogValue M). Runs (history t.log.machine) (history l.machine) (StaysOver t (record t { log = x }))) (sym same)
          (lying_stays t l.machine (history t.log.machine) (history l.machine) (write_lies t at bytes r (history t.log.machine) (history l.machine) behind adds)))

      pub write_did : (line : ℕ) (buf : List ℕ) → at ≡ line_start (layout t) line → bytes ≡ buf → Adds (history self.log.machine) (history l.machine) (DidWrite (line_start (layout self) line) buf r)
      write_did line buf at_is bytes_are = subst (λ (x : StoreValue M). Adds (history x.log.machine) (history l.machine) (DidWrite (line_start (layout x) line) buf r)) view_is
          (subst (λ (n : ℕ). Adds (history t.log.machine) (history l.machine) (DidWrite n buf r)) at_is
          (subst (λ (b : List ℕ). Adds (history t.log.machine) (history l.machine) (DidWrite at b r)) bytes_are adds))

    -- A SYNC
    module _ (adds : Adds (history t.log.machine) (history l.machine) (DidSync r)) where
      pub sync_lasts : Runs (history self.log.machine) (history l.machine) (LastsOver self)
      sync_lasts = subst (λ (x : StoreValue M). Runs (history x.log.machine) (history l.machine) (LastsOver x)) view_is
          (lying_lasts t (history t.log.machine) (history l.machine) (sync_lies t r (history t.log.machine) (history l.machine) adds))

      pub sync_stays : Runs (history self.log.machine) (history l.machine) (StaysOver self (record t { log = l }))
      sync_stays = subst (λ (x : StoreValue M). Runs (history x.log.machine) (history l.machine) (StaysOver x (record t { log = l }))) view_is
          (subst (λ (x : LogValue M). Runs (history t.log.machine) (history l.machine) (StaysOver t (record t { log = x }))) (sym same)
          (lying_stays t l.machine (history t.log.machine) (history l.machine) (sync_lies t r (history t.log.machine) (history l.machine) adds)))
