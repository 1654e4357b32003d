-- What a checkpoint of a store leaves at each moment, and behind it.
use Rattle.std.proofs.Common.{◌≡◌, inl, inr, ℕ, suc, ◌+◌, ◌-◌, ◌*◌, ◌/◌, ◌≤◌, true, false, nat_lt, List, [], ◌∷◌, length, get_or, Option, Some, slice_index, refl, sym, ◌∙◌, ap, subst, arith}
use Rattle.std.specs.Prelude.{Contains}
use Rattle.std.specs.List.{fold}
use Rattle.std.proofs.lemmas.Bool.{lt-ltb}
use Rattle.std.proofs.lemmas.List.{get_or-map, length-map, length-replicate}
use Rattle.std.proofs.lemmas.List.FromFn.{length-map-range_with_len}
use Rattle.hl_media.specs.History.{History, Image, MachineState}
use Rattle.hl_media.specs.Moments.{Ends, Runs}
use Rattle.hl_addr.specs.Layout.{Layout, table_blocks}
use Rattle.hl_addr.proofs.SegmentLemmas.{is_in}
use Rattle.hl_bytes.specs.declared.records.TableRecord.{TableRecord}
use Rattle.hl_super.specs.declared.record.Record.{Record}
use Rattle.hl_tables.specs.Laying.{changed}
use Rattle.hl_tables.specs.TableBlocks.{table_block}
use Rattle.hl_tables.specs.Values.{TableValues}
use Rattle.hl_log.specs.declared.position.Position.{Position}
use Rattle.hl_log.specs.Free.{InOneOf}
use Rattle.hl_log.specs.Units.{Numbered}
use Rattle.hl_log.specs.Checkpoints.{Checkpoints, HasCheckpointed, restarted_at}
use Rattle.hl_log.proofs.Wraps.{runs_map}
use Rattle.hl_nodes.specs.Checkpoints.{IsCheckpointOf, after_checkpoint, contents_of_tables}
use Rattle.hl_nodes.specs.Contents.{Contents, Rests, next_tertiary}
use Rattle.hl_nodes.specs.Listing.{HasKeptListed, HoldsListed, KeepsListed, HasSameListed}
use Rattle.hl_nodes.specs.Live.{IsLive, IsNodeBlock, NodeBlock}
use Rattle.hl_nodes.specs.Live.LiveBlock.{OfNode}
use Rattle.hl_nodes.specs.Moments.{HasSameSound, IsCheckpoint, IsSoundCheckpoint}
use Rattle.hl_nodes.specs.Sound.{HasSound, IsMarked}
use Rattle.hl_nodes.specs.Tables.{raised}
use Rattle.hl_nodes.proofs.CheckpointLaws.{checkpoint_ends, old_live_kept, ready}
use Rattle.hl_nodes.proofs.Determined.{one_contents}
use Rattle.hl_nodes.proofs.LaidTables.{laid_are_tables}
use Rattle.hl_nodes.proofs.ListingLaws.{checkpoint_keeps_listed, checkpoint_kept_listed}
use Rattle.hl_nodes.proofs.RestLaws.{rests_with}
use Rattle.hl_nodes.proofs.SoundCheckpoints.{checkpoint_sound, sound_new}
use Rattle.hl_nodes.proofs.UnitLaws.{node_in_log}
use Rattle.hl_overlay.specs.Overlays.{IsWholeOverlay}
use Rattle.hl_overlaid.specs.Over.{IsOver}
use Rattle.hl_overlaid.proofs.ImageLemmas.{over_contents, over_there}
use Rattle.hl_tally.specs.Tally.{IsTally}
use Rattle.hl_tally.specs.Counting.{tables_counted}
use Rattle.hl_tally.proofs.NumberLaws.{number_none}
use Rattle.hl_tally.proofs.Segments.{in_logged, logged_within}
use Rattle.hl_tally.proofs.WrittenLaws.{checkpointed_tally}
use Rattle.hl_store.specs.Values.{IsTidy, StoreValue, layout, overlaid}
use Rattle.hl_store.specs.Shapes.{IsShaped}
use Rattle.hl_store.specs.Lying.{LiesOver}
use Rattle.hl_store.specs.Checkpointing.{GoesOnOver, HasGoneOn, HoldsSame, KeepsContents, MayGoOn, clean_of, given_of, marked, marks_of, renewed}
use Rattle.hl_store.proofs.MarkLemmas.{clean_high, clean_low, clean_none, clean_segments_are}
use Rattle.hl_store.proofs.RunPairs.{runs_both}
use Rattle.hl_store.proofs.TidyDrafts.{all_stay}

-- the segment of a block that lies in one of these
in_one : (g : Layout) (clean : List ℕ) (b : ℕ) → InOneOf g clean b → (seg : ℕ) × Contains clean seg × (b / g.k ≡ seg)
in_one g [] b none = absurd none
in_one g (seg ∷ clean) b (inl here) =
    let low = here.0 in
    let high = here.1 in
    let place : seg * g.k + (b - g.k * seg) ≡ b = omega arith in
    (seg, (0, omega arith, refl), ap (λ (n : ℕ). n / g.k) (sym place) ∙ (is_in g seg (b - g.k * seg) (omega arith)).segment_is)
in_one g (seg ∷ clean) b (inr there) =
    let other = in_one g clean b there in
    let at = other.1 in
    let lt = at.1 in
    (other.0, (suc at.0, omega arith, at.2), other.2)

-- a segment with a live number is marked
mark_of : (live : List ℕ) (seg : ℕ) → 1 ≤ seg → seg ≤ length live → (slice_index live (seg - 1) ≡ 0 → ⊥) → get_or (marks_of live) (seg - 1) false ≡ true
mark_of live seg low high some =
    get_or-map (λ (n : ℕ). nat_lt 0 n) live (seg - 1) 0 false (omega arith) ∙ lt-ltb 0 (slice_index live (seg - 1)) (omega (arith, some))

module _ {M : Type 0} (v : StoreValue M) (shaped : IsShaped v) (whole : IsWholeOverlay v.overlay) (tidy : IsTidy v) where
  abbrev t : TableValues
  t = marked v

  module _ (c : Contents) (first : MachineState) (lies : LiesOver v c first) where
    is_of : IsCheckpointOf c (given_of v) t
    is_of =
        let old = laid_are_tables (layout v) first.content c lies.rests.has in
        record {
          blocks = shaped.blocks ∙ sym old.shape.segment_size;
          inodes = lies.inodes;
          used = length-map v.tally.live (λ (n : ℕ). nat_lt 0 n) ∙ shaped.live ∙ sym (length-replicate (layout v).log false) ∙ sym old.shape.used;
          slots = lies.slots ∙ ap (λ (ns : List TableRecord). (fold changed c.tables ns).slots) tidy.1;
          number = ap (λ (r : Record). r.number) lies.rec;
          volumes = sym lies.rests.has.volumes;
          serial = lies.serial ∙ ap (λ (ns : List TableRecord). fold raised (next_tertiary c) ns) tidy.1;
        }

    module _ (may : MayGoOn v) where
      is_checkpoint : IsCheckpoint (layout v) v.log.at v.clean (given_of v) t c first
      is_checkpoint = record {
        rests = lies.rests;
        is = is_of;
        numbered = subst (λ (n : ℕ). Numbered (layout v) v.log.at v.clean n 0) (sym (length-map-range_with_len (table_block t) 0 (table_blocks (layout v)))) may.serials;
        next_number = may.number;
      }

      -- the tables mark each segment that holds a block of a node
      marks : (ino : ℕ) (block : NodeBlock) (address : ℕ) → IsNodeBlock (layout v) first.content c.tables ino block address → IsMarked t (address / (layout v).k)
      marks ino block address at =
          let within = logged_within (layout v).k (layout v).log address (in_logged (layout v) address (node_in_log (layout v) first.content c.tables ino block address at)) in
          let stays = all_stay v shaped whole tidy first.content c lies.rests.has lies.over (OfNode ino block) address at in (
            within.0,
            mark_of v.tally.live (address / (layout v).k) within.0 (subst (λ (n : ℕ). address / (layout v).k ≤ n) (sym shaped.live) within.1)
                (λ none. number_none (layout v) first.content c (overlaid v) v.tally (address / (layout v).k) lies.tally within.0 within.1 none (OfNode ino block)
                (record { address = address; lies = at; stays = stays; within = refl })),
          )

      is_sound_checkpoint : IsSoundCheckpoint (layout v) v.log.at v.clean (given_of v) t c first
      is_sound_checkpoint = record { is = is_checkpoint; sound = lies.sound; marks = marks }

      -- an image with sound contents, and with listed ones, has them both
      holds_same : (image : Image) → HasSameSound (layout v) (given_of v) t c image → HasSameListed (layout v) (given_of v) t c image → HoldsSame v c image
      holds_same image (inl sound) (inl listed) = inl (record { sound = sound; listed = listed })
      holds_same image (inr (r, next, sound)) (inr (other, more, listed)) = inr (record {
        rec = r;
        next = next;
        holds = record { sound = sound; listed = subst (HoldsListed (layout v) image) (one_contents (layout v) image (after_checkpoint c other t) (after_checkpoint c r t) listed.has sound.has) listed };
      })
      holds_same image (inl sound) (inr (other, more, listed)) = inl (record {
        sound = sound;
        listed = subst (HoldsListed (layout v) image) (one_contents (layout v) image (after_checkpoint c other t) c listed.has sound.has) listed;
      })
      holds_same image (inr (r, next, sound)) (inl listed) = inl (record {
        sound = subst (HasSound (layout v) image) (one_contents (layout v) image (after_checkpoint c r t) c sound.has listed.has) sound;
        listed = listed;
      })

  -- AT EACH MOMENT of the checkpoint
  keeps : (first s : MachineState) → Checkpoints (layout v) v.log.at v.clean (given_of v) (contents_of_tables (layout v) t) first s → KeepsListed (layout v) v.log.at v.clean (given_of v) t first s → KeepsContents v first s
  keeps first s writes listed c lies may image leaves chance =
      let of = is_sound_checkpoint c first lies may in
      let l = writes c.parts (Some c.rec) (ready (layout v) v.log.at v.clean c first lies.rests (given_of v) t of.is.is of.is.numbered of.is.next_number) image leaves chance in (
        holds_same c first lies may image
            (checkpoint_sound (layout v) v.log.at v.clean c first (given_of v) t of image l.1 l.0)
            (listed c of.is lies.listed image leaves chance),
        l.1,
      )

  pub checkpoint_runs : (before now : Option History) → Runs before now (Checkpoints (layout v) v.log.at v.clean (given_of v) (contents_of_tables (layout v) t)) → Runs before now (KeepsContents v)
  checkpoint_runs before now run =
      let g = layout v in
      let P = Checkpoints g v.log.at v.clean (given_of v) (contents_of_tables g t) in
      let Q = KeepsListed g v.log.at v.clean (given_of v) t in
      let listed = checkpoint_keeps_listed g v.log.at v.clean before now (given_of v) t run in
      runs_map before now (λ first s. P first s × Q first s) (KeepsContents v) (runs_both before now P Q run listed) (λ first s both. keeps first s both.0 both.1)

  -- BEHIND THE CHECKPOINT the log is another, on the same site
  module _ (m : M) (r : Record) (q : Position) (left : List ℕ) (at : q ≡ restarted_at r) where
    abbrev new : StoreValue M
    new = renewed v (record v { log = record { machine = m; geometry = layout v; rec = r; at = q } })

    abbrev live : List ℕ
    live = new.tally.live

    module _ (c : Contents) (first s : MachineState) (lies : LiesOver v c first) (may : MayGoOn v)
        (done : HasCheckpointed (layout v) v.log.at v.clean (given_of v) (contents_of_tables (layout v) t) q left r first s)
        (listed : HasKeptListed (layout v) v.log.at v.clean (given_of v) t r first s) where
      abbrev after : Contents
      after = after_checkpoint c r t

      of : IsSoundCheckpoint (layout v) v.log.at v.clean (given_of v) t c first
      of = is_sound_checkpoint c first lies may

      rests_behind : Rests (layout v) q left after s
      rests_behind = checkpoint_ends (layout v) v.log.at v.clean c first lies.rests (given_of v) t of.is.is of.is.numbered of.is.next_number q left r s
          (ap (λ (p : Position). p.start) at) (ap (λ (p : Position). p.first) at) done

      over_behind : IsOver (layout v) (overlaid v) s.content after
      over_behind = over_contents (layout v) s.content c after refl of.is.is.inodes of.is.is.slots (overlaid v)
          (over_there (layout v) first.content s.content c lies.rests.has
          (old_live_kept (layout v) v.log.at v.clean c first lies.rests (given_of v) t of.is.is s.content
          (done c.parts (Some c.rec) (ready (layout v) v.log.at v.clean c first lies.rests (given_of v) t of.is.is of.is.numbered of.is.next_number)).2)
          (overlaid v) lies.over)

      tally_behind : IsTally (layout v) (overlaid v) s.content after new.tally
      tally_behind = subst (λ (x : Record). IsTally (layout v) (overlaid v) s.content after (tables_counted (layout v) x.tables r.tables v.tally)) (sym lies.rec)
          (checkpointed_tally (layout v) v.log.at v.clean (given_of v) t c first of q left r s done (overlaid v) v.tally lies.tally)

      -- no live block lies in a segment that is clean now
      apart : (b : ℕ) → IsLive (layout v) s.content r t b → InOneOf (layout v) (clean_of q.head.seg live) b → ⊥
      apart b is there =
          let one = in_one (layout v) (clean_of q.head.seg live) b there in
          let seg = one.0 in
          let low = clean_low q.head.seg live seg one.1 in
          let high = subst (λ (n : ℕ). seg ≤ n) tally_behind.segments (clean_high q.head.seg live seg one.1) in
          number_none (layout v) s.content after (overlaid v) new.tally seg tally_behind low high (clean_none q.head.seg live seg one.1) is.block
          (record { address = b; lies = is.lies; stays = all_stay v shaped whole tidy s.content after rests_behind.has over_behind is.block b is.lies; within = one.2 })

      lies_behind : LiesOver new after s
      lies_behind = (
          let stands = done c.parts (Some c.rec) (ready (layout v) v.log.at v.clean c first lies.rests (given_of v) t of.is.is of.is.numbered of.is.next_number) in
          record {
            rests = rests_with (layout v) q left after s rests_behind (clean_of q.head.seg live) (clean_segments_are (layout v) q.head.seg live tally_behind.segments) (λ b none free. none) apart;
            sound = sound_new (layout v) v.log.at v.clean c first (given_of v) t of s.content stands.2 r stands.0;
            listed = (listed c of.is lies.listed).listed;
            rec = refl;
            inodes = refl;
            slots = ap (λ (ns : List TableRecord). (fold changed t ns).slots) (sym tidy.1);
            serial = sym stands.0.next.tseg_serial ∙ ap (λ (ns : List TableRecord). fold raised (next_tertiary after) ns) (sym tidy.1);
            possible = lies.possible;
            over = over_behind;
            tally = tally_behind;
          })

      gone_on : HasGoneOn v new c s
      gone_on = record {
        next = (done c.parts (Some c.rec) (ready (layout v) v.log.at v.clean c first lies.rests (given_of v) t of.is.is of.is.numbered of.is.next_number)).0.next;
        over = lies_behind;
        nodes = refl;
      }

    pub checkpoint_goes_on : (before now : Option History) → Ends before now (HasCheckpointed (layout v) v.log.at v.clean (given_of v) (contents_of_tables (layout v) t) q left r) → Ends before now (GoesOnOver v new)
    checkpoint_goes_on before now ends h e h' e' c lies may =
        gone_on c _ _ lies may (ends h e h' e') (checkpoint_kept_listed (layout v) v.log.at v.clean before now (given_of v) t q left r ends h e h' e')
