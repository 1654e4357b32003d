-- What is read at an address.
use Rattle.std.proofs.Common.{◌≡◌, inl, inr, ℕ, zero, suc, ◌+◌, ◌*◌, ◌/◌, ◌<◌, ◌≤◌, List, Option, Some, sym, ◌∙◌, ap, subst, arith}
use Rattle.std.proofs.Math.Nat.{mul-le-mul_left}
use Rattle.hl_media.specs.History.{History, state_now}
use Rattle.hl_media.specs.Moments.{Now}
use Rattle.hl_addr.specs.Layout.{Layout}
use Rattle.hl_addr.proofs.SegmentLemmas.{address_is}
use Rattle.hl_addr.specs.Place.{IsAt}
use Rattle.hl_addr.specs.declared.place.Place.TheVariants.{Line}
use Rattle.hl_image.specs.Places.{InLog}
use Rattle.hl_lines.specs.Lines.{line_with}
use Rattle.hl_lines.specs.LineTable.{Lines}
use Rattle.hl_log.specs.Logs.{site_blocks}
use Rattle.hl_nodes.specs.Lines.{line_start}
use Rattle.hl_store.specs.Reading.{IsInSlot, StandsAt}

-- an address in a segment below a number of them
below_end : (k a n : ℕ) → 0 < k → a / k < n → a < n * k
below_end k a n some high =
    let more : k * (a / k + 1) ≤ k * n = mul-le-mul_left k (omega arith) in
    omega arith

in_segments : (k a segment n : ℕ) → a / k ≡ segment → 1 ≤ segment → segment < n → a < n * k
in_segments zero a segment n is low high = absurd (omega arith)
in_segments (suc k) a segment n is low high = below_end (suc k) a n (omega arith) (subst (λ x. x < n) (sym is) high)

-- a block of the log is one of the site
pub log_within : (g : Layout) (at addr : ℕ) → at ≡ addr → InLog g addr → at < site_blocks g
log_within g at addr is lies = (let p = lies.place in subst (λ n. n < site_blocks g) (sym is) (in_segments g.k addr lies.segment (1 + g.log + g.lines) p.2.segment_is p.0 (omega arith)))

-- and so is one of a line
pub line_within : (g : Layout) (at addr line block : ℕ) → at ≡ addr → IsAt g addr (Line line block) → at < site_blocks g
line_within g at addr line block is lies = subst (λ n. n < site_blocks g) (sym is) (in_segments g.k addr (g.log + 1 + line) (1 + g.log + g.lines) lies.1.segment_is (omega arith) (let low = lies.0 in omega arith))

-- the address of a block of a line
line_at : (g : Layout) (addr line block : ℕ) → IsAt g addr (Line line block) → addr ≡ line_start g line + block
line_at g addr line block lies = address_is g addr (g.log + 1 + line) block lies.1 ∙ omega arith

module _ (told : Option History) (g : Layout) (lines : Lines) (addr at : ℕ) (out : List ℕ) where
  -- it is the log's
  pub log_stands : at ≡ addr → InLog g addr → Now told (λ s. s.content at ≡ out) → Now told (λ s. StandsAt g lines s addr out)
  log_stands is lies reads h e = inl (lies, ap (state_now h).content (sym is) ∙ reads h e)

  -- it is a line's
  pub line_stands : (tseg line block own : ℕ) → IsInSlot g addr tseg block → Some line ≡ line_with lines.states tseg → at ≡ own → IsAt g own (Line line block) → Now told (λ s. s.content at ≡ out) → Now told (λ s. StandsAt g lines s addr out)
  line_stands tseg line block own lies held is at_line reads h e = inr (record {
    tseg = tseg;
    block = block;
    lies = lies;
    line = line;
    held = sym held;
    bytes_are = ap (state_now h).content (sym (is ∙ line_at g own line block at_line)) ∙ reads h e;
  })
