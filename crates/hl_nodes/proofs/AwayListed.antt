-- The records of away blocks stay where their segments stay.
use Rattle.std.proofs.Common.{◌≡◌, ℕ, suc, List, [], ◌∷◌, get_or, refl, sym, ◌∙◌, ap, subst}
use Rattle.std.specs.Prelude.{Option, unwrap_or}
use Rattle.std.specs.FinMap.{insert}
use Rattle.hl_media.specs.History.{Image}
use Rattle.hl_addr.specs.Layout.{Layout}
use Rattle.hl_tseg.specs.declared.slot.Slot.{Slot}
use Rattle.hl_tseg.specs.declared.slot.Slot.TheVariants.{Free, Staged, Home, Spoilt}
use Rattle.hl_placed.specs.Blocks.{Shelf}
use Rattle.hl_paths.specs.Nodes.{Nodes}
use Rattle.hl_nodes.specs.Live.{record_of}
use Rattle.hl_nodes.specs.Live.NodeBlock.{Content}
use Rattle.hl_nodes.specs.Lines.{line_bytes, with_staged}
use Rattle.hl_nodes.specs.Contents.{Contents}
use Rattle.hl_nodes.specs.AwayListing.{HasSegmentRecord, AreAwayListed, HoldsAwayListed, SameLines, KeepsAway}

-- the shelf with staged segments is that of their lines
staged_same : (g : Layout) (a b : Image) (shelf : Shelf) (slots : List Slot) → ((n line serial : ℕ) → get_or slots n Free ≡ Staged line serial → line_bytes g b line ≡ line_bytes g a line) → with_staged g b shelf slots ≡ with_staged g a shelf slots
staged_same g a b shelf [] same = refl
staged_same g a b shelf (Staged line serial ∷ slots) same =
    ap (λ (s : Shelf). insert s serial (line_bytes g b line)) (staged_same g a b shelf slots (λ n. same (suc n)))
    ∙ ap (λ (bytes : List ℕ). insert (with_staged g a shelf slots) serial bytes) (same 0 line serial refl)
staged_same g a b shelf (Home serial ∷ slots) same = staged_same g a b shelf slots (λ n. same (suc n))
staged_same g a b shelf (Free ∷ slots) same = staged_same g a b shelf slots (λ n. same (suc n))
staged_same g a b shelf (Spoilt ∷ slots) same = staged_same g a b shelf slots (λ n. same (suc n))

pub same_lines : (g : Layout) (a b : Image) (shelf : Shelf) (c : Contents) → SameLines g a b c.tables.slots → HoldsAwayListed g a shelf c → HoldsAwayListed g b shelf c
same_lines g a b shelf c same held = subst (λ (s : Shelf). AreAwayListed g.k s c.nodes) (sym (staged_same g a b shelf c.tables.slots.slots same)) held

pub kept_away : (k : ℕ) (shelf other : Shelf) (before after : Nodes) → KeepsAway shelf other before after → AreAwayListed k shelf before → AreAwayListed k other after
kept_away k shelf other before after keeps held ino i serial position node there at =
    let was = keeps ino i serial position node there at in
    subst (λ (o : Option (List ℕ)). HasSegmentRecord k (unwrap_or o []) serial position (record_of ino (Content i))) (sym was.3) (held ino i serial position was.0 was.1 was.2)
