use Rattle.std.specs.Prelude.{◌≡◌, ℕ, ◌<◌, length, slice_index}
use Rattle.hl_media.specs.History.{Image}
use Rattle.hl_nodes.specs.Pointers.{pointer_of}
use Rattle.hl_survey.specs.Surveys.{IsPointer}
use Rattle.hl_survey.specs.Pointing.{HasBlock}
use Rattle.hl_survey.proofs.pointers.pointers_of.Given as goal

abbrev pub invariant-pointers : goal.invariant-pointers
invariant-pointers l = record {
  count : length l.pointers.items ≡ l.i;
  are : (image : Image) → HasBlock image l.inode l.block → (k : ℕ) → k < l.i → slice_index l.pointers.items k ≡ pointer_of image l.inode k;
  may : (k : ℕ) → k < l.i → IsPointer l.geometry l.tables.slots l.inode.kind (slice_index l.pointers.items k);
}
