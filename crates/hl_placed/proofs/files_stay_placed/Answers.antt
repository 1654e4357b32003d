use Rattle.hl_placed.specs.Laws.{HasAway}
use Rattle.hl_placed.proofs.Kept.{ArePlaced-placed_after, aways-placed_after}
use Rattle.hl_placed.proofs.files_stay_placed.Goals as goal

pub returns : goal.returns
returns c = record {
  placed = λ limits shelf placed are is now call. ArePlaced-placed_after limits shelf placed are is now call;
  away = λ limits shelf placed are is now call. aways-placed_after limits shelf placed are is (HasAway placed)
      (λ path file there i serial position e. (path, file, i, there, e)) now call;
}
