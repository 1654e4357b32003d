use Rattle.hl_paths.proofs.Free.{lowest_free-first, lowest_free-no}
use Rattle.hl_paths.proofs.the_lowest_free_number_is_free.Goals as goal

pub returns : goal.returns
returns c = record {
  some = λ nodes most number e.
      let first = lowest_free-first nodes most number e in
      record { free = first.0; from_one = first.1; within = first.2; lowest = first.3 };
  none = λ nodes most e. lowest_free-no nodes most e;
}
