use Rattle.hl_model.proofs.CacheStep.{step_keeps_cache}
use Rattle.hl_model.proofs.Exact.{fetch_finds_line, job_not_stale, mounted_cache, one_line_of}
use Rattle.hl_model.proofs.lines_slots_and_jobs_agree.Goals as goal

pub returns : goal.returns
returns c = record {
  mounted = λ g tree tables counts are long. mounted_cache g tree tables counts are long;
  kept = λ g shelf mid before event answer after cache allowed room runs step. step_keeps_cache g shelf mid before event after cache allowed room runs answer step;
  one_line = λ g s cache line other t e f. one_line_of g s cache line other t e f;
  found = λ g s cache many t keep few e. fetch_finds_line g s cache many t keep few e;
  fresh = λ g s cache log shelf job back e. job_not_stale g s cache job back e;
}
