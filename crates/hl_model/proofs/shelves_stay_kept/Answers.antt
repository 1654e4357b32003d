use Rattle.hl_model.specs.Laws.{Passes}
use Rattle.hl_model.proofs.Keeping.{keeps_shelf}
use Rattle.hl_model.proofs.shelves_stay_kept.Goals as goal

pub returns : goal.returns
returns c = λ g shelf s log event answer new may may_after before after segment buffer jobs jobs_after cache room allowed held brings keeps told follow jobs_follow.
    keeps_shelf g shelf s cache room (Passes may) (Passes may_after) before after segment buffer jobs jobs_after held keeps log event allowed brings answer new told follow jobs_follow
