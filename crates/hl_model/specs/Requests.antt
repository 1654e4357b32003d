-- Requests for segments.
use Rattle.std.specs.Prelude.{ℕ, true, false, ◌&&◌, ◌==◌, not, if◌then◌else◌, List, [], ◌∷◌, ◌++◌, filter, map, find, ok_or, Some, None, Ok, is_some}
use Rattle.hl_addr.specs.Layout.{Layout}
use Rattle.hl_tree.specs.Refusals.{◌>>=◌}
use Rattle.hl_model.specs.Answers as answers
use Rattle.hl_model.specs.Begins.{needs_no_fetch}
use Rattle.hl_model.specs.Site.{SiteState, Request, RequestOutcome, Bound, next}
use Rattle.hl_model.specs.Ruled.{Ruled}

module _ (g : Layout) (s : SiteState) where
  abbrev pub changed_request : ℕ → (Request → Request) → SiteState
  changed_request number change = record s { requests = map (λ request. if request.number == number then change request else request) s.requests }

  unfoldable pub post : ℕ → List ℕ → Ruled
  post t keep = Ok (
    answers.Posted s.next_request,
    record s {
      requests = s.requests ++ (record { number = s.next_request; tseg = t; keep = keep; given = false; settled = false; noted = None; outcome = None }) ∷ [];
      next_request = next s.next_request;
    },
  )

  -- the oldest that wasn't given
  unfoldable pub next_one : Ruled
  next_one = do
    request ← ok_or (find (λ request. not request.given) s.requests) answers.NoneLeft
    Ok (answers.Request request.number request.tseg request.keep, changed_request request.number (λ request. record request { given = true }))

  abbrev pub settled_with : ℕ → RequestOutcome → Ruled
  settled_with number how = Ok (answers.Settled how, changed_request number (λ request. record request { settled = true; outcome = Some how }))

  unfoldable pub settle : ℕ → Ruled
  settle number = do
    request ← ok_or (find (λ request. request.number == number && (request.given && not request.settled)) s.requests) answers.NoneLeft
    if needs_no_fetch g s request.tseg then settled_with number Bound else (do
      how ← ok_or request.noted answers.Waiting
      settled_with number how)

  -- the outcome is told once, and the request is gone with it
  abbrev pub told_request : Request → RequestOutcome → Ruled
  told_request request how = Ok (
    answers.Settled how,
    record s { requests = filter (λ other. not (other.number == request.number)) s.requests },
  )

  unfoldable pub look : ℕ → Ruled
  look number = do
    request ← ok_or (find (λ request. request.number == number && is_some request.outcome) s.requests) answers.Waiting
    how ← ok_or request.outcome answers.Waiting
    told_request request how
