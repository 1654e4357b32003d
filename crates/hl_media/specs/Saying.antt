-- Calls that only say.
use Rattle.std.specs.Prelude.{◌≡◌, ℕ, List, ◌++◌, map, Option}
use Rattle.std.specs.List.{concat}
use Rattle.hl_media.specs.History.{History, with_calls}
use Rattle.hl_media.specs.History.DeviceCall.{Say}

-- Nothing but saying has been done since: these pieces, one after another, are the text.
pub record Says (before now : Option History) (text : List ℕ) : Type 0 where
  pub pieces : List (List ℕ)
  pub is : now ≡ with_calls (map Say pieces) before
  pub whole : concat pieces ≡ text

-- some first part of the text is said, and nothing else is done
pub record SaysSome (before now : Option History) (text : List ℕ) : Type 0 where
  pub part : List ℕ
  pub rest : List ℕ
  pub cut : text ≡ part ++ rest
  pub says : Says before now part

-- nothing but saying is done
abbrev pub OnlySays : Option History → Option History → Type 0
OnlySays before now = (text : List ℕ) × Says before now text
