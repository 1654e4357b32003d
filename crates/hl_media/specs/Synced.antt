-- A write and its sync.
use Rattle.std.specs.Prelude.{◌≡◌, ◌⊎◌, ℕ, List, [], ◌++◌, Option, Result, Ok, Err}
use Rattle.hl_media.specs.declared.failed.Failed.{Failed}
use Rattle.hl_media.specs.History.{DeviceCall, History, with_calls, DidWrite, DidSync}

-- the write failed, or it was done and the sync gave the result
pub record AddsSyncedWrite (before now : Option History) (at : ℕ) (bytes : List ℕ) (result : Result (Unit {0}) Failed) : Type 0 where
  pub written : List DeviceCall
  pub synced : List DeviceCall
  pub is : now ≡ with_calls (written ++ synced) before
  pub write_result : Result (Unit {0}) Failed
  pub write : DidWrite at bytes write_result written
  pub sync : ((synced ≡ []) × (write_result ≡ result) × (result ≡ Err record {})) ⊎ ((write_result ≡ Ok tt) × DidSync result synced)
