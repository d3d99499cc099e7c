-- When a call of an outside object may fail: only if the object's fault count rose in that call.
use Rattle.std.specs.Prelude.{◌≡◌, ◌+◌, ◌-◌, ◌^◌, ◌<◌, ◌≤◌, min, ℕ, Result, OnOk, OnErr}

-- One more; a count stays at its greatest value, 2^64 - 1.
abbrev pub counted_on : ℕ → ℕ
counted_on count = min (count + 1) (2 ^ 64 - 1)

-- The count rose, or is at its greatest value.
abbrev pub Rose : ℕ → ℕ → Type 0
Rose before now = counted_on before ≤ now

-- The count never falls. It stays if the call succeeded, and rose if it failed.
pub record HasCause {T E : Type 0} (before now : ℕ) (result : Result T E) : Type 0 where
  pub later : before ≤ now
  pub same : OnOk result (now ≡ before)
  pub failed : OnErr result (Rose before now)

-- No call failed: the count did not rise, and is not at its greatest value.
pub record IsUnfailed (before now : ℕ) : Type 0 where
  pub same : now ≡ before
  pub below : before < 2 ^ 64 - 1
