-- Faults: when a count of faults rose, and what a failed call has to show.
use Rattle.std.specs.Prelude.{◌≡◌, ℕ, ◌<◌, ◌≤◌, Result, IsErr}

-- the last value of a count of faults
abbrev pub last_count : ℕ
last_count = 18446744073709551615

-- a count rose from one moment to a later one; a count that stands at its last value counts as risen
abbrev pub HasRisen : ℕ → ℕ → Type 0
HasRisen before now = before < last_count → before < now

-- no fault was counted from one moment to a later one
pub record IsFaultless (before now : ℕ) : Type 0 where
  pub same : now ≡ before
  pub below_last : before < last_count

-- a count never falls, and a call fails only where it rose
pub record HasCause {T E : Type 0} (before now : ℕ) (result : Result T E) : Type 0 where
  pub never_falls : before ≤ now
  pub failed : IsErr result → HasRisen before now
