-- What the bytes say of the events of two generations.
use Rattle.std.specs.Prelude.{ℕ, ◌≤◌, List, min}
use Rattle.lert_levels.specs.{declared.bound.pair.Pair.Pair, bound.Bytes.pair_of}

-- each tail weighs in a generation at most what its byte says, unless that is 255
pub record CoversCounts (pairs : List Pair) (before present : ℕ → ℕ) : Type 0 where
  pub of_before : (tail : ℕ) → min (before tail) 255 ≤ (pair_of pairs tail).before
  pub of_present : (tail : ℕ) → min (present tail) 255 ≤ (pair_of pairs tail).present
