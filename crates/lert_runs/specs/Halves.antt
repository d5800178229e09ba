-- Where a walk to a remainder may begin.
use Rattle.std.specs.Prelude.{ℕ, ◌≡◌, List, ◌++◌, length}
use Rattle.lert_runs.specs.RunText.{run_text, RemaindersBelow}

-- whole groups stand before the place, all of them of remainders below x
pub record IsBefore (width x : ℕ) (ps : List (ℕ × ℕ)) (place : ℕ) : Type 0 where
  pub below : List (ℕ × ℕ)
  pub rest : List (ℕ × ℕ)
  pub split : ps ≡ below ++ rest
  pub place_is : place ≡ length (run_text width below)
  pub less : RemaindersBelow x below
