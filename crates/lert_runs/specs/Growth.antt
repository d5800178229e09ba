-- What has to be written so that a remainder's count rises.
use Rattle.std.specs.Prelude.{ℕ, ◌+◌, ◌≡◌, ◌≤◌, List, ◌++◌, length, take, drop}
use Rattle.lert_counter.specs.Group.{group}
use Rattle.lert_runs.specs.{RunText.{run_text, count_in, pairs_below, pairs_plus, group_in}, declared.grow.Growth.Growth}

-- the text in place of the old slots gives the run with n more of x
pub record IsGrowthOf (width x n : ℕ) (run : List ℕ) (ps : List (ℕ × ℕ)) (growth : Growth) : Type 0 where
  pub start : growth.start ≡ length (run_text width (pairs_below ps x))
  pub old : growth.old ≡ length (group_in width ps x)
  pub len : growth.len ≡ length (group width x (count_in ps x + n))
  pub text : take growth.len growth.text ≡ group width x (count_in ps x + n)
  pub grown : take growth.start run ++ (take growth.len growth.text ++ drop (growth.start + growth.old) run)
      ≡ run_text width (pairs_plus ps x n)
  pub within : growth.start + growth.old ≤ length run
  pub longer : growth.old ≤ growth.len
  pub short : growth.len ≤ 9
