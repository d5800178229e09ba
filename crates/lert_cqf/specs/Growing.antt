-- A run that begins or grows by one remainder.
use Rattle.std.specs.Prelude.{ℕ, ◌+◌, ◌^◌, ◌<◌, ◌≤◌, Bool, List, [], ◌∷◌, ◌++◌, length}
use Rattle.lert_counter.specs.Group.{IsCount}
use Rattle.lert_runs.specs.RunText.{run_text, RemaindersAscend, count_in, pairs_plus}
use Rattle.lert_cqf.specs.{Rows.IsSpread, Around.{IsAround, total_length, HaveLengths}}

-- the rows stand for texts, and are as long as they should be
pub record Stand (n homes : ℕ) (ts : List (ℕ × List ℕ)) (slots : List ℕ) (ends used : List Bool) (spill : List ℕ) : Type 0 where
  pub spread : IsSpread n homes ts slots ends used spill
  pub lengths : HaveLengths n homes slots ends used spill

-- the run of `home` may grow by `count` more of x
pub record IsGrowing (n homes width home x count : ℕ) (slots : List ℕ) (ends used : List Bool) (spill : List ℕ) : Type 0 where
  pub before : List (ℕ × List ℕ)
  pub pairs : List (ℕ × ℕ)
  pub after : List (ℕ × List ℕ)
  pub around : IsAround n homes home before after
  pub stand : Stand n homes (before ++ (home, run_text width pairs) ∷ after) slots ends used spill
  pub ascend : RemaindersAscend 0 pairs
  pub some : 0 < length pairs
  pub fits : count_in pairs x + count ≤ 2 ^ 47
  pub room : homes + total_length (before ++ (home, run_text width (pairs_plus pairs x count)) ∷ after) ≤ n

-- a run of `home` may begin with x and its count
pub record IsBeginning (n homes width home x count : ℕ) (slots : List ℕ) (ends used : List Bool) (spill : List ℕ) : Type 0 where
  pub before : List (ℕ × List ℕ)
  pub after : List (ℕ × List ℕ)
  pub around : IsAround n homes home before after
  pub stand : Stand n homes (before ++ after) slots ends used spill
  pub fits : IsCount count
  pub room : homes + total_length (before ++ (home, run_text width ((x, count) ∷ [])) ∷ after) ≤ n

-- a run of one slot that stands at its home or behind the runs below
pub record HasBegun (n homes home : ℕ) (before after : List (ℕ × List ℕ)) (slots : List ℕ) (ends used : List Bool) (spill : List ℕ) : Type 0 where
  pub value : ℕ
  pub stand : Stand n homes (before ++ (home, value ∷ []) ∷ after) slots ends used spill
