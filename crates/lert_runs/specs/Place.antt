-- Where a remainder stands in a run text.
use Rattle.std.specs.Prelude.{ℕ, ◌≡◌, List, length}
use Rattle.lert_runs.specs.{RunText.{run_text, count_in, pairs_below, group_in}, declared.place.Place.Place}

-- the group of x stands here, or would begin here if it is absent
pub record IsPlaceOf (width x : ℕ) (ps : List (ℕ × ℕ)) (place : Place) : Type 0 where
  pub start : place.start ≡ length (run_text width (pairs_below ps x))
  pub used : place.used ≡ length (group_in width ps x)
  pub count : place.count ≡ count_in ps x
