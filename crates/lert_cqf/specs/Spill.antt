-- Numbers that have a part of their own and one in common with their block of 64.
use Rattle.std.specs.Prelude.{ℕ, ◌+◌, ◌/◌, ◌≡◌, ◌<◌, ◌≤◌, List, [], ◌∷◌, length, slice_index}

-- the sums of both parts, from a place on
abbrev pub sums_from : ℕ → List ℕ → List ℕ → List ℕ
sums_from place [] common = []
sums_from place (n ∷ own) common = (n + slice_index common (place / 64)) ∷ sums_from (place + 1) own common

abbrev pub sums : List ℕ → List ℕ → List ℕ
sums own common = sums_from 0 own common

-- numbers raised by one from a place on, before an end
pub record IsRaisedTo (old new : List ℕ) (from end : ℕ) : Type 0 where
  pub long : length new ≡ length old
  pub inside : (g : ℕ) → from ≤ g → g < end → slice_index new g ≡ slice_index old g + 1
  pub below : (g : ℕ) → g < from → slice_index new g ≡ slice_index old g
  pub above : (g : ℕ) → end ≤ g → slice_index new g ≡ slice_index old g

-- sums raised by one from a place on up to another
pub record AreRaised (own common own_new common_new : List ℕ) (from to : ℕ) : Type 0 where
  pub own_long : length own_new ≡ length own
  pub common_long : length common_new ≡ length common
  pub inside : (g : ℕ) → from ≤ g → g ≤ to → slice_index own_new g + slice_index common_new (g / 64) ≡ slice_index own g + slice_index common (g / 64) + 1
  pub below : (g : ℕ) → g < from → slice_index own_new g + slice_index common_new (g / 64) ≡ slice_index own g + slice_index common (g / 64)
  pub above : (g : ℕ) → to < g → slice_index own_new g + slice_index common_new (g / 64) ≡ slice_index own g + slice_index common (g / 64)
