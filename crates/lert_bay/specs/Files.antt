-- The three files of a bay as a read gives them, and what calls make of them.
use Rattle.std.specs.Prelude.{◌≡◌, ◌≢◌, ℕ, ◌+◌, ◌-◌, ◌<◌, ◌≤◌, List, ◌++◌, length, take, drop, replicate, min, max, slice_index, Option, Some, None}
use Rattle.std.proofs.Common.{◌⊎◌}

-- the bytes of each file, by its number
abbrev pub Files : Type 0
Files = ℕ → List ℕ

-- what holds of the files, where a bay tells them
abbrev pub IfTold : Option Files → (Files → Type 0) → Type 0
IfTold told P = (seen : Files) → told ≡ Some seen → P seen

-- files that are told make this step, and are told again; files that aren't told stay untold
pub record Turns (step : Files → Files → Type 0) (before after : Option Files) : Type 0 where
  pub told : (old : Files) → before ≡ Some old → (new : Files) × (after ≡ Some new) × step old new
  pub untold : before ≡ None → after ≡ None

-- one file makes this step, and the other two stay
pub record Changes (step : List ℕ → List ℕ → Type 0) (file : ℕ) (old new : Files) : Type 0 where
  pub here : step (old file) (new file)
  pub others : (other : ℕ) → other ≢ file → new other ≡ old other

-- a file with zero bytes between its end and a place
abbrev pub padded : List ℕ → ℕ → List ℕ
padded old at = old ++ replicate {A = ℕ} (at - length old) 0

-- the new file is the old one with these bytes at this place. It grows where they reach past its end, and a gap
-- before the place is zero bytes
abbrev pub Holds : ℕ → List ℕ → List ℕ → List ℕ → Type 0
Holds at bytes old new = new ≡ take at (padded old at) ++ bytes ++ drop (at + length bytes) old

-- a place outside of the `count` bytes from `at` on
abbrev pub IsOutside : ℕ → ℕ → ℕ → Type 0
IsOutside at count place = (place < at) ⊎ (at + count ≤ place)

-- what may become of a file by a write of `count` bytes at a place that isn't sure to be whole: any bytes in its
-- range and past the file's old end, those of before elsewhere, and a length from the old one to the one asked for
pub record Torn (at count : ℕ) (old new : List ℕ) : Type 0 where
  pub no_shorter : length old ≤ length new
  pub no_longer : length new ≤ max (length old) (at + count)
  pub elsewhere : (place : ℕ) → place < length old → IsOutside at count place → slice_index new place ≡ slice_index old place

-- what a failed write leaves as a read gives it: a torn file whose gap before the place is zero bytes
pub record LeftByFailure (at count : ℕ) (old new : List ℕ) : Type 0 where
  pub torn : Torn at count old new
  pub gap : (place : ℕ) → length old ≤ place → place < at → slice_index new place ≡ 0

-- `count` bytes of a file, from `at` on, stand at the front of `into`; they are fewer than asked for exactly where
-- the file ends behind them
pub record CopiesFrom (at count : ℕ) (into bytes : List ℕ) : Type 0 where
  pub count_is : count ≡ min (length into) (length bytes - at)
  pub copied : take count into ≡ take count (drop at bytes)
