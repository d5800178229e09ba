-- The rows of a table, as they stand for the texts of runs.
use Rattle.std.specs.Prelude.{ℕ, ◌+◌, ◌-◌, ◌≡◌, ◌<◌, ◌≤◌, Bool, true, false, List, length, map, take, drop, replicate, slice_index, insert, remove}
use Rattle.lert_cqf.specs.{Cells.{cells, end_before}, Layout.ends_of}

-- runs of the same lengths in the same places
abbrev pub reshaped : {C D : Type 0} → (ℕ → List D) → List (ℕ × List C) → List (ℕ × List D)
reshaped f rs = map (λ (r : ℕ × List _). (r.0, f (length r.1))) rs

-- the cells of texts are used
abbrev pub used_text : ℕ → List Bool
used_text k = replicate k true

-- slots, run ends and used cells stand for these texts, and so does how far the runs below a home reach past it
pub record IsSpread (n homes : ℕ) (ts : List (ℕ × List ℕ)) (slots : List ℕ) (ends used : List Bool) (spill : List ℕ) : Type 0 where
  pub slots_are : slots ≡ cells 0 n ts
  pub ends_are : ends ≡ cells false n (reshaped ends_of ts)
  pub used_are : used ≡ cells false n (reshaped used_text ts)
  pub spill_long : length spill ≡ homes + 1
  pub spill_is : (g : ℕ) → g ≤ homes → slice_index spill g ≡ end_before 0 g ts - g

-- a gap with a value in it: what stood at `to` is lost
abbrev pub filled_gap : {C : Type 0} → List C → ℕ → ℕ → C → List C
filled_gap xs from to v = insert (remove xs to) from v

-- numbers raised by one from a place on up to another
pub record IsRaised (old new : List ℕ) (from to : ℕ) : Type 0 where
  pub long : length new ≡ length old
  pub inside : (g : ℕ) → from ≤ g → g ≤ to → g < length old → slice_index new g ≡ slice_index old g + 1
  pub below : (g : ℕ) → g < from → slice_index new g ≡ slice_index old g
  pub above : (g : ℕ) → to < g → slice_index new g ≡ slice_index old g

-- the slots between where the runs below a home end and where its own run ends
abbrev pub run_slots : ℕ → List ℕ → List ℕ → List ℕ
run_slots home slots spill = take (home + 1 + slice_index spill (home + 1) - (home + slice_index spill home)) (drop (home + slice_index spill home) slots)
