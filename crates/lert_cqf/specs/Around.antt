-- The order of runs around one, and where it may grow.
use Rattle.std.specs.Prelude.{ℕ, ◌+◌, ◌^◌, ◌≡◌, ◌<◌, ◌≤◌, Bool, List, [], ◌∷◌, ◌++◌, length, max}
use Rattle.lert_cqf.specs.{Cells.stop, Rows.IsSpread}

-- the homes ascend from `least` on, below `limit`
abbrev pub HomesAscend : {C : Type 0} → ℕ → ℕ → List (ℕ × List C) → Type 0
HomesAscend least limit [] = Unit {0}
HomesAscend least limit (r ∷ rs) = (least ≤ r.0) × (r.0 < limit) × HomesAscend (r.0 + 1) limit rs

-- the homes are all below g
abbrev pub HomesBelow : {C : Type 0} → ℕ → List (ℕ × List C) → Type 0
HomesBelow g [] = Unit {0}
HomesBelow g (r ∷ rs) = (r.0 < g) × HomesBelow g rs

-- the homes around that of q
pub record IsAround {C : Type 0} (n homes q : ℕ) (before after : List (ℕ × List C)) : Type 0 where
  pub below : HomesBelow q before
  pub above : HomesAscend (q + 1) homes after
  pub within : q < homes
  pub fits : homes ≤ n

-- the cells of all runs
abbrev pub total_length : {C : Type 0} → List (ℕ × List C) → ℕ
total_length [] = 0
total_length (r ∷ rs) = length r.1 + total_length rs

-- the rows are as long as they should be, and short enough for their numbers
pub record HaveLengths (n homes : ℕ) (slots : List ℕ) (ends used : List Bool) (spill : List ℕ) : Type 0 where
  pub slots_long : length slots ≡ n
  pub ends_long : length ends ≡ n
  pub used_long : length used ≡ n
  pub spill_long : length spill ≡ homes + 1
  pub short : n + 1 < 2 ^ 32

-- the run of `home` has a cell, and may take `extra` more behind the text u
pub record IsOpening (n homes home place last extra : ℕ) (slots : List ℕ) (ends used : List Bool) (spill : List ℕ) : Type 0 where
  pub before : List (ℕ × List ℕ)
  pub after : List (ℕ × List ℕ)
  pub front : List ℕ
  pub back : List ℕ
  pub around : IsAround n homes home before after
  pub spread : IsSpread n homes (before ++ (home, front ++ back) ∷ after) slots ends used spill
  pub lengths : HaveLengths n homes slots ends used spill
  pub place_is : place ≡ max (stop 0 before) home + length front
  pub last_is : last + 1 ≡ max (stop 0 before) home + length (front ++ back)
  pub some : 0 < length (front ++ back)
  pub room : homes + total_length (before ++ (home, front ++ back) ∷ after) + extra ≤ n

-- the run of `home` has taken so many cells between two parts of its text
pub record IsWidened (n homes home count : ℕ) (before after : List (ℕ × List ℕ)) (front back : List ℕ) (slots : List ℕ) (ends used : List Bool) (spill : List ℕ) : Type 0 where
  pub added : List ℕ
  pub added_long : length added ≡ count
  pub spread : IsSpread n homes (before ++ (home, front ++ (added ++ back)) ∷ after) slots ends used spill
  pub lengths : HaveLengths n homes slots ends used spill
