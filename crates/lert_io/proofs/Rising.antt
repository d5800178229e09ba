-- Counts of faults over several calls.
use Rattle.std.proofs.{Common.{◌≡◌, ℕ, ◌+◌, ◌≤◌, min, arith, inl, inr}, lemmas.Bool.cases_lt}
use Rattle.lert_io.specs.Fault.{HasRisen, last_count}

-- a count that rose in a call rose since an earlier moment
pub risen_since : (first before now : ℕ) → first ≤ before → before ≤ now → HasRisen before now → HasRisen first now
risen_since first before now early later rose below = elim (cases_lt before last_count) [
  | inl under ↦ omega (arith, early, rose under)
  | inr over ↦ omega (arith, below, over, later)
]

-- and has risen at each later moment
pub risen_then : (first middle last : ℕ) → middle ≤ last → HasRisen first middle → HasRisen first last
risen_then first middle last later rose below = omega (arith, later, rose below)

-- a count that rises by one up to its last value
pub risen_once : (before now : ℕ) → now ≡ min (before + 1) last_count → HasRisen before now
risen_once before now is below = omega (arith, is, below)
