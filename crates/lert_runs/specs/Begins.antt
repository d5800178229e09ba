-- Where the slots around a place tell that no group is cut there.
use Rattle.std.specs.Prelude.{ℕ, ◌+◌, ◌-◌, ◌≡◌, ◌≢◌, ◌<◌, ◌≤◌, ◌⊎◌, List, ◌++◌, length, slice_index}
use Rattle.lert_counter.specs.Group.{group, IsCount}

-- a slot is greater than the one before it, which isn't 0, and isn't the one before that
pub record Rises (run : List ℕ) (at : ℕ) : Type 0 where
  pub positive : 0 < slice_index run (at - 1)
  pub greater : slice_index run (at - 1) < slice_index run at
  pub other : slice_index run (at - 2) ≢ slice_index run at

-- the slot at i is above 0, and the next is greater, or it stands again before `at`
pub record IsClosed (run : List ℕ) (i at : ℕ) : Type 0 where
  pub positive : 0 < slice_index run i
  pub closed : (slice_index run i < slice_index run (i + 1)) ⊎ ((k : ℕ) × (i + 1 ≤ k) × (k < at) × (slice_index run k ≡ slice_index run i))

-- wherever a group stands in the slots, it ends before this place or begins behind it
abbrev pub IsUncut : ℕ → List ℕ → ℕ → Type 0
IsUncut width run at = (front : List ℕ) (x c : ℕ) (back : List ℕ) → IsCount c → run ≡ front ++ (group width x c ++ back)
    → (at ≤ length front) ⊎ (length front + length (group width x c) ≤ at)
