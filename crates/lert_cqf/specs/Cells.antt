-- Runs laid out in a row of cells: each begins at its home, or right behind the run before it.
use Rattle.std.specs.Prelude.{ℕ, ◌+◌, ◌-◌, List, [], ◌∷◌, ◌++◌, length, replicate, nat_lt, if◌then◌else◌, max}

-- the cells from `at` on, n of them in all, with z where no run stands
abbrev pub cells_from : {C : Type 0} → C → ℕ → ℕ → List (ℕ × List C) → List C
cells_from z n at [] = replicate (n - at) z
cells_from z n at (r ∷ rs) = replicate (r.0 - at) z ++ (r.1 ++ cells_from z n (max at r.0 + length r.1) rs)

-- all n cells
abbrev pub cells : {C : Type 0} → C → ℕ → List (ℕ × List C) → List C
cells z n rs = cells_from z n 0 rs

-- where the runs end that begin at `at` or behind it
abbrev pub stop : {C : Type 0} → ℕ → List (ℕ × List C) → ℕ
stop at [] = at
stop at (r ∷ rs) = stop (max at r.0 + length r.1) rs

-- where the runs below home g end
abbrev pub end_before : {C : Type 0} → ℕ → ℕ → List (ℕ × List C) → ℕ
end_before at g [] = at
end_before at g (r ∷ rs) = if nat_lt r.0 g then end_before (max at r.0 + length r.1) g rs else at

-- the first cell from `at` on in which no run stands, where none of the runs begins before `at`
abbrev pub first_free : {C : Type 0} → ℕ → List (ℕ × List C) → ℕ
first_free at [] = at
first_free at (r ∷ rs) = if nat_lt at r.0 then at else first_free (at + length r.1) rs
