-- A search for a remainder that is greater than each count of a run.
use Rattle.std.specs.Prelude.{ℕ, ◌+◌, ◌==◌, List, [], ◌∷◌, nat_lt, if◌then◌else◌}

-- how often x occurs where these slots stand behind the first one of its group
abbrev pub count_behind : List ℕ → ℕ → ℕ
count_behind [] x = 1
count_behind (next ∷ rest) x = if nat_lt x next then 1 else (if next == x then 2 else next + 2)

-- how often x occurs by the first slot that is x
abbrev pub count_from : List ℕ → ℕ → ℕ
count_from [] x = 0
count_from (slot ∷ rest) x = if slot == x then count_behind rest x else count_from rest x
