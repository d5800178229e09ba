-- The object that was last put back under a number.
use Rattle.std.specs.Prelude.{ℕ, ◌==◌, List, [], ◌∷◌, reverse, Option, Some, None, if◌then◌else◌}
use Rattle.lert_host.specs.declared.handed.PutBack.{PutBack}

-- the first with a number, where the newest stands first
abbrev pub first_with : {T : Type 0} → List (PutBack T) → ℕ → Option T
first_with [] number = None
first_with (back ∷ older) number = if back.number == number then Some back.object else first_with older number

-- the last with a number, where the oldest stands first
abbrev pub last_returned : {T : Type 0} → List (PutBack T) → ℕ → Option T
last_returned backs number = first_with (reverse backs) number
