-- A place of two traces and one bay.
use Rattle.std.specs.Prelude.{◌≡◌, ℕ, ◌<◌, ◌==◌, List, [], ◌∷◌, Option, Some, None, if◌then◌else◌}
use Rattle.lert_bay.specs.Memory.{Disk, seen_of}

-- those of two that are still there, in their order
abbrev pub ready : {T : Type 0} → Option T → Option T → List T
ready None None = []
ready None (Some second) = second ∷ []
ready (Some first) None = first ∷ []
ready (Some first) (Some second) = first ∷ second ∷ []

-- that of two with a number
abbrev pub of_two : {T : Type 0} → Option T → Option T → ℕ → Option T
of_two first second number = if number == 0 then first else (if number == 1 then second else None)

-- that of one with a number
abbrev pub of_one : {T : Type 0} → Option T → ℕ → Option T
of_one first number = if number == 0 then first else None

-- no file of a bay has a byte
abbrev pub IsEmptyBay : Disk → Type 0
IsEmptyBay bay = (file : ℕ) → file < 3 → seen_of bay.files file ≡ []
