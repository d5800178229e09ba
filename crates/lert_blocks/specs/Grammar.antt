-- Which group stands at the front of slots, as a function.
use Rattle.std.specs.Prelude.{ℕ, ◌+◌, ◌-◌, ◌^◌, ◌==◌, ◌||◌, ◌&&◌, Bool, false, not, nat_eq, nat_lt, nat_le, if◌then◌else◌, List, [], ◌∷◌, map, take, take_while, slice_index_or, Option, Some, None}
use Rattle.std.specs.List.{starts_with}
use Rattle.lert_counter.specs.{Group.{group, digit_base, least_counter}, Reading.{number_of, read_as}, declared.group.Group.Group}

-- the digit that is written so beside x
abbrev pub unwritten : ℕ → ℕ → ℕ
unwritten x slot = if nat_lt slot x || x == 0 then slot - 1 else slot - 2

-- the count that the slots up to the next x spell as digits
abbrev pub spelled : ℕ → ℕ → List ℕ → ℕ
spelled width x slots = number_of (digit_base width x) (map (unwritten x) (take_while (λ slot. not (slot == x)) slots)) + least_counter x

-- the group of x and c, where c is a count and the slots begin with the group
abbrev pub read_if : ℕ → ℕ → ℕ → List ℕ → Option Group
read_if width x c slots = if nat_le c (2 ^ 47) && starts_with nat_eq slots (group width x c) then Some (read_as width x c) else None

-- two zeros stand side by side
abbrev pub two_zeros : List ℕ → Bool
two_zeros [] = false
two_zeros (slot ∷ []) = false
two_zeros (slot ∷ next ∷ rest) = (slot == 0) && (next == 0) || two_zeros (next ∷ rest)

-- a counter of 0 where one stands; else 0 alone, but where two zeros may close a counter
abbrev pub zero_if : List ℕ → Option Group → Option Group
zero_if slots (Some g) = Some g
zero_if slots None = if two_zeros (take 9 slots) then None else Some (record { x = 0; count = 1; used = 1 })

-- the group at the front of the slots, which none follow but those of its run
abbrev pub group_read : ℕ → List ℕ → Option Group
group_read width [] = None
group_read width (x ∷ []) = Some (record { x = x; count = 1; used = 1 })
group_read width (x ∷ next ∷ rest) =
    if x == 0
    then (if next == 0
    then (if slice_index_or rest 0 1 == 0 then Some (record { x = 0; count = 3; used = 3 }) else Some (record { x = 0; count = 2; used = 2 }))
    else zero_if (x ∷ next ∷ rest) (read_if width 0 (spelled width 0 (next ∷ rest)) (x ∷ next ∷ rest)))
    else (if nat_lt x next then Some (record { x = x; count = 1; used = 1 })
    else (if next == x then Some (record { x = x; count = 2; used = 2 })
    else read_if width x (spelled width x (if next == 0 then rest else next ∷ rest)) (x ∷ next ∷ rest)))
