-- The text of one group: a remainder x and its count c, in one to nine slots of `width` bits.
use Rattle.std.specs.Prelude.{ℕ, zero, suc, ◌+◌, ◌-◌, ◌/◌, ◌%◌, ◌^◌, ◌≡◌, ◌≤◌, ◌==◌, ◌||◌, ◌&&◌, nat_lt, if◌then◌else◌, List, [], ◌∷◌, ◌++◌, map, take, length, slice_index}

-- the digits of n in base b, most significant first, at most `room + 1` of them
abbrev pub digits : ℕ → ℕ → ℕ → List ℕ
digits zero b n = n ∷ []
digits (suc room) b n = if nat_lt n b then n ∷ [] else digits room b (n / b) ++ n % b ∷ []

-- how a digit is written beside x: as neither 0 nor x
abbrev pub written : ℕ → ℕ → ℕ
written x d = if nat_lt (d + 1) x || x == 0 then d + 1 else d + 2

-- the values that a slot can have, less those that no digit is written as
abbrev pub digit_base : ℕ → ℕ → ℕ
digit_base width x = if x == 0 then 2 ^ width - 1 else 2 ^ width - 2

-- the least count that is written by digits
abbrev pub least_counter : ℕ → ℕ
least_counter x = if x == 0 then 4 else 3

-- the digits of a counter as they stand in the text: no count up to 2^47 needs more than six
unfoldable pub counter_digits : ℕ → ℕ → ℕ → List ℕ
counter_digits width x c = map (written x) (digits 5 (digit_base width x) (c - least_counter x))

-- behind x a greater value would end the group, so a greater first digit has a 0 before it
abbrev pub guarded : ℕ → List ℕ → List ℕ
guarded x ds = if nat_lt x (slice_index ds 0) then 0 ∷ ds else ds

-- the text of a counter: the digits, and x again; for x = 0 two zeros end it
abbrev pub counter : ℕ → ℕ → ℕ → List ℕ
counter width x c =
    if x == 0
    then 0 ∷ (counter_digits width 0 c ++ 0 ∷ 0 ∷ [])
    else x ∷ (guarded x (counter_digits width x c) ++ x ∷ [])

-- the text of the group of x and c
unfoldable pub group : ℕ → ℕ → ℕ → List ℕ
group width x c =
    if c == 1 then x ∷ []
    else (if c == 2 then x ∷ x ∷ []
    else (if (x == 0) && (c == 3) then 0 ∷ 0 ∷ 0 ∷ [] else counter width x c))

-- the counts that a group can have
abbrev pub IsCount : ℕ → Type 0
IsCount c = (1 ≤ c) × (c ≤ 2 ^ 47)

-- a text begins with another
abbrev pub BeginsWith : List ℕ → List ℕ → Type 0
BeginsWith text front = take (length front) text ≡ front
