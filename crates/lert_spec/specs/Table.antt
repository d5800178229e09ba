-- A count table: pieces in ascending tails, each with a count of at least 1.
use Rattle.std.specs.Prelude.{ℕ, ◌+◌, ◌/◌, ◌<◌, ◌≤◌, ◌==◌, ◌^◌, All, List, [], ◌∷◌, nat_lt, if◌then◌else◌}
use Rattle.lert_spec.specs.declared.piece.Piece.{Piece}

-- how often a tail stands in the table, 0 where it is absent
abbrev pub count_of : List Piece → ℕ → ℕ
count_of [] tail = 0
count_of (p ∷ ps) tail = if p.tail == tail then p.count else count_of ps tail

-- the sum of all counts
abbrev pub total : List Piece → ℕ
total [] = 0
total (p ∷ ps) = p.count + total ps

-- what a piece of a count costs of the items that made it: with version 1 of the files each weighs 1, and with a later
-- one at most 255
abbrev pub cost : ℕ → ℕ → ℕ
cost version count = if version == 1 then count else (count + 254) / 255

-- the sum of all costs: at least so many items made the table
abbrev pub costs : ℕ → List Piece → ℕ
costs version [] = 0
costs version (p ∷ ps) = cost version p.count + costs version ps

-- the table with `n` more of a tail: its count is raised, or a new piece stands in its place
abbrev pub plus : List Piece → ℕ → ℕ → List Piece
plus [] tail n = record { tail = tail; count = n } ∷ []
plus (p ∷ ps) tail n =
    if nat_lt tail p.tail then record { tail = tail; count = n } ∷ p ∷ ps else
    (if p.tail == tail then record { tail = tail; count = p.count + n } ∷ ps else p ∷ plus ps tail n)

-- the tails ascend from `least` on and stay below `limit`, and each count is at least 1
abbrev pub AscendsFrom : ℕ → ℕ → List Piece → Type 0
AscendsFrom least limit [] = Unit {0}
AscendsFrom least limit (p ∷ ps) =
    (least ≤ p.tail) × (p.tail < limit) × (1 ≤ p.count) × AscendsFrom (p.tail + 1) limit ps

-- a count table of tails below `limit`
abbrev pub IsTable : ℕ → List Piece → Type 0
IsTable limit ps = AscendsFrom 0 limit ps

-- pieces that a stream gave: a count table of tails below `limit`, each count at most 2^47
pub record AreGiven (limit : ℕ) (pieces : List Piece) : Type 0 where
  pub table : IsTable limit pieces
  pub counts : All (λ piece. piece.count ≤ 2 ^ 47) pieces
