-- Level 0 in memory: the bins of the newest positions, oldest first, each with a table of its own.
use Rattle.std.specs.Prelude.{ℕ, suc, ◌≡◌, ◌≢◌, ◌+◌, ◌-◌, ◌*◌, ◌%◌, ◌<◌, ◌≤◌, ◌==◌, nat_lt, All, min, List, [], ◌∷◌, ◌++◌, length, map, if◌then◌else◌, slice_index_or, take, drop, sum_by}
use Rattle.std.specs.Int.{div_ceil}
use Rattle.lert_levels.specs.{declared.bound.pair.Pair.Pair, bound.Covers.CoversCounts}
use Rattle.lert_base.specs.declared.count_table.CountTable.{Ghosts as TablesOf}
use Rattle.lert_spec.specs.{declared.numbers.Numbers.Numbers, declared.piece.Piece.Piece, Bins.Bin, Edges.{span, capacity, quotient_bits, width}, Limits.IsValid, Table.{count_of, costs, total, plus}}

-- what level 0 is seen as: its settings, and the bins of the positions above `from`, up to `to`
pub record Young : Type 0 where
  pub settings : Numbers
  pub from : ℕ
  pub to : ℕ
  pub bins : List Bin

-- the newest bin with one more event, of this tail and weight at this position
abbrev pub grown : List Bin → ℕ → ℕ → ℕ → List Bin
grown [] tail weight m = []
grown (bin ∷ []) tail weight m = record { from = bin.from; to = m; pieces = plus bin.pieces tail weight } ∷ []
grown (bin ∷ next ∷ bins) tail weight m = bin ∷ grown (next ∷ bins) tail weight m

-- a bin of this event alone
abbrev pub begun : ℕ → ℕ → ℕ → Bin
begun tail weight m = record { from = m - 1; to = m; pieces = record { tail = tail; count = weight } ∷ [] }

-- the bins with one more event: where its position is the first of an aligned interval it begins a bin of its own, and
-- otherwise it is in the newest one
abbrev pub added : Numbers → List Bin → ℕ → ℕ → ℕ → List Bin
added s bins tail weight m = if (m - 1) % span s 0 == 0 then bins ++ begun tail weight m ∷ [] else grown bins tail weight m

-- level 0 with one more event
abbrev pub with_event : Young → ℕ → ℕ → ℕ → Young
with_event young tail weight m = record {
  settings = young.settings;
  from = if young.from == young.to then m - 1 else young.from;
  to = m;
  bins = added young.settings young.bins tail weight m;
}

-- a position that may be added: the one behind the last, or, where there is none, the first one of an aligned interval;
-- and a table is free for its bin
pub record IsNextPosition (young : Young) (m : ℕ) : Type 0 where
  pub first : 1 ≤ m
  pub last : m ≤ capacity young.settings
  pub follows : young.from ≢ young.to → m ≡ suc young.to
  pub begins : young.from ≡ young.to → (m - 1) % span young.settings 0 ≡ 0
  pub free : young.from ≢ young.to → m ≤ young.from + young.settings.bins * span young.settings 0

-- tables as bins: each of a width, the first one above `from`, as far as the positions go
abbrev pub bins_of : ℕ → ℕ → ℕ → List (List Piece) → List Bin
bins_of wide from to [] = []
bins_of wide from to (pieces ∷ tables) =
    if nat_lt from to
    then record { from = from; to = min to (from + wide); pieces = pieces } ∷ bins_of wide (from + wide) to tables
    else []

-- what tables are seen as
abbrev pub seen_as : {T C : Type 0} → TablesOf T C → Numbers → List T → ℕ → ℕ → Young
seen_as of s tables from to = record { settings = s; from = from; to = to; bins = bins_of (span s 0) from to (map of.pieces tables) }

-- a table with the room, the quotient bits and the width of level 0
pub record IsOfZero (s : Numbers) (room quotient remainder : ℕ) : Type 0 where
  pub events : room ≡ span s 0
  pub quotients : quotient ≡ quotient_bits s 0
  pub remainders : remainder ≡ width s 0

-- the table with this number has the events of its bin, each added by itself with a weight from 1 to 255, and none where
-- no position is in it
pub record IsFilled {T C : Type 0} (of : TablesOf T C) (s : Numbers) (from to number : ℕ) (table : T) : Type 0 where
  pub added : of.adds table ≡ min (span s 0) (to - (from + number * span s 0))
  pub costly : costs 2 (of.pieces table) ≤ of.adds table
  pub heavy : of.adds table ≤ total (of.pieces table)
  pub unused : to ≤ from + number * span s 0 → of.pieces table ≡ []
  pub of_zero : IsOfZero s (of.room table) (of.quotient_bits table) (of.width table)

-- what stands between two calls
pub record AreFilled {T C : Type 0} (of : TablesOf T C) (s : Numbers) (tables : List T) (from to : ℕ) : Type 0 where
  pub valid : IsValid s
  pub len : length tables ≡ s.bins
  pub aligned : from % span s 0 ≡ 0
  pub ordered : from ≤ to
  pub within : to ≤ from + s.bins * span s 0
  pub last : to ≤ capacity s
  pub each : (k : ℕ) (d : T) → k < length tables → IsFilled of s from to k (slice_index_or tables k d)

-- so many bins, the newest of which has room up to `end`
pub record AreNumbered (s : Numbers) (from to bins end : ℕ) : Type 0 where
  pub end_is : end ≡ from + bins * span s 0
  pub covers : to ≤ end
  pub few : end < to + span s 0

-- what a tail weighs in tables
abbrev pub times_in : {T : Type 0} → (T → List Piece) → List T → ℕ → ℕ
times_in pieces tables tail = sum_by (λ table. count_of (pieces table) tail) tables

-- how many units of a size that is, rounded up
abbrev pub units_in : {T : Type 0} → ℕ → (T → List Piece) → List T → ℕ → ℕ
units_in unit pieces tables tail = div_ceil (times_in pieces tables tail) unit

-- the bound of the tails, in units of a size, covers those of the first bins, which are full, in the generation before, and those of
-- all others in the present one
pub record AreBounded {T : Type 0} (pieces : T → List Piece) (s : Numbers) (tables : List T) (from to : ℕ) (pairs : List Pair) (unit earlier : ℕ) : Type 0 where
  pub full : from + earlier * span s 0 ≤ to
  pub some : 1 ≤ unit
  pub covers : CoversCounts pairs (units_in unit pieces (take earlier tables)) (units_in unit pieces (drop earlier tables))

-- the bins of level 0 may go into frames of this version: their counts cost no more positions than each has, and reach them
abbrev pub AreLight : ℕ → List Bin → Type 0
AreLight version bins = All (λ bin. (costs version bin.pieces ≤ bin.to - bin.from) × (bin.to - bin.from ≤ total bin.pieces)) bins

-- the half of it that a merge of them needs
abbrev pub AreCheap : ℕ → List Bin → Type 0
AreCheap version bins = All (λ bin. costs version bin.pieces ≤ bin.to - bin.from) bins

-- bins with the same counts, so wide that these are cheap in each version
abbrev pub loosened : List Bin → List Bin
loosened bins = map (λ bin. record { from = 255 * bin.from; to = 255 * bin.to; pieces = bin.pieces }) bins
