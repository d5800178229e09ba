-- What a check of the frames finds, level by level from the first on, each level's oldest bin first.
use Rattle.std.specs.Prelude.{ℕ, zero, suc, ◌+◌, ◌*◌, ◌<◌, ◌≤◌, nat_lt, if◌then◌else◌, List, [], ◌∷◌, ◌++◌, length, map, sum_by, All, Option, Some, None, slice_index_or}
use Rattle.lert_frames.specs.Frame.{frame_left, frame_pieces}
use Rattle.lert_spec.specs.{declared.numbers.Numbers.Numbers, Edges.edge, Items.most_weight, declared.piece.Piece.Piece, Table.total}
use Rattle.lert_levels.specs.{declared.rows.bin_at.BinAt.BinAt, rows.Loading.{width_of, Stands}}

-- the pieces that a file says in the frame of a bin of a level
abbrev pub pieces_in : Numbers → ℕ → List ℕ → ℕ → BinAt → List Piece
pieces_in s version file level bin = frame_pieces s version level bin.frame file

-- they are in the format there, and a bin of its width: of each bin of a level, and of each bin of all rows
abbrev pub RowStands : Numbers → ℕ → List ℕ → ℕ → List BinAt → Type 0
RowStands s version file level row = All (Stands s version level file (pieces_in s version file level)) row

abbrev pub EachStands : Numbers → ℕ → List ℕ → List (List BinAt) → Type 0
EachStands s version file rows = (k : ℕ) → k < length rows → RowStands s version file (k + 1) (slice_index_or rows k [])

-- the level of a bin that ends there, after n events: the greatest of the levels up to one whose positions may end there
abbrev pub level_of : Numbers → ℕ → ℕ → ℕ → ℕ
level_of s n zero to = 0
level_of s n (suc top) to = if nat_lt (edge s top n) to then level_of s n top to else suc top

-- the pieces that a file says in the frame of a bin of the levels after n events
abbrev pub held_after : Numbers → ℕ → ℕ → List ℕ → BinAt → List Piece
held_after s version n file bin = pieces_in s version file (level_of s n s.levels bin.to) bin

-- the first place of these
abbrev pub first_of : List (Option ℕ) → Option ℕ
first_of [] = None
first_of (None ∷ rest) = first_of rest
first_of (Some at ∷ rest) = Some at

-- where the frame of a bin of a level leaves its format, where it does
abbrev pub bin_left : Numbers → ℕ → List ℕ → ℕ → BinAt → Option ℕ
bin_left s version file level bin = frame_left s version level bin.frame (width_of bin) file

-- where each bin of these rows leaves it, the first of them that of this level
abbrev pub bins_left : Numbers → ℕ → List ℕ → ℕ → List (List BinAt) → List (Option ℕ)
bins_left s version file level [] = []
bins_left s version file level (row ∷ rows) = map (bin_left s version file level) row ++ bins_left s version file (suc level) rows

-- where the first bin that leaves it does
abbrev pub row_left : Numbers → ℕ → List ℕ → ℕ → List BinAt → Option ℕ
row_left s version file level row = first_of (map (bin_left s version file level) row)

abbrev pub rows_left : Numbers → ℕ → List ℕ → List (List BinAt) → Option ℕ
rows_left s version file rows = first_of (bins_left s version file 1 rows)

-- ---- what the counts add up to

-- the counts that a file says in the frames of a level's bins
abbrev pub row_total : Numbers → ℕ → List ℕ → ℕ → List BinAt → ℕ
row_total s version file level row = sum_by (λ bin. total (pieces_in s version file level bin)) row

-- in those of these rows' bins, the first of them that of this level
abbrev pub rows_total : Numbers → ℕ → List ℕ → ℕ → List (List BinAt) → ℕ
rows_total s version file level [] = 0
rows_total s version file level (row ∷ rows) = row_total s version file level row + rows_total s version file (suc level) rows

-- how many positions the bins of a row have, and those of all rows
abbrev pub row_width : List BinAt → ℕ
row_width row = sum_by width_of row

abbrev pub rows_width : List (List BinAt) → ℕ
rows_width rows = sum_by row_width rows

-- a sum of counts that so many events may have made in files of a version: each weighs at least 1
abbrev pub IsWeightOf : ℕ → ℕ → ℕ → Type 0
IsWeightOf version events sum = (events ≤ sum) × (sum ≤ most_weight version * events)
