-- A bin of a flush as a stream: of a table, or of a frame.
use Rattle.std.specs.Prelude.{ℕ, ◌≡◌, ◌+◌, ◌≤◌, ◌^◌, ◌&&◌, nat_lt, nat_le, Bool, true, if◌then◌else◌, Option, Some, None, List, [], ◌∷◌, ◌++◌}
use Rattle.lert_bay.specs.Files.{Files}
use Rattle.lert_frames.specs.{Apart.IsSure, Place.{frame_len, tail_limit}, ToCome.{told_of, Breaks}, declared.reader.FrameReader.FrameReader}
use Rattle.lert_spec.specs.{declared.piece.Piece.Piece, Table.costs}

-- a table of tails below a limit: the pieces that it gave, and those that are left
pub record TableBin : Type 0 where
  pub limit : ℕ
  pub given : List Piece
  pub left : List Piece

pub data Bin : Type 0 where
  of_table : TableBin → Bin
  of_frame : FrameReader → Bin

-- all pieces of a table
abbrev pub all_of : TableBin → List Piece
all_of table = table.given ++ table.left

-- whether the tails ascend from `least` on and stay below the limit, and each count is at least 1
abbrev pub ascend : ℕ → ℕ → List Piece → Bool
ascend least limit [] = true
ascend least limit (p ∷ ps) = nat_le least p.tail && (nat_lt p.tail limit && (nat_le 1 p.count && ascend (p.tail + 1) limit ps))

-- whether each count is at most 2^47
abbrev pub are_small : List Piece → Bool
are_small [] = true
are_small (p ∷ ps) = nat_le p.count (2 ^ 47) && are_small ps

-- whether a table's pieces are those of a stream, as those of every table are
abbrev pub is_in_order : TableBin → Bool
is_in_order table = ascend 0 table.limit (all_of table) && are_small (all_of table)

abbrev pub table_to_come : TableBin → Option (List Piece)
table_to_come table = if is_in_order table then Some table.left else None

-- ---- what a stream is seen as

abbrev pub to_come_of : Option Files → Bin → Option (List Piece)
to_come_of told (of_table table) = table_to_come table
to_come_of told (of_frame r) = told_of told r

abbrev pub given_of : Bin → List Piece
given_of (of_table table) = table.given
given_of (of_frame r) = r.gave

abbrev pub limit_of : Bin → ℕ
limit_of (of_table table) = table.limit
limit_of (of_frame r) = tail_limit r.settings

-- a table never leaves its format
abbrev pub LeavesAt : Option Files → Bin → ℕ → Type 0
LeavesAt told (of_table table) at = ⊥
LeavesAt told (of_frame r) at = Breaks told r at

-- the version by which its counts cost something, that of the set for a table, and what they cost at most
abbrev pub version_of : ℕ → Bin → ℕ
version_of version (of_table table) = version
version_of version (of_frame r) = r.version

abbrev pub wide_of : ℕ → Bin → ℕ
wide_of version (of_table table) = costs version (all_of table)
wide_of version (of_frame r) = r.wide

-- a range of the file of frames that it reads: one within the frame's place
abbrev pub ReadsIn : Bin → ℕ → ℕ → Type 0
ReadsIn (of_table table) from to = ⊥
ReadsIn (of_frame r) from to = (r.place ≤ from) × (to ≤ r.place + frame_len r.settings r.version r.level)

-- no write elsewhere in this file of frames changes what it has to come
abbrev pub IsSureBin : Bin → List ℕ → Type 0
IsSureBin (of_table table) file = Unit {0}
IsSureBin (of_frame r) file = IsSure r file

-- ---- which bin a stream is

-- the same pieces
pub record IsSameTable (old new : TableBin) : Type 0 where
  pub limit : new.limit ≡ old.limit
  pub all : all_of new ≡ all_of old

-- the same frame
pub record IsFrameOf (old new : FrameReader) : Type 0 where
  pub settings : new.settings ≡ old.settings
  pub version : new.version ≡ old.version
  pub level : new.level ≡ old.level
  pub place : new.place ≡ old.place
  pub wide : new.wide ≡ old.wide

abbrev pub IsSameBin : Bin → Bin → Type 0
IsSameBin (of_table old) (of_table new) = IsSameTable old new
IsSameBin (of_frame old) (of_frame new) = IsFrameOf old new
IsSameBin (of_table old) (of_frame new) = ⊥
IsSameBin (of_frame old) (of_table new) = ⊥
