-- What a writer of a frame keeps, whatever became of the file.
use Rattle.std.specs.Prelude.{◌≡◌, ℕ, ◌+◌, ◌-◌, ◌*◌, ◌<◌, ◌≤◌, ◌^◌, List, Option, Some, None}
use Rattle.lert_frames.specs.declared.long.Long.{Long}
use Rattle.lert_frames.specs.declared.outlet.Outlet.{Outlet}
use Rattle.lert_frames.specs.Outlet.{next_place, size_of}
use Rattle.lert_frames.specs.Place.{block_count, blocks_bytes, frame_len, frame_place, most_slots, slots_each}
use Rattle.lert_spec.specs.Items.{IsVersion}
use Rattle.lert_frames.specs.Spilt.{Reaches}
use Rattle.lert_spec.specs.declared.numbers.Numbers.{Numbers}
use Rattle.lert_spec.specs.declared.piece.Piece.{Piece}
use Rattle.lert_spec.specs.Edges.{span, width}
use Rattle.lert_spec.specs.Limits.{IsValid}
use Rattle.lert_spec.specs.Table.{costs}

-- how many slots of a block are out
abbrev pub slots_out : Option Long → ℕ
slots_out None = 0
slots_out (Some l) = 64 * l.words

-- Of the present block there are so many slots in memory, and more may come for what is left, here or in the blocks behind
-- it: there is room for them up to the end of the frame's place.
pub record IsShort (place end blocks slots : ℕ) (outlet : Outlet) : Type 0 where
  pub at : place ≤ outlet.at
  pub fits : next_place outlet + blocks_bytes blocks slots ≤ end

pub record IsLong (place end blocks slots : ℕ) (l : Long) (ends outlet : Outlet) : Type 0 where
  pub at : place ≤ l.begin
  pub fits : l.begin + blocks_bytes blocks (64 * l.words + slots) ≤ end
  pub reach : Reaches l slots end ends outlet

-- which frame it is
pub record IsGrowing (s : Numbers) (version level frame wide place : ℕ) : Type 0 where
  pub valid : IsValid s
  pub known : IsVersion version
  pub first : 1 ≤ level
  pub last : level ≤ s.levels
  pub within : frame ≤ s.bins
  pub width_is : wide ≡ width s level
  pub place_is : place ≡ frame_place s version level frame
  pub end : place + frame_len s version level < 2 ^ 42

-- and where it stands in it: each item of the bin that is left may yet bring slots
pub record IsHolding (s : Numbers) (version level place number left : ℕ) (outlet ends : Outlet) (slots : ℕ) (long : Option Long) (put : List Piece) : Type 0 where
  pub below : number < block_count s level
  pub left_is : left + costs version put ≡ span s level
  pub size : size_of outlet ≡ 8192
  pub ends_size : size_of ends ≡ 512
  pub few : slots_out long + slots + slots_each version * left ≤ most_slots s version level
  pub short : long ≡ None → IsShort place (place + frame_len s version level) (block_count s level - number) (slots + slots_each version * left) outlet
  pub some : (l : Long) → long ≡ Some l → 0 < slots
  pub spilt : (l : Long) → long ≡ Some l → IsLong place (place + frame_len s version level) (block_count s level - number) (slots + slots_each version * left) l ends outlet
