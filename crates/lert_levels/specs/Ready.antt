-- What a flush reads and writes with, and what it leaves.
use Rattle.std.specs.Prelude.{ℕ, ◌≡◌, ◌+◌, ◌-◌, ◌*◌, ◌<◌, ◌≤◌, List, [], length, sum, Option, All, slice_index_or}
use Rattle.lert_bay.specs.{declared.bay.TheConstants.FRAMES, Files.{Files, IfTold}}
use Rattle.lert_frames.specs.Frame.{HoldsFrame}
use Rattle.lert_levels.specs.{flush.Merged.{AreTaken, picked}, landing.Landings.{AreLandings, AreOfLevels}}
use Rattle.lert_levels.specs.{landing.Landed.{taken, IsLanding}, landing.Summed.sums_of}
use Rattle.lert_levels.specs.{declared.landing.landing.Landing.Landing}
use Rattle.lert_levels.specs.{declared.rows.bin_at.BinAt.BinAt, rows.Landing.{AreApart, AreLanded, landing_frame}, rows.Rows.AreFirst, Flushed.InNamed, Merged.{IsMade, IsFrames, widths_of}}
use Rattle.lert_levels.specs.Parts.{part_at, parts_at, in_part, HaveParts}
use Rattle.lert_merge.specs.declared.order.streams.Streams.{Ghosts as StreamsOf}
use Rattle.lert_spec.specs.{Edges.span, Bins.Bin, declared.numbers.Numbers.Numbers, declared.piece.Piece.Piece}

-- a landing of each level, and room for the part of each stream
pub record CanLand (s : Numbers) (landings : List Landing) (capacity : ℕ) : Type 0 where
  pub of_levels : AreOfLevels s landings
  pub count : length landings ≡ s.levels
  pub room : (s.levels + 1) * s.bins ≤ capacity

-- the landings of the rows that a flush reaches begin at the frames where the new bins are to stand, with nothing taken
pub record AreStarted (s : Numbers) (version m : ℕ) (rows : List (List BinAt)) (landings : List Landing) : Type 0 where
  pub frame : (k : ℕ) (d : Landing) → k < length rows → (slice_index_or landings k d).frame ≡ landing_frame s m rows k
  pub of_version : (k : ℕ) (d : Landing) → k < length rows → (slice_index_or landings k d).writer.version ≡ version
  pub empty : (k : ℕ) (d : Landing) → k < length rows → taken (slice_index_or landings k d) ≡ []
  pub landing : (k : ℕ) (d : Landing) → k < length rows → (file : List ℕ) → IsLanding (slice_index_or landings k d) file

-- the rows that the flush at m reaches: their bins make up parts that fit the new bins, and lie apart from where these are to stand
pub record AreReached (s : Numbers) (version m : ℕ) (young : List Bin) (rows : List (List BinAt)) : Type 0 where
  pub some : 1 ≤ length young
  pub narrow : All (λ bin. bin.to - bin.from ≤ span s 0) young
  pub are : AreFirst s rows
  pub parts : HaveParts s m rows
  pub fits : (k : ℕ) → k < length rows → sum (in_part 0 (widths_of young rows) (part_at s m (length young) rows k)) ≤ span s (k + 1)
  pub apart : (from to : ℕ) → InNamed s version rows from to → AreApart s version m rows from to

-- all pieces were taken, and the sums of each part's stand in the frame of its landing
pub record HaveLanded {S C T : Type 0} (members : StreamsOf S C) (version width : S → ℕ → ℕ) (took : T → List Piece → Type 0) (streams : S) (before : C) (parts : List (Option ℕ))
    (landings : List Landing) (totals : T) (after : Option Files) : Type 0 where
  pub lists : List (List Piece)
  pub all : AreTaken members version width took streams before totals lists
  pub stand : (s : Numbers) (number : ℕ) → AreLandings s number landings → IfTold after (λ seen. (k : ℕ) (d : Landing) → k < length landings →
      HoldsFrame s number (k + 1) (slice_index_or landings k d).frame (seen FRAMES) (sums_of (picked parts k lists)))

-- what a flush's merge made stands in the frames of the new bins
pub record HasMade (s : Numbers) (version m : ℕ) (young : List Bin) (rows : List (List BinAt)) (took : List Piece → Type 0) (before after : Option Files) : Type 0 where
  pub made : List (List Piece)
  pub is : IsMade s version young rows (parts_at s m (length young) rows) took (IsFrames before) made
  pub landed : IfTold after (λ seen. AreLanded s version m rows (seen FRAMES) made (length rows))
