-- What a reader of a frame keeps, and what is to come of it.
use Rattle.std.specs.Prelude.{◌≡◌, ℕ, ◌+◌, ◌-◌, ◌≤◌, nat_lt, if◌then◌else◌, List, length, ◌++◌, drop, Option, Some, None}
use Rattle.std.proofs.Props.{props}
use Rattle.lert_blocks.specs.Walk.{Found}
use Rattle.lert_frames.specs.Decoded.{decoder_floor, decoder_limit, IsBetween}
use Rattle.lert_frames.specs.Frame.{judged}
use Rattle.lert_frames.specs.Place.{frame_len, tail_limit}
use Rattle.lert_spec.specs.Items.{IsVersion}
use Rattle.lert_frames.specs.declared.decoder.Decoder.{Decoder}
use Rattle.lert_frames.specs.declared.reader.Sum.{Sum}
use Rattle.lert_frames.specs.declared.reader.Sum.TheVariants.{Left, Over}
use Rattle.lert_spec.specs.declared.numbers.Numbers.{Numbers}
use Rattle.lert_spec.specs.declared.piece.Piece.{Piece}
use Rattle.lert_spec.specs.Limits.{IsValid}
use Rattle.lert_spec.specs.Table.{costs, total, AreGiven}
use Rattle.lert_spec.proofs.GivenLaws.{given_prop}

-- where a rule is broken, of what is found: at the frame's first byte, where only the counts cost more than is left or
-- don't reach what is due, or where more came before
abbrev pub if_over : ℕ → Option ℕ → Option ℕ
if_over place (Some at) = Some at
if_over place None = Some place

abbrev pub verdict : ℕ → Sum → ℕ → Found → Option ℕ
verdict version (Left most due) place found = judged version most due place found
verdict version Over place found = if_over place found.left

-- what was given and decoded costs the bin's width, less what is left, and what its counts don't reach is due
abbrev pub SumsUp : ℕ → ℕ → List Piece → Sum → Type 0
SumsUp version wide decoded (Left most due) = (costs version decoded + most ≡ wide) × (due ≡ wide - total decoded)
SumsUp version wide decoded Over = costs version decoded ≤ wide

-- what is left behind more pieces, and which are kept of those decoded: none from the one on that is too many
abbrev pub sum_less : ℕ → Sum → List Piece → Sum
sum_less version (Left most due) put = if nat_lt most (costs version put) then Over else Left (most - costs version put) (due - total put)
sum_less version Over put = Over

abbrev pub pieces_kept : Sum → List Piece → List Piece → List Piece
pieces_kept (Left most due) before put = before ++ put
pieces_kept Over before put = before

-- nothing is due any more
abbrev pub IsReached : Sum → Type 0
IsReached (Left most due) = due ≡ 0
IsReached Over = ⊥

-- Whatever a decoder may want yet stands in the frame's place: one fact that no search opens, since each reader has it, and
-- numbers that are divided make a search long.
unfoldable pub StandsIn : Numbers → ℕ → ℕ → ℕ → Decoder → Type 0
StandsIn s version level place decoder = IsBetween place (place + frame_len s version level) decoder

-- told or not: the pieces given and decoded ascend, below what may come, and cost no more than the bin's width; and what may
-- be wanted yet stands in the frame's place
pub record IsReading (s : Numbers) (version level place wide : ℕ) (sum : Sum) (decoder : Decoder) (pieces : List Piece) (capacity given : ℕ) (gave : List Piece) : Type 0 where
  pub valid : IsValid s
  pub known : IsVersion version
  pub first : 1 ≤ level
  pub last : level ≤ s.levels
  pub decoded : AreGiven (decoder_floor decoder) (gave ++ drop given pieces)
  pub limit : decoder_limit decoder ≡ tail_limit s
  pub below : decoder_floor decoder ≤ tail_limit s
  pub sums : SumsUp version wide (gave ++ drop given pieces) sum
  pub within : given ≤ length pieces
  pub room : capacity ≡ 128
  pub stands : StandsIn s version level place decoder

-- that is a fact
sums_prop : (version wide : ℕ) (decoded : List Piece) (sum : Sum) → IsProp (SumsUp version wide decoded sum)
sums_prop version wide decoded (Left most due) = hlevel props
sums_prop version wide decoded Over = hlevel props

stands_prop : (s : Numbers) (version level place : ℕ) (decoder : Decoder) → IsProp (StandsIn s version level place decoder)
unfolding StandsIn
stands_prop s version level place decoder = hlevel props

pub reading_prop : (s : Numbers) (version level place wide : ℕ) (sum : Sum) (decoder : Decoder) (pieces : List Piece) (capacity given : ℕ) (gave : List Piece) →
    IsProp (IsReading s version level place wide sum decoder pieces capacity given gave)
reading_prop s version level place wide sum decoder pieces capacity given gave =
    hlevel (
      props,
      given_prop (decoder_floor decoder) (gave ++ drop given pieces),
      sums_prop version wide (gave ++ drop given pieces) sum,
      stands_prop s version level place decoder,
    )
