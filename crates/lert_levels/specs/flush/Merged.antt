-- What a merge takes of some bins: the sums of all, and for each part those of its bins.
use Rattle.std.specs.Prelude.{ℕ, ◌≡◌, ◌+◌, ◌<◌, ◌≤◌, ◌==◌, ◌^◌, Bool, true, false, Option, Some, None, IfSome, List, [], ◌∷◌, length, sum, slice_index_or}
use Rattle.lert_frames.specs.Place.{tail_limit}
use Rattle.lert_levels.specs.{landing.Landed.taken, landing.Landings.AreLandings, landing.Summed.sums_of, declared.landing.landing.Landing.Landing}
use Rattle.lert_merge.specs.{order.Ordering.Ordering, declared.order.streams.Streams.{Ghosts as StreamsOf}}
use Rattle.lert_spec.specs.{declared.numbers.Numbers.Numbers, declared.piece.Piece.Piece, Edges.span, Table.{costs, plus, AreGiven}}

-- ---- parts

-- whether a stream is of this part: it may be of none
abbrev pub is_of : Option ℕ → ℕ → Bool
is_of None part = false
is_of (Some own) part = own == part

abbrev pub pick : {A : Type 0} → Bool → A → List A → List A
pick true x rest = x ∷ rest
pick false x rest = rest

-- what belongs to the streams of a part, in the streams' order
abbrev pub picked : {A : Type 0} → List (Option ℕ) → ℕ → List A → List A
picked [] part xs = []
picked (own ∷ parts) part [] = []
picked (own ∷ parts) part (x ∷ xs) = pick (is_of own part) x (picked parts part xs)

-- each stream is of one of some parts or of none
pub record AreParts (parts : List (Option ℕ)) (streams count : ℕ) : Type 0 where
  pub len : length parts ≡ streams
  pub within : (k : ℕ) → k < length parts → IfSome (slice_index_or parts k None) (λ part. part < count)

-- ---- before a merge

-- nothing was read of the streams
pub record IsUnread {S C : Type 0} (members : StreamsOf S C) (order : Ordering S) : Type 0 where
  pub given : (k : ℕ) → k < members.count order.streams → members.given order.streams k ≡ []
  pub counts : order.ahead.counts ≡ []
  pub last : order.last ≡ None

-- what the counts of each stream cost at most, and that they can be added up
pub record AreWide {S : Type 0} (width : S → ℕ → ℕ) (streams : S) (widths : List ℕ) (count : ℕ) : Type 0 where
  pub len : length widths ≡ count
  pub each : (k : ℕ) → k < count → width streams k ≤ slice_index_or widths k 0
  pub all : sum widths < 2 ^ 55

-- each landing has room for its part, which begins anew, and is of the version of all streams
pub record HaveRoom {S C : Type 0} (members : StreamsOf S C) (version width : S → ℕ → ℕ) (streams : S) (parts : List (Option ℕ)) (landings : List Landing) : Type 0 where
  pub settings : Numbers
  pub number : ℕ
  pub of_streams : (k : ℕ) → k < members.count streams → version streams k ≡ number
  pub landings_are : AreLandings settings number landings
  pub limits : (k : ℕ) → k < members.count streams → members.limit streams k ≤ tail_limit settings
  pub widths : List ℕ
  pub wide : AreWide width streams widths (members.count streams)
  pub fits : (part : ℕ) → part < length landings → sum (picked parts part widths) ≤ span settings (part + 1)
  pub empty : (part : ℕ) (d : Landing) → part < length landings → taken (slice_index_or landings part d) ≡ []

-- ---- after it

-- these are to come of the streams
pub record AreToCome {S C : Type 0} (members : StreamsOf S C) (streams : S) (ctx : C) (lists : List (List Piece)) : Type 0 where
  pub len : length lists ≡ members.count streams
  pub told : (k : ℕ) → k < members.count streams → members.to_come streams k ctx ≡ Some (slice_index_or lists k [])

-- all pieces of all streams were taken: a list for each stream, those that were told where they were. Where the context tells,
-- they are those of streams that leave their format nowhere.
pub record AreTaken {S C T : Type 0} (members : StreamsOf S C) (version width : S → ℕ → ℕ) (took : T → List Piece → Type 0) (streams : S) (before : C) (totals : T)
    (lists : List (List Piece)) : Type 0 where
  pub len : length lists ≡ members.count streams
  pub given : (k : ℕ) → k < members.count streams → AreGiven (members.limit streams k) (slice_index_or lists k [])
  pub fits : (k : ℕ) → k < members.count streams → costs (version streams k) (slice_index_or lists k []) ≤ width streams k
  pub totals_are : took totals (sums_of lists)
  pub told : (given : List (List Piece)) → AreToCome members streams before given → lists ≡ given
  pub whole : members.tells before → AreToCome members streams before lists

-- and each landing took the sums of its part
pub record IsMerged {S C T : Type 0} (members : StreamsOf S C) (version width : S → ℕ → ℕ) (took : T → List Piece → Type 0) (streams : S) (before : C) (parts : List (Option ℕ))
    (landings : List Landing) (totals : T) : Type 0 where
  pub lists : List (List Piece)
  pub all : AreTaken members version width took streams before totals lists
  pub landed : (part : ℕ) (d : Landing) → part < length landings → taken (slice_index_or landings part d) ≡ sums_of (picked parts part lists)

-- ---- a piece of a merge

-- a part's table, once one of its streams gave this piece
abbrev pub with_piece : Bool → Piece → List Piece → List Piece
with_piece true piece table = plus table piece.tail piece.count
with_piece false piece table = table
