-- What was read ahead of some streams: of each one piece, until it ended.
use Rattle.std.specs.Prelude.{ℕ, ◌≡◌, ◌≢◌, ◌<◌, ◌≤◌, ◌⊎◌, ◌↔◌, ◌==◌, Bool, true, Option, Some, None, List, [], ◌∷◌, length, if◌then◌else◌}
use Rattle.lert_spec.specs.declared.piece.Piece.{Piece}
use Rattle.lert_merge.specs.tree.Race.{Race, number_at, greatest}

-- a tail and a count for each stream that was read, whether all were, the stream with the least tail, and for how many there is room
pub record Fronts : Type 0 where
  pub tails : List ℕ
  pub counts : List ℕ
  pub is_begun : Bool
  pub first : ℕ
  pub room : ℕ

-- the tails stand in the tree once all streams were read
abbrev pub tails_of : Bool → List ℕ → List ℕ → List ℕ
tails_of is_begun keys firsts = if is_begun then keys else firsts

-- an ended stream has the count 0
abbrev pub pieces_of : ℕ → ℕ → List Piece
pieces_of tail count = if count == 0 then [] else record { tail = tail; count = count } ∷ []

-- the pieces that were read ahead of a stream: one or none
abbrev pub front_at : Fronts → ℕ → List Piece
front_at fronts k = pieces_of (number_at fronts.tails k) (number_at fronts.counts k)

-- what a stream's answer is put down as
abbrev pub tail_in : Option Piece → ℕ
tail_in None = greatest
tail_in (Some p) = p.tail

abbrev pub count_in : Option Piece → ℕ
count_in None = 0
count_in (Some p) = p.count

-- ended streams have the greatest tail
abbrev pub AreLast : Fronts → Type 0
AreLast fronts = (k : ℕ) → k < length fronts.counts → number_at fronts.counts k ≡ 0 → number_at fronts.tails k ≡ greatest

-- the tree knows all tails, if there are any
pub record IsBegun (fronts : Fronts) : Type 0 where
  pub len : length fronts.tails ≡ length fronts.counts
  pub begun : 1 ≤ length fronts.counts → fronts.is_begun ≡ true

-- a stream of which a piece of the least tail was read: the tree's first, or one of those that have the greatest tail with it
pub record IsFront (fronts : Fronts) (stream : ℕ) (piece : Piece) : Type 0 where
  pub within : stream < length fronts.counts
  pub tail : piece.tail ≡ number_at fronts.tails stream
  pub count : piece.count ≡ number_at fronts.counts stream
  pub some : 1 ≤ piece.count
  pub least : (k : ℕ) → k < length fronts.counts → piece.tail ≤ number_at fronts.tails k
  pub which : (stream ≡ fronts.first) ⊎ ((piece.tail ≡ greatest) × (number_at fronts.tails fronts.first ≡ greatest))

-- a stream that has not ended, and its piece
pub record IsLeft (fronts : Fronts) (stream : ℕ) (piece : Piece) : Type 0 where
  pub within : stream < length fronts.counts
  pub tail : piece.tail ≡ number_at fronts.tails stream
  pub count : piece.count ≡ number_at fronts.counts stream
  pub some : 1 ≤ piece.count
  pub bounded : piece.tail ≤ greatest

-- all streams ended
abbrev pub AreAllLast : Fronts → Type 0
AreAllLast fronts = (k : ℕ) → k < length fronts.counts → number_at fronts.counts k ≡ 0

-- a stream's answer was put down, and nothing else has changed
pub record IsPut (old new : Fronts) (stream : ℕ) (next : Option Piece) : Type 0 where
  pub len : length new.tails ≡ length new.counts
  pub within : stream < length new.counts
  pub tail : number_at new.tails stream ≡ tail_in next
  pub count : number_at new.counts stream ≡ count_in next
  pub tails : (k : ℕ) → k ≢ stream → number_at new.tails k ≡ number_at old.tails k
  pub counts : (k : ℕ) → k ≢ stream → number_at new.counts k ≡ number_at old.counts k
  pub read : (k : ℕ) → k ≢ stream → (k < length new.counts ↔ k < length old.counts)
  pub begun : new.is_begun ≡ old.is_begun
  pub room : new.room ≡ old.room

-- what stands between two calls
pub record IsKept (tree : Race) (firsts counts : List ℕ) (is_begun : Bool) (room firsts_room counts_room : ℕ) : Type 0 where
  pub len : length (tails_of is_begun tree.keys firsts) ≡ length counts
  pub some : is_begun ≡ true → 1 ≤ length tree.keys
  pub in_room : length counts ≤ room
  pub same_room : tree.room ≡ room
  pub firsts_reserved : room ≤ firsts_room
  pub counts_reserved : room ≤ counts_room
