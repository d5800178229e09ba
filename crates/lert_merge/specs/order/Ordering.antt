-- Several streams in one order: what was read ahead of each, what was given of each, and what is still to come.
use Rattle.std.specs.Prelude.{ℕ, ◌≡◌, ◌≢◌, ◌<◌, ◌≤◌, ◌==◌, ◌^◌, ◌↔◌, All, true, Option, Some, None, List, [], ◌∷◌, ◌++◌, length, if◌then◌else◌, Result, Ok, Err, slice_index_or}
use Rattle.lert_base.specs.declared.pieces.PieceFault.{PieceFault}
use Rattle.lert_spec.specs.{declared.piece.Piece.Piece, Table.AreGiven}
use Rattle.lert_merge.specs.{tree.Race.number_at, order.Fronts.{Fronts, front_at, AreLast, IsBegun}, declared.order.streams.Streams.Ghosts as StreamsOf}

-- the streams, what was read ahead of them, and the tail that was given last
pub record Ordering (S : Type 0) : Type 0 where
  pub streams : S
  pub ahead : Fronts
  pub last : Option ℕ

-- each stream was read once at least
abbrev pub AreRead : {S C : Type 0} → StreamsOf S C → Ordering S → Type 0
AreRead members order = length order.ahead.counts ≡ members.count order.streams

-- the next piece can be given
pub record IsReady {S C : Type 0} (members : StreamsOf S C) (order : Ordering S) : Type 0 where
  pub read : AreRead members order
  pub begun : IsBegun order.ahead

-- the pieces of a stream that were given are these: those that the stream gave, without the one read ahead
abbrev pub HasTaken : {S C : Type 0} → StreamsOf S C → Ordering S → ℕ → List Piece → Type 0
HasTaken members order k pieces = members.given order.streams k ≡ pieces ++ front_at order.ahead k

-- a stream's part of an answer: the piece, if it is the stream's
abbrev pub part_in : Option (ℕ × Piece) → ℕ → List Piece
part_in None k = []
part_in (Some g) k = if g.0 == k then g.1 ∷ [] else []

-- nothing is given of any stream
abbrev pub none_of : ℕ → List Piece
none_of k = []

-- a stream's part of a result: none of a refusal
abbrev pub part_of : Result (Option (ℕ × Piece)) PieceFault → ℕ → List Piece
part_of (Ok given) k = part_in given k
part_of (Err fault) k = []

-- what is to come of a stream, with what was read ahead of it
pub record IsToCome {S C : Type 0} (members : StreamsOf S C) (ctx : C) (streams : S) (fronts : Fronts) (k : ℕ) (pieces : List Piece) : Type 0 where
  pub rest : List Piece
  pub told : members.to_come streams k ctx ≡ Some rest
  pub is : pieces ≡ front_at fronts k ++ rest
  pub ended : k < length fronts.counts → number_at fronts.counts k ≡ 0 → rest ≡ []

-- the context tells what is to come of each stream
pub record Tells {S C : Type 0} (members : StreamsOf S C) (ctx : C) (order : Ordering S) (lists : List (List Piece)) : Type 0 where
  pub len : length lists ≡ members.count order.streams
  pub each : (k : ℕ) → k < members.count order.streams → IsToCome members ctx order.streams order.ahead k (slice_index_or lists k [])

-- nothing is left in the lists
abbrev pub AreOver : List (List Piece) → Type 0
AreOver lists = (k : ℕ) → k < length lists → slice_index_or lists k [] ≡ []

-- a piece at the front of one of the lists, of the least tail in all of them, and what comes behind it
pub record IsNext (lists : List (List Piece)) (stream : ℕ) (piece : Piece) (rest : List Piece) : Type 0 where
  pub within : stream < length lists
  pub front : slice_index_or lists stream [] ≡ piece ∷ rest
  pub least : (k : ℕ) → k < length lists → All (λ other. piece.tail ≤ other.tail) (slice_index_or lists k [])

-- a tail at least the one given last
abbrev pub IsNotBelow : Option ℕ → ℕ → Type 0
IsNotBelow last tail = (before : ℕ) → last ≡ Some before → before ≤ tail

-- a tail below the limit of a stream
pub record IsBelow {S C : Type 0} (members : StreamsOf S C) (streams : S) (stream tail : ℕ) : Type 0 where
  pub within : stream < members.count streams
  pub below : tail < members.limit streams stream

-- each stream answered that no more comes, and all that it gave was given
pub record AreEnded {S C : Type 0} (members : StreamsOf S C) (order : Ordering S) : Type 0 where
  pub all : AreRead members order
  pub ended : (k : ℕ) → k < members.count order.streams → number_at order.ahead.counts k ≡ 0

-- no piece came: it is over, or a stream refused
abbrev pub IsNothingGiven : {T : Type 0} → Result (Option T) PieceFault → Type 0
IsNothingGiven (Ok None) = Unit {0}
IsNothingGiven (Ok (Some g)) = ⊥
IsNothingGiven (Err fault) = Unit {0}

-- a stream that this piece was read ahead of
pub record IsAhead (limit : ℕ) (pieces : List Piece) (last : Option ℕ) (piece : Piece) : Type 0 where
  pub given : AreGiven limit pieces
  pub front : List Piece
  pub is : pieces ≡ front ++ piece ∷ []
  pub above : IsNotBelow last piece.tail

-- what was read ahead of a stream, if something was, is what it gave last
abbrev pub IsSeated : ℕ → List Piece → Option ℕ → ℕ → ℕ → Type 0
IsSeated limit pieces last tail count = 1 ≤ count → IsAhead limit pieces last (record { tail = tail; count = count })

-- what stands between two calls: nothing is given before all streams were read
pub record IsOrdering {S C : Type 0} (members : StreamsOf S C) (order : Ordering S) : Type 0 where
  pub few : members.count order.streams ≤ 65535
  pub room : members.count order.streams ≤ order.ahead.room
  pub len : length order.ahead.tails ≡ length order.ahead.counts
  pub within : length order.ahead.counts ≤ members.count order.streams
  pub begun : order.ahead.is_begun ≡ true → AreRead members order
  pub unread : length order.ahead.counts < members.count order.streams → order.last ≡ None
  pub ended : AreLast order.ahead
  pub seated : (k : ℕ) → k < members.count order.streams → IsSeated (members.limit order.streams k) (members.given order.streams k)
      order.last (number_at order.ahead.tails k) (number_at order.ahead.counts k)

-- a stream and what is read ahead of it, before and after this much of it was given: its limit and its breaks are the same
pub record Gives {S C : Type 0} (members : StreamsOf S C) (k : ℕ) (part : List Piece) (before : C) (old : Ordering S) (after : C) (new : Ordering S) : Type 0 where
  pub taken : (pieces : List Piece) → HasTaken members old k pieces → HasTaken members new k (pieces ++ part)
  pub untold : members.to_come old.streams k before ≡ None → members.to_come new.streams k after ≡ None
  pub limits : members.limit new.streams k ≡ members.limit old.streams k
  pub same_breaks : (at : ℕ) → members.breaks new.streams k after at ↔ members.breaks old.streams k before at

-- each stream gives its part
pub record AllGive {S C : Type 0} (members : StreamsOf S C) (part : ℕ → List Piece) (before : C) (old : Ordering S) (after : C) (new : Ordering S) : Type 0 where
  pub streams : members.count new.streams ≡ members.count old.streams
  pub room : new.ahead.room ≡ old.ahead.room
  pub kept : members.same old.streams new.streams
  pub each : (k : ℕ) → k < members.count old.streams → Gives members k (part k) before old after new

-- where a stream was told it still is
abbrev pub AreKnown : {S C : Type 0} → StreamsOf S C → C → Ordering S → C → Ordering S → Type 0
AreKnown members before old after new = (k : ℕ) → k < members.count old.streams →
    members.to_come new.streams k after ≡ None → members.to_come old.streams k before ≡ None

-- where the context tells, no stream has ended that leaves its format: what was to come of it was told
abbrev pub AreWhole : {S C : Type 0} → StreamsOf S C → C → Ordering S → Type 0
AreWhole members ctx order = members.tells ctx → (k : ℕ) → k < members.count order.streams → k < length order.ahead.counts →
    number_at order.ahead.counts k ≡ 0 → members.to_come order.streams k ctx ≢ None

-- what is to come of each stream, with what was read ahead of it, is the same, and where it was told it still is
pub record AllTold {S C : Type 0} (members : StreamsOf S C) (before : C) (old : Ordering S) (after : C) (new : Ordering S) : Type 0 where
  pub same : (k : ℕ) (pieces : List Piece) → k < members.count old.streams →
      IsToCome members before old.streams old.ahead k pieces → IsToCome members after new.streams new.ahead k pieces
  pub known : AreKnown members before old after new

-- no call changes how many streams there are, their limits, where they leave their format, or the room
pub record AreSame {S C : Type 0} (members : StreamsOf S C) (before : C) (old : Ordering S) (after : C) (new : Ordering S) : Type 0 where
  pub streams : members.count new.streams ≡ members.count old.streams
  pub room : new.ahead.room ≡ old.ahead.room
  pub limits : (k : ℕ) → k < members.count old.streams → members.limit new.streams k ≡ members.limit old.streams k
  pub same_breaks : (k at : ℕ) → k < members.count old.streams → members.breaks new.streams k after at ↔ members.breaks old.streams k before at

-- the tree knows all tails, and nothing else has changed
pub record IsStarted {S : Type 0} (old new : Ordering S) : Type 0 where
  pub streams : new.streams ≡ old.streams
  pub last : new.last ≡ old.last
  pub tails : new.ahead.tails ≡ old.ahead.tails
  pub counts : new.ahead.counts ≡ old.ahead.counts
  pub room : new.ahead.room ≡ old.ahead.room

-- what a piece that is given has to do with its stream and with the one given before it
pub record IsGiven {S C : Type 0} (members : StreamsOf S C) (old new : Ordering S) (stream : ℕ) (piece : Piece) : Type 0 where
  pub above : IsNotBelow old.last piece.tail
  pub below : IsBelow members new.streams stream piece.tail
  pub last : new.last ≡ Some piece.tail
  pub counted : 1 ≤ piece.count
  pub small : piece.count ≤ 2 ^ 47
  pub ascending : (pieces : List Piece) → HasTaken members old stream pieces → AreGiven (members.limit new.streams stream) (pieces ++ piece ∷ [])

-- one of the streams leaves its format here, and isn't told
pub record Breaks {S C : Type 0} (members : StreamsOf S C) (ctx : C) (streams : S) (at : ℕ) : Type 0 where
  pub stream : ℕ
  pub within : stream < members.count streams
  pub untold : members.to_come streams stream ctx ≡ None
  pub at_it : members.breaks streams stream ctx at
