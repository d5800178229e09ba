-- The sums of the pieces of several streams: what was given, and what is still to come.
use Rattle.std.specs.Prelude.{ℕ, ◌≡◌, ◌<◌, ◌≤◌, ◌==◌, ◌^◌, All, Bool, true, false, Option, Some, None, List, [], ◌∷◌, ◌++◌, length, if◌then◌else◌}
use Rattle.std.specs.Prelude.{Result, Ok, Err, IfSome, OnOk, MatchOption, map, sum_by, slice_index_or}
use Rattle.lert_base.specs.declared.pieces.PieceFault.{PieceFault}
use Rattle.lert_io.specs.Fault.{HasRisen}
use Rattle.lert_spec.specs.declared.piece.Piece.{Piece}
use Rattle.lert_spec.specs.Table.{count_of}
use Rattle.lert_merge.specs.order.Fronts.{pieces_of}
use Rattle.lert_merge.specs.order.Ordering.{Ordering, AreOver, AreKnown, AreSame, Breaks, Tells, HasTaken, AreEnded}
use Rattle.lert_merge.specs.declared.order.streams.Streams.{Ghosts as StreamsOf}
use Rattle.lert_merge.specs.declared.merge.Turn.{Turn}
use Rattle.lert_merge.specs.declared.merge.Turn.TheVariants.{Taken, Given}
use Rattle.lert_merge.specs.Givers.{Taking, share_in, sum_below, AreGivers}

-- an order, what was taken of it, and whether it is over
pub record Merging (S : Type 0) : Type 0 where
  pub order : Ordering S
  pub sums : Taking
  pub is_over : Bool

-- a stream's share of the piece given last
abbrev pub share_of : {S : Type 0} → Merging S → ℕ → ℕ
share_of merge k = share_in merge.sums.given k

-- what was taken of a stream for the next piece
abbrev pub taken_of : {S : Type 0} → Merging S → ℕ → List Piece
taken_of merge k = pieces_of merge.sums.tail (share_in merge.sums.taken k)

-- the pieces of a stream that the merge gave are these, each with the stream's own count: those that the order gave, without
-- what was taken for the next piece
abbrev pub HasSummed : {S C : Type 0} → StreamsOf S C → Merging S → ℕ → List Piece → Type 0
HasSummed members merge k pieces = HasTaken members merge.order k (pieces ++ taken_of merge k)

-- a stream's part of what the merge answered
abbrev pub part_summed : Option Piece → ℕ → List Piece
part_summed None share = []
part_summed (Some p) share = pieces_of p.tail share

-- the context tells what is to come of each stream, with what was taken of it for the next piece
pub record TellsSums {S C : Type 0} (members : StreamsOf S C) (ctx : C) (merge : Merging S) (lists : List (List Piece)) : Type 0 where
  pub rest : List (List Piece)
  pub told : Tells members ctx merge.order rest
  pub len : length lists ≡ length rest
  pub each : (k : ℕ) → k < length lists → slice_index_or lists k [] ≡ taken_of merge k ++ slice_index_or rest k []

-- how often a tail stands in all the lists
abbrev pub count_in_all : List (List Piece) → ℕ → ℕ
count_in_all lists tail = sum_by (λ pieces. count_of pieces tail) lists

-- the piece of the least tail in the lists, with the sum of its counts
pub record IsNextSum (lists : List (List Piece)) (piece : Piece) : Type 0 where
  pub counted : 1 ≤ piece.count
  pub count : piece.count ≡ count_in_all lists piece.tail
  pub least : (k : ℕ) → k < length lists → All (λ other. piece.tail ≤ other.tail) (slice_index_or lists k [])

-- each stream's share is the count of the tail in its list
abbrev pub AreShares : {S : Type 0} → Merging S → List (List Piece) → ℕ → Type 0
AreShares merge lists tail = (k : ℕ) → k < length lists → share_of merge k ≡ count_of (slice_index_or lists k []) tail

-- a list without the piece of a tail that it begins with
abbrev pub behind : ℕ → List Piece → List Piece
behind tail [] = []
behind tail (p ∷ ps) = if p.tail == tail then ps else p ∷ ps

-- a tail above that given last
abbrev pub IsAbove : Option ℕ → ℕ → Type 0
IsAbove last tail = (before : ℕ) → last ≡ Some before → before < tail

-- a tail below the limit of one of the streams
pub record IsBelowOne {S C : Type 0} (members : StreamsOf S C) (streams : S) (tail : ℕ) : Type 0 where
  pub stream : ℕ
  pub within : stream < members.count streams
  pub below : tail < members.limit streams stream

-- each stream answered that no more comes, and all that it gave was given
pub record AreSummedUp {S C : Type 0} (members : StreamsOf S C) (merge : Merging S) : Type 0 where
  pub order : AreEnded members merge.order
  pub none : merge.sums.taken ≡ []

-- a stream of which this much was taken for the next piece: it is what the order gave of it last
pub record IsPart {S C : Type 0} (members : StreamsOf S C) (order : Ordering S) (tail k share : ℕ) : Type 0 where
  pub front : List Piece
  pub taken : HasTaken members order k (front ++ record { tail = tail; count = share } ∷ [])
  pub below : tail < members.limit order.streams k

-- what stands between two calls
pub record IsMerging {S C : Type 0} (members : StreamsOf S C) (merge : Merging S) : Type 0 where
  pub few : members.count merge.order.streams ≤ 65535
  pub room : members.count merge.order.streams ≤ merge.sums.room
  pub same_room : merge.order.ahead.room ≡ merge.sums.room
  pub givers : AreGivers (members.count merge.order.streams) merge.sums.taken
  pub parts : (k : ℕ) → k < members.count merge.order.streams → 1 ≤ share_in merge.sums.taken k →
      IsPart members merge.order merge.sums.tail k (share_in merge.sums.taken k)
  pub last : 1 ≤ length merge.sums.taken → merge.order.last ≡ Some merge.sums.tail
  pub above : 1 ≤ length merge.sums.taken → IsAbove merge.sums.last merge.sums.tail
  pub first : merge.sums.taken ≡ [] → merge.is_over ≡ false → merge.sums.last ≡ None
  pub over : merge.is_over ≡ true → AreSummedUp members merge

-- nothing was given
pub record Keeps {S C : Type 0} (members : StreamsOf S C) (old new : Merging S) : Type 0 where
  pub taken : (k : ℕ) (pieces : List Piece) → k < members.count old.order.streams → HasSummed members old k pieces → HasSummed members new k pieces
  pub last : new.sums.last ≡ old.sums.last
  pub shares : (k : ℕ) → share_of new k ≡ share_of old k

-- this was given, or the end
pub record GivesSum {S C : Type 0} (members : StreamsOf S C) (old new : Merging S) (given : Option Piece) : Type 0 where
  pub above : IfSome given (λ p. IsAbove old.sums.last p.tail)
  pub below : IfSome given (λ p. IsBelowOne members new.order.streams p.tail)
  pub last : IfSome given (λ p. new.sums.last ≡ Some p.tail)
  pub sum : IfSome given (λ p. p.count ≡ sum_below (share_of new) (members.count new.order.streams))
  pub small : IfSome given (λ p. (1 ≤ p.count) × (p.count < 2 ^ 63))
  pub taken : (k : ℕ) (pieces : List Piece) → k < members.count old.order.streams → HasSummed members old k pieces →
      HasSummed members new k (pieces ++ part_summed given (share_of new k))
  pub over : given ≡ None → AreSummedUp members new
  pub nothing : given ≡ None → (new.sums.last ≡ old.sums.last) × ((k : ℕ) → share_of new k ≡ share_of old k)

-- what came of a turn
abbrev pub Moves : {S C : Type 0} → StreamsOf S C → Merging S → Merging S → Result Turn PieceFault → Type 0
Moves members old new (Ok Taken) = Keeps members old new
Moves members old new (Ok (Given given)) = GivesSum members old new given
Moves members old new (Err fault) = Keeps members old new

-- what is to come behind it
abbrev pub ComesBehind : {S C : Type 0} → StreamsOf S C → C → Merging S → List (List Piece) → Result Turn PieceFault → Type 0
ComesBehind members ctx new lists (Ok Taken) = TellsSums members ctx new lists
ComesBehind members ctx new lists (Ok (Given given)) = MatchOption given (AreOver lists × TellsSums members ctx new lists)
    (λ p. IsNextSum lists p × AreShares new lists p.tail × TellsSums members ctx new (map (behind p.tail) lists))
ComesBehind members ctx new lists (Err fault) = Unit {0}

-- a turn, whatever came of it
pub record HasTurned {S C : Type 0} (members : StreamsOf S C) (faults mark : C → ℕ) (before : C) (old : Merging S) (after : C) (new : Merging S)
    (result : Result Turn PieceFault) : Type 0 where
  pub same : AreSame members before old.order after new.order
  pub set : members.same old.order.streams new.order.streams
  pub untold : (k : ℕ) → k < members.count old.order.streams → members.to_come old.order.streams k before ≡ None → members.to_come new.order.streams k after ≡ None
  pub known : OnOk result (AreKnown members before old.order after new.order)
  pub moved : Moves members old new result
  pub told : (lists : List (List Piece)) → TellsSums members before old lists → ComesBehind members after new lists result
  pub failed : result ≡ Err PieceFault.Failed → HasRisen (faults before) (faults after)
  pub malformed : (at : ℕ) → result ≡ Err (PieceFault.Malformed at) → Breaks members before old.order.streams at
  pub rises : faults before ≤ faults after
  pub marked : mark after ≡ mark before
  pub kept : members.keeps before after

-- the next piece, by turns
abbrev pub turn_of : Result (Option Piece) PieceFault → Result Turn PieceFault
turn_of (Ok given) = Ok (Given given)
turn_of (Err fault) = Err fault
