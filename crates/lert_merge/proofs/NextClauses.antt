-- What the turns of a call say of the next piece.
use Rattle.std.proofs.Common.{◌≡◌, ℕ, ◌<◌, ◌≤◌, ◌^◌, Option, Some, None, Result, Ok, Err, MatchOption, IfOk, OnErr, IfSome, List, ◌++◌, map, ap, refl}
use Rattle.lert_base.specs.declared.pieces.PieceFault.{PieceFault}
use Rattle.lert_spec.specs.declared.piece.Piece.{Piece}
use Rattle.lert_io.specs.Fault.{HasRisen}
use Rattle.lert_merge.specs.{order.Ordering.{AreOver, Breaks, IsNothingGiven}, declared.order.streams.Streams.Ghosts as StreamsOf, Givers.sum_below}
use Rattle.lert_merge.specs.Merging.{Merging, HasTurned, turn_of, TellsSums, HasSummed, part_summed, IsNextSum, AreShares, IsAbove, IsBelowOne, AreSummedUp, share_of, behind}

module _ {S C : Type 0} (members : StreamsOf S C) (faults mark : C → ℕ) (a b : C) (old new : Merging S) where
  pub told_of : (result : Result (Option Piece) PieceFault) → HasTurned members faults mark a old b new (turn_of result) → (lists : List (List Piece)) →
      TellsSums members a old lists → IfOk result (λ piece. MatchOption piece (AreOver lists × TellsSums members b new lists)
      (λ p. IsNextSum lists p × AreShares new lists p.tail × TellsSums members b new (map (behind p.tail) lists)))
  told_of (Ok piece) turned lists tells = turned.told lists tells
  told_of (Err fault) turned lists tells = tt

  pub above_of : (result : Result (Option Piece) PieceFault) → HasTurned members faults mark a old b new (turn_of result) →
      IfOk result (λ piece. IfSome piece (λ p. IsAbove old.sums.last p.tail))
  above_of (Ok piece) turned = turned.moved.above
  above_of (Err fault) turned = tt

  pub below_of : (result : Result (Option Piece) PieceFault) → HasTurned members faults mark a old b new (turn_of result) →
      IfOk result (λ piece. IfSome piece (λ p. IsBelowOne members new.order.streams p.tail))
  below_of (Ok piece) turned = turned.moved.below
  below_of (Err fault) turned = tt

  pub last_of : (result : Result (Option Piece) PieceFault) → HasTurned members faults mark a old b new (turn_of result) →
      IfOk result (λ piece. IfSome piece (λ p. new.sums.last ≡ Some p.tail))
  last_of (Ok piece) turned = turned.moved.last
  last_of (Err fault) turned = tt

  pub sum_of : (result : Result (Option Piece) PieceFault) → HasTurned members faults mark a old b new (turn_of result) →
      IfOk result (λ piece. IfSome piece (λ p. p.count ≡ sum_below (share_of new) (members.count new.order.streams)))
  sum_of (Ok piece) turned = turned.moved.sum
  sum_of (Err fault) turned = tt

  pub small_of : (result : Result (Option Piece) PieceFault) → HasTurned members faults mark a old b new (turn_of result) →
      IfOk result (λ piece. IfSome piece (λ p. (1 ≤ p.count) × (p.count < 2 ^ 63)))
  small_of (Ok piece) turned = turned.moved.small
  small_of (Err fault) turned = tt

  pub taken_of_it : (result : Result (Option Piece) PieceFault) → HasTurned members faults mark a old b new (turn_of result) →
      IfOk result (λ piece. (k : ℕ) (pieces : List Piece) → k < members.count old.order.streams → HasSummed members old k pieces →
      HasSummed members new k (pieces ++ part_summed piece (share_of new k)))
  taken_of_it (Ok piece) turned = turned.moved.taken
  taken_of_it (Err fault) turned = tt

  pub refused_of : (result : Result (Option Piece) PieceFault) → HasTurned members faults mark a old b new (turn_of result) →
      OnErr result ((k : ℕ) (pieces : List Piece) → k < members.count old.order.streams → HasSummed members old k pieces → HasSummed members new k pieces)
  refused_of (Ok piece) turned = tt
  refused_of (Err fault) turned = turned.moved.taken

  pub over_of : (result : Result (Option Piece) PieceFault) → HasTurned members faults mark a old b new (turn_of result) → result ≡ Ok None → AreSummedUp members new
  over_of (Ok piece) turned is = turned.moved.over (let none : piece ≡ None = cc (is) in none)
  over_of (Err fault) turned is = absurd (cc (is))

  pub nothing_of : (result : Result (Option Piece) PieceFault) → HasTurned members faults mark a old b new (turn_of result) → IsNothingGiven result →
      (new.sums.last ≡ old.sums.last) × ((k : ℕ) → share_of new k ≡ share_of old k)
  nothing_of (Ok None) turned nothing = turned.moved.nothing refl
  nothing_of (Ok (Some p)) turned nothing = absurd nothing
  nothing_of (Err fault) turned nothing = (turned.moved.last, turned.moved.shares)

  pub failed_of : (result : Result (Option Piece) PieceFault) → HasTurned members faults mark a old b new (turn_of result) → result ≡ Err PieceFault.Failed →
      HasRisen (faults a) (faults b)
  failed_of (Ok piece) turned is = absurd (cc (is))
  failed_of (Err fault) turned is = turned.failed (let at : fault ≡ PieceFault.Failed = cc (is) in ap Err at)

  pub malformed_of : (result : Result (Option Piece) PieceFault) → HasTurned members faults mark a old b new (turn_of result) → (at : ℕ) →
      result ≡ Err (PieceFault.Malformed at) → Breaks members a old.order.streams at
  malformed_of (Ok piece) turned at is = absurd (cc (is))
  malformed_of (Err fault) turned at is = turned.malformed at (let here : fault ≡ PieceFault.Malformed at = cc (is) in ap Err here)
