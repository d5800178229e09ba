-- What is in hand is given.
use Rattle.std.proofs.Common.{◌≡◌, ℕ, ◌<◌, ◌≤◌, ◌^◌, Option, Some, None, IfSome, List, [], ◌++◌, length, map, get_or, sum_by, All, arith, sym, ap, ◌∙◌, refl, subst, append-nil}
use Rattle.std.proofs.lemmas.List.{get_or-map, length-map}
use Rattle.lert_spec.specs.{declared.piece.Piece.Piece, Table.count_of}
use Rattle.lert_merge.specs.{order.Fronts.{pieces_of, front_at}, order.Ordering.{Ordering, part_in, Tells, AreEnded}, declared.order.streams.Streams.Ghosts as StreamsOf}
use Rattle.lert_merge.specs.{Givers.{Taking, share_in, sum_below}, Merging.{Merging, IsMerging, HasSummed, GivesSum, TellsSums, IsNextSum, AreShares, IsBelowOne, taken_of, share_of, behind}}
use Rattle.lert_merge.proofs.{GiverLemmas.{sum_same, sum_list, some_shared}, PartLemmas.{IsShared, shared_is}, StepLemmas.{HasStepped, comes_then}}

-- what is in hand was given for a step of the order: what was taken since is that step's piece
pub record IsGivenFor {S : Type 0} (m after : Merging S) (y : Ordering S) (given : Option (ℕ × Piece)) (q : Piece) : Type 0 where
  pub order : after.order ≡ y
  pub some : 1 ≤ length m.sums.taken
  pub tail : q.tail ≡ m.sums.tail
  pub count : q.count ≡ sum_by (λ giver. giver.count) m.sums.taken
  pub counted : 1 ≤ q.count
  pub small : q.count < 2 ^ 63
  pub givers : after.sums.given ≡ m.sums.taken
  pub last : after.sums.last ≡ Some m.sums.tail
  pub hand : (k : ℕ) → taken_of after k ≡ part_in given k
  pub above : IfSome given (λ g. m.sums.tail < g.1.tail)

module _ {S C : Type 0} (members : StreamsOf S C) (faults mark : C → ℕ) (a b : C) (m after : Merging S) (y : Ordering S) (given : Option (ℕ × Piece)) (q : Piece)
    (is : IsMerging members m) (stepped : HasStepped members faults mark a m.order b y given) (gave : IsGivenFor m after y given q) where
  share_is : (k : ℕ) → share_of after k ≡ share_in m.sums.taken k
  share_is k = ap (λ givers. share_in givers k) gave.givers

  as_many : members.count after.order.streams ≡ members.count m.order.streams
  as_many = ap (λ (order : Ordering S). members.count order.streams) gave.order ∙ stepped.same.streams

  below_one : IsBelowOne members after.order.streams q.tail
  below_one = let one = some_shared (members.count m.order.streams) m.sums.taken is.givers gave.some in
      let part = is.parts one.0 one.1 one.2 in let low : m.sums.tail < members.limit m.order.streams one.0 = part.below in
      let same : members.limit y.streams one.0 ≡ members.limit m.order.streams one.0 = stepped.same.limits one.0 one.1 in
      let still : members.limit after.order.streams one.0 ≡ members.limit y.streams one.0 = ap (λ (order : Ordering S). members.limit order.streams one.0) gave.order in
      let inside : one.0 < members.count m.order.streams = one.1 in let many : members.count after.order.streams ≡ members.count m.order.streams = as_many in
      let tail : q.tail ≡ m.sums.tail = gave.tail in record { stream = one.0; within = omega arith; below = omega arith }

  taken_then : (k : ℕ) (pieces : List Piece) → k < members.count m.order.streams → HasSummed members m k pieces →
      HasSummed members after k (pieces ++ pieces_of q.tail (share_of after k))
  taken_then k pieces under was =
      let shape : (pieces ++ taken_of m k) ++ part_in given k ≡ (pieces ++ pieces_of q.tail (share_of after k)) ++ taken_of after k =
      ap (λ xs. (pieces ++ taken_of m k) ++ xs) (sym (gave.hand k)) ∙
      (λ j. (pieces ++ pieces_of (sym gave.tail j) (sym (share_is k) j)) ++ taken_of after k) in
      subst (λ (order : Ordering S). members.given order.streams k ≡ ((pieces ++ pieces_of q.tail (share_of after k)) ++ taken_of after k) ++ front_at order.ahead k)
      (sym gave.order) (stepped.taken k (pieces ++ taken_of m k) under was ∙ ap (λ xs. xs ++ front_at y.ahead k) shape)

  pub gives_sum : GivesSum members m after (Some q)
  gives_sum = record {
    above = λ last was. let up : last < m.sums.tail = is.above gave.some last was in let tail : q.tail ≡ m.sums.tail = gave.tail in omega arith;
    below = below_one;
    last = gave.last ∙ ap Some (sym gave.tail);
    sum = gave.count ∙ is.givers.sum ∙ sum_same (share_in m.sums.taken) (share_of after) (members.count m.order.streams) (λ k under. sym (share_is k)) ∙
        ap (sum_below (share_of after)) (sym as_many);
    small = (gave.counted, gave.small);
    taken = taken_then;
    over = λ no. absurd (cc (no));
    nothing = λ no. absurd (cc (no));
  }

  pub told_sum : (lists : List (List Piece)) → TellsSums members a m lists →
      IsNextSum lists q × AreShares after lists q.tail × TellsSums members b after (map (behind q.tail) lists)
  told_sum lists tells =
      let come = comes_then members faults mark a b m.order y given tells.rest stepped tells.told in
      let long : length lists ≡ length tells.rest = tells.len in
      let many : length tells.rest ≡ members.count m.order.streams = tells.told.len in
      let shared : (k : ℕ) → k < length lists → IsShared q.tail (share_of after k) (get_or lists k []) (get_or tells.rest k []) = λ k under.
      shared_is q.tail (share_of after k) (get_or lists k []) (get_or tells.rest k [])
      (tells.each k under ∙ (λ j. pieces_of (sym gave.tail j) (sym (share_is k) j) ++ get_or tells.rest k []))
      (subst (λ tail. All (λ (other : Piece). tail < other.tail) (get_or tells.rest k [])) (sym gave.tail) (come.above m.sums.tail gave.above k (omega arith))) in (
        record {
          counted = gave.counted;
          count = gave.count ∙ is.givers.sum ∙
              sum_same (share_in m.sums.taken) (λ k. count_of (get_or lists k []) q.tail) (members.count m.order.streams)
              (λ k under. sym (share_is k) ∙ (shared k (omega arith)).count) ∙
              ap (sum_below (λ k. count_of (get_or lists k []) q.tail)) (sym (long ∙ many)) ∙ sum_list (λ pieces. count_of pieces q.tail) lists [];
          least = λ k under. (shared k under).least;
        },
        (λ k under. (shared k under).count),
        record {
          rest = come.rest;
          told = subst (λ (order : Ordering S). Tells members b order come.rest) (sym gave.order) come.told;
          len = length-map lists (behind q.tail) ∙ long ∙ sym come.len;
          each = λ k under. let under_lists : k < length lists = let same : length (map (behind q.tail) lists) ≡ length lists = length-map lists (behind q.tail) in omega arith in
              get_or-map (behind q.tail) lists k [] [] under_lists ∙ (shared k under_lists).left ∙ come.each k (omega arith) ∙
              ap (λ xs. xs ++ get_or come.rest k []) (sym (gave.hand k));
        },
      )

-- the order is over, and nothing was in hand
pub gives_end : {S C : Type 0} (members : StreamsOf S C) (faults mark : C → ℕ) (a b : C) (m after : Merging S) (y : Ordering S) →
    HasStepped members faults mark a m.order b y None → m.sums.taken ≡ [] → after.order ≡ y → after.sums ≡ m.sums → GivesSum members m after None
gives_end {S} members faults mark a b m after y stepped none order sums = record {
  above = tt;
  below = tt;
  last = tt;
  sum = tt;
  small = tt;
  taken = λ k pieces under was.
      let shape : (pieces ++ taken_of m k) ++ [] ≡ (pieces ++ []) ++ taken_of after k = append-nil (pieces ++ taken_of m k) ∙
      (λ j. sym (append-nil pieces) j ++ pieces_of (sym sums j).tail (share_in (sym sums j).taken k)) in
      subst (λ (x : Ordering S). members.given x.streams k ≡ ((pieces ++ []) ++ taken_of after k) ++ front_at x.ahead k) (sym order)
      (stepped.taken k (pieces ++ taken_of m k) under was ∙ ap (λ xs. xs ++ front_at y.ahead k) shape);
  over = λ is. record { order = subst (λ (x : Ordering S). AreEnded members x) (sym order) (stepped.over refl); none = ap (λ (s : Taking). s.taken) sums ∙ none };
  nothing = λ is. (ap (λ (s : Taking). s.last) sums, λ k. ap (λ (s : Taking). share_in s.given k) sums);
}
