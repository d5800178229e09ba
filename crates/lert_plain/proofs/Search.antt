-- The steps of a binary search for a tail.
use Rattle.std.proofs.{Common.{ℕ, ◌≡◌, ◌≢◌, ◌+◌, ◌<◌, ◌≤◌, List, length, get_or, ap, arith, inl, inr}, lemmas.Bool.cases_lt, lemmas.List.get_or_default}
use Rattle.lert_spec.specs.{Table.AscendsFrom, declared.piece.Piece.Piece}
use Rattle.lert_spec.proofs.Tables.{tail_ascends}
use Rattle.lert_plain.specs.Place.{IsBetween, IsAbsent}

module _ (least limit : ℕ) (ps : List Piece) (tail low high : ℕ) (ascends : AscendsFrom least limit ps) (between : IsBetween ps tail low high) where
  -- the piece at `middle` is below the tail, so all up to it are
  pub IsBetween-raise : (middle : ℕ) (e : Piece) → middle < high → (get_or ps middle e).tail < tail → IsBetween ps tail (middle + 1) high
  IsBetween-raise middle e before smaller = record {
    ordered = omega arith;
    within = between.within;
    below = λ k d h.
        let same = ap (λ p. p.tail) (get_or_default ps k d e (omega (arith, between.within))) in
        elim (cases_lt k middle) [
          | inl earlier ↦ (let up = tail_ascends least limit ps k middle e ascends earlier (omega (arith, between.within)) in omega arith)
          | inr later ↦ (let here : k ≡ middle = omega arith in
              let there = ap (λ i. (get_or ps i e).tail) here in omega arith)
        ];
    from = between.from;
  }

  -- the piece at `middle` isn't below the tail, so none from it on is
  pub IsBetween-lower : (middle : ℕ) (e : Piece) → low ≤ middle → middle < high → tail ≤ (get_or ps middle e).tail → IsBetween ps tail low middle
  IsBetween-lower middle e from_low before greater = record {
    ordered = from_low;
    within = omega (arith, between.within);
    below = between.below;
    from = λ k d h i.
        let same = ap (λ p. p.tail) (get_or_default ps k d e i) in
        elim (cases_lt middle k) [
          | inl later ↦ (let up = tail_ascends least limit ps middle k e ascends later i in omega arith)
          | inr earlier ↦ (let here : k ≡ middle = omega arith in
              let there = ap (λ j. (get_or ps j e).tail) here in omega arith)
        ];
  }

  -- the search ended at a place whose piece, if any, hasn't the tail
  pub IsAbsent-end : (e : Piece) → high ≤ low → (low < length ps → (get_or ps low e).tail ≢ tail) → IsAbsent ps tail low
  IsAbsent-end e done other = record {
    within = omega (arith, between.ordered, between.within);
    below = between.below;
    above = λ k d h i.
        let same = ap (λ p. p.tail) (get_or_default ps k d e i) in
        let least_here = between.from k d (omega (arith, between.ordered)) i in
        elim (cases_lt low k) [
          | inl later ↦ (
              let up = tail_ascends least limit ps low k e ascends later i in
              let first = between.from low e (omega (arith, between.ordered)) (omega arith) in omega arith)
          | inr earlier ↦ (let here : k ≡ low = omega arith in
              let there = ap (λ j. (get_or ps j e).tail) here in
              let no = other (omega arith) in omega arith)
        ];
  }
