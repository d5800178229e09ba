-- Two pieces, which the tests' stream gives.
use Rattle.std.proofs.Common.{ℕ, zero, suc, ◌≡◌, ◌^◌, ◌<◌, ◌≤◌, get_or, List, [], ◌∷◌, ◌++◌, take, drop, Some, refl, arith, lit≤, lit<, sym, ap, ◌∙◌, subst}
use Rattle.std.proofs.lemmas.List.{take-append-drop}
use Rattle.lert_spec.specs.declared.piece.Piece.{Piece}
use Rattle.lert_spec.specs.Table.{AreGiven}

abbrev pub two : List Piece
two = record { tail = 3; count = 1 } ∷ record { tail = 5; count = 2 } ∷ []

two_counts : (k : ℕ) (d : Piece) → k < 2 → (get_or two k d).count ≤ 2 ^ 47
two_counts zero d within = lit≤ tt
two_counts (suc zero) d within = lit≤ tt
two_counts (suc (suc k)) d within = absurd (omega arith)

two_are_given : AreGiven 6 two
two_are_given = record {
  table = (lit≤ tt, lit< tt, lit≤ tt, (lit≤ tt, lit< tt, lit≤ tt, tt));
  counts = two_counts;
}

pub two_in_order : (n : ℕ) (pieces : List Piece) → Some (drop n two) ≡ Some pieces → AreGiven 6 (take n two ++ pieces)
two_in_order n pieces told =
    let left : pieces ≡ drop n two = cc in
    subst (AreGiven 6) (sym (ap (λ xs. take n two ++ xs) left ∙ take-append-drop n two)) two_are_given
