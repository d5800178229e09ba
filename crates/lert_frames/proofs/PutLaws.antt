-- One piece more of a list that is put.
use Rattle.std.{proofs.Common.{ℕ, ◌≡◌, ◌+◌, ◌<◌, ◌≤◌, zero, suc, List, [], ◌∷◌, ◌++◌, length, take, get_or, ap, sym, ◌∙◌, subst, arith}, proofs.lemmas.List.take_more}
use Rattle.lert_spec.{proofs.GivenLaws.given_take, specs.declared.piece.Piece.Piece, specs.Table.{costs, AreGiven}}

pub costs_front : (version n : ℕ) (pieces : List Piece) → costs version (take n pieces) ≤ costs version pieces
costs_front version zero pieces = omega arith
costs_front version (suc n) [] = omega arith
costs_front version (suc n) (p ∷ pieces) = let rest = costs_front version n pieces in omega arith

module _ (limit i : ℕ) (pieces put : List Piece) (d : Piece) (below : i < length pieces) (put_is : put ≡ take i pieces) where
  pub put_more : put ++ get_or pieces i d ∷ [] ≡ take (i + 1) pieces
  put_more = ap (λ front. front ++ get_or pieces i d ∷ []) put_is ∙ sym (take_more pieces i d below)

  pub put_given : AreGiven limit pieces → AreGiven limit (put ++ get_or pieces i d ∷ [])
  put_given given = subst (AreGiven limit) (sym put_more) (given_take limit (i + 1) pieces given)

  pub put_fits : (version most : ℕ) → costs version pieces ≤ most → costs version (put ++ get_or pieces i d ∷ []) ≤ most
  put_fits version most fits = omega (arith, ap (costs version) put_more, costs_front version (i + 1) pieces, fits)
