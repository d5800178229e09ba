-- The first piece that is ready is given.
use Rattle.std.{proofs.Common.{◌≡◌, ◌+◌, ◌<◌, ◌∙◌, ℕ, List, [], ◌∷◌, ◌++◌, length, drop, get_or, ap, sym, append_assoc}, proofs.lemmas.List.drop_more}
use Rattle.lert_spec.specs.declared.piece.Piece.{Piece}

module _ (pieces : List Piece) (given : ℕ) (piece : Piece) (within : given < length pieces) (is : piece ≡ get_or pieces given piece) where
  pub ready_is : drop given pieces ≡ piece ∷ drop (given + 1) pieces
  ready_is = drop_more pieces given piece within ∙ ap (λ first. first ∷ drop (given + 1) pieces) (sym is)

  -- those that were given and those that are ready stay the same together
  pub same_pieces : (before after : List Piece) → after ≡ before ++ piece ∷ [] → before ++ drop given pieces ≡ after ++ drop (given + 1) pieces
  same_pieces before after put =
      let rest = drop (given + 1) pieces in
      ap (λ ready. before ++ ready) ready_is ∙ (sym (append_assoc before (piece ∷ []) rest) ∙ ap (λ gave. gave ++ rest) (sym put))
