-- The parts of a merge, computed.
use Rattle.std.proofs.Common.{ℕ, ◌≡◌, [], ◌∷◌, Some, None, refl}
use Rattle.lert_levels.specs.flush.Merged.{picked}

-- of four streams the second is of no part, and the last is of another one
two_of_four : picked {A = ℕ} (Some 1 ∷ None ∷ Some 1 ∷ Some 0 ∷ []) 1 (5 ∷ 6 ∷ 7 ∷ 8 ∷ []) ≡ 5 ∷ 7 ∷ []
two_of_four = refl
