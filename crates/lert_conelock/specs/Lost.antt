-- What a try counts.
use Rattle.std.specs.Prelude.{ℕ, List, [], ◌∷◌}
use Rattle.lert_conelock.specs.{Moves.{Move, Take, Free, Miss}, declared.turn.Turn.Turn, declared.turn.Turn.TheVariants.{Done, Refused, Busy}}

-- how many takes a try lost
abbrev pub lost : {A F : Type 0} → Turn A F → ℕ
lost (Done reply) = 0
lost (Refused refusal) = 0
lost Busy = 1

-- what a try under a number does to the lock, by a pass of the numbers below another
abbrev pub moves_of : {A F : Type 0} → ℕ → ℕ → Turn A F → List Move
moves_of number hi (Done reply) = Take number ∷ Free number ∷ []
moves_of number hi (Refused refusal) = Take number ∷ Free number ∷ []
moves_of number hi Busy = Miss number hi ∷ []
