-- The definitions on worked bytes.
use Rattle.std.proofs.Common.{◌≡◌, [], ◌∷◌, refl, List, map}
use Rattle.std.specs.Prelude.{slice_set}
use Rattle.lert_levels.specs.{declared.bound.pair.Pair.Pair, bound.Bytes.{nothing, pair_of, risen, turned}}

-- three places: 1 more of tail 7, whose place is 1
places : List Pair
places = nothing ∷ record { before = 3; present = 254 } ∷ nothing ∷ []

once : List Pair
once = slice_set places 1 (risen 1 (pair_of places 7))

once_is : once ≡ nothing ∷ record { before = 3; present = 255 } ∷ nothing ∷ []
unfolding places once
once_is = refl

-- a byte stays at 255
twice_is : risen 2 (pair_of once 10) ≡ record { before = 3; present = 255 }
unfolding places once
twice_is = refl

turn_is : map turned once ≡ nothing ∷ record { before = 255; present = 0 } ∷ nothing ∷ []
unfolding places once
turn_is = refl
