-- Computed givers and parts: of three streams two have a part in the tail 1, and one of them has more.
use Rattle.std.proofs.Common.{◌≡◌, ◌≤◌, List, [], ◌∷◌, Some, None, refl, arith}
use Rattle.lert_spec.specs.declared.piece.Piece.{Piece}
use Rattle.lert_merge.specs.{declared.sums.Giver.Giver, Givers.{share_in, sum_below, AreGivers}, Merging.{behind, count_in_all, part_summed}}

abbrev two : List Giver
two = record { stream = 1; count = 3 } ∷ record { stream = 0; count = 2 } ∷ []

pub shares : (share_in two 0 ≡ 2) × (share_in two 1 ≡ 3) × (share_in two 2 ≡ 0) × (sum_below (share_in two) 3 ≡ 5)
shares = (refl, refl, refl, refl)

pub two_givers : AreGivers 3 two
two_givers = record { counted = (let some : 1 ≤ 3 = omega arith in some, (let some : 1 ≤ 2 = omega arith in some, tt)); len = refl; sum = refl }

abbrev lists : List (List Piece)
lists = (record { tail = 1; count = 2 } ∷ record { tail = 5; count = 1 } ∷ []) ∷ (record { tail = 1; count = 3 } ∷ []) ∷ [] ∷ []

pub counts : (count_in_all lists 1 ≡ 5) × (count_in_all lists 5 ≡ 1) × (count_in_all lists 4 ≡ 0)
counts = (refl, refl, refl)

pub left : (behind 1 (record { tail = 1; count = 2 } ∷ record { tail = 5; count = 1 } ∷ []) ≡ record { tail = 5; count = 1 } ∷ [])
    × (behind 1 (record { tail = 5; count = 1 } ∷ []) ≡ record { tail = 5; count = 1 } ∷ []) × (behind 1 [] ≡ [])
left = (refl, refl, refl)

pub parts : (part_summed (Some (record { tail = 1; count = 5 })) 3 ≡ record { tail = 1; count = 3 } ∷ []) × (part_summed (Some (record { tail = 1; count = 5 })) 0 ≡ [])
    × (part_summed None 0 ≡ [])
parts = (refl, refl, refl)
