-- Worked examples of the trace format, computed.
use Rattle.std.proofs.Common.{◌≡◌, ℕ, List, [], ◌∷◌, ◌++◌, Some, refl}
use Rattle.lert_trace.specs.Trace.{item_at, items, left, trace_header, whole}

-- ---- version 1

-- a trace of the one key 513
abbrev one_key : List ℕ
one_key = trace_header 1 ++ (1 ∷ 2 ∷ 0 ∷ 0 ∷ 0 ∷ 0 ∷ 0 ∷ 0 ∷ [])

its_item : items one_key ≡ Some (record { key = 513; weight = 1 } ∷ [])
unfolding item_at
its_item = refl

cut_key : left (one_key ++ (7 ∷ [])) ≡ Some 16
unfolding item_at
cut_key = refl

whole_of_a_cut_key : whole (one_key ++ (7 ∷ [])) ≡ record { key = 513; weight = 1 } ∷ []
unfolding item_at
whole_of_a_cut_key = refl

header_alone : items (trace_header 1) ≡ Some []
header_alone = refl

-- ---- headers

no_byte : left [] ≡ Some 0
no_byte = refl

part_of_a_header : left (76 ∷ 69 ∷ 82 ∷ 84 ∷ 2 ∷ 0 ∷ []) ≡ Some 6
part_of_a_header = refl

-- no byte says the version yet
four_bytes : left (76 ∷ 69 ∷ 82 ∷ 84 ∷ []) ≡ Some 4
four_bytes = refl

other_fourth_byte : left (76 ∷ 69 ∷ 82 ∷ 0 ∷ 2 ∷ 0 ∷ 0 ∷ 0 ∷ []) ≡ Some 3
other_fourth_byte = refl

version_0 : left (76 ∷ 69 ∷ 82 ∷ 84 ∷ 0 ∷ 0 ∷ 0 ∷ 0 ∷ []) ≡ Some 4
version_0 = refl

version_3 : left (76 ∷ 69 ∷ 82 ∷ 84 ∷ 3 ∷ 0 ∷ 0 ∷ 0 ∷ []) ≡ Some 4
version_3 = refl

version_5 : left (76 ∷ 69 ∷ 82 ∷ 84 ∷ 5 ∷ 0 ∷ 0 ∷ 0 ∷ []) ≡ Some 4
version_5 = refl

-- the earliest place counts
other_sixth_byte : left (76 ∷ 69 ∷ 82 ∷ 84 ∷ 2 ∷ 7 ∷ 7 ∷ 0 ∷ 1 ∷ []) ≡ Some 5
other_sixth_byte = refl

header_of_2_alone : items (trace_header 2) ≡ Some []
header_of_2_alone = refl

-- ---- version 2

-- one item of nine bytes
abbrev item_of : ℕ → ℕ → List ℕ
item_of key weight = key ∷ 0 ∷ 0 ∷ 0 ∷ 0 ∷ 0 ∷ 0 ∷ 0 ∷ weight ∷ []

-- items and four bytes of another
abbrev with_cut : List ℕ → List ℕ
with_cut bytes = trace_header 2 ++ (bytes ++ (3 ∷ 3 ∷ 3 ∷ 3 ∷ []))

two_items : items (trace_header 2 ++ (item_of 7 1 ++ item_of 7 2)) ≡ Some (record { key = 7; weight = 1 } ∷ record { key = 7; weight = 2 } ∷ [])
unfolding item_at
two_items = refl

most_weight : items (trace_header 2 ++ item_of 7 255) ≡ Some (record { key = 7; weight = 255 } ∷ [])
unfolding item_at
most_weight = refl

cut_item : left (with_cut (item_of 7 1)) ≡ Some 17
unfolding item_at
cut_item = refl

whole_of_a_cut_item : whole (with_cut (item_of 7 1)) ≡ record { key = 7; weight = 1 } ∷ []
unfolding item_at
whole_of_a_cut_item = refl

-- a key of eight bytes that has no weight is no item
no_weight : left (trace_header 2 ++ (1 ∷ 2 ∷ 3 ∷ 4 ∷ 5 ∷ 6 ∷ 7 ∷ 8 ∷ [])) ≡ Some 8
no_weight = refl

weight_0 : left (trace_header 2 ++ item_of 7 0) ≡ Some 16
unfolding item_at
weight_0 = refl

-- a weight of 0 comes before the cut behind it
first_weight_0 : left (with_cut (item_of 7 0)) ≡ Some 16
unfolding item_at
first_weight_0 = refl

second_weight_0 : left (with_cut (item_of 7 1 ++ item_of 8 0)) ≡ Some 25
unfolding item_at
second_weight_0 = refl

whole_of_second_weight_0 : whole (with_cut (item_of 7 1 ++ item_of 8 0)) ≡ record { key = 7; weight = 1 } ∷ []
unfolding item_at
whole_of_second_weight_0 = refl

-- what stands behind a weight of 0 is no item
whole_before_weight_0 : whole (trace_header 2 ++ (item_of 7 1 ++ (item_of 8 0 ++ item_of 9 3))) ≡ record { key = 7; weight = 1 } ∷ []
unfolding item_at
whole_before_weight_0 = refl

-- the first of two
two_weights_0 : left (trace_header 2 ++ (item_of 7 0 ++ item_of 8 0)) ≡ Some 16
unfolding item_at
two_weights_0 = refl
