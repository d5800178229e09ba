-- Computed trees: of 3 streams, which one more key changes, and of 5 streams.
use Rattle.std.proofs.Common.{◌≡◌, ℕ, ◌≤◌, List, [], ◌∷◌, inl, inr, refl, arith}
use Rattle.lert_merge.specs.{tree.Race.number_at, tree.Matches.{winner_of, IsMatch}}

-- streams 0 to 2, and a leaf that has none
abbrev three_keys : List ℕ
three_keys = 5 ∷ 2 ∷ 9 ∷ 18446744073709551615 ∷ []

abbrev three_winners : List ℕ
three_winners = 0 ∷ 1 ∷ 1 ∷ 2 ∷ []

abbrev three_losers : List ℕ
three_losers = 0 ∷ 2 ∷ 0 ∷ 3 ∷ []

pub three_first : winner_of three_winners 1 ≡ 1
three_first = refl

pub three_leaf : winner_of three_winners 6 ≡ 2
three_leaf = refl

pub three_last : IsMatch three_keys (winner_of three_winners 2) (winner_of three_winners 3) (winner_of three_winners 1) (number_at three_losers 1)
three_last = record { which = inl (refl, refl); order = let less : 2 ≤ 9 = omega arith in less }

pub three_left : IsMatch three_keys (winner_of three_winners 4) (winner_of three_winners 5) (winner_of three_winners 2) (number_at three_losers 2)
three_left = record { which = inr (refl, refl); order = let less : 2 ≤ 5 = omega arith in less }

pub three_right : IsMatch three_keys (winner_of three_winners 6) (winner_of three_winners 7) (winner_of three_winners 3) (number_at three_losers 3)
three_right = record { which = inl (refl, refl); order = let less : 9 ≤ 18446744073709551615 = omega arith in less }

-- stream 1 has the key 7 now: stream 0 is first, and the other half is as it was
abbrev next_keys : List ℕ
next_keys = 5 ∷ 7 ∷ 9 ∷ 18446744073709551615 ∷ []

abbrev next_winners : List ℕ
next_winners = 0 ∷ 0 ∷ 0 ∷ 2 ∷ []

abbrev next_losers : List ℕ
next_losers = 0 ∷ 2 ∷ 1 ∷ 3 ∷ []

pub next_last : IsMatch next_keys (winner_of next_winners 2) (winner_of next_winners 3) (winner_of next_winners 1) (number_at next_losers 1)
next_last = record { which = inl (refl, refl); order = let less : 5 ≤ 9 = omega arith in less }

pub next_left : IsMatch next_keys (winner_of next_winners 4) (winner_of next_winners 5) (winner_of next_winners 2) (number_at next_losers 2)
next_left = record { which = inl (refl, refl); order = let less : 5 ≤ 7 = omega arith in less }

-- streams 0 to 4 of which two have one key, and three leaves that have none
abbrev five_keys : List ℕ
five_keys = 4 ∷ 4 ∷ 1 ∷ 7 ∷ 3 ∷ 18446744073709551615 ∷ 18446744073709551615 ∷ 18446744073709551615 ∷ []

abbrev five_winners : List ℕ
five_winners = 0 ∷ 2 ∷ 2 ∷ 4 ∷ 0 ∷ 2 ∷ 4 ∷ 7 ∷ []

abbrev five_losers : List ℕ
five_losers = 0 ∷ 4 ∷ 0 ∷ 7 ∷ 1 ∷ 3 ∷ 5 ∷ 6 ∷ []

pub five_first : winner_of five_winners 1 ≡ 2
five_first = refl

pub five_last : IsMatch five_keys (winner_of five_winners 2) (winner_of five_winners 3) (winner_of five_winners 1) (number_at five_losers 1)
five_last = record { which = inl (refl, refl); order = let less : 1 ≤ 3 = omega arith in less }

pub five_left : IsMatch five_keys (winner_of five_winners 4) (winner_of five_winners 5) (winner_of five_winners 2) (number_at five_losers 2)
five_left = record { which = inr (refl, refl); order = let less : 1 ≤ 4 = omega arith in less }

pub five_same : IsMatch five_keys (winner_of five_winners 8) (winner_of five_winners 9) (winner_of five_winners 4) (number_at five_losers 4)
five_same = record { which = inl (refl, refl); order = let less : 4 ≤ 4 = omega arith in less }

pub five_none : IsMatch five_keys (winner_of five_winners 14) (winner_of five_winners 15) (winner_of five_winners 7) (number_at five_losers 7)
five_none = record { which = inr (refl, refl); order = let less : 18446744073709551615 ≤ 18446744073709551615 = omega arith in less }
