-- Worked examples of edges, bins and reports, computed.
use Rattle.std.proofs.Common.{◌≡◌, ℕ, ◌+◌, cond, eqb, List, [], ◌∷◌, map, Some, None, refl}
use Rattle.std.specs.List.{range_with_len, list_any}
use Rattle.lert_spec.specs.{declared.numbers.Numbers.Numbers, declared.report.Report.Report, Bins.{Bin, bins}, Edges.{span, offset, depth, lookback, capacity, quotient_bits, width}}
use Rattle.lert_spec.specs.{Limits.first_broken, Look.{look, closing}, Mix.{mix, cone_of, tail_of, part_of}}

abbrev small : Numbers
small = record { threshold = 3; bins = 3; ratio = 2; base = 4; levels = 2; cone_bits = 0; room = 32; packet = 8 }

abbrev shipped : Numbers
shipped = record { threshold = 24; bins = 4; ratio = 4; base = 4096; levels = 5; cone_bits = 4; room = 262144; packet = 1024 }

-- n events, of key 7 at these positions and of another key each elsewhere
abbrev sevens_at : ℕ → List ℕ → List ℕ
sevens_at n places = map (λ m. cond (list_any (λ place. eqb place m) places) 7 (1000 + m)) (range_with_len 1 n)

abbrev seven_at : ℕ → List Report
seven_at m = record { key = 7; at = m } ∷ []

spans_of_small : map (span small) (0 ∷ 1 ∷ 2 ∷ []) ≡ 4 ∷ 8 ∷ 16 ∷ []
spans_of_small = refl

offsets_of_small : map (offset small) (0 ∷ 1 ∷ 2 ∷ []) ≡ 8 ∷ 24 ∷ 56 ∷ []
offsets_of_small = refl

capacity_of_small : capacity small ≡ 71
capacity_of_small = refl

capacity_as_shipped : capacity shipped ≡ 6291456
capacity_as_shipped = refl

shipped_is_valid : first_broken shipped ≡ None
shipped_is_valid = refl

one_bin : first_broken (record shipped { bins = 1; ratio = 1 }) ≡ Some 2
one_bin = refl

flushes_of_small : map (depth small) (11 ∷ 12 ∷ 16 ∷ 32 ∷ 36 ∷ 40 ∷ []) ≡ 0 ∷ 1 ∷ 1 ∷ 2 ∷ 1 ∷ 2 ∷ []
flushes_of_small = refl

lookbacks_of_small : map (lookback small) (13 ∷ 16 ∷ 35 ∷ 36 ∷ 40 ∷ []) ≡ 4 ∷ 0 ∷ 24 ∷ 8 ∷ 0 ∷ []
lookbacks_of_small = refl

bits_of_small : map (quotient_bits small) (0 ∷ 1 ∷ 2 ∷ []) ≡ 6 ∷ 6 ∷ 6 ∷ []
bits_of_small = refl

widths_as_shipped : map (width shipped) (0 ∷ 5 ∷ []) ≡ 48 ∷ 38 ∷ []
widths_as_shipped = refl

-- 32 events: the two bins of level 1, and the one of level 2
abbrev ends : Bin → ℕ × ℕ
ends bin = (bin.from, bin.to)

bins_of_level_1 : map ends (bins small (sevens_at 32 []) 1) ≡ (8, 16) ∷ (16, 24) ∷ []
unfolding mix
bins_of_level_1 = refl

bins_of_level_2 : map ends (bins small (sevens_at 32 []) 2) ≡ (0, 8) ∷ []
unfolding mix
bins_of_level_2 = refl

-- of 12 events the oldest four are cut off: three of one key and one of another, in ascending tails
counts_of_a_bin : map (λ bin. bin.pieces) (bins small (7 ∷ 1 ∷ 7 ∷ 7 ∷ sevens_at 8 []) 1)
    ≡ (record { tail = tail_of small 7; count = 3 } ∷ record { tail = tail_of small 1; count = 1 } ∷ []) ∷ []
unfolding mix
counts_of_a_bin = refl

cones_of_keys : map (cone_of (record small { cone_bits = 1 })) (0 ∷ 1 ∷ 18446744073709551615 ∷ []) ≡ 0 ∷ 1 ∷ 0 ∷ []
unfolding mix
cones_of_keys = refl

part_of_cone_0 : part_of (record small { cone_bits = 1 }) 0 (0 ∷ 1 ∷ 18446744073709551615 ∷ 0 ∷ []) ≡ 0 ∷ 18446744073709551615 ∷ 0 ∷ []
unfolding mix
part_of_cone_0 = refl

mixed_one : mix 1 ≡ 0xb456bcfc34c2cb2c
unfolding mix
mixed_one = refl

mixed_last : mix 18446744073709551615 ≡ 0x64b5720b4b825f21
unfolding mix
mixed_last = refl

at_the_next_flush : closing small (sevens_at 16 (1 ∷ 2 ∷ 13 ∷ [])) ≡ seven_at 16
unfolding mix
at_the_next_flush = refl

reached_at_a_flush : closing small (sevens_at 16 (1 ∷ 2 ∷ 16 ∷ [])) ≡ seven_at 16
unfolding mix
reached_at_a_flush = refl

at_a_deeper_flush : closing small (sevens_at 40 (1 ∷ 2 ∷ 33 ∷ [])) ≡ seven_at 40
unfolding mix
at_a_deeper_flush = refl

in_level_0 : closing small (sevens_at 35 (1 ∷ 33 ∷ 34 ∷ 35 ∷ [])) ≡ seven_at 35
unfolding mix
in_level_0 = refl

at_the_end : closing small (sevens_at 34 (1 ∷ 2 ∷ 33 ∷ [])) ≡ seven_at 34
unfolding mix
at_the_end = refl

not_before_the_end : look small (sevens_at 34 (1 ∷ 2 ∷ 33 ∷ [])) ≡ []
unfolding mix
not_before_the_end = refl

each_at_once : closing (record small { threshold = 1 }) (7 ∷ 7 ∷ 8 ∷ []) ≡ record { key = 7; at = 1 } ∷ record { key = 8; at = 3 } ∷ []
unfolding mix
each_at_once = refl
