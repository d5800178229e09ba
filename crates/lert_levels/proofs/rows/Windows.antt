-- The counts of the keys at some positions in a row, of those positions cut in two, and of a level's positions bin by bin.
use Rattle.std.proofs.Common.{ℕ, ◌≡◌, ◌+◌, ◌-◌, ◌*◌, ◌/◌, ◌^◌, ◌≤◌, zero, suc, cond, List, [], ◌∷◌, ◌++◌, length, map, take, drop, min, max, ap, ap₂, sym, ◌∙◌, arith, inl, inr, subst, sum_by}
use Rattle.std.proofs.{Common.{slice_range, length-drop}, Math.Nat.{mul-le-mul_right, suc-mul, div-add-mod, mod-lt, mul_comm}, Math.Seq.take-add, lemmas.Bool.{cases_lt, lt-ltb, le-ltb}}
use Rattle.std.proofs.{lemmas.List.{drop-drop, length-take}, lemmas.List.Sums.sum_by-cons}
use Rattle.std.specs.List.{range_with_len}
use Rattle.lert_spec.specs.{declared.item.Item.Item, declared.numbers.Numbers.Numbers, declared.piece.Piece.Piece, Bins.{Bin, tally}, Counts.weighed, Edges.{span, edge, tail_bits}}
use Rattle.lert_spec.specs.{Table.{count_of, IsTable}}
use Rattle.lert_spec.proofs.{EdgeLaws.{span_pos, edge_descends}, TallyLaws.{tails_in, tails_in-append, tally_table, count_of-tally, one_table}}
use Rattle.lert_levels.specs.rows.Ranges.{Range, range_at, ranges, filled, young_bins}
use Rattle.lert_levels.proofs.rows.{RangeLaws.{range_cuts, filled_cuts, edge_within}, WeightLaws.{WeighAll, weigh_slice}}

-- a window cut in two
pub slice_range-join : {A : Type 0} (events : List A) (from mid to : ℕ) → from ≤ mid → mid ≤ to → slice_range events from mid ++ slice_range events mid to ≡ slice_range events from to
slice_range-join events from mid to first second =
    let behind : drop mid events ≡ drop (mid - from) (drop from events) =
    ap (λ n. drop n events) (let same : mid ≡ from + (mid - from) = omega arith in same) ∙ sym (drop-drop (mid - from) from events) in
    let width : (mid - from) + (to - mid) ≡ to - from = omega arith in
    ap (λ xs. slice_range events from mid ++ take (to - mid) xs) behind
    ∙ sym (take-add (mid - from) (to - mid) (drop from events))
    ∙ ap (λ n. take n (drop from events)) width

-- what a tail weighs in a window
abbrev pub counted : Numbers → List Item → ℕ → ℕ → ℕ → ℕ
counted s events tail from to = count_of (tally weighed s (slice_range events from to)) tail

-- no position lies between one and itself
pub counted-none : (s : Numbers) (events : List Item) (tail n : ℕ) → counted s events tail n n ≡ 0
counted-none s events tail n =
    ap (λ k. count_of (tally weighed s (take k (drop n events))) tail) (let none : n - n ≡ 0 = omega arith in none)

-- the counts of a window are those of its two parts together
pub counted-join : (s : Numbers) (events : List Item) (tail from mid to : ℕ) → WeighAll events → from ≤ mid → mid ≤ to →
    counted s events tail from to ≡ counted s events tail from mid + counted s events tail mid to
counted-join s events tail from mid to all first second =
    let a = slice_range events from mid in
    let b = slice_range events mid to in
    let whole = ap (tails_in weighed s tail) (slice_range-join events from mid to first second) in
    omega (
      arith,
      whole,
      tails_in-append weighed s tail a b,
      count_of-tally weighed s a tail (weigh_slice events from mid all),
      count_of-tally weighed s b tail (weigh_slice events mid to all),
      count_of-tally weighed s (slice_range events from to) tail (weigh_slice events from to all),
    )

-- a table with these counts is that of the window
pub window_table : (s : Numbers) (events : List Item) (from to : ℕ) (pieces : List Piece) → WeighAll events → IsTable (2 ^ tail_bits s) pieces →
    ((tail : ℕ) → count_of pieces tail ≡ counted s events tail from to) → pieces ≡ tally weighed s (slice_range events from to)
window_table s events from to pieces all table counts =
    one_table 0 (2 ^ tail_bits s) pieces (tally weighed s (slice_range events from to)) table (tally_table weighed s (slice_range events from to) (weigh_slice events from to all)) counts

-- a number moved up to a lower edge and down to an upper one
abbrev pub clamp : ℕ → ℕ → ℕ → ℕ
clamp low high n = min high (max low n)

-- the cut intervals cover the window between the edges
cuts_cover : (s : Numbers) (events : List Item) (tail wide low high first n : ℕ) → WeighAll events → low ≤ high →
    sum_by (λ (range : Range). counted s events tail range.from range.to) (range_cuts wide low high first n)
    ≡ counted s events tail (clamp low high (first * wide)) (clamp low high ((first + n) * wide))
cuts_cover s events tail wide low high first zero all ordered =
    sym (ap (λ k. counted s events tail (clamp low high (first * wide)) (clamp low high (k * wide))) (let same : first + 0 ≡ first = omega arith in same)
    ∙ counted-none s events tail (clamp low high (first * wide)))
cuts_cover s events tail wide low high first (suc n) all ordered =
    let range = range_at wide low high first in
    let others = range_cuts wide low high (first + 1) n in
    let count = λ (r : Range). counted s events tail r.from r.to in
    let next : first + 1 ≡ suc first = omega arith in
    let end : first + 1 + n ≡ first + suc n = omega arith in
    let rest : sum_by count others ≡ counted s events tail (clamp low high (suc first * wide)) (clamp low high ((first + suc n) * wide)) =
    cuts_cover s events tail wide low high (first + 1) n all ordered
    ∙ ap₂ (λ a b. counted s events tail (clamp low high (a * wide)) (clamp low high (b * wide))) next end in
    let up = mul-le-mul_right wide (let at_most : first ≤ suc first = omega arith in at_most) in
    let further = mul-le-mul_right wide (let at_most : suc first ≤ first + suc n = omega arith in at_most) in
    elim (cases_lt range.from range.to) [
      | inl some ↦ (
          let from_is : range.from ≡ clamp low high (first * wide) = omega arith in
          let to_is : range.to ≡ clamp low high (suc first * wide) = omega arith in
          let here = ap₂ (λ a b. counted s events tail a b) from_is to_is in
          let parts = sum_by-cons count range others in
          let join = counted-join s events tail (clamp low high (first * wide)) (clamp low high (suc first * wide)) (clamp low high ((first + suc n) * wide)) all (omega arith) (omega arith) in
          ap (λ t. sum_by count (cond t (range ∷ others) others)) (lt-ltb range.from range.to some) ∙ omega arith)
      | inr none ↦ (
          let same : clamp low high (suc first * wide) ≡ clamp low high (first * wide) = omega arith in
          ap (λ t. sum_by count (cond t (range ∷ others) others)) (le-ltb range.from range.to none)
          ∙ rest ∙ ap (λ a. counted s events tail a (clamp low high ((first + suc n) * wide))) same)
    ]

-- between two edges that the intervals reach
cuts_whole : (s : Numbers) (events : List Item) (tail wide low high n : ℕ) → WeighAll events → low ≤ high → high ≤ n * wide →
    sum_by (λ (range : Range). counted s events tail range.from range.to) (range_cuts wide low high 0 n) ≡ counted s events tail low high
cuts_whole s events tail wide low high n all ordered covers =
    let same : 0 + n ≡ n = omega arith in
    let product = ap (λ k. k * wide) same in
    cuts_cover s events tail wide low high 0 n all ordered
    ∙ ap₂ (λ a b. counted s events tail a b) (let start : clamp low high (0 * wide) ≡ low = omega arith in start) (let end : clamp low high ((0 + n) * wide) ≡ high = omega arith in end)

-- how many intervals reach a position
pub reaches : (n wide high : ℕ) → 1 ≤ wide → high ≤ n → high ≤ suc (n / wide) * wide
reaches n wide high positive within =
    let parts = div-add-mod n wide in
    let rest = mod-lt n {m = wide} positive in
    let next = suc-mul (n / wide) wide in
    let turned = mul_comm (n / wide) wide in
    omega arith

-- the counts of a level's bins are those of its positions
pub ranges_cover : (s : Numbers) (events : List Item) (tail n level : ℕ) → WeighAll events → 1 ≤ s.base → 1 ≤ s.ratio → 1 ≤ level →
    sum_by (λ (range : Range). counted s events tail range.from range.to) (ranges s n level) ≡ counted s events tail (edge s level n) (edge s (level - 1) n)
ranges_cover s events tail n level all base ratio from =
    let up : suc (level - 1) ≡ level = omega arith in
    let descends = subst (λ i. edge s i n ≤ edge s (level - 1) n) up (edge_descends s base ratio (level - 1) n) in
    cuts_whole s events tail (span s level) (edge s level n) (edge s (level - 1) n) (suc (n / span s level)) all descends
    (reaches n (span s level) (edge s (level - 1) n) (span_pos s level base ratio) (edge_within s (level - 1) n))

-- and so are those of level 0's
pub young-ranges : (s : Numbers) (events : List Item) (from : ℕ) → young_bins s events from
    ≡ map (filled s events) (range_cuts (span s 0) from (length events) 0 (suc (length events / span s 0)))
young-ranges s events from = filled_cuts s events 0 from (length events) (range_with_len 0 (suc (length events / span s 0)))

pub sum_by-map : {A B : Type 0} (f : A → B) (count : B → ℕ) (xs : List A) → sum_by count (map f xs) ≡ sum_by (λ x. count (f x)) xs
sum_by-map f count [] = omega arith
sum_by-map f count (x ∷ xs) = omega (arith, sum_by-cons count (f x) (map f xs), sum_by-cons (λ a. count (f a)) x xs, sum_by-map f count xs)

pub young_cover : (s : Numbers) (events : List Item) (tail from : ℕ) → WeighAll events → 1 ≤ s.base → 1 ≤ s.ratio → from ≤ length events →
    sum_by (λ (bin : Bin). count_of bin.pieces tail) (young_bins s events from) ≡ counted s events tail from (length events)
young_cover s events tail from all base ratio within =
    let n = length events in
    let cut = range_cuts (span s 0) from n 0 (suc (n / span s 0)) in
    ap (sum_by (λ (bin : Bin). count_of bin.pieces tail)) (young-ranges s events from)
    ∙ sum_by-map (filled s events) (λ (bin : Bin). count_of bin.pieces tail) cut
    ∙ cuts_whole s events tail (span s 0) from n (suc (n / span s 0)) all within (reaches n (span s 0) n (span_pos s 0 base ratio) (omega arith))
