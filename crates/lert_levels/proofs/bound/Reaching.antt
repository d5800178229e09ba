-- What an answer of the bytes says of how often a tail came.
use Rattle.std.proofs.{Common.{◌≡◌, ℕ, ◌+◌, ◌%◌, ◌<◌, ◌≤◌, List, Bool, false, length, min, ap, ap₂, sym, ◌∙◌, arith}, Math.ListN.get_or, lemmas.Bool.leb-false}
use Rattle.std.specs.Prelude.{nat_le}
use Rattle.lert_levels.specs.{declared.bound.pair.Pair.Pair, bound.Bytes.pair_of, bound.Covers.CoversCounts}
use Rattle.lert_levels.proofs.bound.Adding.{pair_at}

-- the answer is that of the tail's bytes
pub bytes_asked : (pairs : List Pair) (tail len place before present least count : ℕ) (pair : Pair) → 1 ≤ length pairs → len ≡ length pairs → place ≡ tail % len →
    pair ≡ get_or pairs place pair → before ≡ pair.before → present ≡ pair.present → least ≡ min count 255 →
    nat_le least (before + present) ≡ nat_le (min count 255) ((pair_of pairs tail).before + (pair_of pairs tail).present)
bytes_asked pairs tail len place before present least count pair some len_is place_is is before_is present_is least_is =
    let same : pair ≡ pair_of pairs tail = pair_at pairs tail len place pair some len_is place_is is in
    ap₂ nat_le least_is (ap₂ (λ (x y : ℕ). x + y) (before_is ∙ ap (λ (p : Pair). p.before) same) (present_is ∙ ap (λ (p : Pair). p.present) same))

too_few : (count b p before present : ℕ) → min b 255 ≤ before → min p 255 ≤ present → nat_le (min count 255) (before + present) ≡ false → b + p < count
too_few count b p before present of_before of_present no_more = omega (arith, of_before, of_present, leb-false (min count 255) (before + present) no_more)

pub counts_asked : (pairs : List Pair) (tail count : ℕ) (answer : Bool) → answer ≡ nat_le (min count 255) ((pair_of pairs tail).before + (pair_of pairs tail).present) →
    (before present : ℕ → ℕ) → CoversCounts pairs before present → answer ≡ false → before tail + present tail < count
counts_asked pairs tail count answer answer_is before present held no_more =
    too_few count (before tail) (present tail) _ _ (held.of_before tail) (held.of_present tail) (sym answer_is ∙ no_more)
