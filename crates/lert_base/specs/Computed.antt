-- What settings keep beside their numbers: the span and the offset of each level from 0 to 8.
use Rattle.std.specs.{Prelude.{ℕ, zero, suc, ◌≡◌, List, map}, List.range_with_len}
use Rattle.lert_spec.specs.{declared.numbers.Numbers.Numbers, Edges.{span, spans, offset}, Limits.IsValid}

unfoldable pub spans_of : Numbers → List ℕ
spans_of s = map (span s) (range_with_len 0 9)

unfoldable pub offsets_of : Numbers → List ℕ
offsets_of s = map (offset s) (range_with_len 0 9)

-- the spans of the levels below this one, together
abbrev pub sum_below : Numbers → ℕ → ℕ
sum_below s zero = 0
sum_below s (suc level) = spans s level

-- the numbers are settings, and their spans and offsets stand beside them
pub record IsComputed (s : Numbers) (spans offsets : List ℕ) : Type 0 where
  pub valid : IsValid s
  pub spans_are : spans ≡ spans_of s
  pub offsets_are : offsets ≡ offsets_of s
