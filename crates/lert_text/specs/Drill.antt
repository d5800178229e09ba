-- The text of a drill: how many events each cone has, how many keys are reported, and the exclusive or of these. Numbers are
-- decimal but for the last, and each line ends with byte 10.
use Rattle.std.specs.{Prelude.{ℕ, zero, suc, ◌+◌, ◌/◌, ◌%◌, ◌^◌, nat_lt, bit_xor, sum_by, fold, List, [], ◌∷◌, ◌++◌, length, map, codes, decimal, if◌then◌else◌}, List.range_with_len}
use Rattle.lert_spec.specs.{declared.numbers.Numbers.Numbers, Counts.heavy, Lines.total_line, Mix.part_of}

-- what is printed of a cone: how many events it has, and the keys that are reported of it
pub record Drilled : Type 0 where
  pub events : ℕ
  pub keys : List ℕ

abbrev pub hex_digit : ℕ → ℕ
hex_digit n = if nat_lt n 10 then 48 + n else 87 + n

-- the last so many hexadecimal digits of a number, in lower case
abbrev pub hexadecimal : ℕ → ℕ → List ℕ
hexadecimal zero n = []
hexadecimal (suc digits) n = hexadecimal digits (n / 16) ++ hex_digit (n % 16) ∷ []

-- the exclusive or of numbers
abbrev pub exclusive_or : List ℕ → ℕ
exclusive_or numbers = fold bit_xor 0 numbers

abbrev pub drill_line : ℕ → ℕ → ℕ → ℕ → List ℕ
drill_line cone events reports keys =
    codes "cone " ++ decimal cone ++ codes " events " ++ decimal events ++ codes " reports " ++ decimal reports
    ++ codes " keys " ++ hexadecimal 16 keys ++ codes "\n"

abbrev pub drill_text : ℕ → Drilled → List ℕ
drill_text cone one = drill_line cone one.events (length one.keys) (exclusive_or one.keys)

-- the lines of cones in ascending order, the first with this number
abbrev pub drill_texts : ℕ → List Drilled → List ℕ
drill_texts cone [] = []
drill_texts cone (one ∷ others) = drill_text cone one ++ drill_texts (suc cone) others

-- the whole text: a line for each cone in ascending order, and the line of totals
abbrev pub drill_lines : List Drilled → List ℕ
drill_lines cones =
    drill_texts 0 cones ++ total_line (sum_by (λ one. one.events) cones) (sum_by (λ one. length one.keys) cones)

-- what is printed of a cone, by a plain count of the keys of a whole list: the events of its part, and its heavy keys
abbrev pub drilled_of : Numbers → List ℕ → ℕ → Drilled
drilled_of s keys cone = record {
  events = length (part_of s cone keys);
  keys = heavy s.threshold (part_of s cone keys);
}

-- what is printed of all cones
abbrev pub drilled : Numbers → List ℕ → List Drilled
drilled s keys = map (drilled_of s keys) (range_with_len 0 (2 ^ s.cone_bits))
