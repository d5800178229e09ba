-- The words of a command line: texts, numbers and names.
use Rattle.std.specs.{Prelude.{ℕ, ◌==◌, nat_lt, nat_le, Bool, false, not, ◌&&◌, List, [], ◌∷◌, length, codes, Option, Some, None, slice_index_or, if◌then◌else◌}, Char.is_ascii_digit, List.list_all}
use Rattle.std.specs.{Str.bytes_eq, Str.Parse.digits_value}

-- the word with a number, from 0
abbrev pub word_at : List (List ℕ) → ℕ → List ℕ
word_at words number = slice_index_or words number []

-- whether a word spells a number: it has one to twenty decimal digits, and these make at most 2^64-1
abbrev pub is_number : List ℕ → Bool
is_number word =
    nat_lt 0 (length word) && nat_le (length word) 20 && list_all is_ascii_digit word && nat_lt (digits_value 10 word) 18446744073709551616

-- the number that a word spells
abbrev pub number_of : List ℕ → Option ℕ
number_of word = if is_number word then Some (digits_value 10 word) else None

-- a word that begins with `-`
abbrev pub is_hyphened : List ℕ → Bool
is_hyphened [] = false
is_hyphened (byte ∷ bytes) = byte == 45

-- a word is a name where options may stand: it isn't empty, and doesn't begin with `-`
abbrev pub is_name : List ℕ → Bool
is_name [] = false
is_name (byte ∷ bytes) = not (byte == 45)

-- a word is a name behind the `--` that ends the options: it is neither empty nor `-` nor a second `--`
abbrev pub is_late_name : List ℕ → Bool
is_late_name word = nat_lt 0 (length word) && not (bytes_eq word (codes "-")) && not (bytes_eq word (codes "--"))
