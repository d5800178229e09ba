-- The names that a line gives by their places.
use Rattle.std.specs.Prelude.{ℕ, List, map}
use Rattle.lert_args.specs.Word.{word_at}

-- the words at these places
abbrev pub names_of : List (List ℕ) → List ℕ → List (List ℕ)
names_of words places = map (word_at words) places
