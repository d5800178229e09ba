-- The options of a command, lent as texts.
use Rattle.std.specs.{Prelude.{ℕ, Bool, List, map}, Borrow.Bor, List.list_all}
use Rattle.lert_args.specs.Said.{is_among}

-- these are among the options
abbrev pub has_options : List (List ℕ) → List (List ℕ) → Bool
has_options options names = list_all (is_among options) names

-- the texts of some words that are lent
abbrev pub texts : List (Bor (List ℕ)) → List (List ℕ)
texts words = map (λ word. word.now) words
