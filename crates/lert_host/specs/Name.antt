-- The names of a cone's files.
use Rattle.std.specs.Prelude.{ℕ, ◌/◌, ◌%◌, List, ◌++◌, codes, decimal}

-- `cone-NNN` and an ending, the cone in three digits
unfoldable pub cone_file : ℕ → List ℕ → List ℕ
cone_file cone ending = codes "cone-" ++ decimal (cone / 100) ++ decimal (cone / 10 % 10) ++ decimal (cone % 10) ++ ending
