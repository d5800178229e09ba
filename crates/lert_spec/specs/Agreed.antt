-- How far two texts are the same.
use Rattle.std.specs.Prelude.{ℕ, suc, ◌==◌, List, [], ◌∷◌, if◌then◌else◌}

-- how many bytes two texts have in common, from the front on
abbrev pub agreed : List ℕ → List ℕ → ℕ
agreed [] ys = 0
agreed (x ∷ xs) [] = 0
agreed (x ∷ xs) (y ∷ ys) = if x == y then suc (agreed xs ys) else 0
