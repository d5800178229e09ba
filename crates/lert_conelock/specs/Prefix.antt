-- A list that begins another.
use Rattle.std.specs.Prelude.{◌≡◌, List, ◌++◌}

-- the whole list begins with the front
pub record IsPrefix {A : Type 0} (front whole : List A) : Type 0 where
  pub rest : List A
  pub splits : whole ≡ front ++ rest
