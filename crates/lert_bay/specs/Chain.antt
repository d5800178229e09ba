-- A list that contracts alone see.
use Rattle.std.specs.Prelude.{ℕ, List}

-- its items, oldest first, and a bound on how many links lie behind one another
pub record Chain (T : Type 0) : Type 0 where
  pub items : List T
  pub depth : ℕ
