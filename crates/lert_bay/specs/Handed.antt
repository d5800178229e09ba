-- How many bytes reads hand out of each file of a bay.
use Rattle.std.specs.Prelude.{◌≡◌, ◌≢◌, ℕ, ◌+◌, ◌≤◌, min, Option, Result, IfOk, OnErr}
use Rattle.lert_bay.specs.Files.{Files, IfTold}

-- what a call of `read_at` hands out: of its file as many bytes as it answers at most, and on a bay that tells its files just as
-- many, where the number has room for them; of the other files nothing, and nothing at all where it fails
pub record HandsOut {E : Type 0} (file : ℕ) (told : Option Files) (before after : ℕ → ℕ) (result : Result ℕ E) : Type 0 where
  pub others : (other : ℕ) → other ≢ file → after other ≡ before other
  pub never_falls : before file ≤ after file
  pub most : IfOk result (λ count. after file ≤ before file + count)
  pub exactly : IfTold told (λ _. IfOk result (λ count. after file ≡ min (before file + count) 18446744073709551615))
  pub failed : OnErr result (after ≡ before)

-- calls hand out at most so many bytes of a file, and of the others nothing
pub record ReadsUpTo (file most : ℕ) (before after : ℕ → ℕ) : Type 0 where
  pub others : (other : ℕ) → other ≢ file → after other ≡ before other
  pub never_falls : before file ≤ after file
  pub at_most : after file ≤ before file + most
