-- Settled ranges: bytes of a file that no crash changes.
use Rattle.std.specs.Prelude.{◌≡◌, ℕ, ◌≤◌, List, length, take, drop}
use Rattle.lert_bay.specs.Files.{Files}

-- the bytes from one place up to another
abbrev pub part : List ℕ → ℕ → ℕ → List ℕ
part bytes from to = drop from (take to bytes)

-- each of these images has in this range of a file what a read gave
abbrev pub Keeps : (Files → Type 0) → Files → ℕ → ℕ → ℕ → Type 0
Keeps images seen file from to = (image : Files) → images image → part (image file) from to ≡ part (seen file) from to

-- the range doesn't reach past the file's length, and every image has there what a read gives
pub record IsSettled (leaves : Files → Type 0) (seen : Files) (file from to : ℕ) : Type 0 where
  pub within : to ≤ length (seen file)
  pub same : Keeps leaves seen file from to
