-- What a crash may leave of one file, said at once for all writes since its last sync.
use Rattle.std.specs.Prelude.{◌≡◌, ℕ, ◌+◌, ◌<◌, ◌≤◌, List, [], ◌∷◌, length, max, slice_index, All}
use Rattle.lert_bay.specs.{Files.{IsOutside, Torn}, declared.extent.Extent.Extent}

-- the greatest length since a sync: the one at the sync, or how far a write was to reach
abbrev pub longest : ℕ → List Extent → ℕ
longest least [] = least
longest least (written ∷ rest) = max (written.at + written.count) (longest least rest)

-- a place outside of each of these ranges
abbrev pub IsUnwritten : List Extent → ℕ → Type 0
IsUnwritten written place = All (λ extent. IsOutside extent.at extent.count place) written

-- An image of a file that held the bytes `synced` at its last sync, and in which these ranges were written since:
-- each written range holds any bytes, and so does the part past the length at the sync; the length is any between the
-- least, which is that at the sync, and the greatest since; bytes outside stay.
pub record IsTornSince (synced : List ℕ) (written : List Extent) (image : List ℕ) : Type 0 where
  pub no_shorter : length synced ≤ length image
  pub no_longer : length image ≤ longest (length synced) written
  pub elsewhere : (place : ℕ) → place < length synced → IsUnwritten written place → slice_index image place ≡ slice_index synced place

-- the writes one after the other: each may tear what the one before it left
abbrev pub TornInTurn : List Extent → List ℕ → List ℕ → Type 0
TornInTurn [] old new = new ≡ old
TornInTurn (first ∷ rest) old new = (middle : List ℕ) × Torn first.at first.count old middle × TornInTurn rest middle new
