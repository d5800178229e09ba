-- What a file in memory keeps so that a crash can undo it.
use Rattle.std.specs.{Prelude.{◌≡◌, ℕ, ◌+◌, ◌-◌, ◌<◌, List, [], ◌∷◌, length, slice_index, nat_le, nat_lt, ◌&&◌, if◌then◌else◌, Bool, All}, declared.vec.Vec.Vec}
use Rattle.lert_bay.specs.{Files.IsOutside, Since.{IsTornSince, IsUnwritten}, declared.extent.Extent.Extent, declared.overwrite.Overwrite.Overwrite}

-- the bytes at the last sync, by the list of these bytes alone
abbrev pub bytes_of : {A : Type 0} → List (Vec ℕ A) → List ℕ
bytes_of [] = []
bytes_of (bytes ∷ others) = bytes.items

-- what a write keeps so that it can be taken back
abbrev pub kept_by : Overwrite → ℕ × List ℕ
kept_by write = (write.at, write.old.items)

-- whether a write covers a place
abbrev pub covers : Overwrite → ℕ → Bool
covers write place = nat_le write.at place && nat_lt place (write.at + length write.old.items)

-- the byte that stood at a place before the first of these writes that covers it; `now` where none does
abbrev pub before_all : List Overwrite → ℕ → ℕ → ℕ
before_all [] place now = now
before_all (write ∷ rest) place now = if covers write place then slice_index write.old.items (place - write.at) else before_all rest place now

-- the bytes as a read gives them are an image; the least length is that at the last sync; and what can be taken back
-- lies in the ranges written since; taken back, all writes give the bytes of the last sync
pub record IsPending (now synced : List ℕ) (written : List Extent) (least : ℕ) (unsynced : List Overwrite) : Type 0 where
  pub as_read : IsTornSince synced written now
  pub least_is : least ≡ length synced
  pub covered : (place : ℕ) → IsUnwritten written place → All (λ write. IsOutside write.at (length write.old.items) place) unsynced
  pub taken_back : (place : ℕ) → place < length synced → before_all unsynced place (slice_index now place) ≡ slice_index synced place
