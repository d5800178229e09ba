-- What the calls of a log keep of a bay.
use Rattle.std.specs.Prelude.{◌≡◌, ◌≢◌, ℕ, ◌+◌, ◌≤◌, List, [], ◌∷◌, ◌++◌, length}
use Rattle.std.proofs.Common.{◌⊎◌}
use Rattle.lert_bay.specs.{Files.{Files, Holds}, Settled.{Keeps, IsSettled}}
use Rattle.lert_gatelog.specs.Gated.{IsGated, next_gate}

-- what holds of a file in each of these images
abbrev pub InEach : (Files → Type 0) → ℕ → (List ℕ → Type 0) → Type 0
InEach images file P = (image : Files) → images image → P (image file)

-- what is settled in the other files before stays settled in these images
abbrev pub KeepsOthers : (Files → Type 0) → (Files → Type 0) → Files → ℕ → Type 0
KeepsOthers leaves since seen file = (other from to : ℕ) → other ≢ file → IsSettled leaves seen other from to → Keeps since seen other from to

-- what is settled of a file before its gate stays settled in these images
abbrev pub KeepsBefore : (Files → Type 0) → (Files → Type 0) → Files → ℕ → ℕ → Type 0
KeepsBefore leaves since seen file gate = (from to : ℕ) → to ≤ gate → IsSettled leaves seen file from to → Keeps since seen file from to

-- a file is settled from its first byte to its length
abbrev pub IsWhollySettled : (Files → Type 0) → Files → ℕ → Type 0
IsWhollySettled leaves seen file = IsSettled leaves seen file 0 (length (seen file))

-- the open records are those of these payloads, or those and one more
abbrev pub IsWithOrWithout : ℕ → ℕ → List (List ℕ) → ℕ → List ℕ → List ℕ → Type 0
IsWithOrWithout most first payloads gate payload bytes = IsGated most bytes first payloads gate ⊎ IsGated most bytes first (payloads ++ payload ∷ []) (next_gate gate payload)

-- the other files stay as a read gives them
abbrev pub OthersStay : ℕ → Files → Files → Type 0
OthersStay file old new = (other : ℕ) → other ≢ file → new other ≡ old other

-- a file that has this text behind a gate, which is open then: the text is put there first, and the gate's byte over it behind
pub record IsAppended (gate : ℕ) (text old new : List ℕ) : Type 0 where
  pub between : List ℕ
  pub laid : Holds (gate + 1) text old between
  pub opened : Holds gate (1 ∷ []) between new
