-- Gated records: payloads behind gates. A gate is one byte, open exactly where it is 1. Behind an open gate stand the
-- payload's length as four bytes, the payload, and the next gate. What stands behind a closed gate means nothing.
use Rattle.std.specs.Prelude.{◌≡◌, ◌≢◌, ℕ, ◌+◌, ◌<◌, ◌≤◌, List, [], ◌∷◌, ◌++◌, length, slice_index}
use Rattle.std.proofs.Common.{◌⊎◌}
use Rattle.byteorder.specs.Endian.{little_number, little_bytes}
use Rattle.lert_bay.specs.Settled.{part}

-- a payload with its length
abbrev pub body : List ℕ → List ℕ
body payload = little_bytes 4 (length payload) ++ payload

-- the gate behind a payload
abbrev pub next_gate : ℕ → List ℕ → ℕ
next_gate gate payload = gate + 5 + length payload

-- the length that stands behind a gate
abbrev pub counted_at : List ℕ → ℕ → ℕ
counted_at bytes gate = little_number 4 (part bytes (gate + 1) (gate + 5))

-- an open gate, and behind it this payload of at least one byte and at most `most`
pub record IsOpen (most : ℕ) (bytes : List ℕ) (gate : ℕ) (payload : List ℕ) : Type 0 where
  pub opened : slice_index bytes gate ≡ 1
  pub counted : counted_at bytes gate ≡ length payload
  pub some : 0 < length payload
  pub fits : length payload ≤ most
  pub there : part bytes (gate + 5) (next_gate gate payload) ≡ payload

-- a closed gate
pub record IsClosed (bytes : List ℕ) (gate : ℕ) : Type 0 where
  pub within : gate < length bytes
  pub shut : slice_index bytes gate ≢ 1

-- the bytes end here before a record does: before its gate, in its length, or in its payload
pub data IsCutShort (most : ℕ) (bytes : List ℕ) (gate : ℕ) : Type 0 where
  No_gate : length bytes ≤ gate → IsCutShort most bytes gate
  Cut_length : slice_index bytes gate ≡ 1 → gate < length bytes → length bytes < gate + 5 → IsCutShort most bytes gate
  Cut_payload : slice_index bytes gate ≡ 1 → 0 < counted_at bytes gate → counted_at bytes gate ≤ most → gate + 5 ≤ length bytes →
      length bytes < gate + 5 + counted_at bytes gate → IsCutShort most bytes gate

-- a whole length that no payload has
pub record IsMiscounted (most : ℕ) (bytes : List ℕ) (gate : ℕ) : Type 0 where
  pub opened : slice_index bytes gate ≡ 1
  pub whole : gate + 5 ≤ length bytes
  pub wrong : (counted_at bytes gate ≡ 0) ⊎ (most < counted_at bytes gate)

-- the place at which the record at a gate first leaves the format
abbrev pub BreaksAt : ℕ → List ℕ → ℕ → ℕ → Type 0
BreaksAt most bytes gate at = ((at ≡ length bytes) × IsCutShort most bytes gate) ⊎ ((at ≡ gate + 1) × IsMiscounted most bytes gate)

-- records of these payloads stand one behind the other from one gate up to another
abbrev pub Records : ℕ → List ℕ → ℕ → List (List ℕ) → ℕ → Type 0
Records most bytes gate [] end = end ≡ gate
Records most bytes gate (payload ∷ rest) end = IsOpen most bytes gate payload × Records most bytes (next_gate gate payload) rest end

-- the open records from the gate `first` on are those of these payloads, and end at a closed gate
pub record IsGated (most : ℕ) (bytes : List ℕ) (first : ℕ) (payloads : List (List ℕ)) (end : ℕ) : Type 0 where
  pub records : Records most bytes first payloads end
  pub closed : IsClosed bytes end

-- what `append` takes: a payload with its length, and a closed gate behind it
abbrev pub appendix : List ℕ → List ℕ
appendix payload = body payload ++ 0 ∷ []

-- this text is such a payload's, of one byte at least and `most` at most
pub record IsAppendix (most : ℕ) (text : List ℕ) : Type 0 where
  pub payload : List ℕ
  pub is : text ≡ appendix payload
  pub some : 0 < length payload
  pub fits : length payload ≤ most

-- a log: its file, the gate that it stands at, and the greatest length of a payload
pub record Log : Type 0 where
  pub file : ℕ
  pub gate : ℕ
  pub most : ℕ

-- an open gate with a whole length of some payload behind it
pub record IsAnnounced (most : ℕ) (bytes : List ℕ) (gate count : ℕ) : Type 0 where
  pub opened : slice_index bytes gate ≡ 1
  pub whole : gate + 5 ≤ length bytes
  pub counted : counted_at bytes gate ≡ count
