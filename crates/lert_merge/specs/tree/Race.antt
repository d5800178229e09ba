-- The keys of some streams, and which stream is first.
use Rattle.std.specs.Prelude.{ℕ, ◌-◌, ◌^◌, ◌<◌, ◌≤◌, List, length, slice_index_or}

-- a key for each stream, for how many there is room, and the stream that is first
pub record Race : Type 0 where
  pub keys : List ℕ
  pub room : ℕ
  pub first : ℕ

abbrev pub number_at : List ℕ → ℕ → ℕ
number_at numbers k = slice_index_or numbers k 0

-- the greatest key that there is
abbrev pub greatest : ℕ
greatest = 2 ^ 64 - 1

-- no stream has a lesser key than this one
pub record IsLeast (keys : List ℕ) (first : ℕ) : Type 0 where
  pub within : first < length keys
  pub least : (k : ℕ) → k < length keys → number_at keys first ≤ number_at keys k
