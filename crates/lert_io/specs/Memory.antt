-- What sources and sinks in memory are seen as.
use Rattle.std.specs.Prelude.{ℕ, Bool, List}

-- a source: the bytes that are left, the numbers of the calls that are to fail, how many calls were made, how many of
-- them failed, and its mark
pub record Feeding : Type 0 where
  pub left : List ℕ
  pub fails : List ℕ
  pub calls : ℕ
  pub faults : ℕ
  pub mark : ℕ

-- a sink: the bytes that it took, how many it may take in all, and the same of its calls
pub record Filling : Type 0 where
  pub taken : List ℕ
  pub room : ℕ
  pub fails : List ℕ
  pub calls : ℕ
  pub faults : ℕ

-- one of two sources that meet: the bytes that are left, how many of them the first read gives at most, whether that was made, and
-- the count of faults and the mark
pub record Pairing : Type 0 where
  pub left : List ℕ
  pub cut : ℕ
  pub begun : Bool
  pub faults : ℕ
  pub mark : ℕ
