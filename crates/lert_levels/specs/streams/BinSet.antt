-- The bins of a flush as a set of streams.
use Rattle.std.specs.Prelude.{ℕ, ◌≡◌, ◌⊎◌, List, [], ◌∷◌}
use Rattle.lert_spec.specs.declared.numbers.Numbers.{Numbers}
use Rattle.lert_levels.specs.streams.Bin.{Bin, IsSureBin, ReadsIn, IsSameBin}

-- the bins, those of tables first, of files of a version, and how many more frames can be begun
pub record BinSet : Type 0 where
  pub settings : Numbers
  pub version : ℕ
  pub bins : List Bin
  pub spare : ℕ

-- a range that one of the bins reads
abbrev pub Reads : List Bin → ℕ → ℕ → Type 0
Reads [] from to = ⊥
Reads (bin ∷ bins) from to = ReadsIn bin from to ⊎ Reads bins from to

-- each bin is sure of a file of frames
abbrev pub AreSure : List Bin → List ℕ → Type 0
AreSure [] file = Unit {0}
AreSure (bin ∷ bins) file = IsSureBin bin file × AreSure bins file

-- the same bins
abbrev pub AreSameBins : List Bin → List Bin → Type 0
AreSameBins [] [] = Unit {0}
AreSameBins (old ∷ olds) (new ∷ news) = IsSameBin old new × AreSameBins olds news
AreSameBins [] (new ∷ news) = ⊥
AreSameBins (old ∷ olds) [] = ⊥

-- the same bins, of the same cone, beside as many free readers
pub record IsSameSet (old new : BinSet) : Type 0 where
  pub settings : new.settings ≡ old.settings
  pub version : new.version ≡ old.version
  pub bins : AreSameBins old.bins new.bins
  pub spare : new.spare ≡ old.spare
