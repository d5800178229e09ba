-- The landings of several levels, that of level 1 first.
use Rattle.std.specs.Prelude.{ℕ, ◌+◌, ◌<◌, List, All, length, slice_index_or}
use Rattle.lert_frames.specs.Frame.{HoldsFrame}
use Rattle.lert_levels.specs.{rows.Landing.IsApart, declared.landing.landing.Landing.Landing, landing.Landed.{taken, IsLanding, IsLandingOf, IsOfLevel}}
use Rattle.lert_spec.specs.declared.numbers.Numbers.{Numbers}

-- which frame a landing is to stand in
pub record Home : Type 0 where
  pub settings : Numbers
  pub version : ℕ
  pub level : ℕ
  pub frame : ℕ

abbrev pub home : Landing → Home
home l = record { settings = l.writer.settings; version = l.writer.version; level = l.writer.level; frame = l.frame }

-- one of each level from the first on
abbrev pub AreOfLevels : Numbers → List Landing → Type 0
AreOfLevels s landings = (k : ℕ) (d : Landing) → k < length landings → IsOfLevel s (k + 1) (slice_index_or landings k d)

-- all of one version
abbrev pub AreLandings : Numbers → ℕ → List Landing → Type 0
AreLandings s version landings = (k : ℕ) (d : Landing) → k < length landings → IsLandingOf s version (k + 1) (slice_index_or landings k d)

-- what each of them put stands in this file of frames, or in its writer
abbrev pub AreLanding : List Landing → List ℕ → Type 0
AreLanding landings file = All (λ l. IsLanding l file) landings

-- a range of the file of frames apart from the places of all of them
abbrev pub IsOutside : List Landing → ℕ → ℕ → Type 0
IsOutside landings from to = All (λ l. IsApart l.writer.settings l.writer.version l.writer.level l.frame from to) landings

-- what each of them took stands in its frame
abbrev pub HaveEnded : Numbers → ℕ → List Landing → List ℕ → Type 0
HaveEnded s version landings file = (k : ℕ) (d : Landing) → k < length landings →
    HoldsFrame s version (k + 1) (slice_index_or landings k d).frame file (taken (slice_index_or landings k d))
