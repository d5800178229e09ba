-- The limits of the settings, in the order in which they are tested.
use Rattle.std.specs.{Prelude.{ℕ, ◌+◌, ◌*◌, ◌^◌, ◌≤◌, ◌&&◌, Bool, nat_le, not, List, [], ◌∷◌, ◌++◌, Option, Some, None}, List.position_from}
use Rattle.lert_spec.specs.{declared.numbers.Numbers.Numbers, Edges.{offset, span}}

-- a number lies from `least` to `most`
abbrev pub lies : ℕ → ℕ → ℕ → Bool
lies least most n = nat_le least n && nat_le n most

-- which of the rules on single numbers are kept, in their order
abbrev pub limits_kept : Numbers → List Bool
limits_kept s =
    lies 1 4294967295 s.threshold
    ∷ lies 2 16 s.bins
    ∷ lies 2 16 s.ratio
    ∷ lies 4 65536 s.base
    ∷ lies 1 8 s.levels
    ∷ lies 0 8 s.cone_bits
    ∷ lies 1 4194304 s.room
    ∷ lies 1 1024 s.packet
    ∷ []

-- and which of the rules on several: the events in the tables of level 0 and the reports, both over all cones, and the
-- positions up to the first move of the oldest level's edge
abbrev pub sums_kept : Numbers → List Bool
sums_kept s =
    nat_le (2 ^ s.cone_bits * s.bins * s.base) (2 ^ 23)
    ∷ nat_le (2 ^ s.cone_bits * s.room) (2 ^ 24)
    ∷ nat_le (offset s s.levels + span s s.levels) (2 ^ 31)
    ∷ []

-- a rule that comes first, or another
abbrev pub first_or : Option ℕ → Option ℕ → Option ℕ
first_or (Some rule) other = Some rule
first_or None other = other

-- the first broken rule of those that come before all others of a command line, counted from 1, none where all are kept
abbrev pub early_broken : Numbers → Option ℕ
early_broken s = position_from not 1 (limits_kept s ++ sums_kept s)

-- which of the rules are kept that come behind all others of a command line: there is none so far
abbrev pub late_kept : Numbers → List Bool
late_kept s = []

-- the first broken one of them, counted from 15
abbrev pub late_broken : Numbers → Option ℕ
late_broken s = position_from not 15 (late_kept s)

-- the first broken rule, none where all are kept
abbrev pub first_broken : Numbers → Option ℕ
first_broken s = first_or (early_broken s) (late_broken s)

-- each number by itself lies in its limits
pub record IsInLimits (s : Numbers) : Type 0 where
  pub threshold_from : 1 ≤ s.threshold
  pub threshold_to : s.threshold ≤ 4294967295
  pub bins_from : 2 ≤ s.bins
  pub bins_to : s.bins ≤ 16
  pub ratio_from : 2 ≤ s.ratio
  pub ratio_to : s.ratio ≤ 16
  pub base_from : 4 ≤ s.base
  pub base_to : s.base ≤ 65536
  pub levels_from : 1 ≤ s.levels
  pub levels_to : s.levels ≤ 8
  pub cone_bits_to : s.cone_bits ≤ 8
  pub room_from : 1 ≤ s.room
  pub room_to : s.room ≤ 4194304
  pub packet_from : 1 ≤ s.packet
  pub packet_to : s.packet ≤ 1024

-- the numbers are settings: no rule is broken
pub record IsValid (s : Numbers) : Type 0 where
  pub limits : IsInLimits s
  pub tables_fit : 2 ^ s.cone_bits * s.bins * s.base ≤ 2 ^ 23
  pub reports_fit : 2 ^ s.cone_bits * s.room ≤ 2 ^ 24
  pub positions_fit : offset s s.levels + span s s.levels ≤ 2 ^ 31
