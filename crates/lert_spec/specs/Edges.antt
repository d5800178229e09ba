-- The edges of a cone's levels after so many events, as whole numbers. Positions count from 1.
--
-- Level 0 holds the positions above its edge, and an older level those above its edge up to the edge of the next
-- younger level.
use Rattle.std.specs.{Prelude.{ℕ, zero, suc, ◌+◌, ◌-◌, ◌*◌, ◌/◌, ◌^◌, ◌==◌, nat_le, min, find, unwrap_or, if◌then◌else◌}, List.range_with_len}
use Rattle.lert_spec.specs.declared.numbers.Numbers.{Numbers}

-- the bits of a key
abbrev pub key_bits : Numbers → ℕ
key_bits s = 64

-- keys are below this number
abbrev pub key_limit : Numbers → ℕ
key_limit s = 2 ^ key_bits s

-- the bits of a tail: those of a mixed value that don't name the cone
abbrev pub tail_bits : Numbers → ℕ
tail_bits s = key_bits s - s.cone_bits

-- the width of a level's bins
abbrev pub span : Numbers → ℕ → ℕ
span s level = s.base * s.ratio ^ level

-- the spans of the levels up to this one, together
abbrev pub spans : Numbers → ℕ → ℕ
spans s zero = span s 0
spans s (suc level) = spans s level + span s (suc level)

-- how many events a level's edge stays behind at least
abbrev pub offset : Numbers → ℕ → ℕ
offset s level = (s.bins - 1) * spans s level

-- the edge of a level after n events: the whole spans in the events above its offset, and 0 below it
abbrev pub edge : Numbers → ℕ → ℕ → ℕ
edge s level n = span s level * ((n - offset s level) / span s level)

-- how much weight a cone takes: no more keys than the room reach the threshold
abbrev pub weight_room : Numbers → ℕ
weight_room s = s.threshold * s.room

-- how many events a cone takes: the edge of its oldest level never moves, and each weighs at least 1
abbrev pub capacity : Numbers → ℕ
capacity s = min (offset s s.levels + span s s.levels - 1) (weight_room s)

-- the greatest of the levels up to `level` for which the edge of the next younger level moves at position m, or 0
abbrev pub deepest : Numbers → ℕ → ℕ → ℕ
deepest s zero m = 0
deepest s (suc level) m = if edge s level m == edge s level (m - 1) then deepest s level m else suc level

-- how deep the flush at position m goes: 0 where m is no flush position
abbrev pub depth : Numbers → ℕ → ℕ
depth s m = deepest s s.levels m

-- up to which position the flush at position m looks back
abbrev pub lookback : Numbers → ℕ → ℕ
lookback s m = edge s (depth s m) (m - 1)

-- the quotient bits of a level's tables: the least number from 6 on with a quotient for each event of a span
abbrev pub quotient_bits : Numbers → ℕ → ℕ
quotient_bits s level = unwrap_or (find (λ q. nat_le (span s level) (2 ^ q)) (range_with_len 6 58)) 64

-- the width of a level's tables: the bits of a key that name neither the cone nor the quotient
abbrev pub width : Numbers → ℕ → ℕ
width s level = tail_bits s - quotient_bits s level
