-- A key's mixed value, and its two parts: the cone, and the tail within it.
use Rattle.std.specs.Prelude.{ℕ, ◌*◌, ◌/◌, ◌%◌, ◌^◌, ◌==◌, bit_xor, filter, List}
use Rattle.lert_spec.specs.{Counts.{Measure, plain}, Edges.tail_bits}
use Rattle.lert_spec.specs.declared.numbers.Numbers.{Numbers}

-- a number with its 31 highest bits laid over its lowest
abbrev pub folded : ℕ → ℕ
folded n = bit_xor n (n / 2 ^ 33)

-- a number times an odd factor, modulo 2^64
abbrev pub scaled : ℕ → ℕ → ℕ
scaled factor n = n * factor % 2 ^ 64

-- the mixed value of a key: a bijection of the numbers below 2^64
unfoldable pub mix : ℕ → ℕ
mix key = folded (scaled 0xc4ceb9fe1a85ec53 (folded (scaled 0xff51afd7ed558ccd (folded key))))

-- the cone of a key: its mixed value's highest bits, as many as name a cone
abbrev pub cone_of : Numbers → ℕ → ℕ
cone_of s key = mix key / 2 ^ tail_bits s

-- the tail of a key: the other bits of its mixed value
abbrev pub tail_of : Numbers → ℕ → ℕ
tail_of s key = mix key % 2 ^ tail_bits s

-- the part of a cone: those of the items whose keys belong to it, in their order
abbrev pub part_in : {A : Type 0} → Measure A → Numbers → ℕ → List A → List A
part_in by s cone items = filter (λ item. cone_of s (by.key item) == cone) items

-- the same of a list of keys
abbrev pub part_of : Numbers → ℕ → List ℕ → List ℕ
part_of s cone keys = part_in plain s cone keys
