-- The formats, computed on a journal of three keys 7 and on payloads that break them.
use Rattle.std.proofs.Common.{◌≡◌, ℕ, List, [], ◌∷◌, ◌++◌, take, Some, None, refl}
use Rattle.lert_base.specs.Packet.{Packet}
use Rattle.lert_spec.specs.{declared.numbers.Numbers.Numbers, Items.units, Mix.mix}
use Rattle.lert_journal.specs.{Header.{magic, header, header_left, kept_in}, Payload.{payload_of, packet_in, left}}

-- settings with one cone, and with two
abbrev alone : Numbers
alone = record { threshold = 3; bins = 3; ratio = 2; base = 4; levels = 2; cone_bits = 0; room = 32; packet = 8 }

abbrev halves : Numbers
halves = record { threshold = 3; bins = 3; ratio = 2; base = 4; levels = 2; cone_bits = 1; room = 32; packet = 1 }

abbrev sevens : Packet
sevens = record { by = 0; trace = 0; items = units (7 ∷ 7 ∷ 7 ∷ []) }

abbrev header_bytes : List ℕ
header_bytes =
    0x4c ∷ 0x45 ∷ 0x52 ∷ 0x54 ∷ 0x4a ∷ 1 ∷ 0 ∷ 0
    ∷ 3 ∷ 0 ∷ 0 ∷ 0 ∷ 0x20 ∷ 0 ∷ 0 ∷ 0 ∷ 4 ∷ 0 ∷ 0 ∷ 0 ∷ 8 ∷ 0 ∷ 0 ∷ 0
    ∷ 3 ∷ 2 ∷ 2 ∷ 0 ∷ 0 ∷ 0 ∷ 0 ∷ 0 ∷ []

abbrev sevens_bytes : List ℕ
sevens_bytes =
    0 ∷ 0 ∷ 0 ∷ 0 ∷ 0 ∷ 0 ∷ 0 ∷ 0
    ∷ 7 ∷ 0 ∷ 0 ∷ 0 ∷ 0 ∷ 0 ∷ 0 ∷ 0 ∷ 7 ∷ 0 ∷ 0 ∷ 0 ∷ 0 ∷ 0 ∷ 0 ∷ 0 ∷ 7 ∷ 0 ∷ 0 ∷ 0 ∷ 0 ∷ 0 ∷ 0 ∷ 0 ∷ []

header_of_one_cone : header (magic 1) alone 0 ≡ header_bytes
header_of_one_cone = refl

header_read : kept_in header_bytes ≡ record { cone = 0; version = 1; numbers = alone }
header_read = refl

-- no byte, a cut one, versions that there aren't, and a header that nothing stands behind
no_byte : header_left [] ≡ Some 0
no_byte = refl

cut_header : header_left (take 31 header_bytes) ≡ Some 31
cut_header = refl

no_version : header_left (0x4c ∷ 0x45 ∷ 0x52 ∷ 0x54 ∷ 0x4a ∷ 0 ∷ []) ≡ Some 5
no_version = refl

later_version : header_left (0x4c ∷ 0x45 ∷ 0x52 ∷ 0x54 ∷ 0x4a ∷ 3 ∷ []) ≡ Some 5
later_version = refl

-- behind either version the other bytes are to be the right ones
cut_behind_the_version : header_left (0x4c ∷ 0x45 ∷ 0x52 ∷ 0x54 ∷ 0x4a ∷ 2 ∷ []) ≡ Some 6
cut_behind_the_version = refl

other_behind_the_version : header_left (0x4c ∷ 0x45 ∷ 0x52 ∷ 0x54 ∷ 0x4a ∷ 2 ∷ 0 ∷ 1 ∷ []) ≡ Some 7
other_behind_the_version = refl

header_alone : header_left header_bytes ≡ None
header_alone = refl

payload_of_sevens : payload_of 1 sevens ≡ sevens_bytes
payload_of_sevens = refl

packet_in_sevens : packet_in 1 sevens_bytes ≡ sevens
packet_in_sevens = refl

whole : left 1 alone 0 sevens_bytes ≡ None
unfolding mix
whole = refl

-- no key, half a key, and five keys where four are the most
no_key : left 1 alone 0 (0 ∷ 0 ∷ 0 ∷ 0 ∷ 0 ∷ 0 ∷ 0 ∷ 0 ∷ []) ≡ Some 0
no_key = refl

half_a_key : left 1 alone 0 (sevens_bytes ++ 0 ∷ 0 ∷ 0 ∷ 0 ∷ []) ≡ Some 0
half_a_key = refl

one_key_too_many : left 1 halves 0 (payload_of 1 (record { by = 0; trace = 0; items = units (0 ∷ 0 ∷ 0 ∷ 0 ∷ 0 ∷ []) })) ≡ Some 0
one_key_too_many = refl

-- the greatest numbers, and one more
greatest : left 1 halves 0 (payload_of 1 (record { by = 63; trace = 1023; items = units (0 ∷ []) })) ≡ None
unfolding mix
greatest = refl

by_too_great : left 1 halves 0 (payload_of 1 (record { by = 64; trace = 1024; items = units (0 ∷ []) })) ≡ Some 4
by_too_great = refl

trace_too_great : left 1 halves 0 (payload_of 1 (record { by = 63; trace = 1024; items = units (1 ∷ []) })) ≡ Some 8
trace_too_great = refl

-- key 1 is of the other cone
key_of_the_other_cone : left 1 halves 0 (payload_of 1 (record { by = 0; trace = 0; items = units (0 ∷ 1 ∷ 1 ∷ []) })) ≡ Some 20
unfolding mix
key_of_the_other_cone = refl

-- ---- the second version: 7 three times, of weights 1, 2 and 255

abbrev weighed_sevens : Packet
weighed_sevens = record {
  by = 0;
  trace = 0;
  items = record { key = 7; weight = 1 } ∷ record { key = 7; weight = 2 } ∷ record { key = 7; weight = 255 } ∷ [];
}

abbrev weighed_bytes : List ℕ
weighed_bytes =
    0 ∷ 0 ∷ 0 ∷ 0 ∷ 0 ∷ 0 ∷ 0 ∷ 0
    ∷ 7 ∷ 0 ∷ 0 ∷ 0 ∷ 0 ∷ 0 ∷ 0 ∷ 0 ∷ 1 ∷ 7 ∷ 0 ∷ 0 ∷ 0 ∷ 0 ∷ 0 ∷ 0 ∷ 0 ∷ 2 ∷ 7 ∷ 0 ∷ 0 ∷ 0 ∷ 0 ∷ 0 ∷ 0 ∷ 0 ∷ 255 ∷ []

payload_of_weighed : payload_of 2 weighed_sevens ≡ weighed_bytes
payload_of_weighed = refl

packet_in_weighed : packet_in 2 weighed_bytes ≡ weighed_sevens
packet_in_weighed = refl

whole_weighed : left 2 alone 0 weighed_bytes ≡ None
unfolding mix
whole_weighed = refl

-- a byte too few, the keys of the first version, and a header of it
cut_weight : left 2 alone 0 (take 34 weighed_bytes) ≡ Some 0
cut_weight = refl

no_weights : left 2 alone 0 sevens_bytes ≡ Some 0
no_weights = refl

weighed_header_alone : header_left (header (magic 2) alone 0) ≡ None
weighed_header_alone = refl

weighed_header : kept_in (header (magic 2) alone 0) ≡ record { cone = 0; version = 2; numbers = alone }
weighed_header = refl

-- the second item weighs nothing; in one of the other cone the key comes first
no_weight : left 2 alone 0 (payload_of 2 (record { by = 0; trace = 0; items = record { key = 7; weight = 1 } ∷ record { key = 7; weight = 0 } ∷ [] })) ≡ Some 29
unfolding mix
no_weight = refl

key_before_weight : left 2 halves 0 (payload_of 2 (record { by = 0; trace = 0; items = record { key = 1; weight = 0 } ∷ [] })) ≡ Some 12
unfolding mix
key_before_weight = refl

one_item_too_many : left 2 halves 0 (payload_of 2 (record { by = 0; trace = 0; items = units (0 ∷ 0 ∷ 0 ∷ 0 ∷ 0 ∷ []) })) ≡ Some 0
one_item_too_many = refl
