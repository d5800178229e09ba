-- Generated keys, and traces of keys.
use Rattle.std.specs.{Prelude.{ℕ, ◌+◌, ◌-◌, ◌/◌, ◌%◌, ◌^◌, ◌==◌, List, ◌++◌, filter, flat_map, map, if◌then◌else◌}, List.range_with_len}
use Rattle.byteorder.specs.Endian.{little_bytes}
use Rattle.lert_spec.specs.Mix.{mix}
use Rattle.lert_trace.specs.Trace.{trace_header}

-- a mixed value as a key: one of a thousand where it is even, else itself
abbrev pub key_of_mixed : ℕ → ℕ
key_of_mixed v = if v % 2 == 0 then v / 2 ^ 32 % 1000 else v

-- the key of an event of a seed; events count from 1
unfoldable pub key_at : ℕ → ℕ → ℕ
key_at seed event = key_of_mixed (mix ((seed + event) % 2 ^ 64))

-- the keys of the first events of a seed, in their order
abbrev pub generated : ℕ → ℕ → List ℕ
generated seed events = map (key_at seed) (range_with_len 1 events)

-- the bytes of a trace of version 1 of these keys
abbrev pub trace_of : List ℕ → List ℕ
trace_of keys = trace_header 1 ++ flat_map (little_bytes 8) keys

-- those of the first events that one of four traces gets, counted from 0: the first event's key goes to the first trace, the
-- second's to the second, and the fifth's to the first again
abbrev pub dealt : ℕ → ℕ → ℕ → List ℕ
dealt seed events trace = map (key_at seed) (filter (λ event. (event - 1) % 4 == trace) (range_with_len 1 events))
