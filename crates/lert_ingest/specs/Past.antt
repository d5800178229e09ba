-- What there was before a run: packets in the cones, and items that were given of the traces.
use Rattle.std.specs.Prelude.{◌⊎◌, ℕ, ◌+◌, ◌^◌, ◌<◌, ◌≤◌, List, [], ◌∷◌, drop, length, map, suc}
use Rattle.lert_base.specs.Packet.{Packet, events_of}
use Rattle.lert_spec.specs.{declared.item.Item.Item, declared.numbers.Numbers.Numbers, Counts.{weighed, weight_of}, Edges.{capacity, weight_room}}
use Rattle.lert_trace.specs.Trace.{whole}
use Rattle.lert_ingest.specs.Traces.{part_length, part_weight}

-- by the number of a trace how many of its items were given, and by that of a cone the packets that it stands for; and so, of the
-- items that traces have still to give, how many a cone has with them and what it weighs, and which they are by the traces' bytes
pub record Past : Type 0 where
  pub given : ℕ → ℕ
  pub before : ℕ → List Packet
  pub many : ℕ → List (List Item) → ℕ
  pub heavy : ℕ → List (List Item) → ℕ
  pub rests : List (List ℕ) → List (List Item)

-- the items behind those that were given of traces, by their bytes
abbrev pub rests_of : (ℕ → ℕ) → List (List ℕ) → List (List Item)
rests_of given [] = []
rests_of given (text ∷ texts) = drop (given 0) (whole text) ∷ rests_of (λ trace. given (suc trace)) texts

abbrev pub past_of : Numbers → (ℕ → ℕ) → (ℕ → List Packet) → Past
past_of s given before = record {
  given = given;
  before = before;
  many = λ cone traces. length (events_of (before cone)) + part_length s cone traces;
  heavy = λ cone traces. weight_of weighed (events_of (before cone)) + part_weight s cone traces;
  rests = rests_of given;
}

-- nothing
abbrev pub no_past : Numbers → Past
no_past s = record { given = λ _. 0; before = λ _. []; many = part_length s; heavy = part_weight s; rests = map whole }

-- each cone takes its part of the items of all traces, by their number and by their weight
abbrev pub AllFitBehind : Past → Numbers → List (List Item) → Type 0
AllFitBehind past s traces = (cone : ℕ) → cone < 2 ^ s.cone_bits → (past.many cone traces ≤ capacity s) × (past.heavy cone traces ≤ weight_room s)

-- a cone has more items than it takes, or more weight
abbrev pub IsOverBehind : Past → Numbers → List (List Item) → ℕ → Type 0
IsOverBehind past s traces cone = (capacity s < past.many cone traces) ⊎ (weight_room s < past.heavy cone traces)
