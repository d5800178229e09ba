-- What the items of a list weigh, key by key.
use Rattle.std.specs.{Prelude.{◌≡◌, ℕ, ◌<◌, ◌≤◌, List, ◌++◌, flat_map, length, map}, List.range_with_len}
use Rattle.lert_spec.specs.{declared.item.Item.Item, declared.numbers.Numbers.Numbers, declared.report.Report.Report}
use Rattle.lert_spec.specs.{Counts.{weighed, weight_in}, Edges.key_limit, Look.mixed_in, Mix.part_in}

-- a key, and in place of a position what its items weigh
abbrev pub line_of : List Item → ℕ → Report
line_of items key = record { key = key; at = weight_in weighed key items 0 (length items) }

-- the tally of items: each key that occurs, once, with what its items weigh, in the order of the mixed values
abbrev pub tally_of : List Item → List Report
tally_of items = map (line_of items) (mixed_in weighed items)

-- the items of all traces, one trace behind the other
abbrev pub joined : List (List Item) → List Item
joined traces = flat_map (λ items. items) traces

-- the tallies of the regions from one on, so many of them, each of the items whose keys are of it
abbrev pub tallies_of : Numbers → ℕ → ℕ → List Item → List Report
tallies_of s first count items = flat_map (λ region. tally_of (part_in weighed s region items)) (range_with_len first count)

-- an item of a trace: its key has the bits of a key at most, and it weighs something
pub record IsItem (s : Numbers) (item : Item) : Type 0 where
  pub fits : item.key < key_limit s
  pub weighs : 1 ≤ item.weight

-- each key weighs as much among some items as among others
abbrev pub WeighTheSame : List Item → List Item → Type 0
WeighTheSame items others = (key : ℕ) → weight_in weighed key items 0 (length items) ≡ weight_in weighed key others 0 (length others)

-- a list ends with a part
abbrev pub EndsWith : List Report → List Report → Type 0
EndsWith whole part = (front : List Report) × (front ++ part ≡ whole)
