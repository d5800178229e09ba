-- Counts and occurrences of a key in a list of events, whose positions count from 1.
use Rattle.std.specs.{Prelude.{ℕ, ◌==◌, ◌≤◌, All, nat_lt, nat_le, sum_by, filter, find, List, [], ◌∷◌, length, slice_range, Option, if◌then◌else◌}, List.{position_from, range_with_len}}
use Rattle.lert_spec.specs.declared.item.Item.{Item}

-- how the items of a list are read: each has a key and a weight
pub record Measure (A : Type 0) : Type 0 where
  pub key : A → ℕ
  pub weight : A → ℕ

-- those of a list of keys, which weigh 1
abbrev pub plain : Measure ℕ
plain = record { key = λ key. key; weight = λ _. 1 }

-- those of a list of items
abbrev pub weighed : Measure Item
weighed = record { key = λ item. item.key; weight = λ item. item.weight }

-- what an item weighs for a key
abbrev pub weight_for : {A : Type 0} → Measure A → ℕ → A → ℕ
weight_for by key item = if by.key item == key then by.weight item else 0

-- the weight of a key at the positions above `from`, up to `to`
abbrev pub weight_in : {A : Type 0} → Measure A → ℕ → List A → ℕ → ℕ → ℕ
weight_in by key events from to = sum_by (weight_for by key) (slice_range events from to)

-- what all events weigh
abbrev pub weight_of : {A : Type 0} → Measure A → List A → ℕ
weight_of by events = sum_by by.weight events

-- each weighs something, and at most 255
abbrev pub AreWeighed : {A : Type 0} → Measure A → List A → Type 0
AreWeighed by events = All (λ item. (1 ≤ by.weight item) × (by.weight item ≤ 255)) events

-- the positions of a list of events
abbrev pub positions : {A : Type 0} → List A → List ℕ
positions events = range_with_len 1 (length events)

-- the first position up to which a key weighs n, n at least 1
abbrev pub nth_in : {A : Type 0} → Measure A → ℕ → ℕ → List A → Option ℕ
nth_in by n key events = find (λ at. nat_le n (weight_in by key events 0 at)) (positions events)

-- the first position of a key
abbrev pub first_in : {A : Type 0} → Measure A → ℕ → List A → Option ℕ
first_in by key events = position_from (λ item. by.key item == key) 1 events

-- a key put into ascending keys, where it isn't among them
abbrev pub insert_key : ℕ → List ℕ → List ℕ
insert_key key [] = key ∷ []
insert_key key (other ∷ others) =
    if nat_lt key other then key ∷ other ∷ others
    else (if key == other then other ∷ others else other ∷ insert_key key others)

-- the keys that occur, each once, in ascending order
abbrev pub distinct_in : {A : Type 0} → Measure A → List A → List ℕ
distinct_in by [] = []
distinct_in by (event ∷ events) = insert_key (by.key event) (distinct_in by events)

-- the keys that weigh at least `threshold`, each once, in ascending order
abbrev pub heavy_in : {A : Type 0} → Measure A → ℕ → List A → List ℕ
heavy_in by threshold events = filter (λ key. nat_le threshold (weight_in by key events 0 (length events))) (distinct_in by events)

-- the same of a list of keys: a key weighs as much as it occurs often
abbrev pub count : ℕ → List ℕ → ℕ → ℕ → ℕ
count key events from to = weight_in plain key events from to

abbrev pub nth_occurrence : ℕ → ℕ → List ℕ → Option ℕ
nth_occurrence n key events = nth_in plain n key events

abbrev pub first : ℕ → List ℕ → Option ℕ
first key events = first_in plain key events

abbrev pub distinct : List ℕ → List ℕ
distinct events = distinct_in plain events

abbrev pub heavy : ℕ → List ℕ → List ℕ
heavy threshold events = heavy_in plain threshold events
