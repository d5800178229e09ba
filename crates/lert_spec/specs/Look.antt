-- Which reports are made of a cone's events, and when: windows of the whole list are weighed for every key.
use Rattle.std.specs.{Prelude.{ℕ, zero, suc, ◌==◌, ◌&&◌, Bool, not, nat_lt, nat_le, filter, map, List, [], ◌∷◌, ◌++◌, length, if◌then◌else◌}, List.list_any}
use Rattle.lert_spec.specs.declared.{numbers.Numbers.Numbers, report.Report.Report}
use Rattle.lert_spec.specs.{Counts.{Measure, plain, weight_in}, Edges.lookback, Mix.mix}

-- a key put into keys in the order of their mixed values, where it isn't among them
abbrev pub insert_mixed : ℕ → List ℕ → List ℕ
insert_mixed key [] = key ∷ []
insert_mixed key (other ∷ others) =
    if nat_lt (mix key) (mix other) then key ∷ other ∷ others
    else (if key == other then other ∷ others else other ∷ insert_mixed key others)

-- the keys that occur, each once, in the order of their mixed values
abbrev pub mixed_in : {A : Type 0} → Measure A → List A → List ℕ
mixed_in by [] = []
mixed_in by (event ∷ events) = insert_mixed (by.key event) (mixed_in by events)

-- a key is among those reported
abbrev pub is_listed : ℕ → List Report → Bool
is_listed key reports = list_any (λ report. report.key == key) reports

-- a key isn't reported, and weighs at least `threshold` at the positions above `from`, up to `to`
abbrev pub is_due_in : {A : Type 0} → Measure A → ℕ → List A → ℕ → ℕ → List Report → ℕ → Bool
is_due_in by threshold events from to reports key =
    nat_le threshold (weight_in by key events from to) && not (is_listed key reports)

-- the reports, and behind them at position `to` each key that is due in a window
abbrev pub with_due_in : {A : Type 0} → Measure A → ℕ → List A → ℕ → ℕ → List Report → List Report
with_due_in by threshold events from to reports =
    reports ++ map (λ key. record { key = key; at = to }) (filter (is_due_in by threshold events from to reports) (mixed_in by events))

-- the reports that are made up to position `at`: at each position those keys that are due in the window that it looks back to
abbrev pub look_up_to : {A : Type 0} → Measure A → Numbers → List A → ℕ → List Report
look_up_to by s events zero = []
look_up_to by s events (suc at) = with_due_in by s.threshold events (lookback s (suc at)) (suc at) (look_up_to by s events at)

-- the reports that are made of a cone's events while they come
abbrev pub look_of : {A : Type 0} → Measure A → Numbers → List A → List Report
look_of by s events = look_up_to by s events (length events)

-- the reports that stand once the cone is closed: behind them, at the last position, each key left that weighs `threshold`
abbrev pub closing_of : {A : Type 0} → Measure A → Numbers → List A → List Report
closing_of by s events = with_due_in by s.threshold events 0 (length events) (look_of by s events)

-- the same of a list of keys
abbrev pub mixed_order : List ℕ → List ℕ
mixed_order events = mixed_in plain events

abbrev pub is_due : ℕ → List ℕ → ℕ → ℕ → List Report → ℕ → Bool
is_due threshold events from to reports key = is_due_in plain threshold events from to reports key

abbrev pub with_due : ℕ → List ℕ → ℕ → ℕ → List Report → List Report
with_due threshold events from to reports = with_due_in plain threshold events from to reports

abbrev pub look_to : Numbers → List ℕ → ℕ → List Report
look_to s events at = look_up_to plain s events at

abbrev pub look : Numbers → List ℕ → List Report
look s events = look_of plain s events

abbrev pub closing : Numbers → List ℕ → List Report
closing s events = closing_of plain s events
