-- The openings of one trace and of the bays of cones, and how what was handed out came back.
use Rattle.std.specs.{Prelude.{◌≡◌, ℕ, ◌<◌, ◌&&◌, Bool, true, false, List, length, map, slice_get, Option, Some}, List.{count_by, range_with_len}}
use Rattle.lert_place.specs.{declared.opening.Opening.Opening, declared.opening.Wanted.Wanted, declared.opening.Wanted.TheVariants.{Trace, Bay}}

abbrev pub is_trace : Wanted → Bool
is_trace (Trace name) = true
is_trace (Bay dir cone) = false

abbrev pub is_bay : Wanted → Bool
is_bay (Trace name) = false
is_bay (Bay dir cone) = true

-- how many openings of traces were granted, and how many of bays
abbrev pub traces_granted : List Opening → ℕ
traces_granted asked = count_by (λ (o : Opening). is_trace o.wanted && o.opened) asked

abbrev pub bays_granted : List Opening → ℕ
bays_granted asked = count_by (λ (o : Opening). is_bay o.wanted && o.opened) asked

-- the openings of the bays of the first so many cones in a directory, all answered Ok
abbrev pub bays_opened : List ℕ → ℕ → List Opening
bays_opened dir number = map (λ cone. record { wanted = Bay dir cone; opened = true }) (range_with_len 0 number)

-- the opening of a bay that failed
abbrev pub bay_refused : List ℕ → ℕ → Opening
bay_refused dir cone = record { wanted = Bay dir cone; opened = false }

-- the opening of a trace
abbrev pub trace_asked : List ℕ → Bool → Opening
trace_asked name opened = record { wanted = Trace name; opened = opened }

-- each object that was handed out was put back under its number, which is its mark
abbrev pub AreReturned : {T : Type 0} → (T → ℕ) → List T → (ℕ → Option T) → Type 0
AreReturned {T = T} mark handed returned = (number : ℕ) → number < length handed → (back : T) × (returned number ≡ Some back) × (mark back ≡ number)

-- each was put back just as it was handed out
abbrev pub AreReturnedSame : {T : Type 0} → List T → (ℕ → Option T) → Type 0
AreReturnedSame handed returned = (number : ℕ) → number < length handed → returned number ≡ slice_get handed number
