-- What is known of the traces of a run: those that were opened, the same ones later, and the items of all.
use Rattle.std.specs.Prelude.{◌≡◌, ℕ, ◌≤◌, List, [], drop, flat_map, length, map, sum_by, Option, Some, None, slice_get}
use Rattle.lert_io.specs.{Fault.{HasRisen, IsFaultless}, Reading.IfTold}
use Rattle.lert_spec.specs.{declared.item.Item.Item, declared.numbers.Numbers.Numbers, Counts.{weighed, weight_of}, Mix.part_in}
use Rattle.lert_trace.specs.Trace.{left, whole}

-- the most items that a trace may have, 2^36
abbrev pub most_items : ℕ
most_items = 68719476736

-- the same trace later: its mark is the same, and its count of faults never falls
pub record IsTraceLater {S : Type 0} (faults mark : S → ℕ) (opened now : S) : Type 0 where
  pub marked : mark now ≡ mark opened
  pub never_falls : faults opened ≤ faults now

-- the same traces later
pub record AreTracesLater {S : Type 0} (faults mark : S → ℕ) (opened later : List S) : Type 0 where
  pub number : length later ≡ length opened
  pub each : (trace : ℕ) (before now : S) → slice_get opened trace ≡ Some before → slice_get later trace ≡ Some now → IsTraceLater faults mark before now

-- what is so of the trace of a number, as it was opened and as it is
abbrev pub AtTrace : {S : Type 0} → (S → S → Type 0) → List S → List S → ℕ → Type 0
AtTrace {S = S} R opened later trace = (before now : S) → slice_get opened trace ≡ Some before → slice_get later trace ≡ Some now → R before now

-- the items that all traces have still to give, of each of which so many were given: of each that tells its bytes all whole items
-- behind these
pub record AreRestsOf {S : Type 0} (remaining : S → Option (List ℕ)) (given : ℕ → ℕ) (opened : List S) (traces : List (List Item)) : Type 0 where
  pub number : length traces ≡ length opened
  pub each : (trace : ℕ) (before : S) (items : List Item) → slice_get opened trace ≡ Some before → slice_get traces trace ≡ Some items
      → IfTold (remaining before) (λ bytes. items ≡ drop (given trace) (whole bytes))

-- the items of all traces
abbrev pub AreItemsOf : {S : Type 0} → (S → Option (List ℕ)) → List S → List (List Item) → Type 0
AreItemsOf remaining opened traces = AreRestsOf remaining (λ _. 0) opened traces

-- all traces tell their bytes, and these are they
abbrev pub AreBytesOf : {S : Type 0} → (S → Option (List ℕ)) → List S → List (List ℕ) → Type 0
AreBytesOf remaining opened texts = map remaining opened ≡ map Some texts

-- bytes are a trace within the limit, and were read to their end
pub record IsReadToEnd (bytes : List ℕ) (remaining : Option (List ℕ)) : Type 0 where
  pub well_formed : left bytes ≡ None
  pub few : length (whole bytes) ≤ most_items
  pub read : remaining ≡ Some []

-- so each trace that tells its bytes
abbrev pub AreReadToEnd : {S : Type 0} → (S → Option (List ℕ)) → List S → List S → Type 0
AreReadToEnd {S = S} remaining opened later = (trace : ℕ) (before now : S) → slice_get opened trace ≡ Some before → slice_get later trace ≡ Some now
    → IfTold (remaining before) (λ bytes. IsReadToEnd bytes (remaining now))

-- no fault of a trace was counted
abbrev pub AreTracesFaultless : {S : Type 0} → (S → ℕ) → List S → List S → Type 0
AreTracesFaultless {S = S} faults opened later = (trace : ℕ) (before now : S) → slice_get opened trace ≡ Some before → slice_get later trace ≡ Some now
    → IsFaultless (faults before) (faults now)

-- the count of faults of a trace rose
pub record HasTraceFailed {S : Type 0} (faults : S → ℕ) (opened later : List S) (trace : ℕ) : Type 0 where
  pub before : S
  pub now : S
  pub was : slice_get opened trace ≡ Some before
  pub is : slice_get later trace ≡ Some now
  pub rose : HasRisen (faults before) (faults now)

-- the trace of a number was opened, and where it tells its bytes, this is so of them
pub record IsOpened {S : Type 0} (remaining : S → Option (List ℕ)) (opened : List S) (trace : ℕ) (P : List ℕ → Type 0) : Type 0 where
  pub before : S
  pub was : slice_get opened trace ≡ Some before
  pub told : IfTold (remaining before) P

-- the items of all traces, one behind the other
abbrev pub all_items : List (List Item) → List Item
all_items traces = flat_map (λ items. items) traces

-- how many items of all traces belong to a cone
abbrev pub part_length : Numbers → ℕ → List (List Item) → ℕ
part_length s cone traces = sum_by (λ items. length (part_in weighed s cone items)) traces

-- and what they weigh
abbrev pub part_weight : Numbers → ℕ → List (List Item) → ℕ
part_weight s cone traces = sum_by (λ items. weight_of weighed (part_in weighed s cone items)) traces
