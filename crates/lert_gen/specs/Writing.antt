-- What a text that is written leaves in a sink.
use Rattle.std.specs.Prelude.{◌≡◌, ℕ, ◌<◌, ◌++◌, List, length, take, Option, Some, None, Result, OnOk, OnErr}
use Rattle.lert_io.specs.{declared.faulty.Failed.Failed, Fault.HasCause}

-- from one state of a sink to another a text was appended, or a part of it from the front where a call failed
pub record Appends {K : Type 0} (taken : K → Option (List ℕ)) (faults mark : K → ℕ) (from now : K) (text : List ℕ) (result : Result (Unit {0}) Failed) : Type 0 where
  pub told : (before : List ℕ) → taken from ≡ Some before → OnOk result (taken now ≡ Some (before ++ text))
  pub part : (before : List ℕ) → taken from ≡ Some before → OnErr result
      ((count : ℕ) × (count < length text) × (taken now ≡ Some (before ++ take count text)))
  pub untold : taken from ≡ None → taken now ≡ None
  pub cause : HasCause (faults from) (faults now) result
  pub mark_kept : mark now ≡ mark from
