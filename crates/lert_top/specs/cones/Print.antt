-- What is printed of cones.
use Rattle.std.specs.Prelude.{◌≡◌, ℕ, Bool, false, List, Some, slice_get, if◌then◌else◌}
use Rattle.lert_cone.specs.{Stands.{Standing, is_broken, is_finished}, declared.state.ConeState.ConeState, declared.state.ConeState.TheVariants.{Finished, Running}}
use Rattle.lert_spec.specs.{declared.numbers.Numbers.Numbers, Lines.Printed}

-- the events and reports of a cone, which is closed where it is finished
abbrev pub printed_as : {B : Type 0} → Standing B → Printed
printed_as cone = record { events = cone.events; reports = cone.reports; closed = is_finished cone.state }

-- the cones have these settings, and none is broken
abbrev pub ArePrintable : {B : Type 0} → Numbers → List (Standing B) → Type 0
ArePrintable {B = B} s cones = (number : ℕ) (cone : Standing B) → slice_get cones number ≡ Some cone → (is_broken cone.state ≡ false) × (cone.listing.settings ≡ s)

-- the state of a cone that is whole: finished or not
abbrev pub state_of : Bool → ConeState
state_of finished = if finished then Finished else Running
