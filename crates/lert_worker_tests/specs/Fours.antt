-- One of four workers over a fleet.
use Rattle.std.specs.Prelude.{◌≡◌, ℕ, ◌+◌, List, length, Some, slice_get}
use Rattle.lert_base.specs.declared.cone_fault.ConeFault.{ConeFault}
use Rattle.lert_fleet.specs.Cones.{FleetSight, IsPassOf}
use Rattle.lert_spec.specs.declared.numbers.Numbers.{Numbers}
use Rattle.lert_worker.specs.Ran.{Working}

-- the worker has one trace, and the pass of the fleet with its own number alone
pub record IsBack {S H : Type 0} (number : ℕ) (fleet : FleetSight H) (worker : Working S H) : Type 0 where
  pub belongs : IsPassOf worker.pass fleet
  pub lo_is : worker.pass.lo ≡ number
  pub hi_is : worker.pass.hi ≡ number + 1
  pub one : length worker.traces ≡ 1

-- the same of one that wasn't run yet
pub record IsHired {S H : Type 0} (number : ℕ) (settings : Numbers) (fleet : FleetSight H) (worker : Working S H) : Type 0 where
  pub number_is : worker.number ≡ number
  pub settings_is : worker.settings ≡ settings
  pub back : IsBack number fleet worker

-- of all workers, each has the number of its place
abbrev pub AreHired : {S H : Type 0} → Numbers → FleetSight H → List (Working S H) → Type 0
AreHired settings fleet workers = (place : ℕ) (worker : Working _ _) → slice_get workers place ≡ Some worker → IsHired place settings fleet worker

abbrev pub AreBack : {S H : Type 0} → FleetSight H → List (Working S H) → Type 0
AreBack fleet workers = (place : ℕ) (worker : Working _ _) → slice_get workers place ≡ Some worker → IsBack place fleet worker
