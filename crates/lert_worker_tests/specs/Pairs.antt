-- Two callers of a lock or of a fleet, and two workers over a fleet, that has no other.
use Rattle.std.specs.Prelude.{◌≡◌, ℕ, List, [], ◌∷◌, Option, Some, slice_get}
use Rattle.lert_base.specs.{declared.cone_fault.ConeFault.ConeFault, declared.held.Held.Ghosts as HeldOf}
use Rattle.lert_conelock.specs.Sight.{BelongsTo, LockSight, Sight}
use Rattle.lert_fleet.specs.Cones.{FleetSight, FleetPassSight, IsPassOf}
use Rattle.lert_spec.specs.declared.numbers.Numbers.{Numbers}
use Rattle.lert_worker.specs.Ran.{HasRun, MayRun, Working}

-- two passes of a lock, each with one of its two numbers
pub record AreLockPasses {H F : Type 0} (lock : LockSight H) (first second : Sight H F) : Type 0 where
  pub belongs : BelongsTo first lock
  pub other_belongs : BelongsTo second lock
  pub lo_is : first.lo ≡ 0
  pub hi_is : first.hi ≡ 1
  pub other_lo_is : second.lo ≡ 1
  pub other_hi_is : second.hi ≡ 2
  pub all : lock.numbers ≡ 2

-- two passes of a fleet, each with one of its two numbers
pub record ArePasses {H F : Type 0} (fleet : FleetSight H) (first second : FleetPassSight H F) : Type 0 where
  pub belongs : IsPassOf first fleet
  pub other_belongs : IsPassOf second fleet
  pub lo_is : first.lo ≡ 0
  pub hi_is : first.hi ≡ 1
  pub other_lo_is : second.lo ≡ 1
  pub other_hi_is : second.hi ≡ 2
  pub all : (cone : ℕ) (lock : LockSight H) → slice_get fleet cone ≡ Some lock → lock.numbers ≡ 2

-- a worker of one trace, which has its own number
pub record IsStarted {S H : Type 0} (number : ℕ) (settings : Numbers) (pass : FleetPassSight H ConeFault) (worker : Working S H) : Type 0 where
  pub number_is : worker.number ≡ number
  pub settings_is : worker.settings ≡ settings
  pub traces_are : worker.traces ≡ number ∷ []
  pub pass_is : worker.pass ≡ pass

-- both may run
pub record MayBothRun {S H T R : Type 0} (held : HeldOf H T R ConeFault) (fleet : FleetSight H) (first second : Working S H) : Type 0 where
  pub may : MayRun held fleet first
  pub other_may : MayRun held fleet second

-- both ran
pub record HaveBothRun {S H : Type 0} (remaining : S → Option (List ℕ)) (faults mark : S → ℕ) (fleet : FleetSight H) (first second first_after second_after : Working S H) : Type 0 where
  pub ran : HasRun remaining faults mark fleet first first_after
  pub other_ran : HasRun remaining faults mark fleet second second_after
