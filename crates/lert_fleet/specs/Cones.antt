-- What callers see of a fleet and of its passes, cone by cone.
use Rattle.std.specs.Prelude.{◌≡◌, ◌≢◌, ℕ, List, length, map, Some, slice_get}
use Rattle.lert_base.specs.declared.held.Held.{Ghosts as HeldOf}
use Rattle.lert_conelock.specs.Sight.{Sight, LockSight, first_pass, BelongsTo, Joined, Closed}
use Rattle.lert_fleet.specs.Each.{EachTwo, EachThree}

-- a fleet: the lock of each cone, in the cones' order
abbrev pub FleetSight : Type 0 → Type 0
FleetSight H = List (LockSight H)

-- a pass of a fleet: its numbers, from lo on and below hi, and the pass of each cone's lock, in the same order
pub record FleetPassSight (H F : Type 0) : Type 0 where
  pub lo : ℕ
  pub hi : ℕ
  pub cones : List (Sight H F)

-- of a pass of a fleet, what it has for one cone: a pass of that cone's lock, with the same numbers
pub record IsOwnPass {H F : Type 0} (pass : FleetPassSight H F) (lock : LockSight H) (own : Sight H F) : Type 0 where
  pub belongs : BelongsTo own lock
  pub lo_is : own.lo ≡ pass.lo
  pub hi_is : own.hi ≡ pass.hi

-- the pass is one of this fleet
abbrev pub IsPassOf : {H F : Type 0} → FleetPassSight H F → FleetSight H → Type 0
IsPassOf pass fleet = EachTwo (IsOwnPass pass) fleet pass.cones

-- the pass has all numbers of the fleet
pub record IsWhole {H F : Type 0} (pass : FleetPassSight H F) (fleet : FleetSight H) : Type 0 where
  pub lo_is : pass.lo ≡ 0
  pub hi_is : (cone : ℕ) (lock : LockSight H) → slice_get fleet cone ≡ Some lock → pass.hi ≡ lock.numbers

-- the fleet of these states, each lock of which has so many callers
pub record IsFleetOf {H : Type 0} (states : List H) (numbers : ℕ) (fleet : FleetSight H) : Type 0 where
  pub firsts : map (λ (lock : LockSight H). lock.first) fleet ≡ states
  pub numbers_are : (cone : ℕ) (lock : LockSight H) → slice_get fleet cone ≡ Some lock → lock.numbers ≡ numbers

module _ {H F : Type 0} where
  -- the first pass of a fleet, each lock of which has so many callers
  abbrev pub first_passes : ℕ → FleetSight H → FleetPassSight H F
  first_passes numbers fleet = record { lo = 0; hi = numbers; cones = map first_pass fleet }

  -- the two passes of a split
  abbrev pub below : ℕ → FleetPassSight H F → FleetPassSight H F
  below at pass = record pass { hi = at; cones = map (λ (own : Sight H F). record own { hi = at }) pass.cones }

  abbrev pub from : ℕ → FleetPassSight H F → FleetPassSight H F
  from at pass = record pass {
    lo = at;
    cones = map (λ (own : Sight H F). record own { lo = at; met = 0; waits = 0 }) pass.cones;
  }

  -- R holds of the cone's lock, and of the cone's own pass before a call and after it
  abbrev pub AtCone : (LockSight H → Sight H F → Sight H F → Type 0) → FleetSight H → ℕ
      → FleetPassSight H F → FleetPassSight H F → Type 0
  AtCone R fleet cone old new = (lock : LockSight H) (before after : Sight H F) → slice_get fleet cone ≡ Some lock
      → slice_get old.cones cone ≡ Some before → slice_get new.cones cone ≡ Some after → R lock before after

-- a call on one cone leaves the numbers, and what the pass has for every other cone
pub record ChangesOnly {H F : Type 0} (cone : ℕ) (old new : FleetPassSight H F) : Type 0 where
  pub lo_is : new.lo ≡ old.lo
  pub hi_is : new.hi ≡ old.hi
  pub as_many : length new.cones ≡ length old.cones
  pub others : (other : ℕ) → other ≢ cone → slice_get new.cones other ≡ slice_get old.cones other

-- one pass of two, cone by cone
pub record JoinsEach {H F : Type 0} (old other new : FleetPassSight H F) : Type 0 where
  pub lo_is : new.lo ≡ old.lo
  pub hi_is : new.hi ≡ other.hi
  pub cones : EachThree Joined old.cones other.cones new.cones

-- the states of a fleet that is closed, cone by cone
abbrev pub ClosesEach : {H T R F : Type 0} → HeldOf H T R F → FleetSight H → FleetPassSight H F → List H → Type 0
ClosesEach held fleet pass states = EachThree (Closed held) fleet pass.cones states
