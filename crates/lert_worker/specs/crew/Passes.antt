-- Workers of a fleet, and the passes that they hold.
use Rattle.std.specs.Prelude.{◌≡◌, ℕ, ◌+◌, ◌<◌, ◌≤◌, List, [], Some, slice_get}
use Rattle.lert_base.specs.{Packet.{Packet, own}, declared.cone_fault.ConeFault.ConeFault}
use Rattle.lert_conelock.specs.Sight.{Sight, own_refused}
use Rattle.lert_fleet.specs.Cones.{FleetPassSight, FleetSight, IsPassOf}
use Rattle.lert_spec.specs.declared.numbers.Numbers.{Numbers}
use Rattle.lert_worker.specs.Ran.{Working}

-- what holds of each element of a list
abbrev pub EachAt : {A : Type 0} → (ℕ → A → Type 0) → List A → Type 0
EachAt {A = A} P xs = (place : ℕ) (x : A) → slice_get xs place ≡ Some x → P place x

-- what each number brought to a cone, and what was refused of it
abbrev pub Brought : Type 0
Brought = ℕ → ℕ → List Packet

abbrev pub Turned : Type 0
Turned = ℕ → ℕ → List (Packet × ConeFault)

-- a pass shows of its numbers what these brought to each cone
pub record Shows {H : Type 0} (brought : Brought) (turned : Turned) (lo hi : ℕ) (pass : FleetPassSight H ConeFault) : Type 0 where
  pub calls : (cone : ℕ) (sight : Sight H ConeFault) → slice_get pass.cones cone ≡ Some sight → (by : ℕ) → lo ≤ by → by < hi → own sight.calls by ≡ brought cone by
  pub refused : (cone : ℕ) (sight : Sight H ConeFault) → slice_get pass.cones cone ≡ Some sight → (by : ℕ) → lo ≤ by → by < hi → own_refused sight.refused by ≡ turned
      cone by

-- no call was made with a pass
pub record IsQuiet {H : Type 0} (pass : FleetPassSight H ConeFault) : Type 0 where
  pub calls : (cone : ℕ) (sight : Sight H ConeFault) → slice_get pass.cones cone ≡ Some sight → sight.calls ≡ []
  pub refused : (cone : ℕ) (sight : Sight H ConeFault) → slice_get pass.cones cone ≡ Some sight → sight.refused ≡ []

-- a pass of a fleet with the numbers from lo on and below hi
pub record IsPassFrom {H : Type 0} (fleet : FleetSight H) (lo hi : ℕ) (pass : FleetPassSight H ConeFault) : Type 0 where
  pub belongs : IsPassOf pass fleet
  pub lo_is : pass.lo ≡ lo
  pub hi_is : pass.hi ≡ hi

-- a worker without traces, with the pass of its number
pub record IsHired {S H : Type 0} (fleet : FleetSight H) (s : Numbers) (number : ℕ) (worker : Working S H) : Type 0 where
  pub number_is : worker.number ≡ number
  pub settings_is : worker.settings ≡ s
  pub no_trace : worker.traces ≡ []
  pub no_reader : worker.readers ≡ []
  pub pass_is : IsPassFrom fleet number (number + 1) worker.pass
  pub quiet : IsQuiet worker.pass

-- the last of some workers, of which the first has the greatest number: from a number on, one for each
abbrev pub AreHired : {S H : Type 0} → FleetSight H → Numbers → ℕ → List (Working S H) → Type 0
AreHired {S = S} {H = H} fleet s top workers = (place number : ℕ) (worker : Working S H) → slice_get workers place ≡ Some worker → number + place + 1 ≡ top
    → IsHired fleet s number worker

-- workers without traces, of which the last has the least number, and each the pass of its number
abbrev pub AreLeaving : {S H : Type 0} → FleetSight H → ℕ → List (Working S H) → Type 0
AreLeaving {S = S} {H = H} fleet top workers = (place number : ℕ) (worker : Working S H) → slice_get workers place ≡ Some worker → number + place + 1 ≡ top →
    (worker.traces ≡ []) × IsPassFrom fleet number (number + 1) worker.pass

-- each shows what its number brought
abbrev pub AllShow : {S H : Type 0} → Brought → Turned → ℕ → List (Working S H) → Type 0
AllShow {S = S} {H = H} brought turned top workers = (place number : ℕ) (worker : Working S H) → slice_get workers place ≡ Some worker → number + place + 1 ≡ top →
    Shows brought turned number (number + 1) worker.pass

abbrev pub AllQuiet : {S H : Type 0} → List (Working S H) → Type 0
AllQuiet {S = S} {H = H} workers = (place : ℕ) (worker : Working S H) → slice_get workers place ≡ Some worker → IsQuiet worker.pass

-- workers without traces, in the order of their numbers from 0 on, each with the pass of its number
abbrev pub AreDone : {S H : Type 0} → FleetSight H → List (Working S H) → Type 0
AreDone {S = S} {H = H} fleet workers = (by : ℕ) (worker : Working S H) → slice_get workers by ≡ Some worker → (worker.traces ≡ []) × IsPassFrom fleet by (by + 1) worker.pass

-- each shows what its number brought
abbrev pub EachShows : {S H : Type 0} → Brought → Turned → List (Working S H) → Type 0
EachShows {S = S} {H = H} brought turned workers = (by : ℕ) (worker : Working S H) → slice_get workers by ≡ Some worker → Shows brought turned by (by + 1) worker.pass

-- workers that were hired, in the order of their numbers
abbrev pub AreInLine : {S H : Type 0} → FleetSight H → Numbers → List (Working S H) → Type 0
AreInLine {S = S} {H = H} fleet s workers = (by : ℕ) (worker : Working S H) → slice_get workers by ≡ Some worker → IsHired fleet s by worker
