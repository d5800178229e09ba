-- Why a cone doesn't take a packet.
use Rattle.std.specs.{Prelude.{◌≡◌, ◌⊎◌, ℕ, ◌+◌, ◌<◌, ◌≤◌, ◌==◌, not, true, List, length, Option, Some, None}, List.position_from}
use Rattle.lert_base.specs.declared.cone_fault.ConeFault.{ConeFault}
use Rattle.lert_base.specs.declared.cone_fault.ConeFault.TheVariants.{Closed, Broken, CapacityFull, WeightFull, OldJournal, BayFailed, Unsound}
use Rattle.lert_spec.specs.{Counts.{weighed, weight_of}, Edges.{capacity, weight_room}, declared.item.Item.Item, declared.numbers.Numbers.Numbers}
use Rattle.lert_cone.specs.{Stands.{Standing, is_broken, version_of}, declared.state.ConeState.ConeState, declared.state.ConeState.TheVariants.{Running, Finished}}

-- the number, from 1, of the first item whose weight isn't 1
abbrev pub first_weighed : List Item → Option ℕ
first_weighed items = position_from (λ item. not (item.weight == 1)) 1 items

-- A running cone of these settings, with files of this version, which has n items that weigh so much, refuses more items so: it would
-- have more than it takes; or else they would weigh more than it takes; or else one weighs what its files can't say.
abbrev pub IsRefused : Numbers → (version n weight : ℕ) → List Item → ConeFault → Type 0
IsRefused s version n weight items Closed = ⊥
IsRefused s version n weight items Broken = ⊥
IsRefused s version n weight items (CapacityFull events len) = (events ≡ n) × (len ≡ length items) × (capacity s < n + length items)
IsRefused s version n weight items BayFailed = ⊥
IsRefused s version n weight items (Unsound file at) = ⊥
IsRefused s version n weight items (WeightFull held more) =
    (held ≡ weight) × (more ≡ weight_of weighed items) × (n + length items ≤ capacity s) × (weight_room s < weight + weight_of weighed items)
IsRefused s version n weight items (OldJournal place) =
    (n + length items ≤ capacity s) × (weight + weight_of weighed items ≤ weight_room s) × (version ≡ 1) × (first_weighed items ≡ Some place)

-- a cone in this state refuses any call so, before its first step
abbrev pub IsStoppedBy : ConeState → ConeFault → Type 0
IsStoppedBy state Closed = state ≡ Finished
IsStoppedBy state Broken = is_broken state ≡ true
IsStoppedBy state (CapacityFull n len) = ⊥
IsStoppedBy state BayFailed = ⊥
IsStoppedBy state (Unsound file at) = ⊥
IsStoppedBy state (WeightFull weight more) = ⊥
IsStoppedBy state (OldJournal place) = ⊥

-- why a test refuses items
abbrev pub FailsTest : {B : Type 0} → Standing B → List Item → ConeFault → Type 0
FailsTest cone items fault =
    IsStoppedBy cone.state fault ⊎ ((cone.state ≡ Running) × IsRefused cone.listing.settings (version_of cone) cone.events cone.weight items fault)

-- it lets them pass, and answers what they weigh
pub record PassesTest {B : Type 0} (cone : Standing B) (items : List Item) (more : ℕ) : Type 0 where
  pub running : cone.state ≡ Running
  pub more_is : more ≡ weight_of weighed items
  pub within : cone.events + length items ≤ capacity cone.listing.settings
  pub light : cone.weight + more ≤ weight_room cone.listing.settings
  pub sayable : version_of cone ≡ 1 → first_weighed items ≡ None
