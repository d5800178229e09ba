-- Items on their way to the cones: the rings of all cones, and the entry that a ring goes out in.
use Rattle.std.specs.Prelude.{◌≡◌, ℕ, ◌*◌, ◌^◌, ◌<◌, ◌≤◌, All, List, [], length, Some, slice_get}
use Rattle.lert_base.specs.{declared.held.Held.Ghosts as HeldOf, Packet.Packet}
use Rattle.lert_buffers.specs.Rings.{Rings, ring_of}
use Rattle.lert_conelock.specs.Sight.{LockSight}
use Rattle.lert_fleet.specs.Cones.{FleetSight, FleetPassSight, IsPassOf}
use Rattle.lert_spec.specs.{declared.item.Item.Item, declared.numbers.Numbers.Numbers, Items.most_weight, Limits.IsValid, Mix.cone_of}
use Rattle.lert_worker.specs.{Brings.MayBring, declared.outbox.Outbox.Outbox}

-- there is a ring for each cone of the settings, and the entry has no items, and room for those of a ring
pub record IsIdle (outbox : Outbox) : Type 0 where
  pub valid : IsValid outbox.settings
  pub packet_is : outbox.rings.packet ≡ outbox.settings.packet
  pub rings_are : length outbox.rings.rings ≡ 2 ^ outbox.settings.cone_bits
  pub empty : outbox.entry.keys.items ≡ []
  pub room : outbox.entry.keys.room ≡ 4 * outbox.settings.packet
  pub trace_most : outbox.entry.trace ≤ 1023

-- no ring below a number has an item
abbrev pub AreDrained : ℕ → Rings → Type 0
AreDrained number rings = (cone : ℕ) → cone < number → ring_of rings cone ≡ []

-- besides, no ring has an item
pub record IsResting (outbox : Outbox) : Type 0 where
  pub idle : IsIdle outbox
  pub drained : AreDrained (2 ^ outbox.settings.cone_bits) outbox.rings

-- an item is of a cone, and weighs something, and no more than files hold
abbrev pub IsItemOf : Numbers → ℕ → Item → Type 0
IsItemOf s cone item = (cone_of s item.key ≡ cone) × ((1 ≤ item.weight) × (item.weight ≤ most_weight 2))

-- each ring has items of its cone alone, and room for one more
pub record HasRoom (s : Numbers) (cone : ℕ) (ring : List Item) : Type 0 where
  pub short : length ring < 4 * s.packet
  pub of_cone : All (IsItemOf s cone) ring

abbrev pub HaveRoom : Numbers → Rings → Type 0
HaveRoom s rings = (cone : ℕ) → cone < 2 ^ s.cone_bits → HasRoom s cone (ring_of rings cone)

-- the items of a ring may go to its cone as a packet
pub record IsSendable (s : Numbers) (cone : ℕ) (ring : List Item) : Type 0 where
  pub some : 1 ≤ length ring
  pub few : length ring ≤ 4 * s.packet
  pub of_cone : All (IsItemOf s cone) ring

-- a step leaves the settings, and what its packets come under
pub record IsSameOutbox (old new : Outbox) : Type 0 where
  pub settings_is : new.settings ≡ old.settings
  pub by_is : new.entry.by ≡ old.entry.by
  pub trace_is : new.entry.trace ≡ old.entry.trace

-- besides the numbers of the pass are the same
pub record IsSame {H F : Type 0} (old new : Outbox) (before after : FleetPassSight H F) : Type 0 where
  pub outbox : IsSameOutbox old new
  pub hi_is : after.hi ≡ before.hi

-- the rings may go to the cones of a fleet, through a pass: each packet that a worker may bring to a cone fits its state
pub record MaySend {H T R F : Type 0} (held : HeldOf H T R F) (fleet : FleetSight H) (pass : FleetPassSight H F) (outbox : Outbox) : Type 0 where
  pub idle : IsIdle outbox
  pub belongs : IsPassOf pass fleet
  pub by_is : outbox.entry.by ≡ pass.lo
  pub by_most : outbox.entry.by ≤ 63
  pub cones : length fleet ≡ 2 ^ outbox.settings.cone_bits
  pub fits : (cone : ℕ) (lock : LockSight H) → slice_get fleet cone ≡ Some lock
      → (packet : Packet) → MayBring outbox.settings cone packet → held.fits (held.terms lock.first) packet
