-- How the items of one trace go to the cones, ring by ring.
use Rattle.std.specs.Prelude.{◌≡◌, ◌⊎◌, ℕ, ◌+◌, ◌*◌, ◌<◌, ◌≤◌, All, List, [], ◌∷◌, ◌++◌, length, map, sum_by, Some, slice_get}
use Rattle.lert_base.specs.{Beginning.BeginsWith, Packet.{Packet, events_of}, Weave.{AreCut, IsWhole}, declared.cone_fault.ConeFault.ConeFault}
use Rattle.lert_buffers.specs.{Rings.{Rings, ring_of, with_ring}, declared.buffers.Fill.Fill, declared.buffers.Fill.TheVariants.{Low, MustGo, Ready}}
use Rattle.lert_conelock.specs.Sight.{Sight, Counts, Loses}
use Rattle.lert_fleet.specs.Cones.{FleetPassSight}
use Rattle.lert_spec.specs.{declared.item.Item.Item, declared.numbers.Numbers.Numbers, Counts.weighed, Items.AreOfVersion, Mix.part_in}
use Rattle.lert_worker.specs.{Brings.{full_packets, late_tries}, Ran.{IsTurned, StillOpen}, declared.end.WorkerEnd.WorkerEnd, declared.end.WorkerEnd.TheVariants.Ran, declared.outbox.Outbox.Outbox}

-- the packet of some items of an outbox
abbrev pub packet_with : Outbox → List Item → Packet
packet_with outbox items = record { by = outbox.entry.by; trace = outbox.entry.trace; items = items }

module _ {H F : Type 0} where
  -- the cone took the packet, for which the caller waited so often
  pub record WasTaken (packet : Packet) (more : ℕ) (before after : Sight H F) : Type 0 where
    pub calls_are : after.calls ≡ before.calls ++ packet ∷ []
    pub refused_are : after.refused ≡ before.refused
    pub met : before.met ≤ after.met
    pub waits_are : after.waits ≡ before.waits + more
    pub counts : Counts before after

  -- the cone refused it
  pub record WasTurned (packet : Packet) (fault : F) (more : ℕ) (before after : Sight H F) : Type 0 where
    pub calls_are : after.calls ≡ before.calls
    pub refused_are : after.refused ≡ before.refused ++ (packet, fault) ∷ []
    pub met : before.met ≤ after.met
    pub waits_are : after.waits ≡ before.waits + more
    pub counts : Counts before after

  -- another caller held its lock
  pub record WasBusy (before after : Sight H F) : Type 0 where
    pub lost : Loses before after
    pub counts : Counts before after

  -- what a pass has for a cone before a call and after it
  abbrev pub AtOwn : (Sight H F → Sight H F → Type 0) → ℕ → FleetPassSight H F → FleetPassSight H F → Type 0
  AtOwn R cone old new = (before after : Sight H F) → slice_get old.cones cone ≡ Some before → slice_get new.cones cone ≡ Some after → R before after

  -- the items of a cone's ring went to it
  pub record Goes (packet : Packet) (more cone : ℕ) (rings left : Rings) (old new : FleetPassSight H F) : Type 0 where
    pub rings_are : left ≡ with_ring rings cone []
    pub at : AtOwn (WasTaken packet more) cone old new

  -- they stay, since it is held
  pub record Stays (cone : ℕ) (rings left : Rings) (old new : FleetPassSight H F) : Type 0 where
    pub rings_are : left ≡ rings
    pub at : AtOwn WasBusy cone old new

-- how often a caller waits for a cone whose ring asks for this
abbrev pub waits_at : Fill → ℕ
waits_at Low = 0
waits_at Ready = 0
waits_at MustGo = 1

-- what comes of a cone's ring that asks for this: four packets go, after one wait; one to three go or stay, with none; others stay
abbrev pub IsBrought : {H F : Type 0} → Fill → Packet → ℕ → Rings → Rings → FleetPassSight H F → FleetPassSight H F → Type 0
IsBrought Low packet cone rings left old new = (left ≡ rings) × (new ≡ old)
IsBrought Ready packet cone rings left old new = Goes packet 0 cone rings left old new ⊎ Stays cone rings left old new
IsBrought MustGo packet cone rings left old new = Goes packet 1 cone rings left old new

-- a packet of one trace, with as many items as may go to a cone, which weigh from 1 to 255 each
pub record IsOf (s : Numbers) (number trace : ℕ) (packet : Packet) : Type 0 where
  pub some : 1 ≤ length packet.items
  pub few : length packet.items ≤ 4 * s.packet
  pub weights : AreOfVersion 2 packet.items
  pub by_is : packet.by ≡ number
  pub trace_is : packet.trace ≡ trace

-- A cone while a trace is read: the items of the trace's packets so far, which are whole, and behind them those of its ring,
-- are the cone's part of the items that were read. There was a take at each whole packet of the first
-- so many items in the ring
pub record Lane {H F : Type 0} (s : Numbers) (number cone trace : ℕ) (items : List Item) (tried : ℕ) (before now : Sight H F) (ring : List Item) : Type 0 where
  pub sent : List Packet
  pub calls_are : now.calls ≡ before.calls ++ sent
  pub refused_are : now.refused ≡ before.refused
  pub each : All (IsOf s number trace) sent
  pub whole : All (IsWhole s.packet) sent
  pub joined : events_of sent ++ ring ≡ part_in weighed s cone items
  pub waits : now.waits ≤ before.waits + full_packets s sent
  pub met : (k : ℕ) → k * s.packet ≤ tried → before.met + sum_by (late_tries s) sent + k ≤ now.met
  pub counts : Counts before now

-- all cones from one number on, while a trace is read
pub record Lanes {H F : Type 0} (s : Numbers) (number trace from : ℕ) (items : List Item) (start now : FleetPassSight H F) (rings : Rings) : Type 0 where
  pub as_many : length now.cones ≡ length start.cones
  pub each : (cone : ℕ) (before after : Sight H F) → from ≤ cone → slice_get start.cones cone ≡ Some before → slice_get now.cones cone ≡ Some after
      → Lane s number cone trace items (length (ring_of rings cone)) before after (ring_of rings cone)

-- what the items of a trace, read so far or to its end, brought to a cone
pub record SentIn {H : Type 0} (s : Numbers) (number cone trace : ℕ) (items : List Item) (end : WorkerEnd) (before after : Sight H ConeFault) : Type 0 where
  pub sent : List Packet
  pub turned : List (Packet × ConeFault)
  pub calls_are : after.calls ≡ before.calls ++ sent
  pub refused_are : after.refused ≡ before.refused ++ turned
  pub turned_is : IsTurned end cone turned
  pub each : All (IsOf s number trace) (sent ++ map (λ pair. pair.0) turned)
  pub cut : AreCut s.packet (sent ++ map (λ pair. pair.0) turned)
  pub part : BeginsWith (part_in weighed s cone items) (events_of (sent ++ map (λ pair. pair.0) turned))
  pub all : end ≡ Ran → events_of sent ≡ part_in weighed s cone items
  pub no_rest : StillOpen end cone → All (IsWhole s.packet) sent
  pub waits : after.waits ≤ before.waits + full_packets s sent + 1
  pub met : before.met + sum_by (late_tries s) sent ≤ after.met
  pub counts : Counts before after

-- and to each cone below a number
pub record AreSent {H : Type 0} (s : Numbers) (number trace below : ℕ) (items : List Item) (end : WorkerEnd)
    (start now : FleetPassSight H ConeFault) : Type 0 where
  pub as_many : length now.cones ≡ length start.cones
  pub each : (cone : ℕ) (before after : Sight H ConeFault) → cone < below → slice_get start.cones cone ≡ Some before → slice_get now.cones cone ≡ Some after
      → SentIn s number cone trace items end before after
