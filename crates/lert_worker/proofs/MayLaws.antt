-- Rings that may still go to the cones, after a step.
use Rattle.std.proofs.Common.{◌≡◌, ℕ, ◌*◌, ◌^◌, ◌<◌, ◌≤◌, List, [], length, Some, slice_get, refl, ap, sym, ◌∙◌, subst, length-set}
use Rattle.std.proofs.lemmas.List.Elements.{All-map}
use Rattle.lert_base.specs.{declared.cone_fault.ConeFault.ConeFault, declared.entry.Entry.Entry, declared.held.Held.Ghosts as HeldOf, Keys.Keys, Packet.Packet}
use Rattle.lert_buffers.specs.Rings.{Rings, ring_of, with_keys, with_ring}
use Rattle.lert_conelock.specs.Sight.{LockSight}
use Rattle.lert_fleet.specs.Cones.{ChangesOnly, FleetPassSight, FleetSight, IsPassOf}
use Rattle.lert_spec.specs.{declared.item.Item.Item, declared.numbers.Numbers.Numbers, Mix.cone_of}
use Rattle.lert_worker.specs.{Brings.MayBring, Ran.{MayRun, Working}, Sending.packet_with, declared.outbox.Outbox.Outbox}
use Rattle.lert_worker.specs.Outbox.{IsIdle, IsResting, IsSame, IsSameOutbox, IsSendable, MaySend}
use Rattle.lert_worker.proofs.TakeLaws.{ring_here}

-- as many rings, for packets of the same size
pub record AreAlike (old new : Rings) : Type 0 where
  pub packet_is : new.packet ≡ old.packet
  pub as_many : length new.rings ≡ length old.rings

pub alike_with : (old new : Rings) (cone : ℕ) (items : List Item) → new ≡ with_ring old cone items → AreAlike old new
alike_with old new cone items is = record {
  packet_is = ap (λ (r : Rings). r.packet) is;
  as_many = ap (λ (r : Rings). length r.rings) is ∙ length-set old.rings cone items;
}

pub alike_same : (old new : Rings) → new ≡ old → AreAlike old new
alike_same old new is = record { packet_is = ap (λ (r : Rings). r.packet) is; as_many = ap (λ (r : Rings). length r.rings) is }

-- the entry has no items, and is what it was besides
pub record IsEmptied (old new : Entry) : Type 0 where
  pub by_is : new.by ≡ old.by
  pub trace_is : new.trace ≡ old.trace
  pub room_is : new.keys.room ≡ old.keys.room
  pub empty : new.keys.items ≡ []

pub emptied_same : (entry : Entry) → entry.keys.items ≡ [] → IsEmptied entry entry
emptied_same entry empty = record { by_is = refl; trace_is = refl; room_is = refl; empty = empty }

-- it got items, and was cleared
pub emptied_by : (old mid : Entry) (items : List Item) (list : Keys) → mid ≡ with_keys old items → list ≡ record mid.keys { items = [] } → IsEmptied old (record mid { keys = list })
emptied_by old mid items list mid_is list_is = record {
  by_is = ap (λ (e : Entry). e.by) mid_is;
  trace_is = ap (λ (e : Entry). e.trace) mid_is;
  room_is = ap (λ (k : Keys). k.room) list_is ∙ ap (λ (e : Entry). e.keys.room) mid_is;
  empty = ap (λ (k : Keys). k.items) list_is;
}

-- or handed them on
pub emptied_back : (old mid new : Entry) (items : List Item) → mid ≡ with_keys old items → new ≡ with_keys mid [] → IsEmptied old new
emptied_back old mid new items mid_is new_is = record {
  by_is = ap (λ (e : Entry). e.by) new_is ∙ ap (λ (e : Entry). e.by) mid_is;
  trace_is = ap (λ (e : Entry). e.trace) new_is ∙ ap (λ (e : Entry). e.trace) mid_is;
  room_is = ap (λ (e : Entry). e.keys.room) new_is ∙ ap (λ (e : Entry). e.keys.room) mid_is;
  empty = ap (λ (e : Entry). e.keys.items) new_is;
}

pub idle_on : (outbox : Outbox) (rings : Rings) (entry : Entry) → IsIdle outbox → AreAlike outbox.rings rings → IsEmptied outbox.entry entry
    → IsIdle (record outbox { rings = rings; entry = entry })
idle_on outbox rings entry idle alike emptied = record {
  valid = idle.valid;
  packet_is = alike.packet_is ∙ idle.packet_is;
  rings_are = alike.as_many ∙ idle.rings_are;
  empty = emptied.empty;
  room = emptied.room_is ∙ idle.room;
  trace_most = subst (λ n. n ≤ 1023) (sym emptied.trace_is) idle.trace_most;
}

pub same_none : {H F : Type 0} (outbox : Outbox) (pass : FleetPassSight H F) → IsSame outbox outbox pass pass
same_none outbox pass = record { outbox = record { settings_is = refl; by_is = refl; trace_is = refl }; hi_is = refl }

module _ {H T R F : Type 0} (held : HeldOf H T R F) (fleet : FleetSight H) (pass : FleetPassSight H F) (outbox : Outbox) where
  -- after a call on one cone
  pub may_on : (next : FleetPassSight H F) (cone : ℕ) (rings : Rings) (entry : Entry) → MaySend held fleet pass outbox → IsPassOf next fleet → ChangesOnly cone pass next
      → AreAlike outbox.rings rings → IsEmptied outbox.entry entry → MaySend held fleet next (record outbox { rings = rings; entry = entry })
  may_on next cone rings entry may belongs only alike emptied = record {
    idle = idle_on outbox rings entry may.idle alike emptied;
    belongs = belongs;
    by_is = emptied.by_is ∙ (may.by_is ∙ sym only.lo_is);
    by_most = subst (λ n. n ≤ 63) (sym emptied.by_is) may.by_most;
    cones = may.cones;
    fits = may.fits;
  }

  pub same_after : (next : FleetPassSight H F) (cone : ℕ) (rings : Rings) (entry : Entry) → ChangesOnly cone pass next → IsEmptied outbox.entry entry
      → IsSame outbox (record outbox { rings = rings; entry = entry }) pass next
  same_after next cone rings entry only emptied = record {
    outbox = record { settings_is = refl; by_is = emptied.by_is; trace_is = emptied.trace_is };
    hi_is = only.hi_is;
  }

  -- with other rings
  pub may_with : (rings : Rings) → MaySend held fleet pass outbox → AreAlike outbox.rings rings → MaySend held fleet pass (record outbox { rings = rings })
  may_with rings may alike = record {
    idle = idle_on outbox rings outbox.entry may.idle alike (emptied_same outbox.entry may.idle.empty);
    belongs = may.belongs;
    by_is = may.by_is;
    by_most = may.by_most;
    cones = may.cones;
    fits = may.fits;
  }

  -- for another trace
  pub may_named : (trace : ℕ) → trace ≤ 1023 → MaySend held fleet pass outbox → MaySend held fleet pass (record outbox { entry = record outbox.entry { trace = trace } })
  may_named trace most may = record {
    idle = record {
      valid = may.idle.valid;
      packet_is = may.idle.packet_is;
      rings_are = may.idle.rings_are;
      empty = may.idle.empty;
      room = may.idle.room;
      trace_most = most;
    };
    belongs = may.belongs;
    by_is = may.by_is;
    by_most = may.by_most;
    cones = may.cones;
    fits = may.fits;
  }

  -- with rings that were emptied
  pub may_rested : (new : Outbox) → MaySend held fleet pass outbox → IsResting new → IsSameOutbox outbox new → MaySend held fleet pass new
  may_rested new may resting same = record {
    idle = resting.idle;
    belongs = may.belongs;
    by_is = same.by_is ∙ may.by_is;
    by_most = subst (λ n. n ≤ 63) (sym same.by_is) may.by_most;
    cones = may.cones ∙ ap (λ (s : Numbers). 2 ^ s.cone_bits) (sym same.settings_is);
    fits = λ cone lock found packet brought. may.fits cone lock found packet (subst (λ (s : Numbers). MayBring s cone packet) same.settings_is brought);
  }

  -- the packet of a ring fits its cone
  pub fits_cone : (cone : ℕ) (packet : Packet) → MaySend held fleet pass outbox → IsSendable outbox.settings cone (ring_of outbox.rings cone)
      → packet ≡ packet_with outbox (ring_of outbox.rings cone) → (lock : LockSight H) → slice_get fleet cone ≡ Some lock → held.fits (held.terms lock.first) packet
  fits_cone cone packet may sendable is lock found =
      subst (λ (p : Packet). held.fits (held.terms lock.first) p) (sym is) (may.fits cone lock found (packet_with outbox (ring_of outbox.rings cone)) (record {
        some = sendable.some;
        few = sendable.few;
        by_most = may.by_most;
        trace_most = may.idle.trace_most;
        of_cone = All-map (λ key. cone_of outbox.settings key ≡ cone) (λ (i : Item). i.key) (ring_of outbox.rings cone) (λ place d within. (sendable.of_cone place d within).0);
        weights = λ place d within. (sendable.of_cone place d within).1;
      }))

pub resting_named : (outbox : Outbox) (trace : ℕ) → trace ≤ 1023 → IsResting outbox → IsResting (record outbox { entry = record outbox.entry { trace = trace } })
resting_named outbox trace most resting = record {
  idle = record {
    valid = resting.idle.valid;
    packet_is = resting.idle.packet_is;
    rings_are = resting.idle.rings_are;
    empty = resting.idle.empty;
    room = resting.idle.room;
    trace_most = most;
  };
  drained = resting.drained;
}

-- a ring that was emptied stands where it stood, and has room for what came out of it
module _ (rings taken : Rings) (cone : ℕ) (is : taken ≡ with_ring rings cone []) (within : cone < length rings.rings) where
  pub still_within : cone < length taken.rings
  still_within = subst (λ (r : Rings). cone < length r.rings) (sym is) (subst (λ n. cone < n) (sym (length-set rings.rings cone [])) within)

  pub still_empty : ring_of taken cone ≡ []
  still_empty = ap (λ r. ring_of r cone) is ∙ ring_here rings cone [] within

pub room_back : (outbox : Outbox) (taken : Rings) (entry : Entry) (cone : ℕ) → outbox.rings.packet ≡ outbox.settings.packet → taken ≡ with_ring outbox.rings cone []
    → entry ≡ with_keys outbox.entry (ring_of outbox.rings cone) → IsSendable outbox.settings cone (ring_of outbox.rings cone) → length entry.keys.items ≤ 4 * taken.packet
room_back outbox taken entry cone packet_is taken_is entry_is sendable =
    subst (λ (r : Rings). length entry.keys.items ≤ 4 * r.packet) (sym taken_is)
    (subst (λ (e : Entry). length e.keys.items ≤ 4 * outbox.rings.packet) (sym entry_is)
    (subst (λ n. length (ring_of outbox.rings cone) ≤ 4 * n) (sym packet_is) sendable.few))

-- a worker that may run
pub may_send_of : {S H T R : Type 0} (held : HeldOf H T R ConeFault) (fleet : FleetSight H) (worker : Working S H) (outbox : Outbox) → MayRun held fleet worker → IsIdle outbox
    → worker.number ≡ outbox.entry.by → worker.settings ≡ outbox.settings → MaySend held fleet worker.pass outbox
may_send_of held fleet worker outbox may idle number settings = record {
  idle = idle;
  belongs = may.belongs;
  by_is = sym number ∙ sym may.lo_is;
  by_most = subst (λ n. n ≤ 63) number may.number_most;
  cones = may.cones ∙ ap (λ (s : Numbers). 2 ^ s.cone_bits) settings;
  fits = λ cone lock found packet brought. may.fits cone lock found packet (subst (λ (s : Numbers). MayBring s cone packet) (sym settings) brought);
}
