-- What is left once a trace was read into the rings, and once it was brought to the cones.
use Rattle.std.specs.Prelude.{◌≡◌, ℕ, ◌^◌, ◌<◌, List, Option, Some, None, Result, OnOk, IfErr}
use Rattle.lert_buffers.specs.Rings.{Rings}
use Rattle.lert_fleet.specs.Cones.{FleetPassSight}
use Rattle.lert_trace.specs.Reader.{Reading}
use Rattle.lert_base.specs.declared.cone_fault.ConeFault.{ConeFault}
use Rattle.lert_spec.specs.declared.item.Item.{Item}
use Rattle.lert_worker.specs.{Ends.{IsAtEnd, WasRead}, Sending.{AreSent, Lanes}, declared.end.WorkerEnd.WorkerEnd, declared.end.WorkerEnd.TheVariants.{Ran, Trace, Cone}, declared.outbox.Outbox.Outbox}

-- what an end says of the reader of the trace at which it came
abbrev pub EndsBy : {S : Type 0} → (S → Option (List ℕ)) → WorkerEnd → ℕ → Reading S → Type 0
EndsBy remaining Ran trace now = IsAtEnd remaining now
EndsBy remaining (Trace t fault) trace now = (t ≡ trace) × (now.fault ≡ Some fault)
EndsBy remaining (Cone cone fault) trace now = now.fault ≡ None

-- a cone that ended a worker is one of so many
abbrev pub IsNamed : WorkerEnd → ℕ → Type 0
IsNamed end cones = (cone : ℕ) (fault : ConeFault) → end ≡ Cone cone fault → cone < cones

-- a cone of so many refused a packet
pub record IsByCone (cones : ℕ) (end : WorkerEnd) : Type 0 where
  pub cone : ℕ
  pub fault : ConeFault
  pub is : end ≡ Cone cone fault
  pub named : cone < cones

module _ {S H : Type 0} (remaining : S → Option (List ℕ)) (faults mark : S → ℕ) where
  -- items of the trace were read, all of them or up to a fault or a refusal
  pub record HasReadTrace (outbox : Outbox) (start : FleetPassSight H ConeFault) (old : Reading S) (pass : FleetPassSight H ConeFault)
      (new : Reading S) (rings : Rings) (result : Result (Unit {0}) WorkerEnd) : Type 0 where
    pub items : List Item
    pub read : WasRead remaining faults mark old new items
    pub at_end : OnOk result (IsAtEnd remaining new)
    pub lanes : OnOk result (Lanes outbox.settings outbox.entry.by outbox.entry.trace 0 items start pass rings)
    pub stopped : IfErr result (λ end. EndsBy remaining end outbox.entry.trace new)
    pub named : IfErr result (λ end. IsNamed end (2 ^ outbox.settings.cone_bits))
    pub sent : IfErr result (λ end. AreSent outbox.settings outbox.entry.by outbox.entry.trace (2 ^ outbox.settings.cone_bits) items end start pass)

  -- and the items that were read were brought to the cones
  pub record HasSentTrace (outbox : Outbox) (start : FleetPassSight H ConeFault) (old : Reading S) (pass : FleetPassSight H ConeFault)
      (new : Reading S) (end : WorkerEnd) : Type 0 where
    pub items : List Item
    pub read : WasRead remaining faults mark old new items
    pub ends : EndsBy remaining end outbox.entry.trace new
    pub named : IsNamed end (2 ^ outbox.settings.cone_bits)
    pub sent : AreSent outbox.settings outbox.entry.by outbox.entry.trace (2 ^ outbox.settings.cone_bits) items end start pass
