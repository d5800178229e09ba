-- What a crew of workers did: with the readers, and with the states of the cones.
use Rattle.std.specs.Prelude.{◌≡◌, ◌⊎◌, ℕ, ◌<◌, All, Contains, IsTrue, List, length, Option, Some, None, slice_get}
use Rattle.lert_base.specs.{declared.held.Held.Ghosts as HeldOf, Packet.{Packet, own}, declared.cone_fault.ConeFault.ConeFault}
use Rattle.lert_conelock.specs.{After.{RefusesAfter, StandsAfter}, Prefix.IsPrefix}
use Rattle.lert_spec.specs.{declared.item.Item.Item, declared.numbers.Numbers.Numbers}
use Rattle.lert_trace.specs.Reader.{Reading}
use Rattle.lert_worker.specs.{Ends.{Stopped, WasRead}, crew.Shares.{IsShare, LeftIn}, declared.end.WorkerEnd.WorkerEnd, declared.end.WorkerEnd.TheVariants.{Cone, Ran}}

-- how the worker of a number ended
abbrev pub end_of : Option WorkerEnd → WorkerEnd
end_of None = Ran
end_of (Some end) = end

abbrev pub end_at : List WorkerEnd → ℕ → WorkerEnd
end_at ends by = end_of (slice_get ends by)

module _ {S : Type 0} (remaining : S → Option (List ℕ)) (faults mark : S → ℕ) where
  -- the reader of a trace before a run and behind it, with the items that were read of it
  pub record IsReadOf (olds news : List (Reading S)) (trace : ℕ) (now : Reading S) (read : List Item) : Type 0 where
    pub before : Reading S
    pub was : slice_get olds trace ≡ Some before
    pub is : slice_get news trace ≡ Some now
    pub read_is : WasRead remaining faults mark before now read

  -- Of a crew each worker read its share of the traces, as far as its end says. By its number: the traces of its share, and, in
  -- their order, their readers before and behind, and the items that were read of each; the place of the trace at which it
  -- stopped, and this trace
  pub record AreReadBy (workers : ℕ) (olds news : List (Reading S)) (shares : ℕ → List ℕ) (reads : ℕ → List (List Item)) (was readings : ℕ → List (Reading S))
      (places stopped : ℕ → ℕ) (ends : ℕ → WorkerEnd) : Type 0 where
    pub number : length news ≡ length olds
    pub shared : (by : ℕ) → by < workers → IsShare workers (length olds) by (shares by)
    pub began : (by place trace : ℕ) → by < workers → slice_get (shares by) place ≡ Some trace → slice_get (was by) place ≡ slice_get olds trace
    pub each : (by place trace : ℕ) → by < workers → slice_get (shares by) place ≡ Some trace → (now : Reading S) × (read : List Item)
        × (slice_get (readings by) place ≡ Some now) × (slice_get (reads by) place ≡ Some read) × IsReadOf olds news trace now read
    pub stop : (by : ℕ) → by < workers → Stopped remaining (shares by) (was by) (readings by) (places by) (stopped by) (ends by)

-- what a run says of the packet that a state has left over: it has none, or the same as before, or one that was refused
abbrev pub IsLeftOver : {H T R : Type 0} → HeldOf H T R ConeFault → ℕ → (ℕ → List (Packet × ConeFault)) → H → H → Type 0
IsLeftOver held workers turned first closed = (held.over closed ≡ None) ⊎ ((held.over closed ≡ held.over first)
    ⊎ ((over : Packet) × (fault : ConeFault) × (held.over closed ≡ Some over) × (over.by < workers) × Contains (turned over.by) (over, fault)))

-- A state came back from its lock. Whatever list the first one stands for, it stands for that list with the packets behind it that
-- the workers brought, each worker's in their order; and what was refused was so by its rule, or the state is stopped
pub record IsBack {H T R : Type 0} (held : HeldOf H T R ConeFault) (workers : ℕ) (added : ℕ → List Packet) (turned : ℕ → List (Packet × ConeFault))
    (first closed : H) : Type 0 where
  pub history : List Packet
  pub own_are : (by : ℕ) → by < workers → own history by ≡ added by
  pub numbered : All (λ packet. packet.by < workers) history
  pub stands : StandsAfter held first history closed
  pub terms_are : held.terms closed ≡ held.terms first
  pub over_is : IsLeftOver held workers turned first closed
  pub refusals : (by : ℕ) → by < workers → (packet : Packet) (fault : ConeFault) → Contains (turned by) (packet, fault)
      → IsTrue (held.stopped closed) ⊎ ((past : List Packet) × IsPrefix past history × RefusesAfter held first past packet fault)

-- of a crew each worker left its packets in the states, which came back
pub record AreLeftBy {H T R : Type 0} (held : HeldOf H T R ConeFault) (s : Numbers) (workers : ℕ) (firsts backs : List H) (shares : ℕ → List ℕ)
    (reads : ℕ → List (List Item)) (stopped : ℕ → ℕ) (ends : ℕ → WorkerEnd)
    (added : ℕ → ℕ → List Packet) (turned : ℕ → ℕ → List (Packet × ConeFault)) : Type 0 where
  pub number : length backs ≡ length firsts
  pub each : (cone : ℕ) (first closed : H) → slice_get firsts cone ≡ Some first → slice_get backs cone ≡ Some closed
      → IsBack held workers (added cone) (turned cone) first closed
  pub left : (cone by : ℕ) → cone < length firsts → by < workers
      → LeftIn s by cone (shares by) (reads by) (stopped by) (ends by) (added cone by) (turned cone by)
  pub named : (by cone : ℕ) (fault : ConeFault) → by < workers → ends by ≡ Cone cone fault → cone < length firsts

-- All that a crew did that ran: to each cone, by its number and by that of a worker, the packets that were taken in and those that
-- were refused
pub record HasCrewed {S H T R : Type 0} (remaining : S → Option (List ℕ)) (faults mark : S → ℕ) (held : HeldOf H T R ConeFault) (s : Numbers)
    (olds news : List (Reading S)) (firsts backs : List H) (ends : List WorkerEnd) : Type 0 where
  pub shares : ℕ → List ℕ
  pub reads : ℕ → List (List Item)
  pub was : ℕ → List (Reading S)
  pub readings : ℕ → List (Reading S)
  pub places : ℕ → ℕ
  pub stopped : ℕ → ℕ
  pub added : ℕ → ℕ → List Packet
  pub turned : ℕ → ℕ → List (Packet × ConeFault)
  pub read_by : AreReadBy remaining faults mark (length ends) olds news shares reads was readings places stopped (end_at ends)
  pub left_by : AreLeftBy held s (length ends) firsts backs shares reads stopped (end_at ends) added turned
