-- How long the lists are that a region stands for.
use Rattle.std.proofs.{Common.{◌<◌, ◌≤◌, ◌^◌, List, [], ◌∷◌, length, All, arith, length-append}, lemmas.List.Elements.{All-head, All-tail}}
use Rattle.lert_base.specs.Packet.{Packet, events_of}
use Rattle.lert_census.specs.Census.{Census, StandsFor}

-- packets with items are no more than these items
few : (history : List Packet) → All (λ packet. 0 < length packet.items) history → length history ≤ length (events_of history)
few [] some = omega arith
few (packet ∷ history) some =
    omega (
      arith,
      All-head (λ p. 0 < length p.items) packet history some,
      few history (All-tail (λ p. 0 < length p.items) packet history some),
      length-append packet.items (events_of history),
    )

-- they are short, since a region takes only so many items
pub short : (census : Census) (history : List Packet) → StandsFor census history → length history < 2 ^ 40
short census history stands = omega (arith, few history stands.some, stands.items_are, stands.within, stands.valid.limits.room_to)
