-- How long the lists are that a cone stands for.
use Rattle.std.proofs.{Common.{ℕ, ◌<◌, ◌≤◌, ◌^◌, List, [], ◌∷◌, length, All, Option, arith, length-append}, lemmas.List.Elements.{All-head, All-tail}}
use Rattle.lert_base.specs.Packet.{Packet, events_of}
use Rattle.lert_bay.specs.Files.{Files}
use Rattle.lert_spec.proofs.LimitLaws.{capacity_to}
use Rattle.lert_cone.specs.Stands.{Standing, StandsFor}

-- packets with items are no more than these items
pub few : (history : List Packet) → All (λ packet. 0 < length packet.items) history → length history ≤ length (events_of history)
few [] some = omega arith
few (packet ∷ history) some =
    omega (
      arith,
      All-head (λ p. 0 < length p.items) packet history some,
      few history (All-tail (λ p. 0 < length p.items) packet history some),
      length-append packet.items (events_of history),
    )

-- they are short, since a cone takes only so many items
pub short : {B : Type 0} (files : B → Option Files) (leaves : B → Files → Type 0) (faults : B → ℕ) (cone : Standing B) (history : List Packet)
    → StandsFor files leaves faults cone history
    → length history < 2 ^ 40
short files leaves faults cone history stands = omega (arith, few history stands.some, stands.counted, stands.within, capacity_to cone.listing.settings stands.valid)
