-- Packets and histories.
use Rattle.std.specs.Prelude.{ℕ, ◌==◌, List, filter, flat_map}
use Rattle.lert_spec.specs.{declared.item.Item.Item, Items.keys_in}

-- an entry as it is seen: the number of who brings it, the trace that its items come from, and the items
pub record Packet : Type 0 where
  pub by : ℕ
  pub trace : ℕ
  pub items : List Item

-- the keys of a packet, in their order
abbrev pub keys_of : Packet → List ℕ
keys_of packet = keys_in packet.items

-- those of a history that the number brought, in their order
abbrev pub own : List Packet → ℕ → List Packet
own history number = filter (λ p. p.by == number) history

-- those of a history whose keys are of a trace, in their order
abbrev pub of_trace : List Packet → ℕ → List Packet
of_trace history trace = filter (λ packet. packet.trace == trace) history

-- the items of all packets, one behind the other
abbrev pub events_of : List Packet → List Item
events_of history = flat_map (λ packet. packet.items) history
