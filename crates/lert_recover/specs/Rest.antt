-- What stands at a gate of a journal that is read without a cone.
use Rattle.std.specs.Prelude.{◌≡◌, ℕ, ◌+◌, ◌<◌, ◌≤◌, Bool, List, length}
use Rattle.lert_base.specs.Packet.{Packet}
use Rattle.lert_cone.specs.Replay.{MayFollow, ReplayLeavesAt, weight_behind}
use Rattle.lert_gatelog.specs.Gated.{IsClosed, next_gate}
use Rattle.lert_journal.specs.{Journal.HoldsPacket, Payload.{most_payload, payload_of}}
use Rattle.lert_recover.specs.{declared.journal_rest.Found.Found, declared.journal_rest.Found.TheVariants.{Packet as Followed, End, Left}}
use Rattle.lert_spec.specs.{declared.numbers.Numbers.Numbers, Edges.{edge, capacity, weight_room}}

-- behind n events that weigh w: a packet that may follow, up to the next gate; a closed gate with enough events before it; or a place at
-- which the format is left
abbrev pub IsFound : ℕ → Numbers → ℕ → ℕ → Bool → (n w : ℕ) → List ℕ → ℕ → ℕ → Found → Type 0
IsFound version s cone n0 closed n w bytes gate next (Followed keys more) =
    (packet : Packet)
    × HoldsPacket version s cone (most_payload version s) bytes gate packet
    × MayFollow s n0 closed n w packet
    × (keys ≡ length packet.items)
    × (more ≡ weight_behind (edge s 0 n0) n packet.items)
    × (next ≡ next_gate gate (payload_of version packet))
IsFound version s cone n0 closed n w bytes gate next End = IsClosed bytes gate × (n0 ≤ n)
IsFound version s cone n0 closed n w bytes gate next (Left at) = ReplayLeavesAt version s cone n0 closed n w bytes gate at

-- told or not, a packet has some keys, no more than a cone takes besides those before it, nor do they weigh more, and the next gate isn't
-- far
abbrev pub GoesOn : Numbers → (n w gate next : ℕ) → Found → Type 0
GoesOn s n w gate next (Followed keys more) = (0 < keys) × (n + keys ≤ capacity s) × (w + more ≤ weight_room s) × (next ≤ gate + 65536)
GoesOn s n w gate next End = Unit {0}
GoesOn s n w gate next (Left at) = Unit {0}
