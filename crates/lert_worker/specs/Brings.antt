-- What a worker brings to a cone: packets of its traces, one trace after the other.
use Rattle.std.specs.{Prelude.{◌≡◌, ℕ, ◌+◌, ◌-◌, ◌*◌, ◌/◌, ◌==◌, ◌≤◌, List, length, map, count_by, All, Contains, Some, slice_get}, List.Sorted.IsNonDecreasing}
use Rattle.lert_base.specs.{Beginning.BeginsWith, Packet.{Packet, events_of, keys_of, of_trace}, Weave.{AreCut, IsWhole}}
use Rattle.lert_spec.specs.{declared.item.Item.Item, declared.numbers.Numbers.Numbers, Counts.weighed, Items.AreOfVersion, Mix.{cone_of, part_in}}

-- a packet that a worker may bring to a cone: some items of this cone, at most four times as many as the settings name, each
-- of which weighs from 1 to 255
pub record MayBring (s : Numbers) (cone : ℕ) (packet : Packet) : Type 0 where
  pub some : 1 ≤ length packet.items
  pub few : length packet.items ≤ 4 * s.packet
  pub by_most : packet.by ≤ 63
  pub trace_most : packet.trace ≤ 1023
  pub of_cone : All (λ key. cone_of s key ≡ cone) (keys_of packet)
  pub weights : AreOfVersion 2 packet.items

-- a packet has some items, at most four times as many as the settings name, which weigh from 1 to 255 each, of one of the
-- worker's traces, under its number
pub record IsOwn (s : Numbers) (number : ℕ) (traces : List ℕ) (packet : Packet) : Type 0 where
  pub some : 1 ≤ length packet.items
  pub few : length packet.items ≤ 4 * s.packet
  pub weights : AreOfVersion 2 packet.items
  pub by_is : packet.by ≡ number
  pub of_one : Contains traces packet.trace

-- Packets of a worker to a cone, trace after trace: the items of those of a trace join to the cone's part of what was read of
-- it, and each packet but the last is whole. The traces are given by their numbers, and beside them by what was read.
pub record Brings (s : Numbers) (number cone : ℕ) (traces : List ℕ) (reads : List (List Item)) (packets : List Packet) : Type 0 where
  pub each : All (IsOwn s number traces) packets
  pub in_order : IsNonDecreasing (map (λ packet. packet.trace) packets)
  pub joined : (place trace : ℕ) (items : List Item) → slice_get traces place ≡ Some trace → slice_get reads place ≡ Some items
      → events_of (of_trace packets trace) ≡ part_in weighed s cone items
  pub cut : (trace : ℕ) → AreCut s.packet (of_trace packets trace)

-- the same with the items of a trace's packets joining to a beginning of that part
pub record BringsPart (s : Numbers) (number cone : ℕ) (traces : List ℕ) (reads : List (List Item)) (packets : List Packet) : Type 0 where
  pub each : All (IsOwn s number traces) packets
  pub in_order : IsNonDecreasing (map (λ packet. packet.trace) packets)
  pub joined : (place trace : ℕ) (items : List Item) → slice_get traces place ≡ Some trace → slice_get reads place ≡ Some items
      → BeginsWith (part_in weighed s cone items) (events_of (of_trace packets trace))
  pub cut : (trace : ℕ) → AreCut s.packet (of_trace packets trace)

-- no rest of a ring was handed out of a trace: each of its packets is whole
abbrev pub HasNoRest : Numbers → ℕ → List Packet → Type 0
HasNoRest s trace packets = All (IsWhole s.packet) (of_trace packets trace)

-- how many packets have as many items as a ring holds
abbrev pub full_packets : Numbers → List Packet → ℕ
full_packets s packets = count_by (λ packet. length packet.items == 4 * s.packet) packets

-- how many tries a packet was late for: it might have gone with each whole packet of items before its last
abbrev pub late_tries : Numbers → Packet → ℕ
late_tries s packet = (length packet.items + s.packet - 1) / s.packet - 1
