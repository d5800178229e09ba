-- How the items of traces stand in the journal of a cone.
use Rattle.std.specs.Prelude.{◌≡◌, ℕ, ◌+◌, ◌*◌, ◌%◌, ◌<◌, ◌≤◌, List, length, All, Some, slice_get}
use Rattle.lert_base.specs.{Beginning.BeginsWith, Packet.{Packet, of_trace, events_of}}
use Rattle.lert_spec.specs.{declared.item.Item.Item, declared.numbers.Numbers.Numbers, Counts.weighed, Mix.part_in}

-- a packet has as many items as the settings name, or two, three or four times as many
pub record IsWhole (size : ℕ) (packet : Packet) : Type 0 where
  pub times : ℕ
  pub least : 1 ≤ times
  pub most : times ≤ 4
  pub items_are : length packet.items ≡ times * size

-- each packet but the last is whole
abbrev pub AreCut : ℕ → List Packet → Type 0
AreCut size packets = (place : ℕ) (packet : Packet) → place + 1 < length packets → slice_get packets place ≡ Some packet → IsWhole size packet

-- a packet has some items, and at most four times as many as the settings name, of one of so many traces, and the worker
-- brings it that reads this trace
pub record IsBrought (s : Numbers) (workers traces : ℕ) (packet : Packet) : Type 0 where
  pub some : 1 ≤ length packet.items
  pub few : length packet.items ≤ 4 * s.packet
  pub of_them : packet.trace < traces
  pub by_is : packet.by ≡ packet.trace % workers

-- A history is a weave of a cone's items of all traces, each given by its items: the packets of a trace join to that trace's
-- items of the cone, and each of them but the last is whole.
pub record IsWoven (s : Numbers) (cone workers : ℕ) (traces : List (List Item)) (history : List Packet) : Type 0 where
  pub each : All (IsBrought s workers (length traces)) history
  pub joined : (trace : ℕ) (items : List Item) → slice_get traces trace ≡ Some items → events_of (of_trace history trace) ≡ part_in weighed s cone items
  pub cut : (trace : ℕ) → trace < length traces → AreCut s.packet (of_trace history trace)

-- the same with the packets of a trace joining to a beginning of its items of the cone
pub record IsPartWoven (s : Numbers) (cone workers : ℕ) (traces : List (List Item)) (history : List Packet) : Type 0 where
  pub each : All (IsBrought s workers (length traces)) history
  pub joined : (trace : ℕ) (items : List Item) → slice_get traces trace ≡ Some items → BeginsWith (part_in weighed s cone items) (events_of (of_trace history trace))
  pub cut : (trace : ℕ) → trace < length traces → AreCut s.packet (of_trace history trace)
