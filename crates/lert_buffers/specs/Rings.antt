-- What the rings of all cones are seen as.
use Rattle.std.specs.Prelude.{◌≡◌, ℕ, ◌*◌, ◌≤◌, ◌==◌, ◌||◌, All, List, [], length, slice_index_or, slice_set, if◌then◌else◌}
use Rattle.circular_buffer.specs.Buffer.{Buffer}
use Rattle.lert_base.specs.declared.entry.Entry.{Entry}
use Rattle.lert_spec.specs.declared.item.Item.{Item}
use Rattle.lert_buffers.specs.{declared.buffers.Fill.Fill, declared.buffers.Fill.TheVariants.{Low, Ready, MustGo}}

-- how many keys a packet has at least, and the items of each cone in the order in which they came
pub record Rings : Type 0 where
  pub packet : ℕ
  pub rings : List (List Item)

-- the items of a cone
abbrev pub ring_of : Rings → ℕ → List Item
ring_of b cone = slice_index_or b.rings cone []

-- the rings with other items for a cone
abbrev pub with_ring : Rings → ℕ → List Item → Rings
with_ring b cone items = record b { rings = slice_set b.rings cone items }

-- an entry with other items, and the same room
abbrev pub with_keys : Entry → List Item → Entry
with_keys entry items = record entry { keys = record entry.keys { items = items } }

-- what a number of keys asks for: four packets must go; one, two or three of them may
abbrev pub fill_of : ℕ → ℕ → Fill
fill_of packet keys =
    if keys == 4 * packet then MustGo
    else (if keys == packet || (keys == 2 * packet || keys == 3 * packet) then Ready else Low)

-- each item weighs something
abbrev pub AreWeighed : List Item → Type 0
AreWeighed items = All (λ item. 1 ≤ item.weight) items

-- a ring has room for four packets, and each of its items weighs something
pub record IsRing (packet : ℕ) (ring : Buffer Item) : Type 0 where
  pub room : ring.capacity ≡ 4 * packet
  pub within : length ring.items ≤ 4 * packet
  pub some : AreWeighed ring.items

-- packets are of a size that is allowed, and so are the rings
pub record IsRoomy (packet : ℕ) (rings : List (Buffer Item)) : Type 0 where
  pub least : 1 ≤ packet
  pub most : packet ≤ 1024
  pub rooms : All (IsRing packet) rings
