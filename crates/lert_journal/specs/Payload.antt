-- The payload of a packet in a journal: who brings it and its trace, each in four bytes, and its items. An item has its
-- key in eight bytes, the lowest byte first, and behind the first version its weight in one more.
use Rattle.std.specs.Prelude.{◌≡◌, ℕ, ◌+◌, ◌-◌, ◌*◌, ◌/◌, ◌%◌, ◌<◌, ◌≤◌, ◌==◌, ◌&&◌, nat_lt, nat_le, not, Bool, List, [], ◌∷◌, length, drop, map, flat_map, ◌++◌, All}
use Rattle.std.specs.Prelude.{slice_index, Option, Some, option_map, if◌then◌else◌}
use Rattle.std.specs.List.{position_from, range_with_len}
use Rattle.byteorder.specs.Endian.{little_number, little_bytes}
use Rattle.lert_base.specs.Packet.{Packet, keys_of}
use Rattle.lert_spec.specs.{declared.item.Item.Item, declared.numbers.Numbers.Numbers, Items.AreOfVersion, Limits.lies, Mix.cone_of}

-- how many bytes an item has in a journal of a version
abbrev pub item_len : ℕ → ℕ
item_len version = if version == 1 then 8 else 9

abbrev pub item_bytes : ℕ → Item → List ℕ
item_bytes version item = little_bytes 8 item.key ++ (if version == 1 then [] else item.weight ∷ [])

-- the payload of a packet
abbrev pub payload_of : ℕ → Packet → List ℕ
payload_of version packet = little_bytes 4 packet.by ++ little_bytes 4 packet.trace ++ flat_map (item_bytes version) packet.items

-- how many bytes the greatest payload has: of four times as many items as the settings name
abbrev pub most_payload : ℕ → Numbers → ℕ
most_payload version s = 8 + 4 * item_len version * s.packet

-- a packet that a cone's journal may hold: some items with keys of this cone, at most four times as many as the settings
-- name, of weights that the version can hold
pub record IsJournaled (version : ℕ) (s : Numbers) (cone : ℕ) (packet : Packet) : Type 0 where
  pub some : 0 < length packet.items
  pub few : length packet.items ≤ 4 * s.packet
  pub by_most : packet.by ≤ 63
  pub trace_most : packet.trace ≤ 1023
  pub of_cone : All (λ key. cone_of s key ≡ cone) (keys_of packet)
  pub weighed : AreOfVersion version packet.items

-- the item with a number, from 0, where it stands in a payload
abbrev pub item_in : ℕ → List ℕ → ℕ → Item
item_in version payload n = record {
  key = little_number 8 (drop (8 + item_len version * n) payload);
  weight = if version == 1 then 1 else slice_index payload (16 + item_len version * n);
}

-- the packet in the bytes of a payload
abbrev pub packet_in : ℕ → List ℕ → Packet
packet_in version payload = record {
  by = little_number 4 payload;
  trace = little_number 4 (drop 4 payload);
  items = map (item_in version payload) (range_with_len 0 ((length payload - 8) / item_len version));
}

-- a payload of this length holds whole items, at least one and not too many
abbrev pub is_counted : ℕ → Numbers → ℕ → Bool
is_counted version s n = (n - 8) % item_len version == 0 && lies 1 (4 * s.packet) ((n - 8) / item_len version)

-- an item's key is of the cone, and it weighs something
abbrev pub is_own : Numbers → ℕ → Item → Bool
is_own s cone item = cone_of s item.key == cone && nat_le 1 item.weight

-- how far behind its first byte an item breaks one of these rules: at its key, or else at its weight, the last byte
abbrev pub stray_spot : ℕ → Numbers → ℕ → Item → ℕ
stray_spot version s cone item = if cone_of s item.key == cone then item_len version - 1 else 0

-- the place of the item with a number, where it breaks a rule
abbrev pub stray_place : ℕ → Numbers → ℕ → List ℕ → ℕ → ℕ
stray_place version s cone payload n = 12 + item_len version * n + stray_spot version s cone (item_in version payload n)

-- the place at which a payload first leaves the format, counted from its length on, which stands four bytes before it:
-- at the length, where it holds no whole items, none or too many; else at the field of who brings it or of its trace,
-- where the number is too great; else at the first item of another cone or without a weight; none where it holds a packet
-- of this cone
abbrev pub left : ℕ → Numbers → ℕ → List ℕ → Option ℕ
left version s cone payload =
    if not (is_counted version s (length payload)) then Some 0
    else (if nat_lt 63 (packet_in version payload).by then Some 4
    else (if nat_lt 1023 (packet_in version payload).trace then Some 8
    else option_map (stray_place version s cone payload) (position_from (λ item. not (is_own s cone item)) 0 (packet_in version payload).items)))
