-- The trace format: eight header bytes, then items to the end. In version 1 an item is a key of eight bytes, the lowest first, and
-- weighs 1. In version 2 a ninth byte is its weight, from 1 to 255.
use Rattle.std.specs.{Prelude.{ℕ, Bool, ◌+◌, ◌-◌, ◌*◌, ◌/◌, ◌%◌, ◌==◌, nat_lt, is_none, List, [], ◌∷◌, get_or, length, map, take_while, Option, Some, None, if◌then◌else◌}}
use Rattle.std.specs.List.{prefix_len, range_with_len}
use Rattle.byteorder.specs.Endian.{little_from}
use Rattle.lert_spec.specs.{Agreed.agreed, declared.item.Item.Item}

-- the bytes that begin a trace: the letters LERT, and the version
abbrev pub trace_header : ℕ → List ℕ
trace_header version = 76 ∷ 69 ∷ 82 ∷ 84 ∷ version ∷ 0 ∷ 0 ∷ 0 ∷ []

-- the version that bytes name, where they name one: their fifth is 1 or 2
abbrev pub version_in : List ℕ → ℕ
version_in bytes = if get_or bytes 4 1 == 2 then 2 else 1

-- how many bytes from the front on are those of a header
abbrev pub header_len : List ℕ → ℕ
header_len bytes = agreed (trace_header (version_in bytes)) bytes

-- how many bytes an item has
abbrev pub item_size : ℕ → ℕ
item_size version = if version == 1 then 8 else 9

-- where an item with a number, from 0, begins
abbrev pub place_of : ℕ → ℕ → ℕ
place_of version n = 8 + item_size version * n

-- the item with a number, from 0, where all its bytes stand behind the header
unfoldable pub item_at : ℕ → List ℕ → ℕ → Item
item_at version bytes n = record {
  key = little_from (place_of version n) 8 bytes;
  weight = if version == 1 then 1 else get_or bytes (place_of version n + 8) 0;
}

-- how many items have all their bytes
abbrev pub full_len : List ℕ → ℕ
full_len bytes = (length bytes - 8) / item_size (version_in bytes)

-- the items that have all their bytes
abbrev pub full : List ℕ → List Item
full bytes = map (item_at (version_in bytes) bytes) (range_with_len 0 (full_len bytes))

-- an item weighs something
abbrev pub weighs : Item → Bool
weighs item = nat_lt 0 item.weight

-- the place at which bytes first leave the trace format: at the first header byte that differs, at their length where they end
-- inside the header, at a weight of 0, or at the first byte of a last item that is cut; none where they are a trace
abbrev pub left : List ℕ → Option ℕ
left bytes =
    if nat_lt (header_len bytes) 8 then Some (header_len bytes)
    else (if nat_lt (prefix_len weighs (full bytes)) (full_len bytes) then Some (place_of (version_in bytes) (prefix_len weighs (full bytes)) + 8)
    else (if (length bytes - 8) % item_size (version_in bytes) == 0 then None else Some (length bytes - (length bytes - 8) % item_size (version_in bytes))))

-- the items that stand wholly before the place at which bytes leave the format, or all items of a trace
abbrev pub whole : List ℕ → List Item
whole bytes = if nat_lt (header_len bytes) 8 then [] else take_while weighs (full bytes)

-- the items of a trace, defined exactly where the bytes are one
abbrev pub items : List ℕ → Option (List Item)
items bytes = if is_none (left bytes) then Some (whole bytes) else None
