-- How many bytes of a journal items take.
use Rattle.std.proofs.Common.{◌≡◌, ℕ, ◌+◌, ◌*◌, ◌≤◌, Bool, true, false, cond, [], arith}
use Rattle.std.specs.Prelude.{◌==◌}
use Rattle.lert_journal.specs.Payload.{item_len, most_payload}
use Rattle.lert_spec.specs.{declared.numbers.Numbers.Numbers, Items.most_weight}
use Rattle.lert_cone.specs.History.{most_version, end_of}
use Rattle.lert_journal.proofs.ItemBytes.{len_of}

len_add : (plain : Bool) (m n : ℕ) → len_of plain * (m + n) ≡ len_of plain * m + len_of plain * n
len_add true m n = omega arith
len_add false m n = omega arith

pub items_add : (version m n : ℕ) → item_len version * (m + n) ≡ item_len version * m + item_len version * n
items_add version m n = len_add (version == 1) m n

len_most : (plain : Bool) (n : ℕ) → len_of plain * n ≤ 9 * n
len_most true n = omega arith
len_most false n = omega arith

pub items_most : (version n : ℕ) → item_len version * n ≤ 9 * n
items_most version n = len_most (version == 1) n

len_fit : (plain : Bool) (n packet : ℕ) → n ≤ 4 * packet → 8 + len_of plain * n ≤ 8 + 4 * len_of plain * packet
len_fit true n packet few = omega (arith, few)
len_fit false n packet few = omega (arith, few)

-- so many items as a packet of a journal may have fit its greatest payload
pub items_fit : (version n packet : ℕ) → n ≤ 4 * packet → 8 + item_len version * n ≤ 8 + 4 * item_len version * packet
items_fit version n packet few = len_fit (version == 1) n packet few

payload_most : (plain : Bool) (packet : ℕ) → 8 + 4 * len_of plain * packet ≤ 8 + 36 * packet
payload_most true packet = omega arith
payload_most false packet = omega arith

pub most_payload_to : (version : ℕ) (s : Numbers) → most_payload version s ≤ 8 + 36 * s.packet
most_payload_to version s = payload_most (version == 1) s.packet

pub most_payload_most : (version : ℕ) (s : Numbers) → most_payload version s ≤ most_payload most_version s
most_payload_most version s = omega (arith, most_payload_to version s)

some_of : (plain : Bool) → 1 ≤ cond {A = ℕ} plain 1 255
some_of true = omega arith
some_of false = omega arith

pub most_weight_some : (version : ℕ) → 1 ≤ most_weight version
most_weight_some version = some_of (version == 1)

pub end_none : (version : ℕ) → end_of version [] ≡ 32
end_none version = omega arith
