-- A table stays in order as its counts rise.
use Rattle.std.proofs.Common.{ℕ, ◌+◌, ◌*◌, ◌^◌, ◌<◌, ◌≤◌, List, [], ◌∷◌, length, arith, refl}
use Rattle.lert_spec.specs.{Table.{costs, total, plus, AscendsFrom}, declared.piece.Piece.Piece}
use Rattle.lert_spec.proofs.{CostLaws.{cost_some, cost_one, costs-plus, costs_from}, Tables.{AscendsFrom-plus, total-plus}}
use Rattle.lert_plain.specs.Contents.{IsKept}

pub IsKept-plus : (ps : List Piece) (tail n adds room tail_bits capacity capacity' : ℕ) → IsKept ps adds room tail_bits capacity → tail < 2 ^ tail_bits → 1 ≤ n → n ≤ 255 →
    adds < room → capacity ≤ capacity' → IsKept (plus ps tail n) (adds + 1) room tail_bits capacity'
IsKept-plus ps tail n adds room tail_bits capacity capacity' kept below some few has_room grows = record {
  ascending = AscendsFrom-plus 0 (2 ^ tail_bits) ps tail n (omega arith) below some kept.ascending;
  cheap = omega (arith, costs-plus 2 ps tail n, cost_one 2 n some few refl, kept.cheap);
  some = omega (arith, total-plus ps tail n, kept.some, some);
  in_room = omega (arith, has_room);
  small = kept.small;
  reserved = omega (arith, kept.reserved, grows);
}

-- all counts together are no more than 255 for each add
pub no_more : (ps : List Piece) (adds room tail_bits capacity : ℕ) → IsKept ps adds room tail_bits capacity → total ps ≤ 255 * adds
no_more ps adds room tail_bits capacity kept = omega (arith, costs_from 2 ps, kept.cheap)

-- each piece costs something
length_le-costs : (least limit : ℕ) (ps : List Piece) → AscendsFrom least limit ps → length ps ≤ costs 2 ps
length_le-costs least limit [] up = omega arith
length_le-costs least limit (p ∷ ps) up = omega (arith, cost_some 2 p.count up.2, length_le-costs (p.tail + 1) limit ps up.3)

-- so before an `add` of a new tail there is a place left
pub has_place : (ps : List Piece) (adds room tail_bits capacity : ℕ) → IsKept ps adds room tail_bits capacity → adds < room → length ps < capacity
has_place ps adds room tail_bits capacity kept has_room =
    omega (arith, length_le-costs 0 (2 ^ tail_bits) ps kept.ascending, kept.cheap, kept.reserved, has_room)
