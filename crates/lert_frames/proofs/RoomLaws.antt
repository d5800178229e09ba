-- The slots of pieces are no more than what they cost allows.
use Rattle.std.proofs.Common.{ℕ, ◌≡◌, ◌+◌, ◌*◌, ◌%◌, ◌/◌, ◌^◌, ◌≤◌, ◌==◌, cond, true, false, List, [], ◌∷◌, length, refl, arith, length-append}
use Rattle.lert_blocks.{specs.Text.{group_of, slots_of}, proofs.LengthLaws.group_short}
use Rattle.lert_counter.{specs.Group.group, proofs.GrowthLemmas.length_group-four}
use Rattle.lert_frames.specs.Place.{slots_each}
use Rattle.lert_spec.{specs.declared.piece.Piece.Piece, specs.Table.{cost, costs, AscendsFrom}}

-- those of a group: with the first version two for each of its count, and with a later one four for each 255 of it
pub group_fits : (version width x c : ℕ) → 8 ≤ width → 1 ≤ c → length (group width x c) ≤ slots_each version * cost version c
group_fits version width x c wide some =
    elim (version == 1) as (λ b. length (group width x c) ≤ cond b 2 4 * cond b c ((c + 254) / 255)) [
      | true ↦ omega (arith, group_short width x c wide some)
      | false ↦ omega (arith, length_group-four width x c wide some)
    ]

-- what is taken of what is left
pub left_fits : (version left cost rest : ℕ) → rest + cost ≡ left → slots_each version * rest + slots_each version * cost ≡ slots_each version * left
left_fits version left cost rest sum =
    elim (version == 1) as (λ t. cond t 2 4 * rest + cond t 2 4 * cost ≡ cond t 2 4 * left) [
      | true ↦ omega (arith, sum)
      | false ↦ omega (arith, sum)
    ]

-- and those of pieces
pub slots_by_costs : (version width least limit : ℕ) (pieces : List Piece) → 8 ≤ width → AscendsFrom least limit pieces →
    length (slots_of width pieces) ≤ slots_each version * costs version pieces
slots_by_costs version width least limit [] wide up = omega arith
slots_by_costs version width least limit (p ∷ pieces) wide up =
    let h = slots_by_costs version width (p.tail + 1) limit pieces wide up.3 in
    let here = group_fits version width (p.tail % 2 ^ width) p.count wide up.2 in
    let sum = left_fits version (cost version p.count + costs version pieces) (costs version pieces) (cost version p.count) refl in
    omega (arith, h, here, sum, length-append (group_of width p) (slots_of width pieces))

-- what costs no more leaves room for no more slots
pub costs_fit : (version a b : ℕ) → a ≤ b → slots_each version * a ≤ slots_each version * b
costs_fit version a b less =
    elim (version == 1) as (λ t. cond t 2 4 * a ≤ cond t 2 4 * b) [
      | true ↦ omega (arith, less)
      | false ↦ omega (arith, less)
    ]
