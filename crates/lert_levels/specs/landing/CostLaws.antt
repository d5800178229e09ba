-- What the counts of joined lists cost, and of sums.
use Rattle.std.proofs.Common.{ℕ, ◌≡◌, ◌+◌, ◌≤◌, List, [], ◌∷◌, ◌++◌, fold, sum_by, arith}
use Rattle.std.proofs.lemmas.List.Sums.{sum_by-cons}
use Rattle.lert_spec.{specs.declared.piece.Piece.Piece, specs.Table.{costs, plus}, proofs.CostLaws.costs-plus}
use Rattle.lert_levels.specs.landing.Summed.{summed, sums_of}

pub costs-append : (version : ℕ) (xs ys : List Piece) → costs version (xs ++ ys) ≡ costs version xs + costs version ys
costs-append version [] ys = omega arith
costs-append version (x ∷ xs) ys = omega (arith, costs-append version xs ys)

-- counts that are added up cost no more than apart
costs-summed : (version : ℕ) (table pieces : List Piece) → costs version (summed table pieces) ≤ costs version table + costs version pieces
costs-summed version table [] = omega arith
costs-summed version table (p ∷ pieces) =
    omega (arith, costs-summed version (plus table p.tail p.count) pieces, costs-plus version table p.tail p.count)

costs_folded : (version : ℕ) (table : List Piece) (lists : List (List Piece)) → costs version (fold summed table lists) ≤ costs version table + sum_by (costs version) lists
costs_folded version table [] = omega arith
costs_folded version table (list ∷ lists) =
    omega (arith, costs_folded version (summed table list) lists, costs-summed version table list, sum_by-cons (costs version) list lists)

pub costs-sums_of : (version : ℕ) (lists : List (List Piece)) → costs version (sums_of lists) ≤ sum_by (costs version) lists
costs-sums_of version lists = omega (arith, costs_folded version [] lists)
