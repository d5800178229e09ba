-- How often a tail stands in the tables of level 0.
use Rattle.std.proofs.Common.{ℕ, suc, ◌≡◌, ◌+◌, ◌*◌, ◌^◌, ◌<◌, ◌≤◌, min, List, [], ◌∷◌, length, get_or, map, refl, ap, ap₂, sym, ◌∙◌, subst, arith, inl, inr, sum_by, take}
use Rattle.std.proofs.{Math.Nat.{suc-mul, pow-zero}, lemmas.Bool.{cases_lt, cases_eq}, lemmas.List.take_all, lemmas.List.Sums.{sum_by-cons, sum_by_more}}
use Rattle.lert_base.specs.declared.count_table.CountTable.{Ghosts as TablesOf}
use Rattle.lert_spec.specs.{declared.numbers.Numbers.Numbers, declared.piece.Piece.Piece, Bins.Bin, Edges.span, Limits.IsValid, Table.{count_of, total}}
use Rattle.lert_spec.proofs.{CostLaws.costs_from, TallyLaws.{count_of-cons_same, count_of-cons_other}}
use Rattle.lert_levels.specs.rows.Young.{seen_as, Young, bins_of, AreFilled}
use Rattle.lert_levels.proofs.rows.YoungLaws.{bins_of-none, bins_of-some}

pub count_of_le-total : (ps : List Piece) (tail : ℕ) → count_of ps tail ≤ total ps
count_of_le-total [] tail = omega arith
count_of_le-total (p ∷ ps) tail = let rest = count_of_le-total ps tail in elim (cases_eq p.tail tail) [
  | inl same ↦ omega (arith, count_of-cons_same p ps tail same)
  | inr differs ↦ omega (arith, count_of-cons_other p ps tail differs)
]

pub width_within : (s : Numbers) → IsValid s → span s 0 ≤ 65536
width_within s valid = let one : s.ratio ^ 0 ≡ 1 = pow-zero s.ratio in omega (arith, valid.limits.base_to, ap (λ n. s.base * n) one)

-- what was counted in the first tables: each add of a table's positions weighs at most 255
pub record IsCounted {T : Type 0} (pieces : T → List Piece) (tables : List T) (tail number count : ℕ) : Type 0 where
  pub is : count ≡ sum_by (λ table. count_of (pieces table) tail) (take number tables)
  pub few : count ≤ number * 16711680

pub counts_are : {T : Type 0} (pieces : T → List Piece) (tail wide from to : ℕ) (tables : List T) →
    ((k : ℕ) (d : T) → k < length tables → to ≤ from + k * wide → pieces (get_or tables k d) ≡ []) →
    sum_by (λ (bin : Bin). count_of bin.pieces tail) (bins_of wide from to (map pieces tables)) ≡ sum_by (λ table. count_of (pieces table) tail) tables
counts_are pieces tail wide from to [] unused = refl
counts_are {T} pieces tail wide from to (table ∷ tables) unused =
    let rest = counts_are pieces tail wide (from + wide) to tables (λ k d below over. (let one = suc-mul k wide in unused (suc k) d (omega arith) (omega arith))) in
    let all = sum_by-cons (λ (t : T). count_of (pieces t) tail) table tables in
    elim (cases_lt from to) [
      | inl some ↦ (
          let bins = bins_of-some wide from to (pieces table) (map pieces tables) some in
          ap (sum_by (λ (bin : Bin). count_of bin.pieces tail)) bins
          ∙ sum_by-cons (λ (bin : Bin). count_of bin.pieces tail) (record { from = from; to = min to (from + wide); pieces = pieces table }) (bins_of wide (from + wide) to (map pieces tables))
          ∙ omega arith)
      | inr none ↦ (
          let over = bins_of-none wide from to (map pieces (table ∷ tables)) none in
          let later = ap (sum_by (λ (bin : Bin). count_of bin.pieces tail)) (bins_of-none wide (from + wide) to (map pieces tables) (omega arith)) in
          let empty : count_of (pieces table) tail ≡ 0 = ap (λ ps. count_of ps tail) (unused 0 table (omega arith) (omega arith)) in
          ap (sum_by (λ (bin : Bin). count_of bin.pieces tail)) over ∙ omega (arith, later))
    ]

-- as one table after the other is asked
module _ {T C : Type 0} (of : TablesOf T C) (s : Numbers) (all tables : List T) (from to : ℕ) (filled : AreFilled of s all from to) (same_tables : tables ≡ all)
    (tail number count : ℕ) (counted : IsCounted of.pieces tables tail number count) where
  pub counted_more : number < length tables → (table : T) → table ≡ get_or tables number table → (more : ℕ) → more ≡ count_of (of.pieces table) tail →
      IsCounted of.pieces tables tail (number + 1) (count + more)
  counted_more below table is more more_is =
      let here = (subst (λ (ts : List T). AreFilled of s ts from to) (sym same_tables) filled).each number table below in
      let few = count_of_le-total (of.pieces table) tail in
      let same : total (of.pieces (get_or tables number table)) ≡ total (of.pieces table) = ap (λ (t : T). total (of.pieces t)) (sym is) in
      let narrow = width_within s filled.valid in
      record {
        is = ap₂ (λ a b. a + b) counted.is (more_is ∙ ap (λ (t : T). count_of (of.pieces t) tail) is) ∙ sym (sum_by_more (λ (t : T). count_of (of.pieces t) tail) tables number table below);
        few = omega (arith, counted.few, same, few, here.added, here.costly, costs_from 2 (of.pieces (get_or tables number table)), narrow);
      }

  pub counted_fits : number ≤ length tables → count < 2 ^ 63
  counted_fits below = omega (arith, counted.few, filled.valid.limits.bins_to, filled.len, ap length same_tables)

  pub counted_all : (young : Young) → seen_as of s all from to ≡ young → length tables ≤ number → count ≡ sum_by (λ bin. count_of bin.pieces tail) young.bins
  counted_all young seen over =
      counted.is
      ∙ ap (sum_by (λ (t : T). count_of (of.pieces t) tail)) (take_all number tables over ∙ same_tables)
      ∙ sym (counts_are of.pieces tail (span s 0) from to all (λ k d below behind. (filled.each k d below).unused behind))
      ∙ ap (λ (y : Young). sum_by (λ (bin : Bin). count_of bin.pieces tail) y.bins) seen
