-- The tables of level 0 that are in use, as the pieces of its bins.
use Rattle.std.proofs.Common.{ℕ, zero, suc, ◌≡◌, ◌+◌, ◌-◌, ◌*◌, ◌^◌, ◌<◌, ◌≤◌, min, List, [], ◌∷◌, All, length, get_or, map, take, refl, ap, sym, ◌∙◌, subst, arith, inl, inr}
use Rattle.std.proofs.{Math.Nat.{mul-le-mul_right, suc-mul}, lemmas.Bool.cases_lt, lemmas.List.{get_or-map, length-map, take-map}, lemmas.List.Elements.{All-cons, All-take}}
use Rattle.lert_spec.specs.{declared.piece.Piece.Piece, Table.{costs, total}, declared.numbers.Numbers.Numbers, Bins.Bin, Edges.{span, tail_bits}}
use Rattle.lert_spec.proofs.CostLaws.{costs_from, costs_to}
use Rattle.lert_base.specs.declared.count_table.CountTable.{Ghosts as TablesOf}
use Rattle.lert_levels.specs.rows.Young.{seen_as, Young, AreCheap, AreLight, loosened, bins_of, IsOfZero, IsFilled, AreFilled, AreNumbered}
use Rattle.lert_levels.proofs.{rows.YoungLaws.{bins_of-none, bins_of-some, bins_of-length, bits_of_zero}, rows.YoungCounts.width_within}

-- ---- the tables in use

pub used_pieces : (wide from to count : ℕ) (tables : List (List Piece)) → to ≤ from + count * wide → count * wide < (to - from) + wide →
    take count tables ≡ map (λ (bin : Bin). bin.pieces) (bins_of wide from to tables)
used_pieces wide from to zero tables covers few = ap (map (λ (bin : Bin). bin.pieces)) (sym (bins_of-none wide from to tables (omega arith)))
used_pieces wide from to (suc count) [] covers few = refl
used_pieces wide from to (suc count) (p ∷ tables) covers few =
    let step = suc-mul count wide in
    ap (λ lists. p ∷ lists) (used_pieces wide (from + wide) to count tables (omega arith) (omega arith))
    ∙ sym (ap (map (λ (bin : Bin). bin.pieces)) (bins_of-some wide from to p tables (omega arith)))

bins_of-each : (P : Bin → Type 0) (wide from to : ℕ) (tables : List (List Piece)) →
    ((k start : ℕ) → start ≡ from + k * wide → start < to → k < length tables → P (record { from = start; to = min to (start + wide); pieces = get_or tables k [] })) →
    All P (bins_of wide from to tables)
bins_of-each P wide from to [] each = λ k d below. absurd (omega arith)
bins_of-each P wide from to (p ∷ tables) each = elim (cases_lt from to) [
  | inr over ↦ subst (All P) (sym (bins_of-none wide from to (p ∷ tables) over)) (λ k d below. absurd (omega arith))
  | inl some ↦ (
      let here = each 0 from (omega arith) some (omega arith) in
      let rest = bins_of-each P wide (from + wide) to tables (λ k start is under within. (let step = suc-mul k wide in each (suc k) start (omega arith) under (omega arith))) in
      let bin : Bin = record { from = from; to = min to (from + wide); pieces = p } in
      let bins = bins_of wide (from + wide) to tables in
      subst (All P) (sym (bins_of-some wide from to p tables some))
      (λ k d below. elim k as (λ n. n < suc (length bins) → P (get_or (bin ∷ bins) n d)) [ zero ↦ λ _. here | suc k ↦ λ within. rest k d (omega arith) ] below))
]

bins_of-few : (wide from to : ℕ) (tables : List (List Piece)) → length (bins_of wide from to tables) ≤ length tables
bins_of-few wide from to [] = omega arith
bins_of-few wide from to (p ∷ tables) = elim (cases_lt from to) [
  | inl some ↦ omega (arith, ap length (bins_of-some wide from to p tables some), bins_of-few wide (from + wide) to tables)
  | inr over ↦ omega (arith, ap length (bins_of-none wide from to (p ∷ tables) over))
]

-- counts that so many items may have made, each of which weighs at most 255
abbrev IsLight : List Piece → ℕ → Type 0
IsLight pieces wide = (costs 2 pieces ≤ wide) × (wide ≤ total pieces)

-- how many tables are in use
pub record IsUsed {T C : Type 0} (of : TablesOf T C) (s : Numbers) (tables all : List T) (from to : ℕ) (young : Young) (count : ℕ) : Type 0
  where
    pub filled : AreFilled of s all from to
    pub seen : seen_as of s all from to ≡ young
    pub same : tables ≡ all
    pub covers : to ≤ from + count * span s 0
    pub few : count * span s 0 < (to - from) + span s 0

module _ {T C : Type 0} {of : TablesOf T C} {s : Numbers} {tables all : List T} {from to : ℕ} {young : Young} {count : ℕ} (used : IsUsed of s tables all from to young count) where
  pub used_within : count ≤ length tables
  used_within =
      let few = used.few in
      let within = used.filled.within in
      let len : length tables ≡ s.bins = ap length used.same ∙ used.filled.len in
      elim (cases_lt s.bins count) [
        | inl more ↦ absurd (let products = mul-le-mul_right (span s 0) (let next : suc s.bins ≤ count = more in next) in let step = suc-mul s.bins (span s 0) in omega arith)
        | inr few ↦ omega arith
      ]

  pub used_are : map of.pieces (take count tables) ≡ map (λ (bin : Bin). bin.pieces) young.bins
  used_are =
      sym (take-map of.pieces count tables)
      ∙ ap (λ (ts : List T). take count (map of.pieces ts)) used.same
      ∙ used_pieces (span s 0) from to count (map of.pieces all) used.covers used.few
      ∙ ap (λ (y : Young). map (λ (bin : Bin). bin.pieces) y.bins) used.seen

  pub used_rooms : All (λ table. (of.room table ≤ 2 ^ 39) × (of.quotient_bits table + of.width table ≡ tail_bits young.settings)) (take count tables)
  used_rooms =
      subst (λ (y : Young). All (λ table. (of.room table ≤ 2 ^ 39) × (of.quotient_bits table + of.width table ≡ tail_bits y.settings)) (take count tables)) used.seen
      (All-take (λ table. (of.room table ≤ 2 ^ 39) × (of.quotient_bits table + of.width table ≡ tail_bits s)) count tables
      (subst (All (λ table. (of.room table ≤ 2 ^ 39) × (of.quotient_bits table + of.width table ≡ tail_bits s))) (sym used.same)
      (λ k d below. let numbers = (used.filled.each k d below).of_zero in
      (omega (arith, numbers.events, width_within s used.filled.valid), bits_of_zero s used.filled.valid numbers))))

  pub used_of_zero : All (λ table. IsOfZero young.settings (of.room table) (of.quotient_bits table) (of.width table)) (take count tables)
  used_of_zero =
      subst (λ (y : Young). All (λ table. IsOfZero y.settings (of.room table) (of.quotient_bits table) (of.width table)) (take count tables)) used.seen
      (All-take (λ table. IsOfZero s (of.room table) (of.quotient_bits table) (of.width table)) count tables
      (subst (All (λ table. IsOfZero s (of.room table) (of.quotient_bits table) (of.width table))) (sym used.same) (λ k d below. (used.filled.each k d below).of_zero)))

  pub used_light : AreLight 2 young.bins
  used_light =
      subst (λ (y : Young). AreLight 2 y.bins) used.seen
      (bins_of-each (λ (bin : Bin). IsLight bin.pieces (bin.to - bin.from)) (span s 0) from to (map of.pieces all)
      (λ k start is under within. some_light all used.filled.each k start is under (omega (arith, length-map all of.pieces))))
    where
      some_light : (all : List T) → ((k : ℕ) (d : T) → k < length all → IsFilled of s from to k (get_or all k d)) →
          (k start : ℕ) → start ≡ from + k * span s 0 → start < to → k < length all → IsLight (get_or (map of.pieces all) k []) (min to (start + span s 0) - start)
      some_light [] each k start is under within = absurd (omega arith)
      some_light (first ∷ rest) each k start is under within =
          let here = each k first within in
          let adds : of.adds (get_or (first ∷ rest) k first) ≡ min to (start + span s 0) - start = here.added ∙ omega arith in
          subst (λ pieces. IsLight pieces (min to (start + span s 0) - start)) (sym (get_or-map of.pieces (first ∷ rest) k first [] within))
          (omega (arith, adds, here.costly), omega (arith, adds, here.heavy))

  pub used_narrow : All (λ (bin : Bin). bin.to - bin.from ≤ span young.settings 0) young.bins
  used_narrow =
      subst (λ (y : Young). All (λ (bin : Bin). bin.to - bin.from ≤ span y.settings 0) y.bins) used.seen
      (bins_of-each (λ (bin : Bin). bin.to - bin.from ≤ span s 0) (span s 0) from to (map of.pieces all) (λ k start is under within. omega arith))

  pub used_some : young.from < young.to → 1 ≤ length young.bins
  used_some =
      subst (λ (y : Young). y.from < y.to → 1 ≤ length y.bins) used.seen
      (λ under. bins_of-length (span s 0) from to (map of.pieces all) under (omega (arith, length-map all of.pieces, used.filled.len, used.filled.valid.limits.bins_from)))

  pub used_few : length young.bins ≤ young.settings.bins
  used_few =
      subst (λ (y : Young). length y.bins ≤ y.settings.bins) used.seen
      (omega (arith, bins_of-few (span s 0) from to (map of.pieces all), length-map all of.pieces, used.filled.len))

pub used : {T C : Type 0} (of : TablesOf T C) {s : Numbers} {tables all : List T} {from to : ℕ} {young : Young} {count end : ℕ} →
    AreFilled of s all from to → seen_as of s all from to ≡ young → tables ≡ all →
    AreNumbered s from to count end → IsUsed of s tables all from to young count
used of filled seen same numbered =
    record {
      filled = filled;
      seen = seen;
      same = same;
      covers = omega (arith, numbered.end_is, numbered.covers);
      few = omega (arith, numbered.end_is, numbered.few, filled.ordered);
    }

-- ---- wider bins

-- they have the same counts
pub loosened_pieces : (young : List Bin) → map (λ (bin : Bin). bin.pieces) (loosened young) ≡ map (λ (bin : Bin). bin.pieces) young
loosened_pieces [] = refl
loosened_pieces (bin ∷ young) = ap (λ rest. bin.pieces ∷ rest) (loosened_pieces young)

-- which are cheap in each version
pub loosened_cheap : (version : ℕ) (young : List Bin) → AreLight 2 young → AreCheap version (loosened young)
loosened_cheap version [] light = λ k d below. absurd (omega (arith, below))
loosened_cheap version (bin ∷ young) light =
    let one : costs version bin.pieces ≤ 255 * bin.to - 255 * bin.from = omega (arith, costs_to version bin.pieces, costs_from 2 bin.pieces, (light 0 bin (omega arith)).0) in
    All-cons (λ (b : Bin). costs version b.pieces ≤ b.to - b.from) (record { from = 255 * bin.from; to = 255 * bin.to; pieces = bin.pieces }) (loosened young) one
    (loosened_cheap version young (λ k d below. light (suc k) d (omega (arith, below))))

-- and they are at most so much wider
pub loosened_narrow : (s : Numbers) (young : List Bin) → All (λ (bin : Bin). bin.to - bin.from ≤ span s 0) young → All (λ (bin : Bin). bin.to - bin.from ≤ 255 * span s 0) (loosened young)
loosened_narrow s [] narrow = λ k d below. absurd (omega (arith, below))
loosened_narrow s (bin ∷ young) narrow =
    All-cons (λ (b : Bin). b.to - b.from ≤ 255 * span s 0) (record { from = 255 * bin.from; to = 255 * bin.to; pieces = bin.pieces }) (loosened young)
    (omega (arith, narrow 0 bin (omega arith))) (loosened_narrow s young (λ k d below. narrow (suc k) d (omega (arith, below))))

pub narrow_more : (s : Numbers) (young : List Bin) → All (λ (bin : Bin). bin.to - bin.from ≤ span s 0) young → All (λ (bin : Bin). bin.to - bin.from ≤ 255 * span s 0) young
narrow_more s young narrow = λ k d below. omega (arith, narrow k d below)
