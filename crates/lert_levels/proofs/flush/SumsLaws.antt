-- The sums of what several streams gave, as one of them gives a piece.
use Rattle.std.proofs.Common.{ℕ, suc, ◌≡◌, ◌+◌, ◌<◌, ◌≤◌, Bool, true, false, cond, eqb, Option, None, List, [], ◌∷◌, ◌++◌, fold, length, sum_by, get_or, set, refl, ap, sym, ◌∙◌, subst, arith}
use Rattle.std.{proofs.Common.{inl, inr}, proofs.lemmas.Bool.cases_eq, proofs.lemmas.List.{get_or-set_same, get_or-set_other, length-set}}
use Rattle.std.{proofs.lemmas.List.Elements.{All-nil, All-head, All-tail}, proofs.lemmas.List.Sums.{sum_by-cons, sum_by-set, sum_by_push}}
use Rattle.lert_levels.{specs.landing.Summed.{summed, sums_of, AreTables}, specs.landing.Whole.AreUpTo}
use Rattle.lert_levels.{proofs.landing.SummedLaws.{total-summed, tally-table, IsTable-sums_of, count_of-sums_of, plus_up_to}, specs.flush.Merged.{is_of, picked, with_piece}}
use Rattle.lert_levels.proofs.flush.PickLaws.{sum_by-picked-set, each-picked}
use Rattle.lert_spec.{specs.declared.piece.Piece.Piece, specs.Table.{count_of, total, plus, AscendsFrom, IsTable}, proofs.Tables.{AscendsFrom-plus, count_of-plus}, proofs.TallyLaws.one_table}

-- ---- totals, and what is no greater than a tail

total_folded : (table : List Piece) (lists : List (List Piece)) → total (fold summed table lists) ≡ total table + sum_by total lists
total_folded table [] = omega arith
total_folded table (list ∷ lists) = omega (arith, total_folded (summed table list) lists, total-summed table list, sum_by-cons total list lists)

pub total-sums_of : (lists : List (List Piece)) → total (sums_of lists) ≡ sum_by total lists
total-sums_of lists = omega (arith, total_folded [] lists)

summed_up_to : (tail : ℕ) (table pieces : List Piece) → AreUpTo tail table → AreUpTo tail pieces → AreUpTo tail (summed table pieces)
summed_up_to tail table [] up are = up
summed_up_to tail table (p ∷ pieces) up are =
    let P : Piece → Type 0 = λ q. q.tail ≤ tail in
    summed_up_to tail (plus table p.tail p.count) pieces (plus_up_to table p.tail p.count tail (All-head P p pieces are) up) (All-tail P p pieces are)

folded_up_to : (tail : ℕ) (table : List Piece) (lists : List (List Piece)) → AreUpTo tail table → ((k : ℕ) → k < length lists → AreUpTo tail (get_or lists k [])) →
    AreUpTo tail (fold summed table lists)
folded_up_to tail table [] up are = up
folded_up_to tail table (list ∷ lists) up are =
    folded_up_to tail (summed table list) lists (summed_up_to tail table list up (are 0 (omega arith))) (λ k below. are (suc k) (omega (arith, below)))

pub up_to-sums_of : (tail : ℕ) (lists : List (List Piece)) → ((k : ℕ) → k < length lists → AreUpTo tail (get_or lists k [])) → AreUpTo tail (sums_of lists)
up_to-sums_of tail lists are = folded_up_to tail [] lists (All-nil (λ (q : Piece). q.tail ≤ tail)) are

-- ---- a piece behind a list

abbrev own : ℕ → Piece → ℕ
own tail p = cond (eqb p.tail tail) p.count 0

-- the front of a table is one, and its last piece may stand in one
pub front_table : (least limit : ℕ) (ps : List Piece) (p : Piece) → AscendsFrom least limit (ps ++ p ∷ []) → AscendsFrom least limit ps × (p.tail < limit) × (1 ≤ p.count)
front_table least limit [] p up = (tt, up.1, up.2)
front_table least limit (q ∷ ps) p up = let rest = front_table (q.tail + 1) limit ps p up.3 in ((up.0, up.1, up.2, rest.0), rest.1, rest.2)

count_of-push : (limit : ℕ) (ps : List Piece) (p : Piece) (tail : ℕ) → IsTable limit (ps ++ p ∷ []) → count_of (ps ++ p ∷ []) tail ≡ count_of ps tail + own tail p
count_of-push limit ps p tail table = omega (
  arith,
  tally-table 0 limit (ps ++ p ∷ []) tail table,
  tally-table 0 limit ps tail (front_table 0 limit ps p table).0,
  sum_by_push (own tail) ps p,
)

-- one stream gives a piece more
module _ (limit : ℕ) (lists : List (List Piece)) (k : ℕ) (p : Piece) (within : k < length lists) (are : AreTables limit lists) (table : IsTable limit (get_or lists k [] ++ p ∷ [])) where
  abbrev more : List (List Piece)
  more = set lists k (get_or lists k [] ++ p ∷ [])

  pub tables_more : AreTables limit more
  tables_more j below = elim (cases_eq j k) [
    | inl same ↦ subst (IsTable limit) (sym (ap (λ n. get_or more n []) same ∙ get_or-set_same lists k (get_or lists k [] ++ p ∷ []) [] within)) table
    | inr other ↦ subst (IsTable limit) (sym (get_or-set_other lists k j (get_or lists k [] ++ p ∷ []) [] other)) (are j (omega (arith, below, length-set lists k (get_or lists k [] ++ p ∷ []))))
  ]

  may : (p.tail < limit) × (1 ≤ p.count)
  may = let parts = front_table 0 limit (get_or lists k []) p table in (parts.1, parts.2)

  plus_table : (sums : List Piece) → IsTable limit sums → IsTable limit (plus sums p.tail p.count)
  plus_table sums is = AscendsFrom-plus 0 limit sums p.tail p.count (omega arith) may.0 may.1 is

  -- the sums of all
  pub sums_more : plus (sums_of lists) p.tail p.count ≡ sums_of more
  sums_more =
      let before = IsTable-sums_of limit lists are in
      one_table 0 limit (plus (sums_of lists) p.tail p.count) (sums_of more) (plus_table (sums_of lists) before) (IsTable-sums_of limit more tables_more)
      (λ tail. omega (
        arith,
        count_of-plus 0 limit (sums_of lists) p.tail p.count tail before,
        count_of-sums_of limit lists tail are,
        count_of-sums_of limit more tail tables_more,
        sum_by-set (λ pieces. count_of pieces tail) lists k (get_or lists k [] ++ p ∷ []) [] within,
        count_of-push limit (get_or lists k []) p tail table,
      ))

  -- and those of a part
  module _ (parts : List (Option ℕ)) (short : k < length parts) (part : ℕ) where
    abbrev its : List Piece
    its = sums_of (picked parts part lists)

    picked_tables : AreTables limit (picked parts part lists)
    picked_tables = each-picked (IsTable limit) [] parts part lists are

    picked_more : AreTables limit (picked parts part more)
    picked_more = each-picked (IsTable limit) [] parts part more tables_more

    set_is : (f : List Piece → ℕ) (b : Bool) → b ≡ is_of (get_or parts k None) part →
        sum_by f (picked parts part more) + cond {A = ℕ} b (f (get_or lists k [])) 0 ≡ sum_by f (picked parts part lists) + cond {A = ℕ} b (f (get_or lists k [] ++ p ∷ [])) 0
    set_is f b is =
        subst (λ (c : Bool). sum_by f (picked parts part more) + cond {A = ℕ} c (f (get_or lists k [])) 0 ≡ sum_by f (picked parts part lists) + cond {A = ℕ} c (f (get_or lists k [] ++ p ∷ [])) 0)
        (sym is) (sum_by-picked-set f parts part lists k (get_or lists k [] ++ p ∷ []) [] within short)

    counts : (b : Bool) → b ≡ is_of (get_or parts k None) part → (tail : ℕ) → count_of its tail + cond {A = ℕ} b (own tail p) 0 ≡ count_of (sums_of (picked parts part more)) tail
    counts true is tail = omega (
      arith,
      set_is (λ pieces. count_of pieces tail) true is,
      count_of-sums_of limit (picked parts part lists) tail picked_tables,
      count_of-sums_of limit (picked parts part more) tail picked_more,
      count_of-push limit (get_or lists k []) p tail table,
    )
    counts false is tail = omega (
      arith,
      set_is (λ pieces. count_of pieces tail) false is,
      count_of-sums_of limit (picked parts part lists) tail picked_tables,
      count_of-sums_of limit (picked parts part more) tail picked_more,
    )

    part_by : (b : Bool) → b ≡ is_of (get_or parts k None) part → with_piece b p its ≡ sums_of (picked parts part more)
    part_by true is =
        let before = IsTable-sums_of limit (picked parts part lists) picked_tables in
        one_table 0 limit (plus its p.tail p.count) (sums_of (picked parts part more)) (plus_table its before) (IsTable-sums_of limit (picked parts part more) picked_more)
        (λ tail. omega (arith, count_of-plus 0 limit its p.tail p.count tail before, counts true is tail))
    part_by false is =
        one_table 0 limit its (sums_of (picked parts part more)) (IsTable-sums_of limit (picked parts part lists) picked_tables) (IsTable-sums_of limit (picked parts part more) picked_more)
        (λ tail. omega (arith, counts false is tail))

    pub part_more : with_piece (is_of (get_or parts k None) part) p its ≡ sums_of (picked parts part more)
    part_more = part_by (is_of (get_or parts k None) part) refl
