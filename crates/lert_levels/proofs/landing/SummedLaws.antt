-- Sums of pieces in any order are the table of their counts.
use Rattle.std.proofs.{Common.{ℕ, suc, ◌≡◌, ◌+◌, ◌<◌, ◌≤◌, cond, eqb, List, [], ◌∷◌, fold, sum_by, refl, ap, sym, subst, arith, inl, inr}, lemmas.Bool.{cases_eq, cases_order, eq-eqb, ne_eqb}}
use Rattle.std.proofs.{lemmas.List.Elements.{All-nil, All-cons, All-head, All-tail}, lemmas.List.Sums.sum_by-cons}
use Rattle.lert_spec.specs.{declared.piece.Piece.Piece, Table.{count_of, total, plus, AscendsFrom, IsTable}}
use Rattle.lert_spec.proofs.{Tables.{plus_here, plus_before, plus_behind, AscendsFrom-plus, count_of-plus, count_of-below, total-plus}, TallyLaws.{count_of-cons_same, count_of-cons_other}}
use Rattle.lert_levels.specs.{landing.Summed.{summed, sums_of, tally, AreCounted, AreTables}, landing.Whole.AreUpTo}

-- ---- sums of pieces

-- a piece's own count
abbrev own : ℕ → Piece → ℕ
own tail p = cond (eqb p.tail tail) p.count 0

abbrev MayStand : ℕ → Piece → Type 0
MayStand limit p = (p.tail < limit) × (1 ≤ p.count)

pub IsTable-summed : (limit : ℕ) (table pieces : List Piece) → IsTable limit table → AreCounted limit pieces → IsTable limit (summed table pieces)
IsTable-summed limit table [] is are = is
IsTable-summed limit table (p ∷ pieces) is are =
    let here = All-head (MayStand limit) p pieces are in
    IsTable-summed limit (plus table p.tail p.count) pieces (AscendsFrom-plus 0 limit table p.tail p.count (omega arith) here.0 here.1 is) (All-tail (MayStand limit) p pieces are)

pub count_of-summed : (limit : ℕ) (table pieces : List Piece) (tail : ℕ) → IsTable limit table → AreCounted limit pieces →
    count_of (summed table pieces) tail ≡ count_of table tail + tally tail pieces
count_of-summed limit table [] tail is are = let none : tally tail [] ≡ 0 = refl in omega arith
count_of-summed limit table (p ∷ pieces) tail is are =
    let here = All-head (MayStand limit) p pieces are in
    let next = AscendsFrom-plus 0 limit table p.tail p.count (omega arith) here.0 here.1 is in
    omega (
      arith,
      count_of-summed limit (plus table p.tail p.count) pieces tail next (All-tail (MayStand limit) p pieces are),
      count_of-plus 0 limit table p.tail p.count tail is,
      sum_by-cons (own tail) p pieces,
    )

pub total-summed : (table pieces : List Piece) → total (summed table pieces) ≡ total table + total pieces
total-summed table [] = omega arith
total-summed table (p ∷ pieces) = omega (arith, total-summed (plus table p.tail p.count) pieces, total-plus table p.tail p.count)

-- ---- tables

-- a table has a piece of a tail at most
pub tally-table : (least limit : ℕ) (pieces : List Piece) (tail : ℕ) → AscendsFrom least limit pieces → tally tail pieces ≡ count_of pieces tail
tally-table least limit [] tail up = refl
tally-table least limit (p ∷ pieces) tail up =
    let rest = tally-table (p.tail + 1) limit pieces tail up.3 in
    let parts = sum_by-cons (own tail) p pieces in
    elim (cases_eq p.tail tail) [
      | inl same ↦ (
          let here = ap (λ t. cond {A = ℕ} t p.count 0) (eq-eqb p.tail tail same) in
          omega (arith, count_of-cons_same p pieces tail same, count_of-below (p.tail + 1) limit pieces tail (omega arith) up.3))
      | inr differs ↦ (
          let here = ap (λ t. cond {A = ℕ} t p.count 0) (ne_eqb p.tail tail differs) in
          omega (arith, count_of-cons_other p pieces tail differs))
    ]

pub counted : (least limit : ℕ) (pieces : List Piece) → AscendsFrom least limit pieces → AreCounted limit pieces
counted least limit [] up = All-nil (MayStand limit)
counted least limit (p ∷ pieces) up = All-cons (MayStand limit) p pieces (up.1, up.2) (counted (p.tail + 1) limit pieces up.3)

-- ---- the pieces of several lists

-- how often a tail stands in all of them
abbrev pub count_in : List (List Piece) → ℕ → ℕ
count_in lists tail = sum_by (λ pieces. count_of pieces tail) lists

tables_behind : (limit : ℕ) (list : List Piece) (lists : List (List Piece)) → AreTables limit (list ∷ lists) → AreTables limit lists
tables_behind limit list lists are = λ k below. are (suc k) (omega arith)

folded : (limit : ℕ) (table : List Piece) (lists : List (List Piece)) → IsTable limit table → AreTables limit lists → IsTable limit (fold summed table lists)
folded limit table [] is are = is
folded limit table (list ∷ lists) is are =
    folded limit (summed table list) lists (IsTable-summed limit table list is (counted 0 limit list (are 0 (omega arith)))) (tables_behind limit list lists are)

count_of-folded : (limit : ℕ) (table : List Piece) (lists : List (List Piece)) (tail : ℕ) → IsTable limit table → AreTables limit lists →
    count_of (fold summed table lists) tail ≡ count_of table tail + count_in lists tail
count_of-folded limit table [] tail is are = let none : count_in [] tail ≡ 0 = refl in omega arith
count_of-folded limit table (list ∷ lists) tail is are =
    let first = are 0 (omega arith) in
    let next = IsTable-summed limit table list is (counted 0 limit list first) in
    omega (
      arith,
      count_of-folded limit (summed table list) lists tail next (tables_behind limit list lists are),
      count_of-summed limit table list tail is (counted 0 limit list first),
      tally-table 0 limit list tail first,
      sum_by-cons (λ pieces. count_of pieces tail) list lists,
    )

pub IsTable-sums_of : (limit : ℕ) (lists : List (List Piece)) → AreTables limit lists → IsTable limit (sums_of lists)
IsTable-sums_of limit lists are = folded limit [] lists tt are

pub count_of-sums_of : (limit : ℕ) (lists : List (List Piece)) (tail : ℕ) → AreTables limit lists → count_of (sums_of lists) tail ≡ count_in lists tail
count_of-sums_of limit lists tail are = omega (arith, count_of-folded limit [] lists tail tt are)

-- ---- a merge that goes on

-- where no tail is greater than one, and no more than that one is added
pub plus_up_to : (ps : List Piece) (tail n most : ℕ) → tail ≤ most → AreUpTo most ps → AreUpTo most (plus ps tail n)
plus_up_to [] tail n most low up = All-cons (λ (q : Piece). q.tail ≤ most) (record { tail = tail; count = n }) [] low (All-nil (λ (q : Piece). q.tail ≤ most))
plus_up_to (p ∷ ps) tail n most low up =
    let P : Piece → Type 0 = λ q. q.tail ≤ most in
    let first = All-head P p ps up in
    let rest = All-tail P p ps up in
    elim (cases_order p.tail tail) [
      | inl same ↦ subst (AreUpTo most) (sym (plus_here p ps tail n same)) (All-cons P (record { tail = tail; count = p.count + n }) ps low rest)
      | inr (inl below) ↦ subst (AreUpTo most) (sym (plus_behind p ps tail n below)) (All-cons P p (plus ps tail n) first (plus_up_to ps tail n most low rest))
      | inr (inr above) ↦ subst (AreUpTo most) (sym (plus_before p ps tail n above)) (All-cons P (record { tail = tail; count = n }) (p ∷ ps) low (All-cons P p ps first rest))
    ]
