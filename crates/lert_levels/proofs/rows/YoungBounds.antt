-- What the bound of level 0 covers, as an event is added and the oldest bin is dropped.
use Rattle.std.proofs.Common.{Bool, true, false, ℕ, zero, suc, ◌≡◌, ◌≢◌, ◌+◌, ◌-◌, ◌*◌, ◌/◌, ◌%◌, ◌<◌, ◌≤◌, cond, eqb, List, [], ◌∷◌, ◌++◌, length, get_or, set, refl, ap, sym, ◌∙◌, subst, arith, inl, inr, take, drop}
use Rattle.std.proofs.{Common.sum_by, Math.Nat.{div-add-mod, mul-le-mul_right, suc-mul, mul_comm}, lemmas.Bool.{cases_lt, cases_eq, cases_order}, lemmas.Bool.Decides.nat_tests}
use Rattle.std.proofs.lemmas.List.Sums.{sum_by-cons, sum_by_push, sum_by-set, sum_by-take-drop, sum_by-take-le}
use Rattle.std.specs.Int.{div_ceil}
use Rattle.lert_levels.specs.{declared.bound.pair.Pair.Pair, bound.Covers.CoversCounts, rows.Young.{seen_as, Young, AreFilled, AreBounded, times_in, units_in}}
use Rattle.lert_levels.proofs.rows.UnitLaws.{fewer_units, units_more, units_none, units_sum}
use Rattle.lert_base.specs.declared.count_table.CountTable.{Ghosts as TablesOf}
use Rattle.lert_spec.specs.{declared.numbers.Numbers.Numbers, declared.piece.Piece.Piece, Bins.Bin, Edges.span, Table.{count_of, plus}}
use Rattle.lert_spec.proofs.Tables.{plus_here, plus_before, plus_behind}
use Rattle.lert_levels.proofs.{rows.YoungLaws.{AreEmpty, some_bins}, rows.YoungAdds.{Adds, add_place, add_behind}, rows.YoungCounts.counts_are, rows.YoungDrops.Drops}

-- fewer events are covered too
covers_fewer : (pairs : List Pair) (before present before' present' : ℕ → ℕ) → CoversCounts pairs before present →
    ((tail : ℕ) → before' tail ≤ before tail) → ((tail : ℕ) → present' tail ≤ present tail) → CoversCounts pairs before' present'
covers_fewer pairs before present before' present' covers less fewer = record {
  of_before = λ tail. omega (arith, covers.of_before tail, less tail);
  of_present = λ tail. omega (arith, covers.of_present tail, fewer tail);
}

-- and so, in units of a size, are lighter ones
covers_lighter : (unit : ℕ) → 1 ≤ unit → (pairs : List Pair) (before present before' present' : ℕ → ℕ) →
    CoversCounts pairs (λ tail. div_ceil (before tail) unit) (λ tail. div_ceil (present tail) unit) →
    ((tail : ℕ) → before' tail ≤ before tail) → ((tail : ℕ) → present' tail ≤ present tail) →
    CoversCounts pairs (λ tail. div_ceil (before' tail) unit) (λ tail. div_ceil (present' tail) unit)
covers_lighter unit some pairs before present before' present' covers less fewer =
    covers_fewer pairs (λ tail. div_ceil (before tail) unit) (λ tail. div_ceil (present tail) unit) (λ tail. div_ceil (before' tail) unit) (λ tail. div_ceil (present' tail) unit) covers
    (λ tail. units_more unit some (before' tail) (before tail) (less tail))
    (λ tail. units_more unit some (present' tail) (present tail) (fewer tail))

-- no weight is no unit
no_units : (unit : ℕ) → 1 ≤ unit → (weight : ℕ) → weight ≡ 0 → div_ceil weight unit ≤ 0
no_units unit some weight none = omega (arith, units_more unit some weight 0 (omega (arith, none)), units_none unit some)

-- a weight more of one tail is at most its units more, and of another none
some_units_more : (unit : ℕ) → 1 ≤ unit → (weight number now before : ℕ) (same : Bool) → number ≡ div_ceil weight unit → now ≤ before + cond {A = ℕ} same weight 0 →
    div_ceil now unit ≤ div_ceil before unit + cond {A = ℕ} same number 0
some_units_more unit some weight number now before true is more = omega (arith, is, units_more unit some now (before + weight) more, units_sum unit some before weight)
some_units_more unit some weight number now before false is more = omega (arith, units_more unit some now before (omega (arith, more)))

-- so much more of a tail is at most so much more of it, and no more of another, in any order of the pieces
count_of-plus_le : (ps : List Piece) (tail weight other : ℕ) → count_of (plus ps tail weight) other ≤ count_of ps other + cond {A = ℕ} (eqb other tail) weight 0
count_of-plus_le [] tail weight other = grind (arith, nat_tests)
count_of-plus_le (p ∷ ps) tail weight other = elim (cases_order p.tail tail) [
  | inl same ↦ rw (plus_here p ps tail weight same) (grind (arith, nat_tests))
  | inr (inl below) ↦ rw (plus_behind p ps tail weight below) (let h = count_of-plus_le ps tail weight other in grind (arith, nat_tests))
  | inr (inr above) ↦ rw (plus_before p ps tail weight above) (grind (arith, nat_tests))
]

take-set_behind : {T : Type 0} (count at : ℕ) (tables : List T) (new : T) → count ≤ at → take count (set tables at new) ≡ take count tables
take-set_behind zero at tables new behind = refl
take-set_behind (suc count) at [] new behind = refl
take-set_behind (suc count) zero (table ∷ tables) new behind = absurd (omega arith)
take-set_behind (suc count) (suc at) (table ∷ tables) new behind = ap (λ ts. table ∷ ts) (take-set_behind count at tables new (omega arith))

module _ {T : Type 0} (pieces : T → List Piece) where
  -- a table changed among the others
  times_in-set : (count at : ℕ) (tables : List T) (old new : T) (tail more : ℕ) → count ≤ at → at < length tables → old ≡ get_or tables at old →
      count_of (pieces new) tail ≤ count_of (pieces old) tail + more →
      times_in pieces (drop count (set tables at new)) tail ≤ times_in pieces (drop count tables) tail + more
  times_in-set count at tables old new tail more behind within is grows =
      let f : T → ℕ = λ table. count_of (pieces table) tail in
      let front : sum_by f (take count (set tables at new)) ≡ sum_by f (take count tables) = ap (sum_by f) (take-set_behind count at tables new behind) in
      let same : f old ≡ f (get_or tables at old) = ap f is in
      omega (arith, front, same, grows, sum_by-set f tables at new old within, sum_by-take-drop f (set tables at new) count, sum_by-take-drop f tables count)

  -- nothing stands in tables that are empty from a number on
  none_behind : (count : ℕ) (tables : List T) (tail : ℕ) → ((k : ℕ) (d : T) → count ≤ k → k < length tables → pieces (get_or tables k d) ≡ []) →
      times_in pieces (drop count tables) tail ≡ 0
  none_behind zero [] tail empty = refl
  none_behind zero (table ∷ tables) tail empty =
      let f : T → ℕ = λ t. count_of (pieces t) tail in
      let here : f table ≡ 0 = ap (λ ps. count_of ps tail) (empty 0 table (omega arith) (omega arith)) in
      omega (arith, here, sum_by-cons f table tables, none_behind zero tables tail (λ k d low below. empty (suc k) d (omega arith) (omega arith)))
  none_behind (suc count) [] tail empty = refl
  none_behind (suc count) (table ∷ tables) tail empty = none_behind count tables tail (λ k d low below. empty (suc k) d (omega arith) (omega arith))

  -- an empty table behind others adds nothing to any part of them
  module _ (new : T) (empty : pieces new ≡ []) (tail : ℕ) where
    absent : count_of (pieces new) tail ≡ 0
    absent = ap (λ ps. count_of ps tail) empty

    take_more : (count : ℕ) (tables : List T) → times_in pieces (take count (tables ++ new ∷ [])) tail ≤ times_in pieces (take count tables) tail
    take_more zero tables = omega arith
    take_more (suc count) [] = omega (arith, absent, sum_by-take-le (λ (t : T). count_of (pieces t) tail) (new ∷ []) (suc count))
    take_more (suc count) (table ∷ tables) =
        omega (
          arith,
          take_more count tables,
          sum_by-cons (λ (t : T). count_of (pieces t) tail) table (take count tables),
          sum_by-cons (λ (t : T). count_of (pieces t) tail) table (take count (tables ++ new ∷ [])),
        )

    drop_more : (count : ℕ) (tables : List T) → times_in pieces (drop count (tables ++ new ∷ [])) tail ≤ times_in pieces (drop count tables) tail
    drop_more zero tables = omega (arith, absent, sum_by_push (λ (t : T). count_of (pieces t) tail) tables new)
    drop_more (suc count) [] = omega (arith, absent, sum_by-take-drop (λ (t : T). count_of (pieces t) tail) (new ∷ []) (suc count))
    drop_more (suc count) (table ∷ tables) = drop_more count tables

    -- all that stay are behind the oldest one
    all_behind : (count : ℕ) (first : T) (rest : List T) → count ≤ 1 → times_in pieces (rest ++ new ∷ []) tail ≤ times_in pieces (drop count (first ∷ rest)) tail
    all_behind zero first rest few =
        omega (arith, absent, sum_by_push (λ (t : T). count_of (pieces t) tail) rest new, sum_by-cons (λ (t : T). count_of (pieces t) tail) first rest)
    all_behind (suc zero) first rest few = drop_more zero rest
    all_behind (suc (suc count)) first rest few = absurd (omega arith)

-- ---- no event yet

pub empty_bounded : {T C : Type 0} (of : TablesOf T C) (s : Numbers) (tables : List T) (count : ℕ) (pairs : List Pair) (unit : ℕ) → 1 ≤ unit →
    AreEmpty of s tables count → CoversCounts pairs (λ _. 0) (λ _. 0) → AreBounded of.pieces s tables 0 0 pairs unit 0
empty_bounded of s tables count pairs unit some empty covers = record {
  full = omega arith;
  some = some;
  covers = covers_fewer pairs (λ _. 0) (λ _. 0) (units_in unit of.pieces (take 0 tables)) (units_in unit of.pieces (drop 0 tables)) covers
      (λ tail. no_units unit some (times_in of.pieces (take 0 tables) tail) refl)
      (λ tail. no_units unit some (times_in of.pieces (drop 0 tables) tail)
      (none_behind of.pieces 0 tables tail (λ k d low below. (empty.each k d below).unused (omega arith))));
}

-- ---- one more event

pub added_bounded : {T C : Type 0} {of : TablesOf T C} {s : Numbers} {tables : List T} {from to : ℕ} {young : Young} {m begin wide at : ℕ} →
    Adds of s tables from to young m begin wide at → (old new : T) (tail weight : ℕ) → old ≡ get_or tables at old → of.pieces new ≡ plus (of.pieces old) tail weight →
    (pairs pairs' : List Pair) (unit earlier number : ℕ) → AreBounded of.pieces s tables from to pairs unit earlier → number ≡ div_ceil weight unit →
    ((before present : ℕ → ℕ) → CoversCounts pairs before present → CoversCounts pairs' before (λ other. present other + cond (eqb other tail) number 0)) →
    AreBounded of.pieces s (set tables at new) begin m pairs' unit earlier
added_bounded {T} {C} {of} {s} {tables} {from} {to} {young} {m} {begin} {wide} {at} adds old new tail weight is pieces_are pairs pairs' unit earlier number bounded number_is more =
    let behind = add_behind adds earlier bounded.full in
    let some = bounded.some in
    let first : ℕ → ℕ = units_in unit of.pieces (take earlier tables) in
    let others : ℕ → ℕ = units_in unit of.pieces (drop earlier tables) in
    record {
      full = behind.1;
      some = some;
      covers = covers_fewer pairs' first (λ other. others other + cond {A = ℕ} (eqb other tail) number 0)
          (units_in unit of.pieces (take earlier (set tables at new))) (units_in unit of.pieces (drop earlier (set tables at new)))
          (more first others bounded.covers)
          (λ other. units_more unit some (times_in of.pieces (take earlier (set tables at new)) other) (times_in of.pieces (take earlier tables) other)
          (omega (arith, ap (λ ts. times_in of.pieces ts other) (take-set_behind earlier at tables new behind.0))))
          (λ other.
          let one : count_of (of.pieces new) other ≤ count_of (of.pieces old) other + cond {A = ℕ} (eqb other tail) weight 0 =
          subst (λ ps. count_of ps other ≤ count_of (of.pieces old) other + cond {A = ℕ} (eqb other tail) weight 0) (sym pieces_are) (count_of-plus_le (of.pieces old) tail weight other) in
          some_units_more unit some weight number (times_in of.pieces (drop earlier (set tables at new)) other) (times_in of.pieces (drop earlier tables) other) (eqb other tail) number_is
          (times_in-set of.pieces earlier at tables old new other (cond {A = ℕ} (eqb other tail) weight 0) behind.0 (add_place adds) is one));
    }

-- ---- the oldest bin dropped

module _ {T : Type 0} (pieces : T → List Piece) (s : Numbers) (first new : T) (rest : List T) (from to wide : ℕ) (pairs : List Pair) (unit earlier : ℕ) (wide_is : wide ≡ span s 0)
    (whole : from + wide ≤ to) (empty : pieces new ≡ []) (bounded : AreBounded pieces s (first ∷ rest) from to pairs unit earlier) where
  abbrev left : List T
  left = rest ++ new ∷ []

  -- a bin of the generation before is left
  some_left : (count : ℕ) → earlier ≡ suc count → AreBounded pieces s left (from + wide) to pairs unit count
  some_left count is =
      let before = subst (AreBounded pieces s (first ∷ rest) from to pairs unit) is bounded in
      let step = suc-mul count (span s 0) in
      let full = before.full in
      record {
        full = omega arith;
        some = before.some;
        covers = covers_lighter unit before.some pairs (times_in pieces (take (suc count) (first ∷ rest))) (times_in pieces (drop (suc count) (first ∷ rest)))
            (times_in pieces (take count left)) (times_in pieces (drop count left)) before.covers
            (λ tail. omega (arith, take_more pieces new empty tail count rest, sum_by-cons (λ (t : T). count_of (pieces t) tail) first (take count rest)))
            (λ tail. drop_more pieces new empty tail count rest);
      }

  -- none is left, and the bound doesn't turn
  none_left : earlier ≤ 1 → AreBounded pieces s left (from + wide) to pairs unit 0
  none_left few = record {
    full = omega arith;
    some = bounded.some;
    covers = covers_lighter unit bounded.some pairs (times_in pieces (take earlier (first ∷ rest))) (times_in pieces (drop earlier (first ∷ rest)))
        (times_in pieces (take 0 left)) (times_in pieces (drop 0 left)) bounded.covers
        (λ tail. omega arith)
        (λ tail. all_behind pieces new empty tail earlier first rest few);
  }

  -- none is left, and it turns
  turned_left : (pairs' : List Pair) (count : ℕ) → earlier ≤ 1 → 1 ≤ wide → (to - (from + wide)) % wide ≡ 0 → count ≡ (to - (from + wide)) / wide →
      ((before present : ℕ → ℕ) → CoversCounts pairs before present → CoversCounts pairs' present (λ _. 0)) →
      ((k : ℕ) (d : T) → k < length left → to ≤ from + wide + k * span s 0 → pieces (get_or left k d) ≡ []) →
      AreBounded pieces s left (from + wide) to pairs' unit count
  turned_left pairs' count few positive full count_is turned unused =
      let stay = to - (from + wide) in
      let parts = div-add-mod stay wide in
      let turned_round : wide * (stay / wide) ≡ count * span s 0 =
      mul_comm wide (stay / wide) ∙ ap (λ n. n * wide) (sym count_is) ∙ ap (λ w. count * w) wide_is in
      let all : stay ≡ count * span s 0 = omega arith in
      record {
        full = omega arith;
        some = bounded.some;
        covers = covers_fewer pairs' (units_in unit pieces (drop earlier (first ∷ rest))) (λ _. 0) (units_in unit pieces (take count left)) (units_in unit pieces (drop count left))
            (turned (units_in unit pieces (take earlier (first ∷ rest))) (units_in unit pieces (drop earlier (first ∷ rest))) bounded.covers)
            (λ tail. units_more unit bounded.some (times_in pieces (take count left) tail) (times_in pieces (drop earlier (first ∷ rest)) tail)
            (omega (arith, sum_by-take-le (λ (t : T). count_of (pieces t) tail) left count, all_behind pieces new empty tail earlier first rest few)))
            (λ tail. no_units unit bounded.some (times_in pieces (drop count left) tail)
            (none_behind pieces count left tail (λ k d low below. (let more = mul-le-mul_right (span s 0) low in unused k d below (omega arith)))));
      }

  -- whether it turns or not
  left_bounded : (pairs' : List Pair) (count : ℕ) → 1 ≤ wide →
      (1 < earlier → (pairs' ≡ pairs) × (count ≡ earlier - 1)) →
      (earlier ≤ 1 → (to - (from + wide)) % wide ≢ 0 → (pairs' ≡ pairs) × (count ≡ 0)) →
      (earlier ≤ 1 → (to - (from + wide)) % wide ≡ 0 → (count ≡ (to - (from + wide)) / wide)
      × ((before present : ℕ → ℕ) → CoversCounts pairs before present → CoversCounts pairs' present (λ _. 0))) →
      ((k : ℕ) (d : T) → k < length left → to ≤ from + wide + k * span s 0 → pieces (get_or left k d) ≡ []) →
      AreBounded pieces s left (from + wide) to pairs' unit count
  left_bounded pairs' count positive some part none unused = elim (cases_lt 1 earlier) [
    | inl many ↦ (
        let same = some many in
        subst (λ ps. AreBounded pieces s left (from + wide) to ps unit count) (sym same.0) (some_left count (omega (arith, same.1))))
    | inr few ↦ elim (cases_eq ((to - (from + wide)) % wide) 0) [
      | inl full ↦ (let turned = none few full in turned_left pairs' count few positive full turned.0 turned.1 unused)
      | inr rest ↦ (
          let same = part few rest in
          subst (λ ps. AreBounded pieces s left (from + wide) to ps unit count) (sym same.0)
          (subst (λ n. AreBounded pieces s left (from + wide) to pairs unit n) (sym same.1) (none_left few)))
    ]
  ]

drop_bounded : {T C : Type 0} (of : TablesOf T C) (tables : List T) {s : Numbers} {from to wide : ℕ}
    (new : T) (pairs pairs' : List Pair) (unit earlier count : ℕ) →
    1 ≤ length tables → wide ≡ span s 0 → 1 ≤ wide → from + wide ≤ to → of.pieces new ≡ [] → AreBounded of.pieces s tables from to pairs unit earlier →
    AreFilled of s (drop 1 (set tables 0 new) ++ take 1 (set tables 0 new)) (from + wide) to →
    (1 < earlier → (pairs' ≡ pairs) × (count ≡ earlier - 1)) →
    (earlier ≤ 1 → (to - (from + wide)) % wide ≢ 0 → (pairs' ≡ pairs) × (count ≡ 0)) →
    (earlier ≤ 1 → (to - (from + wide)) % wide ≡ 0 → (count ≡ (to - (from + wide)) / wide)
    × ((before present : ℕ → ℕ) → CoversCounts pairs before present → CoversCounts pairs' present (λ _. 0))) →
    AreBounded of.pieces s (drop 1 (set tables 0 new) ++ take 1 (set tables 0 new)) (from + wide) to pairs' unit count
drop_bounded of [] new pairs pairs' unit earlier count some wide_is positive whole empty bounded filled stays part none = absurd (omega arith)
drop_bounded of (first ∷ rest) {s} {from} {to} {wide} new pairs pairs' unit earlier count some wide_is positive whole empty bounded filled stays part none =
    left_bounded of.pieces s first new rest from to wide pairs unit earlier wide_is whole empty bounded pairs' count positive stays part none
    (λ k d below over. (filled.each k d below).unused over)

pub dropped_bounded : {T C : Type 0} {of : TablesOf T C} {s : Numbers} {tables : List T} {from to : ℕ} {young : Young} {wide : ℕ} {new : T}
    {after : List T} →
    Drops of s tables from to young wide new after → AreFilled of s after (from + wide) to → of.pieces new ≡ [] →
    (pairs pairs' : List Pair) (unit earlier count : ℕ) → AreBounded of.pieces s tables from to pairs unit earlier →
    (1 < earlier → (pairs' ≡ pairs) × (count ≡ earlier - 1)) →
    (earlier ≤ 1 → (to - (from + wide)) % wide ≢ 0 → (pairs' ≡ pairs) × (count ≡ 0)) →
    (earlier ≤ 1 → (to - (from + wide)) % wide ≡ 0 → (count ≡ (to - (from + wide)) / wide)
    × ((before present : ℕ → ℕ) → CoversCounts pairs before present → CoversCounts pairs' present (λ _. 0))) →
    AreBounded of.pieces s after (from + wide) to pairs' unit count
dropped_bounded {T} {C} {of} {s} {tables} {from} {to} {young} {wide} {new} {after} drops filled empty pairs pairs' unit earlier count bounded stays part none =
    let fits = subst (λ (y : Young). y.from + span y.settings 0 ≤ y.to) (sym drops.seen) drops.whole in
    let wide_is = drops.wide_is in
    let some : 1 ≤ length tables = omega (arith, drops.filled.len, some_bins s drops.filled.valid) in
    subst (λ (ts : List T). AreBounded of.pieces s ts (from + wide) to pairs' unit count) (sym drops.after_is)
    (drop_bounded of tables new pairs pairs' unit earlier count some wide_is drops.positive (omega arith) empty bounded
    (subst (λ (ts : List T). AreFilled of s ts (from + wide) to) drops.after_is filled) stays part none)

-- ---- a tail that the bound refuses

pub fewer_in_bins : {T C : Type 0} (of : TablesOf T C) {s : Numbers} {tables : List T} {from to : ℕ} {young : Young} →
    AreFilled of s tables from to → seen_as of s tables from to ≡ young → (unit : ℕ) → 1 ≤ unit →
    (earlier tail count number : ℕ) → number ≡ div_ceil count unit → units_in unit of.pieces (take earlier tables) tail + units_in unit of.pieces (drop earlier tables) tail < number →
    sum_by (λ bin. count_of bin.pieces tail) young.bins < count
fewer_in_bins {T} {C} of {s} {tables} {from} {to} {young} filled seen unit some earlier tail count number number_is units =
    let fewer =
    fewer_units unit some (times_in of.pieces (take earlier tables) tail) (times_in of.pieces (drop earlier tables) tail) count (omega (arith, units, number_is)) in
    let all : sum_by (λ (bin : Bin). count_of bin.pieces tail) young.bins ≡ times_in of.pieces tables tail =
    ap (λ (y : Young). sum_by (λ (bin : Bin). count_of bin.pieces tail) y.bins) (sym seen)
    ∙ counts_are of.pieces tail (span s 0) from to tables (λ k d below behind. (filled.each k d below).unused behind) in
    omega (arith, all, sum_by-take-drop (λ (t : T). count_of (of.pieces t) tail) tables earlier, fewer)
