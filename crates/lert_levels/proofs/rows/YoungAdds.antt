-- Level 0 as one more event is added.
use Rattle.std.proofs.Common.{ℕ, suc, ◌≡◌, ◌+◌, ◌-◌, ◌*◌, ◌/◌, ◌^◌, ◌<◌, ◌≤◌, cond, eqb, List, [], length, get_or, set, map, refl, ap, ap₂, sym, ◌∙◌, subst, arith, inl, inr, length-set}
use Rattle.std.proofs.Common.{get_or-set_same}
use Rattle.std.proofs.{Common.get_or-set_other, Math.Nat.{mul-le-mul_right, suc-mul}, lemmas.Bool.{eq-eqb, ne_eqb, cases_lt, cases_eq}, lemmas.List.{map-set, get_or-map, length-map}}
use Rattle.lert_base.specs.declared.count_table.CountTable.{Ghosts as TablesOf}
use Rattle.lert_spec.specs.{declared.numbers.Numbers.Numbers, Edges.{span, capacity, tail_bits}, Table.{cost, costs, total, plus}}
use Rattle.lert_spec.proofs.{CostLaws.{cost_one, costs-plus}, Tables.total-plus}
use Rattle.lert_levels.specs.rows.Young.{seen_as, Young, added, with_event, IsNextPosition, bins_of, IsFilled, AreFilled}
use Rattle.lert_levels.proofs.rows.YoungLaws.{bins_of-none, bins_of-begin, bins_of-grow, IsPlace, place_of, added-begin, added-grow, some_bins, bits_of_zero, same_numbers}

-- what is known where a position is added: the fields, what callers see, and the number of the table
pub record Adds {T C : Type 0} (of : TablesOf T C) (s : Numbers) (tables : List T) (from to : ℕ) (young : Young) (m begin wide at : ℕ) : Type 0
  where
    pub filled : AreFilled of s tables from to
    pub seen : seen_as of s tables from to ≡ young
    pub next : IsNextPosition young m
    pub begin_is : begin ≡ cond (eqb from to) (m - 1) from
    pub wide_is : wide ≡ span s 0
    pub positive : 1 ≤ wide
    pub at_is : at ≡ (m - 1 - begin) / wide

-- the same, from the oldest bin's beginning up to the position before the new one
record Stands {T C : Type 0} (of : TablesOf T C) (s : Numbers) (tables : List T) (from to begin m at : ℕ) : Type 0 where
  filled : AreFilled of s tables begin (m - 1)
  positive : 1 ≤ span s 0
  first : suc (m - 1) ≡ m
  last : m ≤ capacity s
  free : m ≤ begin + s.bins * span s 0
  same : bins_of (span s 0) begin (m - 1) (map of.pieces tables) ≡ bins_of (span s 0) from to (map of.pieces tables)
  place : IsPlace (span s 0) begin (m - 1) at

module _ {T C : Type 0} {of : TablesOf T C} {s : Numbers} {tables : List T} {from to : ℕ} {young : Young} {m begin wide at : ℕ} (adds : Adds of s tables from to young m begin wide at) where
  stands : Stands of s tables from to begin m at
  stands =
      let next = subst (λ y. IsNextPosition y m) (sym adds.seen) adds.next in
      let wide_is = adds.wide_is in
      let positive : 1 ≤ span s 0 = omega (arith, adds.positive) in
      let number : at ≡ (m - 1 - begin) / span s 0 = adds.at_is ∙ ap (λ w. (m - 1 - begin) / w) wide_is in
      elim (cases_eq from to) [
        | inl none ↦ (
            let begin_is : begin ≡ m - 1 = adds.begin_is ∙ ap (λ t. cond t (m - 1) from) (eq-eqb from to none) in
            let filled : AreFilled of s tables (m - 1) (m - 1) = record {
              valid = adds.filled.valid;
              len = adds.filled.len;
              aligned = next.begins none;
              ordered = omega arith;
              within = omega arith;
              last = omega (arith, next.last);
              each = λ k d below. let old = adds.filled.each k d below in record {
                added = omega (arith, old.added);
                costly = old.costly;
                heavy = old.heavy;
                unused = λ _. old.unused (omega arith);
                of_zero = old.of_zero;
              };
            } in
            record {
              filled = subst (λ b. AreFilled of s tables b (m - 1)) (sym begin_is) filled;
              positive = positive;
              first = omega (arith, next.first);
              last = next.last;
              free = (let few = mul-le-mul_right (span s 0) (some_bins s adds.filled.valid) in omega (arith, next.first));
              same = bins_of-none (span s 0) begin (m - 1) (map of.pieces tables) (omega arith) ∙ sym (bins_of-none (span s 0) from to (map of.pieces tables) (omega arith));
              place = subst (IsPlace (span s 0) begin (m - 1)) (sym number) (place_of (span s 0) begin (m - 1) positive (omega arith));
            })
        | inr some ↦ (
            let begin_is : begin ≡ from = adds.begin_is ∙ ap (λ t. cond t (m - 1) from) (ne_eqb from to some) in
            let follows = next.follows some in
            let last : m - 1 ≡ to = omega arith in
            let ordered = adds.filled.ordered in
            let free = next.free some in
            record {
              filled = subst (λ b. AreFilled of s tables b (m - 1)) (sym begin_is)
                  (subst (λ n. AreFilled of s tables from n) (sym last) adds.filled);
              positive = positive;
              first = omega (arith, next.first);
              last = next.last;
              free = omega arith;
              same = ap₂ (λ b n. bins_of (span s 0) b n (map of.pieces tables)) begin_is last;
              place = subst (IsPlace (span s 0) begin (m - 1)) (sym number) (place_of (span s 0) begin (m - 1) positive (omega arith));
            })
      ]

  pub add_place : at < length tables
  add_place =
      let len = stands.filled.len in
      let low = stands.place.low in
      let free = stands.free in
      let first = stands.first in
      elim (cases_lt at s.bins) [
        | inl below ↦ omega arith
        | inr above ↦ absurd (let more = mul-le-mul_right (span s 0) above in omega arith)
      ]

  -- full bins are below it, also once its position is counted
  pub add_behind : (count : ℕ) → from + count * span s 0 ≤ to → (count ≤ at) × (begin + count * span s 0 ≤ m)
  add_behind count full =
      let first = stands.first in
      let high = stands.place.high in
      let next = subst (λ y. IsNextPosition y m) (sym adds.seen) adds.next in
      let before : begin + count * span s 0 ≤ m - 1 = elim (cases_eq from to) [
        | inl none ↦ (let begin_is : begin ≡ m - 1 = adds.begin_is ∙ ap (λ t. cond t (m - 1) from) (eq-eqb from to none) in omega arith)
        | inr some ↦ (
            let begin_is : begin ≡ from = adds.begin_is ∙ ap (λ t. cond t (m - 1) from) (ne_eqb from to some) in
            let follows = next.follows some in
            omega arith)
      ] in (
        elim (cases_lt at count) [
          | inl above ↦ absurd (let more = mul-le-mul_right (span s 0) (let over : suc at ≤ count = above in over) in omega arith)
          | inr below ↦ below
        ],
        omega arith,
      )

  pub add_fits : (table : T) → table ≡ get_or tables at table → of.adds table < of.room table
  add_fits table is =
      let here = stands.filled.each at table add_place in
      let high = stands.place.high in
      let low = stands.place.low in
      let step = suc-mul at (span s 0) in
      let added = here.added in
      subst (λ (t : T). of.adds t < of.room t) (sym is) (omega (arith, here.of_zero.events))

  pub add_below : (table : T) → table ≡ get_or tables at table → (tail : ℕ) →
      tail < 2 ^ tail_bits young.settings →
      tail < 2 ^ (of.quotient_bits table + of.width table)
  add_below table is tail below =
      let here = stands.filled.each at table add_place in
      let bits : of.quotient_bits table + of.width table ≡ tail_bits young.settings =
      ap (λ (t : T). of.quotient_bits t + of.width t) is ∙ bits_of_zero s stands.filled.valid here.of_zero ∙ ap (λ (y : Young). tail_bits y.settings) adds.seen in
      subst (λ b. tail < 2 ^ b) (sym bits) below

  pub add_filled : (old new : T) (tail weight : ℕ) → 1 ≤ weight → weight ≤ 255 → old ≡ get_or tables at old → of.pieces new ≡ plus (of.pieces old) tail weight → of.adds new ≡ of.adds old + 1 →
      of.room new ≡ of.room old → of.quotient_bits new ≡ of.quotient_bits old → of.width new ≡ of.width old →
      AreFilled of s (set tables at new) begin m
  add_filled old new tail weight some few is pieces_are adds_is room_is quotient_is remainder_is =
      let first = stands.first in
      let low = stands.place.low in
      let high = stands.place.high in
      let step = suc-mul at (span s 0) in
      record {
        valid = stands.filled.valid;
        len = length-set tables at new ∙ stands.filled.len;
        aligned = stands.filled.aligned;
        ordered = omega (arith, stands.filled.ordered);
        within = stands.free;
        last = stands.last;
        each = λ k d below. let inside : k < length tables = omega (arith, length-set tables at new) in elim (cases_eq k at) [
          | inl here ↦ (
              let at_it : get_or (set tables at new) k d ≡ new = ap (λ n. get_or (set tables at new) n d) here ∙ get_or-set_same tables at new d add_place in
              let before = subst (λ (t : T). IsFilled of s begin (m - 1) at t) (sym is) (stands.filled.each at old add_place) in
              let total_is : total (of.pieces new) ≡ total (of.pieces old) + weight = ap total pieces_are ∙ total-plus (of.pieces old) tail weight in
              let one : cost 2 weight ≡ 1 = cost_one 2 weight some few refl in
              let costs_are : costs 2 (of.pieces new) ≤ costs 2 (of.pieces old) + 1 = omega (arith, ap (costs 2) pieces_are, costs-plus 2 (of.pieces old) tail weight, one) in
              let adds = before.added in
              let after : IsFilled of s begin m at new = record {
                added = omega arith;
                costly = omega (arith, costs_are, before.costly);
                heavy = omega (arith, total_is, some, before.heavy);
                unused = λ over. absurd (omega arith);
                of_zero = same_numbers s before.of_zero room_is quotient_is remainder_is;
              } in
              subst (λ (t : T). IsFilled of s begin m k t) (sym at_it)
              (subst (λ n. IsFilled of s begin m n new) (sym here) after))
          | inr elsewhere ↦ (
              let at_it : get_or (set tables at new) k d ≡ get_or tables k d = get_or-set_other tables at k new d elsewhere in
              let before = stands.filled.each k d inside in
              let adds = before.added in
              let after : IsFilled of s begin m k (get_or tables k d) = record {
                added = elim (cases_lt k at) [
                  | inl younger ↦ (let more = mul-le-mul_right (span s 0) (let next : suc k ≤ at = younger in next) in let one = suc-mul k (span s 0) in omega arith)
                  | inr older ↦ (let more = mul-le-mul_right (span s 0) (let next : suc at ≤ k = omega arith in next) in omega arith)
                ];
                costly = before.costly;
                heavy = before.heavy;
                unused = λ over. before.unused (omega arith);
                of_zero = before.of_zero;
              } in
              subst (λ (t : T). IsFilled of s begin m k t) (sym at_it) after)
        ];
      }

  pub add_bins : (old new : T) (tail weight : ℕ) → old ≡ get_or tables at old → of.pieces new ≡ plus (of.pieces old) tail weight →
      seen_as of s (set tables at new) begin m ≡ with_event young tail weight m
  add_bins old new tail weight is pieces_are =
      let place = stands.place in
      let within = add_place in
      let n = m - 1 in
      let held = map of.pieces tables in
      let inside : at < length held = omega (arith, length-map tables of.pieces) in
      let there : get_or held at [] ≡ of.pieces old = get_or-map of.pieces tables at old [] within ∙ ap of.pieces (sym is) in
      let changed : map of.pieces (set tables at new) ≡ set held at (plus (get_or held at []) tail weight) =
      map-set of.pieces tables at new ∙ ap (set held at) (pieces_are ∙ ap (λ ps. plus ps tail weight) (sym there)) in
      let grows : bins_of (span s 0) begin (suc n) (set held at (plus (get_or held at []) tail weight)) ≡ added s (bins_of (span s 0) begin n held) tail weight (suc n) =
      elim (cases_lt (begin + at * span s 0) n) [
        | inl above ↦ bins_of-grow (span s 0) begin at n tail weight held stands.positive above place.high inside
            ∙ sym (added-grow s (bins_of (span s 0) begin n held) tail weight begin at n stands.filled.aligned above place.high)
        | inr below ↦ (
            let start : n ≡ begin + at * span s 0 = omega (arith, place.low) in
            let before = stands.filled.each at old within in
            let empty : get_or held at [] ≡ [] = there ∙ ap of.pieces is ∙ before.unused (omega arith) in
            ap (λ ps. bins_of (span s 0) begin (suc n) (set held at (plus ps tail weight))) empty
            ∙ bins_of-begin (span s 0) begin at n held (plus [] tail weight) stands.positive start inside
            ∙ sym (added-begin s (bins_of (span s 0) begin n held) tail weight begin at n stands.filled.aligned stands.positive start))
      ] in
      let bins_are : bins_of (span s 0) begin m (map of.pieces (set tables at new)) ≡ added s (bins_of (span s 0) from to held) tail weight m =
      ap (bins_of (span s 0) begin m) changed
      ∙ ap (λ k. bins_of (span s 0) begin k (set held at (plus (get_or held at []) tail weight))) (sym stands.first)
      ∙ grows
      ∙ ap₂ (λ bins k. added s bins tail weight k) stands.same stands.first in
      subst (λ y. seen_as of s (set tables at new) begin m ≡ with_event y tail weight m) adds.seen
      (λ i. record { settings = s; from = adds.begin_is i; to = m; bins = bins_are i })
