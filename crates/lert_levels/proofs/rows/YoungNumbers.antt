-- The numbers that level 0 keeps of its bins, as an event is added and the oldest bin is dropped.
use Rattle.std.proofs.{Common.{ℕ, suc, ◌≡◌, ◌≢◌, ◌+◌, ◌-◌, ◌*◌, ◌/◌, ◌^◌, ◌<◌, ◌≤◌, cond, eqb, List, ap, sym, ◌∙◌, subst, arith, inl, inr}, Math.Nat.{mul-le-mul_right, suc-mul}}
use Rattle.std.proofs.{lemmas.Bool.{eq-eqb, ne_eqb, cases_lt, cases_eq}, lemmas.Nat.div-mul-add}
use Rattle.lert_base.specs.declared.count_table.CountTable.{Ghosts as TablesOf}
use Rattle.lert_spec.specs.{declared.numbers.Numbers.Numbers, Edges.span, Limits.IsValid}
use Rattle.lert_spec.proofs.EdgeLaws.{span_pos}
use Rattle.lert_levels.specs.rows.Young.{seen_as, Young, IsNextPosition, AreFilled, AreNumbered}
use Rattle.lert_levels.proofs.rows.YoungCounts.{width_within}

-- where a position is in the newest bin
pub record IsNewest (wide begin m bins end : ℕ) : Type 0 where
  pub end_is : end ≡ begin + bins * wide
  pub covers : m ≤ end
  pub few : end < m + wide
  pub some : 1 ≤ bins
  pub at_is : bins - 1 ≡ (m - 1 - begin) / wide

module _ (wide from to bins end m begin bins' end' : ℕ) (positive : 1 ≤ wide) (ordered : from ≤ to) (first : 1 ≤ m)
    (end_is : end ≡ from + bins * wide) (covers : to ≤ end) (few : end < to + wide)
    (follows : from ≢ to → m ≡ suc to) (begin_is : begin ≡ cond (eqb from to) (m - 1) from)
    (begins : to ≡ end → (bins' ≡ bins + 1) × (end' ≡ m - 1 + wide)) (grows : to ≢ end → (bins' ≡ bins) × (end' ≡ end)) where
  quotient : (k rest : ℕ) → rest < wide → m - 1 - begin ≡ k * wide + rest → bins' - 1 ≡ k → bins' - 1 ≡ (m - 1 - begin) / wide
  quotient k rest small whole is = is ∙ sym (div-mul-add k wide rest small) ∙ ap (λ n. n / wide) (sym whole)

  first_bin : from ≡ to → IsNewest wide begin m bins' end'
  first_bin none =
      let begin_at : begin ≡ m - 1 = begin_is ∙ ap (λ t. cond t (m - 1) from) (eq-eqb from to none) in
      let empty : bins ≡ 0 = elim (cases_lt 0 bins) [
        | inl some ↦ absurd (let more = mul-le-mul_right wide some in omega arith)
        | inr zero ↦ omega arith
      ] in
      let nothing : bins * wide ≡ 0 * wide = ap (λ n. n * wide) empty in
      let new = begins (omega arith) in
      let one : bins' ≡ 1 = omega (arith, new.0) in
      let product : bins' * wide ≡ 1 * wide = ap (λ n. n * wide) one in
      record {
        end_is = omega (arith, new.1);
        covers = omega (arith, new.1);
        few = omega (arith, new.1);
        some = omega arith;
        at_is = quotient 0 0 positive (omega arith) (omega arith);
      }

  module _ (some : from ≢ to) where
    begin_at : begin ≡ from
    begin_at = begin_is ∙ ap (λ t. cond t (m - 1) from) (ne_eqb from to some)

    next_bin : to ≡ end → IsNewest wide begin m bins' end'
    next_bin whole =
        let new = begins whole in
        let next = follows some in
        let more : bins' ≡ suc bins = omega (arith, new.0) in
        let product : bins' * wide ≡ suc bins * wide = ap (λ n. n * wide) more in
        let step = suc-mul bins wide in
        let at = begin_at in
        record {
          end_is = omega (arith, new.1);
          covers = omega (arith, new.1);
          few = omega (arith, new.1);
          some = omega arith;
          at_is = quotient bins 0 positive (omega arith) (omega arith);
        }

    same_bin : to ≢ end → IsNewest wide begin m bins' end'
    same_bin part =
        let new = grows part in
        let next = follows some in
        let at = begin_at in
        let there : 1 ≤ bins = elim (cases_lt 0 bins) [
          | inl there ↦ there
          | inr none ↦ (
              let empty : bins ≡ 0 = omega arith in
              let nothing : bins * wide ≡ 0 * wide = ap (λ n. n * wide) empty in
              absurd (part (omega arith)))
        ] in
        let product : bins' * wide ≡ bins * wide = ap (λ n. n * wide) (new.0) in
        let back : bins ≡ suc (bins - 1) = omega arith in
        let last : bins * wide ≡ suc (bins - 1) * wide = ap (λ n. n * wide) back in
        let step = suc-mul (bins - 1) wide in
        let below : to ≢ end = part in
        record {
          end_is = omega (arith, new.1);
          covers = omega (arith, new.1);
          few = omega (arith, new.1);
          some = omega (arith, new.0);
          at_is = quotient (bins - 1) (to - from - (bins - 1) * wide) (omega arith) (omega arith) (omega (arith, new.0));
        }

  newest : IsNewest wide begin m bins' end'
  newest = elim (cases_eq from to) [
    | inl none ↦ first_bin none
    | inr some ↦ elim (cases_eq to end) [
      | inl whole ↦ next_bin some whole
      | inr part ↦ same_bin some part
    ]
  ]

-- the next position is in the newest bin
pub record IsNumbered (s : Numbers) (begin m wide bins end : ℕ) : Type 0 where
  pub numbers : AreNumbered s begin m bins end
  pub some : 1 ≤ bins
  pub at_is : bins - 1 ≡ (m - 1 - begin) / wide

pub numbered : {T C : Type 0} (of : TablesOf T C) {s : Numbers} {tables : List T} {from to : ℕ} {young : Young}
    {m begin wide bins end bins' end' : ℕ} →
    AreFilled of s tables from to → seen_as of s tables from to ≡ young →
    IsNextPosition young m → AreNumbered s from to bins end → begin ≡ cond (eqb from to) (m - 1) from → wide ≡ span s 0 → 1 ≤ wide →
    (to ≡ end → (bins' ≡ bins + 1) × (end' ≡ m - 1 + wide)) → (to ≢ end → (bins' ≡ bins) × (end' ≡ end)) → IsNumbered s begin m wide bins' end'
numbered of {s} {tables} {from} {to} {young} {m} {begin} {wide} {bins} {end} {bins'} {end'} filled seen next old begin_is wide_is positive begins grows =
    let here = subst (λ y. IsNextPosition y m) (sym seen) next in
    let same : bins * span s 0 ≡ bins * wide = ap (λ w. bins * w) (sym wide_is) in
    let new = newest wide from to bins end m begin bins' end' positive filled.ordered here.first (omega (arith, old.end_is)) old.covers (omega (arith, old.few))
    here.follows begin_is begins grows in
    let turned : bins' * wide ≡ bins' * span s 0 = ap (λ w. bins' * w) wide_is in
    record {
      numbers = record { end_is = omega (arith, new.end_is); covers = new.covers; few = omega (arith, new.few) };
      some = new.some;
      at_is = new.at_is;
    }

-- there are no more bins than a level has
pub few_bins : {T C : Type 0} {of : TablesOf T C} {s : Numbers} {tables : List T} {from to bins end : ℕ} →
    AreFilled of s tables from to → AreNumbered s from to bins end → bins ≤ s.bins
few_bins {T} {C} {of} {s} {tables} {from} {to} {bins} {end} filled numbers = elim (cases_lt s.bins bins) [
  | inl more ↦ absurd (
      let products = mul-le-mul_right (span s 0) (let next : suc s.bins ≤ bins = more in next) in
      let step = suc-mul s.bins (span s 0) in
      omega (arith, numbers.end_is, numbers.few, filled.within, filled.ordered))
  | inr few ↦ few
]

-- and numbers of them are far from the greatest
pub small_bins : {T C : Type 0} {of : TablesOf T C} {s : Numbers} {tables : List T} {from to bins end : ℕ} →
    AreFilled of s tables from to → AreNumbered s from to bins end → bins < 2 ^ 63
small_bins {T} {C} {of} {s} {tables} {from} {to} {bins} {end} filled numbers =
    omega (arith, few_bins filled numbers, filled.valid.limits.bins_to)

pub small_end : {T C : Type 0} (of : TablesOf T C) {s : Numbers} {tables : List T} {from to : ℕ} {young : Young} {m wide : ℕ} →
    AreFilled of s tables from to → seen_as of s tables from to ≡ young →
    IsNextPosition young m → wide ≡ span s 0 → m + wide < 2 ^ 63
small_end of {s} {tables} {from} {to} {young} {m} {wide} filled seen next wide_is =
    let here = subst (λ y. IsNextPosition y m) (sym seen) next in
    omega (arith, here.last, filled.valid.positions_fit, width_within s filled.valid)

-- none yet
pub none_numbered : (s : Numbers) → IsValid s → AreNumbered s 0 0 0 0
none_numbered s valid =
    let positive = span_pos s 0 (omega (arith, valid.limits.base_from)) (omega (arith, valid.limits.ratio_from)) in
    record { end_is = omega arith; covers = omega arith; few = omega arith }

-- the oldest one dropped
module _ (s : Numbers) {from to bins end wide : ℕ} (numbers : AreNumbered s from to bins end) (wide_is : wide ≡ span s 0) (positive : 1 ≤ wide) (whole : from + wide ≤ to) where
  pub some_numbered : 1 ≤ bins
  some_numbered = elim (cases_lt 0 bins) [
    | inl some ↦ some
    | inr none ↦ (
        let empty : bins ≡ 0 = omega arith in
        let nothing : bins * span s 0 ≡ 0 * span s 0 = ap (λ n. n * span s 0) empty in
        absurd (omega (arith, numbers.end_is, numbers.covers)))
  ]

  pub dropped_numbered : AreNumbered s (from + wide) to (bins - 1) end
  dropped_numbered =
      let some = some_numbered in
      let back : bins ≡ suc (bins - 1) = omega arith in
      let product : bins * span s 0 ≡ suc (bins - 1) * span s 0 = ap (λ n. n * span s 0) back in
      let step = suc-mul (bins - 1) (span s 0) in
      record { end_is = omega (arith, numbers.end_is); covers = numbers.covers; few = numbers.few }
