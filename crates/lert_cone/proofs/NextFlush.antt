-- The next flush position, as a number that keys move on.
use Rattle.std.proofs.{Common.{ℕ, suc, ◌≡◌, ◌≢◌, ◌+◌, ◌-◌, ◌*◌, ◌/◌, ◌≤◌, eqb, ap, sym, ◌∙◌, arith, inl, inr, subst}, Math.Nat.{mul-div_right, mul-div-le, mul-suc, suc-mul}}
use Rattle.std.proofs.lemmas.Bool.{cases_eq, eq-eqb, ne_eqb, false≢true}
use Rattle.std.specs.Prelude.{IsTrue, IsFalse}
use Rattle.lert_spec.specs.{declared.numbers.Numbers.Numbers, Edges.{span, offset, edge, depth}, Limits.IsValid}
use Rattle.lert_spec.proofs.EdgeLaws.{steps, moves_by_one}
use Rattle.lert_cone.proofs.TallyLaws.{wide, next_free, flush_moves, edge_still}

module _ (s : Numbers) (valid : IsValid s) where
  base : 1 ≤ s.base
  base = omega (arith, valid.limits.base_from)

  ratio : 1 ≤ s.ratio
  ratio = omega (arith, valid.limits.ratio_from)

  bins_are : s.bins * span s 0 ≡ (s.bins - 1) * span s 0 + span s 0
  bins_are =
      let some : s.bins ≡ suc (s.bins - 1) = omega (arith, valid.limits.bins_from) in
      ap (λ b. b * span s 0) some ∙ suc-mul (s.bins - 1) (span s 0)

  -- where all bins behind an edge are whole it moves by one of them
  pub whole_moves : (m : ℕ) → m ≡ edge s 0 (m - 1) + s.bins * span s 0 → edge s 0 m ≡ edge s 0 (m - 1) + span s 0
  whole_moves m whole =
      let k = steps s 0 (m - 1) in
      let all = bins_are in
      let next = mul-suc (span s 0) k in
      let behind : m - offset s 0 ≡ span s 0 * suc k = omega arith in
      ap (λ n. span s 0 * (n / span s 0)) behind ∙ ap (λ n. span s 0 * n) (mul-div_right (suc k) {m = span s 0} (wide s valid)) ∙ next

  -- and nowhere else
  pub part_stays : (m : ℕ) → m ≢ edge s 0 (m - 1) + s.bins * span s 0 → edge s 0 m ≡ edge s 0 (m - 1)
  part_stays m part = elim (cases_eq (edge s 0 m) (edge s 0 (m - 1))) [
    | inl same ↦ same
    | inr moves ↦ (
        let k = steps s 0 (m - 1) in
        let one_more : steps s 0 m ≡ suc k = moves_by_one s base ratio 0 m moves in
        let least = subst (λ c. span s 0 * c ≤ m - offset s 0) one_more (mul-div-le (m - offset s 0) (span s 0)) in
        let all = bins_are in
        let next = mul-suc (span s 0) k in
        let most = next_free s valid (m - 1) in
        let far = wide s valid in
        absurd (part (omega arith)))
  ]

  module _ (n flush : ℕ) (flush_is : flush ≡ edge s 0 (n - 1) + s.bins * span s 0) where
    -- at a flush position the next one is a bin's width behind it
    pub flush_passed : n ≡ flush → flush + span s 0 ≡ edge s 0 n + s.bins * span s 0
    flush_passed there = omega (arith, whole_moves n (there ∙ flush_is))

    -- elsewhere it stays
    pub flush_ahead : n ≢ flush → flush ≡ edge s 0 n + s.bins * span s 0
    flush_ahead before = flush_is ∙ ap (λ e. e + s.bins * span s 0) (sym (part_stays n (λ there. before (there ∙ sym flush_is))))

    pub at_flush : IsTrue (eqb n flush) → edge s 0 n ≢ edge s 0 (n - 1)
    at_flush here = elim (cases_eq n flush) [
      | inl there ↦ (let moves = whole_moves n (there ∙ flush_is) in λ same. omega (arith, moves, wide s valid))
      | inr before ↦ absurd (false≢true (sym (ne_eqb n flush before) ∙ here))
    ]

    pub before_flush : IsFalse (eqb n flush) → edge s 0 n ≡ edge s 0 (n - 1)
    before_flush here = elim (cases_eq n flush) [
      | inl there ↦ absurd (false≢true (sym here ∙ eq-eqb n flush there))
      | inr before ↦ part_stays n (λ there. before (there ∙ sym flush_is))
    ]

  -- how deep a flush is says whether the edge moves
  pub moves_deep : (m : ℕ) → edge s 0 m ≢ edge s 0 (m - 1) → depth s m ≢ 0
  moves_deep m moves shallow = moves (edge_still s valid m shallow)

  pub stays_shallow : (m : ℕ) → edge s 0 m ≡ edge s 0 (m - 1) → depth s m ≡ 0
  stays_shallow m stays = elim (cases_eq (depth s m) 0) [
    | inl shallow ↦ shallow
    | inr deep ↦ absurd (flush_moves s valid m deep stays)
  ]

-- the next position, where the levels have settings of their own that are the cone's
module _ (s ls : Numbers) (same : ls ≡ s) (valid : IsValid s) (len flush : ℕ) (flush_is : flush ≡ edge s 0 len + s.bins * span s 0) where
  pub flush_next : flush ≡ edge s 0 (len + 1 - 1) + s.bins * span s 0
  flush_next = (let back : len ≡ len + 1 - 1 = omega arith in flush_is ∙ ap (λ n. edge s 0 n + s.bins * span s 0) back)

  pub next_flushes : IsTrue (eqb (len + 1) flush) → edge ls 0 (len + 1) ≢ edge ls 0 (len + 1 - 1)
  next_flushes here = subst (λ (v : Numbers). edge v 0 (len + 1) ≢ edge v 0 (len + 1 - 1)) (sym same) (at_flush s valid (len + 1) flush flush_next here)

  pub next_stays : IsFalse (eqb (len + 1) flush) → edge ls 0 (len + 1) ≡ edge ls 0 (len + 1 - 1)
  next_stays before = subst (λ (v : Numbers). edge v 0 (len + 1) ≡ edge v 0 (len + 1 - 1)) (sym same) (before_flush s valid (len + 1) flush flush_next before)
