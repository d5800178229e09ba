-- Since the last flush no bin of an older level changed.
use Rattle.lert_spec.specs.Counts.{weighed}
use Rattle.lert_spec.specs.declared.item.Item.{Item}
use Rattle.lert_spec.specs.Items.{unit}
use Rattle.std.proofs.{Common.{ℕ, zero, suc, ◌≡◌, ◌+◌, ◌-◌, ◌≤◌, cond, List, [], ◌∷◌, ◌++◌, length, take, get_or, refl, ap, sym, ◌∙◌, arith, inl, inr}, lemmas.Bool.{cases_eq, eq-eqb, ne_eqb}}
use Rattle.std.proofs.lemmas.List.{take_more, length-take, take_all}
use Rattle.lert_spec.specs.{declared.numbers.Numbers.Numbers, Bins.bins_of, Edges.edge, Limits.IsValid}
use Rattle.lert_spec.proofs.{BinLaws.bins-still, EdgeLaws.moves_together}
use Rattle.lert_cone.specs.Framed.{last_flush, flushed}

module _ (s : Numbers) (valid : IsValid s) where
  base : 1 ≤ s.base
  base = omega (arith, valid.limits.base_from)

  ratio : 1 ≤ s.ratio
  ratio = omega (arith, valid.limits.ratio_from)

  -- where the edge of level 0 stays all edges stay
  all_stay : (m n level : ℕ) → edge s 0 m ≡ edge s 0 n → edge s level m ≡ edge s level n
  all_stay m n zero same = same
  all_stay m n (suc level) same = moves_together s base ratio level m n (all_stay m n level same)

  -- since the last flush no bin of an older level changed
  module _ (events : List Item) (level : ℕ) where
    bins_since : (n : ℕ) → n ≤ length events → bins_of weighed s (take (last_flush s n) events) level ≡ bins_of weighed s (take n events) level
    bins_since zero within = refl
    bins_since (suc n) within =
        elim (cases_eq (edge s 0 (suc n)) (edge s 0 n)) [
          | inl stays ↦ (
              let long : length (take n events) ≡ n = length-take n events ∙ omega (arith, within) in
              let next : suc n ≡ n + 1 = omega arith in
              let one : take (suc n) events ≡ take n events ++ get_or events n (unit 0) ∷ [] = ap (λ k. take k events) next ∙ take_more events n (unit 0) (omega (arith, within)) in
              let still : (i : ℕ) → edge s i (suc (length (take n events))) ≡ edge s i (length (take n events)) =
              λ i. ap (λ k. edge s i (suc k)) long ∙ all_stay (suc n) n i stays ∙ ap (edge s i) (sym long) in
              ap (λ t. bins_of weighed s (take (cond t (last_flush s n) (suc n)) events) level) (eq-eqb (edge s 0 (suc n)) (edge s 0 n) stays)
              ∙ bins_since n (omega (arith, within))
              ∙ sym (ap (λ keys. bins_of weighed s keys level) one ∙ bins-still weighed s (take n events) (get_or events n (unit 0)) level base ratio (still level) (still (level - 1))))
          | inr moves ↦ ap (λ t. bins_of weighed s (take (cond t (last_flush s n) (suc n)) events) level) (ne_eqb (edge s 0 (suc n)) (edge s 0 n) moves)
        ]

    pub flushed_bins : bins_of weighed s (flushed s events) level ≡ bins_of weighed s events level
    flushed_bins = bins_since (length events) (omega arith) ∙ ap (λ keys. bins_of weighed s keys level) (take_all (length events) events (omega arith))
