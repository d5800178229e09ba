-- A tally knows of items only what each key weighs.
use Rattle.std.proofs.Common.{ℕ, ◌≡◌, ◌≢◌, ◌≤◌, cond, List, [], ◌∷◌, length, map, get_or, refl, ap, sym, ◌∙◌, arith, inl, inr, sum_by, All}
use Rattle.std.proofs.lemmas.{Bool.{cases_lt, eq-eqb}, List.{Elements.{All-head, All-tail}, Sums.get_or-le-sum_by}}
use Rattle.lert_spec.specs.{declared.item.Item.Item, declared.numbers.Numbers.Numbers, Counts.{weighed, weight_for}, Edges.key_limit, Look.mixed_in}
use Rattle.lert_spec.proofs.{CountLaws.count-whole, LookLaws.{HaveKeys, AreKeys-mixed_order, one_order}, ReportLaws.{MixedFrom-mixed_order, occurs, times, times-cons_other, times-mixed_order}}
use Rattle.lert_census.specs.Tally.{IsItem, WeighTheSame, line_of, tally_of}
use Rattle.lert_census.proofs.LineLaws.{mixed_all}

-- a key that none of them is isn't among keys
times-none : (key : ℕ) (keys : List ℕ) → All (λ k. k ≢ key) keys → times key keys ≡ 0
times-none key [] others = refl
times-none key (other ∷ keys) others =
    times-cons_other key other keys (All-head (λ k. k ≢ key) other keys others) ∙ times-none key keys (All-tail (λ k. k ≢ key) other keys others)

module _ (s : Numbers) where
  pub items_have_keys : (items : List Item) → All (IsItem s) items → HaveKeys s weighed items
  items_have_keys [] are = tt
  items_have_keys (item ∷ items) are = ((All-head (IsItem s) item items are).fits, items_have_keys items (All-tail (IsItem s) item items are))

  -- a key that weighs nothing doesn't occur, and one that weighs something stands in the order once
  pub times-light : (key : ℕ) (items : List Item) → All (IsItem s) items → sum_by (weight_for weighed key) items ≡ 0 → times key (mixed_in weighed items) ≡ 0
  times-light key items are light =
      times-none key (mixed_in weighed items) (mixed_all (λ k. k ≢ key) items (λ k d below same.
      let item = get_or items k d in
      let here = ap (λ t. cond {A = ℕ} t item.weight 0) (eq-eqb item.key key same) in
      omega (arith, here, light, (are k d below).weighs, get_or-le-sum_by (weight_for weighed key) items k d below)))

  pub times-stranger : (key : ℕ) (items : List Item) → All (IsItem s) items → key_limit s ≤ key → times key (mixed_in weighed items) ≡ 0
  times-stranger key items are far =
      times-none key (mixed_in weighed items) (mixed_all (λ k. k ≢ key) items (λ k d below same. omega (arith, (are k d below).fits, same, far)))

  pub times-heavy : (key : ℕ) (items : List Item) → 1 ≤ sum_by (weight_for weighed key) items → times key (mixed_in weighed items) ≡ 1
  times-heavy key items heavy = times-mixed_order weighed key items (occurs weighed key items 0 (length items) (omega (arith, heavy, count-whole weighed key items)))

  pub times-same : (key : ℕ) (items others : List Item) → All (IsItem s) items → All (IsItem s) others →
      sum_by (weight_for weighed key) items ≡ sum_by (weight_for weighed key) others → times key (mixed_in weighed items) ≡ times key (mixed_in weighed others)
  times-same key items others are also same =
      elim (cases_lt 0 (sum_by (weight_for weighed key) items)) [
        | inl heavy ↦ times-heavy key items heavy ∙ sym (times-heavy key others (omega (arith, heavy, same)))
        | inr light ↦ times-light key items are (omega (arith, light)) ∙ sym (times-light key others also (omega (arith, light, same)))
      ]

  pub same_tally : (items others : List Item) → All (IsItem s) items → All (IsItem s) others → WeighTheSame items others → tally_of items ≡ tally_of others
  same_tally items others are also same =
      let keys = one_order s 0 (mixed_in weighed items) (mixed_in weighed others) (MixedFrom-mixed_order weighed items) (MixedFrom-mixed_order weighed others)
      (AreKeys-mixed_order s weighed items (items_have_keys items are)) (AreKeys-mixed_order s weighed others (items_have_keys others also))
      (λ key. times-same key items others are also (sym (count-whole weighed key items) ∙ same key ∙ count-whole weighed key others)) in
      ap (map (line_of items)) keys
      ∙ (λ i. map (λ (key : ℕ). record { key = key; at = same key i }) (mixed_in weighed others))
