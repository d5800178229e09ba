-- After a check that found each frame whole: what the frames hold, by the bin alone.
use Rattle.std.proofs.{Common.{ℕ, ◌≡◌, ◌+◌, ◌-◌, ◌/◌, ◌<◌, ◌≤◌, zero, suc, cond, List, [], length, map, get_or, ap, sym, ◌∙◌, arith, inl, inr, subst}, lemmas.Bool.{cases_lt, lt-ltb, le-ltb}}
use Rattle.std.proofs.lemmas.List.{length-map, get_or-map}
use Rattle.std.specs.List.{All, range_with_len}
use Rattle.lert_frames.specs.{Frame.{IsBin, HoldsFrame}, Place.tail_limit}
use Rattle.lert_spec.specs.{declared.numbers.Numbers.Numbers, Edges.{span, edge}}
use Rattle.lert_spec.proofs.EdgeLaws.{edge_descends_to, span_pos}
use Rattle.lert_levels.specs.{declared.rows.bin_at.BinAt.BinAt, rows.Checked.{pieces_in, level_of, held_after, EachStands}, rows.Loading.{width_of, AllStand}, rows.Ranges.{Range, range_at, ranges}}
use Rattle.lert_levels.specs.rows.Rows.{range_of, IsAt}
use Rattle.lert_levels.proofs.{rows.NamedLaws.ranges_run, rows.RangeLaws.{IsCut, cuts_are}, rows.RowLaws.All-ranges}

module _ (s : Numbers) (version : ℕ) (base : 1 ≤ s.base) (ratio : 1 ≤ s.ratio) (n : ℕ) where
  level_is : (top below to : ℕ) → below < top → edge s (suc below) n < to → to ≤ edge s below n → level_of s n top to ≡ suc below
  level_is zero below to within above under = absurd (omega arith)
  level_is (suc top) below to within above under = elim (cases_lt below top) [
    | inl older ↦ (
        let further : suc below + (top - suc below) ≡ top = omega arith in
        let descends = subst (λ level. edge s level n ≤ edge s (suc below) n) further (edge_descends_to s base ratio (suc below) (top - suc below) n) in
        ap (λ t. cond t (level_of s n top to) (suc top)) (lt-ltb (edge s top n) to (omega arith)) ∙ level_is top below to older above under)
    | inr last ↦ (
        let same : below ≡ top = omega arith in
        let high : to ≤ edge s top n = subst (λ level. to ≤ edge s level n) same under in
        ap (λ t. cond t (level_of s n top to) (suc top)) (le-ltb (edge s top n) to high) ∙ ap suc (sym same))
  ]

  -- a level's positions begin at its edge
  ranges_above : (level : ℕ) → All (λ range. edge s level n ≤ range.from) (ranges s n level)
  ranges_above level =
      let wide = span s level in
      let low = edge s level n in
      let high = edge s (level - 1) n in
      let count = length (ranges s n level) in
      let begins = range_with_len (low / wide) count in
      subst (All (λ (range : Range). low ≤ range.from)) (sym (ranges_run s n level (span_pos s level base ratio)))
      (λ k d below.
      let within : k < length begins = omega (arith, length-map begins (range_at wide low high)) in
      let is = get_or-map (range_at wide low high) begins k 0 d within in
      subst (λ (range : Range). low ≤ range.from) (sym is) (omega arith))

  -- a bin of a level lies there alone
  bin_level : (rows : List (List BinAt)) → IsAt s n rows → (k : ℕ) → k < s.levels → All (λ bin. level_of s n s.levels bin.to ≡ k + 1) (get_or rows k [])
  bin_level rows at k within =
      let row = get_or rows k [] in
      let place : k + 1 - 1 ≡ k = omega arith in
      let next : suc k ≡ k + 1 = omega arith in
      let are : map range_of row ≡ ranges s n (k + 1) = ap (λ j. map range_of (get_or rows j [])) (sym place) ∙ at.each (k + 1) (omega arith) (omega arith) in
      let wide = span s (k + 1) in
      let cuts = All-ranges (IsCut wide (edge s (k + 1 - 1) n)) row (subst (All (IsCut wide (edge s (k + 1 - 1) n))) (sym are)
      (cuts_are wide (edge s (k + 1) n) (edge s (k + 1 - 1) n) 0 (suc (n / wide)))) in
      let above = All-ranges (λ range. edge s (k + 1) n ≤ range.from) row (subst (All (λ (range : Range). edge s (k + 1) n ≤ range.from)) (sym are) (ranges_above (k + 1))) in
      λ i d below.
      let cut = cuts i d below in
      let low : edge s (k + 1) n < (get_or row i d).to = omega (arith, above i d below, cut.some) in
      let high = subst (λ level. (get_or row i d).to ≤ edge s level n) place cut.end in
      level_is s.levels k (get_or row i d).to within (subst (λ level. edge s level n < (get_or row i d).to) (sym next) low) high ∙ next

  -- bins that stand, each by its level, stand by themselves
  pub all_stand : (rows : List (List BinAt)) → IsAt s n rows → (file : List ℕ) → EachStands s version file rows → AllStand s version file (held_after s version n file) rows
  all_stand rows at file stand k below =
      let within : k < s.levels = omega (arith, at.levels) in
      λ i d inside.
      let bin = get_or (get_or rows k []) i d in
      let there = stand k below i d inside in
      let same : pieces_in s version file (k + 1) bin ≡ held_after s version n file bin = ap (λ level. pieces_in s version file level bin) (sym (bin_level rows at k within i d inside)) in
      record { are = subst (IsBin version (tail_limit s) (width_of bin)) same there.are; text = subst (HoldsFrame s version (k + 1) bin.frame file) same there.text }
