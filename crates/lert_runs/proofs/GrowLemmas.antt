-- How a run text changes as a remainder's count rises.
use Rattle.std.proofs.Common.{◌≡◌, ℕ, ◌+◌, ◌<◌, ◌≤◌, List, [], ◌∷◌, ◌++◌, length, take, drop, refl, sym, ap, ◌∙◌, inl, inr, arith, length-append}
use Rattle.std.proofs.Common.{append_assoc}
use Rattle.std.proofs.lemmas.List.{drop_at, take_at}
use Rattle.std.proofs.lemmas.Bool.{cases_order, cases_eq}
use Rattle.lert_counter.specs.Group.{group, IsCount}
use Rattle.lert_counter.proofs.GroupLemmas.{length_group-le}
use Rattle.lert_counter.proofs.GrowthLemmas.{length_group-grows}
use Rattle.lert_runs.specs.RunText.{run_text, RemaindersAscend, IsTextOf, count_in, pairs_below, pairs_plus, group_in}
use Rattle.lert_runs.specs.Growth.{IsGrowthOf}
use Rattle.lert_runs.specs.declared.grow.Growth.{Growth}
use Rattle.lert_runs.proofs.RunLemmas.{count_in-below, count_in-here, count_in-later, pairs_below-more, pairs_below-none, pairs_plus-before, pairs_plus-here, pairs_plus-behind, group_in-there}
use Rattle.lert_runs.proofs.RunLemmas.{group_in-absent}

-- the text around a remainder, before and after its count rises
pub record Around (width x n : ℕ) (ps : List (ℕ × ℕ)) : Type 0 where
  pub above : List (ℕ × ℕ)
  pub was : run_text width ps ≡ run_text width (pairs_below ps x) ++ (group_in width ps x ++ run_text width above)
  pub becomes : run_text width (pairs_plus ps x n) ≡ run_text width (pairs_below ps x) ++ (group width x (count_in ps x + n) ++ run_text width above)

around_none : (width x n least : ℕ) (ps : List (ℕ × ℕ)) → pairs_below ps x ≡ [] → count_in ps x ≡ 0 → pairs_plus ps x n ≡ (x, n) ∷ ps → Around width x n ps
around_none width x n least ps below count plus = record {
  above = ps;
  was = sym (rw (below, group_in-absent width ps x count) refl);
  becomes = rw (plus, below, count) (ap (λ k. group width x k ++ run_text width ps) (let e : n ≡ 0 + n = omega arith in e));
}

around_here : (width x n : ℕ) (p : ℕ × ℕ) (ps : List (ℕ × ℕ)) → p.0 ≡ x → IsCount p.1 → Around width x n (p ∷ ps)
around_here width x n p ps h counts =
    let count = count_in-here p ps x h in
    let below = pairs_below-none p ps x (omega arith) in
    record {
      above = ps;
      was = ap (λ y. group width y p.1 ++ run_text width ps) h ∙ sym (rw (below, group_in-there width (p ∷ ps) x (omega (arith, counts.0)), count) refl);
      becomes = rw (pairs_plus-here p ps x n h, below, count) refl;
    }

around_later : (width x n : ℕ) (p : ℕ × ℕ) (ps : List (ℕ × ℕ)) → p.0 < x → Around width x n ps → Around width x n (p ∷ ps)
around_later width x n p ps h a =
    let count = count_in-later p ps x (omega arith) in
    let below = pairs_below-more p ps x h in
    let same : group_in width (p ∷ ps) x ≡ group_in width ps x = rw count refl in
    record {
      above = a.above;
      was = ap (λ (t : List ℕ). group width p.0 p.1 ++ t) a.was ∙ sym (append_assoc (group width p.0 p.1) (run_text width (pairs_below ps x)) (group_in width ps x ++ run_text width a.above))
          ∙ sym (rw (below, same) refl);
      becomes = ap (run_text width) (pairs_plus-before p ps x n h) ∙ ap (λ (t : List ℕ). group width p.0 p.1 ++ t) a.becomes
          ∙ sym (append_assoc (group width p.0 p.1) (run_text width (pairs_below ps x)) (group width x (count_in ps x + n) ++ run_text width a.above))
          ∙ sym (rw (below, count) refl);
    }

pub around : (width x n least : ℕ) (ps : List (ℕ × ℕ)) → RemaindersAscend least ps → Around width x n ps
around width x n least [] h = around_none width x n least [] refl refl refl
around width x n least (p ∷ ps) h =
    elim (cases_order p.0 x) [
      | inl same ↦ around_here width x n p ps same h.1
      | inr (inl less) ↦ around_later width x n p ps less (around width x n (p.0 + 1) ps h.2)
      | inr (inr more) ↦ around_none width x n least (p ∷ ps) (pairs_below-none p ps x (omega arith))
          (count_in-later p ps x (omega arith) ∙ count_in-below (p.0 + 1) x ps h.2 (omega arith)) (pairs_plus-behind p ps x n more)
    ]

-- a part of a list between two others
middle : (xs old ys : List ℕ) (run : List ℕ) (start len : ℕ) → run ≡ xs ++ (old ++ ys) → start ≡ length xs → len ≡ length old
    → (take start run ≡ xs) × (drop (start + len) run ≡ ys) × (start + len ≤ length run)
middle xs old ys run start len is at long = (
  ap (take start) is ∙ take_at xs (old ++ ys) start (sym at),
  ap (drop (start + len)) (is ∙ sym (append_assoc xs old ys)) ∙ drop_at (xs ++ old) ys (start + len) (omega (arith, length-append xs old)),
  omega (arith, ap (λ (t : List ℕ). length t) is, length-append xs (old ++ ys), length-append old ys),
)

-- no group of a remainder is longer than the one with more of it
longer : (width x n : ℕ) (ps : List (ℕ × ℕ)) → 8 ≤ width → 1 ≤ n → length (group_in width ps x) ≤ length (group width x (count_in ps x + n))
longer width x n ps wide positive =
    elim (cases_eq (count_in ps x) 0) [
      | inl none ↦ omega (arith, ap (λ (t : List ℕ). length t) (group_in-absent width ps x none))
      | inr some ↦ (let e = group_in-there width ps x (omega arith) in
          omega (arith, ap (λ (t : List ℕ). length t) e, length_group-grows width x (count_in ps x) (count_in ps x + n) wide (omega arith) (omega arith)))
    ]

pub growth_of : (width x n : ℕ) (run : List ℕ) (ps : List (ℕ × ℕ)) (g : Growth) → 8 ≤ width → 1 ≤ n → IsTextOf width run ps
    → g.start ≡ length (run_text width (pairs_below ps x)) → g.old ≡ length (group_in width ps x) → g.len ≡ length (group width x (count_in ps x + n))
    → take g.len g.text ≡ group width x (count_in ps x + n) → IsGrowthOf width x n run ps g
growth_of width x n run ps g wide positive text start old len written =
    let a = around width x n 0 ps text.ascend in
    let m = middle (run_text width (pairs_below ps x)) (group_in width ps x) (run_text width a.above) run g.start g.old (text.text ∙ a.was) start old in
    record {
      start = start;
      old = old;
      len = len;
      text = written;
      grown = rw (m.0, m.1, written) (sym a.becomes);
      within = m.2;
      longer = omega (arith, longer width x n ps wide positive);
      short = omega (arith, length_group-le width x (count_in ps x + n) (omega arith));
    }
