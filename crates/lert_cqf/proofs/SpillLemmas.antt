-- How far runs reach past a home, as one run grows.
use Rattle.std.proofs.{Common.{◌≡◌, ℕ, suc, ◌+◌, ◌-◌, ◌<◌, ◌≤◌, List, [], ◌∷◌, ◌++◌, length, max, refl, sym, ap, ◌∙◌, inl, inr, arith}, lemmas.Bool.cases_lt, lemmas.Bool.Decides.nat_tests}
use Rattle.lert_cqf.specs.{Cells.{stop, end_before, first_free}, Around.{HomesAscend, HomesBelow}}
use Rattle.lert_cqf.proofs.CellLemmas.{first_free-from, free_there, free_later}

-- the test of a home
pub end_passes : {C : Type 0} (at g : ℕ) (r : ℕ × List C) (rs : List (ℕ × List C)) → r.0 < g → end_before at g (r ∷ rs) ≡ end_before (max at r.0 + length r.1) g rs
end_passes at g r rs h = grind (arith, nat_tests)

pub end_here : {C : Type 0} (at g : ℕ) (r : ℕ × List C) (rs : List (ℕ × List C)) → g ≤ r.0 → end_before at g (r ∷ rs) ≡ at
end_here at g r rs h = grind (arith, nat_tests)

-- a home up to the first free cell is reached by one cell more
pub pushed_within : {C : Type 0} (at g : ℕ) (rs : List (ℕ × List C)) → g ≤ first_free at rs
    → (g ≤ end_before at g rs) × (end_before (suc at) g rs ≡ suc (end_before at g rs))
pushed_within at g [] h = (h, refl)
pushed_within at g (r ∷ rs) h =
    elim (cases_lt at r.0) [
      | inl apart ↦ (let f = free_there at r rs apart in
          let low : g ≤ at = omega arith in
          let a = end_here at g r rs (omega arith) in
          let b = end_here (suc at) g r rs (omega arith) in (omega arith, omega arith))
      | inr stuck ↦ (let f = free_later at r rs stuck in
          elim (cases_lt r.0 g) [
            | inl passes ↦ (let same : max at r.0 + length r.1 ≡ at + length r.1 = omega arith in
                let same_next : max (suc at) r.0 + length r.1 ≡ suc (at + length r.1) = omega arith in
                let a : end_before at g (r ∷ rs) ≡ end_before (at + length r.1) g rs = end_passes at g r rs passes ∙ ap (λ k. end_before k g rs) same in
                let b : end_before (suc at) g (r ∷ rs) ≡ end_before (suc (at + length r.1)) g rs = end_passes (suc at) g r rs passes ∙ ap (λ k. end_before k g rs) same_next in
                let ih = pushed_within (at + length r.1) g rs (omega arith) in
                (omega (arith, ih.0), b ∙ ih.1 ∙ ap suc (sym a)))
            | inr here ↦ (let a = end_here at g r rs here in
                let b = end_here (suc at) g r rs here in (omega arith, omega arith))
          ])
    ]

-- a home behind it is reached as before
pub pushed_beyond : {C : Type 0} (at g : ℕ) (rs : List (ℕ × List C)) → first_free at rs < g → end_before (suc at) g rs - g ≡ end_before at g rs - g
pushed_beyond at g [] h = omega arith
pushed_beyond at g (r ∷ rs) h =
    elim (cases_lt at r.0) [
      | inl apart ↦ (let f = free_there at r rs apart in
          elim (cases_lt r.0 g) [
            | inl passes ↦ (let same : max (suc at) r.0 ≡ max at r.0 = omega arith in
                let a = end_passes at g r rs passes in
                let b = end_passes (suc at) g r rs passes ∙ ap (λ k. end_before (k + length r.1) g rs) same in omega arith)
            | inr here ↦ (let a = end_here at g r rs here in
                let b = end_here (suc at) g r rs here in omega arith)
          ])
      | inr stuck ↦ (let f = free_later at r rs stuck in
          let low = first_free-from (at + length r.1) rs in
          let passes : r.0 < g = omega arith in
          let same : max at r.0 + length r.1 ≡ at + length r.1 = omega arith in
          let same_next : max (suc at) r.0 + length r.1 ≡ suc (at + length r.1) = omega arith in
          let a : end_before at g (r ∷ rs) ≡ end_before (at + length r.1) g rs = end_passes at g r rs passes ∙ ap (λ k. end_before k g rs) same in
          let b : end_before (suc at) g (r ∷ rs) ≡ end_before (suc (at + length r.1)) g rs = end_passes (suc at) g r rs passes ∙ ap (λ k. end_before k g rs) same_next in
          let ih = pushed_beyond (at + length r.1) g rs (omega arith) in
          omega arith)
    ]

-- runs whose homes are all below g are passed
pub below_passed : {C : Type 0} (at g : ℕ) (before rest : List (ℕ × List C)) → HomesBelow g before → end_before at g (before ++ rest) ≡ end_before (stop at before) g rest
below_passed at g [] rest h = refl
below_passed at g (r ∷ before) rest h = end_passes at g r (before ++ rest) h.0 ∙ below_passed (max at r.0 + length r.1) g before rest h.1

homes_below-weaker : {C : Type 0} (g k : ℕ) (rs : List (ℕ × List C)) → g ≤ k → HomesBelow g rs → HomesBelow k rs
homes_below-weaker g k [] h b = tt
homes_below-weaker g k (r ∷ rs) h b = (omega (arith, b.0), homes_below-weaker g k rs h b.1)

-- a home up to q sees nothing of the runs from q on
pub below_unmoved : {C : Type 0} (at g q : ℕ) (t s : List C) (before after : List (ℕ × List C)) → g ≤ q
    → end_before at g (before ++ (q, t) ∷ after) ≡ end_before at g (before ++ (q, s) ∷ after)
below_unmoved at g q t s [] after h = end_here at g (q, t) after h ∙ sym (end_here at g (q, s) after h)
below_unmoved at g q t s (r ∷ before) after h =
    elim (cases_lt r.0 g) [
      | inl passes ↦ end_passes at g r (before ++ (q, t) ∷ after) passes ∙ below_unmoved (max at r.0 + length r.1) g q t s before after h
          ∙ sym (end_passes at g r (before ++ (q, s) ∷ after) passes)
      | inr here ↦ end_here at g r (before ++ (q, t) ∷ after) here ∙ sym (end_here at g r (before ++ (q, s) ∷ after) here)
    ]

-- a home behind q sees the end of the run of q
pub behind_run : {C : Type 0} (g q : ℕ) (t : List C) (before after : List (ℕ × List C)) → HomesBelow q before → q < g
    → end_before 0 g (before ++ (q, t) ∷ after) ≡ end_before (max (stop 0 before) q + length t) g after
behind_run g q t before after below h =
    below_passed 0 g before ((q, t) ∷ after) (homes_below-weaker q g before (omega arith) below) ∙ end_passes (stop 0 before) g (q, t) after h

-- the home of q itself sees where the runs before it end
pub home_start : {C : Type 0} (q : ℕ) (t : List C) (before after : List (ℕ × List C)) → HomesBelow q before → end_before 0 q (before ++ (q, t) ∷ after) ≡ stop 0 before
home_start q t before after below = below_passed 0 q before ((q, t) ∷ after) below ∙ end_here (stop 0 before) q (q, t) after (omega arith)

-- the home behind q sees the end of the run of q, and no run behind it
pub home_end : {C : Type 0} (q limit : ℕ) (t : List C) (before after : List (ℕ × List C)) → HomesBelow q before → HomesAscend (q + 1) limit after
    → end_before 0 (q + 1) (before ++ (q, t) ∷ after) ≡ max (stop 0 before) q + length t
home_end q limit t before after below above = behind_run (q + 1) q t before after below (omega arith) ∙ first_stops (max (stop 0 before) q + length t) (q + 1) limit after above
  where
    first_stops : {C : Type 0} (at g limit : ℕ) (rs : List (ℕ × List C)) → HomesAscend g limit rs → end_before at g rs ≡ at
    first_stops at g limit [] h = refl
    first_stops at g limit (r ∷ rs) h = end_here at g r rs h.0

-- one cell more in the run of q
module _ {C : Type 0} (q : ℕ) (t s : List C) (before after : List (ℕ × List C)) (below : HomesBelow q before) (longer : length s ≡ suc (length t)) where
  later : max (stop 0 before) q + length s ≡ suc (max (stop 0 before) q + length t)
  later = omega arith

  pub spill_within : (g : ℕ) → q < g → g ≤ first_free (max (stop 0 before) q + length t) after
      → end_before 0 g (before ++ (q, s) ∷ after) - g ≡ (end_before 0 g (before ++ (q, t) ∷ after) - g) + 1
  spill_within g h k =
      let p = pushed_within (max (stop 0 before) q + length t) g after k in
      let a = behind_run g q t before after below h in
      let b = behind_run g q s before after below h ∙ ap (λ k. end_before k g after) later in omega (arith, p.0, p.1)

  pub spill_beyond : (g : ℕ) → q < g → first_free (max (stop 0 before) q + length t) after < g
      → end_before 0 g (before ++ (q, s) ∷ after) - g ≡ end_before 0 g (before ++ (q, t) ∷ after) - g
  spill_beyond g h k =
      let p = pushed_beyond (max (stop 0 before) q + length t) g after k in
      let a = behind_run g q t before after below h in
      let b = behind_run g q s before after below h ∙ ap (λ k. end_before k g after) later in omega arith

-- a run of no cells is no run
empty_run : {C : Type 0} (at q g limit : ℕ) (after : List (ℕ × List C)) → HomesAscend (q + 1) limit after → q < g → end_before (max at q) g after - g ≡ end_before at g after - g
empty_run at q g limit [] h k = omega arith
empty_run at q g limit (r ∷ after) h k =
    let low = h.0 in
    elim (cases_lt r.0 g) [
      | inl passes ↦ (let same : max (max at q) r.0 ≡ max at r.0 = omega arith in
          let a = end_passes at g r after passes in
          let b = end_passes (max at q) g r after passes ∙ ap (λ k. end_before (k + length r.1) g after) same in omega arith)
      | inr here ↦ (let a = end_here at g r after here in let b = end_here (max at q) g r after here in omega arith)
    ]

pub spill_empty : {C : Type 0} (q g limit : ℕ) (before after : List (ℕ × List C)) → HomesBelow q before → HomesAscend (q + 1) limit after
    → end_before 0 g (before ++ (q, []) ∷ after) - g ≡ end_before 0 g (before ++ after) - g
spill_empty {C} q g limit before after below above =
    elim (cases_lt q g) [
      | inl behind ↦ (let a = behind_run {C = C} g q [] before after below behind
          ∙ ap (λ k. end_before k g after) (let e : max (stop 0 before) q + 0 ≡ max (stop 0 before) q = omega arith in e) in
          let b = below_passed 0 g before after (homes_below-weaker q g before (omega arith) below) in
          let c = empty_run (stop 0 before) q g limit after above behind in omega arith)
      | inr at ↦ ap (λ k. k - g) (unseen 0 g q limit before after at above)
    ]
  where
    unseen : {C : Type 0} (at g q limit : ℕ) (before after : List (ℕ × List C)) → g ≤ q → HomesAscend (q + 1) limit after →
        end_before at g (before ++ (q, []) ∷ after) ≡ end_before at g (before ++ after)
    unseen {C} at g q limit [] [] h above = end_here {C = C} at g (q, []) [] h
    unseen {C} at g q limit [] (r ∷ after) h above = end_here {C = C} at g (q, []) (r ∷ after) h ∙ sym (end_here at g r after (omega (arith, above.0)))
    unseen at g q limit (r ∷ before) after h above =
        elim (cases_lt r.0 g) [
          | inl passes ↦ end_passes at g r (before ++ (q, []) ∷ after) passes ∙ unseen (max at r.0 + length r.1) g q limit before after h above
              ∙ sym (end_passes at g r (before ++ after) passes)
          | inr here ↦ end_here at g r (before ++ (q, []) ∷ after) here ∙ sym (end_here at g r (before ++ after) here)
        ]
