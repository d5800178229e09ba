-- A run that grows by one cell moves the cells up to the first free one.
use Rattle.std.proofs.{Common.{◌≡◌, ℕ, suc, ◌+◌, ◌-◌, ◌<◌, ◌≤◌, List, [], ◌∷◌, ◌++◌, length, max, refl, sym, ap, ◌∙◌, inl, inr, arith}, lemmas.List.Edits.remove-append_right, lemmas.Bool.cases_lt}
use Rattle.std.proofs.lemmas.Bool.Decides.{nat_tests}
use Rattle.std.specs.Prelude.{remove}
use Rattle.lert_cqf.specs.Cells.{cells_from, first_free}

-- the test of a home
pub free_there : {C : Type 0} (at : ℕ) (r : ℕ × List C) (rs : List (ℕ × List C)) → at < r.0 → first_free at (r ∷ rs) ≡ at
free_there at r rs h = grind (arith, nat_tests)

pub free_later : {C : Type 0} (at : ℕ) (r : ℕ × List C) (rs : List (ℕ × List C)) → r.0 ≤ at → first_free at (r ∷ rs) ≡ first_free (at + length r.1) rs
free_later at r rs h = grind (arith, nat_tests)

-- the first free cell isn't before the start
pub first_free-from : {C : Type 0} (at : ℕ) (rs : List (ℕ × List C)) → at ≤ first_free at rs
first_free-from at [] = omega arith
first_free-from at (r ∷ rs) =
    elim (cases_lt at r.0) [
      | inl apart ↦ (let e = free_there at r rs apart in omega arith)
      | inr stuck ↦ (let e = free_later at r rs stuck in let more = first_free-from (at + length r.1) rs in omega arith)
    ]

module _ {C : Type 0} (z : C) (n : ℕ) where
  -- no run stands before home r
  pub stuck_cells : (at : ℕ) (r : ℕ × List C) (rs : List (ℕ × List C)) → r.0 ≤ at → cells_from z n at (r ∷ rs) ≡ r.1 ++ cells_from z n (at + length r.1) rs
  stuck_cells at r rs h =
      let none : r.0 - at ≡ 0 = omega arith in
      let same : max at r.0 ≡ at = omega arith in rw (none, same) refl

  pub apart_cells : (at : ℕ) (r : ℕ × List C) (rs : List (ℕ × List C)) → at < r.0 → cells_from z n at (r ∷ rs) ≡ z ∷ cells_from z n (suc at) (r ∷ rs)
  apart_cells at r rs h =
      let one : r.0 - at ≡ suc (r.0 - suc at) = omega arith in
      let same : max at r.0 ≡ r.0 = omega arith in
      let same_next : max (suc at) r.0 ≡ r.0 = omega arith in rw (one, same, same_next) refl

  -- runs that are pushed by one cell take the first free one
  pub pushed : (at : ℕ) (rs : List (ℕ × List C)) → first_free at rs < n → cells_from z n (suc at) rs ≡ remove (cells_from z n at rs) (first_free at rs - at)
  pushed at [] h =
      let none : at - at ≡ 0 = omega arith in
      let one : n - at ≡ suc (n - suc at) = omega arith in rw (none, one) refl
  pushed at (r ∷ rs) h =
      elim (cases_lt at r.0) [
        | inl apart ↦ (let e : first_free at (r ∷ rs) - at ≡ 0 = (let f = free_there at r rs apart in omega arith) in
            rw (e, apart_cells at r rs apart) refl)
        | inr stuck ↦ (let f = free_later at r rs stuck in
            let low = first_free-from (at + length r.1) rs in
            let place : first_free at (r ∷ rs) - at - length r.1 ≡ first_free (at + length r.1) rs - (at + length r.1) = omega arith in
            let ih = pushed (at + length r.1) rs (omega arith) in
            let e : suc at + length r.1 ≡ suc (at + length r.1) = omega arith in
            stuck_cells (suc at) r rs (omega arith)
            ∙ ap (λ k. r.1 ++ cells_from z n k rs) e
            ∙ ap (λ (t : List C). r.1 ++ t) ih
            ∙ ap (λ k. r.1 ++ remove (cells_from z n (at + length r.1) rs) k) (sym place)
            ∙ sym (remove-append_right r.1 (cells_from z n (at + length r.1) rs) (length r.1) (first_free at (r ∷ rs) - at) refl (omega arith))
            ∙ ap (λ (t : List C). remove t (first_free at (r ∷ rs) - at)) (sym (stuck_cells at r rs stuck)))
      ]
