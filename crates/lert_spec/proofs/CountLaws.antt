-- How weights grow with one more event.
use Rattle.std.proofs.Common.{◌≡◌, ℕ, ◌+◌, ◌≤◌, List, [], ◌∷◌, ◌++◌, length, ap, sym, ◌∙◌, arith}
use Rattle.std.specs.Prelude.{sum_by}
use Rattle.std.proofs.{Math.Seq.take-length, lemmas.List.take-append-le, lemmas.List.Sums.{sum_by-append, sum_by-cons}, lemmas.Slice.between_from_start}
use Rattle.lert_spec.specs.Counts.{Measure, weight_for, weight_in}

module _ {A : Type 0} (by : Measure A) where
  -- the weight over a whole list
  pub count-whole : (key : ℕ) (events : List A) → weight_in by key events 0 (length events) ≡ sum_by (weight_for by key) events
  count-whole key events = ap (sum_by (weight_for by key)) (between_from_start events (length events) ∙ take-length events)

  -- what comes later changes no weight before it
  pub count-append : (key : ℕ) (events others : List A) (to : ℕ) → to ≤ length events → weight_in by key (events ++ others) 0 to ≡ weight_in by key events 0 to
  count-append key events others to within =
      ap (sum_by (weight_for by key))
      (between_from_start (events ++ others) to ∙ take-append-le to events others within ∙ sym (between_from_start events to))

  -- one more event weighs for its key alone
  pub count-push : (key : ℕ) (events : List A) (event : A) →
      weight_in by key (events ++ event ∷ []) 0 (length (events ++ event ∷ [])) ≡ weight_in by key events 0 (length events) + weight_for by key event
  count-push key events event =
      count-whole key (events ++ event ∷ [])
      ∙ sum_by-append (weight_for by key) events (event ∷ [])
      ∙ ap (λ n. n + sum_by (weight_for by key) (event ∷ [])) (sym (count-whole key events))
      ∙ ap (λ n. weight_in by key events 0 (length events) + n) (omega (arith, sum_by-cons (weight_for by key) event []))
