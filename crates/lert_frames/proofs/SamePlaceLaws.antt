-- A file in which other places than a frame's were written.
use Rattle.std.{proofs.Common.{◌≡◌, ℕ, ◌+◌, ◌-◌, ◌≤◌, min, List, length, take, drop, sym, ap, ◌∙◌, inl, inr, arith, length-drop, length-take}, proofs.lemmas.Bool.cases_lt}
use Rattle.std.proofs.lemmas.List.{drop-drop}
use Rattle.lert_bay.{specs.Settled.part, proofs.Settling.{part_none}}
use Rattle.lert_frames.{specs.Apart.SamePlace, proofs.PartLaws.part_less}

-- ---- what stands in the place

-- a part of a greater part
part_of_part : (file : List ℕ) (place from to end : ℕ) → place ≤ from → to ≤ end → part file from to ≡ drop (from - place) (take (to - place) (part file place end))
part_of_part file place from to end low high =
    sym (ap (drop (from - place)) (sym (part_less file place to end high))
    ∙ (drop-drop (from - place) place (take to file) ∙ ap (λ n. drop n (take to file)) (let e : place + (from - place) ≡ from = omega (arith, low) in e)))

module _ (place len : ℕ) (old new : List ℕ) (kept : SamePlace place len old new) where
  pub same_part : (from to : ℕ) → place ≤ from → to ≤ place + len → to ≤ length old → part new from to ≡ part old from to
  same_part from to low high within =
      let end = min (place + len) (length old) in
      let inside : to ≤ end = omega (arith, high, within) in
      part_of_part new place from to end low inside ∙ (ap (λ xs. drop (from - place) (take (to - place) xs)) kept.same ∙ sym (part_of_part old place from to end low inside))

  -- a text that stands there
  pub text_stays : (from to : ℕ) (text : List ℕ) → place ≤ from → to ≤ place + len → to ≡ from + length text → part old from to ≡ text → part new from to ≡ text
  text_stays from to text low high to_is is = elim (cases_lt from to) [
    | inl some ↦ (let within : to ≤ length old = omega (arith, ap length is, length-drop from (take to old), length-take to old, to_is, some) in
        same_part from to low high within ∙ is)
    | inr none ↦ part_none new from to none ∙ (sym (part_none old from to none) ∙ is)
  ]

-- ---- which files are such ones
