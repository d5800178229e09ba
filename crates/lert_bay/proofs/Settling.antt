-- Settled ranges through calls: what a write leaves alone, every image keeps.
use Rattle.std.proofs.{Common.{◌≡◌, ℕ, ◌+◌, ◌-◌, ◌<◌, ◌≤◌, List, [], length, take, get_or, sym, ap, ◌∙◌, ◌⊎◌, inl, inr, arith, length-take, length-drop}, lemmas.Bool.cases_lt}
use Rattle.std.proofs.lemmas.List.{get_or-take, get_or-drop, drop_all, ext_get_or, length-take-le}
use Rattle.lert_bay.specs.{Files.{IsOutside, Torn}, Settled.part}

-- an empty range
pub part_none : (bytes : List ℕ) (from to : ℕ) → to ≤ from → part bytes from to ≡ []
part_none bytes from to empty = drop_all from (take to bytes) (omega (arith, length-take to bytes))

-- how long a range is
pub length_part : (bytes : List ℕ) (from to : ℕ) → to ≤ length bytes → length (part bytes from to) ≡ to - from
length_part bytes from to within = length-drop from (take to bytes) ∙ ap (λ n. n - from) (length-take-le to bytes within)

-- its bytes, one by one
pub part_at : (bytes : List ℕ) (from to k : ℕ) → from + k < to → get_or (part bytes from to) k 0 ≡ get_or bytes (from + k) 0
part_at bytes from to k within = get_or-drop from (take to bytes) k 0 ∙ get_or-take to bytes (from + k) 0 within

-- two files with the same bytes in a range
pub part_same : (xs ys : List ℕ) (from to : ℕ) → to ≤ length xs → to ≤ length ys → ((place : ℕ) → from ≤ place → place < to → get_or xs place 0 ≡ get_or ys place 0) →
    part xs from to ≡ part ys from to
part_same xs ys from to within_xs within_ys each =
    ext_get_or 0 (part xs from to) (part ys from to) (length_part xs from to within_xs ∙ sym (length_part ys from to within_ys))
    (λ k below.
    let under : from + k < to = omega (arith, below, length_part xs from to within_xs) in
    part_at xs from to k under ∙ (each (from + k) (omega arith) under ∙ sym (part_at ys from to k under)))

-- a file with such a range reaches to its end
pub reaches : (xs ys : List ℕ) (from to : ℕ) → part xs from to ≡ part ys from to → to ≤ length ys → from < to → to ≤ length xs
reaches xs ys from to same within some =
    omega (arith, ap length same, length_part ys from to within, length-drop from (take to xs), length-take to xs)

-- a torn write leaves a range alone that it doesn't touch
pub part_torn : (at count : ℕ) (old new seen : List ℕ) (from to : ℕ) → Torn at count old new → part old from to ≡ part seen from to → to ≤ length seen →
    (to ≤ at) ⊎ (at + count ≤ from) → part new from to ≡ part seen from to
part_torn at count old new seen from to torn same within apart = elim (cases_lt from to) [
  | inr empty ↦ part_none new from to empty ∙ sym (part_none seen from to empty)
  | inl some ↦
      let long : to ≤ length old = reaches old seen from to same within some in
      part_same new old from to (omega (arith, long, torn.no_shorter)) long
      (λ place above below. torn.elsewhere place (omega (arith, below, long)) (outside place above below apart)) ∙ same
]
  where
    outside : (place : ℕ) → from ≤ place → place < to → (to ≤ at) ⊎ (at + count ≤ from) → IsOutside at count place
    outside place above below (inl behind) = inl (omega (arith, below, behind))
    outside place above below (inr before) = inr (omega (arith, above, before))
