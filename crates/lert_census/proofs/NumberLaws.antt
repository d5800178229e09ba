-- Each item is of one region.
use Rattle.std.proofs.Common.{ℕ, zero, suc, ◌≡◌, ◌+◌, ◌<◌, ◌≤◌, ◌^◌, cond, eqb, List, [], ◌∷◌, length, refl, ap, arith, inl, inr, sum_by, All}
use Rattle.std.specs.List.{range_with_len}
use Rattle.std.proofs.lemmas.{Bool.{cases_eq, cases_Bool, eq-eqb, ne_eqb}, List.{Elements.{All-head, All-tail}, Sums.sum_by-cons}}
use Rattle.lert_spec.specs.{declared.item.Item.Item, declared.numbers.Numbers.Numbers, Counts.weighed, Edges.key_bits, Mix.{cone_of, part_in}}
use Rattle.lert_spec.proofs.MixLaws.{cone_below}
use Rattle.lert_census.specs.Tally.{IsItem}

-- sums of sums
sums_add : (f g h : ℕ → ℕ) → ((n : ℕ) → f n ≡ g n + h n) → (ns : List ℕ) → sum_by f ns ≡ sum_by g ns + sum_by h ns
sums_add f g h same [] = refl
sums_add f g h same (n ∷ ns) = omega (arith, sum_by-cons f n ns, sum_by-cons g n ns, sum_by-cons h n ns, same n, sums_add f g h same ns)

sum_none : (ns : List ℕ) → sum_by (λ _. 0) ns ≡ 0
sum_none [] = refl
sum_none (n ∷ ns) = omega (arith, sum_by-cons (λ (_ : ℕ). 0) n ns, sum_none ns)

-- one of the numbers from one on is a number among them, and none is one before them
abbrev is_it : ℕ → ℕ → ℕ
is_it own n = cond {A = ℕ} (eqb own n) 1 0

outside : (own first count : ℕ) → own < first → sum_by (is_it own) (range_with_len first count) ≡ 0
outside own first zero below = refl
outside own first (suc count) below =
    omega (
      arith,
      sum_by-cons (is_it own) first (range_with_len (first + 1) count),
      ap (λ t. cond {A = ℕ} t 1 0) (ne_eqb own first (λ same. omega (arith, same, below))),
      outside own (first + 1) count (omega (arith, below)),
    )

inside : (own first count : ℕ) → first ≤ own → own < first + count → sum_by (is_it own) (range_with_len first count) ≡ 1
inside own first zero from to = absurd (omega (arith, from, to))
inside own first (suc count) from to =
    let parts = sum_by-cons (is_it own) first (range_with_len (first + 1) count) in
    elim (cases_eq own first) [
      | inl same ↦ omega (arith, parts, ap (λ t. cond {A = ℕ} t 1 0) (eq-eqb own first same), outside own (first + 1) count (omega (arith, same)))
      | inr differs ↦ omega (
        arith,
        parts,
        ap (λ t. cond {A = ℕ} t 1 0) (ne_eqb own first differs),
        inside own (first + 1) count (omega (arith, from, differs)) (omega (arith, to)),
      )
    ]

module _ (s : Numbers) (bits : s.cone_bits ≤ key_bits s) where
  part-cons : (item : Item) (items : List Item) (region : ℕ) →
      length (part_in weighed s region (item ∷ items)) ≡ is_it (cone_of s item.key) region + length (part_in weighed s region items)
  part-cons item items region =
      let rest = part_in weighed s region items in
      elim (cases_Bool (eqb (cone_of s item.key) region)) [
        | inl own ↦ omega (arith, ap (λ t. length (cond t (item ∷ rest) rest)) own, ap (λ t. cond {A = ℕ} t 1 0) own)
        | inr other ↦ omega (arith, ap (λ t. length (cond t (item ∷ rest) rest)) other, ap (λ t. cond {A = ℕ} t 1 0) other)
      ]

  pub parts_number : (items : List Item) → All (IsItem s) items →
      sum_by (λ region. length (part_in weighed s region items)) (range_with_len 0 (2 ^ s.cone_bits)) ≡ length items
  parts_number [] are = sum_none (range_with_len 0 (2 ^ s.cone_bits))
  parts_number (item ∷ items) are =
      let cones = range_with_len 0 (2 ^ s.cone_bits) in
      let own = cone_of s item.key in
      omega (
        arith,
        sums_add (λ region. length (part_in weighed s region (item ∷ items))) (is_it own) (λ region. length (part_in weighed s region items)) (part-cons item items) cones,
        inside own 0 (2 ^ s.cone_bits) (omega arith) (omega (arith, cone_below s item.key bits (All-head (IsItem s) item items are).fits)),
        parts_number items (All-tail (IsItem s) item items are),
      )
