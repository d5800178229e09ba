-- The length of a group, its first value, and that it has no two zeros beside each other.
use Rattle.std.proofs.Common.{◌≡◌, ℕ, suc, zero, ◌+◌, ◌-◌, ◌<◌, ◌≤◌, List, [], ◌∷◌, ◌++◌, length, map, get_or, sym, ap, ◌∙◌, subst, inl, inr, arith, length-append, append_assoc, add-one}
use Rattle.std.proofs.{lemmas.List.length-map, lemmas.Bool.{cases_lt, cases_eq}}
use Rattle.lert_counter.specs.{Group.{digits, written, digit_base, group}, Reading.HasTwoZeros}
use Rattle.lert_counter.proofs.{DigitLemmas.{length_digits-le, length_digits-positive}, CounterLemmas.{counter-zero, counter-guarded, counter-bare, group-counter, group-one, group-two, group-three}}
use Rattle.lert_counter.proofs.ScanLemmas.{written-positive}

-- the six texts that a group can have
pub data Shape (width x c : ℕ) : Type 0 where
  one : c ≡ 1 → group width x c ≡ x ∷ [] → Shape width x c
  two : c ≡ 2 → group width x c ≡ x ∷ x ∷ [] → Shape width x c
  three : x ≡ 0 → c ≡ 3 → group width x c ≡ 0 ∷ 0 ∷ 0 ∷ [] → Shape width x c
  zeros : x ≡ 0 → 4 ≤ c → group width x c ≡ 0 ∷ (map (written 0) (digits 5 (digit_base width 0) (c - 4)) ++ 0 ∷ 0 ∷ []) → Shape width x c
  bare : 0 < x → 3 ≤ c → written x (get_or (digits 5 (digit_base width x) (c - 3)) 0 0) ≤ x
      → group width x c ≡ x ∷ (map (written x) (digits 5 (digit_base width x) (c - 3)) ++ x ∷ []) → Shape width x c
  guarded : 0 < x → 3 ≤ c → x < written x (get_or (digits 5 (digit_base width x) (c - 3)) 0 0)
      → group width x c ≡ x ∷ 0 ∷ (map (written x) (digits 5 (digit_base width x) (c - 3)) ++ x ∷ []) → Shape width x c

pub shape_of : (width x c : ℕ) → 1 ≤ c → Shape width x c
shape_of width x c positive =
    elim (cases_eq c 1) [
      | inl e ↦ one e (ap (group width x) e ∙ group-one width x)
      | inr not_one ↦ elim (cases_eq c 2) [
        | inl e ↦ two e (ap (group width x) e ∙ group-two width x)
        | inr not_two ↦ elim (cases_eq x 0) [
          | inl z ↦ elim (cases_eq c 3) [
            | inl e ↦ three z e (ap (λ y. group width y c) z ∙ ap (group width 0) e ∙ group-three width)
            | inr more ↦ zeros z (omega arith) (ap (λ y. group width y c) z ∙ group-counter width 0 c (omega arith) (λ _. omega arith) ∙ counter-zero width c)
          ]
          | inr above ↦ elim (cases_lt x (written x (get_or (digits 5 (digit_base width x) (c - 3)) 0 0))) [
            | inl greater ↦ guarded (omega arith) (omega arith) greater (group-counter width x c (omega arith) (λ z. absurd (above z)) ∙ counter-guarded width x c (omega arith) greater)
            | inr less ↦ bare (omega arith) (omega arith) less (group-counter width x c (omega arith) (λ z. absurd (above z)) ∙ counter-bare width x c (omega arith) less)
          ]
        ]
      ]
    ]

-- the length of digits between two ends
pub length_middle : (x n b : ℕ) (tail : List ℕ) → length (map (written x) (digits 5 b n) ++ tail) ≡ length (digits 5 b n) + length tail
length_middle x n b tail = length-append (map (written x) (digits 5 b n)) tail ∙ ap (λ k. k + length tail) (length-map (digits 5 b n) (written x))

-- a group has one to nine slots
pub length_group-positive : (width x c : ℕ) → 1 ≤ c → 0 < length (group width x c)
length_group-positive width x c positive =
    elim (shape_of width x c positive) [
      | one e is ↦ omega (arith, ap (λ (t : List ℕ). length t) is)
      | two e is ↦ omega (arith, ap (λ (t : List ℕ). length t) is)
      | three z e is ↦ omega (arith, ap (λ (t : List ℕ). length t) is)
      | zeros z l is ↦ omega (arith, ap (λ (t : List ℕ). length t) is)
      | bare p l w is ↦ omega (arith, ap (λ (t : List ℕ). length t) is)
      | guarded p l w is ↦ omega (arith, ap (λ (t : List ℕ). length t) is)
    ]

pub length_group-le : (width x c : ℕ) → 1 ≤ c → length (group width x c) ≤ 9
length_group-le width x c positive =
    let most = length_digits-le 5 (digit_base width 0) (c - 4) in
    let most_above = length_digits-le 5 (digit_base width x) (c - 3) in
    elim (shape_of width x c positive) [
      | one e is ↦ omega (arith, ap (λ (t : List ℕ). length t) is)
      | two e is ↦ omega (arith, ap (λ (t : List ℕ). length t) is)
      | three z e is ↦ omega (arith, ap (λ (t : List ℕ). length t) is)
      | zeros z l is ↦ omega (arith, ap (λ (t : List ℕ). length t) is, length_middle 0 (c - 4) (digit_base width 0) (0 ∷ 0 ∷ []))
      | bare p l w is ↦ omega (arith, ap (λ (t : List ℕ). length t) is, length_middle x (c - 3) (digit_base width x) (x ∷ []))
      | guarded p l w is ↦ omega (arith, ap (λ (t : List ℕ). length t) is, length_middle x (c - 3) (digit_base width x) (x ∷ []))
    ]

-- a group begins with its remainder
pub group-first : (width x c : ℕ) (back : List ℕ) → 1 ≤ c → get_or (group width x c ++ back) 0 0 ≡ x
group-first width x c back positive =
    elim (shape_of width x c positive) [
      | one e is ↦ ap (λ (t : List ℕ). get_or (t ++ back) 0 0) is
      | two e is ↦ ap (λ (t : List ℕ). get_or (t ++ back) 0 0) is
      | three z e is ↦ ap (λ (t : List ℕ). get_or (t ++ back) 0 0) is ∙ sym z
      | zeros z l is ↦ ap (λ (t : List ℕ). get_or (t ++ back) 0 0) is ∙ sym z
      | bare p l w is ↦ ap (λ (t : List ℕ). get_or (t ++ back) 0 0) is
      | guarded p l w is ↦ ap (λ (t : List ℕ). get_or (t ++ back) 0 0) is
    ]

-- two zeros stand behind a value above 0
zeros_behind : (y : ℕ) (back : List ℕ) → 0 < y → HasTwoZeros (y ∷ back) → HasTwoZeros back
zeros_behind y back positive (zero, within, first, second) = absurd (omega arith)
zeros_behind y back positive (suc k, within, first, second) =
    (k, omega (arith, add-one k), first, let e : suc k + 1 ≡ suc (k + 1) = omega arith in (rw e at second))

-- a guard and a digit hold no two zeros
zeros_behind_guard : (z : ℕ) (back : List ℕ) → 0 < z → HasTwoZeros (0 ∷ z ∷ back) → HasTwoZeros (z ∷ back)
zeros_behind_guard z back positive (zero, within, first, second) = absurd (omega arith)
zeros_behind_guard z back positive (suc k, within, first, second) =
    (k, omega (arith, add-one k), first, let e : suc k + 1 ≡ suc (k + 1) = omega arith in (rw e at second))

zeros_behind_digits : (x : ℕ) (ds back : List ℕ) → HasTwoZeros (map (written x) ds ++ back) → HasTwoZeros back
zeros_behind_digits x [] back h = h
zeros_behind_digits x (d ∷ ds) back h = zeros_behind_digits x ds back (zeros_behind (written x d) (map (written x) ds ++ back) (written-positive x d) h)

-- nor does the group of a remainder above 0
guard_apart : (x : ℕ) (ds back : List ℕ) → 0 < length ds → HasTwoZeros (0 ∷ (map (written x) ds ++ back)) → HasTwoZeros back
guard_apart x [] back some h = absurd (omega arith)
guard_apart x (d ∷ ds) back some h =
    zeros_behind_digits x ds back (zeros_behind (written x d) (map (written x) ds ++ back) (written-positive x d)
    (zeros_behind_guard (written x d) (map (written x) ds ++ back) (written-positive x d) h))

pub group-apart : (width x c : ℕ) (back : List ℕ) → 1 ≤ c → 0 < x → HasTwoZeros (group width x c ++ back) → HasTwoZeros back
group-apart width x c back positive above h =
    elim (shape_of width x c positive) [
      | one e is ↦ zeros_behind x back above (subst (λ (t : List ℕ). HasTwoZeros (t ++ back)) is h)
      | two e is ↦ zeros_behind x back above (zeros_behind x (x ∷ back) above (subst (λ (t : List ℕ). HasTwoZeros (t ++ back)) is h))
      | three z e is ↦ absurd (omega arith)
      | zeros z l is ↦ absurd (omega arith)
      | bare p l w is ↦ (let ds = digits 5 (digit_base width x) (c - 3) in
          zeros_behind x back above (zeros_behind_digits x ds (x ∷ back)
          (zeros_behind x (map (written x) ds ++ x ∷ back) above
          (subst HasTwoZeros (ap (λ (t : List ℕ). t ++ back) is ∙ ap (λ (t : List ℕ). x ∷ t) (append_assoc (map (written x) ds) (x ∷ []) back)) h))))
      | guarded p l w is ↦ (let ds = digits 5 (digit_base width x) (c - 3) in
          zeros_behind x back above (guard_apart x ds (x ∷ back) (length_digits-positive 5 (digit_base width x) (c - 3))
          (zeros_behind x (0 ∷ (map (written x) ds ++ x ∷ back)) above
          (subst HasTwoZeros (ap (λ (t : List ℕ). t ++ back) is ∙ ap (λ (t : List ℕ). x ∷ 0 ∷ t) (append_assoc (map (written x) ds) (x ∷ []) back)) h))))
    ]
