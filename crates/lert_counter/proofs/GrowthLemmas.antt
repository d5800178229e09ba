-- How the length of a group grows with its count.
use Rattle.std.proofs.Common.{◌≡◌, ℕ, suc, zero, ◌+◌, ◌-◌, ◌*◌, ◌/◌, ◌%◌, ◌<◌, ◌≤◌, List, [], ◌∷◌, ◌++◌, length, map, get_or, refl, ap, ◌∙◌, inl, inr, ◌⊎◌, arith, length-append}
use Rattle.std.proofs.{lemmas.List.get_or_append_left, Math.Nat.{div-lt_self, div-mul-le_self}, lemmas.Nat.{le-div, div_below}, lemmas.Bool.cases_lt, lemmas.Bool.Decides.nat_tests}
use Rattle.lert_counter.specs.Group.{digits, written, digit_base, group}
use Rattle.lert_counter.proofs.{DigitLemmas.{length_digits-positive, length_digits-le, digits-suc, digits-last}, Widths.width_least, GroupLemmas.{shape_of, length_middle, length_group-positive}}
use Rattle.lert_counter.proofs.GroupLemmas.Shape.{one, two, three, zeros, bare, guarded}

-- a number's digits are at most one more than the number
pub length_digits-number : (room b n : ℕ) → 2 ≤ b → length (digits room b n) ≤ n + 1
length_digits-number zero b n least = omega arith
length_digits-number (suc room) b n least =
    elim (cases_lt n b) [
      | inl less ↦ (let e : digits (suc room) b n ≡ n ∷ [] = digits-last room b n less in omega (arith, ap (λ (t : List ℕ). length t) e))
      | inr more ↦ (let shorter = length_digits-number room b (n / b) least in
          let half : n / b + 1 ≤ n = let p : 0 < n = omega arith in let q : 1 < b = omega arith in (let r : n / b < n = div-lt_self p q in omega arith) in
          omega (arith, ap (λ (t : List ℕ). length t) (digits-suc room b n more), length-append (digits room b (n / b)) (n % b ∷ [])))
    ]

-- a greater number has more digits, or as many and no smaller first
pub digits_grow : (room b n m : ℕ) → 0 < b → n ≤ m
    → (length (digits room b n) < length (digits room b m)) ⊎ ((length (digits room b n) ≡ length (digits room b m)) × (get_or (digits room b n) 0 0 ≤ get_or (digits room b m) 0 0))
digits_grow zero b n m positive h = inr (refl, h)
digits_grow (suc room) b n m positive h =
    elim (cases_lt n b) [
      | inl less ↦ (let short : digits (suc room) b n ≡ n ∷ [] = digits-last room b n less in
          elim (cases_lt m b) [
            | inl lower ↦ (let last : digits (suc room) b m ≡ m ∷ [] = digits-last room b m lower in rw (short, last) (inr (refl, h)))
            | inr more ↦ inl (let some = length_digits-positive room b (m / b) in
                omega (arith, ap (λ (t : List ℕ). length t) short, ap (λ (t : List ℕ). length t) (digits-suc room b m more), length-append (digits room b (m / b)) (m % b ∷ [])))
          ])
      | inr more ↦ (let over : b ≤ m = omega arith in
          let n_is = digits-suc room b n more in
          let m_is = digits-suc room b m over in
          let n_long = ap (λ (t : List ℕ). length t) n_is ∙ length-append (digits room b (n / b)) (n % b ∷ []) in
          let m_long = ap (λ (t : List ℕ). length t) m_is ∙ length-append (digits room b (m / b)) (m % b ∷ []) in
          let n_first = ap (λ (t : List ℕ). get_or t 0 0) n_is ∙ get_or_append_left (digits room b (n / b)) (n % b ∷ []) 0 0 (length_digits-positive room b (n / b)) in
          let m_first = ap (λ (t : List ℕ). get_or t 0 0) m_is ∙ get_or_append_left (digits room b (m / b)) (m % b ∷ []) 0 0 (length_digits-positive room b (m / b)) in
          elim (digits_grow room b (n / b) (m / b) positive (le-div (n / b) m b positive (let under = div-mul-le_self n b in omega arith))) [
            | inl shorter ↦ inl (omega arith)
            | inr same ↦ inr (omega (arith, same.0), omega (arith, same.1))
          ])
    ]

-- a greater digit is written as a greater value
written-grows : (x d e : ℕ) → d ≤ e → written x d ≤ written x e
written-grows x d e h = grind (arith, nat_tests)

base_least : (width x : ℕ) → 8 ≤ width → 2 ≤ digit_base width x
base_least width x wide = let least = width_least width wide in grind (arith, nat_tests)

-- the lengths of the texts that have digits
length_zeros : (width c : ℕ) (t : List ℕ) → t ≡ 0 ∷ (map (written 0) (digits 5 (digit_base width 0) (c - 4)) ++ 0 ∷ 0 ∷ []) →
    length t ≡ length (digits 5 (digit_base width 0) (c - 4)) + 3
length_zeros width c t is = omega (arith, ap (λ (t : List ℕ). length t) is, length_middle 0 (c - 4) (digit_base width 0) (0 ∷ 0 ∷ []))

length_bare : (width x c : ℕ) (t : List ℕ) → t ≡ x ∷ (map (written x) (digits 5 (digit_base width x) (c - 3)) ++ x ∷ []) →
    length t ≡ length (digits 5 (digit_base width x) (c - 3)) + 2
length_bare width x c t is = omega (arith, ap (λ (t : List ℕ). length t) is, length_middle x (c - 3) (digit_base width x) (x ∷ []))

length_guarded : (width x c : ℕ) (t : List ℕ) → t ≡ x ∷ 0 ∷ (map (written x) (digits 5 (digit_base width x) (c - 3)) ++ x ∷ []) →
    length t ≡ length (digits 5 (digit_base width x) (c - 3)) + 3
length_guarded width x c t is = omega (arith, ap (λ (t : List ℕ). length t) is, length_middle x (c - 3) (digit_base width x) (x ∷ []))

base_large : (width x : ℕ) → 8 ≤ width → 254 ≤ digit_base width x
base_large width x wide = let least = width_least width wide in grind (arith, nat_tests)

-- a number below the base has one digit, and one up to 507 has two at most
one_digit : (b n : ℕ) → n < b → length (digits 5 b n) ≡ 1
one_digit b n less = ap (λ (t : List ℕ). length t) (digits-last 4 b n less)

two_digits : (b n : ℕ) → 254 ≤ b → n ≤ 507 → length (digits 5 b n) ≤ 2
two_digits b n large few =
    elim (cases_lt n b) [
      | inl less ↦ omega (arith, one_digit b n less)
      | inr more ↦ (let below : n / b < 254 = div_below n b 254 (omega arith) (omega arith) in
          let last : digits 4 b (n / b) ≡ n / b ∷ [] = digits-last 3 b (n / b) (omega arith) in
          omega (arith, ap (λ (t : List ℕ). length t) (digits-suc 4 b n more), length-append (digits 4 b (n / b)) (n % b ∷ []), ap (λ (t : List ℕ). length t) last))
    ]

-- three more slots than digits are no more than four for each 255 of a count that is greater by three or four
few_slots : (b c less slots : ℕ) → 254 ≤ b → 3 ≤ less → less ≤ c → slots ≤ length (digits 5 b (c - less)) + 3 → slots ≤ 4 * ((c + 254) / 255)
few_slots b c less slots large least most is =
    elim (cases_lt c 256) [
      | inl low ↦ omega (arith, one_digit b (c - less) (omega arith))
      | inr above ↦ elim (cases_lt c 511) [
        | inl low ↦ omega (arith, two_digits b (c - less) large (omega arith))
        | inr high ↦ omega (arith, length_digits-le 5 b (c - less))
      ]
    ]

-- a group has at most four slots for each 255 of its count
pub length_group-four : (width x c : ℕ) → 8 ≤ width → 1 ≤ c → length (group width x c) ≤ 4 * ((c + 254) / 255)
length_group-four width x c wide positive =
    let large = base_large width x wide in
    let large_zero = base_large width 0 wide in
    elim (shape_of width x c positive) [
      | one e is ↦ omega (arith, ap (λ (t : List ℕ). length t) is)
      | two e is ↦ omega (arith, ap (λ (t : List ℕ). length t) is)
      | three z e is ↦ omega (arith, ap (λ (t : List ℕ). length t) is)
      | zeros z l is ↦ few_slots (digit_base width 0) c 4 _ large_zero (omega arith) l (let long = length_zeros width c _ is in omega arith)
      | bare p l w is ↦ few_slots (digit_base width x) c 3 _ large (omega arith) l (let long = length_bare width x c _ is in omega arith)
      | guarded p l w is ↦ few_slots (digit_base width x) c 3 _ large (omega arith) l (let long = length_guarded width x c _ is in omega arith)
    ]

-- the least lengths of a group, by its count
least_length : (width x c : ℕ) → 2 ≤ c → 2 ≤ length (group width x c)
least_length width x c h =
    let some = length_digits-positive 5 (digit_base width 0) (c - 4) in
    let some_above = length_digits-positive 5 (digit_base width x) (c - 3) in
    elim (shape_of width x c (omega arith)) [
      | one e is ↦ absurd (omega arith)
      | two e is ↦ omega (arith, ap (λ (t : List ℕ). length t) is)
      | three z e is ↦ omega (arith, ap (λ (t : List ℕ). length t) is)
      | zeros z l is ↦ omega (arith, length_zeros width c _ is)
      | bare p l w is ↦ omega (arith, length_bare width x c _ is)
      | guarded p l w is ↦ omega (arith, length_guarded width x c _ is)
    ]

-- a counter grows with its count
bare_grows : (width x c d : ℕ) → 8 ≤ width → 0 < x → 3 ≤ c → c ≤ d → length (group width x c) ≡ length (digits 5 (digit_base width x) (c - 3)) + 2 →
    length (group width x c) ≤ length (group width x d)
bare_grows width x c d wide above least h is =
    let base = base_least width x wide in
    elim (shape_of width x d (omega arith)) [
      | one e t ↦ absurd (omega arith)
      | two e t ↦ absurd (omega arith)
      | three z e t ↦ absurd (omega arith)
      | zeros z l t ↦ absurd (omega arith)
      | bare p l w t ↦ elim (digits_grow 5 (digit_base width x) (c - 3) (d - 3) (omega arith) (omega arith)) [
        | inl shorter ↦ omega (arith, length_bare width x d _ t)
        | inr same ↦ omega (arith, length_bare width x d _ t, same.0)
      ]
      | guarded p l w t ↦ elim (digits_grow 5 (digit_base width x) (c - 3) (d - 3) (omega arith) (omega arith)) [
        | inl shorter ↦ omega (arith, length_guarded width x d _ t)
        | inr same ↦ omega (arith, length_guarded width x d _ t, same.0)
      ]
    ]

guarded_grows : (width x c d : ℕ) → 8 ≤ width → 0 < x → 3 ≤ c → c ≤ d → x < written x (get_or (digits 5 (digit_base width x) (c - 3)) 0 0)
    → length (group width x c) ≡ length (digits 5 (digit_base width x) (c - 3)) + 3 → length (group width x c) ≤ length (group width x d)
guarded_grows width x c d wide above least h greater is =
    let base = base_least width x wide in
    elim (shape_of width x d (omega arith)) [
      | one e t ↦ absurd (omega arith)
      | two e t ↦ absurd (omega arith)
      | three z e t ↦ absurd (omega arith)
      | zeros z l t ↦ absurd (omega arith)
      | bare p l w t ↦ elim (digits_grow 5 (digit_base width x) (c - 3) (d - 3) (omega arith) (omega arith)) [
        | inl shorter ↦ omega (arith, length_bare width x d _ t)
        | inr same ↦ absurd (omega (arith, written-grows x (get_or (digits 5 (digit_base width x) (c - 3)) 0 0) (get_or (digits 5 (digit_base width x) (d - 3)) 0 0) same.1))
      ]
      | guarded p l w t ↦ elim (digits_grow 5 (digit_base width x) (c - 3) (d - 3) (omega arith) (omega arith)) [
        | inl shorter ↦ omega (arith, length_guarded width x d _ t)
        | inr same ↦ omega (arith, length_guarded width x d _ t, same.0)
      ]
    ]

zeros_grow : (width x c d : ℕ) → 8 ≤ width → x ≡ 0 → 4 ≤ c → c ≤ d → length (group width x c) ≡ length (digits 5 (digit_base width 0) (c - 4)) + 3 →
    length (group width x c) ≤ length (group width x d)
zeros_grow width x c d wide z least h is =
    let base = base_least width 0 wide in
    elim (shape_of width x d (omega arith)) [
      | one e t ↦ absurd (omega arith)
      | two e t ↦ absurd (omega arith)
      | three y e t ↦ absurd (omega arith)
      | bare p l w t ↦ absurd (omega arith)
      | guarded p l w t ↦ absurd (omega arith)
      | zeros y l t ↦ elim (digits_grow 5 (digit_base width 0) (c - 4) (d - 4) (omega arith) (omega arith)) [
        | inl shorter ↦ omega (arith, length_zeros width d _ t)
        | inr same ↦ omega (arith, length_zeros width d _ t, same.0)
      ]
    ]

three_grows : (width x d : ℕ) → x ≡ 0 → 3 ≤ d → 3 ≤ length (group width x d)
three_grows width x d z least =
    let some = length_digits-positive 5 (digit_base width 0) (d - 4) in
    elim (shape_of width x d (omega arith)) [
      | one e t ↦ absurd (omega arith)
      | two e t ↦ absurd (omega arith)
      | three y e t ↦ omega (arith, ap (λ (t : List ℕ). length t) t)
      | bare p l w t ↦ absurd (omega arith)
      | guarded p l w t ↦ absurd (omega arith)
      | zeros y l t ↦ omega (arith, length_zeros width d _ t)
    ]

-- a group never gets shorter as its count rises
pub length_group-grows : (width x c d : ℕ) → 8 ≤ width → 1 ≤ c → c ≤ d → length (group width x c) ≤ length (group width x d)
length_group-grows width x c d wide positive h =
    let some = length_group-positive width x d (omega arith) in
    elim (shape_of width x c positive) [
      | one e is ↦ omega (arith, ap (λ (t : List ℕ). length t) is)
      | two e is ↦ omega (arith, ap (λ (t : List ℕ). length t) is, least_length width x d (omega arith))
      | three z e is ↦ omega (arith, ap (λ (t : List ℕ). length t) is, three_grows width x d z (omega arith))
      | zeros z l is ↦ zeros_grow width x c d wide z l h (length_zeros width c _ is)
      | bare p l w is ↦ bare_grows width x c d wide p l h (length_bare width x c _ is)
      | guarded p l w is ↦ guarded_grows width x c d wide p l h w (length_guarded width x c _ is)
    ]
