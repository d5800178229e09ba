-- The slots of a group are below 2 to its width.
use Rattle.std.proofs.Common.{◌≡◌, ℕ, suc, zero, ◌-◌, ◌*◌, ◌/◌, ◌%◌, ◌^◌, ◌<◌, ◌≤◌, List, [], ◌∷◌, ◌++◌, map, ap, ◌∙◌, inl, inr, arith, All}
use Rattle.std.proofs.{lemmas.List.Elements.{All-append, All-map, All-cons, All-nil, All-same, All-weaker}, Math.Nat.{pow-le-pow_left, pow-suc, pow-zero, one-mul}, lemmas.Nat.{div_below, mod_below}}
use Rattle.std.proofs.{lemmas.Bool.cases_lt, lemmas.Bool.Decides.nat_tests}
use Rattle.lert_counter.specs.Group.{digits, written, digit_base, group, IsCount}
use Rattle.lert_counter.proofs.{DigitLemmas.{digits-suc, digits-last}, Widths.width_least, GroupLemmas.shape_of, GroupLemmas.Shape.{one, two, three, zeros, bare, guarded}}

-- the digits of a number that has room for them are below the base
digits_below : (room b n : ℕ) → 0 < b → n < b ^ suc room → All (λ d. d < b) (digits room b n)
digits_below zero b n positive h = All-cons (λ d. d < b) n [] (let e : b ^ 1 ≡ b ^ 0 * b = pow-suc b 0 in
    (let one : b ^ 0 ≡ 1 = pow-zero b in (let same : b ^ 1 ≡ b = e ∙ ap (λ k. k * b) one ∙ one-mul b in omega arith))) (All-nil (λ d. d < b))
digits_below (suc room) b n positive h =
    elim (cases_lt n b) [
      | inl less ↦ All-same (λ d. d < b) _ (n ∷ []) (digits-last room b n less) (All-cons (λ d. d < b) n [] less (All-nil (λ d. d < b)))
      | inr more ↦ All-same (λ d. d < b) _ _ (digits-suc room b n more)
          (All-append (λ d. d < b) (digits room b (n / b)) (n % b ∷ [])
          (digits_below room b (n / b) positive (div_below n b (b ^ suc room) positive (rw (← pow-suc b (suc room)) h)))
          (All-cons (λ d. d < b) (n % b) [] (mod_below n b positive) (All-nil (λ d. d < b))))
    ]

-- six digits are enough for each count
count_below : (b n : ℕ) → 254 ≤ b → n ≤ 2 ^ 47 → n < b ^ 6
count_below b n least most = let six : 254 ^ 6 ≤ b ^ 6 = pow-le-pow_left least 6 in omega arith

all_written : (limit b x : ℕ) (ds : List ℕ) → ((d : ℕ) → d < b → written x d < limit) → All (λ d. d < b) ds → All (λ slot. slot < limit) (map (written x) ds)
all_written limit b x ds fits below = All-map (λ slot. slot < limit) (written x) ds (All-weaker (λ d. d < b) (λ d. written x d < limit) fits ds below)

written_fits : (width x d : ℕ) → 8 ≤ width → d < digit_base width x → written x d < 2 ^ width
written_fits width x d wide h = let least = width_least width wide in grind (arith, nat_tests)

base_fits : (width x : ℕ) → 8 ≤ width → 254 ≤ digit_base width x
base_fits width x wide = let least = width_least width wide in grind (arith, nat_tests)

digits_fit : (width x n : ℕ) → 8 ≤ width → n ≤ 2 ^ 47 → All (λ slot. slot < 2 ^ width) (map (written x) (digits 5 (digit_base width x) n))
digits_fit width x n wide most =
    let base = base_fits width x wide in
    all_written (2 ^ width) (digit_base width x) x _ (λ d h. written_fits width x d wide h)
    (digits_below 5 (digit_base width x) n (omega arith) (count_below (digit_base width x) n base most))

pub slots_below : (width x c : ℕ) → 8 ≤ width → IsCount c → x < 2 ^ width → All (λ slot. slot < 2 ^ width) (group width x c)
slots_below width x c wide counts fits =
    let P : ℕ → Type 0 = λ slot. slot < 2 ^ width in
    let last : All P (x ∷ []) = All-cons P x [] fits (All-nil P) in
    let least = width_least width wide in
    let none : P 0 = omega arith in
    elim (shape_of width x c counts.0) [
      | one e is ↦ All-same P _ _ is last
      | two e is ↦ All-same P _ _ is (All-cons P x (x ∷ []) fits last)
      | three z e is ↦ All-same P _ _ is (All-cons P 0 (0 ∷ 0 ∷ []) none (All-cons P 0 (0 ∷ []) none (All-cons P 0 [] none (All-nil P))))
      | zeros z l is ↦ All-same P _ _ is (All-cons P 0 _ none (All-append P _ (0 ∷ 0 ∷ []) (digits_fit width 0 (c - 4) wide (omega (arith, counts.1)))
          (All-cons P 0 (0 ∷ []) none (All-cons P 0 [] none (All-nil P)))))
      | bare p l w is ↦ All-same P _ _ is (All-cons P x _ fits (All-append P _ (x ∷ []) (digits_fit width x (c - 3) wide (omega (arith, counts.1))) last))
      | guarded p l w is ↦ All-same P _ _ is (All-cons P x (0 ∷ (map (written x) (digits 5 (digit_base width x) (c - 3)) ++ x ∷ [])) fits
          (All-cons P 0 _ none (All-append P _ (x ∷ []) (digits_fit width x (c - 3) wide (omega (arith, counts.1))) last)))
    ]
