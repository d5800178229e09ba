-- A group that was written is read back.
use Rattle.std.proofs.Common.{◌≡◌, ℕ, suc, zero, ◌+◌, ◌-◌, ◌*◌, ◌/◌, ◌%◌, ◌^◌, ◌<◌, ◌≤◌, ◌≢◌, List, [], ◌∷◌, ◌++◌, length, map, take}
use Rattle.std.proofs.Common.{drop, get_or, sym, ap, ◌∙◌, inl, inr, arith, length-append, append_assoc, Option, Some}
use Rattle.std.proofs.lemmas.List.{get_or_append_left, length-map, get_or-append-add, get_or-drop, take_rest}
use Rattle.std.proofs.lemmas.List.Sums.{fold-append}
use Rattle.std.proofs.lemmas.Nat.{div-add-mod'}
use Rattle.std.proofs.lemmas.Bool.{cases_lt}
use Rattle.lert_counter.specs.Group.{digits, written, digit_base, group}
use Rattle.lert_counter.specs.Reading.{number_of}
use Rattle.lert_counter.specs.declared.read.Digits.{Digits}
use Rattle.lert_counter.proofs.DigitLemmas.{length_digits-le, length_digits-positive, digits-first, digits-suc, digits-last}
use Rattle.lert_counter.proofs.CounterLemmas.{counter-zero, counter-guarded, counter-bare, group-counter}
use Rattle.lert_counter.proofs.ScanLemmas.{written-positive}

-- digits spell the number that they are of
pub number_of-digits : (room b n : ℕ) → number_of b (digits room b n) ≡ n
number_of-digits zero b n = omega arith
number_of-digits (suc room) b n =
    elim (cases_lt n b) [
      | inl less ↦ (let e : digits (suc room) b n ≡ n ∷ [] = digits-last room b n less in ap (number_of b) e ∙ omega arith)
      | inr more ↦
          ap (number_of b) (digits-suc room b n more) ∙ fold-append (λ n d. n * b + d) 0 (digits room b (n / b)) (n % b ∷ [])
          ∙ ap (λ k. k * b + n % b) (number_of-digits room b (n / b)) ∙ div-add-mod' n b
    ]

module _ (width x c : ℕ) (back rest : List ℕ) where
  -- where the digits stand in a counter of a remainder above 0, and how long it is
  pub counter_text : 0 < x → 3 ≤ c → rest ≡ group width x c ++ back → (start : ℕ) → (get_or rest 1 0 ≡ 0 → start ≡ 2) → (get_or rest 1 0 ≢ 0 → start ≡ 1)
      → (drop start rest ≡ map (written x) (digits 5 (digit_base width x) (c - 3)) ++ x ∷ back)
      × (start + length (digits 5 (digit_base width x) (c - 3)) + 1 ≡ length (group width x c))
  counter_text positive least text start guard bare =
      let ds = digits 5 (digit_base width x) (c - 3) in
      let same = group-counter width x c least (λ z. absurd (omega arith)) in
      let first = digits-first 5 (digit_base width x) (c - 3) (written x) in
      let none_empty = length_digits-positive 5 (digit_base width x) (c - 3) in
      elim (cases_lt x (written x (get_or ds 0 0))) [
        | inl greater ↦
            (let whole : group width x c ≡ x ∷ 0 ∷ (map (written x) ds ++ x ∷ []) = same ∙ counter-guarded width x c positive greater in
            let is : rest ≡ x ∷ 0 ∷ ((map (written x) ds ++ x ∷ []) ++ back) = text ∙ ap (λ (t : List ℕ). t ++ back) whole in
            let two : start ≡ 2 = guard (ap (λ (t : List ℕ). get_or t 1 0) is) in (
              rw two (ap (λ (t : List ℕ). drop 2 t) is ∙ append_assoc (map (written x) ds) (x ∷ []) back),
              rw (two, whole) (omega (arith, length-append (map (written x) ds) (x ∷ []), length-map ds (written x))),
            ))
        | inr less ↦
            (let whole : group width x c ≡ x ∷ (map (written x) ds ++ x ∷ []) = same ∙ counter-bare width x c positive less in
            let is : rest ≡ x ∷ ((map (written x) ds ++ x ∷ []) ++ back) = text ∙ ap (λ (t : List ℕ). t ++ back) whole in
            let second : get_or rest 1 0 ≡ get_or (map (written x) ds) 0 0 =
            ap (λ (t : List ℕ). get_or t 1 0) (is ∙ ap (λ (t : List ℕ). x ∷ t) (append_assoc (map (written x) ds) (x ∷ []) back))
            ∙ get_or_append_left (map (written x) ds) (x ∷ back) 0 0 (simp length-map none_empty) in
            let shown = written-positive x (get_or ds 0 0) in
            let one : start ≡ 1 = bare (λ z. omega arith) in (
              rw one (ap (λ (t : List ℕ). drop 1 t) is ∙ append_assoc (map (written x) ds) (x ∷ []) back),
              rw (one, whole) (omega (arith, length-append (map (written x) ds) (x ∷ []), length-map ds (written x))),
            ))
      ]

module _ (width c : ℕ) (back rest : List ℕ) where
  -- the same for a counter of 0
  pub zero_text : 4 ≤ c → rest ≡ group width 0 c ++ back
      → (drop 1 rest ≡ map (written 0) (digits 5 (digit_base width 0) (c - 4)) ++ 0 ∷ 0 ∷ back)
      × (length (digits 5 (digit_base width 0) (c - 4)) + 3 ≡ length (group width 0 c))
  zero_text least text =
      let ds = digits 5 (digit_base width 0) (c - 4) in
      let whole : group width 0 c ≡ 0 ∷ (map (written 0) ds ++ 0 ∷ 0 ∷ []) = group-counter width 0 c (omega arith) (λ z. least) ∙ counter-zero width c in
      let is : rest ≡ 0 ∷ ((map (written 0) ds ++ 0 ∷ 0 ∷ []) ++ back) = text ∙ ap (λ (t : List ℕ). t ++ back) whole in (
        ap (λ (t : List ℕ). drop 1 t) is ∙ append_assoc (map (written 0) ds) (0 ∷ 0 ∷ []) back,
        rw whole (omega (arith, length-append (map (written 0) ds) (0 ∷ 0 ∷ []), length-map ds (written 0))),
      )

-- what a scan of digits finds in a text that begins with a counter
abbrev pub FindsDigits : ℕ → ℕ → List ℕ → Option Digits → Type 0
FindsDigits x base slots result =
    (ds back : List ℕ) → length ds ≤ 6 → slots ≡ map (written x) ds ++ x ∷ back → number_of base ds ≤ 2 ^ 47
    → result ≡ Some (record { number = number_of base ds; len = length ds })

pub counter_found : (width x base c start : ℕ) (back rest : List ℕ) (result : Option Digits) → base ≡ digit_base width x → 0 < x → 3 ≤ c → c ≤ 2 ^ 47
    → rest ≡ group width x c ++ back → (get_or rest 1 0 ≡ 0 → start ≡ 2) → (get_or rest 1 0 ≢ 0 → start ≡ 1)
    → FindsDigits x base (take (length rest - start) (drop start rest)) result
    → (len : ℕ) × (result ≡ Some (record { number = c - 3; len = len })) × (start + len + 1 ≡ length (group width x c))
counter_found width x base c start back rest result is positive least most text guard bare finds =
    let ds = digits 5 (digit_base width x) (c - 3) in
    let there = counter_text width x c back rest positive least text start guard bare in
    let spelled : number_of base ds ≡ c - 3 = rw is (number_of-digits 5 (digit_base width x) (c - 3)) in
    let found = finds ds back (length_digits-le 5 (digit_base width x) (c - 3)) (take_rest rest start ∙ there.0) (omega arith) in
    (length ds, rw spelled at found, there.1)

pub zero_found : (width base c : ℕ) (back rest : List ℕ) (result : Option Digits) → base ≡ digit_base width 0 → 4 ≤ c → c ≤ 2 ^ 47
    → rest ≡ group width 0 c ++ back → FindsDigits 0 base (take (length rest - 1) (drop 1 rest)) result
    → (len : ℕ) × (result ≡ Some (record { number = c - 4; len = len })) × (len + 3 ≡ length (group width 0 c)) × (get_or rest (len + 2) 0 ≡ 0) × (len + 2 < length rest)
zero_found width base c back rest result is least most text finds =
    let ds = digits 5 (digit_base width 0) (c - 4) in
    let there = zero_text width c back rest least text in
    let spelled : number_of base ds ≡ c - 4 = rw is (number_of-digits 5 (digit_base width 0) (c - 4)) in
    let found = finds ds (0 ∷ back) (length_digits-le 5 (digit_base width 0) (c - 4)) (take_rest rest 1 ∙ there.0) (omega arith) in
    let last : get_or (drop 1 rest) (length ds + 1) 0 ≡ 0 =
    ap (λ (t : List ℕ). get_or t (length ds + 1) 0) there.0
    ∙ ap (λ n. get_or (map (written 0) ds ++ 0 ∷ 0 ∷ back) (n + 1) 0) (sym (length-map ds (written 0)))
    ∙ get_or-append-add (map (written 0) ds) (0 ∷ 0 ∷ back) 1 0 in
    let place : length ds + 2 ≡ 1 + (length ds + 1) = omega arith in
    let long : length ds + 2 < length rest =
    omega (arith, there.1, ap (λ (t : List ℕ). length t) text, length-append (group width 0 c) back) in
    (length ds, rw spelled at found, there.1, rw place (sym (get_or-drop 1 rest (length ds + 1) 0) ∙ last), long)
