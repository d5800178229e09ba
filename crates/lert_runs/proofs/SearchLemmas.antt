-- A search finds the count of a remainder that is greater than each count of a run.
use Rattle.std.proofs.{Common.{◌≡◌, ◌≢◌, ℕ, ◌+◌, ◌-◌, ◌^◌, ◌<◌, ◌≤◌, List, [], ◌∷◌, ◌++◌, length, map, take, drop, get_or, refl, sym, ap, ◌∙◌, subst, inl, inr, arith}, lemmas.Bool.cases_eq}
use Rattle.std.proofs.{lemmas.List.{take_rest, drop_more, drop_all}, lemmas.Bool.Decides.nat_tests}
use Rattle.lert_counter.specs.{Group.{group, digits, written, digit_base}, Reading.Follows}
use Rattle.lert_counter.proofs.{DigitLemmas.digits-last, GroupLemmas.shape_of, GroupLemmas.Shape.{one, two, three, zeros, bare, guarded}}
use Rattle.lert_runs.specs.{RunText.{run_text, RemaindersAscend, CountsBelow, count_in}, Search.{count_behind, count_from}}
use Rattle.lert_runs.proofs.RunLemmas.{run_follows, count_in-here, count_in-later}

-- a slot that isn't x, and one that is
skip : (x slot : ℕ) (rest : List ℕ) → slot ≢ x → count_from (slot ∷ rest) x ≡ count_from rest x
skip x slot rest other = grind (arith, nat_tests)

meet : (x slot : ℕ) (rest : List ℕ) → slot ≡ x → count_from (slot ∷ rest) x ≡ count_behind rest x
meet x slot rest same = grind (arith, nat_tests)

-- what stands behind the first slot of x
behind_greater : (x next : ℕ) (rest : List ℕ) → x < next → count_behind (next ∷ rest) x ≡ 1
behind_greater x next rest less = grind (arith, nat_tests)

behind_same : (x : ℕ) (rest : List ℕ) → count_behind (x ∷ rest) x ≡ 2
behind_same x rest = grind (arith, nat_tests)

behind_less : (x next : ℕ) (rest : List ℕ) → next < x → count_behind (next ∷ rest) x ≡ next + 2
behind_less x next rest less = grind (arith, nat_tests)

-- a digit is written as at most two more, and as one more where that is below the remainder
written_le : (y d : ℕ) → written y d ≤ d + 2
written_le y d = grind (arith, nat_tests)

written_below : (y d : ℕ) → d + 1 < y → written y d ≡ d + 1
written_below y d low = grind (arith, nat_tests)

written_zero : (d : ℕ) → written 0 d ≡ d + 1
written_zero d = grind (arith, nat_tests)

base_le : (width y : ℕ) → 2 ^ width - 2 ≤ digit_base width y
base_le width y = grind (arith, nat_tests)

-- a small number has one digit
one_digit : (width x y n : ℕ) → x < 2 ^ width → n + 2 < x → digits 5 (digit_base width y) n ≡ n ∷ []
one_digit width x y n wide low = digits-last 4 (digit_base width y) n (let b = base_le width y in omega arith)

-- no slot of another group is x
pub passes : (width x y c : ℕ) (back : List ℕ) → 1 ≤ c → c < x → x < 2 ^ width → y ≢ x → count_from (group width y c ++ back) x ≡ count_from back x
passes width x y c back positive low wide other =
    elim (shape_of width y c positive) [
      | one e is ↦ ap (λ (t : List ℕ). count_from (t ++ back) x) is ∙ skip x y back other
      | two e is ↦ ap (λ (t : List ℕ). count_from (t ++ back) x) is ∙ skip x y (y ∷ back) other ∙ skip x y back other
      | three z e is ↦ ap (λ (t : List ℕ). count_from (t ++ back) x) is ∙ skip x 0 (0 ∷ 0 ∷ back) (λ s. absurd (omega arith)) ∙ skip x 0 (0 ∷ back) (λ s. absurd (omega arith))
          ∙ skip x 0 back (λ s. absurd (omega arith))
      | zeros z l is ↦ (let ds = one_digit width x 0 (c - 4) wide (omega arith) in
          let d = written_zero (c - 4) in
          ap (λ (t : List ℕ). count_from (t ++ back) x) (is ∙ ap (λ (t : List ℕ). 0 ∷ (map (written 0) t ++ 0 ∷ 0 ∷ [])) ds)
          ∙ skip x 0 (written 0 (c - 4) ∷ 0 ∷ 0 ∷ back) (λ s. absurd (omega arith))
          ∙ skip x (written 0 (c - 4)) (0 ∷ 0 ∷ back) (λ s. absurd (omega arith))
          ∙ skip x 0 (0 ∷ back) (λ s. absurd (omega arith)) ∙ skip x 0 back (λ s. absurd (omega arith)))
      | bare p l w is ↦ (let ds = one_digit width x y (c - 3) wide (omega arith) in
          let d = written_le y (c - 3) in
          ap (λ (t : List ℕ). count_from (t ++ back) x) (is ∙ ap (λ (t : List ℕ). y ∷ (map (written y) t ++ y ∷ [])) ds)
          ∙ skip x y (written y (c - 3) ∷ y ∷ back) other
          ∙ skip x (written y (c - 3)) (y ∷ back) (λ s. absurd (omega arith))
          ∙ skip x y back other)
      | guarded p l w is ↦ (let ds = one_digit width x y (c - 3) wide (omega arith) in
          let d = written_le y (c - 3) in
          ap (λ (t : List ℕ). count_from (t ++ back) x) (is ∙ ap (λ (t : List ℕ). y ∷ 0 ∷ (map (written y) t ++ y ∷ [])) ds)
          ∙ skip x y (0 ∷ written y (c - 3) ∷ y ∷ back) other
          ∙ skip x 0 (written y (c - 3) ∷ y ∷ back) (λ s. absurd (omega arith))
          ∙ skip x (written y (c - 3)) (y ∷ back) (λ s. absurd (omega arith))
          ∙ skip x y back other)
    ]

-- behind a single slot of x a greater one stands, or none
alone : (x : ℕ) (back : List ℕ) → Follows x back → count_behind back x ≡ 1
alone x [] f = refl
alone x (next ∷ rest) f = behind_greater x next rest (f.above (omega arith))

-- the first slot of the group of x tells its count
pub finds : (width x c : ℕ) (back : List ℕ) → 1 ≤ c → c < x → x < 2 ^ width → Follows x back → count_from (group width x c ++ back) x ≡ c
finds width x c back positive low wide follows =
    elim (shape_of width x c positive) [
      | one e is ↦ ap (λ (t : List ℕ). count_from (t ++ back) x) is ∙ meet x x back refl ∙ alone x back follows ∙ sym e
      | two e is ↦ ap (λ (t : List ℕ). count_from (t ++ back) x) is ∙ meet x x (x ∷ back) refl ∙ behind_same x back ∙ sym e
      | three z e is ↦ absurd (omega arith)
      | zeros z l is ↦ absurd (omega arith)
      | bare p l w is ↦ (let ds = one_digit width x x (c - 3) wide (omega arith) in
          let d = written_below x (c - 3) (omega arith) in
          let count : written x (c - 3) + 2 ≡ c = omega arith in
          ap (λ (t : List ℕ). count_from (t ++ back) x) (is ∙ ap (λ (t : List ℕ). x ∷ (map (written x) t ++ x ∷ [])) ds)
          ∙ meet x x (written x (c - 3) ∷ x ∷ back) refl ∙ behind_less x (written x (c - 3)) (x ∷ back) (omega arith) ∙ count)
      | guarded p l w is ↦ absurd (let ds = one_digit width x x (c - 3) wide (omega arith) in
          let d = written_below x (c - 3) (omega arith) in
          let high : x < written x (c - 3) = subst (λ (t : List ℕ). x < written x (get_or t 0 0)) ds w in omega arith)
    ]

-- so the search answers the count
pub count_from-text : (width x least : ℕ) (ps : List (ℕ × ℕ)) → RemaindersAscend least ps → CountsBelow x ps → x < 2 ^ width → count_from (run_text width ps) x ≡ count_in ps x
count_from-text width x least [] ascend low wide = refl
count_from-text width x least (p ∷ ps) ascend low wide =
    elim (cases_eq p.0 x) [
      | inl same ↦ subst (λ y. count_from (group width y p.1 ++ run_text width ps) x ≡ p.1) (sym same)
          (finds width x p.1 (run_text width ps) (ascend.1).0 low.0 wide (run_follows width x ps (subst (λ y. RemaindersAscend (y + 1) ps) same ascend.2)))
          ∙ sym (count_in-here p ps x same)
      | inr other ↦ passes width x p.0 p.1 (run_text width ps) (ascend.1).0 low.0 wide other
          ∙ count_from-text width x (p.0 + 1) ps ascend.2 low.1 wide ∙ sym (count_in-later p ps x other)
    ]

-- the search from a place on whose slot is x, and behind the last one
pub found : (run : List ℕ) (x at answer : ℕ) → at < length run → get_or run at 0 ≡ x → count_from (drop at run) x ≡ count_from run x
    → answer ≡ count_behind (take (length run - (at + 1)) (drop (at + 1) run)) x → answer ≡ count_from run x
found run x at answer within here same is =
    is ∙ ap (λ (t : List ℕ). count_behind t x) (take_rest run (at + 1))
    ∙ sym (ap (λ (t : List ℕ). count_from t x) (drop_more run at 0 within) ∙ meet x (get_or run at 0) (drop (at + 1) run) here) ∙ same

pub nowhere : (run : List ℕ) (x at : ℕ) → length run ≤ at → count_from (drop at run) x ≡ count_from run x → 0 ≡ count_from run x
nowhere run x at over same = sym (ap (λ (t : List ℕ). count_from t x) (drop_all at run over)) ∙ same
