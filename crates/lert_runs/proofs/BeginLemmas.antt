-- Where a slot rises no group of one digit is cut, and behind slots that are closed none at all.
use Rattle.std.proofs.Common.{◌≡◌, ◌≢◌, ℕ, suc, zero, ◌+◌, ◌-◌, ◌^◌, ◌<◌, ◌≤◌, ◌⊎◌, List, [], ◌∷◌, ◌++◌, length, map, get_or, refl, sym, ap, ◌∙◌, subst, inl, inr, arith, length-append, append_assoc}
use Rattle.std.proofs.{lemmas.Bool.{cases_lt, Decides.nat_tests}, lemmas.List.{get_or-append-add, get_or_append_left, get_or-map, length-map}, Math.Nat.pow-le-pow_right}
use Rattle.lert_counter.specs.Group.{group, digits, written, digit_base, IsCount}
use Rattle.lert_counter.proofs.{DigitLemmas.digits-last, ScanLemmas.written-apart, GroupLemmas.{length_group-le, shape_of}, GroupLemmas.Shape.{one, two, three, zeros, bare, guarded}}
use Rattle.lert_runs.specs.Begins.{Rises, IsClosed, IsUncut}

-- the slot at `at` of a text of its own rises, as far as the text shows it
record RisesIn (text : List ℕ) (at : ℕ) : Type 0 where
  positive : 0 < get_or text (at - 1) 0
  greater : get_or text (at - 1) 0 < get_or text at 0
  other : 2 ≤ at → get_or text (at - 2) 0 ≢ get_or text at 0

-- no slot behind the first rises in a text of one of these forms
no_rise_one : (a : ℕ) (back : List ℕ) (at : ℕ) → 0 < at → at < 1 → RisesIn (a ∷ back) at → ⊥
no_rise_one a back at behind within r = omega arith

no_rise_two : (a : ℕ) (back : List ℕ) (at : ℕ) → 0 < at → at < 2 → RisesIn (a ∷ a ∷ back) at → ⊥
no_rise_two a back zero behind within r = omega arith
no_rise_two a back (suc zero) behind within r = let g = r.greater in omega arith
no_rise_two a back (suc (suc at)) behind within r = omega arith

no_rise_bare : (a d : ℕ) (back : List ℕ) (at : ℕ) → d ≤ a → 0 < at → at < 3 → RisesIn (a ∷ d ∷ a ∷ back) at → ⊥
no_rise_bare a d back zero low behind within r = omega arith
no_rise_bare a d back (suc zero) low behind within r = let g = r.greater in omega arith
no_rise_bare a d back (suc (suc zero)) low behind within r = r.other (omega arith) refl
no_rise_bare a d back (suc (suc (suc at))) low behind within r = omega arith

no_rise_guarded : (a d : ℕ) (back : List ℕ) (at : ℕ) → a < d → 0 < at → at < 4 → RisesIn (a ∷ 0 ∷ d ∷ a ∷ back) at → ⊥
no_rise_guarded a d back zero low behind within r = omega arith
no_rise_guarded a d back (suc zero) low behind within r = let g = r.greater in omega arith
no_rise_guarded a d back (suc (suc zero)) low behind within r = let p = r.positive in omega arith
no_rise_guarded a d back (suc (suc (suc zero))) low behind within r = let g = r.greater in omega arith
no_rise_guarded a d back (suc (suc (suc (suc at)))) low behind within r = omega arith

no_rise_zeros : (d : ℕ) (back : List ℕ) (at : ℕ) → 0 < at → at < 4 → RisesIn (0 ∷ d ∷ 0 ∷ 0 ∷ back) at → ⊥
no_rise_zeros d back zero behind within r = omega arith
no_rise_zeros d back (suc zero) behind within r = let p = r.positive in omega arith
no_rise_zeros d back (suc (suc zero)) behind within r = let g = r.greater in omega arith
no_rise_zeros d back (suc (suc (suc zero))) behind within r = let p = r.positive in omega arith
no_rise_zeros d back (suc (suc (suc (suc at)))) behind within r = omega arith

no_rise_three : (back : List ℕ) (at : ℕ) → 0 < at → at < 3 → RisesIn (0 ∷ 0 ∷ 0 ∷ back) at → ⊥
no_rise_three back zero behind within r = omega arith
no_rise_three back (suc zero) behind within r = let p = r.positive in omega arith
no_rise_three back (suc (suc zero)) behind within r = let p = r.positive in omega arith
no_rise_three back (suc (suc (suc at))) behind within r = omega arith

-- a count of at most 2^47 has one digit in slots of 48 bits
base_most : (width x : ℕ) → 48 ≤ width → 2 ^ 47 < digit_base width x
base_most width x wide = let most : 2 ^ 48 ≤ 2 ^ width = pow-le-pow_right {n = 2} (omega arith) wide in grind (arith, nat_tests)

one_digit : (width x n : ℕ) → 48 ≤ width → n ≤ 2 ^ 47 → digits 5 (digit_base width x) n ≡ n ∷ []
one_digit width x n wide most = digits-last 4 (digit_base width x) n (let b = base_most width x wide in omega arith)

-- so no slot behind the first of a group rises
no_rise : (width x c : ℕ) (back : List ℕ) (at : ℕ) → 48 ≤ width → IsCount c → 0 < at → at < length (group width x c) → RisesIn (group width x c ++ back) at → ⊥
no_rise width x c back at wide counts behind within r =
    elim (shape_of width x c counts.0) [
      | one e is ↦ no_rise_one x back at behind (subst (λ (t : List ℕ). at < length t) is within) (subst (λ (t : List ℕ). RisesIn (t ++ back) at) is r)
      | two e is ↦ no_rise_two x back at behind (subst (λ (t : List ℕ). at < length t) is within) (subst (λ (t : List ℕ). RisesIn (t ++ back) at) is r)
      | three z e is ↦ no_rise_three back at behind (subst (λ (t : List ℕ). at < length t) is within) (subst (λ (t : List ℕ). RisesIn (t ++ back) at) is r)
      | zeros z l is ↦ (let digit = one_digit width 0 (c - 4) wide (omega (arith, counts.1)) in
          let text = is ∙ ap (λ (t : List ℕ). 0 ∷ (map (written 0) t ++ 0 ∷ 0 ∷ [])) digit in
          no_rise_zeros (written 0 (c - 4)) back at behind (subst (λ (t : List ℕ). at < length t) text within) (subst (λ (t : List ℕ). RisesIn (t ++ back) at) text r))
      | bare p l w is ↦ (let digit = one_digit width x (c - 3) wide (omega (arith, counts.1)) in
          let text = is ∙ ap (λ (t : List ℕ). x ∷ (map (written x) t ++ x ∷ [])) digit in
          no_rise_bare x (written x (c - 3)) back at (subst (λ (t : List ℕ). written x (get_or t 0 0) ≤ x) digit w) behind
          (subst (λ (t : List ℕ). at < length t) text within) (subst (λ (t : List ℕ). RisesIn (t ++ back) at) text r))
      | guarded p l w is ↦ (let digit = one_digit width x (c - 3) wide (omega (arith, counts.1)) in
          let text = is ∙ ap (λ (t : List ℕ). x ∷ 0 ∷ (map (written x) t ++ x ∷ [])) digit in
          no_rise_guarded x (written x (c - 3)) back at (subst (λ (t : List ℕ). x < written x (get_or t 0 0)) digit w) behind
          (subst (λ (t : List ℕ). at < length t) text within) (subst (λ (t : List ℕ). RisesIn (t ++ back) at) text r))
    ]

-- a rise behind other slots
rises_in : (front text : List ℕ) (at k : ℕ) → at ≡ length front + k → 0 < k → Rises (front ++ text) at → RisesIn text k
rises_in front text at k is behind r =
    let before : get_or (front ++ text) (at - 1) 0 ≡ get_or text (k - 1) 0 =
    ap (λ i. get_or (front ++ text) i 0) (let e : at - 1 ≡ length front + (k - 1) = omega arith in e) ∙ get_or-append-add front text (k - 1) 0 in
    let here : get_or (front ++ text) at 0 ≡ get_or text k 0 = ap (λ i. get_or (front ++ text) i 0) is ∙ get_or-append-add front text k 0 in
    record {
      positive = subst (λ v. 0 < v) before r.positive;
      greater = subst (λ v. v < get_or text k 0) before (subst (λ v. get_or (front ++ text) (at - 1) 0 < v) here r.greater);
      other = λ two. (λ same. r.other (
          ap (λ i. get_or (front ++ text) i 0) (let e : at - 2 ≡ length front + (k - 2) = omega arith in e)
          ∙ get_or-append-add front text (k - 2) 0 ∙ same ∙ sym here));
    }

-- so a rise is no place within a group
pub rise_uncut : (width at : ℕ) (run : List ℕ) → 48 ≤ width → Rises run at → IsUncut width run at
rise_uncut width at run wide r front x c back counts text =
    elim (cases_lt (length front) at) [
      | inr before ↦ inl before
      | inl behind ↦ elim (cases_lt at (length front + length (group width x c))) [
        | inr past ↦ inr past
        | inl cut ↦ absurd (no_rise width x c back (at - length front) wide counts (omega arith) (omega arith)
            (rises_in front (group width x c ++ back) at (at - length front) (omega arith) (omega arith) (subst (λ (t : List ℕ). Rises t at) text r)))
      ]
    ]

-- the first slot of a text of its own is closed before `at`, as far as the text shows it
record ClosedIn (text : List ℕ) (at : ℕ) : Type 0 where
  positive : 0 < get_or text 0 0
  closed : (get_or text 0 0 < get_or text 1 0) ⊎ ((k : ℕ) × (0 < k) × (k < at) × (get_or text k 0 ≡ get_or text 0 0))

-- what stands between x and x isn't x, and begins with nothing greater: so the first isn't closed before the last
not_closed : (x : ℕ) (inner back : List ℕ) (at : ℕ) → ((k : ℕ) → k < length inner → get_or inner k 0 ≢ x) → get_or (inner ++ x ∷ back) 0 0 ≤ x
    → at < length inner + 2 → ClosedIn (x ∷ (inner ++ x ∷ back)) at → ⊥
not_closed x inner back at apart low within c =
    elim (c.closed) [
      | inl greater ↦ omega (arith, low, greater)
      | inr again ↦ recurs again.0 again.1 again.2 again.3
    ]
  where
    recurs : (k : ℕ) → 0 < k → k < at → get_or (x ∷ (inner ++ x ∷ back)) k 0 ≡ x → ⊥
    recurs zero some before same = omega arith
    recurs (suc k) some before same = apart k (omega arith) (sym (get_or_append_left inner (x ∷ back) 0 k (omega arith)) ∙ same)

-- no digit is x, nor a guard
digits_apart : (x : ℕ) (ds : List ℕ) (k : ℕ) → k < length (map (written x) ds) → get_or (map (written x) ds) k 0 ≢ x
digits_apart x ds k within same =
    written-apart x (get_or ds k 0) (sym (get_or-map (written x) ds k 0 0 (omega (arith, length-map ds (written x)))) ∙ same)

guard_apart : (x : ℕ) (ds : List ℕ) → 0 < x → (k : ℕ) → k < length (0 ∷ map (written x) ds) → get_or (0 ∷ map (written x) ds) k 0 ≢ x
guard_apart x ds positive zero within same = omega arith
guard_apart x ds positive (suc k) within same = digits_apart x ds k (omega arith) same

-- a digit comes first
first_digit : (x : ℕ) (ds back : List ℕ) → written x (get_or ds 0 0) ≤ x → get_or (map (written x) ds ++ x ∷ back) 0 0 ≤ x
first_digit x [] back low = omega arith
first_digit x (d ∷ ds) back low = low

-- so no group is closed before its last slot
no_group_closed : (width x c : ℕ) (back : List ℕ) (at : ℕ) → IsCount c → 0 < at → at < length (group width x c) → ClosedIn (group width x c ++ back) at → ⊥
no_group_closed width x c back at counts behind within r =
    elim (shape_of width x c counts.0) [
      | one e is ↦ omega (arith, ap (λ (t : List ℕ). length t) is)
      | two e is ↦ not_closed x [] back at (λ k less. absurd (omega arith)) (omega arith) (omega (arith, ap (λ (t : List ℕ). length t) is))
          (subst (λ (t : List ℕ). ClosedIn (t ++ back) at) is r)
      | three z e is ↦ (let p = (subst (λ (t : List ℕ). ClosedIn (t ++ back) at) is r).positive in omega arith)
      | zeros z l is ↦ (let p = (subst (λ (t : List ℕ). ClosedIn (t ++ back) at) is r).positive in omega arith)
      | bare p l w is ↦ (let ds = digits 5 (digit_base width x) (c - 3) in
          not_closed x (map (written x) ds) back at (digits_apart x ds) (first_digit x ds back w)
          (omega (arith, ap (λ (t : List ℕ). length t) is, length-append (map (written x) ds) (x ∷ [])))
          (subst (λ (t : List ℕ). ClosedIn t at) (ap (λ (t : List ℕ). t ++ back) is ∙ ap (λ (t : List ℕ). x ∷ t) (append_assoc (map (written x) ds) (x ∷ []) back)) r))
      | guarded p l w is ↦ (let ds = digits 5 (digit_base width x) (c - 3) in
          not_closed x (0 ∷ map (written x) ds) back at (guard_apart x ds p) (omega arith)
          (omega (arith, ap (λ (t : List ℕ). length t) is, length-append (map (written x) ds) (x ∷ [])))
          (subst (λ (t : List ℕ). ClosedIn t at) (ap (λ (t : List ℕ). t ++ back) is ∙ ap (λ (t : List ℕ). x ∷ 0 ∷ t) (append_assoc (map (written x) ds) (x ∷ []) back)) r))
    ]

closed_in : (front text : List ℕ) (at k : ℕ) → at ≡ length front + k → IsClosed (front ++ text) (length front) at → ClosedIn text k
closed_in front text at k is c =
    let first = get_or-append-at front text in
    record {
      positive = subst (λ v. 0 < v) first c.positive;
      closed = elim (c.closed) [
        | inl greater ↦ inl (let next = get_or-append-add front text 1 0 in omega (arith, first, next, greater))
        | inr again ↦ inr (
          again.0 - length front,
          omega (arith, again.1),
          omega (arith, again.2, is),
          sym (get_or-append-add front text (again.0 - length front) 0)
              ∙ ap (λ i. get_or (front ++ text) i 0) (let e : length front + (again.0 - length front) ≡ again.0 = omega (arith, again.1) in e)
              ∙ again.3 ∙ first,
        )
      ];
    }
  where
    get_or-append-at : (xs ys : List ℕ) → get_or (xs ++ ys) (length xs) 0 ≡ get_or ys 0 0
    get_or-append-at xs ys = ap (λ i. get_or (xs ++ ys) i 0) (let e : length xs ≡ length xs + 0 = omega arith in e) ∙ get_or-append-add xs ys 0 0

pub closed_uncut : (width at : ℕ) (run : List ℕ) → ((i : ℕ) → i < at → at ≤ i + 8 → IsClosed run i at) → IsUncut width run at
closed_uncut width at run r front x c back counts text =
    elim (cases_lt (length front) at) [
      | inr before ↦ inl before
      | inl behind ↦ elim (cases_lt at (length front + length (group width x c))) [
        | inr past ↦ inr past
        | inl cut ↦ absurd (let long = length_group-le width x c counts.0 in
            no_group_closed width x c back (at - length front) counts (omega arith) (omega arith)
            (closed_in front (group width x c ++ back) at (at - length front) (omega arith)
            (subst (λ (t : List ℕ). IsClosed t (length front) at) text (r (length front) behind (omega arith)))))
      ]
    ]
