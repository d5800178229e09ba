-- The texts of counters and groups, case by case.
use Rattle.std.proofs.Common.{◌≡◌, ℕ, ◌+◌, ◌-◌, ◌<◌, ◌≤◌, false, eqb, List, [], ◌∷◌, ◌++◌, length, map, take, drop, get_or, set, refl, sym, ap, ◌∙◌, arith, append_assoc}
use Rattle.std.proofs.{lemmas.List.{take_more_set, length-take-le, drop-set-lt, drop-drop, length-set}, lemmas.Bool.Decides.nat_tests}
use Rattle.lert_counter.specs.Group.{digits, written, digit_base, least_counter, counter_digits, guarded, counter, group}
use Rattle.lert_counter.proofs.DigitLemmas.{digits-first}

-- the text of digits beside x
pub counter_digits-above : (width x c : ℕ) → 0 < x → counter_digits width x c ≡ map (written x) (digits 5 (digit_base width x) (c - 3))
unfolding counter_digits
counter_digits-above width x c h = let e : least_counter x ≡ 3 = grind (arith, nat_tests) in rw e refl

pub counter_digits-zero : (width c : ℕ) → counter_digits width 0 c ≡ map (written 0) (digits 5 (digit_base width 0) (c - 4))
unfolding counter_digits
counter_digits-zero width c = refl

pub counter-zero : (width c : ℕ) → counter width 0 c ≡ 0 ∷ (map (written 0) (digits 5 (digit_base width 0) (c - 4)) ++ 0 ∷ 0 ∷ [])
counter-zero width c = rw (counter_digits-zero width c) refl

guard_there : (x : ℕ) (ds : List ℕ) → x < get_or ds 0 0 → guarded x ds ≡ 0 ∷ ds
guard_there x ds h = grind (arith, nat_tests)

guard_absent : (x : ℕ) (ds : List ℕ) → get_or ds 0 0 ≤ x → guarded x ds ≡ ds
guard_absent x ds h = grind (arith, nat_tests)

counter-above : (width x c : ℕ) → 0 < x → counter width x c ≡ x ∷ (guarded x (counter_digits width x c) ++ x ∷ [])
counter-above width x c h = let e : eqb x 0 ≡ false = grind (arith, nat_tests) in rw e refl

pub counter-guarded : (width x c : ℕ) → 0 < x → x < written x (get_or (digits 5 (digit_base width x) (c - 3)) 0 0)
    → counter width x c ≡ x ∷ 0 ∷ (map (written x) (digits 5 (digit_base width x) (c - 3)) ++ x ∷ [])
counter-guarded width x c h greater =
    counter-above width x c h ∙ rw (counter_digits-above width x c h)
    (ap (λ (ds : List ℕ). x ∷ (ds ++ x ∷ [])) (guard_there x _ (let e = digits-first 5 (digit_base width x) (c - 3) (written x) in omega arith)))

pub counter-bare : (width x c : ℕ) → 0 < x → written x (get_or (digits 5 (digit_base width x) (c - 3)) 0 0) ≤ x
    → counter width x c ≡ x ∷ (map (written x) (digits 5 (digit_base width x) (c - 3)) ++ x ∷ [])
counter-bare width x c h least =
    counter-above width x c h ∙ rw (counter_digits-above width x c h)
    (ap (λ (ds : List ℕ). x ∷ (ds ++ x ∷ [])) (guard_absent x _ (let e = digits-first 5 (digit_base width x) (c - 3) (written x) in omega arith)))

-- the group, case by case
pub group-one : (width x : ℕ) → group width x 1 ≡ x ∷ []
unfolding group
group-one width x = refl

pub group-two : (width x : ℕ) → group width x 2 ≡ x ∷ x ∷ []
unfolding group
group-two width x = refl

pub group-three : (width : ℕ) → group width 0 3 ≡ 0 ∷ 0 ∷ 0 ∷ []
unfolding group
group-three width = refl

pub group-counter : (width x c : ℕ) → 3 ≤ c → (x ≡ 0 → 4 ≤ c) → group width x c ≡ counter width x c
unfolding group
group-counter width x c h k = grind (arith, nat_tests)

-- the length of a text from its place
pub length_from_front : (r : ℕ) (xs text : List ℕ) → r ≤ length xs → take r xs ≡ text → r ≡ length text
length_from_front r xs text h e = sym (length-take-le r xs h) ∙ ap length e

-- texts written from the front
pub front_zero : (r : ℕ) (old mid ds : List ℕ) → 0 < length old → r + 1 < length mid → take r mid ≡ take 1 (set old 0 0) ++ ds
    → take (r + 2) (set (set mid r 0) (r + 1) 0) ≡ 0 ∷ (ds ++ 0 ∷ 0 ∷ [])
front_zero r [] mid ds h k e = absurd (omega arith)
front_zero r (y ∷ ys) mid ds h k e =
    let two : r + 2 ≡ (r + 1) + 1 = omega arith in
    let inner : take (r + 1) (set mid r 0) ≡ (0 ∷ ds) ++ 0 ∷ [] = take_more_set mid r 0 (omega arith) ∙ ap (λ (t : List ℕ). t ++ 0 ∷ []) e in
    rw two (take_more_set (set mid r 0) (r + 1) 0 (simp length-set (omega arith)) ∙ ap (λ (t : List ℕ). t ++ 0 ∷ []) inner ∙ append_assoc (0 ∷ ds) (0 ∷ []) (0 ∷ []))

pub front_above : (x r : ℕ) (old mid ds : List ℕ) → 0 < length old → r < length mid → take r mid ≡ take 1 (set old 0 x) ++ ds
    → take (r + 1) (set mid r x) ≡ x ∷ (ds ++ x ∷ [])
front_above x r [] mid ds h k e = absurd (omega arith)
front_above x r (y ∷ ys) mid ds h k e = take_more_set mid r x k ∙ ap (λ (t : List ℕ). t ++ x ∷ []) e

pub front_guarded : (x r : ℕ) (old mid ds : List ℕ) → 1 < length old → r < length mid → take r mid ≡ take 2 (set (set old 0 x) 1 0) ++ ds
    → take (r + 1) (set mid r x) ≡ x ∷ 0 ∷ (ds ++ x ∷ [])
front_guarded x r [] mid ds h k e = absurd (omega arith)
front_guarded x r (y ∷ []) mid ds h k e = absurd (omega arith)
front_guarded x r (y ∷ z ∷ ys) mid ds h k e = take_more_set mid r x k ∙ ap (λ (t : List ℕ). t ++ x ∷ []) e

-- what lies behind a text stays
pub drop_later : (a b : ℕ) (xs ys : List ℕ) → a ≤ b → drop a xs ≡ drop a ys → drop b xs ≡ drop b ys
drop_later a b xs ys h e =
    let at : b ≡ a + (b - a) = omega arith in
    rw at (sym (drop-drop (b - a) a xs) ∙ ap (drop (b - a)) e ∙ drop-drop (b - a) a ys)

pub rest_zero : (r : ℕ) (old mid : List ℕ) → 0 < r → drop r mid ≡ drop r (set old 0 0) → drop (r + 2) (set (set mid r 0) (r + 1) 0) ≡ drop (r + 2) old
rest_zero r old mid h e =
    drop-set-lt (r + 2) (set mid r 0) (r + 1) 0 (omega arith) ∙ drop-set-lt (r + 2) mid r 0 (omega arith)
    ∙ drop_later r (r + 2) mid (set old 0 0) (omega arith) e ∙ drop-set-lt (r + 2) old 0 0 (omega arith)

-- the groups without digits, as they are written
pub front-one : (width x c : ℕ) (old : List ℕ) → 0 < length old → c ≡ 1 → take 1 (set old 0 x) ≡ group width x c
front-one width x c [] h e = absurd (omega arith)
front-one width x c (y ∷ ys) h e = rw (e, group-one width x) refl

pub front-two : (width x c : ℕ) (old : List ℕ) → 1 < length old → c ≡ 2 → take 2 (set (set old 0 x) 1 x) ≡ group width x c
front-two width x c [] h e = absurd (omega arith)
front-two width x c (y ∷ []) h e = absurd (omega arith)
front-two width x c (y ∷ z ∷ ys) h e = rw (e, group-two width x) refl

pub front-three : (width x c : ℕ) (old : List ℕ) → 2 < length old → c ≡ 3 → x ≡ 0 → take 3 (set (set (set old 0 0) 1 0) 2 0) ≡ group width x c
front-three width x c [] h e z = absurd (omega arith)
front-three width x c (a ∷ []) h e z = absurd (omega arith)
front-three width x c (a ∷ b ∷ []) h e z = absurd (omega arith)
front-three width x c (a ∷ b ∷ d ∷ old) h e z = rw (e, z, group-three width) refl
