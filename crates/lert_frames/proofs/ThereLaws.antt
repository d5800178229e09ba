-- A walk breaks a rule among the slots that it is to have, and where it breaks none, all of them are there.
use Rattle.std.proofs.Common.{◌≡◌, ℕ, zero, suc, ◌+◌, ◌-◌, ◌^◌, ◌<◌, ◌≤◌, ◌⊎◌, Bool, false, List, [], ◌∷◌, length, take, drop, get_or, Option, Some, None, option_map, Result, Ok, Err, refl}
use Rattle.std.{proofs.Common.{sym, ◌∙◌, inl, inr, arith, ltb, lt-ltb, le-ltb, length-drop}, proofs.lemmas.Bool.{cases_lt, cond-true, cond-false, cond_both}}
use Rattle.lert_counter.specs.declared.group.Group.{Group}
use Rattle.lert_blocks.{specs.Grammar.group_read, specs.Walk.{Found, broken, reach, first_bad, if_above, group_at, after_group, walk_on, walk}, proofs.WalkBack.{map_none, some_none}}
use Rattle.lert_blocks.proofs.WalkLaws.{group_at-ok, reach_within}

-- ---- the slot that breaks a rule

map_some : (f : ℕ → ℕ) (o : Option ℕ) (k : ℕ) → option_map f o ≡ Some k → (place : ℕ) × (o ≡ Some place) × (f place ≡ k)
map_some f None k is = absurd (cc)
map_some f (Some place) k is = (place, refl, cc)

bad_within : (width n : ℕ) (slots : List ℕ) (k : ℕ) → first_bad width n slots ≡ Some k → k < n
bad_within width zero slots k is = absurd (cc)
bad_within width (suc n) [] k is = let first : 0 ≡ k = cc in omega (arith, first)
bad_within width (suc n) (slot ∷ slots) k is =
    let later = option_map suc (first_bad width n slots) in
    elim (cases_lt slot (2 ^ width)) [
      | inl narrow ↦ (let more = map_some suc (first_bad width n slots) k (sym (cond-true (ltb slot (2 ^ width)) later (Some 0) (lt-ltb slot (2 ^ width) narrow)) ∙ is) in
          let h = bad_within width n slots more.0 more.1 in omega (arith, h, more.2))
      | inr wide ↦ (let here : ◌≡◌ {A = Option ℕ} (Some 0) (Some k) = sym (cond-false (ltb slot (2 ^ width)) later (Some 0) (le-ltb slot (2 ^ width) wide)) ∙ is in
          let first : 0 ≡ k = cc in omega (arith, first))
    ]

above_left : (least : ℕ) (bad : Option ℕ) (read : Option Group) (place : ℕ) → if_above least bad read ≡ Err place → (bad ≡ Some place) ⊎ (place ≡ 0)
above_left least (Some at) read place is = inl (cc)
above_left least None None place is = inr (cc)
above_left least None (Some g) place is = inr (elim (cases_lt g.x least) [
  | inl less ↦ (let same : ◌≡◌ {A = Result Group ℕ} (Err 0) (Err place) = sym (cond-true (ltb g.x least) (Err 0) (Ok g) (lt-ltb g.x least less)) ∙ is in cc)
  | inr more ↦ absurd (let wrong : ◌≡◌ {A = Result Group ℕ} (Ok g) (Err place) = sym (cond-false (ltb g.x least) (Err 0) (Ok g) (le-ltb g.x least more)) ∙ is in cc)
])

group_left : (width least : ℕ) (e : Bool) (es : List Bool) (slots : List ℕ) (place : ℕ) → group_at width least (e ∷ es) slots ≡ Err place → place < length (e ∷ es)
group_left width least e es slots place is =
    let n = reach 9 (e ∷ es) in
    elim (above_left least (first_bad width n slots) (group_read width (take n slots)) place is) [
      | inl bad ↦ omega (arith, bad_within width n slots place bad, reach_within 9 (e ∷ es))
      | inr first ↦ omega (arith, first)
    ]

-- ---- what is so of what is found

walk_on-holds : (P : Found → Type 0) (r : Result Group ℕ) (more : Group → Found) → ((place : ℕ) → r ≡ Err place → P (broken place)) → ((g : Group) → r ≡ Ok g → P (more g)) →
    P (walk_on r more)
walk_on-holds P (Err place) more breaks goes = breaks place refl
walk_on-holds P (Ok g) more breaks goes = goes g refl

abbrev pub IsLeftBelow : ℕ → Found → Type 0
IsLeftBelow n found = (k : ℕ) → found.left ≡ Some k → k < n

left_behind : (width q n m : ℕ) (g : Group) (found : Found) → m ≡ n - g.used → IsLeftBelow m found → IsLeftBelow n (after_group width q g found)
left_behind width q n m g found m_is below k is =
    let more = map_some (λ place. g.used + place) found.left k is in
    let h = below more.0 more.1 in omega (arith, h, m_is, more.2)

-- whatever the slots are
pub walk_left : (most width least : ℕ) (qs : List ℕ) (ends : List Bool) (slots : List ℕ) → IsLeftBelow (length ends) (walk most width qs least ends slots)
walk_left zero width least qs ends slots = λ k is. absurd (cc)
walk_left (suc most) width least qs [] slots = λ k is. absurd (cc)
walk_left (suc most) width least [] (e ∷ es) slots = λ k is. (let first : 0 ≡ k = cc in omega (arith, first))
walk_left (suc most) width least (q ∷ qs) (e ∷ es) slots =
    let n = length (e ∷ es) in
    walk_on-holds (IsLeftBelow n) (group_at width least (e ∷ es) slots) _
    (λ place broke k is. let same : place ≡ k = cc in let h = group_left width least e es slots place broke in omega (arith, h, same))
    (λ g is.
    let behind = drop g.used (e ∷ es) in
    let later = drop g.used slots in
    let long = length-drop g.used (e ∷ es) in
    cond_both {A = Found} (get_or (e ∷ es) (g.used - 1) false) _ _ (λ found. IsLeftBelow n (after_group width q g found))
    (λ _. left_behind width q n (length behind) g (walk most width qs 0 behind later) long (walk_left most width 0 qs behind later))
    (λ _. left_behind width q n (length behind) g (walk most width (q ∷ qs) (g.x + 1) behind later) long (walk_left most width (g.x + 1) (q ∷ qs) behind later)))

-- where no rule is broken, each slot is there
abbrev pub AreThereIf : List Bool → List ℕ → Found → Type 0
AreThereIf ends slots found = found.left ≡ None → length ends ≤ length slots

there_behind : (width q : ℕ) (g : Group) (ends : List Bool) (slots : List ℕ) (found : Found) → g.used ≤ length slots → AreThereIf (drop g.used ends) (drop g.used slots) found →
    AreThereIf ends slots (after_group width q g found)
there_behind width q g ends slots found few there whole =
    let h = there (map_none (λ place. g.used + place) found.left whole) in
    omega (arith, h, few, length-drop g.used ends, length-drop g.used slots)

pub walk_whole : (most width least : ℕ) (qs : List ℕ) (ends : List Bool) (slots : List ℕ) → length ends ≤ most → AreThereIf ends slots (walk most width qs least ends slots)
walk_whole zero width least qs ends slots enough = λ whole. omega (arith, enough)
walk_whole (suc most) width least qs [] slots enough = λ whole. omega arith
walk_whole (suc most) width least [] (e ∷ es) slots enough = λ whole. absurd (some_none 0 whole)
walk_whole (suc most) width least (q ∷ qs) (e ∷ es) slots enough =
    walk_on-holds (AreThereIf (e ∷ es) slots) (group_at width least (e ∷ es) slots) _ (λ place broke whole. absurd (some_none place whole)) (λ g is.
    let at = group_at-ok width least (e ∷ es) slots g is in
    let behind = drop g.used (e ∷ es) in
    let later = drop g.used slots in
    let fewer : length behind ≤ most = omega (arith, length-drop g.used (e ∷ es), at.some, enough) in
    cond_both {A = Found} (get_or (e ∷ es) (g.used - 1) false) _ _ (λ found. AreThereIf (e ∷ es) slots (after_group width q g found))
    (λ _. there_behind width q g (e ∷ es) slots (walk most width qs 0 behind later) at.there (walk_whole most width 0 qs behind later fewer))
    (λ _. there_behind width q g (e ∷ es) slots (walk most width (q ∷ qs) (g.x + 1) behind later) at.there (walk_whole most width (g.x + 1) (q ∷ qs) behind later fewer)))
