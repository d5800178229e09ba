-- The slots of a word, and the first of them that is wrong.
use Rattle.std.proofs.Common.{◌≡◌, ℕ, zero, suc, ◌+◌, ◌-◌, ◌^◌, ◌<◌, ◌≤◌, ◌⊎◌, Bool, false, cond, ltb, min, List, [], ◌∷◌, ◌++◌, length, get_or}
use Rattle.std.proofs.Common.{take, drop, Option, Some, None, Result, Ok, Err, refl, sym, ap, ◌∙◌, subst, inl, inr, arith}
use Rattle.std.specs.Prelude.{option_map}
use Rattle.std.proofs.lemmas.Bool.{cases_lt, lt-ltb, le-ltb}
use Rattle.std.proofs.lemmas.List.{get_or-drop, length-drop, length-take, drop-append-le, take-append-le, take_all, take_rest, append-nil}
use Rattle.lert_counter.specs.declared.group.Group.{Group}
use Rattle.lert_blocks.specs.declared.decoder.Slots.{Slots}
use Rattle.lert_blocks.specs.Grammar.{group_read}
use Rattle.lert_blocks.proofs.GroupLaws.{read_counts}
use Rattle.lert_blocks.specs.Walk.{reach, first_bad, if_above, group_at}
use Rattle.lert_blocks.specs.Decoding.{AreSlots, IsReach, IsStep, IsLeft}

-- ---- the first wrong slot

pub first_bad_is : (width count : ℕ) (slots : List ℕ) (place : ℕ) → ((k : ℕ) → k < place → get_or slots k 0 < 2 ^ width) → place < count → place ≤ length slots →
    (place < length slots → 2 ^ width ≤ get_or slots place 0) → first_bad width count slots ≡ Some place
first_bad_is width zero slots place narrow few within wrong = absurd (omega arith)
first_bad_is width (suc count) [] zero narrow few within wrong = refl
first_bad_is width (suc count) [] (suc place) narrow few within wrong = absurd (omega arith)
first_bad_is width (suc count) (slot ∷ slots) zero narrow few within wrong = rw (le-ltb slot (2 ^ width) (wrong (omega arith))) refl
first_bad_is width (suc count) (slot ∷ slots) (suc place) narrow few within wrong =
    rw (lt-ltb slot (2 ^ width) (narrow 0 (omega arith)))
    (ap (option_map suc) (first_bad_is width count slots place (λ k h. narrow (suc k) (omega arith)) (omega arith) (omega arith) (λ h. wrong (omega arith))))

pub first_bad_none : (width count : ℕ) (slots : List ℕ) → ((k : ℕ) → k < count → get_or slots k 0 < 2 ^ width) → count ≤ length slots → first_bad width count slots ≡ None
first_bad_none width zero slots narrow within = refl
first_bad_none width (suc count) [] narrow within = absurd (omega arith)
first_bad_none width (suc count) (slot ∷ slots) narrow within =
    rw (lt-ltb slot (2 ^ width) (narrow 0 (omega arith)))
    (ap (option_map suc) (first_bad_none width count slots (λ k h. narrow (suc k) (omega arith)) (omega arith)))

-- the slots behind those that are asked for don't matter
pub first_bad-take : (width count : ℕ) (slots : List ℕ) → first_bad width count (take count slots) ≡ first_bad width count slots
first_bad-take width zero slots = refl
first_bad-take width (suc count) [] = refl
first_bad-take width (suc count) (slot ∷ slots) = ap (λ (bad : Option ℕ). cond (ltb slot (2 ^ width)) (option_map suc bad) (Some 0)) (first_bad-take width count slots)

-- no slot is wrong: all are there and narrow
none_behind : (bad : Option ℕ) → option_map suc bad ≡ None → bad ≡ None
none_behind None h = refl
none_behind (Some k) h = absurd (cc)

some_behind : (bad : Option ℕ) (place : ℕ) → option_map suc bad ≡ Some place → (k : ℕ) × (bad ≡ Some k) × (place ≡ suc k)
some_behind None place h = absurd (cc)
some_behind (Some k) place h = (k, refl, cc)

pub none_wrong : (width count : ℕ) (slots : List ℕ) → first_bad width count slots ≡ None → (count ≤ length slots) × ((k : ℕ) → k < count → get_or slots k 0 < 2 ^ width)
none_wrong width zero slots none = (omega arith, λ k h. absurd (omega arith))
none_wrong width (suc count) [] none = absurd (cc)
none_wrong width (suc count) (slot ∷ slots) none =
    elim (cases_lt slot (2 ^ width)) [
      | inl less ↦ (let behind = none_wrong width count slots (none_behind (first_bad width count slots) (rw (lt-ltb slot (2 ^ width) less) at none)) in
          (omega arith, narrow_all width count slot slots less behind.1))
      | inr more ↦ absurd (let wrong : Some 0 ≡ None = rw (le-ltb slot (2 ^ width) more) at none in cc)
    ]
  where
    narrow_all : (width count slot : ℕ) (slots : List ℕ) → slot < 2 ^ width → ((k : ℕ) → k < count → get_or slots k 0 < 2 ^ width) → (k : ℕ) → k < suc count → get_or (slot ∷ slots) k 0 < 2 ^ width
    narrow_all width count slot slots first others zero h = first
    narrow_all width count slot slots first others (suc k) h = others k (omega arith)

-- a wrong slot is one of those, or the one behind the last
pub wrong_within : (width count : ℕ) (slots : List ℕ) (place : ℕ) → first_bad width count slots ≡ Some place → (place < count) × (place ≤ length slots)
wrong_within width zero slots place is = absurd (cc)
wrong_within width (suc count) [] place is = (let first : place ≡ 0 = cc in omega arith, let first : place ≡ 0 = cc in omega arith)
wrong_within width (suc count) (slot ∷ slots) place is =
    elim (cases_lt slot (2 ^ width)) [
      | inl less ↦ (let behind = some_behind (first_bad width count slots) place (rw (lt-ltb slot (2 ^ width) less) at is) in
          let within = wrong_within width count slots behind.0 behind.1 in
          (omega (arith, behind.2, within.0), omega (arith, behind.2, within.1)))
      | inr more ↦ (let wrong : Some 0 ≡ Some place = rw (le-ltb slot (2 ^ width) more) at is in let first : place ≡ 0 = cc in (omega arith, omega arith))
    ]

-- the slots of a part from one on are narrow, so those slots are
pub narrow_from : (width from : ℕ) (slots : List ℕ) → ((k : ℕ) → k < length (take (length slots - from) (drop from slots)) → get_or (take (length slots - from) (drop from slots)) k 0 < 2 ^ width) →
    (k : ℕ) → from ≤ k → k < length slots → get_or slots k 0 < 2 ^ width
narrow_from width from slots narrow k behind within =
    let rest = take_rest slots from in
    let long : length (take (length slots - from) (drop from slots)) ≡ length slots - from = ap length rest ∙ length-drop from slots in
    let same : get_or (take (length slots - from) (drop from slots)) (k - from) 0 ≡ get_or slots k 0 =
    ap (λ (part : List ℕ). get_or part (k - from) 0) rest ∙ get_or-drop from slots (k - from) 0 ∙ ap (λ i. get_or slots i 0) (let e : from + (k - from) ≡ k = omega arith in e) in
    let here = narrow (k - from) (omega arith) in omega arith

-- ---- the window of a group

-- the slots that a group may have stand among those at hand, or these are all
pub window_is : (slots : Slots) (ends : List Bool) (more : List ℕ) (at count : ℕ) → AreSlots slots ends more → at ≤ length slots.slots.now → at + count ≤ min slots.some 72 →
    take count (drop at (slots.slots.now ++ more)) ≡ take count (drop at slots.slots.now)
window_is slots ends more at count are there near =
    let here = slots.slots.now in
    elim (cases_lt (length here) (at + count)) [
      | inl short ↦ ap (λ (back : List ℕ). take count (drop at (here ++ back))) (are.missing (omega arith)) ∙ ap (λ (all : List ℕ). take count (drop at all)) (append-nil here)
      | inr long ↦ ap (take count) (drop-append-le at here more there) ∙ take-append-le count (drop at here) more (omega (arith, length-drop at here))
    ]

-- what the definition says of a group, by its window alone
pub judged_is : (slots : Slots) (ends : List Bool) (more : List ℕ) (width least at count : ℕ) → AreSlots slots ends more → reach 9 (drop at ends) ≡ count →
    at ≤ length slots.slots.now → at + count ≤ min slots.some 72 → group_at width least (drop at ends) (drop at (slots.slots.now ++ more))
    ≡ if_above least (first_bad width count (take count (drop at slots.slots.now))) (group_read width (take count (drop at slots.slots.now)))
judged_is slots ends more width least at count are reaches there near =
    let all = drop at (slots.slots.now ++ more) in
    ap (λ n. if_above least (first_bad width n all) (group_read width (take n all))) reaches
    ∙ ap (λ bad. if_above least bad (group_read width (take count all))) (sym (first_bad-take width count all))
    ∙ ap (λ (front : List ℕ). if_above least (first_bad width count front) (group_read width front)) (window_is slots ends more at count are there near)

-- ---- what is answered of a window

above_ok : (least : ℕ) (bad : Option ℕ) (read : Option Group) (g : Group) → if_above least bad read ≡ Ok g → (bad ≡ None) × (read ≡ Some g) × (least ≤ g.x)
above_ok least (Some place) read g is = absurd (cc)
above_ok least None None g is = absurd (cc)
above_ok least None (Some h) g is =
    elim (cases_lt h.x least) [
      | inl less ↦ absurd (let wrong : Err 0 ≡ Ok g = rw (lt-ltb h.x least less) at is in cc)
      | inr more ↦ (let right : Ok h ≡ Ok g = rw (le-ltb h.x least more) at is in let same : h ≡ g = cc in (refl, ap Some same, subst (λ (r : Group). least ≤ r.x) same more))
    ]

above_err : (least : ℕ) (bad : Option ℕ) (read : Option Group) (place : ℕ) → if_above least bad read ≡ Err place → (bad ≡ Some place) ⊎ (place ≡ 0)
above_err least (Some k) read place is = inl cc
above_err least None None place is = inr cc
above_err least None (Some h) place is =
    elim (cases_lt h.x least) [
      | inl less ↦ inr (let wrong : Err 0 ≡ Err place = rw (lt-ltb h.x least less) at is in cc)
      | inr more ↦ absurd (let right : Ok h ≡ Err place = rw (le-ltb h.x least more) at is in cc)
    ]

abbrev pub wrong_at : ℕ → Result Group ℕ
wrong_at place = Err place

-- the window as it is cut out of the slots at hand
window_cut : (slots : List ℕ) (at count end : ℕ) → at ≤ length slots → end ≡ min (length slots) (at + count) → take (end - at) (drop at slots) ≡ take count (drop at slots)
window_cut slots at count end there is =
    let long = length-drop at slots in
    elim (cases_lt (length slots) (at + count)) [
      | inl short ↦ take_all (end - at) (drop at slots) (omega arith) ∙ sym (take_all count (drop at slots) (omega arith))
      | inr more ↦ ap (λ n. take n (drop at slots)) (let e : end - at ≡ count = omega arith in e)
    ]

module _ (width least at count end : ℕ) (slots : Slots) (reaches : IsReach at slots count) (there : at ≤ length slots.slots.now)
    (end_is : end ≡ min (length slots.slots.now) (at + count)) where
  abbrev front : List ℕ
  front = take (end - at) (drop at slots.slots.now)

  abbrev answer : Result Group ℕ
  answer = if_above least (first_bad width count front) (group_read width front)

  front_within : length front ≡ min count (length slots.slots.now - at)
  front_within = length-take (end - at) (drop at slots.slots.now) ∙ (let long = length-drop at slots.slots.now in omega arith)

  -- a group that was read has its slots in the window
  pub read_within : (g : Group) → answer ≡ Ok g → (1 ≤ g.used) × (g.used ≤ 9) × (at + g.used ≤ length slots.slots.now)
  read_within g is =
      let read = above_ok least (first_bad width count front) (group_read width front) g is in
      let counts = read_counts width front g read.1 in
      let some = counts.1 in
      let within = counts.3 in
      let long = front_within in (some, counts.2, omega arith)

  judged_by : (ends : List Bool) (more : List ℕ) → AreSlots slots ends more → at < 64 → group_at width least (drop at ends) (drop at (slots.slots.now ++ more)) ≡ answer
  judged_by ends more are word =
      let within = reaches.within in
      let most = reaches.most in
      judged_is slots ends more width least at count are (reaches.is ends more are) there (omega arith)
      ∙ ap (λ (slots : List ℕ). if_above least (first_bad width count slots) (group_read width slots)) (sym (window_cut slots.slots.now at count end there end_is))

  pub step_is : (g : Group) (ends_run : Bool) → answer ≡ Ok g → at < 64 →
      ((ends : List Bool) (more : List ℕ) → AreSlots slots ends more → get_or ends (at + g.used - 1) false ≡ ends_run) → IsStep width least at slots (record { group = g; ends_run = ends_run })
  step_is g ends_run is word last =
      let read = above_ok least (first_bad width count front) (group_read width front) g is in
      let counts = read_counts width front g read.1 in
      let all = none_wrong width count front read.0 in
      let some = counts.1 in
      let first = counts.4 in
      let one = reaches.some in
      let narrow = all.1 0 one in
      record {
        group = λ ends more are. judged_by ends more are word ∙ is;
        last = λ ends more are.
            get_or-drop at ends (g.used - 1) false ∙ ap (λ k. get_or ends k false) (let e : at + (g.used - 1) ≡ at + g.used - 1 = omega arith in e) ∙ last ends more are;
        some = some;
        within = (read_within g is).2;
        few = counts.2;
        counts = counts.0;
        low = read.2;
        narrow = omega arith;
      }

  -- a slot that breaks a rule is one of those at hand, or the one behind them
  pub left_within : (place : ℕ) → answer ≡ Err place → at + place ≤ length slots.slots.now
  left_within place is =
      let long = front_within in elim (above_err least (first_bad width count front) (group_read width front) place is) [
        | inl bad ↦ omega (arith, (wrong_within width count front place bad).1)
        | inr none ↦ omega arith
      ]

  left_near : (place : ℕ) → answer ≡ Err place → at + place < at + 9
  left_near place is =
      let few = reaches.most in
      elim (above_err least (first_bad width count front) (group_read width front) place is) [
        | inl bad ↦ omega (arith, (wrong_within width count front place bad).0)
        | inr none ↦ omega arith
      ]

  pub left_is : (place : ℕ) → answer ≡ Err place → at < 64 → IsLeft width least at slots (at + place)
  left_is place is word = record {
    is = λ ends more are. judged_by ends more are word ∙ is ∙ ap wrong_at (let e : place ≡ at + place - at = omega arith in e);
    from = omega arith;
    within = left_within place is;
    near = left_near place is;
  }
