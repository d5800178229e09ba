-- Groups that the first slots show: a slot alone, and counts of one digit.
use Rattle.std.proofs.Common.{◌≡◌, ℕ, zero, suc, ◌+◌, ◌-◌, ◌^◌, ◌<◌, ◌≤◌, Bool, true, false, eqb, leb, ◌&&◌, List, [], ◌∷◌, ◌++◌, length, get_or}
use Rattle.std.proofs.Common.{take, drop, map, Option, Some, None, refl, sym, ap, ◌∙◌, inl, inr, arith}
use Rattle.std.specs.List.{starts_with}
use Rattle.std.proofs.lemmas.Bool.{lt-ltb, le-ltb, le-leb, eq-eqb, cond-true, and_from, true≢false}
use Rattle.std.proofs.lemmas.Bool.Decides.{nat_tests}
use Rattle.std.proofs.lemmas.List.{get_or-drop, length-drop}
use Rattle.lert_counter.specs.Group.{digits, written, digit_base, group}
use Rattle.lert_counter.specs.Reading.{read_as}
use Rattle.lert_counter.specs.declared.group.Group.{Group}
use Rattle.lert_counter.proofs.DigitLemmas.{digits-last}
use Rattle.lert_counter.proofs.CounterLemmas.{group-counter, counter-bare}
use Rattle.lert_blocks.specs.declared.decoder.Slots.{Slots}
use Rattle.lert_blocks.specs.Grammar.{group_read, read_if}
use Rattle.lert_blocks.specs.Walk.{reach, first_bad, if_above, group_at}
use Rattle.lert_blocks.specs.Decoding.{AreSlots, AreWhole, IsAlone, IsStep, IsLeft}
use Rattle.lert_blocks.proofs.GroupLaws.{group_read-above, decided}
use Rattle.lert_blocks.proofs.GroupLaws.Decided.{empty, alone, above, twice, zero_twice, zero_thrice, zero_first, below}
use Rattle.lert_blocks.proofs.SlotLaws.{wrong_at, judged_is, first_bad_none, first_bad-take}

-- ---- how far a group reaches

reach_some : (most : ℕ) (ends : List Bool) → 0 < length ends → 1 ≤ reach (suc most) ends
reach_some most [] some = absurd (omega arith)
reach_some most (true ∷ ends) some = omega arith
reach_some most (false ∷ ends) some = omega arith

reach_most : (most : ℕ) (ends : List Bool) → (reach most ends ≤ most) × (reach most ends ≤ length ends)
reach_most zero ends = (omega arith, omega arith)
reach_most (suc most) [] = (omega arith, omega arith)
reach_most (suc most) (true ∷ ends) = (omega arith, omega arith)
reach_most (suc most) (false ∷ ends) = let behind = reach_most most ends in (omega arith, omega arith)

reach_end : (most : ℕ) (ends : List Bool) → get_or ends 0 false ≡ true → reach (suc most) ends ≡ 1
reach_end most [] end = absurd (true≢false (sym end))
reach_end most (true ∷ ends) end = refl
reach_end most (false ∷ ends) end = absurd (true≢false (sym end))

-- ---- one slot alone

alone_read : (width count : ℕ) (front : List ℕ) → 1 ≤ count → count ≤ length front → (1 < count → (0 < get_or front 0 0) × (get_or front 0 0 < get_or front 1 0)) →
    group_read width (take count front) ≡ Some (record { x = get_or front 0 0; count = 1; used = 1 })
alone_read width zero front some within next_is = absurd (omega arith)
alone_read width (suc count) [] some within next_is = absurd (omega arith)
alone_read width (suc zero) (x ∷ front) some within next_is = refl
alone_read width (suc (suc count)) (x ∷ []) some within next_is = absurd (omega arith)
alone_read width (suc (suc count)) (x ∷ next ∷ front) some within next_is =
    let greater = next_is (omega arith) in group_read-above width x next (take count front) greater.0 greater.1

abbrev one_slot : ℕ → Group
one_slot x = record { x = x; count = 1; used = 1 }

module _ (width least at : ℕ) (slots : Slots) (ends_run : Bool) (whole : AreWhole width at slots) (word : at < 64) (there : at < slots.some)
    (alone_is : IsAlone at slots.slots.now ends_run) (end_is : (ends : List Bool) (more : List ℕ) → AreSlots slots ends more → get_or ends at false ≡ ends_run) where
  -- where more slots may belong to it, the next one is greater
  above_it : (ends : List Bool) (more : List ℕ) → AreSlots slots ends more → 1 < reach 9 (drop at ends) → at + 1 < length slots.slots.now →
      (0 < get_or slots.slots.now at 0) × (get_or slots.slots.now at 0 < get_or slots.slots.now (at + 1) 0)
  above_it ends more are many next =
      elim alone_is [
        | inl end ↦ absurd (
            let first : get_or (drop at ends) 0 false ≡ true = get_or-drop at ends 0 false ∙ ap (λ k. get_or ends k false) (let e : at + 0 ≡ at = omega arith in e) ∙ end_is ends more are ∙ end in
            omega (arith, reach_end 8 (drop at ends) first))
        | inr greater ↦ (greater.0, greater.1 next)
      ]

  alone_at : (ends : List Bool) (more : List ℕ) → AreSlots slots ends more →
      group_at width least (drop at ends) (drop at (slots.slots.now ++ more)) ≡ if_above least None (Some (one_slot (get_or slots.slots.now at 0)))
  alone_at ends more are =
      let here = slots.slots.now in
      let count = reach 9 (drop at ends) in
      let left : length (drop at ends) ≡ slots.some - at = length-drop at ends ∙ ap (λ n. n - at) are.some in
      let some = reach_some 8 (drop at ends) (omega arith) in
      let most = reach_most 9 (drop at ends) in
      let all = whole.all in
      let long = length-drop at here in
      let none : first_bad width count (take count (drop at here)) ≡ None =
      first_bad-take width count (drop at here)
      ∙ first_bad_none width count (drop at here) (λ k h. rw (get_or-drop at here k 0) (whole.narrow (at + k) (omega arith) (omega arith))) (omega arith) in
      let first : get_or (drop at here) 0 0 ≡ get_or here at 0 = get_or-drop at here 0 0 ∙ ap (λ k. get_or here k 0) (let e : at + 0 ≡ at = omega arith in e) in
      let read = alone_read width count (drop at here) some (omega arith)
      (λ many. let greater = above_it ends more are many (omega arith) in
      let next = get_or-drop at here 1 0 in (omega (arith, first, greater.0), omega (arith, first, next, greater.1))) in
      judged_is slots ends more width least at count are refl (omega arith) (omega arith)
      ∙ ap (λ bad. if_above least bad (group_read width (take count (drop at here)))) none
      ∙ ap (if_above least None) (read ∙ ap (λ x. Some (one_slot x)) first)

  pub alone_step : least ≤ get_or slots.slots.now at 0 → IsStep width least at slots (record { group = one_slot (get_or slots.slots.now at 0); ends_run = ends_run })
  alone_step low =
      let all = whole.all in
      record {
        group = λ ends more are. alone_at ends more are ∙ (let x = get_or slots.slots.now at 0 in rw (le-ltb x least low) refl);
        last = λ ends more are. get_or-drop at ends 0 false ∙ ap (λ k. get_or ends k false) (let e : at + 0 ≡ at = omega arith in e) ∙ end_is ends more are;
        some = omega arith;
        within = omega arith;
        few = omega arith;
        counts = (omega arith, omega arith);
        low = low;
        narrow = whole.narrow at (omega arith) (omega arith);
      }

  pub alone_left : get_or slots.slots.now at 0 < least → IsLeft width least at slots at
  alone_left low =
      let all = whole.all in
      record {
        is = λ ends more are. alone_at ends more are ∙ (let x = get_or slots.slots.now at 0 in rw (lt-ltb x least low) (ap wrong_at (let e : 0 ≡ at - at = omega arith in e)));
        from = omega arith;
        within = omega arith;
        near = omega arith;
      }

-- ---- a count of one digit

-- the group of x and d + 2, where d is below x
digit_group : (width x d : ℕ) → 8 ≤ width → x < 2 ^ width → 0 < d → d < x → group width x (d + 2) ≡ x ∷ d ∷ x ∷ []
digit_group width x d wide narrow some lower =
    let base : digit_base width x ≡ 2 ^ width - 2 = grind (arith, nat_tests) in
    let one : digits 5 (digit_base width x) (d + 2 - 3) ≡ (d + 2 - 3) ∷ [] = digits-last 4 (digit_base width x) (d + 2 - 3) (omega arith) in
    let same : written x (d + 2 - 3) ≡ d = grind (arith, nat_tests) in
    let first : written x (get_or (digits 5 (digit_base width x) (d + 2 - 3)) 0 0) ≡ d = ap (λ (ds : List ℕ). written x (get_or ds 0 0)) one ∙ same in
    group-counter width x (d + 2) (omega arith) (λ z. absurd (omega arith)) ∙ counter-bare width x (d + 2) (omega arith) (omega arith)
    ∙ ap (λ (ds : List ℕ). x ∷ (map (written x) ds ++ x ∷ [])) one ∙ ap (λ y. x ∷ y ∷ x ∷ []) same

pub digit_read : (width x d : ℕ) (back : List ℕ) → 8 ≤ width → x < 2 ^ width → 0 < d → d < x → d < 2 ^ 32 →
    group_read width (x ∷ d ∷ x ∷ back) ≡ Some (record { x = x; count = d + 2; used = 3 })
digit_read width x d back wide narrow some lower small =
    let text = digit_group width x d wide narrow some lower in
    let slots = x ∷ d ∷ x ∷ back in
    let begins : starts_with eqb slots (group width x (d + 2)) ≡ true = rw text (rw (eq-eqb x x refl, eq-eqb d d refl) refl) in
    let stands : read_if width x (d + 2) slots ≡ Some (read_as width x (d + 2)) =
    cond-true {A = Option Group} (leb (d + 2) (2 ^ 47) && starts_with eqb slots (group width x (d + 2))) (Some (read_as width x (d + 2))) None
    (and_from (leb (d + 2) (2 ^ 47)) (starts_with eqb slots (group width x (d + 2))) (le-leb (d + 2) (2 ^ 47) (omega arith)) begins) in
    elim (decided width slots) [
      | empty none e ↦ absurd (omega arith)
      | alone long e ↦ absurd (omega arith)
      | above long positive greater e ↦ absurd (omega arith)
      | twice long positive same e ↦ absurd (omega arith)
      | zero_twice long first second apart e ↦ absurd (omega arith)
      | zero_thrice long first second third e ↦ absurd (omega arith)
      | zero_first c long first second least only e ↦ absurd (omega arith)
      | below c long less least only e ↦ (let count = only (d + 2) (omega arith) (ap (λ (front : List ℕ). take (length front) slots) text ∙ sym text) in
          e ∙ ap (λ n. read_if width x n slots) count ∙ stands
          ∙ ap (λ n. Some (record { x = x; count = d + 2; used = n })) (ap (λ (front : List ℕ). length front) text))
    ]

-- the same for slots by their places
pub digit_at : (width : ℕ) (slots : List ℕ) → 8 ≤ width → get_or slots 0 0 < 2 ^ width → 2 < length slots → get_or slots 2 0 ≡ get_or slots 0 0 → 0 < get_or slots 1 0 →
    get_or slots 1 0 < get_or slots 0 0 → get_or slots 1 0 < 2 ^ 32 → group_read width slots ≡ Some (record { x = get_or slots 0 0; count = get_or slots 1 0 + 2; used = 3 })
digit_at width [] wide narrow long same some lower small = absurd (omega arith)
digit_at width (x ∷ []) wide narrow long same some lower small = absurd (omega arith)
digit_at width (x ∷ d ∷ []) wide narrow long same some lower small = absurd (omega arith)
digit_at width (x ∷ d ∷ last ∷ back) wide narrow long same some lower small =
    ap (λ y. group_read width (x ∷ d ∷ y ∷ back)) same ∙ digit_read width x d back wide narrow some lower small
