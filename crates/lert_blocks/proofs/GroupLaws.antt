-- The group at the front of slots: what is read of a text that begins with a group, and what was read of any slots.
use Rattle.std.proofs.Common.{◌≡◌, ℕ, zero, suc, ◌+◌, ◌-◌, ◌^◌, ◌<◌, ◌≤◌, ◌≢◌, ◌==◌, true, not, cond, leb, eqb, ◌&&◌, List, [], ◌∷◌, ◌++◌}
use Rattle.std.proofs.Common.{length, map, take, get_or, Option, Some, None, refl, sym, ap, ap₂, ◌∙◌, subst, inl, inr, ◌⊎◌, arith, length-append}
use Rattle.std.specs.Prelude.{take_while}
use Rattle.std.specs.List.{starts_with}
use Rattle.std.proofs.lemmas.Bool.{cases_order, cases_eq, cases_Bool, cond-true, cond-false, and_from, and_parts, or_cases, or_right, or_left}
use Rattle.std.proofs.lemmas.Bool.{le-leb, leb-true, eq-eqb, ne_eqb, eqb-true, lt-ltb, le-ltb, both_ways, false_from_ne_true}
use Rattle.std.proofs.lemmas.Bool.Decides.{nat_tests, Decides-eqb}
use Rattle.std.proofs.lemmas.List.{get_or_at, get_or-append-add, get_or-take, length-take}
use Rattle.std.proofs.lemmas.List.Sums.{take_while-cons}
use Rattle.std.proofs.Math.Seq.{take-append-add}
use Rattle.std.proofs.lemmas.Slice.Eq.{slice_eq-Decides}
use Rattle.lert_counter.specs.Group.{digits, written, digit_base, least_counter, group, IsCount, BeginsWith}
use Rattle.lert_counter.specs.Reading.{number_of, read_as, HasTwoZeros, IsReadFrom, IsCounterRead, IsZeroRead, Follows}
use Rattle.lert_counter.specs.declared.group.Group.{Group}
use Rattle.lert_counter.proofs.ScanLemmas.{written-apart}
use Rattle.lert_counter.proofs.RoundTrip.{number_of-digits, counter_text, zero_text}
use Rattle.lert_counter.proofs.CounterLemmas.{group-one, group-two, group-three}
use Rattle.lert_counter.proofs.GroupLemmas.{length_group-positive, length_group-le}
use Rattle.lert_counter.proofs.FrontLemmas.{begins_split, begins_front, begins_alone, begins_one, begins_two, begins_three, front_of, zeros_later, read_one}
use Rattle.lert_counter.proofs.FrontLemmas.Front.{one, two, three, zero_counter, counter_above}
use Rattle.lert_blocks.specs.Grammar.{unwritten, spelled, read_if, two_zeros, zero_if, group_read}

-- ---- a count that is written by digits is spelled by them

unwritten-written : (x d : ℕ) → unwritten x (written x d) ≡ d
unwritten-written x d = grind (arith, nat_tests)

digits_read : (x : ℕ) (ds : List ℕ) → map (unwritten x) (map (written x) ds) ≡ ds
digits_read x [] = refl
digits_read x (d ∷ ds) = ap₂ (λ n ns. n ∷ ns) (unwritten-written x d) (digits_read x ds)

up_to_next : (x : ℕ) (ds back : List ℕ) → take_while (λ slot. not (slot == x)) (map (written x) ds ++ x ∷ back) ≡ map (written x) ds
up_to_next x [] back =
    take_while-cons (λ slot. not (slot == x)) x back
    ∙ cond-false (not (x == x)) (x ∷ take_while (λ slot. not (slot == x)) back) [] (ap not (eq-eqb x x refl))
up_to_next x (d ∷ ds) back =
    take_while-cons (λ slot. not (slot == x)) (written x d) (map (written x) ds ++ x ∷ back)
    ∙ cond-true (not (written x d == x)) (written x d ∷ take_while (λ slot. not (slot == x)) (map (written x) ds ++ x ∷ back)) []
    (ap not (ne_eqb (written x d) x (written-apart x d)))
    ∙ ap (λ slots. written x d ∷ slots) (up_to_next x ds back)

spelled-written : (width x room n : ℕ) (back : List ℕ) →
    spelled width x (map (written x) (digits room (digit_base width x) n) ++ x ∷ back) ≡ n + least_counter x
spelled-written width x room n back =
    let ds = digits room (digit_base width x) n in
    ap (λ slots. number_of (digit_base width x) (map (unwritten x) slots) + least_counter x) (up_to_next x ds back)
    ∙ ap (λ slots. number_of (digit_base width x) slots + least_counter x) (digits_read x ds)
    ∙ ap (λ k. k + least_counter x) (number_of-digits room (digit_base width x) n)

spelled_above : (width x c next : ℕ) (rest back : List ℕ) → 0 < x → 3 ≤ c → x ∷ next ∷ rest ≡ group width x c ++ back →
    spelled width x (cond (next == 0) rest (next ∷ rest)) ≡ c
spelled_above width x c next rest back positive least text =
    let total : c - 3 + least_counter x ≡ c = grind (arith, nat_tests) in
    elim (cases_eq next 0) [
      | inl z ↦ (let there = counter_text width x c back (x ∷ next ∷ rest) positive least text 2 (λ _. refl) (λ apart. absurd (apart z)) in
          ap (spelled width x) (cond-true (next == 0) rest (next ∷ rest) (eq-eqb next 0 z) ∙ there.0) ∙ spelled-written width x 5 (c - 3) back ∙ total)
      | inr apart ↦ (let there = counter_text width x c back (x ∷ next ∷ rest) positive least text 1 (λ z. absurd (apart z)) (λ _. refl) in
          ap (spelled width x) (cond-false (next == 0) rest (next ∷ rest) (ne_eqb next 0 apart) ∙ there.0) ∙ spelled-written width x 5 (c - 3) back ∙ total)
    ]

spelled_zero : (width c next : ℕ) (rest back : List ℕ) → 4 ≤ c → 0 ∷ next ∷ rest ≡ group width 0 c ++ back → spelled width 0 (next ∷ rest) ≡ c
spelled_zero width c next rest back least text =
    let there = zero_text width c back (0 ∷ next ∷ rest) least text in
    ap (spelled width 0) there.0 ∙ spelled-written width 0 5 (c - 4) (0 ∷ back) ∙ omega arith

-- ---- the parts of the grammar

-- the group of x and c is read where the slots begin with it
data ReadIf (width x c : ℕ) (slots : List ℕ) : Type 0 where
  stands : c ≤ 2 ^ 47 → BeginsWith slots (group width x c) → read_if width x c slots ≡ Some (read_as width x c) → ReadIf width x c slots
  lacks : (c ≤ 2 ^ 47 → BeginsWith slots (group width x c) → ⊥) → read_if width x c slots ≡ None → ReadIf width x c slots

cases_read : (width x c : ℕ) (slots : List ℕ) → ReadIf width x c slots
cases_read width x c slots =
    let text = group width x c in
    let test = starts_with eqb slots text in
    let begins = slice_eq-Decides {A = ℕ} {E = eqb} Decides-eqb text (take (length text) slots) test refl in
    elim (cases_Bool (leb c (2 ^ 47) && test)) [
      | inl is ↦ (let both = and_parts (leb c (2 ^ 47)) test is in
          stands (leb-true c (2 ^ 47) both.0) (sym (begins.0 both.1)) (cond-true {A = Option Group} (leb c (2 ^ 47) && test) (Some (read_as width x c)) None is))
      | inr isnt ↦ lacks (λ most text_is. both_ways (leb c (2 ^ 47) && test) isnt (and_from (leb c (2 ^ 47)) test (le-leb c (2 ^ 47) most) (begins.1 (sym text_is))))
          (cond-false {A = Option Group} (leb c (2 ^ 47) && test) (Some (read_as width x c)) None isnt)
    ]

zeros_behind : (slot : ℕ) (slots : List ℕ) → HasTwoZeros slots → HasTwoZeros (slot ∷ slots)
zeros_behind slot slots (k, within, first, second) = (suc k, omega arith, first, let next : suc k + 1 ≡ suc (k + 1) = omega arith in rw next second)

two_zeros-found : (slots : List ℕ) → two_zeros slots ≡ true → HasTwoZeros slots
two_zeros-found [] h = absurd (cc)
two_zeros-found (slot ∷ []) h = absurd (cc)
two_zeros-found (slot ∷ next ∷ rest) h =
    elim (or_cases ((slot == 0) && (next == 0)) (two_zeros (next ∷ rest)) h) [
      | inl both ↦ (let zeros = and_parts (slot == 0) (next == 0) both in (0, omega arith, eqb-true slot 0 zeros.0, eqb-true next 0 zeros.1))
      | inr later ↦ zeros_behind slot (next ∷ rest) (two_zeros-found (next ∷ rest) later)
    ]

two_zeros-there : (slots : List ℕ) → HasTwoZeros slots → two_zeros slots ≡ true
two_zeros-there [] (k, within, first, second) = absurd (omega arith)
two_zeros-there (slot ∷ []) (k, within, first, second) = absurd (omega arith)
two_zeros-there (slot ∷ next ∷ rest) (zero, within, first, second) =
    or_left ((slot == 0) && (next == 0)) (two_zeros (next ∷ rest)) (and_from (slot == 0) (next == 0) (eq-eqb slot 0 first) (eq-eqb next 0 second))
two_zeros-there (slot ∷ next ∷ rest) (suc k, within, first, second) =
    or_right ((slot == 0) && (next == 0)) (two_zeros (next ∷ rest)) (two_zeros-there (next ∷ rest) (k, omega arith, first, let behind : suc k + 1 ≡ suc (k + 1) = omega arith in (rw behind at second)))

-- ---- the grammar, case by case

pub group_read-above : (width x next : ℕ) (rest : List ℕ) → 0 < x → x < next → group_read width (x ∷ next ∷ rest) ≡ Some (record { x = x; count = 1; used = 1 })
group_read-above width x next rest positive above = rw (ne_eqb x 0 (omega arith), lt-ltb x next above) refl

pub group_read-twice : (width x : ℕ) (rest : List ℕ) → 0 < x → group_read width (x ∷ x ∷ rest) ≡ Some (record { x = x; count = 2; used = 2 })
group_read-twice width x rest positive = rw (ne_eqb x 0 (omega arith), le-ltb x x (omega arith), eq-eqb x x refl) refl

pub group_read-below : (width x next : ℕ) (rest : List ℕ) → next < x →
    group_read width (x ∷ next ∷ rest) ≡ read_if width x (spelled width x (cond (next == 0) rest (next ∷ rest))) (x ∷ next ∷ rest)
group_read-below width x next rest below = rw (ne_eqb x 0 (omega arith), le-ltb x next (omega arith), ne_eqb next x (omega arith)) refl

group_read-zero : (width next : ℕ) (rest : List ℕ) → 0 < next →
    group_read width (0 ∷ next ∷ rest) ≡ zero_if (0 ∷ next ∷ rest) (read_if width 0 (spelled width 0 (next ∷ rest)) (0 ∷ next ∷ rest))
group_read-zero width next rest above = rw (ne_eqb next 0 (omega arith)) refl

group_read-two_zeros : (width : ℕ) (rest : List ℕ) → (0 < length rest → get_or rest 0 0 ≢ 0) → group_read width (0 ∷ 0 ∷ rest) ≡ Some (record { x = 0; count = 2; used = 2 })
group_read-two_zeros width [] apart = refl
group_read-two_zeros width (y ∷ ys) apart = rw (ne_eqb y 0 (apart (omega arith))) refl

-- how the first slots decide the group
pub data Decided (width : ℕ) (slots : List ℕ) : Type 0 where
  empty : length slots ≡ 0 → group_read width slots ≡ None → Decided width slots
  alone : length slots ≡ 1 → group_read width slots ≡ Some (record { x = get_or slots 0 0; count = 1; used = 1 }) → Decided width slots
  above : 1 < length slots → 0 < get_or slots 0 0 → get_or slots 0 0 < get_or slots 1 0 → group_read width slots ≡ Some (record { x = get_or slots 0 0; count = 1; used = 1 }) →
      Decided width slots
  twice : 1 < length slots → 0 < get_or slots 0 0 → get_or slots 1 0 ≡ get_or slots 0 0 → group_read width slots ≡ Some (record { x = get_or slots 0 0; count = 2; used = 2 }) →
      Decided width slots
  zero_twice : 1 < length slots → get_or slots 0 0 ≡ 0 → get_or slots 1 0 ≡ 0 → (2 < length slots → get_or slots 2 0 ≢ 0) → group_read width slots ≡ Some (record { x = 0; count = 2; used = 2 }) →
      Decided width slots
  zero_thrice : 2 < length slots → get_or slots 0 0 ≡ 0 → get_or slots 1 0 ≡ 0 → get_or slots 2 0 ≡ 0 → group_read width slots ≡ Some (record { x = 0; count = 3; used = 3 }) →
      Decided width slots
  zero_first : (c : ℕ) → 1 < length slots → get_or slots 0 0 ≡ 0 → 0 < get_or slots 1 0 → 4 ≤ c → ((n : ℕ) → 4 ≤ n → BeginsWith slots (group width 0 n) → c ≡ n) →
      group_read width slots ≡ zero_if slots (read_if width 0 c slots) → Decided width slots
  below : (c : ℕ) → 1 < length slots → get_or slots 1 0 < get_or slots 0 0 → 3 ≤ c → ((n : ℕ) → 3 ≤ n → BeginsWith slots (group width (get_or slots 0 0) n) → c ≡ n) →
      group_read width slots ≡ read_if width (get_or slots 0 0) c slots → Decided width slots

decided_above : (width x next : ℕ) (rest : List ℕ) → 0 < x → Decided width (x ∷ next ∷ rest)
decided_above width x next rest positive =
    elim (cases_order x next) [
      | inl same ↦ twice (omega arith) positive (sym same) (ap (λ y. group_read width (x ∷ y ∷ rest)) (sym same) ∙ group_read-twice width x rest positive)
      | inr (inl greater) ↦ above (omega arith) positive greater (group_read-above width x next rest positive greater)
      | inr (inr less) ↦ (let c = spelled width x (cond (next == 0) rest (next ∷ rest)) in
          below c (omega arith) less (grind (arith, nat_tests))
          (λ n least begins. spelled_above width x n next rest _ positive least (begins_split (x ∷ next ∷ rest) (group width x n) begins))
          (group_read-below width x next rest less))
    ]

decided_zero : (width next : ℕ) (rest : List ℕ) → Decided width (0 ∷ next ∷ rest)
decided_zero width zero [] = zero_twice (omega arith) refl refl (λ more. absurd (omega arith)) (group_read-two_zeros width [] (λ more. absurd (omega arith)))
decided_zero width zero (zero ∷ ys) = zero_thrice (omega arith) refl refl refl refl
decided_zero width zero (suc y ∷ ys) = zero_twice (omega arith) refl refl (λ _. omega arith) (group_read-two_zeros width (suc y ∷ ys) (λ _. omega arith))
decided_zero width (suc y) rest =
    zero_first (spelled width 0 (suc y ∷ rest)) (omega arith) refl (omega arith) (omega arith)
    (λ n least begins. spelled_zero width n (suc y) rest _ least (begins_split (0 ∷ suc y ∷ rest) (group width 0 n) begins))
    (group_read-zero width (suc y) rest (omega arith))

pub decided : (width : ℕ) (slots : List ℕ) → Decided width slots
decided width [] = empty refl refl
decided width (x ∷ []) = alone refl refl
decided width (zero ∷ next ∷ rest) = decided_zero width next rest
decided width (suc x ∷ next ∷ rest) = decided_above width (suc x) next rest (omega arith)

-- ---- a reader that is given by cases answers that

-- its counters
pub counter_answer : (width least c : ℕ) (slots : List ℕ) (r : Option Group) → least ≤ c →
    ((n : ℕ) → least ≤ n → BeginsWith slots (group width (get_or slots 0 0) n) → c ≡ n) → IsCounterRead width least slots r → r ≡ read_if width (get_or slots 0 0) c slots
counter_answer width least c slots None low only reads =
    elim (cases_read width (get_or slots 0 0) c slots) [
      | stands most begins e ↦ reads.there c low most begins ∙ sym e
      | lacks never e ↦ sym e
    ]
counter_answer width least c slots (Some g) low only reads =
    elim (cases_read width (get_or slots 0 0) c slots) [
      | stands most begins e ↦ reads.there c low most begins ∙ sym e
      | lacks never e ↦ absurd (
          let text : BeginsWith slots (group width (get_or slots 0 0) g.count) = rw (← reads.read.1.first) reads.read.1.begins in
          let same = only g.count reads.read.0 text in
          never (omega (arith, reads.read.1.counts.1)) (rw same text))
    ]

-- and what it answers behind a first 0
pub zero_answer : (width c : ℕ) (slots : List ℕ) (r : Option Group) → 4 ≤ c → get_or slots 0 0 ≡ 0 →
    ((n : ℕ) → 4 ≤ n → BeginsWith slots (group width 0 n) → c ≡ n) → IsZeroRead width slots r → r ≡ zero_if slots (read_if width 0 c slots)
zero_answer width c slots None low first only reads =
    elim (cases_read width 0 c slots) [
      | stands most begins e ↦ reads.there c low most begins ∙ ap (zero_if slots) (sym e)
      | lacks never e ↦ sym (ap (zero_if slots) e ∙ cond-true {A = Option Group} (two_zeros (take 9 slots)) None _ (two_zeros-there (take 9 slots) reads.none))
    ]
zero_answer width c slots (Some g) low first only reads =
    let from : IsReadFrom width slots g = reads.read.0 in
    let zero_x : g.x ≡ 0 = from.first ∙ first in
    elim (cases_read width 0 c slots) [
      | stands most begins e ↦ reads.there c low most begins ∙ ap (zero_if slots) (sym e)
      | lacks never e ↦ elim reads.read.1 [
        | inl single ↦ sym (ap (zero_if slots) e
            ∙ cond-false {A = Option Group} (two_zeros (take 9 slots)) None _ (false_from_ne_true (two_zeros (take 9 slots)) (λ zeros. single.1 (two_zeros-found (take 9 slots) zeros)))
            ∙ ap Some (zero_alone width g zero_x single.0 from.len))
        | inr more ↦ absurd (
            let text : BeginsWith slots (group width 0 g.count) = rw (← zero_x) from.begins in
            let same = only g.count more text in
            never (omega (arith, from.counts.1)) (rw same text))
      ]
    ]
  where
    zero_alone : (width : ℕ) (g : Group) → g.x ≡ 0 → g.count ≡ 1 → g.used ≡ length (group width g.x g.count) → record { x = 0; count = 1; used = 1 } ≡ g
    zero_alone width g x count used = λ i. record {
      x = sym x i;
      count = sym count i;
      used = sym (used ∙ ap (λ n. length (group width g.x n)) count ∙ ap length (group-one width g.x)) i;
    }

-- ---- what is read of slots stands there

given : (width : ℕ) (slots : List ℕ) (r g : Group) → group_read width slots ≡ Some r → group_read width slots ≡ Some g → IsReadFrom width slots r → IsReadFrom width slots g
given width slots r g first second from = let same : r ≡ g = cc in subst (IsReadFrom width slots) same from

counted : (width x c : ℕ) (slots : List ℕ) → x ≡ get_or slots 0 0 → 1 ≤ c → c ≤ 2 ^ 47 → BeginsWith slots (group width x c) → IsReadFrom width slots (read_as width x c)
counted width x c slots first low most begins = record { first = first; counts = (low, most); begins = begins; len = refl }

pub read_from : (width : ℕ) (slots : List ℕ) (g : Group) → group_read width slots ≡ Some g → IsReadFrom width slots g
read_from width slots g is =
    elim (decided width slots) [
      | empty none e ↦ absurd (cc)
      | alone long e ↦ given width slots _ g e is (begins_one width slots (omega arith))
      | above long positive greater e ↦ given width slots _ g e is (begins_one width slots (omega arith))
      | twice long positive same e ↦ given width slots _ g e is (begins_two width slots long same)
      | zero_twice long first second apart e ↦ given width slots _ g e is (rw (← first) (begins_two width slots long (second ∙ sym first)))
      | zero_thrice long first second third e ↦ given width slots _ g e is (rw (← first) (begins_three width slots long first second third))
      | zero_first c long first second least only e ↦ elim (cases_read width 0 c slots) [
        | stands most begins r ↦ given width slots _ g (e ∙ ap (zero_if slots) r) is (counted width 0 c slots (sym first) (omega arith) most begins)
        | lacks never r ↦ elim (cases_Bool (two_zeros (take 9 slots))) [
          | inl zeros ↦ absurd (let none : group_read width slots ≡ None = e ∙ ap (zero_if slots) r ∙ cond-true {A = Option Group} (two_zeros (take 9 slots)) None _ zeros in cc)
          | inr apart ↦ given width slots _ g (e ∙ ap (zero_if slots) r ∙ cond-false {A = Option Group} (two_zeros (take 9 slots)) None _ apart) is
              (begins_alone width slots (omega arith) first)
        ]
      ]
      | below c long less least only e ↦ elim (cases_read width (get_or slots 0 0) c slots) [
        | stands most begins r ↦ given width slots _ g (e ∙ r) is (counted width (get_or slots 0 0) c slots refl (omega arith) most begins)
        | lacks never r ↦ absurd (let none : group_read width slots ≡ None = e ∙ r in cc)
      ]
    ]

pub read_counts : (width : ℕ) (slots : List ℕ) (g : Group) → group_read width slots ≡ Some g →
    IsCount g.count × (1 ≤ g.used) × (g.used ≤ 9) × (g.used ≤ length slots) × (g.x ≡ get_or slots 0 0) × (take g.used slots ≡ group width g.x g.count)
    × (g.used ≡ length (group width g.x g.count))
read_counts width slots g is =
    let from = read_from width slots g is in
    let text = group width g.x g.count in
    let some = length_group-positive width g.x g.count from.counts.0 in
    let few = length_group-le width g.x g.count from.counts.0 in
    let within : length text ≤ length slots = omega (arith, ap length from.begins, length-take (length text) slots) in
    (from.counts, omega (arith, from.len), omega (arith, from.len), omega (arith, from.len), from.first, ap (λ n. take n slots) from.len ∙ from.begins, from.len)

-- ---- a text that begins with a group is read as that

zeros_at : (front back : List ℕ) → HasTwoZeros (front ++ 0 ∷ 0 ∷ back)
zeros_at front back = (
  length front,
  omega (arith, length-append front (0 ∷ 0 ∷ back)),
  get_or_at front 0 (0 ∷ back) 0 (length front) refl,
  get_or-append-add front (0 ∷ 0 ∷ back) 1 0,
)

pub group_read-zero_alone : (width next : ℕ) (rest : List ℕ) → 0 < next → ¬ HasTwoZeros (next ∷ rest) →
    group_read width (0 ∷ next ∷ rest) ≡ Some (record { x = 0; count = 1; used = 1 })
group_read-zero_alone width next rest positive apart =
    let slots = 0 ∷ next ∷ rest in
    let c = spelled width 0 (next ∷ rest) in
    group_read-zero width next rest positive ∙ elim (cases_read width 0 c slots) [
      | stands most begins e ↦ absurd (
          let is = zero_text width c _ slots (omega arith) (begins_split slots (group width 0 c) begins) in
          apart (subst HasTwoZeros (sym is.0) (zeros_at (map (written 0) (digits 5 (digit_base width 0) (c - 4))) _)))
      | lacks never e ↦ ap (zero_if slots) e
          ∙ cond-false {A = Option Group} (two_zeros (take 9 slots)) None _
          (false_from_ne_true (two_zeros (take 9 slots)) (λ zeros. apart (zeros_later slots 9 positive (two_zeros-found (take 9 slots) zeros))))
    ]

alone_read : (width x : ℕ) (back : List ℕ) → Follows x back → group_read width (x ∷ back) ≡ Some (record { x = x; count = 1; used = 1 })
alone_read width x [] follows = refl
alone_read width x (y ∷ ys) follows =
    let greater = follows.above (omega arith) in
    elim (cases_eq x 0) [
      | inl z ↦ ap (λ n. group_read width (n ∷ y ∷ ys)) z ∙ group_read-zero_alone width y ys (omega arith) (follows.apart z)
          ∙ ap (λ n. Some (record { x = n; count = 1; used = 1 })) (sym z)
      | inr positive ↦ group_read-above width x y ys (omega arith) greater
    ]

twice_read : (width x : ℕ) (back : List ℕ) → Follows x back → group_read width (x ∷ x ∷ back) ≡ Some (record { x = x; count = 2; used = 2 })
twice_read width x back follows =
    elim (cases_eq x 0) [
      | inl z ↦ ap (λ n. group_read width (n ∷ n ∷ back)) z ∙ group_read-two_zeros width back (λ some. let greater = follows.above some in omega arith)
          ∙ ap (λ n. Some (record { x = n; count = 2; used = 2 })) (sym z)
      | inr positive ↦ group_read-twice width x back (omega arith)
    ]

read_there : (width x c : ℕ) (slots : List ℕ) → c ≤ 2 ^ 47 → BeginsWith slots (group width x c) → read_if width x c slots ≡ Some (read_as width x c)
read_there width x c slots most begins =
    elim (cases_read width x c slots) [ stands _ _ e ↦ e | lacks never _ ↦ absurd (never most begins) ]

counter_read : (width x c : ℕ) (slots : List ℕ) → c ≤ 2 ^ 47 → BeginsWith slots (group width x c) → 1 < length slots → get_or slots 0 0 ≡ x →
    ((x ≡ 0) × (4 ≤ c) × (0 < get_or slots 1 0)) ⊎ ((3 ≤ c) × (get_or slots 1 0 < x)) → group_read width slots ≡ Some (read_as width x c)
counter_read width x c slots most begins long first which =
    elim (decided width slots) [
      | empty none e ↦ absurd (omega arith)
      | alone one_slot e ↦ absurd (omega arith)
      | above _ positive greater e ↦ absurd (omega arith)
      | twice _ positive same e ↦ absurd (omega arith)
      | zero_twice _ zero_x second apart e ↦ absurd (omega arith)
      | zero_thrice _ zero_x second third e ↦ absurd (omega arith)
      | zero_first n _ zero_x second least only e ↦ elim which [
        | inl w ↦ (let at_zero : BeginsWith slots (group width 0 c) = rw (← w.0) begins in
            e ∙ ap (λ k. zero_if slots (read_if width 0 k slots)) (only c w.1 at_zero) ∙ ap (zero_if slots) (read_there width 0 c slots most at_zero)
            ∙ ap (λ y. Some (read_as width y c)) (sym w.0))
        | inr w ↦ absurd (omega arith)
      ]
      | below n _ less least only e ↦ (let at_first : BeginsWith slots (group width (get_or slots 0 0) c) = rw first begins in
          e ∙ ap (λ k. read_if width (get_or slots 0 0) k slots) (only c (omega arith) at_first) ∙ read_there width (get_or slots 0 0) c slots most at_first
          ∙ ap (λ y. Some (read_as width y c)) first)
    ]

pub read_text : (width x c : ℕ) (back : List ℕ) → IsCount c → Follows x back → group_read width (group width x c ++ back) ≡ Some (read_as width x c)
read_text width x c back counts follows =
    let slots = group width x c ++ back in
    let begins = begins_front slots (group width x c) back refl in
    elim (front_of width x c back slots counts refl) [
      | one e is ↦ ap (group_read width) is ∙ alone_read width x back follows ∙ ap Some (sym (read_one width x c e))
      | two e is ↦ ap (group_read width) is ∙ twice_read width x back follows ∙ ap Some (sym (read_two width x c e))
      | three z e is ↦ ap (group_read width) is ∙ ap Some (sym (read_three width x c z e))
      | zero_counter z least long first second ↦ counter_read width x c slots counts.1 begins long (first ∙ sym z) (inl (z, least, second))
      | counter_above positive least long first less ↦ counter_read width x c slots counts.1 begins long first (inr (least, less))
    ]
  where
    read_two : (width x c : ℕ) → c ≡ 2 → read_as width x c ≡ record { x = x; count = 2; used = 2 }
    read_two width x c e = rw (e, group-two width x) refl

    read_three : (width x c : ℕ) → x ≡ 0 → c ≡ 3 → read_as width x c ≡ record { x = 0; count = 3; used = 3 }
    read_three width x c z e = rw (z, e, group-three width) refl

-- and where the slots are cut behind it, as by the end of its run
Follows-take : (x n : ℕ) (back : List ℕ) → Follows x back → Follows x (take n back)
Follows-take x n back follows = record {
  above = λ some. let long = length-take n back in rw (get_or-take n back 0 0 (omega arith)) (follows.above (omega arith));
  apart = λ z zeros. follows.apart z (zeros_within n back zeros);
}
  where
    zeros_within : (n : ℕ) (back : List ℕ) → HasTwoZeros (take n back) → HasTwoZeros back
    zeros_within n back (k, within, first, second) =
        let long = length-take n back in
        (k, omega arith, sym (get_or-take n back k 0 (omega arith)) ∙ first, sym (get_or-take n back (k + 1) 0 (omega arith)) ∙ second)

pub read_text_cut : (width x c n : ℕ) (back : List ℕ) → IsCount c → Follows x back → length (group width x c) ≤ n →
    group_read width (take n (group width x c ++ back)) ≡ Some (read_as width x c)
read_text_cut width x c n back counts follows long =
    let more = n - length (group width x c) in
    let whole : n ≡ length (group width x c) + more = omega arith in
    ap (λ k. group_read width (take k (group width x c ++ back))) whole ∙ ap (group_read width) (take-append-add (group width x c) back more)
    ∙ read_text width x c (take more back) counts (Follows-take x more back follows)
