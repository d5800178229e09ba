-- The keys that weigh enough.
use Rattle.std.proofs.Common.{◌≡◌, ◌≢◌, ℕ, ◌+◌, ◌*◌, ◌/◌, ◌^◌, ◌<◌, ◌≤◌, zero, suc, Bool, cond, leb, List, [], ◌∷◌, length, get_or, sum_by, lit<, ap, sym, ◌∙◌, inl, inr, arith, refl}
use Rattle.std.proofs.{Math.Nat.mod-lt, lemmas.Bool.{cases_lt, cases_eq, lt-leb, le-leb, ne_eqb}, lemmas.Bool.Decides.nat_tests, lemmas.List.Sums.sum_by-cons, lemmas.Nat.{xor_lt, shr_le, shr_below}}
use Rattle.std.specs.Prelude.{Contains}
use Rattle.lert_spec.specs.Edges.{key_bits, tail_bits}
use Rattle.lert_spec.specs.{declared.numbers.Numbers.Numbers, Counts.{Measure, distinct_in, heavy_in, insert_key, weight_for, weight_in}, Mix.{cone_of, folded, mix, scaled}}
use Rattle.lert_spec.proofs.{CountLaws.count-whole, ReportLaws.{times, times-cons_other, times-cons_same, times-filter}}

-- a list has what stands in it at least once
pub Contains-times : (key : ℕ) (keys : List ℕ) (k : ℕ) → k < length keys → get_or keys k key ≡ key → 1 ≤ times key keys
Contains-times key [] k within here = absurd (omega (arith, within))
Contains-times key (other ∷ others) zero within here = omega (arith, times-cons_same key other others here)
Contains-times key (other ∷ others) (suc k) within here =
    let later = Contains-times key others k (omega (arith, within)) here in
    elim (cases_eq other key) [
      | inl same ↦ omega (arith, times-cons_same key other others same)
      | inr differs ↦ omega (arith, times-cons_other key other others differs, later)
    ]

pub times-Contains : (key : ℕ) (keys : List ℕ) → 1 ≤ times key keys → Contains keys key
times-Contains key [] some = absurd (omega (arith, some))
times-Contains key (other ∷ others) some =
    elim (cases_eq other key) [
      | inl same ↦ (0, omega arith, same)
      | inr differs ↦ (
          let later = times-Contains key others (omega (arith, some, times-cons_other key other others differs)) in
          (suc later.0, omega (arith, later.1), later.2))
    ]

-- a key put into ascending keys
pub insert_before : (key other : ℕ) (others : List ℕ) → key < other → insert_key key (other ∷ others) ≡ key ∷ other ∷ others
insert_before key other others less = grind (arith, nat_tests)

pub insert_same : (key other : ℕ) (others : List ℕ) → other ≤ key → key ≡ other → insert_key key (other ∷ others) ≡ other ∷ others
insert_same key other others less same = grind (arith, nat_tests)

pub insert_behind : (key other : ℕ) (others : List ℕ) → other ≤ key → key ≢ other → insert_key key (other ∷ others) ≡ other ∷ insert_key key others
insert_behind key other others less differs = grind (arith, nat_tests)

inserted : (key : ℕ) (keys : List ℕ) → 1 ≤ times key (insert_key key keys)
inserted key [] = omega (arith, times-cons_same key key [] refl)
inserted key (other ∷ others) =
    elim (cases_lt key other) [
      | inl less ↦ omega (arith, ap (times key) (insert_before key other others less), times-cons_same key key (other ∷ others) refl)
      | inr above ↦ elim (cases_eq key other) [
        | inl same ↦ omega (arith, ap (times key) (insert_same key other others above same), times-cons_same key other others (sym same))
        | inr differs ↦ omega (
          arith,
          ap (times key) (insert_behind key other others above differs),
          times-cons_other key other (insert_key key others) (λ is. differs (sym is)),
          inserted key others,
        )
      ]
    ]

-- of another key there are as many as before
kept : (key new : ℕ) (keys : List ℕ) → new ≢ key → times key (insert_key new keys) ≡ times key keys
kept key new [] other = times-cons_other key new [] other
kept key new (first ∷ others) other =
    elim (cases_lt new first) [
      | inl less ↦ ap (times key) (insert_before new first others less) ∙ times-cons_other key new (first ∷ others) other
      | inr above ↦ elim (cases_eq new first) [
        | inl same ↦ ap (times key) (insert_same new first others above same)
        | inr differs ↦ ap (times key) (insert_behind new first others above differs) ∙ (elim (cases_eq first key) [
          | inl is ↦ omega (arith, times-cons_same key first (insert_key new others) is, times-cons_same key first others is, kept key new others other)
          | inr not ↦ omega (arith, times-cons_other key first (insert_key new others) not, times-cons_other key first others not, kept key new others other)
        ])
      ]
    ]

module _ {A : Type 0} (by : Measure A) where
  -- what has another key weighs nothing for a key
  weighs-other : (key : ℕ) (event : A) (events : List A) → by.key event ≢ key → sum_by (weight_for by key) (event ∷ events) ≡ sum_by (weight_for by key) events
  weighs-other key event events differs =
      omega (arith, sum_by-cons (weight_for by key) event events, ap (λ t. cond {A = ℕ} t (by.weight event) 0) (ne_eqb (by.key event) key differs))

  -- a key that weighs something is among those that occur
  pub times-distinct : (key : ℕ) (events : List A) → 1 ≤ sum_by (weight_for by key) events → 1 ≤ times key (distinct_in by events)
  times-distinct key [] some = absurd (omega (arith, some))
  times-distinct key (event ∷ events) some =
      elim (cases_eq (by.key event) key) [
        | inl same ↦ omega (arith, inserted (by.key event) (distinct_in by events), ap (λ k. times k (insert_key (by.key event) (distinct_in by events))) same)
        | inr differs ↦ omega (
          arith,
          kept key (by.key event) (distinct_in by events) differs,
          times-distinct key events (omega (arith, some, weighs-other key event events differs)),
        )
      ]

  module _ (threshold : ℕ) (events : List A) (key : ℕ) where
    of_heavy : times key (heavy_in by threshold events) ≡ cond (leb threshold (weight_in by key events 0 (length events))) (times key (distinct_in by events)) 0
    of_heavy = times-filter key (λ k. leb threshold (weight_in by k events 0 (length events))) (distinct_in by events)

    pub light_never : weight_in by key events 0 (length events) < threshold → times key (heavy_in by threshold events) ≡ 0
    light_never few = of_heavy ∙ ap (λ (b : Bool). cond b (times key (distinct_in by events)) 0) (lt-leb threshold (weight_in by key events 0 (length events)) few)

    pub heavy_all : threshold ≤ weight_in by key events 0 (length events) → times key (heavy_in by threshold events) ≡ times key (distinct_in by events)
    heavy_all many = of_heavy ∙ ap (λ (b : Bool). cond b (times key (distinct_in by events)) 0) (le-leb threshold (weight_in by key events 0 (length events)) many)

    pub heavy_enough : Contains (heavy_in by threshold events) key → threshold ≤ weight_in by key events 0 (length events)
    heavy_enough has =
        elim (cases_lt (weight_in by key events 0 (length events)) threshold) [
          | inl few ↦ absurd (omega (arith, Contains-times key (heavy_in by threshold events) has.0 has.1 has.2, light_never few))
          | inr many ↦ many
        ]

    pub enough_heavy : 1 ≤ threshold → threshold ≤ weight_in by key events 0 (length events) → Contains (heavy_in by threshold events) key
    enough_heavy least many =
        times-Contains key (heavy_in by threshold events)
        (omega (arith, heavy_all many, times-distinct key events (omega (arith, least, many, count-whole by key events))))

-- each number has a cone
folded_below : (n : ℕ) → n < 2 ^ 64 → folded n < 2 ^ 64
folded_below n below = xor_lt 64 n (n / 2 ^ 33) below (omega (arith, shr_le n 33, below))

scaled_below : (factor n : ℕ) → scaled factor n < 2 ^ 64
scaled_below factor n = mod-lt (n * factor) {m = 2 ^ 64} (lit< tt)

pub mix_any : (key : ℕ) → mix key < 2 ^ 64
unfolding mix
mix_any key = folded_below _ (scaled_below 0xc4ceb9fe1a85ec53 _)

pub cone_any : (s : Numbers) (key : ℕ) → s.cone_bits ≤ key_bits s → cone_of s key < 2 ^ s.cone_bits
cone_any s key within = shr_below (mix key) s.cone_bits (tail_bits s) (let bits : s.cone_bits + tail_bits s ≡ key_bits s = omega (arith, within) in rw bits (mix_any key))
