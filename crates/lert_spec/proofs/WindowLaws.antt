-- Laws of weights in windows of a list of events, and of the first position up to which a key weighs so much.
use Rattle.std.proofs.Common.{ℕ, ◌≡◌, ◌+◌, ◌-◌, ◌<◌, ◌≤◌, suc, Bool, cond, eqb, leb, List, [], ◌∷◌, ◌++◌, length, take, drop, Some, refl, ap, sym, ◌∙◌, arith, inl, inr, sum_by}
use Rattle.std.proofs.{Math.Seq.{take-add, take-length}, lemmas.Bool.{cases_lt, cases_Bool, le-leb, leb-true, leb-false}, lemmas.List.Sums.{sum_by-append, sum_by-cons}}
use Rattle.std.proofs.lemmas.Slice.{between_from_start}
use Rattle.std.specs.List.{position_from}
use Rattle.lert_spec.proofs.FirstPass.{first_pass}
use Rattle.lert_spec.specs.Counts.{Measure, weight_for, weight_in, first_in, nth_in}

-- at `at` a key first weighs n
pub record NthAt {A : Type 0} (by : Measure A) (n key : ℕ) (events : List A) : Type 0 where
  pub at : ℕ
  pub is : nth_in by n key events ≡ Some at
  pub from : 1 ≤ at
  pub within : at ≤ length events
  pub enough : n ≤ weight_in by key events 0 at
  pub earlier : (before : ℕ) → before < at → weight_in by key events 0 before < n

-- at `at` a key stands first
pub record FirstAt {A : Type 0} (by : Measure A) (key : ℕ) (events : List A) : Type 0 where
  pub at : ℕ
  pub is : first_in by key events ≡ Some at
  pub from : 1 ≤ at
  pub within : at ≤ length events
  pub earlier : (before : ℕ) → before < at → weight_in by key events 0 before < 1

-- behind so many items, which weigh nothing for it, a key stands
record Found {A : Type 0} (by : Measure A) (key place : ℕ) (events : List A) : Type 0 where
  behind : ℕ
  is : position_from (λ item. eqb (by.key item) key) place events ≡ Some (place + behind)
  within : behind < length events
  none : sum_by (weight_for by key) (take behind events) ≡ 0

module _ {A : Type 0} (by : Measure A) where
  -- a window is what is left of a front behind a shorter one
  pub count_parts : (key : ℕ) (events : List A) (from to : ℕ) → from ≤ to → weight_in by key events 0 from + weight_in by key events from to ≡ weight_in by key events 0 to
  count_parts key events from to before =
      let one : A → ℕ = weight_for by key in
      let start : from ≡ from - 0 = omega arith in
      let whole : (from - 0) + (to - from) ≡ to - 0 = omega arith in
      sym (sum_by-append one (take (from - 0) events) (take (to - from) (drop from events)))
      ∙ ap (λ n. sum_by one (take (from - 0) events ++ take (to - from) (drop n events))) start
      ∙ ap (sum_by one) (sym (take-add (from - 0) (to - from) events))
      ∙ ap (λ n. sum_by one (take n events)) whole

  -- a longer front has no fewer
  pub count_never_falls : (key : ℕ) (events : List A) (from to : ℕ) → from ≤ to → weight_in by key events 0 from ≤ weight_in by key events 0 to
  count_never_falls key events from to before = omega (arith, count_parts key events from to before)

  -- nothing stands before the first position
  pub count_none : (key : ℕ) (events : List A) → weight_in by key events 0 0 ≡ 0
  count_none key events = refl

  -- a key that occurs n times, n at least 1, occurs for the n-th time somewhere
  pub nth_at : (n key : ℕ) (events : List A) → 1 ≤ n → n ≤ weight_in by key events 0 (length events) → NthAt by n key events
  nth_at n key events positive enough =
      let test : ℕ → Bool = λ at. leb n (weight_in by key events 0 at) in
      let some : 1 ≤ length events = elim (cases_lt 0 (length events)) [
        | inl longer ↦ longer
        | inr none ↦ (let empty : length events ≡ 0 = omega arith in
            let nothing = ap (weight_in by key events 0) empty in absurd (omega (arith, count_none key events)))
      ] in
      let pass = first_pass test 1 (length events) (length events) some (omega arith) (le-leb n (weight_in by key events 0 (length events)) enough) in
      record {
        at = pass.at;
        is = pass.found;
        from = pass.from;
        within = omega (arith, pass.within);
        enough = leb-true n (weight_in by key events 0 pass.at) pass.passes;
        earlier = λ place before. elim (cases_lt 0 place) [
          | inl positive_place ↦ leb-false n (weight_in by key events 0 place) (pass.earlier place positive_place before)
          | inr start ↦ (let zero_place : place ≡ 0 = omega arith in
              let nothing = ap (weight_in by key events 0) zero_place in omega (arith, count_none key events))
        ];
      }

  found : (key place : ℕ) (events : List A) → 1 ≤ sum_by (weight_for by key) events → Found by key place events
  found key place [] some = absurd (omega arith)
  found key place (event ∷ events) some =
      let test : A → Bool = λ item. eqb (by.key item) key in
      elim (cases_Bool (test event)) [
        | inl here ↦ record {
          behind = 0;
          is = ap (λ t. cond t (Some place) (position_from test (place + 1) events)) here ∙ ap Some (let same : place ≡ place + 0 = omega arith in same);
          within = omega arith;
          none = refl;
        }
        | inr other ↦ (
            let nothing : weight_for by key event ≡ 0 = ap (λ t. cond {A = ℕ} t (by.weight event) 0) other in
            let rest = found key (place + 1) events (omega (arith, some, sum_by-cons (weight_for by key) event events)) in
            record {
              behind = suc rest.behind;
              is = ap (λ t. cond t (Some place) (position_from test (place + 1) events)) other ∙ rest.is
                  ∙ ap Some (let same : place + 1 + rest.behind ≡ place + suc rest.behind = omega arith in same);
              within = omega (arith, rest.within);
              none = omega (arith, sum_by-cons (weight_for by key) event (take rest.behind events), rest.none);
            })
      ]

  -- a key that weighs something stands somewhere first
  pub first_at : (key : ℕ) (events : List A) → 1 ≤ weight_in by key events 0 (length events) → FirstAt by key events
  first_at key events some =
      let here = found key 1 events (omega (arith, some, ap (sum_by (weight_for by key)) (between_from_start events (length events) ∙ take-length events))) in
      record {
        at = 1 + here.behind;
        is = here.is;
        from = omega arith;
        within = omega (arith, here.within);
        earlier = λ before less. omega (
          arith,
          count_never_falls key events before here.behind (omega arith),
          ap (sum_by (weight_for by key)) (between_from_start events here.behind),
          here.none,
        );
      }
