-- A count table by its quotients.
use Rattle.std.proofs.Common.{◌≡◌, ℕ, ◌+◌, ◌-◌, ◌*◌, ◌/◌, ◌%◌, ◌^◌, ◌<◌, ◌≤◌, ◌≢◌, cond, ltb, eqb, List, [], ◌∷◌, length, refl, sym, ap, ◌∙◌, subst, inl, inr, ◌⊎◌, arith}
use Rattle.std.proofs.{lemmas.Bool.{cases_lt, cases_eq, cases_order}, lemmas.Bool.Decides.nat_tests, lemmas.Nat.{div-add-mod', mod_below, div_below, pow_pos, div-mul-add, mod-mul-add}}
use Rattle.lert_counter.specs.Group.{IsCount}
use Rattle.lert_runs.specs.RunText.{RemaindersAscend, count_in, pairs_plus}
use Rattle.lert_runs.proofs.RunLemmas.{count_in-here, count_in-later, pairs_plus-before, pairs_plus-here, pairs_plus-behind}
use Rattle.lert_spec.specs.{Table.{count_of, total, plus, AscendsFrom}, declared.piece.Piece.Piece}
use Rattle.lert_spec.proofs.Tables.{plus_here, plus_before, plus_behind}
use Rattle.lert_cqf.specs.Layout.{in_front, by_quotient}

abbrev pub Runs : Type 0
Runs = List (ℕ × List (ℕ × ℕ))

-- where a pair in front goes
pub front-none : (q : ℕ) (pair : ℕ × ℕ) (r : ℕ × List (ℕ × ℕ)) (rs : Runs) → r.0 ≢ q → in_front q pair (r ∷ rs) ≡ (q, pair ∷ []) ∷ r ∷ rs
front-none q pair r rs h = grind (arith, nat_tests)

pub front-same : (q : ℕ) (pair : ℕ × ℕ) (r : ℕ × List (ℕ × ℕ)) (rs : Runs) → r.0 ≡ q → in_front q pair (r ∷ rs) ≡ (q, pair ∷ r.1) ∷ rs
front-same q pair r rs h = grind (arith, nat_tests)

-- the runs with n more of a remainder
abbrev pub runs_plus : Runs → ℕ → ℕ → ℕ → Runs
runs_plus [] q x n = (q, (x, n) ∷ []) ∷ []
runs_plus (r ∷ rs) q x n =
    cond (ltb r.0 q) (r ∷ runs_plus rs q x n) (cond (eqb r.0 q) ((q, pairs_plus r.1 x n) ∷ rs) ((q, (x, n) ∷ []) ∷ r ∷ rs))

pub plus-later : (r : ℕ × List (ℕ × ℕ)) (rs : Runs) (q x n : ℕ) → r.0 < q → runs_plus (r ∷ rs) q x n ≡ r ∷ runs_plus rs q x n
plus-later r rs q x n h = grind (arith, nat_tests)

pub plus-same : (r : ℕ × List (ℕ × ℕ)) (rs : Runs) (q x n : ℕ) → r.0 ≡ q → runs_plus (r ∷ rs) q x n ≡ (q, pairs_plus r.1 x n) ∷ rs
plus-same r rs q x n h = grind (arith, nat_tests)

pub plus-before : (r : ℕ × List (ℕ × ℕ)) (rs : Runs) (q x n : ℕ) → q < r.0 → runs_plus (r ∷ rs) q x n ≡ (q, (x, n) ∷ []) ∷ r ∷ rs
plus-before r rs q x n h = grind (arith, nat_tests)

-- how often a remainder stands in the runs
abbrev pub count_runs : Runs → ℕ → ℕ → ℕ
count_runs [] q x = 0
count_runs (r ∷ rs) q x = cond (eqb r.0 q) (count_in r.1 x) (count_runs rs q x)

pub count-same : (r : ℕ × List (ℕ × ℕ)) (rs : Runs) (q x : ℕ) → r.0 ≡ q → count_runs (r ∷ rs) q x ≡ count_in r.1 x
count-same r rs q x h = grind (arith, nat_tests)

pub count-other : (r : ℕ × List (ℕ × ℕ)) (rs : Runs) (q x : ℕ) → r.0 ≢ q → count_runs (r ∷ rs) q x ≡ count_runs rs q x
count-other r rs q x h = grind (arith, nat_tests)

-- the runs ascend from quotient q and remainder x on, below the homes, and none is empty
abbrev pub RunsAscend : ℕ → ℕ → ℕ → Runs → Type 0
RunsAscend homes q x [] = Unit {0}
RunsAscend homes q x (r ∷ rs) =
    (((q < r.0) × RemaindersAscend 0 r.1) ⊎ ((q ≡ r.0) × RemaindersAscend x r.1)) × (r.0 < homes) × (0 < length r.1) × RunsAscend homes (r.0 + 1) 0 rs

-- numbers in order have quotients in order
wider : (p q b : ℕ) → p < q → p * b + b ≤ q * b
wider p q b h = let e : q ≡ p + 1 + (q - p - 1) = omega arith in rw e (let d : (p + 1 + (q - p - 1)) * b ≡ p * b + b + (q - p - 1) * b = grind arith in omega arith)

in_order : (b p x q y : ℕ) → x < b → y < b → p * b + x < q * b + y → (p < q) ⊎ ((p ≡ q) × (x < y))
in_order b p x q y xb yb h =
    elim (cases_order p q) [
      | inl same ↦ inr (same, (let e : p * b ≡ q * b = ap (λ k. k * b) same in omega arith))
      | inr (inl less) ↦ inl less
      | inr (inr more) ↦ absurd (let w = wider q p b more in omega arith)
    ]

module _ (width : ℕ) where
  abbrev base : ℕ
  base = 2 ^ width

  abbrev quotient : ℕ → ℕ
  quotient tail = tail / 2 ^ width

  abbrev remainder : ℕ → ℕ
  remainder tail = tail % 2 ^ width

  base_positive : 0 < base
  base_positive = pow_pos width

  pub parts : (m n : ℕ) → m < n → (quotient m < quotient n) ⊎ ((quotient m ≡ quotient n) × (remainder m < remainder n))
  parts m n h =
      in_order base (quotient m) (remainder m) (quotient n) (remainder n) (mod_below m base base_positive) (mod_below n base base_positive)
      (let a = div-add-mod' m base in let b = div-add-mod' n base in omega arith)

  -- the next tail
  pub next_parts : (tail : ℕ) → ((remainder tail + 1 < base) × (quotient (tail + 1) ≡ quotient tail) × (remainder (tail + 1) ≡ remainder tail + 1))
      ⊎ ((quotient (tail + 1) ≡ quotient tail + 1) × (remainder (tail + 1) ≡ 0))
  next_parts tail =
      let split = div-add-mod' tail base in
      let small = mod_below tail base base_positive in
      elim (cases_lt (remainder tail + 1) base) [
        | inl less ↦ (let e : tail + 1 ≡ quotient tail * base + (remainder tail + 1) = omega arith in
            inl (less, rw e (div-mul-add (quotient tail) base (remainder tail + 1) less), ap (λ k. k % base) e ∙ mod-mul-add (quotient tail) base (remainder tail + 1) less))
        | inr full ↦ (let whole : (quotient tail + 1) * base ≡ quotient tail * base + base = grind arith in
            let e : tail + 1 ≡ (quotient tail + 1) * base + 0 = omega arith in
            inr (ap (λ k. k / base) e ∙ div-mul-add (quotient tail + 1) base 0 base_positive, ap (λ k. k % base) e ∙ mod-mul-add (quotient tail + 1) base 0 base_positive))
      ]

  -- the runs of a table ascend
  module _ (homes : ℕ) where
    ascend_front : (least tail count : ℕ) (rs : Runs) → least ≤ tail → quotient tail < homes → IsCount count → RunsAscend homes (quotient (tail + 1)) (remainder (tail + 1)) rs
        → RunsAscend homes (quotient least) (remainder least) (in_front (quotient tail) (remainder tail, count) rs)
    ascend_front least tail count rs low inside counts h = go rs h
      where
        first : (ps : List (ℕ × ℕ)) → RemaindersAscend (remainder tail + 1) ps → ((quotient least < quotient tail) × RemaindersAscend 0 ((remainder tail, count) ∷ ps))
            ⊎ ((quotient least ≡ quotient tail) × RemaindersAscend (remainder least) ((remainder tail, count) ∷ ps))
        first ps a = elim (cases_eq least tail) [
          | inl same ↦ inr (ap quotient same, (let e = ap remainder same in omega arith, counts, a))
          | inr less ↦ elim (parts least tail (omega arith)) [
            | inl lower ↦ inl (lower, (omega arith, counts, a))
            | inr here ↦ inr (here.0, (omega (arith, here.1), counts, a))
          ]
        ]

        later : (r : ℕ × List (ℕ × ℕ)) (rs : Runs) → RunsAscend homes (quotient (tail + 1)) (remainder (tail + 1)) (r ∷ rs) → r.0 ≢ quotient tail →
            RunsAscend homes (quotient tail + 1) 0 (r ∷ rs)
        later r rs a other = elim (next_parts tail) [
          | inl within ↦ elim (a.0) [
            | inl above ↦ (elim (cases_eq (quotient tail + 1) r.0) [ inl e ↦ inr (e, above.1) | inr e ↦ inl (omega (arith, above.0, within.1), above.1) ], a.1, a.2, a.3)
            | inr at ↦ absurd (other (sym at.0 ∙ within.1))
          ]
          | inr next ↦ elim (a.0) [
            | inl above ↦ (inl (omega (arith, above.0, next.0), above.1), a.1, a.2, a.3)
            | inr at ↦ (inr (sym next.0 ∙ at.0, subst (λ k. RemaindersAscend k r.1) next.1 at.1), a.1, a.2, a.3)
          ]
        ]

        joined : (r : ℕ × List (ℕ × ℕ)) (rs : Runs) → RunsAscend homes (quotient (tail + 1)) (remainder (tail + 1)) (r ∷ rs) → r.0 ≡ quotient tail →
            RemaindersAscend (remainder tail + 1) r.1
        joined r rs a same = elim (next_parts tail) [
          | inl within ↦ elim (a.0) [
            | inl above ↦ absurd (omega (arith, above.0, within.1))
            | inr at ↦ subst (λ k. RemaindersAscend k r.1) within.2 at.1
          ]
          | inr next ↦ elim (a.0) [
            | inl above ↦ absurd (omega (arith, above.0, next.0))
            | inr at ↦ absurd (omega (arith, at.0, next.0))
          ]
        ]

        go : (rs : Runs) → RunsAscend homes (quotient (tail + 1)) (remainder (tail + 1)) rs →
            RunsAscend homes (quotient least) (remainder least) (in_front (quotient tail) (remainder tail, count) rs)
        go [] a = (first [] tt, inside, omega arith, tt)
        go (r ∷ rs) a = elim (cases_eq r.0 (quotient tail)) [
          | inl same ↦ rw (front-same (quotient tail) (remainder tail, count) r rs same)
              (first r.1 (joined r rs a same), inside, omega arith, subst (λ k. RunsAscend homes (k + 1) 0 rs) same a.3)
          | inr other ↦ rw (front-none (quotient tail) (remainder tail, count) r rs other) (first [] tt, inside, omega arith, later r rs a other)
        ]

    pub by_quotient-ascends : (least : ℕ) (table : List Piece) → AscendsFrom least (homes * base) table → total table ≤ 2 ^ 47
        → RunsAscend homes (quotient least) (remainder least) (by_quotient width table)
    by_quotient-ascends least [] t few = tt
    by_quotient-ascends least (p ∷ ps) t few =
        let one = t.2 in
        ascend_front least p.tail p.count (by_quotient width ps) t.0 (div_below p.tail base homes base_positive t.1) (one, omega arith)
        (by_quotient-ascends (p.tail + 1) ps t.3 (omega arith))

  -- the runs of the table with n more of a tail
  pub tails_same : (m n : ℕ) → quotient m ≡ quotient n → remainder m ≡ remainder n → m ≡ n
  tails_same m n q x =
      let a = div-add-mod' m base in let b = div-add-mod' n base in
      sym a ∙ ap (λ k. k * base + remainder m) q ∙ ap (λ k. quotient n * base + k) x ∙ b

  front_here : (tail count n : ℕ) (rs : Runs) → in_front (quotient tail) (remainder tail, count + n) rs ≡ runs_plus (in_front (quotient tail) (remainder tail, count) rs) (quotient tail)
      (remainder tail) n
  front_here tail count n [] =
      sym (plus-same (quotient tail, (remainder tail, count) ∷ []) [] (quotient tail) (remainder tail) n refl
      ∙ ap (λ (ps : List (ℕ × ℕ)). (quotient tail, ps) ∷ []) (pairs_plus-here (remainder tail, count) [] (remainder tail) n refl))
  front_here tail count n (r ∷ rs) =
      elim (cases_eq r.0 (quotient tail)) [
        | inl same ↦ front-same (quotient tail) (remainder tail, count + n) r rs same
            ∙ sym (ap (λ (t : Runs). runs_plus t (quotient tail) (remainder tail) n) (front-same (quotient tail) (remainder tail, count) r rs same)
            ∙ plus-same (quotient tail, (remainder tail, count) ∷ r.1) rs (quotient tail) (remainder tail) n refl
            ∙ ap (λ (ps : List (ℕ × ℕ)). (quotient tail, ps) ∷ rs) (pairs_plus-here (remainder tail, count) r.1 (remainder tail) n refl))
        | inr other ↦ front-none (quotient tail) (remainder tail, count + n) r rs other
            ∙ sym (ap (λ (t : Runs). runs_plus t (quotient tail) (remainder tail) n) (front-none (quotient tail) (remainder tail, count) r rs other)
            ∙ plus-same (quotient tail, (remainder tail, count) ∷ []) (r ∷ rs) (quotient tail) (remainder tail) n refl
            ∙ ap (λ (ps : List (ℕ × ℕ)). (quotient tail, ps) ∷ r ∷ rs) (pairs_plus-here (remainder tail, count) [] (remainder tail) n refl))
      ]

  -- a new tail in front of others
  front_before : (tail n : ℕ) (q : ℕ) (pair : ℕ × ℕ) (ps : List (ℕ × ℕ)) (rs : Runs) → (quotient tail < q) ⊎ ((quotient tail ≡ q) × (remainder tail < pair.0))
      → in_front (quotient tail) (remainder tail, n) ((q, pair ∷ ps) ∷ rs) ≡ runs_plus ((q, pair ∷ ps) ∷ rs) (quotient tail) (remainder tail) n
  front_before tail n q pair ps rs (inl less) =
      front-none (quotient tail) (remainder tail, n) (q, pair ∷ ps) rs (omega arith) ∙ sym (plus-before (q, pair ∷ ps) rs (quotient tail) (remainder tail) n less)
  front_before tail n q pair ps rs (inr (same, less)) =
      front-same (quotient tail) (remainder tail, n) (q, pair ∷ ps) rs (sym same)
      ∙ ap (λ (t : List (ℕ × ℕ)). (quotient tail, t) ∷ rs) (sym (pairs_plus-behind pair ps (remainder tail) n less))
      ∙ sym (plus-same (q, pair ∷ ps) rs (quotient tail) (remainder tail) n (sym same))

  -- what a pair in front makes
  pub front_shape : (q : ℕ) (pair : ℕ × ℕ) (rs : Runs) → (ps : List (ℕ × ℕ)) × (back : Runs) × (in_front q pair rs ≡ (q, pair ∷ ps) ∷ back)
  front_shape q pair [] = ([], [], refl)
  front_shape q pair (r ∷ rs) =
      elim (cases_eq r.0 q) [
        | inl same ↦ (r.1, rs, front-same q pair r rs same)
        | inr other ↦ ([], r ∷ rs, front-none q pair r rs other)
      ]

  -- a later tail goes behind the pair in front
  module _ (homes : ℕ) where
    front_behind : (p : Piece) (tail n : ℕ) (rs : Runs) → p.tail < tail → RunsAscend homes (quotient (p.tail + 1)) (remainder (p.tail + 1)) rs
        → in_front (quotient p.tail) (remainder p.tail, p.count) (runs_plus rs (quotient tail) (remainder tail) n)
        ≡ runs_plus (in_front (quotient p.tail) (remainder p.tail, p.count) rs) (quotient tail) (remainder tail) n
    front_behind p tail n rs less ascend = by_order rs ascend (parts p.tail tail less)
      where
        low : (r : ℕ × List (ℕ × ℕ)) (rs : Runs) → RunsAscend homes (quotient (p.tail + 1)) (remainder (p.tail + 1)) (r ∷ rs) → quotient p.tail ≤ r.0
        low r rs a = elim (next_parts p.tail) [
          | inl within ↦ elim (a.0) [ inl above ↦ omega (arith, above.0, within.1) | inr at ↦ omega (arith, at.0, within.1) ]
          | inr next ↦ elim (a.0) [ inl above ↦ omega (arith, above.0, next.0) | inr at ↦ omega (arith, at.0, next.0) ]
        ]

        in_front_of : Runs → Runs
        in_front_of t = in_front (quotient p.tail) (remainder p.tail, p.count) t

        by_order : (rs : Runs) → RunsAscend homes (quotient (p.tail + 1)) (remainder (p.tail + 1)) rs →
            (quotient p.tail < quotient tail) ⊎ ((quotient p.tail ≡ quotient tail) × (remainder p.tail < remainder tail))
            → in_front (quotient p.tail) (remainder p.tail, p.count) (runs_plus rs (quotient tail) (remainder tail) n) ≡ runs_plus (in_front (quotient p.tail) (remainder p.tail, p.count) rs)
            (quotient tail) (remainder tail) n
        by_order [] a (inl lower) =
            front-none (quotient p.tail) (remainder p.tail, p.count) (quotient tail, (remainder tail, n) ∷ []) [] (omega arith)
            ∙ sym (plus-later (quotient p.tail, (remainder p.tail, p.count) ∷ []) [] (quotient tail) (remainder tail) n lower)
        by_order [] a (inr (same, more)) =
            front-same (quotient p.tail) (remainder p.tail, p.count) (quotient tail, (remainder tail, n) ∷ []) [] (sym same)
            ∙ ap (λ k. (k, (remainder p.tail, p.count) ∷ (remainder tail, n) ∷ []) ∷ []) same
            ∙ sym (plus-same (quotient p.tail, (remainder p.tail, p.count) ∷ []) [] (quotient tail) (remainder tail) n same
            ∙ ap (λ (t : List (ℕ × ℕ)). (quotient tail, t) ∷ []) (pairs_plus-before (remainder p.tail, p.count) [] (remainder tail) n more))
        by_order (r ∷ rs) a (inl lower) =
            elim (cases_eq r.0 (quotient p.tail)) [
              | inl joins ↦ ap (in_front (quotient p.tail) (remainder p.tail, p.count)) (plus-later r rs (quotient tail) (remainder tail) n (omega arith))
                  ∙ front-same (quotient p.tail) (remainder p.tail, p.count) r (runs_plus rs (quotient tail) (remainder tail) n) joins
                  ∙ sym (ap (λ (t : Runs). runs_plus t (quotient tail) (remainder tail) n) (front-same (quotient p.tail) (remainder p.tail, p.count) r rs joins)
                  ∙ plus-later (quotient p.tail, (remainder p.tail, p.count) ∷ r.1) rs (quotient tail) (remainder tail) n lower)
              | inr apart ↦ apart_front (runs_plus (r ∷ rs) (quotient tail) (remainder tail) n) (other_head r rs apart lower)
                  ∙ sym (ap (λ (t : Runs). runs_plus t (quotient tail) (remainder tail) n) (front-none (quotient p.tail) (remainder p.tail, p.count) r rs apart)
                  ∙ plus-later (quotient p.tail, (remainder p.tail, p.count) ∷ []) (r ∷ rs) (quotient tail) (remainder tail) n lower)
            ]
          where
            apart_front : (t : Runs) → ((h : ℕ × List (ℕ × ℕ)) × (back : Runs) × (t ≡ h ∷ back) × (h.0 ≢ quotient p.tail)) →
                in_front (quotient p.tail) (remainder p.tail, p.count) t ≡ (quotient p.tail, (remainder p.tail, p.count) ∷ []) ∷ t
            apart_front t w = ap (in_front (quotient p.tail) (remainder p.tail, p.count)) w.2 ∙ front-none (quotient p.tail) (remainder p.tail, p.count) w.0 w.1 w.3
                ∙ ap (λ (s : Runs). (quotient p.tail, (remainder p.tail, p.count) ∷ []) ∷ s) (sym w.2)

            other_head : (r : ℕ × List (ℕ × ℕ)) (rs : Runs) → r.0 ≢ quotient p.tail → quotient p.tail < quotient tail →
                (h : ℕ × List (ℕ × ℕ)) × (back : Runs) × (runs_plus (r ∷ rs) (quotient tail) (remainder tail) n ≡ h ∷ back) × (h.0 ≢ quotient p.tail)
            other_head r rs apart lower = elim (cases_order r.0 (quotient tail)) [
              | inl same ↦ ((quotient tail, pairs_plus r.1 (remainder tail) n), rs, plus-same r rs (quotient tail) (remainder tail) n same, omega arith)
              | inr (inl less) ↦ (r, runs_plus rs (quotient tail) (remainder tail) n, plus-later r rs (quotient tail) (remainder tail) n less, apart)
              | inr (inr more) ↦ ((quotient tail, (remainder tail, n) ∷ []), r ∷ rs, plus-before r rs (quotient tail) (remainder tail) n more, omega arith)
            ]
        by_order (r ∷ rs) a (inr (same, more)) =
            elim (cases_eq r.0 (quotient p.tail)) [
              | inl joins ↦ ap (in_front (quotient p.tail) (remainder p.tail, p.count)) (plus-same r rs (quotient tail) (remainder tail) n (joins ∙ same))
                  ∙ front-same (quotient p.tail) (remainder p.tail, p.count) (quotient tail, pairs_plus r.1 (remainder tail) n) rs (sym same)
                  ∙ sym (ap (λ (t : Runs). runs_plus t (quotient tail) (remainder tail) n) (front-same (quotient p.tail) (remainder p.tail, p.count) r rs joins)
                  ∙ plus-same (quotient p.tail, (remainder p.tail, p.count) ∷ r.1) rs (quotient tail) (remainder tail) n same
                  ∙ ap (λ (t : List (ℕ × ℕ)). (quotient tail, t) ∷ rs) (pairs_plus-before (remainder p.tail, p.count) r.1 (remainder tail) n more)
                  ∙ ap (λ k. (k, (remainder p.tail, p.count) ∷ pairs_plus r.1 (remainder tail) n) ∷ rs) (sym same))
              | inr apart ↦ (let above : quotient tail < r.0 = (let l = low r rs a in omega arith) in
                  ap (in_front (quotient p.tail) (remainder p.tail, p.count)) (plus-before r rs (quotient tail) (remainder tail) n above)
                  ∙ front-same (quotient p.tail) (remainder p.tail, p.count) (quotient tail, (remainder tail, n) ∷ []) (r ∷ rs) (sym same)
                  ∙ sym (ap (λ (t : Runs). runs_plus t (quotient tail) (remainder tail) n) (front-none (quotient p.tail) (remainder p.tail, p.count) r rs apart)
                  ∙ plus-same (quotient p.tail, (remainder p.tail, p.count) ∷ []) (r ∷ rs) (quotient tail) (remainder tail) n same
                  ∙ ap (λ (t : List (ℕ × ℕ)). (quotient tail, t) ∷ r ∷ rs) (pairs_plus-before (remainder p.tail, p.count) [] (remainder tail) n more)
                  ∙ ap (λ k. (k, (remainder p.tail, p.count) ∷ (remainder tail, n) ∷ []) ∷ r ∷ rs) (sym same)))
            ]

    pub by_quotient-plus : (least : ℕ) (table : List Piece) (tail n : ℕ) → AscendsFrom least (homes * base) table → total table ≤ 2 ^ 47
        → by_quotient width (plus table tail n) ≡ runs_plus (by_quotient width table) (quotient tail) (remainder tail) n
    by_quotient-plus least [] tail n t few = refl
    by_quotient-plus least (p ∷ ps) tail n t few =
        let ascend = by_quotient-ascends homes (p.tail + 1) ps t.3 (omega arith) in
        let shape = front_shape (quotient p.tail) (remainder p.tail, p.count) (by_quotient width ps) in
        elim (cases_order p.tail tail) [
          | inl same ↦ ap (by_quotient width) (plus_here p ps tail n same)
              ∙ front_here tail p.count n (by_quotient width ps)
              ∙ ap (λ k. runs_plus (in_front (quotient k) (remainder k, p.count) (by_quotient width ps)) (quotient tail) (remainder tail) n) (sym same)
          | inr (inl less) ↦ ap (by_quotient width) (plus_behind p ps tail n less)
              ∙ ap (in_front (quotient p.tail) (remainder p.tail, p.count)) (by_quotient-plus (p.tail + 1) ps tail n t.3 (omega arith))
              ∙ front_behind p tail n (by_quotient width ps) less ascend
          | inr (inr more) ↦ ap (by_quotient width) (plus_before p ps tail n more)
              ∙ ap (in_front (quotient tail) (remainder tail, n)) shape.2
              ∙ front_before tail n (quotient p.tail) (remainder p.tail, p.count) shape.0 shape.1 (parts tail p.tail more)
              ∙ ap (λ (t : Runs). runs_plus t (quotient tail) (remainder tail) n) (sym shape.2)
        ]

-- later quotients don't hold an earlier one
pub count_runs-above : (homes q x y : ℕ) (rs : Runs) → RunsAscend homes (q + 1) y rs → count_runs rs q x ≡ 0
count_runs-above homes q x y [] h = refl
count_runs-above homes q x y (r ∷ rs) h =
    let above : q < r.0 = elim (h.0) [ inl a ↦ omega (arith, a.0) | inr a ↦ omega (arith, a.0) ] in
    count-other r rs q x (omega arith) ∙ count_runs-above homes q x 0 rs (higher homes q r.0 rs above h.3)
  where
    higher : (homes q r : ℕ) (rs : Runs) → q < r → RunsAscend homes (r + 1) 0 rs → RunsAscend homes (q + 1) 0 rs
    higher homes q r [] less h = tt
    higher homes q r (s ∷ rs) less h = (elim (h.0) [ inl a ↦ inl (omega (arith, a.0), a.1) | inr a ↦ inl (omega (arith, a.0), a.1) ], h.1, h.2, h.3)

module _ (width homes : ℕ) where
  count_front : (p : Piece) (rs : Runs) (tail : ℕ) → RunsAscend homes ((p.tail + 1) / 2 ^ width) ((p.tail + 1) % 2 ^ width) rs
      → count_runs (in_front (p.tail / 2 ^ width) (p.tail % 2 ^ width, p.count) rs) (tail / 2 ^ width) (tail % 2 ^ width)
      ≡ cond (eqb p.tail tail) p.count (count_runs rs (tail / 2 ^ width) (tail % 2 ^ width))
  count_front p rs tail ascend = at rs ascend
    where
      q : ℕ → ℕ
      q t = t / 2 ^ width

      same_tail : p.tail ≡ tail → (t e : ℕ) → cond (eqb p.tail tail) t e ≡ t
      same_tail h t e = grind (arith, nat_tests)

      other_tail : p.tail ≢ tail → (t e : ℕ) → cond (eqb p.tail tail) t e ≡ e
      other_tail h t e = grind (arith, nat_tests)

      apart : p.tail ≢ tail → p.tail / 2 ^ width ≡ tail / 2 ^ width → p.tail % 2 ^ width ≢ tail % 2 ^ width
      apart h e x = h (tails_same width p.tail tail e x)

      low : (r : ℕ × List (ℕ × ℕ)) (rs : Runs) → RunsAscend homes ((p.tail + 1) / 2 ^ width) ((p.tail + 1) % 2 ^ width) (r ∷ rs) → r.0 ≢ p.tail / 2 ^ width →
          p.tail / 2 ^ width < r.0
      low r rs a other = elim (next_parts width p.tail) [
        | inl within ↦ elim (a.0) [ inl above ↦ omega (arith, above.0, within.1) | inr at ↦ absurd (other (sym at.0 ∙ within.1)) ]
        | inr next ↦ elim (a.0) [ inl above ↦ omega (arith, above.0, next.0) | inr at ↦ omega (arith, at.0, next.0) ]
      ]

      alone : p.tail ≢ tail → p.tail / 2 ^ width ≡ tail / 2 ^ width → count_in ((p.tail % 2 ^ width, p.count) ∷ []) (tail % 2 ^ width) ≡ 0
      alone h e = count_in-later (p.tail % 2 ^ width, p.count) [] (tail % 2 ^ width) (apart h e)

      at : (rs : Runs) → RunsAscend homes ((p.tail + 1) / 2 ^ width) ((p.tail + 1) % 2 ^ width) rs
          → count_runs (in_front (p.tail / 2 ^ width) (p.tail % 2 ^ width, p.count) rs) (tail / 2 ^ width) (tail % 2 ^ width)
          ≡ cond (eqb p.tail tail) p.count (count_runs rs (tail / 2 ^ width) (tail % 2 ^ width))
      at [] a = elim (cases_eq p.tail tail) [
        | inl same ↦ count-same (p.tail / 2 ^ width, (p.tail % 2 ^ width, p.count) ∷ []) [] (tail / 2 ^ width) (tail % 2 ^ width) (ap (λ t. t / 2 ^ width) same)
            ∙ count_in-here (p.tail % 2 ^ width, p.count) [] (tail % 2 ^ width) (ap (λ t. t % 2 ^ width) same) ∙ sym (same_tail same p.count 0)
        | inr other ↦ elim (cases_eq (p.tail / 2 ^ width) (tail / 2 ^ width)) [
          | inl quotient_same ↦ count-same (p.tail / 2 ^ width, (p.tail % 2 ^ width, p.count) ∷ []) [] (tail / 2 ^ width) (tail % 2 ^ width) quotient_same
              ∙ alone other quotient_same ∙ sym (other_tail other p.count 0)
          | inr quotient_other ↦ count-other (p.tail / 2 ^ width, (p.tail % 2 ^ width, p.count) ∷ []) [] (tail / 2 ^ width) (tail % 2 ^ width) quotient_other
              ∙ sym (other_tail other p.count 0)
        ]
      ]
      at (r ∷ rs) a = elim (cases_eq r.0 (p.tail / 2 ^ width)) [
        | inl joins ↦ ap (λ (t : Runs). count_runs t (tail / 2 ^ width) (tail % 2 ^ width)) (front-same (p.tail / 2 ^ width) (p.tail % 2 ^ width, p.count) r rs joins)
            ∙ elim (cases_eq p.tail tail) [
              | inl same ↦ count-same (p.tail / 2 ^ width, (p.tail % 2 ^ width, p.count) ∷ r.1) rs (tail / 2 ^ width) (tail % 2 ^ width) (ap (λ t. t / 2 ^ width) same)
                  ∙ count_in-here (p.tail % 2 ^ width, p.count) r.1 (tail % 2 ^ width) (ap (λ t. t % 2 ^ width) same) ∙ sym (same_tail same p.count _)
              | inr other ↦ elim (cases_eq (p.tail / 2 ^ width) (tail / 2 ^ width)) [
                | inl quotient_same ↦ count-same (p.tail / 2 ^ width, (p.tail % 2 ^ width, p.count) ∷ r.1) rs (tail / 2 ^ width) (tail % 2 ^ width) quotient_same
                    ∙ count_in-later (p.tail % 2 ^ width, p.count) r.1 (tail % 2 ^ width) (apart other quotient_same)
                    ∙ sym (count-same r rs (tail / 2 ^ width) (tail % 2 ^ width) (joins ∙ quotient_same)) ∙ sym (other_tail other p.count _)
                | inr quotient_other ↦ count-other (p.tail / 2 ^ width, (p.tail % 2 ^ width, p.count) ∷ r.1) rs (tail / 2 ^ width) (tail % 2 ^ width) quotient_other
                    ∙ sym (count-other r rs (tail / 2 ^ width) (tail % 2 ^ width) (λ e. quotient_other (sym joins ∙ e))) ∙ sym (other_tail other p.count _)
              ]
            ]
        | inr apart_run ↦ ap (λ (t : Runs). count_runs t (tail / 2 ^ width) (tail % 2 ^ width)) (front-none (p.tail / 2 ^ width) (p.tail % 2 ^ width, p.count) r rs apart_run)
            ∙ elim (cases_eq p.tail tail) [
              | inl same ↦ count-same (p.tail / 2 ^ width, (p.tail % 2 ^ width, p.count) ∷ []) (r ∷ rs) (tail / 2 ^ width) (tail % 2 ^ width) (ap (λ t. t / 2 ^ width) same)
                  ∙ count_in-here (p.tail % 2 ^ width, p.count) [] (tail % 2 ^ width) (ap (λ t. t % 2 ^ width) same) ∙ sym (same_tail same p.count _)
              | inr other ↦ elim (cases_eq (p.tail / 2 ^ width) (tail / 2 ^ width)) [
                | inl quotient_same ↦ (let above = low r rs a apart_run in
                    count-same (p.tail / 2 ^ width, (p.tail % 2 ^ width, p.count) ∷ []) (r ∷ rs) (tail / 2 ^ width) (tail % 2 ^ width) quotient_same
                    ∙ alone other quotient_same
                    ∙ sym (count_runs-above homes (tail / 2 ^ width) (tail % 2 ^ width) 0 (r ∷ rs)
                    (elim (cases_eq (tail / 2 ^ width + 1) r.0) [ inl e ↦ inr (e, zero_based r rs a) | inr e ↦ inl (omega arith, zero_based r rs a) ], a.1, a.2, a.3))
                    ∙ sym (other_tail other p.count _))
                | inr quotient_other ↦ count-other (p.tail / 2 ^ width, (p.tail % 2 ^ width, p.count) ∷ []) (r ∷ rs) (tail / 2 ^ width) (tail % 2 ^ width) quotient_other
                    ∙ sym (other_tail other p.count _)
              ]
            ]
      ]
        where
          from_zero : (x : ℕ) (ps : List (ℕ × ℕ)) → RemaindersAscend x ps → RemaindersAscend 0 ps
          from_zero x [] h = tt
          from_zero x (p ∷ ps) h = (omega arith, h.1, h.2)

          zero_based : (r : ℕ × List (ℕ × ℕ)) (rs : Runs) → RunsAscend homes ((p.tail + 1) / 2 ^ width) ((p.tail + 1) % 2 ^ width) (r ∷ rs) → RemaindersAscend 0 r.1
          zero_based r rs a = elim (a.0) [ inl above ↦ above.1 | inr here ↦ from_zero ((p.tail + 1) % 2 ^ width) r.1 here.1 ]

  pub count_by_quotient : (least : ℕ) (table : List Piece) (tail : ℕ) → AscendsFrom least (homes * 2 ^ width) table → total table ≤ 2 ^ 47
      → count_of table tail ≡ count_runs (by_quotient width table) (tail / 2 ^ width) (tail % 2 ^ width)
  count_by_quotient least [] tail t few = refl
  count_by_quotient least (p ∷ ps) tail t few =
      let rest = count_by_quotient (p.tail + 1) ps tail t.3 (omega arith) in
      let ascend = by_quotient-ascends width homes (p.tail + 1) ps t.3 (omega arith) in
      ap (λ k. cond (eqb p.tail tail) p.count k) rest ∙ sym (count_front p (by_quotient width ps) tail ascend)
