-- What the tails of a list of items weigh, as a count table.
use Rattle.std.proofs.Common.{ℕ, ◌≡◌, ◌≢◌, suc, ◌+◌, ◌^◌, ◌<◌, ◌≤◌, cond, eqb, List, [], ◌∷◌, ◌++◌, length, refl, ap, ap₂, sym, ◌∙◌, arith, inl, inr, subst, fold, sum_by}
use Rattle.std.proofs.{lemmas.Bool.{cases_lt, cases_order, eq-eqb, ne_eqb}, lemmas.List.Sums.{sum_by-cons, sum_by-append, fold-append}}
use Rattle.lert_spec.specs.{Edges.tail_bits, declared.numbers.Numbers.Numbers, declared.piece.Piece.Piece, Mix.tail_of, Table.{costs, count_of, total, plus, AscendsFrom, IsTable}}
use Rattle.lert_spec.specs.{Bins.{tally, tallied}, Counts.{Measure, plain, weight_of, AreWeighed}}
use Rattle.lert_spec.proofs.{CostLaws.{cost_one, costs-plus}, MixLaws.tail_below}
use Rattle.lert_spec.proofs.Tables.{AscendsFrom-plus, count_of-plus, count_of-below, total-plus}

-- a piece at the front counts for its tail alone
pub count_of-cons_same : (p : Piece) (ps : List Piece) (tail : ℕ) → p.tail ≡ tail → count_of (p ∷ ps) tail ≡ p.count
count_of-cons_same p ps tail same = ap (λ t. cond t p.count (count_of ps tail)) (eq-eqb p.tail tail same)

pub count_of-cons_other : (p : Piece) (ps : List Piece) (tail : ℕ) → p.tail ≢ tail → count_of (p ∷ ps) tail ≡ count_of ps tail
count_of-cons_other p ps tail differs = ap (λ t. cond t p.count (count_of ps tail)) (ne_eqb p.tail tail differs)

-- a count table is known by its counts
pub one_table : (least limit : ℕ) (ps qs : List Piece) → AscendsFrom least limit ps → AscendsFrom least limit qs → ((tail : ℕ) → count_of ps tail ≡ count_of qs tail) → ps ≡ qs
one_table least limit [] [] ascends others same = refl
one_table least limit [] (q ∷ qs) ascends others same =
    absurd (omega (arith, same q.tail, count_of-cons_same q qs q.tail refl, others.2))
one_table least limit (p ∷ ps) [] ascends others same =
    absurd (omega (arith, same p.tail, count_of-cons_same p ps p.tail refl, ascends.2))
one_table least limit (p ∷ ps) (q ∷ qs) ascends others same =
    elim (cases_order p.tail q.tail) [
      | inl equal ↦ (
          let counts : p.count ≡ q.count = sym (count_of-cons_same p ps p.tail refl) ∙ same p.tail ∙ count_of-cons_same q qs p.tail (sym equal) in
          let rest : (tail : ℕ) → count_of ps tail ≡ count_of qs tail = λ tail. elim (cases_lt p.tail tail) [
            | inl above ↦ sym (count_of-cons_other p ps tail (λ e. omega arith)) ∙ same tail ∙ count_of-cons_other q qs tail (λ e. omega arith)
            | inr below ↦ count_of-below (p.tail + 1) limit ps tail (omega arith) ascends.3
                ∙ sym (count_of-below (q.tail + 1) limit qs tail (omega arith) others.3)
          ] in
          let tails = one_table (p.tail + 1) limit ps qs ascends.3 (subst (λ t. AscendsFrom (t + 1) limit qs) (sym equal) others.3) rest in
          ap₂ (λ tail count. record { tail = tail; count = count } ∷ ps) equal counts ∙ ap (λ xs. q ∷ xs) tails)
      | inr (inl less) ↦ absurd (omega (
        arith,
        same p.tail,
        count_of-cons_same p ps p.tail refl,
        ascends.2,
        count_of-below q.tail limit (q ∷ qs) p.tail less (omega arith, others.1, others.2, others.3),
      ))
      | inr (inr more) ↦ absurd (omega (
        arith,
        same q.tail,
        count_of-cons_same q qs q.tail refl,
        others.2,
        count_of-below p.tail limit (p ∷ ps) q.tail more (omega arith, ascends.1, ascends.2, ascends.3),
      ))
    ]

-- what the items of a tail weigh
abbrev pub tail_weight : {A : Type 0} → Measure A → Numbers → ℕ → A → ℕ
tail_weight by s tail item = cond (eqb (tail_of s (by.key item)) tail) (by.weight item) 0

abbrev pub tails_in : {A : Type 0} → Measure A → Numbers → ℕ → List A → ℕ
tails_in by s tail items = sum_by (tail_weight by s tail) items

-- how often a tail occurs among keys
abbrev pub tails : Numbers → ℕ → List ℕ → ℕ
tails s tail keys = tails_in plain s tail keys

-- each item weighs something
abbrev pub WeighSome : {A : Type 0} → Measure A → List A → Type 0
WeighSome by [] = Unit {0}
WeighSome by (item ∷ items) = (1 ≤ by.weight item) × WeighSome by items

pub keys_weigh : (keys : List ℕ) → WeighSome plain keys
keys_weigh [] = tt
keys_weigh (key ∷ keys) = (omega arith, keys_weigh keys)

-- items added to a table one by one, each under the number that a function gives its key
abbrev pub added : {A : Type 0} → Measure A → (ℕ → ℕ) → List Piece → List A → List Piece
added by part pieces items = fold (λ table item. plus table (part (by.key item)) (by.weight item)) pieces items

module _ {A : Type 0} (by : Measure A) (part : ℕ → ℕ) where
  -- what the items weigh that are given a number
  abbrev pub weight_under : ℕ → List A → ℕ
  weight_under number items = sum_by (λ item. cond (eqb (part (by.key item)) number) (by.weight item) 0) items

  module _ (limit : ℕ) (below : (key : ℕ) → part key < limit) where
    added-table : (pieces : List Piece) (items : List A) → WeighSome by items → IsTable limit pieces → IsTable limit (added by part pieces items)
    added-table pieces [] some table = table
    added-table pieces (item ∷ items) some table =
        added-table (plus pieces (part (by.key item)) (by.weight item)) items some.1
        (AscendsFrom-plus 0 limit pieces (part (by.key item)) (by.weight item) (omega arith) (below (by.key item)) some.0 table)

    count_of-added : (pieces : List Piece) (items : List A) (number : ℕ) → WeighSome by items → IsTable limit pieces →
        count_of (added by part pieces items) number ≡ count_of pieces number + weight_under number items
    count_of-added pieces [] number some table = omega arith
    count_of-added pieces (item ∷ items) number some table =
        let next = AscendsFrom-plus 0 limit pieces (part (by.key item)) (by.weight item) (omega arith) (below (by.key item)) some.0 table in
        let rest = count_of-added (plus pieces (part (by.key item)) (by.weight item)) items number some.1 next in
        let here = count_of-plus 0 limit pieces (part (by.key item)) (by.weight item) number table in
        let parts = sum_by-cons (λ each. cond {A = ℕ} (eqb (part (by.key each)) number) (by.weight each) 0) item items in
        omega arith

    -- added to no piece they are a count table, of each number as much as is given it
    pub IsTable-added : (items : List A) → WeighSome by items → IsTable limit (added by part [] items)
    IsTable-added items some = added-table [] items some tt

    pub count_of-each : (items : List A) (number : ℕ) → WeighSome by items → count_of (added by part [] items) number ≡ weight_under number items
    count_of-each items number some = omega (arith, count_of-added [] items number some tt)

  total-added : (pieces : List Piece) (items : List A) → total (added by part pieces items) ≡ total pieces + weight_of by items
  total-added pieces [] = omega arith
  total-added pieces (item ∷ items) =
      omega (
        arith,
        total-added (plus pieces (part (by.key item)) (by.weight item)) items,
        total-plus pieces (part (by.key item)) (by.weight item),
        sum_by-cons by.weight item items,
      )

  -- where each weighs at most 255 they cost no more than their number
  costs-added : (pieces : List Piece) (items : List A) → AreWeighed by items → costs 2 (added by part pieces items) ≤ costs 2 pieces + length items
  costs-added pieces [] weighed = omega arith
  costs-added pieces (item ∷ items) weighed =
      let one = cost_one 2 (by.weight item) (weighed 0 item (omega arith)).0 (weighed 0 item (omega arith)).1 refl in
      omega (
        arith,
        costs-added (plus pieces (part (by.key item)) (by.weight item)) items (λ k d below. weighed (suc k) d (omega (arith, below))),
        costs-plus 2 pieces (part (by.key item)) (by.weight item),
        one,
      )

module _ {A : Type 0} (by : Measure A) where
  -- the weights of a list of items are a count table
  pub tally_table : (s : Numbers) (items : List A) → WeighSome by items → IsTable (2 ^ tail_bits s) (tally by s items)
  tally_table s items some = IsTable-added by (tail_of s) (2 ^ tail_bits s) (tail_below s) items some

  -- of each tail as much as its items weigh
  pub count_of-tally : (s : Numbers) (items : List A) (tail : ℕ) → WeighSome by items → count_of (tally by s items) tail ≡ tails_in by s tail items
  count_of-tally s items tail some = count_of-each by (tail_of s) (2 ^ tail_bits s) (tail_below s) items tail some

  pub tails_in-append : (s : Numbers) (tail : ℕ) (items others : List A) → tails_in by s tail (items ++ others) ≡ tails_in by s tail items + tails_in by s tail others
  tails_in-append s tail items others = sum_by-append (tail_weight by s tail) items others

  -- in all as much as they weigh
  pub total-tally : (s : Numbers) (items : List A) → total (tally by s items) ≡ weight_of by items
  total-tally s items = omega (arith, total-added by (tail_of s) [] items)

  -- where each weighs at most 255 they cost no more than their number
  pub costs-tally : (s : Numbers) (items : List A) → AreWeighed by items → costs 2 (tally by s items) ≤ length items
  costs-tally s items weighed = omega (arith, costs-added by (tail_of s) [] items weighed)

  -- one more item is as much more of its tail
  pub tally-push : (s : Numbers) (items : List A) (item : A) → tally by s (items ++ item ∷ []) ≡ plus (tally by s items) (tail_of s (by.key item)) (by.weight item)
  tally-push s items item = fold-append (λ table each. plus table (tail_of s (by.key each)) (by.weight each)) [] items (item ∷ [])

  WeighSome-append : (items others : List A) → WeighSome by items → WeighSome by others → WeighSome by (items ++ others)
  WeighSome-append [] others some more = more
  WeighSome-append (item ∷ items) others some more = (some.0, WeighSome-append items others some.1 more)

  -- a table with the weights of two lists together is that of the joined list
  pub tally-append : (s : Numbers) (items others : List A) (pieces : List Piece) → WeighSome by items → WeighSome by others → IsTable (2 ^ tail_bits s) pieces →
      ((tail : ℕ) → count_of pieces tail ≡ count_of (tally by s items) tail + count_of (tally by s others) tail) → pieces ≡ tally by s (items ++ others)
  tally-append s items others pieces some more table sums =
      let both = WeighSome-append items others some more in
      one_table 0 (2 ^ tail_bits s) pieces (tally by s (items ++ others)) table (tally_table s (items ++ others) both)
      (λ tail. omega (
        arith,
        sums tail,
        count_of-tally s items tail some,
        count_of-tally s others tail more,
        count_of-tally s (items ++ others) tail both,
        tails_in-append s tail items others,
      ))

-- the same of a list of keys, each of which is one more of its tail
pub IsTable-tallied : (s : Numbers) (keys : List ℕ) → IsTable (2 ^ tail_bits s) (tallied s keys)
IsTable-tallied s keys = tally_table plain s keys (keys_weigh keys)

pub count_of-tallied : (s : Numbers) (keys : List ℕ) (tail : ℕ) → count_of (tallied s keys) tail ≡ tails s tail keys
count_of-tallied s keys tail = count_of-tally plain s keys tail (keys_weigh keys)

pub tails-append : (s : Numbers) (tail : ℕ) (keys others : List ℕ) → tails s tail (keys ++ others) ≡ tails s tail keys + tails s tail others
tails-append s tail keys others = tails_in-append plain s tail keys others

pub total-tallied : (s : Numbers) (keys : List ℕ) → total (tallied s keys) ≡ length keys
total-tallied s keys = total-tally plain s keys ∙ sum_by-one keys
  where
    sum_by-one : (xs : List ℕ) → weight_of plain xs ≡ length xs
    sum_by-one [] = refl
    sum_by-one (x ∷ xs) = omega (arith, sum_by-cons plain.weight x xs, sum_by-one xs)

pub tallied-push : (s : Numbers) (keys : List ℕ) (key : ℕ) → tallied s (keys ++ key ∷ []) ≡ plus (tallied s keys) (tail_of s key) 1
tallied-push s keys key = tally-push plain s keys key

pub tallied-append : (s : Numbers) (keys others : List ℕ) (pieces : List Piece) → IsTable (2 ^ tail_bits s) pieces →
    ((tail : ℕ) → count_of pieces tail ≡ count_of (tallied s keys) tail + count_of (tallied s others) tail) → pieces ≡ tallied s (keys ++ others)
tallied-append s keys others pieces table sums = tally-append plain s keys others pieces (keys_weigh keys) (keys_weigh others) table sums
