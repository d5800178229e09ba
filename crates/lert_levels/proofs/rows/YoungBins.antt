-- The bins of level 0 as events come and the oldest one is dropped.
use Rattle.lert_spec.specs.Counts.{weighed}
use Rattle.std.proofs.Common.{ℕ, zero, suc, ◌≡◌, ◌+◌, ◌-◌, ◌*◌, ◌/◌, ◌%◌, ◌≤◌, cond, ltb, max, min, List, [], ◌∷◌, ◌++◌, length, refl, ap, ap₂, sym, ◌∙◌, arith, inl, inr, slice_range, length-append}
use Rattle.std.proofs.{Common.{append-nil, take, drop, length-drop}, Math.Nat.{div-add-mod, mod-lt, mul-le-mul_right, mul-mod_left, suc-mul, mul_comm}, lemmas.Bool.{lt-ltb, le-ltb, cases_lt}}
use Rattle.std.proofs.lemmas.List.{drop-append-le, take_all}
use Rattle.lert_spec.specs.{declared.item.Item.Item, declared.numbers.Numbers.Numbers, Bins.{Bin, tally}, Edges.span, Mix.tail_of, Table.plus}
use Rattle.lert_spec.proofs.{BinLaws.{made, cuts, cuts-newest, cuts-front, cuts-append, cuts-drop}, EdgeLaws.div_never_falls, TallyLaws.tally-push}
use Rattle.lert_levels.specs.{rows.Ranges.young_bins, rows.Young.{grown, added}}
use Rattle.lert_levels.proofs.rows.YoungLaws.{added-begin, added-grow}

-- only the last bin grows
grown-last : (front : List Bin) (bin : Bin) (tail weight m : ℕ) → grown (front ++ bin ∷ []) tail weight m ≡ front ++ record { from = bin.from; to = m; pieces = plus bin.pieces tail weight } ∷ []
grown-last [] bin tail weight m = refl
grown-last (x ∷ []) bin tail weight m = refl
grown-last (x ∷ y ∷ front) bin tail weight m = ap (λ bins. x ∷ bins) (grown-last (y ∷ front) bin tail weight m)

-- the last positions with one more event
slice_range-push : (events : List Item) (item : Item) (from : ℕ) → from ≤ length events → slice_range (events ++ item ∷ []) from (suc (length events)) ≡ slice_range events from (length events)
    ++ item ∷ []
slice_range-push events item from within =
    let rest = drop from events in
    let len = length-drop from events in
    ap (take (suc (length events) - from)) (drop-append-le from events (item ∷ []) within)
    ∙ take_all (suc (length events) - from) (rest ++ item ∷ []) (omega (arith, length-append rest (item ∷ [])))
    ∙ ap (λ items. items ++ item ∷ []) (sym (take_all (length events - from) rest (omega arith)))

slice_range-none : (events : List Item) (n : ℕ) → slice_range events n n ≡ []
slice_range-none events n = ap (λ k. take k (drop n events)) (let none : n - n ≡ 0 = omega arith in none)

-- a bin with one more event
made-push : (s : Numbers) (events : List Item) (item : Item) (from : ℕ) → from ≤ length events →
    made weighed s (events ++ item ∷ []) from (suc (length events)) ≡ record {
      from = from;
      to = suc (length events);
      pieces =
          plus (tally weighed s (slice_range events from (length events))) (tail_of s item.key) item.weight;
    }
made-push s events item from within =
    ap (λ pieces. record { from = from; to = suc (length events); pieces = pieces })
    (ap (tally weighed s) (slice_range-push events item from within) ∙ tally-push weighed s (slice_range events from (length events)) item)

-- one more event is in the newest bin, or in a new one
pub young-added : (s : Numbers) (events : List Item) (item : Item) (from : ℕ) → 1 ≤ span s 0 → from % span s 0 ≡ 0 → from ≤ length events →
    young_bins s (events ++ item ∷ []) from ≡ added s (young_bins s events from) (tail_of s item.key) item.weight (suc (length events))
young-added s events item from positive aligned within =
    let wide = span s 0 in
    let n = length events in
    let k = n / wide in
    let all = events ++ item ∷ [] in
    let tail = tail_of s item.key in
    let weight = item.weight in
    let parts = div-add-mod n wide in
    let rest = mod-lt n {m = wide} positive in
    let turned = mul_comm wide k in
    let step = suc-mul k wide in
    let front = cuts weighed s events wide from n 0 k in
    let start = max from (k * wide) in
    let begins : from ≤ k * wide = (
    let whole = div-add-mod from wide in
    let fewer = mul-le-mul_right wide (div_never_falls from n wide positive within) in
    omega (arith, mul_comm wide (from / wide))
    ) in
    let start_is : start ≡ k * wide = omega arith in
    let later = div_never_falls n (suc n) wide positive (omega arith) in
    let longer : length all ≡ suc n = omega (arith, length-append events (item ∷ [])) in
    let before : young_bins s events from ≡ front ++ cond {A = List Bin} (ltb start n) (made weighed s events start n ∷ []) [] =
    cuts-newest weighed s events wide from n k (suc k) (omega arith) (omega arith) (omega arith) in
    let after : young_bins s all from ≡ front ++ made weighed s all start (suc n) ∷ [] =
    ap (λ m. cuts weighed s all wide from m 0 (suc (m / wide))) longer
    ∙ cuts-newest weighed s all wide from (suc n) k (suc (suc n / wide)) (omega arith) (omega arith) (omega arith)
    ∙ ap₂ (λ bins t. bins ++ cond {A = List Bin} t (made weighed s all start (suc n) ∷ []) [])
    (cuts-front weighed s all wide from n (suc n) k (omega arith) (omega arith) ∙ cuts-append weighed s events (item ∷ []) wide from n 0 k (omega arith))
    (lt-ltb start (suc n) (omega arith)) in
    let grows = ap (λ bin. front ++ bin ∷ []) (made-push s events item start (omega arith)) in
    let whole : k * wide % wide ≡ 0 = mul-mod_left k wide in
    elim (cases_lt start n) [
      | inl some ↦ (
          let newest : young_bins s events from ≡ front ++ made weighed s events start n ∷ [] =
          before ∙ ap (λ t. front ++ cond {A = List Bin} t (made weighed s events start n ∷ []) []) (lt-ltb start n some) in
          after ∙ grows
          ∙ sym (added-grow s (young_bins s events from) tail weight (k * wide) 0 n whole (omega arith) (omega arith)
          ∙ ap (λ bins. grown bins tail weight (suc n)) newest
          ∙ grown-last front (made weighed s events start n) tail weight (suc n)))
      | inr none ↦ (
          let start_last : start ≡ n = omega arith in
          let all_whole : young_bins s events from ≡ front =
          before ∙ ap (λ t. front ++ cond {A = List Bin} t (made weighed s events start n ∷ []) []) (le-ltb start n none) ∙ append-nil front in
          let empty : slice_range events start n ≡ [] = ap (λ from. slice_range events from n) start_last ∙ slice_range-none events n in
          after ∙ grows
          ∙ ap₂ (λ bins bin. bins ++ bin ∷ []) (sym all_whole) (λ i. record { from = start_last i; to = suc n; pieces = plus (tally weighed s (empty i)) tail weight })
          ∙ sym (added-begin s (young_bins s events from) tail weight (k * wide) 0 n whole positive (omega arith)))
    ]

-- without its oldest bin, which is whole
pub young-dropped : (s : Numbers) (events : List Item) (from : ℕ) → 1 ≤ span s 0 → from % span s 0 ≡ 0 → from + span s 0 ≤ length events →
    young_bins s events from ≡ made weighed s events from (from + span s 0) ∷ young_bins s events (from + span s 0)
young-dropped s events from positive aligned within =
    let wide = span s 0 in
    let n = length events in
    let j = from / wide in
    let parts = div-add-mod from wide in
    let start : from ≡ j * wide = omega (arith, mul_comm wide j) in
    let step = suc-mul j wide in
    let next : from + wide ≡ suc j * wide = omega arith in
    let rest = div-add-mod n wide in
    let few = mod-lt n {m = wide} positive in
    let covers : suc j ≤ suc (n / wide) = (let fewer = div_never_falls from n wide positive (omega arith) in omega arith) in
    ap (λ low. cuts weighed s events wide low n 0 (suc (n / wide))) start
    ∙ cuts-drop weighed s events wide n j (suc (n / wide)) positive (omega arith) covers
    ∙ ap₂ (λ low high. made weighed s events low high ∷ cuts weighed s events wide high n 0 (suc (n / wide))) (sym start) (sym next)

cuts-over : (s : Numbers) (events : List Item) (wide low high first n : ℕ) → high ≤ low → cuts weighed s events wide low high first n ≡ []
cuts-over s events wide low high first zero over = refl
cuts-over s events wide low high first (suc n) over =
    let from = max low (first * wide) in
    let to = min high (suc first * wide) in
    ap₂ (λ t bins. cond {A = List Bin} t (made weighed s events from to ∷ bins) bins) (le-ltb from to (omega arith)) (cuts-over s events wide low high (first + 1) n over)

-- no position above, no bin
pub young-none : (s : Numbers) (events : List Item) (from : ℕ) → length events ≤ from → young_bins s events from ≡ []
young-none s events from over = cuts-over s events (span s 0) from (length events) 0 (suc (length events / span s 0)) over
