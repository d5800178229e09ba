-- How the bins of a level change as the edges around it move: the oldest is dropped, and the newest grows or begins.
use Rattle.std.proofs.Common.{ℕ, ◌≡◌, ◌+◌, ◌-◌, ◌*◌, ◌/◌, ◌<◌, ◌≤◌, zero, suc, Bool, cond, ltb, List, [], ◌∷◌, ◌++◌, length, map, filter, min, max}
use Rattle.std.proofs.Common.{refl, ap, ap₂, sym, ◌∙◌, arith, slice_range, append-nil, length-append}
use Rattle.std.specs.List.{range_with_len}
use Rattle.std.proofs.lemmas.Bool.{lt-ltb, le-ltb}
use Rattle.std.proofs.lemmas.List.{map-append}
use Rattle.std.proofs.lemmas.List.Elements.{filter-append}
use Rattle.std.proofs.Math.Nat.{mul-div-le, div-add-mod, mod-lt, mul-suc, mul_comm, mul-le-mul_left, mul-le-mul_right, mul_assoc, suc-mul}
use Rattle.lert_spec.specs.declared.numbers.Numbers.{Numbers}
use Rattle.lert_spec.proofs.LookLaws.{slice_range-append}
use Rattle.lert_spec.specs.Edges.{span, offset, edge}
use Rattle.lert_spec.proofs.EdgeLaws.{span_pos, span-suc, div_never_falls}
use Rattle.lert_spec.specs.{Bins.{Bin, bins_of, tally}, Counts.Measure}

-- the bin of the positions between two ends
abbrev pub made : {A : Type 0} → Measure A → Numbers → List A → ℕ → ℕ → Bin
made by s events from to = record { from = from; to = to; pieces = tally by s (slice_range events from to) }

abbrev holds_some : Bin → Bool
holds_some bin = ltb bin.from bin.to

-- the k-th aligned interval of a width, cut between two edges
abbrev cut : {A : Type 0} → Measure A → Numbers → List A → ℕ → ℕ → ℕ → ℕ → Bin
cut by s events wide low high k = made by s events (max low (k * wide)) (min high (suc k * wide))

-- the cut intervals from the first one on, without empty ones
abbrev pub cuts : {A : Type 0} → Measure A → Numbers → List A → ℕ → ℕ → ℕ → ℕ → ℕ → List Bin
cuts by s events wide low high first n = filter holds_some (map (cut by s events wide low high) (range_with_len first n))

range-split : (first m n : ℕ) → range_with_len first (m + n) ≡ range_with_len first m ++ range_with_len (first + m) n
range-split first zero n = ap₂ range_with_len (let same : first ≡ first + 0 = omega arith in same) (let same : 0 + n ≡ n = omega arith in same)
range-split first (suc m) n =
    ap (range_with_len first) (let same : suc m + n ≡ suc (m + n) = omega arith in same)
    ∙ ap (λ xs. first ∷ xs) (range-split (first + 1) m n ∙ ap (λ k. range_with_len (first + 1) m ++ range_with_len k n) (let same : first + 1 + m ≡ first + suc m = omega arith in same))

-- an edge is behind its events by the offset at least
pub edge_within : (s : Numbers) (level n : ℕ) → edge s level n ≤ n
edge_within s level n = omega (arith, mul-div-le (n - offset s level) (span s level))

module _ {A : Type 0} (by : Measure A) where
  cuts-split : (s : Numbers) (events : List A) (wide low high first m n : ℕ) → cuts by s events wide low high first (m + n) ≡ cuts by s events wide low high first m
      ++ cuts by s events wide low high (first + m) n
  cuts-split s events wide low high first m n =
      ap (λ ks. filter holds_some (map (cut by s events wide low high) ks)) (range-split first m n)
      ∙ ap (filter holds_some) (map-append (cut by s events wide low high) (range_with_len first m) (range_with_len (first + m) n))
      ∙ filter-append holds_some (map (cut by s events wide low high) (range_with_len first m)) (map (cut by s events wide low high) (range_with_len (first + m) n))

  -- intervals that all lie outside
  cuts-none : (s : Numbers) (events : List A) (wide low high first n : ℕ) → ((k : ℕ) → first ≤ k → k < first + n → min high (suc k * wide) ≤ max low (k * wide)) →
      cuts by s events wide low high first n ≡ []
  cuts-none s events wide low high first zero outside = refl
  cuts-none s events wide low high first (suc n) outside =
      let here = le-ltb (max low (first * wide)) (min high (suc first * wide)) (outside first (omega arith) (omega arith)) in
      let rest = cuts-none s events wide low high (first + 1) n (λ k above below. outside k (omega arith) (omega arith)) in
      ap (λ t. cond t (cut by s events wide low high first ∷ cuts by s events wide low high (first + 1) n) (cuts by s events wide low high (first + 1) n)) here ∙ rest

  -- intervals that are cut alike
  cuts-same : (s : Numbers) (events : List A) (wide low high low' high' first n : ℕ) →
      ((k : ℕ) → first ≤ k → k < first + n → (max low (k * wide) ≡ max low' (k * wide)) × (min high (suc k * wide) ≡ min high' (suc k * wide))) →
      cuts by s events wide low high first n ≡ cuts by s events wide low' high' first n
  cuts-same s events wide low high low' high' first zero alike = refl
  cuts-same s events wide low high low' high' first (suc n) alike =
      let ends = alike first (omega arith) (omega arith) in
      let here : cut by s events wide low high first ≡ cut by s events wide low' high' first = ap₂ (made by s events) ends.0 ends.1 in
      let rest = cuts-same s events wide low high low' high' (first + 1) n (λ k above below. alike k (omega arith) (omega arith)) in
      ap₂ (λ bin others. cond (holds_some bin) (bin ∷ others) others) here rest

  -- one interval
  cuts-one : (s : Numbers) (events : List A) (wide low high k : ℕ) → cuts by s events wide low high k 1 ≡ cond {A = List Bin} (ltb (max low (k * wide)) (min high (suc k * wide)))
      (cut by s events wide low high k ∷ []) []
  cuts-one s events wide low high k = refl

  -- intervals behind the upper edge add nothing
  pub cuts-enough : (s : Numbers) (events : List A) (wide low high n more : ℕ) → high ≤ n * wide → cuts by s events wide low high 0 (n + more) ≡ cuts by s events wide low high 0 n
  cuts-enough s events wide low high n more covers =
      cuts-split s events wide low high 0 n more
      ∙ ap (λ bs. cuts by s events wide low high 0 n ++ bs)
      (cuts-none s events wide low high (0 + n) more
      (λ k above below. (let grows = mul-le-mul_right wide (let at_least : n ≤ k = omega arith in at_least) in omega arith)))
      ∙ append-nil (cuts by s events wide low high 0 n)

  -- where the lower edge moves by a whole interval, the oldest bin is dropped
  pub cuts-drop : (s : Numbers) (events : List A) (wide high j n : ℕ) → 1 ≤ wide → suc j * wide ≤ high → suc j ≤ n →
      cuts by s events wide (j * wide) high 0 n ≡ made by s events (j * wide) (suc j * wide) ∷ cuts by s events wide (suc j * wide) high 0 n
  cuts-drop s events wide high j n positive within covers =
      let low = j * wide in
      let next = suc j * wide in
      let step : next ≡ low + wide = suc-mul j wide in
      let rest = n - suc j in
      let whole : n ≡ j + (1 + rest) = omega arith in
      let whole' : n ≡ suc j + rest = omega arith in
      let before : cuts by s events wide low high 0 j ≡ [] = cuts-none s events wide low high 0 j
      (λ k above below. (let less = mul-le-mul_right wide (let at_most : suc k ≤ j = omega arith in at_most) in omega arith)) in
      let before' : cuts by s events wide next high 0 (suc j) ≡ [] = cuts-none s events wide next high 0 (suc j)
      (λ k above below. (let less = mul-le-mul_right wide (let at_most : suc k ≤ suc j = omega arith in at_most) in omega arith)) in
      let one : cuts by s events wide low high (0 + j) 1 ≡ made by s events low next ∷ [] =
      ap (λ k. cuts by s events wide low high k 1) (let same : 0 + j ≡ j = omega arith in same)
      ∙ ap₂ (λ from to. cond {A = List Bin} (ltb from to) (made by s events from to ∷ []) []) (let start : max low low ≡ low = omega arith in start) (let end : min high next ≡ next =
      omega arith in end)
      ∙ ap (λ t. cond {A = List Bin} t (made by s events low next ∷ []) []) (lt-ltb low next (omega arith)) in
      let later : cuts by s events wide low high (0 + j + 1) rest ≡ cuts by s events wide next high (0 + suc j) rest =
      ap (λ k. cuts by s events wide low high k rest) (let same : 0 + j + 1 ≡ 0 + suc j = omega arith in same)
      ∙ cuts-same s events wide low high next high (0 + suc j) rest
      (λ k above below. (let more = mul-le-mul_right wide (let at_least : suc j ≤ k = omega arith in at_least) in (omega arith, refl))) in
      ap (cuts by s events wide low high 0) whole
      ∙ cuts-split s events wide low high 0 j (1 + rest)
      ∙ ap₂ (λ a b. a ++ b) before (cuts-split s events wide low high (0 + j) 1 rest ∙ ap₂ (λ a b. a ++ b) one later)
      ∙ ap (λ bs. made by s events low next ∷ bs) (sym (ap₂ (λ a b. a ++ b) before' refl) ∙ sym (cuts-split s events wide next high 0 (suc j) rest)
      ∙ ap (cuts by s events wide next high 0) (sym whole'))

  -- the newest bin stands last: the part of the interval in which the upper edge lies
  pub cuts-newest : (s : Numbers) (events : List A) (wide low high k n : ℕ) → k * wide ≤ high → high ≤ suc k * wide → suc k ≤ n →
      cuts by s events wide low high 0 n ≡ cuts by s events wide low high 0 k ++ cond {A = List Bin} (ltb (max low (k * wide)) high) (made by s events (max low (k * wide)) high ∷ []) []
  cuts-newest s events wide low high k n above below covers =
      let rest = n - suc k in
      let whole : n ≡ k + (1 + rest) = omega arith in
      let one : cuts by s events wide low high (0 + k) 1 ≡ cond {A = List Bin} (ltb (max low (k * wide)) high) (made by s events (max low (k * wide)) high ∷ []) [] =
      ap (λ i. cuts by s events wide low high i 1) (let same : 0 + k ≡ k = omega arith in same)
      ∙ ap (λ to. cond {A = List Bin} (ltb (max low (k * wide)) to) (made by s events (max low (k * wide)) to ∷ []) []) (let end : min high (suc k * wide) ≡ high = omega arith in end) in
      let none : cuts by s events wide low high (0 + k + 1) rest ≡ [] = cuts-none s events wide low high (0 + k + 1) rest
      (λ i from to. (let more = mul-le-mul_right wide (let at_least : suc k ≤ i = omega arith in at_least) in omega arith)) in
      ap (cuts by s events wide low high 0) whole
      ∙ cuts-split s events wide low high 0 k (1 + rest)
      ∙ ap (λ bs. cuts by s events wide low high 0 k ++ bs)
      (cuts-split s events wide low high (0 + k) 1 rest ∙ ap₂ (λ a b. a ++ b) one none
      ∙ append-nil (cond {A = List Bin} (ltb (max low (k * wide)) high) (made by s events (max low (k * wide)) high ∷ []) []))

  -- and the bins before it don't change as that edge moves within the interval
  pub cuts-front : (s : Numbers) (events : List A) (wide low high high' k : ℕ) → k * wide ≤ high → high ≤ high' → cuts by s events wide low high' 0 k ≡ cuts by s events wide low high 0 k
  cuts-front s events wide low high high' k above grows =
      cuts-same s events wide low high' low high 0 k
      (λ i from to. (let less = mul-le-mul_right wide (let at_most : suc i ≤ k = omega arith in at_most) in (refl, omega arith)))

  -- the bins of a level are its cut intervals
  pub bins-cuts : (s : Numbers) (events : List A) (level : ℕ) → bins_of by s events level ≡ cuts by s events (span s level) (edge s level (length events)) (edge s (level - 1) (length events)) 0
      (suc (length events / span s level))
  bins-cuts s events level = refl

  -- a bin of earlier events is the same with later ones behind them
  pub made-append : (s : Numbers) (events others : List A) (from to : ℕ) → to ≤ length events → made by s (events ++ others) from to ≡ made by s events from to
  made-append s events others from to within =
      ap (λ keys. record { from = from; to = to; pieces = tally by s keys }) (slice_range-append events others from to within)

  pub cuts-append : (s : Numbers) (events others : List A) (wide low high first n : ℕ) → high ≤ length events →
      cuts by s (events ++ others) wide low high first n ≡ cuts by s events wide low high first n
  cuts-append s events others wide low high first zero within = refl
  cuts-append s events others wide low high first (suc n) within =
      let here : cut by s (events ++ others) wide low high first ≡ cut by s events wide low high first =
      made-append s events others (max low (first * wide)) (min high (suc first * wide)) (omega arith) in
      ap₂ (λ bin more. cond (holds_some bin) (bin ∷ more) more) here (cuts-append s events others wide low high (first + 1) n within)

module _ {A : Type 0} (by : Measure A) where
  -- while neither edge of a level moves, its bins stay
  pub bins-still : (s : Numbers) (events : List A) (event : A) (level : ℕ) → 1 ≤ s.base → 1 ≤ s.ratio → edge s level (suc (length events)) ≡ edge s level (length events) →
      edge s (level - 1) (suc (length events)) ≡ edge s (level - 1) (length events) → bins_of by s (events ++ event ∷ []) level ≡ bins_of by s events level
  bins-still s events event level base ratio low_stays high_stays =
      let n = length events in
      let all = events ++ event ∷ [] in
      let wide = span s level in
      let positive = span_pos s level base ratio in
      let low = edge s level n in
      let high = edge s (level - 1) n in
      let longer : length all ≡ suc n = omega (arith, length-append events (event ∷ [])) in
      let few = suc (n / wide) in
      let more = suc (suc n / wide) - few in
      let grows = div_never_falls n (suc n) wide positive (omega arith) in
      let whole : suc (suc n / wide) ≡ few + more = omega arith in
      let parts = div-add-mod n wide in
      let rest = mod-lt n {m = wide} positive in
      let product = suc-mul (n / wide) wide in
      let turned = mul_comm (n / wide) wide in
      let covers : high ≤ few * wide = omega (arith, edge_within s (level - 1) n) in
      ap (λ m. cuts by s all wide (edge s level m) (edge s (level - 1) m) 0 (suc (m / wide))) longer
      ∙ ap₂ (λ l h. cuts by s all wide l h 0 (suc (suc n / wide))) low_stays high_stays
      ∙ ap (cuts by s all wide low high 0) whole
      ∙ cuts-enough by s all wide low high few more covers
      ∙ cuts-append by s events (event ∷ []) wide low high 0 few (edge_within s (level - 1) n)

-- a level's bins before and after the edge of the next younger level moved on within an interval: the newest bin grows, or a
-- new one begins where none stands at the old edge
pub record Grows {A : Type 0} (by : Measure A) (s : Numbers) (events : List A) (high high' : ℕ) (before after : List Bin) : Type 0 where
  pub front : List Bin
  pub start : ℕ
  pub before_is : before ≡ front ++ cond {A = List Bin} (ltb start high) (made by s events start high ∷ []) []
  pub after_is : after ≡ front ++ made by s events start high' ∷ []
  pub begins : start ≤ high

-- an edge and the next move of it lie in one interval of the next older level
one_interval : (s : Numbers) (level steps_here : ℕ) → 1 ≤ s.base → 1 ≤ s.ratio → span s level * suc steps_here ≤ suc (steps_here / s.ratio) * span s (suc level)
one_interval s level count base ratio =
    let width = span s level in
    let parts = div-add-mod count s.ratio in
    let rest = mod-lt count {m = s.ratio} ratio in
    let fits : suc count ≤ s.ratio * suc (count / s.ratio) = omega (arith, mul-suc s.ratio (count / s.ratio)) in
    let wider = mul-le-mul_left width fits in
    let grouped = sym (mul_assoc width s.ratio (suc (count / s.ratio))) ∙ ap (λ w. w * suc (count / s.ratio)) (sym (span-suc s level)) in
    omega (arith, mul_comm (span s (suc level)) (suc (count / s.ratio)))

module _ {A : Type 0} (by : Measure A) where
  pub cuts-grow : (s : Numbers) (events : List A) (level low count n : ℕ) → 1 ≤ s.base → 1 ≤ s.ratio → low ≤ span s level * count → suc (count / s.ratio) ≤ n →
      Grows by s events (span s level * count) (span s level * suc count) (cuts by s events (span s (suc level)) low (span s level * count) 0 n)
      (cuts by s events (span s (suc level)) low (span s level * suc count) 0 n)
  cuts-grow s events level low count n base ratio under covers =
      let wide = span s (suc level) in
      let width = span s level in
      let high = width * count in
      let high' = width * suc count in
      let k = count / s.ratio in
      let start = max low (k * wide) in
      let reached : k * wide ≤ high =
      (let few = mul-le-mul_left width (mul-div-le count s.ratio) in
      let grouped = sym (mul_assoc width s.ratio k) ∙ ap (λ w. w * k) (sym (span-suc s level)) in
      omega (arith, mul_comm wide k)) in
      let within = one_interval s level count base ratio in
      let step = mul-suc width count in
      let positive = span_pos s level base ratio in
      record {
        front = cuts by s events wide low high 0 k;
        start = start;
        before_is = cuts-newest by s events wide low high k n reached (omega arith) covers;
        after_is = cuts-newest by s events wide low high' k n (omega arith) within covers
            ∙ ap₂ (λ f t. f ++ cond {A = List Bin} t (made by s events start high' ∷ []) []) (cuts-front by s events wide low high high' k reached (omega arith)) (lt-ltb start high' (omega arith));
        begins = omega arith;
      }
