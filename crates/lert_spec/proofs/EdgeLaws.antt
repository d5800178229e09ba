-- The laws of edges: they are nested, they move together, and a lookback reaches far enough in time.
use Rattle.std.proofs.Common.{ℕ, ◌≡◌, ◌≢◌, ◌+◌, ◌-◌, ◌*◌, ◌/◌, ◌%◌, ◌^◌, ◌<◌, ◌≤◌, zero, suc, ap, sym, ◌∙◌, arith, inl, inr, cond}
use Rattle.std.proofs.Math.Nat.{mul-div-le, div-div-eq-div-mul, mul-le-mul_left, pow-suc, one-le-pow, mul_assoc, mul_comm, mul-add, add-mul-div_right, div-lt_iff_lt-mul, le-div_iff_mul-le}
use Rattle.std.proofs.Math.Nat.{div-mul-le_self, div-eq_of_lt-le, mul-div_right, add-zero, add-suc, mul-suc, div-add-mod, mod-lt, mul-le-mul_right}
use Rattle.std.proofs.lemmas.Bool.{cases_lt, cases_eq, eq-eqb, ne_eqb}
use Rattle.std.proofs.lemmas.Nat.{mul-le}
use Rattle.lert_spec.specs.declared.numbers.Numbers.{Numbers}
use Rattle.lert_spec.specs.Edges.{span, spans, offset, edge, deepest, depth, lookback}

-- a quotient of what is left behind k parts
sub-mul-div : (n k w : ℕ) → 1 ≤ w → (n - k * w) / w ≡ n / w - k
sub-mul-div n k w wide =
    elim (cases_lt n (k * w)) [
      | inl below ↦ (
          let none : n - k * w ≡ 0 = omega arith in
          let few = (div-lt_iff_lt-mul {k = w} {x = n} {y = k} wide).1 below in
          ap (λ x. x / w) none ∙ omega arith)
      | inr above ↦ (
          let whole : n ≡ (n - k * w) + k * w = omega arith in
          let more = add-mul-div_right (n - k * w) k {z = w} wide in
          let same = ap (λ x. x / w) whole in omega arith)
    ]

-- how many whole spans stand above the offset
abbrev pub steps : Numbers → ℕ → ℕ → ℕ
steps s level n = (n - offset s level) / span s level

-- a span of the next level is the ratio times as wide
pub span-suc : (s : Numbers) (level : ℕ) → span s (suc level) ≡ span s level * s.ratio
span-suc s level = ap (λ x. s.base * x) (pow-suc s.ratio level) ∙ sym (mul_assoc s.base (s.ratio ^ level) s.ratio)

-- spans are positive
pub span_pos : (s : Numbers) (level : ℕ) → 1 ≤ s.base → 1 ≤ s.ratio → 1 ≤ span s level
span_pos s level base ratio = mul-le 1 1 s.base (s.ratio ^ level) base (one-le-pow level s.ratio ratio)

-- the steps of a level follow from those of the next younger one
pub steps-suc : (s : Numbers) (level n : ℕ) → 1 ≤ span s (suc level) → steps s (suc level) n ≡ steps s level n / s.ratio - (s.bins - 1)
steps-suc s level n wide =
    let behind = mul-add (s.bins - 1) (spans s level) (span s (suc level)) in
    let further : n - offset s (suc level) ≡ (n - offset s level) - (s.bins - 1) * span s (suc level) = omega arith in
    ap (λ x. x / span s (suc level)) further
    ∙ sub-mul-div (n - offset s level) (s.bins - 1) (span s (suc level)) wide
    ∙ ap (λ x. x - (s.bins - 1)) (ap (λ w. (n - offset s level) / w) (span-suc s level) ∙ sym (div-div-eq-div-mul (n - offset s level) (span s level) s.ratio))

-- a quotient never falls
pub div_never_falls : (m n w : ℕ) → 1 ≤ w → m ≤ n → m / w ≤ n / w
div_never_falls m n w wide below =
    (le-div_iff_mul-le {k = w} {x = m / w} {y = n} wide).1 (omega (arith, div-mul-le_self m w))

same_factor : (w a b : ℕ) → 1 ≤ w → w * a ≡ w * b → a ≡ b
same_factor w a b wide same = sym (mul-div_right a {m = w} wide) ∙ ap (λ x. x / w) same ∙ mul-div_right b {m = w} wide

-- the spans of the levels below this one, together
abbrev pub spans_below : Numbers → ℕ → ℕ
spans_below s zero = 0
spans_below s (suc level) = spans s level

pub spans_below-add : (s : Numbers) (level : ℕ) → spans_below s level + span s level ≡ spans_below s (level + 1)
spans_below-add s zero = omega arith
spans_below-add s (suc level) = ap (spans_below s) (let same : suc (suc level) ≡ suc level + 1 = omega arith in same)

-- at `at`, soon after p, the edge of a level moves, and its steps just before are no more than at p
pub record NextMove (s : Numbers) (level p : ℕ) : Type 0 where
  pub at : ℕ
  pub from : p ≤ at
  pub soon : at < p + span s level
  pub moves : steps s level at ≡ suc (steps s level (at - 1))
  pub held : steps s level (at - 1) ≤ steps s level p

-- at `at` the lookback reaches behind q, and the way there from p is short against that from q to p
pub record DueAt (s : Numbers) (q p : ℕ) : Type 0 where
  pub at : ℕ
  pub from : p ≤ at
  pub in_time : (at - p) * (s.bins - 1) ≤ p - q
  pub reaches : lookback s at < q

-- one step of the way down from the oldest level
pub deepest_moves : (s : Numbers) (level m : ℕ) → 1 ≤ level → edge s (level - 1) m ≢ edge s (level - 1) (m - 1) → deepest s level m ≡ level
deepest_moves s zero m from moves = absurd (omega arith)
deepest_moves s (suc level) m from moves =
    let same : suc level - 1 ≡ level = omega arith in
    ap (λ t. cond t (deepest s level m) (suc level)) (ne_eqb (edge s level m) (edge s level (m - 1)) (rw same at moves))

pub deepest_stays : (s : Numbers) (level m : ℕ) → 1 ≤ level → edge s (level - 1) m ≡ edge s (level - 1) (m - 1) → deepest s level m ≡ deepest s (level - 1) m
deepest_stays s zero m from stays = absurd (omega arith)
deepest_stays s (suc level) m from stays =
    let same : suc level - 1 ≡ level = omega arith in
    ap (λ t. cond t (deepest s level m) (suc level)) (eq-eqb (edge s level m) (edge s level (m - 1)) (rw same at stays))
    ∙ ap (λ i. deepest s i m) (sym same)

module _ (s : Numbers) (base : 1 ≤ s.base) (ratio : 1 ≤ s.ratio) where
  wide : (level : ℕ) → 1 ≤ span s level
  wide level = span_pos s level base ratio

  -- an edge never falls
  pub edge_never_falls : (level m n : ℕ) → m ≤ n → edge s level m ≤ edge s level n
  edge_never_falls level m n below =
      mul-le-mul_left (span s level) (div_never_falls (m - offset s level) (n - offset s level) (span s level) (wide level) (omega arith))

  -- an older level's edge is no greater
  pub edge_descends : (level n : ℕ) → edge s (suc level) n ≤ edge s level n
  edge_descends level n =
      let width = span s level in
      let count = steps s level n in
      let fewer : steps s (suc level) n ≤ count / s.ratio = omega (arith, steps-suc s level n (wide (suc level))) in
      let less = mul-le-mul_left (span s (suc level)) fewer in
      let regrouped = ap (λ w. w * (count / s.ratio)) (span-suc s level) ∙ mul_assoc width s.ratio (count / s.ratio) in
      let within = mul-le-mul_left width (mul-div-le count s.ratio) in
      omega arith

  pub edge_descends_to : (level more n : ℕ) → edge s (level + more) n ≤ edge s level n
  edge_descends_to level zero n = rw add-zero (omega arith)
  edge_descends_to level (suc more) n =
      rw (add-suc level more) (omega (arith, edge_descends (level + more) n, edge_descends_to level more n))

  -- where the steps of a level stay, those of the next older one stay
  pub steps_together : (level m n : ℕ) → steps s level m ≡ steps s level n → steps s (suc level) m ≡ steps s (suc level) n
  steps_together level m n same =
      steps-suc s level m (wide (suc level)) ∙ ap (λ c. c / s.ratio - (s.bins - 1)) same ∙ sym (steps-suc s level n (wide (suc level)))

  -- the edge of an older level moves only where that of the next younger one does
  pub moves_together : (level m n : ℕ) → edge s level m ≡ edge s level n → edge s (suc level) m ≡ edge s (suc level) n
  moves_together level m n same = ap (λ c. span s (suc level) * c) (steps_together level m n (same_factor (span s level) (steps s level m) (steps s level n) (wide level) same))

  -- the steps rise by one at each whole number of spans above the offset
  steps_at : (level n c : ℕ) → n - offset s level ≡ span s level * suc c → steps s level n ≡ suc c
  steps_at level n c whole = ap (λ x. x / span s level) whole ∙ mul-div_right (suc c) {m = span s level} (wide level)

  steps_before : (level n c : ℕ) → n - offset s level ≡ span s level * suc c → steps s level (n - 1) ≡ c
  steps_before level n c whole =
      let width = span s level in
      let one_more = mul-suc width c in
      let positive = wide level in
      div-eq_of_lt-le {k = c} width {m = n - 1 - offset s level} (omega (arith, mul_comm c width)) (omega (arith, mul_comm (c + 1) width, mul-add width c 1))

  -- a position no further than a span behind p, where the edge moves
  pub next_move : (level p : ℕ) → 1 ≤ steps s level p → NextMove s level p
  next_move level p moved =
      let width = span s level in
      let above = p - offset s level in
      let count = above / width in
      let parts = div-add-mod above width in
      let rest = mod-lt above {m = width} (wide level) in
      elim (cases_lt 0 (above % width)) [
        | inl some ↦ (
            let next = offset s level + width * suc count in
            let one_more = mul-suc width count in
            let whole : next - offset s level ≡ width * suc count = omega arith in
            let before = steps_before level next count whole in
            record {
              at = next;
              from = omega arith;
              soon = omega arith;
              moves = steps_at level next count whole ∙ ap suc (sym before);
              held = omega (arith, before);
            })
        | inr none ↦ (
            let fewer = count - 1 in
            let again : count ≡ suc fewer = omega arith in
            let product = ap (λ c. width * c) again in
            let whole : above ≡ width * suc fewer = omega arith in
            let before = steps_before level p fewer whole in
            record {
              at = p;
              from = omega arith;
              soon = omega (arith, wide level);
              moves = steps_at level p fewer whole ∙ ap suc (sym before);
              held = omega (arith, before);
            })
      ]

  -- where the steps of a level are no more, the edge of the next older one is no greater
  older_held : (level m n : ℕ) → steps s level m ≤ steps s level n → edge s (suc level) m ≤ edge s (suc level) n
  older_held level m n fewer =
      let quotients = div_never_falls (steps s level m) (steps s level n) s.ratio ratio fewer in
      mul-le-mul_left (span s (suc level)) (omega (arith, steps-suc s level m (wide (suc level)), steps-suc s level n (wide (suc level)), quotients))

  -- a flush goes deeper than each level whose edge moves
  pub deepest_reaches : (top level m : ℕ) → level < top → edge s level m ≢ edge s level (m - 1) → suc level ≤ deepest s top m
  deepest_reaches zero level m below moves = absurd (omega arith)
  deepest_reaches (suc top) level m below moves =
      elim (cases_eq (edge s top m) (edge s top (m - 1))) [
        | inl stays ↦ (
            let other : level ≢ top = λ same. moves (ap (λ i. edge s i m) same ∙ stays ∙ ap (λ i. edge s i (m - 1)) (sym same)) in
            let skipped = ap (λ t. cond t (deepest s top m) (suc top)) (eq-eqb (edge s top m) (edge s top (m - 1)) stays) in
            omega (arith, skipped, deepest_reaches top level m (omega arith) moves))
        | inr changes ↦ (
            let taken = ap (λ t. cond t (deepest s top m) (suc top)) (ne_eqb (edge s top m) (edge s top (m - 1)) changes) in
            omega (arith, taken))
      ]

  -- a lookback is no later than the edges of the levels that the flush reaches
  pub lookback_within : (level m : ℕ) → level ≤ depth s m → lookback s m ≤ edge s level (m - 1)
  lookback_within level m reached =
      let more = depth s m - level in
      let whole : level + more ≡ depth s m = omega arith in
      let named = ap (λ i. edge s i (m - 1)) whole in
      omega (arith, named, edge_descends_to level more (m - 1))

  -- no edge is behind the events, less its offset
  pub edge_behind : (level n : ℕ) → 1 ≤ edge s level n → edge s level n + offset s level ≤ n
  edge_behind level n moved = omega (arith, mul-div-le (n - offset s level) (span s level))

  -- a level's offset covers its bins but one
  pub offset_covers : (level : ℕ) → span s level * (s.bins - 1) ≤ offset s level
  offset_covers zero = omega (arith, mul_comm (span s zero) (s.bins - 1))
  offset_covers (suc level) =
      omega (arith, mul_comm (span s (suc level)) (s.bins - 1), mul-add (s.bins - 1) (spans s level) (span s (suc level)))

  -- where a level's edge is at or behind q, and that of the next older one before it
  due_at : (q p level : ℕ) → 1 ≤ q → level < s.levels → q ≤ edge s level p → edge s (suc level) p < q → DueAt s q p
  due_at q p level first within young old =
      let width = span s level in
      let some : 1 ≤ steps s level p = elim (cases_lt 0 (steps s level p)) [
        | inl positive ↦ positive
        | inr none ↦ (let zero_steps : steps s level p ≡ 0 = omega arith in
            let nothing = ap (λ c. width * c) zero_steps in absurd (omega arith))
      ] in
      let next = next_move level p some in
      let changes : edge s level next.at ≢ edge s level (next.at - 1) =
      λ same. (let equal = same_factor width (steps s level next.at) (steps s level (next.at - 1)) (wide level) same in omega (arith, next.moves)) in
      let reached = deepest_reaches s.levels level next.at within changes in
      let back = lookback_within (suc level) next.at reached in
      let held = older_held level (next.at - 1) p next.held in
      let behind = edge_behind level p (omega arith) in
      let covers = offset_covers level in
      let way = mul-le-mul_right (s.bins - 1) (let short : next.at - p ≤ width = omega (arith, next.soon, next.from) in short) in
      record {
        at = next.at;
        from = next.from;
        in_time = omega arith;
        reaches = omega arith;
      }

  -- where some level's edge is before q
  due_by : (q p level : ℕ) → 1 ≤ q → level ≤ s.levels → edge s level p < q → DueAt s q p
  due_by q p zero first within old = record {
    at = p;
    from = omega arith;
    in_time = (let none : p - p ≡ 0 = omega arith in rw none (omega arith));
    reaches = omega (arith, lookback_within 0 p (omega arith), edge_never_falls 0 (p - 1) p (omega arith));
  }
  due_by q p (suc level) first within old =
      elim (cases_lt (edge s level p) q) [
        | inl younger ↦ due_by q p level first (omega arith) younger
        | inr here ↦ due_at q p level first (omega arith) here old
      ]

  -- a window that ends soon behind p reaches behind q, for all positions before the oldest level's edge moves
  pub due : (q p : ℕ) → 1 ≤ q → p < offset s s.levels + span s s.levels → DueAt s q p
  due q p first fits =
      let oldest = s.levels in
      let positive = wide oldest in
      let none : steps s oldest p ≡ 0 = div-eq_of_lt-le {k = 0} (span s oldest) {m = p - offset s oldest} (omega arith) (omega arith) in
      let still = ap (λ c. span s oldest * c) none in
      due_by q p oldest first (omega arith) (omega arith)

  -- an edge moves at each whole number of spans above its offset
  pub moves_there : (level m : ℕ) → offset s level < m → (m - offset s level) % span s level ≡ 0 → edge s level m ≢ edge s level (m - 1)
  moves_there level m above whole_spans same =
      let width = span s level in
      let positive = wide level in
      let count = (m - offset s level) / width in
      let parts = div-add-mod (m - offset s level) width in
      let some : 1 ≤ count = elim (cases_lt 0 count) [
        | inl more ↦ more
        | inr none ↦ (let zero_count : count ≡ 0 = omega arith in
            let nothing = ap (λ c. width * c) zero_count in absurd (omega arith))
      ] in
      let again : count ≡ suc (count - 1) = omega arith in
      let product = ap (λ c. width * c) again in
      let whole : m - offset s level ≡ width * suc (count - 1) = omega arith in
      let here = steps_at level m (count - 1) whole in
      let before = steps_before level m (count - 1) whole in
      let equal = same_factor width (steps s level m) (steps s level (m - 1)) positive same in
      omega arith

  -- and nowhere else
  pub stays_elsewhere : (level m : ℕ) → (offset s level < m → (m - offset s level) % span s level ≢ 0) → edge s level m ≡ edge s level (m - 1)
  stays_elsewhere level m other =
      let width = span s level in
      let positive = wide level in
      let above = m - offset s level in
      elim (cases_lt (offset s level) m) [
        | inl moved ↦ (
            let parts = div-add-mod above width in
            let rest = mod-lt above {m = width} positive in
            let some : 1 ≤ above % width = elim (cases_lt 0 (above % width)) [
              | inl more ↦ more
              | inr none ↦ absurd (other moved (let zero_rest : above % width ≡ 0 = omega arith in zero_rest))
            ] in
            let count = above / width in
            let one_more = mul-add width count 1 in
            let before : (m - 1 - offset s level) / width ≡ count =
            div-eq_of_lt-le {k = count} width {m = m - 1 - offset s level} (omega (arith, mul_comm count width)) (omega (arith, mul_comm (count + 1) width)) in
            ap (λ c. width * c) (sym before))
        | inr below ↦ (let same : m - offset s level ≡ m - 1 - offset s level = omega arith in ap (λ n. width * (n / width)) same)
      ]

  -- where an edge stays, those of older levels stay
  stays_together : (level more m : ℕ) → edge s level m ≡ edge s level (m - 1) → edge s (level + more) m ≡ edge s (level + more) (m - 1)
  stays_together level zero m stays = rw (add-zero level) stays
  stays_together level (suc more) m stays = rw (add-suc level more) (moves_together (level + more) m (m - 1) (stays_together level more m stays))

  -- a flush reaches as many levels as move in a row
  pub deepest_is : (top reached m : ℕ) → reached ≤ top → ((level : ℕ) → level < reached → edge s level m ≢ edge s level (m - 1)) →
      (reached < top → edge s reached m ≡ edge s reached (m - 1)) → deepest s top m ≡ reached
  deepest_is zero reached m within moves stays = omega arith
  deepest_is (suc top) reached m within moves stays =
      elim (cases_lt top reached) [
        | inl all ↦ ap (λ t. cond t (deepest s top m) (suc top)) (ne_eqb (edge s top m) (edge s top (m - 1)) (moves top all)) ∙ omega arith
        | inr fewer ↦ (
            let still = stays (omega arith) in
            let older = stays_together reached (top - reached) m still in
            let here : reached + (top - reached) ≡ top = omega arith in
            let stays_here = rw here at older in
            ap (λ t. cond t (deepest s top m) (suc top)) (eq-eqb (edge s top m) (edge s top (m - 1)) stays_here)
            ∙ deepest_is top reached m fewer moves (λ less. still))
      ]

  -- a flush goes no deeper than the levels
  pub deepest_within : (top m : ℕ) → deepest s top m ≤ top
  deepest_within zero m = omega arith
  deepest_within (suc top) m =
      elim (cases_eq (edge s top m) (edge s top (m - 1))) [
        | inl stays ↦ omega (arith, deepest_within top m, ap (λ t. cond t (deepest s top m) (suc top)) (eq-eqb (edge s top m) (edge s top (m - 1)) stays))
        | inr moves ↦ omega (arith, ap (λ t. cond t (deepest s top m) (suc top)) (ne_eqb (edge s top m) (edge s top (m - 1)) moves))
      ]

  -- an edge that moves does so by one span
  pub moves_by_one : (level m : ℕ) → edge s level m ≢ edge s level (m - 1) → steps s level m ≡ suc (steps s level (m - 1))
  moves_by_one level m moves =
      let width = span s level in
      let above = m - offset s level in
      elim (cases_lt (offset s level) m) [
        | inl later ↦ elim (cases_lt 0 (above % width)) [
          | inl between ↦ absurd (moves (stays_elsewhere level m (λ _ none. omega arith)))
          | inr none ↦ (
              let parts = div-add-mod above width in
              let count = above / width in
              let some : 1 ≤ count = elim (cases_lt 0 count) [
                | inl more ↦ more
                | inr nothing ↦ (let zero_count : count ≡ 0 = omega arith in
                    let product = ap (λ c. width * c) zero_count in absurd (omega arith))
              ] in
              let again : count ≡ suc (count - 1) = omega arith in
              let product = ap (λ c. width * c) again in
              let whole : above ≡ width * suc (count - 1) = omega arith in
              steps_at level m (count - 1) whole ∙ ap suc (sym (steps_before level m (count - 1) whole)))
        ]
        | inr early ↦ absurd (moves (stays_elsewhere level m (λ later none. omega arith)))
      ]
