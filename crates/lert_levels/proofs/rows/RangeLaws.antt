-- How the positions of a level's bins change as the edges around it move.
use Rattle.lert_spec.specs.Counts.{plain, weighed}
use Rattle.std.proofs.Common.{ℕ, ◌≡◌, ◌≢◌, ◌+◌, ◌-◌, ◌*◌, ◌/◌, ◌%◌, ◌<◌, ◌≤◌, zero, suc, Bool, true, false, cond, ltb, List, [], ◌∷◌, ◌++◌, length, map, filter, min, max, drop, refl, ap, ap₂, sym}
use Rattle.std.proofs.{Common.{◌∙◌, arith, inl, inr, subst}, lemmas.Bool.{cases_lt, cases_eq, lt-ltb, le-ltb, eq-eqb, ne_eqb}, lemmas.List.{map-append, nil_from_length}}
use Rattle.std.proofs.lemmas.List.Elements.{All-nil, All-cons}
use Rattle.std.proofs.Math.Nat.{mul-div-le, div-add-mod, mod-lt, mul-suc, mul_comm, mul-le-mul_left, mul-le-mul_right, mul_assoc, suc-mul, le-div_iff_mul-le, div-eq_of_lt-le, add-zero, add-suc}
use Rattle.std.specs.List.{All, range_with_len}
use Rattle.lert_spec.specs.{declared.item.Item.Item, declared.numbers.Numbers.Numbers, Bins.{Bin, bins_of, bin_in}, Edges.{span, offset, edge, depth, deepest}}
use Rattle.lert_spec.proofs.BinLaws.{cuts, made, cuts-enough, cuts-drop, cuts-newest, cuts-front}
use Rattle.lert_spec.proofs.EdgeLaws.{span_pos, span-suc, steps, div_never_falls, deepest_reaches, steps-suc, moves_together, edge_descends, moves_by_one, deepest_within}
use Rattle.lert_levels.specs.rows.Ranges.{Range, range_at, ranges, filled}

-- a test between a list and its rest, under a map
map_cond : {A B : Type 0} (f : A → B) (test : Bool) (x : A) (xs : List A) → map f (cond test (x ∷ xs) xs) ≡ cond test (f x ∷ map f xs) (map f xs)
map_cond f true x xs = refl
map_cond f false x xs = refl

map_cond_one : {A B : Type 0} (f : A → B) (test : Bool) (x : A) → map f (cond test (x ∷ []) []) ≡ cond test (f x ∷ []) []
map_cond_one f true x = refl
map_cond_one f false x = refl

-- ---- bins and their ranges

pub filled_cuts : (s : Numbers) (events : List Item) (level low high : ℕ) (ks : List ℕ) →
    filter (λ bin. ltb bin.from bin.to) (map (bin_in weighed s events level low high) ks)
    ≡ map (filled s events) (filter (λ range. ltb range.from range.to) (map (range_at (span s level) low high) ks))
filled_cuts s events level low high [] = refl
filled_cuts s events level low high (k ∷ ks) =
    let range = range_at (span s level) low high k in
    ap (λ bs. cond (ltb range.from range.to) (filled s events range ∷ bs) bs) (filled_cuts s events level low high ks)
    ∙ sym (map_cond (filled s events) (ltb range.from range.to) range (filter (λ (r : Range). ltb r.from r.to) (map (range_at (span s level) low high) ks)))

-- a level's bins are its ranges with the counts of their positions
pub bins-ranges : (s : Numbers) (events : List Item) (level : ℕ) → bins_of weighed s events level ≡ map (filled s events) (ranges s (length events) level)
bins-ranges s events level =
    filled_cuts s events level (edge s level (length events)) (edge s (level - 1) (length events)) (range_with_len 0 (suc (length events / span s level)))

-- ---- intervals cut between two edges

-- from the first one on, without empty ones
abbrev pub range_cuts : ℕ → ℕ → ℕ → ℕ → ℕ → List Range
range_cuts wide low high first n = filter (λ range. ltb range.from range.to) (map (range_at wide low high) (range_with_len first n))

abbrev positions : Bin → Range
positions bin = record { from = bin.from; to = bin.to }

-- they are the positions of bins
cuts-positions : (s : Numbers) (wide low high first n : ℕ) → map positions (cuts plain s [] wide low high first n) ≡ range_cuts wide low high first n
cuts-positions s wide low high first zero = refl
cuts-positions s wide low high first (suc n) =
    let range = range_at wide low high first in
    map_cond positions (ltb range.from range.to) (made plain s [] range.from range.to) (cuts plain s [] wide low high (first + 1) n)
    ∙ ap (λ rs. cond (ltb range.from range.to) (range ∷ rs) rs) (cuts-positions s wide low high (first + 1) n)

enough : (s : Numbers) (wide low high n more : ℕ) → high ≤ n * wide → range_cuts wide low high 0 (n + more) ≡ range_cuts wide low high 0 n
enough s wide low high n more covers =
    sym (cuts-positions s wide low high 0 (n + more)) ∙ ap (map positions) (cuts-enough plain s [] wide low high n more covers) ∙ cuts-positions s wide low high 0 n

oldest_goes : (s : Numbers) (wide high j n : ℕ) → 1 ≤ wide → suc j * wide ≤ high → suc j ≤ n →
    range_cuts wide (j * wide) high 0 n ≡ record { from = j * wide; to = suc j * wide } ∷ range_cuts wide (suc j * wide) high 0 n
oldest_goes s wide high j n positive within covers =
    sym (cuts-positions s wide (j * wide) high 0 n)
    ∙ ap (map positions) (cuts-drop plain s [] wide high j n positive within covers)
    ∙ ap (λ rs. record { from = j * wide; to = suc j * wide } ∷ rs) (cuts-positions s wide (suc j * wide) high 0 n)

newest_last : (s : Numbers) (wide low high k n : ℕ) → k * wide ≤ high → high ≤ suc k * wide → suc k ≤ n →
    range_cuts wide low high 0 n ≡ range_cuts wide low high 0 k ++ cond {A = List Range} (ltb (max low (k * wide)) high) (record { from = max low (k * wide); to = high } ∷ []) []
newest_last s wide low high k n above below covers =
    let start = max low (k * wide) in
    sym (cuts-positions s wide low high 0 n)
    ∙ ap (map positions) (cuts-newest plain s [] wide low high k n above below covers)
    ∙ map-append positions (cuts plain s [] wide low high 0 k) (cond {A = List Bin} (ltb start high) (made plain s [] start high ∷ []) [])
    ∙ ap₂ (λ a b. a ++ b) (cuts-positions s wide low high 0 k) (map_cond_one positions (ltb start high) (made plain s [] start high))

front_stays : (s : Numbers) (wide low high high' k : ℕ) → k * wide ≤ high → high ≤ high' → range_cuts wide low high' 0 k ≡ range_cuts wide low high 0 k
front_stays s wide low high high' k above grows =
    sym (cuts-positions s wide low high' 0 k) ∙ ap (map positions) (cuts-front plain s [] wide low high high' k above grows) ∙ cuts-positions s wide low high 0 k

-- a range of a level whose bins have this width, up to its upper edge
pub record IsCut (wide high : ℕ) (range : Range) : Type 0 where
  pub some : range.from < range.to
  pub width : range.to - range.from ≤ wide
  pub end : range.to ≤ high

pub cuts_are : (wide low high first n : ℕ) → All (IsCut wide high) (range_cuts wide low high first n)
cuts_are wide low high first zero = All-nil (IsCut wide high)
cuts_are wide low high first (suc n) =
    let range = range_at wide low high first in
    let rest = range_cuts wide low high (first + 1) n in
    let step = suc-mul first wide in
    elim (cases_lt range.from range.to) [
      | inl some ↦ subst (λ t. All (IsCut wide high) (cond t (range ∷ rest) rest)) (sym (lt-ltb range.from range.to some))
          (All-cons (IsCut wide high) range rest (record { some = some; width = omega arith; end = omega arith }) (cuts_are wide low high (first + 1) n))
      | inr none ↦ subst (λ t. All (IsCut wide high) (cond t (range ∷ rest) rest)) (sym (le-ltb range.from range.to none)) (cuts_are wide low high (first + 1) n)
    ]

-- at most one for each interval that holds some
cuts_few : (wide low high a b first n : ℕ) → ((k : ℕ) → max low (k * wide) < min high (suc k * wide) → (a ≤ k) × (k < b)) →
    length (range_cuts wide low high first n) ≤ min b (first + n) - max a first
cuts_few wide low high a b first zero within = omega arith
cuts_few wide low high a b first (suc n) within =
    let range = range_at wide low high first in
    let rest = range_cuts wide low high (first + 1) n in
    let fewer = cuts_few wide low high a b (first + 1) n within in
    elim (cases_lt range.from range.to) [
      | inl some ↦ (
          let one_more = ap (λ t. length (cond t (range ∷ rest) rest)) (lt-ltb range.from range.to some) in
          let lies = within first some in
          omega (arith, lies.0, lies.1))
      | inr none ↦ (let same = ap (λ t. length (cond t (range ∷ rest) rest)) (le-ltb range.from range.to none) in omega arith)
    ]

pub edge_within : (s : Numbers) (level n : ℕ) → edge s level n ≤ n
edge_within s level n = omega (arith, mul-div-le (n - offset s level) (span s level))

-- none between edges that lie no further apart
pub cuts_none : (wide low high n : ℕ) → high ≤ low → range_cuts wide low high 0 n ≡ []
cuts_none wide low high n empty =
    nil_from_length (range_cuts wide low high 0 n) (omega (arith, cuts_few wide low high 0 0 0 n (λ k some. absurd (omega arith))))

-- the ranges between the edges of two levels
abbrev pub between : Numbers → ℕ → ℕ → ℕ → List Range
between s below level n = range_cuts (span s level) (edge s level n) (edge s below n) 0 (suc (n / span s level))

-- in the flush at m a bin comes to a level: it is joined with the newest one, where the edge stood inside of an interval, or
-- begins a new one; and the oldest one goes, where the flush is deeper
pub record Enters (s : Numbers) (m below level : ℕ) : Type 0 where
  pub front : List Range
  pub start : ℕ
  pub before : between s below level (m - 1) ≡ front ++ cond {A = List Range} (ltb start (edge s below (m - 1))) (record { from = start; to = edge s below (m - 1) } ∷ []) []
  pub after : drop (cond {A = ℕ} (ltb level (depth s m)) 1 0) (front ++ record { from = start; to = edge s below m } ∷ []) ≡ between s below level m
  pub aligned : edge s below (m - 1) % span s level ≡ 0 → start ≡ edge s below (m - 1)
  pub inside : edge s below (m - 1) % span s level ≢ 0 → start < edge s below (m - 1)
  pub begun : start ≤ edge s below (m - 1)
  pub further : edge s below (m - 1) < edge s below m
  pub fits : edge s below m - start ≤ span s level

module _ (s : Numbers) (base : 1 ≤ s.base) (ratio : 1 ≤ s.ratio) where
  wide : (level : ℕ) → 1 ≤ span s level
  wide level = span_pos s level base ratio

  -- where an edge stays, those of older levels stay
  stays_up : (below more m : ℕ) → edge s below m ≡ edge s below (m - 1) → edge s (below + more) m ≡ edge s (below + more) (m - 1)
  stays_up below zero m stays = rw (add-zero below) stays
  stays_up below (suc more) m stays = rw (add-suc below more) (moves_together s base ratio (below + more) m (m - 1) (stays_up below more m stays))

  -- the edges below a flush's depth move
  moves_under : (top below m : ℕ) → below < deepest s top m → edge s below m ≢ edge s below (m - 1)
  moves_under zero below m less = absurd (omega arith)
  moves_under (suc top) below m less =
      elim (cases_eq (edge s top m) (edge s top (m - 1))) [
        | inl stays ↦ moves_under top below m (subst (λ d. below < d) (ap (λ t. cond t (deepest s top m) (suc top)) (eq-eqb (edge s top m) (edge s top (m - 1)) stays)) less)
        | inr moves ↦ (λ still.
            let deep = subst (λ d. below < d) (ap (λ t. cond t (deepest s top m) (suc top)) (ne_eqb (edge s top m) (edge s top (m - 1)) moves)) less in
            let up = stays_up below (top - below) m still in
            let here : below + (top - below) ≡ top = omega arith in
            moves (rw here at up))
      ]

  pub depth_moves : (below m : ℕ) → below < depth s m → edge s below m ≢ edge s below (m - 1)
  depth_moves below m less = moves_under s.levels below m less

  -- and those from its depth on stay
  pub depth_stays : (level m : ℕ) → level < s.levels → depth s m ≤ level → edge s level m ≡ edge s level (m - 1)
  depth_stays level m within deep =
      elim (cases_eq (edge s level m) (edge s level (m - 1))) [
        | inl stays ↦ stays
        | inr moves ↦ absurd (omega (arith, deepest_reaches s base ratio s.levels level m within moves))
      ]

  -- a level that the flush doesn't reach keeps its bins
  still_between : (below m : ℕ) → below < s.levels → depth s m ≤ below → between s below (suc below) m ≡ between s below (suc below) (m - 1)
  still_between below m within deep =
      let level = suc below in
      let width = span s level in
      let stays = depth_stays below m within deep in
      let older = moves_together s base ratio below m (m - 1) stays in
      let low = edge s level (m - 1) in
      let high = edge s below (m - 1) in
      let few = suc ((m - 1) / width) in
      let grows = div_never_falls (m - 1) m width (wide level) (omega arith) in
      let more = suc (m / width) - few in
      let whole : suc (m / width) ≡ few + more = omega arith in
      let parts = div-add-mod (m - 1) width in
      let rest = mod-lt (m - 1) {m = width} (wide level) in
      let product = suc-mul ((m - 1) / width) width in
      let turned = mul_comm ((m - 1) / width) width in
      let covers : high ≤ few * width = omega (arith, edge_within s below (m - 1)) in
      ap₂ (λ l h. range_cuts width l h 0 (suc (m / width))) older stays
      ∙ ap (range_cuts width low high 0) whole
      ∙ enough s width low high few more covers

  pub ranges_still : (level m : ℕ) → 1 ≤ level → level ≤ s.levels → depth s m < level → ranges s m level ≡ ranges s (m - 1) level
  ranges_still level m from within deep =
      let up : suc (level - 1) ≡ level = omega arith in
      subst (λ i. between s (level - 1) i m ≡ between s (level - 1) i (m - 1)) up (still_between (level - 1) m (omega arith) (omega arith))

  -- whole steps of the younger level lie in one interval of the next older one
  next_within : (below c k : ℕ) → span s below * c < suc k * span s (suc below) → span s below * suc c ≤ suc k * span s (suc below)
  next_within below c k less =
      let width = span s below in
      let grouped : suc k * span s (suc below) ≡ width * (s.ratio * suc k) =
      mul_comm (suc k) (span s (suc below)) ∙ ap (λ w. w * suc k) (span-suc s below) ∙ mul_assoc width s.ratio (suc k) in
      elim (cases_lt c (s.ratio * suc k)) [
        | inl fewer ↦ omega (arith, grouped, mul-le-mul_left width fewer)
        | inr more ↦ absurd (omega (arith, grouped, mul-le-mul_left width more))
      ]

  -- the edge of the oldest level doesn't move
  pub oldest_edge : (n : ℕ) → n < offset s s.levels + span s s.levels → edge s s.levels n ≡ 0
  oldest_edge n fits =
      let none : (n - offset s s.levels) / span s s.levels ≡ 0 = div-eq_of_lt-le {k = 0} (span s s.levels) {m = n - offset s s.levels} (omega arith) (omega (arith, wide s.levels)) in
      ap (λ c. span s s.levels * c) none ∙ omega arith

  enters_between : (below m : ℕ) → 1 ≤ m → m < offset s s.levels + span s s.levels → below < depth s m → Enters s m below (suc below)
  enters_between below m first fits less =
      let level = suc below in
      let width = span s level in
      let positive = wide level in
      let c = steps s below (m - 1) in
      let high = edge s below (m - 1) in
      let high' = edge s below m in
      let low = edge s level (m - 1) in
      let j = steps s level (m - 1) in
      let k = high / width in
      let n = suc (m / width) in
      let start = max low (k * width) in
      let by_one = moves_by_one s base ratio below m (depth_moves below m less) in
      let moved : high' ≡ span s below * suc c = ap (λ steps. span s below * steps) by_one in
      let step = mul-suc (span s below) c in
      let younger = wide below in
      let parts = div-add-mod high width in
      let rest = mod-lt high {m = width} positive in
      let turned = mul_comm k width in
      let next = suc-mul k width in
      let above : k * width ≤ high = omega arith in
      let inside : high < suc k * width = omega arith in
      let within : high' ≤ suc k * width = omega (arith, next_within below c k inside) in
      let descends = edge_descends s base ratio below (m - 1) in
      let few : k ≤ m / width = (le-div_iff_mul-le {k = width} {x = k} {y = m} positive).1 (omega (arith, edge_within s below (m - 1))) in
      let low_is : low ≡ j * width = mul_comm width j in
      let start_is : start ≡ k * width = elim (cases_lt k j) [
        | inl older ↦ absurd (omega (arith, mul-le-mul_right width (let at_least : suc k ≤ j = omega arith in at_least)))
        | inr newer ↦ (let under = mul-le-mul_right width newer in omega arith)
      ] in
      let front = range_cuts width low high 0 k in
      let new : Range = record { from = start; to = high' } in
      let shorter = suc ((m - 1) / width) in
      let fewer = div_never_falls (m - 1) m width positive (omega arith) in
      let shorter_parts = div-add-mod (m - 1) width in
      let shorter_rest = mod-lt (m - 1) {m = width} positive in
      let shorter_next = suc-mul ((m - 1) / width) width in
      let shorter_turned = mul_comm ((m - 1) / width) width in
      let enough_before : high ≤ shorter * width = omega (arith, edge_within s below (m - 1)) in
      let longer : n ≡ shorter + (n - shorter) = omega arith in
      let same_before : range_cuts width low high 0 n ≡ range_cuts width low high 0 shorter =
      ap (range_cuts width low high 0) longer ∙ enough s width low high shorter (n - shorter) enough_before in
      let grown : range_cuts width low high' 0 n ≡ front ++ new ∷ [] =
      newest_last s width low high' k n (omega arith) within (omega arith)
      ∙ ap₂ (λ f t. f ++ cond {A = List Range} t (new ∷ []) []) (front_stays s width low high high' k above (omega arith)) (lt-ltb start high' (omega arith)) in
      record {
        front = front;
        start = start;
        before = sym same_before ∙ newest_last s width low high k n above (omega arith) (omega arith);
        aligned = λ none. omega arith;
        inside = λ some. omega arith;
        begun = omega arith;
        further = omega arith;
        fits = omega arith;
        after = elim (cases_lt level (depth s m)) [
          | inl deeper ↦ (
              let older_by_one = moves_by_one s base ratio level m (depth_moves level m deeper) in
              let next_low : edge s level m ≡ suc j * width = ap (λ steps. width * steps) older_by_one ∙ mul_comm width (suc j) in
              let still_above = edge_descends s base ratio below m in
              let reached : suc j ≤ m / width = (le-div_iff_mul-le {k = width} {x = suc j} {y = m} positive).1 (omega (arith, edge_within s level m)) in
              ap₂ (λ t rs. drop (cond {A = ℕ} t 1 0) rs) (lt-ltb level (depth s m) deeper)
              (sym grown ∙ ap (λ l. range_cuts width l high' 0 n) low_is ∙ oldest_goes s width high' j n positive (omega arith) (omega arith))
              ∙ ap (λ l. range_cuts width l high' 0 n) (sym next_low))
          | inr deepest ↦ (
              let stays : edge s level m ≡ low = elim (cases_lt level s.levels) [
                | inl inner ↦ depth_stays level m inner deepest
                | inr last ↦ (
                    let top : level ≡ s.levels = omega (arith, deepest_within s base ratio s.levels m) in
                    ap (λ i. edge s i m) top ∙ oldest_edge m fits ∙ sym (oldest_edge (m - 1) (omega arith)) ∙ ap (λ i. edge s i (m - 1)) (sym top))
              ] in
              ap (λ t. drop (cond {A = ℕ} t 1 0) (front ++ new ∷ [])) (le-ltb level (depth s m) deepest)
              ∙ sym grown ∙ ap (λ l. range_cuts width l high' 0 n) (sym stays))
        ];
      }

  pub enters : (level m : ℕ) → 1 ≤ level → 1 ≤ m → m < offset s s.levels + span s s.levels → level ≤ depth s m → Enters s m (level - 1) level
  enters level m from first fits deep =
      let up : suc (level - 1) ≡ level = omega arith in
      subst (Enters s m (level - 1)) up (enters_between (level - 1) m first fits (omega arith))

  -- the oldest bin goes whole: its end was an edge of the level before
  goes_within : (below m : ℕ) → 2 ≤ s.bins → suc below < depth s m → edge s (suc below) m ≤ edge s below (m - 1)
  goes_within below m some less =
      let level = suc below in
      let width = span s level in
      let c = steps s below (m - 1) in
      let here = moves_by_one s base ratio level m (depth_moves level m less) in
      let younger = moves_by_one s base ratio below m (depth_moves below m (omega arith)) in
      let follows = steps-suc s below m (wide level) in
      let parts = div-add-mod (steps s below m) s.ratio in
      let more = mul-le-mul_right s.ratio (let fewer : suc (steps s level m) ≤ steps s below m / s.ratio = omega arith in fewer) in
      let turned = mul_comm s.ratio (steps s below m / s.ratio) in
      let next = suc-mul (steps s level m) s.ratio in
      let whole : steps s level m * s.ratio ≤ c = omega arith in
      let grouped : width * steps s level m ≡ span s below * (steps s level m * s.ratio) =
      ap (λ w. w * steps s level m) (span-suc s below) ∙ mul_assoc (span s below) s.ratio (steps s level m) ∙ ap (λ x. span s below * x) (mul_comm s.ratio (steps s level m)) in
      omega (arith, mul-le-mul_left (span s below) whole)

  -- the bins of a level whose oldest one goes
  oldest_between : (below m : ℕ) → 1 ≤ m → 2 ≤ s.bins → suc below < depth s m →
      (rest : List Range) × (between s below (suc below) (m - 1) ≡ record { from = edge s (suc below) (m - 1); to = edge s (suc below) m } ∷ rest)
  oldest_between below m first some less =
      let level = suc below in
      let width = span s level in
      let j = steps s level (m - 1) in
      let high = edge s below (m - 1) in
      let n = suc ((m - 1) / width) in
      let by_one = moves_by_one s base ratio level m (depth_moves level m less) in
      let low_is : edge s level (m - 1) ≡ j * width = mul_comm width j in
      let next_is : edge s level m ≡ suc j * width = ap (λ steps. width * steps) by_one ∙ mul_comm width (suc j) in
      let within = goes_within below m some less in
      let reached : suc j ≤ (m - 1) / width = (le-div_iff_mul-le {k = width} {x = suc j} {y = m - 1} (wide level)).1 (omega (arith, edge_within s below (m - 1))) in (
        range_cuts width (suc j * width) high 0 n,
        ap (λ l. range_cuts width l high 0 n) low_is
            ∙ oldest_goes s width high j n (wide level) (omega arith) (omega arith)
            ∙ ap₂ (λ a b. record { from = a; to = b } ∷ range_cuts width (suc j * width) high 0 n) (sym low_is) (sym next_is),
      )

  pub oldest_is : (level m : ℕ) → 1 ≤ level → 1 ≤ m → 2 ≤ s.bins → level < depth s m →
      (rest : List Range) × (ranges s (m - 1) level ≡ record { from = edge s level (m - 1); to = edge s level m } ∷ rest)
  oldest_is level m from first some less =
      let up : suc (level - 1) ≡ level = omega arith in
      let deep = subst (λ i. i < depth s m) (sym up) less in
      subst (λ i. (rest : List Range) × (between s (level - 1) i (m - 1) ≡ record { from = edge s i (m - 1); to = edge s i m } ∷ rest)) up (oldest_between (level - 1) m first some deep)

  -- the bins of level 0 above its edge before a flush: the oldest one is whole
  pub oldest_young : (m : ℕ) → 1 ≤ m → 1 ≤ depth s m →
      (rest : List Range) × (range_cuts (span s 0) (edge s 0 (m - 1)) m 0 (suc (m / span s 0)) ≡ record { from = edge s 0 (m - 1); to = edge s 0 m } ∷ rest)
  oldest_young m first less =
      let width = span s 0 in
      let j = steps s 0 (m - 1) in
      let n = suc (m / width) in
      let by_one = moves_by_one s base ratio 0 m (depth_moves 0 m (omega arith)) in
      let low_is : edge s 0 (m - 1) ≡ j * width = mul_comm width j in
      let next_is : edge s 0 m ≡ suc j * width = ap (λ steps. width * steps) by_one ∙ mul_comm width (suc j) in
      let reached : suc j ≤ m / width = (le-div_iff_mul-le {k = width} {x = suc j} {y = m} (wide 0)).1 (omega (arith, edge_within s 0 m)) in (
        range_cuts width (suc j * width) m 0 n,
        ap (λ l. range_cuts width l m 0 n) low_is
            ∙ oldest_goes s width m j n (wide 0) (omega (arith, edge_within s 0 m)) (omega arith)
            ∙ ap₂ (λ a b. record { from = a; to = b } ∷ range_cuts width (suc j * width) m 0 n) (sym low_is) (sym next_is),
      )

  -- a level has no more bins than the settings say
  few_between : (below n : ℕ) → 1 ≤ s.bins → length (between s below (suc below) n) ≤ s.bins
  few_between below n some =
      let level = suc below in
      let width = span s level in
      let c = steps s below n in
      let j = steps s level n in
      let k = c / s.ratio in
      let follows = steps-suc s below n (wide level) in
      let parts = div-add-mod c s.ratio in
      let rest = mod-lt c {m = s.ratio} ratio in
      let turned = mul_comm s.ratio k in
      let step = suc-mul k s.ratio in
      let again = mul_comm (suc k) s.ratio in
      let younger : c ≤ s.ratio * suc k = omega arith in
      let reaches = mul-le-mul_left (span s below) younger in
      let grouped : suc k * width ≡ span s below * (s.ratio * suc k) =
      mul_comm (suc k) width ∙ ap (λ w. w * suc k) (span-suc s below) ∙ mul_assoc (span s below) s.ratio (suc k) in
      let low_is = mul_comm width j in
      let few = cuts_few width (edge s level n) (edge s below n) j (suc k) 0 (suc (n / width))
      (λ i holds. (
        elim (cases_lt i j) [
          | inl before ↦ absurd (omega (arith, mul-le-mul_right width before))
          | inr from ↦ from
        ],
        elim (cases_lt i (suc k)) [
          | inl before ↦ before
          | inr behind ↦ absurd (omega (arith, mul-le-mul_right width behind))
        ],
      )) in
      omega arith

  pub ranges_few : (level n : ℕ) → 1 ≤ s.bins → 1 ≤ level → length (ranges s n level) ≤ s.bins
  ranges_few level n some from =
      let up : suc (level - 1) ≡ level = omega arith in
      subst (λ i. length (between s (level - 1) i n) ≤ s.bins) up (few_between (level - 1) n some)
