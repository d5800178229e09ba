-- Which streams make up the new bins of a flush.
use Rattle.std.proofs.Common.{ℕ, ◌≡◌, ◌≢◌, ◌+◌, ◌*◌, ◌-◌, ◌<◌, ◌≤◌, zero, suc, Bool, true, false, cond, List, [], ◌∷◌, ◌++◌, length, take, get_or, set, replicate, Option, Some, None, refl, ap, sym}
use Rattle.std.proofs.{Common.{◌∙◌, arith, inl, inr, ◌⊎◌, subst, sum_by, flat_map, length-append, add-one}, Math.Nat.{suc-mul, mul-le-mul_right}, lemmas.Bool.{cases_lt, cases_eq}}
use Rattle.std.proofs.lemmas.List.{take_more, get_or-append-add, get_or_append_left, get_or-set_same, get_or-set_other, length-set, length-replicate, append_assoc, replicate-append-replicate}
use Rattle.std.proofs.{lemmas.List.Sums.{sum_by-append, sum_by-cons}, lemmas.Option.none-some}
use Rattle.std.specs.Prelude.{IfSome}
use Rattle.lert_spec.specs.declared.numbers.Numbers.{Numbers}
use Rattle.lert_levels.specs.{declared.rows.bin_at.BinAt.BinAt, rows.Rows.begins, Parts.{streams_to, oldest_stream, part_at, IsOfPart, set_two, HaveParts, ArePartsOf}}

-- a level more
pub streams_more : (young : ℕ) (rows : List (List BinAt)) (i : ℕ) → i < length rows → streams_to young rows (i + 1) ≡ streams_to young rows i + length (get_or rows i [])
streams_more young rows i below =
    let len : List BinAt → ℕ = λ row. length row in
    let more = ap (sum_by len) (take_more rows i [] below) ∙ sum_by-append len (take i rows) (get_or rows i [] ∷ []) in
    let one = sum_by-cons len (get_or rows i []) [] in
    omega arith

-- at most one for each bin of each level so far, and these are some of all
pub streams_few_more : (young : ℕ) (rows : List (List BinAt)) (i bins levels : ℕ) → i < length rows → length (get_or rows i []) ≤ bins → i < levels →
    streams_to young rows i ≤ (i + 1) * bins → (streams_to young rows (i + 1) ≤ (i + 1 + 1) * bins) × ((i + 1 + 1) * bins ≤ (levels + 1) * bins)
streams_few_more young rows i bins levels below few_bins few so_far =
    let next : (i + 1 + 1) * bins ≡ (i + 1) * bins + bins = ap (λ n. n * bins) (add-one (i + 1)) ∙ suc-mul (i + 1) bins in
    (omega (arith, streams_more young rows i below), mul-le-mul_right bins (let less : i + 1 + 1 ≤ levels + 1 = omega arith in less))

-- what holds of a stream, where there is one
pub some_streams : (newest other : Option ℕ) (P : ℕ → Type 0) → newest ≡ other → ((stream : ℕ) → other ≡ Some stream → P stream) → IfSome newest P
some_streams None other P is each = tt
some_streams (Some stream) other P is each = each stream (sym is)

-- ---- what the streams are

-- the i-th of a level's among those of all rows
flat_at : {X : Type 0} (f : List BinAt → List X) → ((row : List BinAt) → length (f row) ≡ length row) → (rows : List (List BinAt)) (k i : ℕ) (e : X) → k < length rows →
    i < length (get_or rows k []) →
    get_or (flat_map f rows) (sum_by (λ (row : List BinAt). length row) (take k rows) + i) e ≡ get_or (f (get_or rows k [])) i e
flat_at f same [] k i e below within = absurd (omega arith)
flat_at f same (row ∷ rows) zero i e below within =
    let start : 0 + i ≡ i = omega arith in
    ap (λ n. get_or (f row ++ flat_map f rows) n e) start ∙ get_or_append_left (f row) (flat_map f rows) e i (omega (arith, same row))
flat_at f same (row ∷ rows) (suc k) i e below within =
    let len : List BinAt → ℕ = λ r. length r in
    let first = sum_by-cons len row (take k rows) in
    let place : sum_by len (row ∷ take k rows) + i ≡ length (f row) + (sum_by len (take k rows) + i) = omega (arith, same row) in
    ap (λ n. get_or (f row ++ flat_map f rows) n e) place
    ∙ get_or-append-add (f row) (flat_map f rows) (sum_by len (take k rows) + i) e
    ∙ flat_at f same rows k i e (omega arith) within

-- behind those of level 0
pub stream_at : {X : Type 0} (f : List BinAt → List X) → ((row : List BinAt) → length (f row) ≡ length row) →
    (first : List X) (rows : List (List BinAt)) (young k i stream : ℕ) (e : X) → length first ≡ young → k < length rows → i < length (get_or rows k []) →
    stream ≡ streams_to young rows k + i → get_or (first ++ flat_map f rows) stream e ≡ get_or (f (get_or rows k [])) i e
stream_at f same first rows young k i stream e len below within is =
    let place : stream ≡ length first + (sum_by (λ (row : List BinAt). length row) (take k rows) + i) = omega arith in
    ap (λ n. get_or (first ++ flat_map f rows) n e) place
    ∙ get_or-append-add first (flat_map f rows) (sum_by (λ (row : List BinAt). length row) (take k rows) + i) e
    ∙ flat_at f same rows k i e below within

-- ---- no stream is of two parts

sums_grow : (rows : List (List BinAt)) (i j : ℕ) → i ≤ j → sum_by (λ (row : List BinAt). length row) (take i rows) ≤ sum_by (λ (row : List BinAt). length row) (take j rows)
sums_grow rows zero j less = omega arith
sums_grow [] (suc i) j less = omega arith
sums_grow (row ∷ rows) (suc i) zero less = absurd (omega arith)
sums_grow (row ∷ rows) (suc i) (suc j) less =
    let len : List BinAt → ℕ = λ r. length r in
    omega (arith, sum_by-cons len row (take i rows), sum_by-cons len row (take j rows), sums_grow rows i j (omega arith))

pub streams_grow : (young : ℕ) (rows : List (List BinAt)) (i j : ℕ) → i ≤ j → streams_to young rows i ≤ streams_to young rows j
streams_grow young rows i j less = let grow = sums_grow rows i j less in omega arith

-- a newest stream that is one
pub newest_is : (test : Bool) (streams stream : ℕ) → cond test None (Some (streams - 1)) ≡ Some stream → (test ≡ false) × (stream ≡ streams - 1)
newest_is true streams stream is = absurd (none-some stream is)
newest_is false streams stream is = (refl, (let same : stream ≡ streams - 1 = cc in same))

module _ (s : Numbers) (m young : ℕ) (rows : List (List BinAt)) (some : 1 ≤ young) (have : HaveParts s m rows) where
  -- where a part's streams lie: the oldest below the level, the newest the last one up to it
  pub oldest_below : (k : ℕ) → k < length rows → oldest_stream young rows k < streams_to young rows k
  oldest_below zero below = omega arith
  oldest_below (suc k) below =
      let more = streams_more young rows k (omega arith) in
      let bin = have.goes_on k (omega arith) in
      let next : k + 1 ≡ suc k = omega arith in
      let turned = ap (streams_to young rows) next in
      omega arith

  pub newest_above : (k stream : ℕ) → k < length rows → (part_at s m young rows k).newest ≡ Some stream →
      (streams_to young rows k ≤ stream) × (suc stream ≡ streams_to young rows (k + 1)) × (begins s m (k + 1) ≡ false)
  newest_above k stream below is =
      let both = newest_is (begins s m (k + 1)) (streams_to young rows (k + 1)) stream is in
      let more = streams_more young rows k below in
      let bin = have.joined k below both.0 in
      let place = both.1 in
      (omega arith, omega arith, both.0)

  oldest_from : (j k : ℕ) → j < k → streams_to young rows j ≤ oldest_stream young rows k
  oldest_from j zero less = absurd (omega arith)
  oldest_from j (suc k) less = streams_grow young rows j k (omega arith)

  -- a stream of a part is none of a later one's
  pub parts_apart : (j k stream : ℕ) → j < k → k < length rows → IsOfPart stream (part_at s m young rows j) → IsOfPart stream (part_at s m young rows k) → ⊥
  parts_apart j k stream less below one two =
      let first_low = oldest_below j (omega (arith, less, below)) in
      let second_from = oldest_from j k less in
      let grown = streams_grow young rows j k (omega arith) in
      elim one [
        | inl oldest ↦ elim two [
          | inl other ↦ absurd (omega (arith, oldest, other, first_low, second_from))
          | inr other ↦ (let above = newest_above k stream below other in absurd (omega (arith, oldest, first_low, grown, above.0)))
        ]
        | inr newest ↦ (
            let here = newest_above j stream (omega (arith, less, below)) newest in
            elim two [
              | inl other ↦ elim (cases_lt (j + 1) k) [
                | inl later ↦ (let far = oldest_from (j + 1) k later in absurd (omega (arith, here.1, far, other)))
                | inr next ↦ (
                    let same : suc j ≡ k = omega arith in
                    let bins = have.two j (omega arith) here.2 in
                    let more = streams_more young rows j (omega arith) in
                    let turned : oldest_stream young rows k ≡ streams_to young rows j = sym (ap (oldest_stream young rows) same) in
                    absurd (omega (arith, here.1, other, turned, more, bins)))
              ]
              | inr other ↦ (
                  let above = newest_above k stream below other in
                  let far = streams_grow young rows (j + 1) k (omega arith) in
                  absurd (omega (arith, here.1, above.0, far)))
            ])
      ]

-- ---- part by part

none_in : (count stream : ℕ) → get_or (replicate {A = Option ℕ} count None) stream None ≡ None
none_in zero stream = refl
none_in (suc count) zero = refl
none_in (suc count) (suc stream) = none_in count stream

-- streams that are of no part
padded : (parts : List (Option ℕ)) (count stream : ℕ) → get_or (parts ++ replicate count None) stream None ≡ get_or parts stream None
padded [] count stream = none_in count stream
padded (part ∷ parts) count zero = refl
padded (part ∷ parts) count (suc stream) = padded parts count stream

two_length : (parts : List (Option ℕ)) (oldest : ℕ) (newest : Option ℕ) (part : ℕ) → length (set_two parts oldest newest part) ≡ length parts
two_length parts oldest None part = length-set parts oldest (Some part)
two_length parts oldest (Some other) part = length-set (set parts oldest (Some part)) other (Some part) ∙ length-set parts oldest (Some part)

two_here : (parts : List (Option ℕ)) (oldest : ℕ) (newest : Option ℕ) (part stream : ℕ) → stream < length parts → (stream ≡ oldest) ⊎ (newest ≡ Some stream) →
    get_or (set_two parts oldest newest part) stream None ≡ Some part
two_here parts oldest None part stream below (inl same) =
    ap (λ n. get_or (set parts oldest (Some part)) n None) same ∙ get_or-set_same parts oldest (Some part) None (subst (λ n. n < length parts) same below)
two_here parts oldest None part stream below (inr is) = absurd (none-some stream is)
two_here parts oldest (Some other) part stream below of = elim (cases_eq stream other) [
  | inl same ↦
      ap (λ n. get_or (set (set parts oldest (Some part)) other (Some part)) n None) same
      ∙ get_or-set_same (set parts oldest (Some part)) other (Some part) None (omega (arith, length-set parts oldest (Some part), below, same))
  | inr differs ↦
      get_or-set_other (set parts oldest (Some part)) other stream (Some part) None differs
      ∙ elim of [
        | inl same ↦
            ap (λ n. get_or (set parts oldest (Some part)) n None) same ∙ get_or-set_same parts oldest (Some part) None (subst (λ n. n < length parts) same below)
        | inr is ↦ absurd (differs (let same : stream ≡ other = cc in same))
      ]
]

two_there : (parts : List (Option ℕ)) (oldest : ℕ) (newest : Option ℕ) (part stream : ℕ) → stream ≢ oldest → (newest ≡ Some stream → ⊥) →
    get_or (set_two parts oldest newest part) stream None ≡ get_or parts stream None
two_there parts oldest None part stream not_oldest not_newest = get_or-set_other parts oldest stream (Some part) None not_oldest
two_there parts oldest (Some other) part stream not_oldest not_newest =
    get_or-set_other (set parts oldest (Some part)) other stream (Some part) None (λ same. not_newest (ap Some (sym same)))
    ∙ get_or-set_other parts oldest stream (Some part) None not_oldest

-- a stream is one of two, or none of them
is_of : (oldest : ℕ) (newest : Option ℕ) (stream : ℕ) → ((stream ≡ oldest) ⊎ (newest ≡ Some stream)) ⊎ ((stream ≢ oldest) × (newest ≡ Some stream → ⊥))
is_of oldest None stream = elim (cases_eq stream oldest) [
  | inl same ↦ inl (inl same)
  | inr differs ↦ inr (differs, (λ is. none-some stream is))
]
is_of oldest (Some other) stream = elim (cases_eq stream oldest) [
  | inl same ↦ inl (inl same)
  | inr differs ↦ elim (cases_eq other stream) [
    | inl here ↦ inl (inr (ap Some here))
    | inr elsewhere ↦ inr (differs, (λ is. elsewhere (let same : other ≡ stream = cc in same)))
  ]
]

-- the streams of a level more, whose part is to be set
pub record IsAdded (s : Numbers) (m young : ℕ) (rows : List (List BinAt)) (i : ℕ) (added : List (Option ℕ)) : Type 0 where
  pub len : length added ≡ streams_to young rows (i + 1)
  pub oldest : oldest_stream young rows i < length added
  pub newest : (stream : ℕ) → (part_at s m young rows i).newest ≡ Some stream → stream < length added
  pub more : (after : List (Option ℕ)) → after ≡ set_two added (oldest_stream young rows i) (part_at s m young rows i).newest i →
      ArePartsOf s m young rows (streams_to young rows (i + 1)) (i + 1) after

module _ (s : Numbers) (m young : ℕ) (rows : List (List BinAt)) (some : 1 ≤ young) (have : HaveParts s m rows) where
  pub parts_none : (parts : List (Option ℕ)) → parts ≡ [] ++ replicate young None → ArePartsOf s m young rows (streams_to young rows 0) 0 parts
  parts_none parts is = record {
    len = ap (length {A = Option ℕ}) is ∙ length-replicate {A = Option ℕ} young None ∙ omega arith;
    each = λ k stream below of. absurd (omega (arith, below));
    no_other = λ stream k there. absurd (none-some k (sym (none_in young stream) ∙ sym (ap (λ ps. get_or ps stream None) is) ∙ there));
  }

  -- the streams of the part of the next level are among those so far
  module _ (i : ℕ) (below : i < length rows) (count : ℕ) (count_is : count ≡ length (get_or rows i [])) (parts added : List (Option ℕ))
      (are : ArePartsOf s m young rows (streams_to young rows i) i parts) (added_is : added ≡ parts ++ replicate count None) where
    added_length : length added ≡ streams_to young rows (i + 1)
    added_length =
        omega (
          arith,
          ap (length {A = Option ℕ}) added_is ∙ length-append parts (replicate count None),
          length-replicate {A = Option ℕ} count None,
          count_is,
          are.len,
          streams_more young rows i below,
        )

    oldest_added : oldest_stream young rows i < length added
    oldest_added = omega (arith, added_length, streams_more young rows i below, oldest_below s m young rows some have i below)

    newest_added : (stream : ℕ) → (part_at s m young rows i).newest ≡ Some stream → stream < length added
    newest_added stream is = omega (arith, added_length, (newest_above s m young rows some have i stream below is).1)

    kept_at : (stream : ℕ) → get_or added stream None ≡ get_or parts stream None
    kept_at stream = ap (λ ps. get_or ps stream None) added_is ∙ padded parts count stream

    -- and once its part is set, one part more
    parts_more : (after : List (Option ℕ)) → after ≡ set_two added (oldest_stream young rows i) (part_at s m young rows i).newest i →
        ArePartsOf s m young rows (streams_to young rows (i + 1)) (i + 1) after
    parts_more after after_is =
        let oldest = oldest_stream young rows i in
        let newest = (part_at s m young rows i).newest in
        record {
          len = ap (length {A = Option ℕ}) after_is ∙ two_length added oldest newest i ∙ added_length;
          each = λ k stream low of. ap (λ ps. get_or ps stream None) after_is ∙ each_at k stream (omega (arith, low)) of;
          no_other = λ stream k there. other_at stream k (sym (ap (λ ps. get_or ps stream None) after_is) ∙ there);
        }
      where
        within : (stream : ℕ) → IsOfPart stream (part_at s m young rows i) → stream < length added
        within stream of = elim of [
          | inl same ↦ omega (arith, same, oldest_added)
          | inr is ↦ newest_added stream is
        ]

        here : (stream : ℕ) → IsOfPart stream (part_at s m young rows i) →
            get_or (set_two added (oldest_stream young rows i) (part_at s m young rows i).newest i) stream None ≡ Some i
        here stream of = two_here added (oldest_stream young rows i) (part_at s m young rows i).newest i stream (within stream of) of

        each_at : (k stream : ℕ) → k ≤ i → IsOfPart stream (part_at s m young rows k) →
            get_or (set_two added (oldest_stream young rows i) (part_at s m young rows i).newest i) stream None ≡ Some k
        each_at k stream low of = elim (cases_eq k i) [
          | inl same ↦ (
              let of_i : IsOfPart stream (part_at s m young rows i) = subst (λ n. IsOfPart stream (part_at s m young rows n)) same of in
              here stream of_i ∙ ap Some (sym same))
          | inr differs ↦ (
              let earlier : k < i = omega arith in
              let apart = parts_apart s m young rows some have k i stream earlier below of in
              two_there added (oldest_stream young rows i) (part_at s m young rows i).newest i stream (λ same. apart (inl same)) (λ is. apart (inr is))
              ∙ kept_at stream
              ∙ are.each k stream earlier of)
        ]

        other_at : (stream k : ℕ) → get_or (set_two added (oldest_stream young rows i) (part_at s m young rows i).newest i) stream None ≡ Some k →
            (k < i + 1) × IsOfPart stream (part_at s m young rows k)
        other_at stream k there = elim (is_of (oldest_stream young rows i) (part_at s m young rows i).newest stream) [
          | inl of ↦ (
              let both : Some i ≡ Some k = sym (here stream of) ∙ there in
              let same : i ≡ k = cc in
              (omega (arith, same), subst (λ n. IsOfPart stream (part_at s m young rows n)) same of))
          | inr elsewhere ↦ (
              let old = are.no_other stream k (sym (kept_at stream)
              ∙ sym (two_there added (oldest_stream young rows i) (part_at s m young rows i).newest i stream elsewhere.0 elsewhere.1) ∙ there) in
              (omega (arith, old.0), old.1))
        ]

    pub level_added : IsAdded s m young rows i added
    level_added = record { len = added_length; oldest = oldest_added; newest = newest_added; more = parts_more }

-- one more stream that goes to no new bin
pub one_added : (old parts new : List (Option ℕ)) (k : ℕ) → parts ≡ old ++ replicate k None → new ≡ parts ++ None ∷ [] → new ≡ old ++ replicate (k + 1) None
one_added old parts new k is put =
    put ∙ ap (λ ps. ps ++ None ∷ []) is ∙ append_assoc old (replicate k None) (None ∷ []) ∙ ap (λ ps. old ++ ps) (replicate-append-replicate k 1 None)
