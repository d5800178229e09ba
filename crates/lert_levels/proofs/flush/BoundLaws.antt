-- What the widths of the streams bound: the sums so far, and how many pieces still come.
use Rattle.std.proofs.{Common.{ℕ, zero, suc, ◌≡◌, ◌≢◌, ◌+◌, ◌*◌, ◌-◌, ◌<◌, ◌≤◌, cond, sum_by, true, Option, None, List, [], ◌∷◌, ◌++◌, length, get_or, sum, ap, sym, ◌∙◌, subst, arith, inl, inr}}
use Rattle.std.proofs.{lemmas.Bool.cases_eq}
use Rattle.lert_frames.specs.Place.{tail_limit}
use Rattle.lert_levels.specs.landing.CostLaws.{costs-append, costs-sums_of}
use Rattle.lert_levels.{specs.landing.Landed.{taken, CanTake, IsLandingOf}, specs.landing.Summed.sums_of, specs.landing.Whole.AreUpTo, specs.declared.landing.landing.Landing.Landing}
use Rattle.lert_levels.{specs.declared.landing.sum.Sum.Sum, specs.flush.Merged.{is_of, picked, AreWide}, proofs.flush.PickLaws.{each-picked, counts_fit, picked_less, sum_by-picked-set}}
use Rattle.lert_levels.proofs.flush.SumsLaws.{total-sums_of, up_to-sums_of}
use Rattle.lert_levels.proofs.flush.GatheringLaws.{IsGathering, HasGiven, more, within, len_more, here_more, elsewhere_more, taken_more, sums_are, next_some, next_below}
use Rattle.lert_merge.{specs.order.Fronts.front_at, specs.order.Ordering.{Ordering, HasTaken}, specs.declared.order.streams.Streams.{Ghosts as StreamsOf}}
use Rattle.lert_spec.{specs.declared.numbers.Numbers.Numbers, specs.declared.piece.Piece.Piece, specs.Edges.span}
use Rattle.lert_spec.{specs.Table.{cost, costs, total, plus}, proofs.CostLaws.{cost_some, costs_from}}
use Rattle.lert_spec.{proofs.Tables.total-plus}

-- ---- sums over the first streams

abbrev pub over : (ℕ → ℕ) → ℕ → ℕ
over f zero = 0
over f (suc n) = over f n + f n

over_le : (f h : ℕ → ℕ) (n : ℕ) → ((k : ℕ) → k < n → f k ≤ h k) → over f n ≤ over h n
over_le f h zero less = omega arith
over_le f h (suc n) less = omega (arith, over_le f h n (λ k below. less k (omega (arith, below))), less n (omega arith))

over_less : (f h : ℕ → ℕ) (n at : ℕ) → at < n → ((k : ℕ) → k < n → k ≢ at → f k ≤ h k) → f at < h at → over f n < over h n
over_less f h zero at below less here = absurd (omega (arith, below))
over_less f h (suc n) at below less here = elim (cases_eq at n) [
  | inl same ↦ (
      let last : f n < h n = subst (λ k. f k < h k) same here in
      omega (arith, last, over_le f h n (λ k under. less k (omega (arith, under)) (λ is. omega (arith, under, is, same)))))
  | inr other ↦ omega (
    arith,
    less n (omega arith) (λ is. other (sym is)),
    over_less f h n at (omega (arith, below, other)) (λ k under ne. less k (omega (arith, under)) ne) here,
  )
]

-- how much may still come of a stream
abbrev pub left_at : {S C : Type 0} → StreamsOf S C → (S → ℕ → ℕ) → (S → ℕ → ℕ) → Ordering S → ℕ → ℕ
left_at members version width order k =
    width order.streams k - (costs (version order.streams k) (members.given order.streams k) - costs (version order.streams k) (front_at order.ahead k))

-- and of all
abbrev pub left_over : {S C : Type 0} → StreamsOf S C → (S → ℕ → ℕ) → (S → ℕ → ℕ) → Ordering S → ℕ
left_over members version width order = over (left_at members version width order) (members.count order.streams)

module _ {S C : Type 0} (members : StreamsOf S C) (version width : S → ℕ → ℕ)
    (summed : (streams : S) (k : ℕ) → k < members.count streams → costs (version streams k) (members.given streams k) ≤ width streams k)
    (version_same : (old new : S) → members.same old new → (k : ℕ) → version new k ≡ version old k)
    (width_same : (old new : S) → members.same old new → (k : ℕ) → width new k ≡ width old k) where
  -- what came of a stream is within its width
  pub came_fits : (first order : Ordering S) (k : ℕ) (pieces : List Piece) → members.same first.streams order.streams → k < members.count order.streams → HasTaken members order k pieces →
      costs (version first.streams k) pieces ≤ width first.streams k
  came_fits first order k pieces kept below taken = omega (
    arith,
    summed order.streams k below,
    ap (costs (version order.streams k)) taken,
    costs-append (version order.streams k) pieces (front_at order.ahead k),
    ap (λ v. costs v pieces) (version_same first.streams order.streams kept k),
    width_same first.streams order.streams kept k,
  )

  came_is : (order : Ordering S) (k : ℕ) (pieces : List Piece) → HasTaken members order k pieces →
      costs (version order.streams k) (members.given order.streams k) - costs (version order.streams k) (front_at order.ahead k) ≡ costs (version order.streams k) pieces
  came_is order k pieces taken =
      omega (arith, ap (costs (version order.streams k)) taken, costs-append (version order.streams k) pieces (front_at order.ahead k))

  module _ {T : Type 0} {took : T → List Piece → Type 0} {first : Ordering S} {start : C} {lists : List (List Piece)} {now : Ordering S} {ctx : C} {totals : T} {sums : Sum}
      (was : IsGathering members took first start lists now ctx totals sums) {new : Ordering S} {after : C} {next : ℕ × Piece} (step : HasGiven members now ctx new after next)
      (same_on : (a b c : S) → members.same a b → members.same b c → members.same a c) where
    abbrev n : ℕ
    n = members.count first.streams

    abbrev then : List (List Piece)
    then = more was step

    count_is : members.count new.streams ≡ n
    count_is = step.same.streams ∙ was.same.streams

    kept_then : members.same first.streams new.streams
    kept_then = same_on first.streams now.streams new.streams was.kept step.kept

    within_then : next.0 < n
    within_then = within was step

    len_then : length then ≡ n
    len_then = len_more was step

    taken_then : (k : ℕ) → k < n → HasTaken members new k (get_or then k [])
    taken_then = taken_more was step

    some : 1 ≤ next.1.count
    some = next_some was step

    pub fits_then : (k : ℕ) → k < n → costs (version first.streams k) (get_or then k []) ≤ width first.streams k
    fits_then k below = came_fits first new k (get_or then k []) kept_then (omega (arith, below, count_is)) (taken_then k below)

    -- the sums of all, and of a part
    pub all_fit : (widths : List ℕ) → AreWide width first.streams widths n → total (sums_of lists) + next.1.count ≤ 255 * sum widths
    all_fit widths wide =
        let sums_then : plus (sums_of lists) next.1.tail next.1.count ≡ sums_of then = sums_are was step in
        omega (
          arith,
          total-plus (sums_of lists) next.1.tail next.1.count,
          ap total sums_then,
          total-sums_of then,
          counts_fit then widths (wide.len ∙ sym len_then)
              (λ k below. (let under : k < n = omega (arith, below, len_then) in let less : total (get_or then k []) ≤ 255 * get_or widths k 0 = omega (
                arith,
                costs_from (version first.streams k) (get_or then k []),
                fits_then k under,
                wide.each k under,
              ) in less)),
        )

    pub part_fits : (number : ℕ) → ((k : ℕ) → k < n → version first.streams k ≡ number) → (parts : List (Option ℕ)) → length parts ≡ n → (part : ℕ) →
        is_of (get_or parts next.0 None) part ≡ true → (widths : List ℕ) → AreWide width first.streams widths n →
        costs number (sums_of (picked parts part lists)) + cost number next.1.count ≤ sum (picked parts part widths)
    part_fits number versions parts len part own widths wide =
        let f : List Piece → ℕ = costs number in
        let before = get_or lists next.0 [] in
        let now_more : sum_by f (picked parts part then) + f before ≡ sum_by f (picked parts part lists) + f (before ++ next.1 ∷ []) =
        subst (λ b. sum_by f (picked parts part then) + cond {A = ℕ} b (f before) 0 ≡ sum_by f (picked parts part lists) + cond {A = ℕ} b (f (before ++ next.1 ∷ [])) 0)
        own (sum_by-picked-set f parts part lists next.0 (before ++ next.1 ∷ []) [] (omega (arith, within_then, was.len)) (omega (arith, within_then, len))) in
        omega (
          arith,
          costs-sums_of number (picked parts part lists),
          now_more,
          costs-append number before (next.1 ∷ []),
          picked_less f [] parts part then widths (wide.len ∙ sym len_then)
              (λ k below. (let under : k < n = omega (arith, below, len_then) in let less : f (get_or then k []) ≤ get_or widths k 0 = omega (
                arith,
                fits_then k under,
                ap (λ v. costs v (get_or then k [])) (versions k under),
                wide.each k under,
              ) in less)),
        )

    -- the landing of a part can take the piece
    pub can_take : (s : Numbers) (number : ℕ) → ((k : ℕ) → k < n → version first.streams k ≡ number) → ((k : ℕ) → k < n → members.limit first.streams k ≤ tail_limit s) →
        (parts : List (Option ℕ)) → length parts ≡ n → (part : ℕ) →
        is_of (get_or parts next.0 None) part ≡ true → (widths : List ℕ) → AreWide width first.streams widths n → sum (picked parts part widths) ≤ span s (part + 1) →
        (l : Landing) → IsLandingOf s number (part + 1) l → taken l ≡ sums_of (picked parts part lists) → CanTake l next.1
    can_take s number versions limits parts len part own widths wide room l is taken_is =
        let high : (k : ℕ) → k < length lists → AreUpTo next.1.tail (get_or lists k []) = was.up next.1.tail step.above in
        let below : next.1.tail < tail_limit s = next_below was step (tail_limit s) limits in
        let spans : span l.writer.settings l.writer.level ≡ span s (part + 1) = λ i. span (is.settings i) (is.level_is i) in
        record {
          ascends = subst (AreUpTo next.1.tail) (sym taken_is)
              (up_to-sums_of next.1.tail (picked parts part lists) (each-picked (AreUpTo next.1.tail) [] parts part lists high));
          below = subst (λ (m : Numbers). next.1.tail < tail_limit m) (sym is.settings) below;
          some = some;
          fits = omega (
            arith,
            part_fits number versions parts len part own widths wide,
            room,
            spans,
            ap (λ v. costs v (taken l)) is.version_is,
            ap (costs number) taken_is,
            ap (λ v. cost v next.1.count) is.version_is,
          );
        }

    -- and less may still come
    pub left_less : left_over members version width new < left_over members version width now
    left_less =
        let f = left_at members version width new in
        let h = left_at members version width now in
        let here : get_or then next.0 [] ≡ get_or lists next.0 [] ++ next.1 ∷ [] = here_more was step in
        let now_below : (k : ℕ) → k < n → k < members.count now.streams = λ k below. omega (arith, below, was.same.streams) in
        let same_width : (k : ℕ) → width new.streams k ≡ width now.streams k = width_same now.streams new.streams step.kept in
        let same_version : (k : ℕ) → version new.streams k ≡ version now.streams k = version_same now.streams new.streams step.kept in
        let first_version : (k : ℕ) → version now.streams k ≡ version first.streams k = version_same first.streams now.streams was.kept in
        let first_width : (k : ℕ) → width now.streams k ≡ width first.streams k = width_same first.streams now.streams was.kept in
        let less : over f n < over h n = over_less f h n next.0 within_then
        (λ k below other. omega (
          arith,
          same_width k,
          came_is new k (get_or then k []) (taken_then k below),
          came_is now k (get_or lists k []) (was.taken k below),
          ap (costs (version new.streams k)) (elsewhere_more was step k other),
          ap (λ v. costs v (get_or lists k [])) (same_version k),
        ))
        (omega (
          arith,
          same_width next.0,
          first_width next.0,
          cost_some (version new.streams next.0) next.1.count some,
          came_is new next.0 (get_or then next.0 []) (taken_then next.0 within_then),
          came_is now next.0 (get_or lists next.0 []) (was.taken next.0 within_then),
          fits_then next.0 within_then,
          ap (λ v. costs v (get_or then next.0 [])) (same_version next.0 ∙ first_version next.0),
          ap (λ v. costs v (get_or lists next.0 [])) (same_version next.0),
          ap (costs (version new.streams next.0)) here,
          costs-append (version new.streams next.0) (get_or lists next.0 []) (next.1 ∷ []),
        )) in
        omega (arith, less, ap (over f) count_is, ap (over h) was.same.streams)
