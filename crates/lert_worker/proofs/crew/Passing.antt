-- Passes of a crew, cut and put together.
use Rattle.std.proofs.Common.{◌≡◌, ℕ, ◌+◌, ◌-◌, ◌<◌, ◌≤◌, Bool, cond, eqb, List, [], ◌∷◌, ◌++◌, length, filter, get_or, reverse, Some, slice_get, refl, ap, sym, ◌∙◌, subst, inl, inr, arith}
use Rattle.std.proofs.{Common.length-append, lemmas.Bool.{cases_lt, eq-eqb}, lemmas.Option.{get_or_from_slice_get, none-some, same_Some, slice_get-get_or, slice_get_within}}
use Rattle.std.proofs.lemmas.List.{get_or-reverse, length-reverse}
use Rattle.lert_base.specs.{Packet.{Packet, own}, declared.cone_fault.ConeFault.ConeFault}
use Rattle.lert_conelock.specs.Sight.{Joined, Sight, first_pass, own_refused}
use Rattle.lert_fleet.proofs.Places.{image_at, slice_get_seam, some_at}
use Rattle.lert_fleet.specs.Cones.{FleetPassSight, FleetSight, IsPassOf, JoinsEach, below, first_passes, from}
use Rattle.lert_spec.specs.declared.numbers.Numbers.{Numbers}
use Rattle.lert_worker.specs.{Ran.Working, declared.end.WorkerEnd.TheVariants.Ran}
use Rattle.lert_worker.specs.crew.Passes.{AllQuiet, AllShow, AreDone, AreHired, AreInLine, AreLeaving, Brought, EachShows, IsHired, IsPassFrom, IsQuiet, Shows, Turned}
use Rattle.lert_worker.proofs.LaneLaws.{slice_get-first}

-- a list that has nothing of any number has nothing
none_own : {A : Type 0} (number : A → ℕ) (xs : List A) → ((n : ℕ) → filter (λ x. eqb (number x) n) xs ≡ []) → xs ≡ []
none_own number [] none = refl
none_own number (x ∷ xs) none = absurd (clash (ap (λ (b : Bool). cond b (x ∷ filter (λ y. eqb (number y) (number x)) xs) (filter (λ y. eqb (number y) (number x)) xs))
    (sym (eq-eqb (number x) (number x) refl)) ∙ none (number x)))
  where
    clash : {A : Type 0} {y : A} {ys : List A} → y ∷ ys ≡ [] → ⊥
    clash e = cc

-- room for one worker more
pub has_room : {A : Type 0} (xs : List A) (len capacity number workers : ℕ) → len ≡ length xs → 1 ≤ number → length xs + number ≡ workers → workers ≤ capacity → len < capacity
has_room xs len capacity number workers long low total room = omega (arith, long, low, total, room)

-- a sum with nothing behind
pub none_behind : (hi behind top : ℕ) → behind ≡ 0 → hi + behind ≡ top → hi ≡ top
none_behind hi behind top none total = omega (arith, none, total)

module _ {H : Type 0} where
  pub quiet_below : (at : ℕ) (pass : FleetPassSight H ConeFault) → IsQuiet pass → IsQuiet (below at pass)
  quiet_below at pass quiet = record {
    calls = λ cone sight is. let old = image_at (λ (own : Sight H ConeFault). record own { hi = at }) pass.cones cone sight is in
        ap (λ (o : Sight H ConeFault). o.calls) (sym old.2) ∙ quiet.calls cone old.0 old.1;
    refused = λ cone sight is. let old = image_at (λ (own : Sight H ConeFault). record own { hi = at }) pass.cones cone sight is in
        ap (λ (o : Sight H ConeFault). o.refused) (sym old.2) ∙ quiet.refused cone old.0 old.1;
  }

  pub quiet_from : (at : ℕ) (pass : FleetPassSight H ConeFault) → IsQuiet pass → IsQuiet (from at pass)
  quiet_from at pass quiet = record {
    calls = λ cone sight is. let old = image_at (λ (own : Sight H ConeFault). record own { lo = at; met = 0; waits = 0 }) pass.cones cone sight is in
        ap (λ (o : Sight H ConeFault). o.calls) (sym old.2) ∙ quiet.calls cone old.0 old.1;
    refused = λ cone sight is. let old = image_at (λ (own : Sight H ConeFault). record own { lo = at; met = 0; waits = 0 }) pass.cones cone sight is in
        ap (λ (o : Sight H ConeFault). o.refused) (sym old.2) ∙ quiet.refused cone old.0 old.1;
  }

  -- of the join of two passes, at a cone, the parts
  module _ (old other new : FleetPassSight H ConeFault) (joins : JoinsEach old other new) (cone : ℕ) (sight : Sight H ConeFault) (is : slice_get new.cones cone ≡ Some sight) where
    within : cone < length old.cones
    within = let n = joins.cones.as_many.1 in let w = slice_get_within new.cones cone sight is in omega (arith, n, w)

    pub one_part : (x : Sight H ConeFault) × (slice_get old.cones cone ≡ Some x)
    one_part = some_at old.cones cone within

    pub other_part : (y : Sight H ConeFault) × (slice_get other.cones cone ≡ Some y)
    other_part = some_at other.cones cone (let n = joins.cones.as_many.0 in let w = within in omega (arith, n, w))

    pub joined_part : Joined one_part.0 other_part.0 sight
    joined_part = joins.cones.each cone one_part.0 other_part.0 sight one_part.1 other_part.1 is

  pub quiet_join : (old other new : FleetPassSight H ConeFault) → JoinsEach old other new → IsQuiet old → IsQuiet other → IsQuiet new
  quiet_join old other new joins quiet also = record {
    calls = λ cone sight is.
        let one = one_part old other new joins cone sight is in
        let two = other_part old other new joins cone sight is in
        let j = joined_part old other new joins cone sight is in
        none_own (λ (p : Packet). p.by) sight.calls (λ n. elim (cases_lt n two.0.lo) [
          | inl low ↦ j.calls_below n low ∙ ap (λ (xs : List Packet). own xs n) (quiet.calls cone one.0 one.1)
          | inr high ↦ j.calls_above n high ∙ ap (λ (xs : List Packet). own xs n) (also.calls cone two.0 two.1)
        ]);
    refused = λ cone sight is.
        let one = one_part old other new joins cone sight is in
        let two = other_part old other new joins cone sight is in
        let j = joined_part old other new joins cone sight is in
        none_own (λ (r : Packet × ConeFault). r.0.by) sight.refused (λ n. elim (cases_lt n two.0.lo) [
          | inl low ↦ j.refused_below n low ∙ ap (λ (xs : List (Packet × ConeFault)). own_refused xs n) (quiet.refused cone one.0 one.1)
          | inr high ↦ j.refused_above n high ∙ ap (λ (xs : List (Packet × ConeFault)). own_refused xs n) (also.refused cone two.0 two.1)
        ]);
  }

  pub shows_join : (fleet : FleetSight H) (brought : Brought) (turned : Turned) (lo mid hi : ℕ) (old other new : FleetPassSight H ConeFault) → JoinsEach old other new
      → IsPassOf other fleet →
      other.lo ≡ mid → Shows brought turned lo mid old → Shows brought turned mid hi other → Shows brought turned lo hi new
  shows_join fleet brought turned lo mid hi old other new joins belongs lo_is one two = record {
    calls = λ cone sight is by low high.
        let x = one_part old other new joins cone sight is in
        let y = other_part old other new joins cone sight is in
        let j = joined_part old other new joins cone sight is in
        let at = other_lo cone y.0 y.1 in
        elim (cases_lt by y.0.lo) [
          | inl less ↦ j.calls_below by less ∙ one.calls cone x.0 x.1 by low (omega (arith, less, at))
          | inr most ↦ j.calls_above by most ∙ two.calls cone y.0 y.1 by (omega (arith, most, at)) high
        ];
    refused = λ cone sight is by low high.
        let x = one_part old other new joins cone sight is in
        let y = other_part old other new joins cone sight is in
        let j = joined_part old other new joins cone sight is in
        let at = other_lo cone y.0 y.1 in
        elim (cases_lt by y.0.lo) [
          | inl less ↦ j.refused_below by less ∙ one.refused cone x.0 x.1 by low (omega (arith, less, at))
          | inr most ↦ j.refused_above by most ∙ two.refused cone y.0 y.1 by (omega (arith, most, at)) high
        ];
  }
    where
      other_lo : (cone : ℕ) (y : Sight H ConeFault) → slice_get other.cones cone ≡ Some y → y.lo ≡ mid
      other_lo cone y is =
          let lock = some_at fleet cone (let n = belongs.as_many in let w = slice_get_within other.cones cone y is in omega (arith, n, w)) in
          (belongs.each cone lock.0 y lock.1 is).lo_is ∙ lo_is

  module _ {S : Type 0} (fleet : FleetSight H) where
    -- a worker over the upper part of a cut
    pub hired : (s : Numbers) (number : ℕ) (pass other : FleetPassSight H ConeFault) (worker : Working S H) → IsPassFrom fleet 0 (number + 1) pass → IsQuiet pass
        → other ≡ from number pass →
        IsPassOf other fleet → worker ≡ record { number = number; settings = s; traces = []; readers = []; pass = other; end = Ran } → IsHired fleet s number worker
    hired s number pass other worker is quiet cut belongs made = subst (IsHired fleet s number) (sym made) (record {
      number_is = refl;
      settings_is = refl;
      no_trace = refl;
      no_reader = refl;
      pass_is = record { belongs = belongs; lo_is = ap (λ (p : FleetPassSight H ConeFault). p.lo) cut; hi_is = ap (λ (p : FleetPassSight H ConeFault). p.hi) cut ∙ is.hi_is };
      quiet = subst IsQuiet (sym cut) (quiet_from number pass quiet);
    })

    -- one worker leaves, the last of some
    module _ (rest all : List (Working S H)) (worker : Working S H) (split : all ≡ rest ++ worker ∷ []) where
      pub last_is : slice_get all (length rest) ≡ Some worker
      last_is = ap (λ (xs : List (Working S H)). slice_get xs (length rest)) split ∙ slice_get_seam rest worker []

      pub still_is : (place : ℕ) (other : Working S H) → slice_get rest place ≡ Some other → slice_get all place ≡ Some other
      still_is place other is =
          ap (λ (xs : List (Working S H)). slice_get xs place) split ∙ (slice_get-first rest (worker ∷ []) place (slice_get_within rest place other is) ∙ is)

      pub longer : length all ≡ length rest + 1
      longer = let sum = length-append rest (worker ∷ []) in let e = ap (λ (xs : List (Working S H)). length xs) split in omega (arith, sum, e)

      module _ (top : ℕ) (pass : FleetPassSight H ConeFault) (leaving : AreLeaving fleet top all) (total : pass.hi + length all ≡ top) where
        pub leaves : (worker.traces ≡ []) × IsPassFrom fleet pass.hi (pass.hi + 1) worker.pass
        leaves = leaving (length rest) pass.hi worker last_is (let n = longer in omega (arith, n, total))

        module _ (other : FleetPassSight H ConeFault) (other_is : other ≡ worker.pass) where
          pub is_behind : IsPassFrom fleet pass.hi (pass.hi + 1) other
          is_behind = subst (IsPassFrom fleet pass.hi (pass.hi + 1)) (sym other_is) leaves.1

          module _ (new : FleetPassSight H ConeFault) (joins : JoinsEach pass other new) where
            pub new_hi : new.hi ≡ pass.hi + 1
            new_hi = joins.hi_is ∙ is_behind.hi_is

            pub new_total : new.hi + length rest ≡ top
            new_total = let n = longer in let m = new_hi in omega (arith, n, m, total)

            pub still_leaving : AreLeaving fleet top rest
            still_leaving = λ place number found is at. leaving place number found (still_is place found is) at

            pub still_quiet : IsQuiet pass × AllQuiet all → IsQuiet new × AllQuiet rest
            still_quiet quiet = (
              quiet_join pass other new joins quiet.0 (subst IsQuiet (sym other_is) (quiet.1 (length rest) worker last_is)),
              λ place found is. quiet.1 place found (still_is place found is),
            )

            pub still_shows : (brought : Brought) (turned : Turned) (lo : ℕ) → Shows brought turned lo pass.hi pass × AllShow brought turned top all →
                Shows brought turned lo new.hi new × AllShow brought turned top rest
            still_shows brought turned lo shows = (
              subst (λ n. Shows brought turned lo n new) (sym new_hi) (shows_join fleet brought turned lo pass.hi (pass.hi + 1) pass other new joins is_behind.belongs is_behind.lo_is shows.0
                  (subst (Shows brought turned pass.hi (pass.hi + 1)) (sym other_is) (shows.1 (length rest) pass.hi worker last_is (let n = longer in omega (arith, n, total))))),
              λ place number found is at. shows.1 place number found (still_is place found is) at,
            )

    -- ---- workers that were hired
    pub hired_push : (s : Numbers) (top : ℕ) (xs : List (Working S H)) (worker : Working S H) (number : ℕ) → AreHired fleet s top xs → IsHired fleet s number worker →
        number + length xs + 1 ≡ top → AreHired fleet s top (xs ++ worker ∷ [])
    hired_push s top xs worker number are one at = λ place n found is e. elim (cases_lt place (length xs)) [
      | inl less ↦ are place n found (sym (slice_get-first xs (worker ∷ []) place less) ∙ is) e
      | inr most ↦
          let within = slice_get_within (xs ++ worker ∷ []) place found is in
          let sum = length-append xs (worker ∷ []) in
          let place_is : length xs ≡ place = omega (arith, most, within, sum) in
          let same : worker ≡ found = same_Some worker found (sym (slice_get_seam xs worker []) ∙ (ap (slice_get (xs ++ worker ∷ [])) place_is ∙ is)) in
          subst (λ k. IsHired fleet s k found) (let k : number ≡ n = omega (arith, at, e, place_is) in k) (subst (IsHired fleet s number) same one)
    ]

    pub hired_none : (s : Numbers) (top : ℕ) (xs : List (Working S H)) → xs ≡ [] → AreHired fleet s top xs
    hired_none s top xs none = λ place number worker is at. absurd (none-some worker (ap (λ (ys : List (Working S H)). slice_get ys place) (sym none) ∙ is))

    pub hired_leave : (s : Numbers) (top also : ℕ) (xs : List (Working S H)) → AreHired fleet s top xs → also ≡ top → AreLeaving fleet also xs
    hired_leave s top also xs are same = λ place number worker is e.
        let one = are place number worker is (e ∙ same) in
        (one.no_trace, one.pass_is)

    pub hired_quiet : (s : Numbers) (top : ℕ) (xs : List (Working S H)) → AreHired fleet s top xs → length xs ≤ top → AllQuiet xs
    hired_quiet s top xs are few = λ place worker is.
        (are place (top - place - 1) worker is (let w = slice_get_within xs place worker is in omega (arith, w, few))).quiet

    -- the last worker, over all that is left
    pub hired_last : (s : Numbers) (pass : FleetPassSight H ConeFault) (worker : Working S H) → IsPassFrom fleet 0 1 pass → IsQuiet pass →
        worker ≡ record { number = 0; settings = s; traces = []; readers = []; pass = pass; end = Ran } → IsHired fleet s 0 worker
    hired_last s pass worker is quiet made = subst (IsHired fleet s 0) (sym made)
        (record { number_is = refl; settings_is = refl; no_trace = refl; no_reader = refl; pass_is = is; quiet = quiet })

    -- ---- the order of numbers

    reversed_at : (xs : List (Working S H)) (place number : ℕ) (x : Working S H) → slice_get (reverse xs) place ≡ Some x → number + place + 1 ≡ length xs
        → slice_get xs number ≡ Some x
    reversed_at xs place number x is at =
        let within = slice_get_within (reverse xs) place x is in
        let size = length-reverse xs in
        slice_get-get_or xs number x (omega (arith, at)) ∙ ap Some
        (ap (λ k. get_or xs k x) (let e : number ≡ length xs - 1 - place = omega (arith, at) in e) ∙ (sym (get_or-reverse xs place x (omega (arith, within, size)))
        ∙ get_or_from_slice_get (reverse xs) place x x is))

    pub in_line : (s : Numbers) (xs ys : List (Working S H)) → ys ≡ reverse xs → AreHired fleet s (length xs) xs → AreInLine fleet s ys
    in_line s xs ys is are = λ by worker there.
        let here : slice_get (reverse xs) by ≡ Some worker = ap (λ (zs : List (Working S H)). slice_get zs by) (sym is) ∙ there in
        let within = slice_get_within (reverse xs) by worker here in
        let size = length-reverse xs in
        are (length xs - by - 1) by worker (reversed_at xs by (length xs - by - 1) worker here (omega (arith, within, size))) (omega (arith, within, size))

    -- the worker with the least number, and the others, each behind its next
    module _ (xs rest turned : List (Working S H)) (first : Working S H) (turn : turned ≡ reverse xs) (split : turned ≡ rest ++ first ∷ []) where
      pub sizes : length xs ≡ length rest + 1
      sizes = let n = longer rest turned first split in let m = ap (λ (zs : List (Working S H)). length zs) turn in let k = length-reverse xs in omega (arith, n, m, k)

      pub at_number : (place number : ℕ) (worker : Working S H) → slice_get rest place ≡ Some worker → number + place + 1 ≡ length xs → slice_get xs number ≡ Some worker
      at_number place number worker is at =
          reversed_at xs place number worker (ap (λ (zs : List (Working S H)). slice_get zs place) (sym turn) ∙ still_is rest turned first split place worker is) at

      pub first_zero : slice_get xs 0 ≡ Some first
      first_zero = reversed_at xs (length rest) 0 first (ap (λ (zs : List (Working S H)). slice_get zs (length rest)) (sym turn) ∙ last_is rest turned first split) (let n =
          sizes in omega (arith, n))

      module _ (done : AreDone fleet xs) where
        pub first_done : (first.traces ≡ []) × IsPassFrom fleet 0 1 first.pass
        first_done = done 0 first first_zero

        module _ (pass : FleetPassSight H ConeFault) (pass_is : pass ≡ first.pass) where
          pub pass_from : IsPassFrom fleet 0 1 pass
          pass_from = subst (IsPassFrom fleet 0 1) (sym pass_is) first_done.1

          pub top_is : pass.hi + length rest ≡ length xs
          top_is = let n = sizes in let h = pass_from.hi_is in omega (arith, n, h)

          pub others_leave : AreLeaving fleet (pass.hi + length rest) rest
          others_leave = λ place number worker is at. done number worker (at_number place number worker is (at ∙ top_is))

          module _ (result : FleetPassSight H ConeFault) where
            pub all_from : IsPassFrom fleet pass.lo (pass.hi + length rest) result → IsPassFrom fleet 0 (length xs) result
            all_from is = record { belongs = is.belongs; lo_is = is.lo_is ∙ pass_from.lo_is; hi_is = is.hi_is ∙ top_is }

            pub all_quiet : (IsQuiet pass → AllQuiet rest → IsQuiet result) → AllQuiet xs → IsQuiet result
            all_quiet joins quiet = joins (subst IsQuiet (sym pass_is) (quiet 0 first first_zero))
                (λ place worker is. quiet (length xs - place - 1) worker (at_number place (length xs - place - 1) worker is
                (let w = slice_get_within rest place worker is in let n = sizes in omega (arith, w, n))))

            pub all_show : (brought : Brought) (refused : Turned) → (Shows brought refused pass.lo pass.hi pass → AllShow brought refused (pass.hi + length rest) rest →
                Shows brought refused pass.lo (pass.hi + length rest) result) → EachShows brought refused xs → Shows brought refused 0 (length xs) result
            all_show brought refused joins shows =
                subst (λ n. Shows brought refused n (length xs) result) pass_from.lo_is (subst (λ n. Shows brought refused pass.lo n result) top_is
                (joins (subst (λ n. Shows brought refused n pass.hi pass) (sym pass_from.lo_is) (subst (λ n. Shows brought refused 0 n pass) (sym pass_from.hi_is)
                (subst (Shows brought refused 0 1) (sym pass_is) (shows 0 first first_zero))))
                (λ place number worker is at. shows number worker (at_number place number worker is (at ∙ top_is)))))

module _ {H : Type 0} where
  -- the first pass of a fleet was never used
  pub quiet_first : (numbers : ℕ) (fleet : FleetSight H) → IsQuiet (first_passes numbers fleet)
  quiet_first numbers fleet = record {
    calls = λ cone sight is. let lock = image_at first_pass fleet cone sight is in ap (λ (o : Sight H ConeFault). o.calls) (sym lock.2);
    refused = λ cone sight is. let lock = image_at first_pass fleet cone sight is in ap (λ (o : Sight H ConeFault). o.refused) (sym lock.2);
  }
