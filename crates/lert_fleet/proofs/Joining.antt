-- Two passes of a fleet are joined from the last cone on.
use Rattle.std.proofs.{Common.{◌≡◌, ◌≢◌, ℕ, ◌<◌, ◌≤◌, List, [], ◌∷◌, ◌++◌, length, set, map, get_or, Some, slice_get, refl, sym, ap, ◌∙◌, subst, ⊎_elim, arith}, lemmas.Bool.cases_eq}
use Rattle.std.proofs.{lemmas.List.{length-set, append_assoc, append-nil, length_push, length-map}, lemmas.Option.{same_Some, slice_get_within}}
use Rattle.crossbeam_utils.specs.{declared.cache_padded.CachePadded.CachePadded, Padded.padded_value}
use Rattle.lert_conelock.specs.Sight.{Sight, LockSight, Joined}
use Rattle.lert_fleet.specs.Cones.{FleetSight, FleetPassSight, IsOwnPass, IsPassOf, JoinsEach}
use Rattle.lert_fleet.proofs.{Places.{slice_get-set_same, slice_get-set_other, slice_get_seam, some_at, read_at, seen_at}, Eachwise.three_here}

module _ {H F : Type 0} where
  -- the cones that are left stand as before, and each behind them is joined
  pub record IsJoining (old other : FleetPassSight H F) (left : List (Sight H F)) (lo hi : ℕ) (now : List (Sight H F)) : Type 0 where
    pub rest : List (Sight H F)
    pub other_is : other.cones ≡ left ++ rest
    pub lo_is : lo ≡ old.lo
    pub hi_is : hi ≡ old.hi
    pub as_many : length now ≡ length old.cones
    pub front : (place : ℕ) → place < length left → slice_get now place ≡ slice_get old.cones place
    pub back : (place : ℕ) (a b c : Sight H F) → length left ≤ place → slice_get old.cones place ≡ Some a
        → slice_get other.cones place ≡ Some b → slice_get now place ≡ Some c → Joined a b c

  pub joining_first : (old other : FleetPassSight H F) → IsJoining old other other.cones old.lo old.hi old.cones
  joining_first old other = record {
    rest = [];
    other_is = sym (append-nil other.cones);
    lo_is = refl;
    hi_is = refl;
    as_many = refl;
    front = λ place below. refl;
    back = λ place a b c past a_is b_is c_is.
        (let below = slice_get_within other.cones place b b_is in absurd (omega arith));
  }

  module _ (old other : FleetPassSight H F) (left : List (Sight H F)) (lo hi : ℕ) (now : List (Sight H F)) (own : Sight H F)
      (was : IsJoining old other (left ++ own ∷ []) lo hi now) where
    -- the last cone that is left
    pub last_other : slice_get other.cones (length left) ≡ Some own
    last_other = ap (λ xs. slice_get xs (length left)) (was.other_is ∙ append_assoc left (own ∷ []) was.rest)
        ∙ slice_get_seam left own was.rest

    pub last_old : slice_get now (length left) ≡ slice_get old.cones (length left)
    last_old = was.front (length left) (omega (arith, length_push left own))

    module _ (before after : Sight H F) (before_is : slice_get now (length left) ≡ Some before) (joined : Joined before own after) where
      more_back : (place : ℕ) (a b c : Sight H F) → length left ≤ place → slice_get old.cones place ≡ Some a
          → slice_get other.cones place ≡ Some b → slice_get (set now (length left) after) place ≡ Some c → Joined a b c
      more_back place a b c past a_is b_is c_is = ⊎_elim
          (λ (e : place ≡ length left). three_here Joined before a own b after c
          (same_Some before a (sym before_is ∙ (last_old ∙ (ap (slice_get old.cones) (sym e) ∙ a_is))))
          (same_Some own b (sym last_other ∙ (ap (slice_get other.cones) (sym e) ∙ b_is)))
          (same_Some after c (sym (slice_get-set_same now (length left) after (slice_get_within now (length left) before before_is))
          ∙ (ap (slice_get (set now (length left) after)) (sym e) ∙ c_is)))
          joined)
          (λ (apart : place ≢ length left). was.back place a b c (omega (arith, length_push left own)) a_is b_is
          (sym (slice_get-set_other now (length left) place after apart) ∙ c_is))
          (cases_eq place (length left))

      pub joining_more : IsJoining old other left lo hi (set now (length left) after)
      joining_more = record {
        rest = own ∷ was.rest;
        other_is = was.other_is ∙ append_assoc left (own ∷ []) was.rest;
        lo_is = was.lo_is;
        hi_is = was.hi_is;
        as_many = length-set now (length left) after ∙ was.as_many;
        front = λ place below. slice_get-set_other now (length left) place after (λ e. omega arith)
            ∙ was.front place (omega (arith, length_push left own));
        back = more_back;
      }

  module _ (fleet : FleetSight H) (old other : FleetPassSight H F) (lo hi : ℕ) (now : List (Sight H F))
      (was : IsJoining old other [] lo hi now) (is : IsPassOf old fleet) (other_is : IsPassOf other fleet) where
    abbrev whole : FleetPassSight H F
    whole = record { lo = lo; hi = other.hi; cones = now }

    pub joins_each : JoinsEach old other whole
    joins_each = record {
      lo_is = was.lo_is;
      hi_is = refl;
      cones = record { as_many = (other_is.as_many ∙ sym is.as_many, was.as_many); each = λ place a b c. was.back place a b c (omega arith) };
    }

    own_joined : (lock : LockSight H) (a b c : Sight H F) → IsOwnPass old lock a → IsOwnPass other lock b → Joined a b c
        → IsOwnPass whole lock c
    own_joined lock a b c mine theirs joined = record {
      belongs = record {
        lock_is = ap (λ (x : Sight H F). x.lock) joined.shows ∙ mine.belongs.lock_is;
        first_is = ap (λ (x : Sight H F). x.first) joined.shows ∙ mine.belongs.first_is;
      };
      lo_is = ap (λ (x : Sight H F). x.lo) joined.shows ∙ (mine.lo_is ∙ sym was.lo_is);
      hi_is = ap (λ (x : Sight H F). x.hi) joined.shows ∙ theirs.hi_is;
    }

    pub joined_still : IsPassOf whole fleet
    joined_still = record {
      as_many = was.as_many ∙ is.as_many;
      each = λ place lock c lock_is c_is.
          (let within = slice_get_within now place c c_is in
          let sizes = was.as_many in
          let mine = is.as_many in
          let theirs = other_is.as_many in
          let a = some_at old.cones place (omega arith) in
          let b = some_at other.cones place (omega arith) in
          own_joined lock a.0 b.0 c (is.each place lock a.0 lock_is a.1) (other_is.each place lock b.0 lock_is b.1)
          (was.back place a.0 b.0 c (omega arith) a.1 b.1 c_is));
    }

  -- the fields of two passes that are opened
  pub joining_begun : (lo hi : ℕ) (cones : List (Sight H F)) (old : FleetPassSight H F) → record { lo = lo; hi = hi; cones = cones } ≡ old
      → (lo' hi' : ℕ) (others : List (Sight H F)) (other : FleetPassSight H F) → record { lo = lo'; hi = hi'; cones = others } ≡ other
      → IsJoining old other others lo hi cones
  joining_begun lo hi cones old view lo' hi' others other view' =
      subst (λ (x : FleetPassSight H F). IsJoining x other others lo hi cones) view
      (subst (λ (x : FleetPassSight H F). IsJoining record { lo = lo; hi = hi; cones = cones } x others lo hi cones) view'
      (joining_first record { lo = lo; hi = hi; cones = cones } record { lo = lo'; hi = hi'; cones = others }))

  -- the next cone: its lock, and its own pass in the one pass and in the other
  pub record IsNext (fleet : FleetSight H) (old other : FleetPassSight H F) (left : List (Sight H F)) (lo hi : ℕ)
      (now : List (Sight H F)) (lock : LockSight H) (before own : Sight H F) : Type 0 where
    pub was : IsJoining old other (left ++ own ∷ []) lo hi now
    pub before_is : slice_get now (length left) ≡ Some before
    pub mine : IsOwnPass old lock before
    pub theirs : IsOwnPass other lock own

  pub joining_next : (fleet : FleetSight H) (old other : FleetPassSight H F) → IsPassOf old fleet → IsPassOf other fleet
      → (all left : List (Sight H F)) (lo hi : ℕ) (now : List (Sight H F)) → IsJoining old other all lo hi now
      → (own : Sight H F) → all ≡ left ++ own ∷ [] → (place : ℕ) → place ≡ length left
      → (locks : List (CachePadded (LockSight H))) → map padded_value locks ≡ fleet
      → (padded : CachePadded (LockSight H)) (lock : LockSight H) → padded ≡ get_or locks place padded → lock ≡ padded_value padded
      → (before : Sight H F) → before ≡ get_or now place before
      → IsNext fleet old other left lo hi now lock before own
  joining_next fleet old other is other_is all left lo hi now joining own popped place last locks fleet_is padded lock read seen before before_read =
      let was = subst (λ (xs : List (Sight H F)). IsJoining old other xs lo hi now) popped joining in
      let theirs_there = last_other old other left lo hi now own was in
      let within = slice_get_within other.cones (length left) own theirs_there in
      let sizes = was.as_many in
      let as_many = is.as_many in
      let others = other_is.as_many in
      let rows : length (map padded_value locks) ≡ length fleet = ap (λ (xs : List (LockSight H)). length xs) fleet_is in
      let lock_is = seen_at padded_value locks fleet fleet_is (length left) padded lock (omega (arith, length-map locks padded_value))
      (subst (λ (n : ℕ). padded ≡ get_or locks n padded) last read) seen in
      let before_is = read_at now (length left) before (omega arith) (subst (λ (n : ℕ). before ≡ get_or now n before) last before_read) in
      record {
        was = was;
        before_is = before_is;
        mine = is.each (length left) lock before lock_is (sym (last_old old other left lo hi now own was) ∙ before_is);
        theirs = other_is.each (length left) lock own lock_is theirs_there;
      }

  -- it stands in each list
  pub next_within : (fleet : FleetSight H) (old other : FleetPassSight H F) → IsPassOf old fleet → IsPassOf other fleet
      → (all left : List (Sight H F)) (lo hi : ℕ) (now : List (Sight H F)) → IsJoining old other all lo hi now
      → (own : Sight H F) → all ≡ left ++ own ∷ [] → (locks : List (CachePadded (LockSight H))) → map padded_value locks ≡ fleet
      → (length left < length locks) × (length left < length now)
  next_within fleet old other is other_is all left lo hi now joining own popped locks fleet_is =
      let was = subst (λ (xs : List (Sight H F)). IsJoining old other xs lo hi now) popped joining in
      let within = slice_get_within other.cones (length left) own (last_other old other left lo hi now own was) in
      let sizes = was.as_many in
      let as_many = is.as_many in
      let others = other_is.as_many in
      let rows : length (map padded_value locks) ≡ length fleet = ap (λ (xs : List (LockSight H)). length xs) fleet_is in
      (omega (arith, within, as_many, others, rows, length-map locks padded_value), omega (arith, within, sizes, as_many, others))

  module _ {fleet : FleetSight H} {old other : FleetPassSight H F} {left : List (Sight H F)} {lo hi : ℕ}
      {now : List (Sight H F)} {lock : LockSight H} {before own : Sight H F}
      (next : IsNext fleet old other left lo hi now lock before own) where
    pub next_meets : other.lo ≡ old.hi → own.lo ≡ before.hi
    next_meets meets = next.theirs.lo_is ∙ (meets ∙ sym next.mine.hi_is)

    pub next_more : (place : ℕ) → place ≡ length left → (after : Sight H F) → Joined before own after
        → IsJoining old other left lo hi (set now place after)
    next_more place last after joined = subst (λ (n : ℕ). IsJoining old other left lo hi (set now n after)) (sym last)
        (joining_more old other left lo hi now own next.was before after next.before_is joined)
