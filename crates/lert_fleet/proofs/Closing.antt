-- The locks of a fleet are closed from the last cone on.
use Rattle.std.proofs.Common.{◌≡◌, ℕ, ◌+◌, ◌≤◌, List, [], ◌∷◌, ◌++◌, length, map, reverse, slice_get, sym, ap, ◌∙◌, subst, arith}
use Rattle.std.proofs.lemmas.List.{append_assoc, append-nil, reverse-append, reverse-reverse, length_push, length-map, map-append}
use Rattle.crossbeam_utils.specs.{declared.cache_padded.CachePadded.CachePadded, Padded.padded_value}
use Rattle.lert_base.specs.declared.held.Held.{Ghosts as HeldOf}
use Rattle.lert_conelock.specs.Sight.{Sight, LockSight, Closed}
use Rattle.lert_fleet.specs.{Cones.{ClosesEach, FleetPassSight, FleetSight, IsPassOf}, Each.{EachTwo, EachThree}, Rows.{IsWholePass, WereClosed}}
use Rattle.lert_fleet.proofs.{Places.slice_get_seam, Eachwise.{three_none, three_cons}, Splitting.as_long}

module _ {H T R F : Type 0} (held : HeldOf H T R F) (locks₀ : List (LockSight H)) (passes₀ : List (Sight H F)) (others : List H) where
  -- the locks that are left stand in front of those that are closed, whose states lie the last one first
  pub record IsClosing (locks : List (LockSight H)) (passes : List (Sight H F)) (states : List H) : Type 0 where
    pub shut_locks : List (LockSight H)
    pub shut_passes : List (Sight H F)
    pub closed : List H
    pub locks_are : locks₀ ≡ locks ++ shut_locks
    pub passes_are : passes₀ ≡ passes ++ shut_passes
    pub as_many : length passes ≡ length locks
    pub states_are : states ≡ others ++ reverse closed
    pub each : EachThree (Closed held) shut_locks shut_passes closed

  pub closing_first : EachTwo IsWholePass locks₀ passes₀ → IsClosing locks₀ passes₀ others
  closing_first whole = record {
    shut_locks = [];
    shut_passes = [];
    closed = [];
    locks_are = sym (append-nil locks₀);
    passes_are = sym (append-nil passes₀);
    as_many = whole.as_many;
    states_are = sym (append-nil others);
    each = three_none (Closed held);
  }

  module _ (locks : List (LockSight H)) (passes : List (Sight H F)) (states : List H) (lock : LockSight H) (pass : Sight H F)
      (was : IsClosing (locks ++ lock ∷ []) (passes ++ pass ∷ []) states) where
    as_many_left : length passes ≡ length locks
    as_many_left = (let both = was.as_many in omega (arith, length_push locks lock, length_push passes pass))

    -- the last pass that is left is that of the last lock
    last_whole : EachTwo IsWholePass locks₀ passes₀ → IsWholePass lock pass
    last_whole whole = whole.each (length locks) lock pass
        (ap (λ (xs : List (LockSight H)). slice_get xs (length locks)) (was.locks_are ∙ append_assoc locks (lock ∷ []) was.shut_locks)
        ∙ slice_get_seam locks lock was.shut_locks)
        (ap (λ (xs : List (Sight H F)). slice_get xs (length locks)) (was.passes_are ∙ append_assoc passes (pass ∷ []) was.shut_passes)
        ∙ (ap (slice_get (passes ++ pass ∷ was.shut_passes)) (sym as_many_left) ∙ slice_get_seam passes pass was.shut_passes))

    closing_more : (state : H) → Closed held lock pass state → IsClosing locks passes (states ++ state ∷ [])
    closing_more state is = record {
      shut_locks = lock ∷ was.shut_locks;
      shut_passes = pass ∷ was.shut_passes;
      closed = state ∷ was.closed;
      locks_are = was.locks_are ∙ append_assoc locks (lock ∷ []) was.shut_locks;
      passes_are = was.passes_are ∙ append_assoc passes (pass ∷ []) was.shut_passes;
      as_many = as_many_left;
      states_are = ap (λ (xs : List H). xs ++ state ∷ []) was.states_are
          ∙ (append_assoc others (reverse was.closed) (state ∷ [])
          ∙ ap (λ (xs : List H). others ++ xs) (sym (reverse-append (state ∷ []) was.closed)));
      each = three_cons (Closed held) lock pass state was.shut_locks was.shut_passes was.closed is was.each;
    }

  -- a lock and a pass are taken from the ends of their lists
  module _ (padded left : List (CachePadded (LockSight H))) (last : CachePadded (LockSight H)) (locks_popped : padded ≡ left ++ last ∷ [])
      (passes left_passes : List (Sight H F)) (pass : Sight H F) (passes_popped : passes ≡ left_passes ++ pass ∷ [])
      (states : List H) (was : IsClosing (map padded_value padded) passes states)
      (lock : LockSight H) (lock_is : lock ≡ padded_value last) where
    popped : IsClosing (map padded_value left ++ lock ∷ []) (left_passes ++ pass ∷ []) states
    popped = subst (λ (xs : List (Sight H F)). IsClosing (map padded_value left ++ lock ∷ []) xs states) passes_popped
        (subst (λ (xs : List (LockSight H)). IsClosing xs passes states)
        (ap (map padded_value) locks_popped ∙ (map-append padded_value left (last ∷ [])
        ∙ ap (λ (x : LockSight H). map padded_value left ++ x ∷ []) (sym lock_is))) was)

    pub next_whole : EachTwo IsWholePass locks₀ passes₀ → IsWholePass lock pass
    next_whole = last_whole (map padded_value left) left_passes states lock pass popped

    pub next_closed : (state : H) → Closed held lock pass state → (more : List H) → more ≡ states ++ state ∷ []
        → IsClosing (map padded_value left) left_passes more
    next_closed state is more pushed = subst (λ (xs : List H). IsClosing (map padded_value left) left_passes xs) (sym pushed)
        (closing_more (map padded_value left) left_passes states lock pass popped state is)

  pub closing_last : (states : List H) → IsClosing [] [] states → WereClosed held locks₀ passes₀ others (reverse states)
  closing_last states was = record {
    closed = was.closed;
    result_is = ap reverse was.states_are ∙ (reverse-append others (reverse was.closed)
        ∙ ap (λ (xs : List H). xs ++ reverse others) (reverse-reverse was.closed));
    each = subst (λ (xs : List (LockSight H)). EachThree (Closed held) xs passes₀ was.closed) (sym was.locks_are)
        (subst (λ (xs : List (Sight H F)). EachThree (Closed held) was.shut_locks xs was.closed) (sym was.passes_are) was.each);
  }

  pub closing_done : (padded : List (CachePadded (LockSight H))) (passes : List (Sight H F)) (states result : List H) → padded ≡ [] → passes ≡ []
      → IsClosing (map padded_value padded) passes states → result ≡ reverse states → WereClosed held locks₀ passes₀ others result
  closing_done padded passes states result no_lock no_pass was is =
      subst (λ (xs : List H). WereClosed held locks₀ passes₀ others xs) (sym is)
      (closing_last states (subst (λ (xs : List (Sight H F)). IsClosing [] xs states) no_pass
      (subst (λ (xs : List (CachePadded (LockSight H))). IsClosing (map padded_value xs) passes states) no_lock was)))

  -- as many passes are left as locks
  pub closing_many : (padded : List (CachePadded (LockSight H))) (passes : List (Sight H F)) (states : List H)
      → IsClosing (map padded_value padded) passes states → length passes ≡ length padded
  closing_many padded passes states was = was.as_many ∙ length-map padded padded_value

-- the list that a fleet's states came in has room for all of them
pub room_all : {H F : Type 0} (fleet : FleetSight H) (pass : FleetPassSight H F) (locks : List (CachePadded (LockSight H))) (lo hi : ℕ) (cones : List (Sight H F))
    (states : List H) (room : ℕ) → IsPassOf pass fleet → pass.lo ≡ 0 → map padded_value locks ≡ fleet → record { lo = lo; hi = hi; cones = cones } ≡ pass
    → states ≡ [] → (lo ≡ 0 → length cones ≤ room) → length states + length locks ≤ room
room_all {H} {F} fleet pass locks lo hi cones states room is zero locks_are view none enough =
    let first : lo ≡ 0 = ap (λ (x : FleetPassSight H F). x.lo) view ∙ zero in
    let long : length cones ≡ length pass.cones = ap (λ (x : FleetPassSight H F). length x.cones) view in
    let many = as_long fleet pass is locks locks_are in
    let few = enough first in
    let no = ap (λ (xs : List H). length xs) none in
    omega (arith, long, many, few, no)

pub closes_each : {H T R F : Type 0} (held : HeldOf H T R F) (fleet locks : FleetSight H) (pass : FleetPassSight H F) (passes : List (Sight H F)) (others result : List H)
    → WereClosed held locks passes others result → others ≡ [] → locks ≡ fleet → passes ≡ pass.cones → ClosesEach held fleet pass result
closes_each {H} {T} {R} {F} held fleet locks pass passes others result were none locks_are passes_are =
    let all : result ≡ were.closed = were.result_is ∙ (ap (λ (xs : List H). were.closed ++ reverse xs) none ∙ append-nil were.closed) in
    subst (λ (xs : List H). EachThree (Closed held) fleet pass.cones xs) (sym all)
    (subst (λ (xs : List (LockSight H)). EachThree (Closed held) xs pass.cones were.closed) locks_are
    (subst (λ (xs : List (Sight H F)). EachThree (Closed held) locks xs were.closed) passes_are were.each))
