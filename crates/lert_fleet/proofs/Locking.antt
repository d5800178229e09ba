-- A lock is put round each state, and after want of memory each state comes back as it was.
use Rattle.std.proofs.Common.{◌≡◌, ℕ, suc, zero, ◌≤◌, List, [], ◌∷◌, ◌++◌, length, map, reverse, Some, slice_get, refl, sym, ap, ◌∙◌, subst, arith}
use Rattle.std.proofs.{lemmas.List.{append_assoc, append-nil, reverse-append, reverse-reverse, length-map, length-reverse, map-append}, lemmas.List.Elements.{All-nil, All-head, All-tail, All-push}}
use Rattle.std.proofs.lemmas.Option.{same_Some, none-some}
use Rattle.std.specs.Prelude.{All}
use Rattle.crossbeam_utils.specs.{declared.cache_padded.CachePadded.CachePadded, Padded.padded_value}
use Rattle.lert_base.specs.declared.held.Held.{Ghosts as HeldOf}
use Rattle.lert_conelock.specs.Sight.{Sight, LockSight, first_pass, Closed}
use Rattle.lert_fleet.specs.{Each.{EachTwo, EachThree}, Cones.{FleetSight, FleetPassSight, IsOwnPass, IsPassOf, IsWhole, IsFleetOf, first_passes}, Rows.{IsWholePass, WereClosed}}
use Rattle.lert_fleet.proofs.{Places.image_at, Eachwise.three_tail}

pub All-reverse : {X : Type 0} (P : X → Type 0) (xs : List X) → All P xs → All P (reverse xs)
All-reverse P [] all = All-nil P
All-reverse P (x ∷ xs) all =
    subst (All P) (sym (reverse-append (x ∷ []) xs)) (All-push P (reverse xs) x (All-reverse P xs (All-tail P x xs all)) (All-head P x xs all))

-- what stands in a list with one more behind it
push_cases : {X : Type 0} (xs : List X) (y : X) (P : X → Type 0) → ((place : ℕ) (x : X) → slice_get xs place ≡ Some x → P x) → P y
    → (place : ℕ) (x : X) → slice_get (xs ++ y ∷ []) place ≡ Some x → P x
push_cases [] y P all here zero x is = subst P (same_Some y x is) here
push_cases [] y P all here (suc place) x is = absurd (none-some x is)
push_cases (z ∷ xs) y P all here zero x is = all zero x is
push_cases (z ∷ xs) y P all here (suc place) x is = push_cases xs y P (λ k. all (suc k)) here place x is

abbrev pub firsts : {H : Type 0} → List (LockSight H) → List H
firsts {H} locks = map (λ (lock : LockSight H). lock.first) locks

-- there are as many locks as states
pub locks_few : {H : Type 0} (padded : List (CachePadded (LockSight H))) (numbers : ℕ) (states turned : List H) (most : ℕ) → turned ≡ reverse states → length states ≤ most
    → IsFleetOf (reverse turned) numbers (map padded_value padded) → length padded ≤ most
locks_few {H} padded numbers states turned most is few made = omega (
  arith,
  length-map padded padded_value,
  length-map (map padded_value padded) (λ (lock : LockSight H). lock.first),
  ap (λ (xs : List H). length xs) made.firsts,
  length-reverse turned,
  ap (λ (xs : List H). length xs) is,
  length-reverse states,
  few,
)

module _ {H F : Type 0} where
  abbrev pub first_of : LockSight H → Sight H F
  first_of lock = first_pass lock

  -- the states that are left stand in front of those that have their locks, the last one first
  pub record IsLocking (numbers : ℕ) (states₀ states : List H) (locks : List (LockSight H)) (passes : List (Sight H F)) : Type 0 where
    pub states_are : states₀ ≡ states ++ reverse (firsts locks)
    pub numbers_are : (place : ℕ) (lock : LockSight H) → slice_get locks place ≡ Some lock → lock.numbers ≡ numbers
    pub passes_are : passes ≡ map first_of locks

  pub locking_first : (numbers : ℕ) (states : List H) → IsLocking numbers states states [] []
  locking_first numbers states = record {
    states_are = sym (append-nil states);
    numbers_are = λ place lock is. absurd (none-some lock is);
    passes_are = refl;
  }

  module _ (numbers : ℕ) (states₀ states : List H) (state : H) (locks : List (LockSight H)) (passes : List (Sight H F))
      (was : IsLocking numbers states₀ (states ++ state ∷ []) locks passes) where
    pub locking_more : (lock : LockSight H) (pass : Sight H F) → lock.first ≡ state → lock.numbers ≡ numbers → pass ≡ first_of lock
        → IsLocking numbers states₀ states (locks ++ lock ∷ []) (passes ++ pass ∷ [])
    locking_more lock pass first numbered is = record {
      states_are = was.states_are ∙ (append_assoc states (state ∷ []) (reverse (firsts locks))
          ∙ (ap (λ (x : H). states ++ (x ∷ reverse (firsts locks))) (sym first)
          ∙ ap (λ (xs : List H). states ++ xs) (sym (reverse-append (firsts locks) (lock.first ∷ []))
          ∙ ap reverse (sym (map-append (λ (x : LockSight H). x.first) locks (lock ∷ []))))));
      numbers_are = push_cases locks lock (λ (x : LockSight H). x.numbers ≡ numbers) was.numbers_are numbered;
      passes_are = ap (λ (xs : List (Sight H F)). xs ++ pass ∷ []) was.passes_are
          ∙ (ap (λ (x : Sight H F). map first_of locks ++ x ∷ []) is ∙ sym (map-append first_of locks (lock ∷ [])));
    }

  pub locking_begun : (numbers : ℕ) (states : List H) (padded : List (CachePadded (LockSight H))) (passes : List (Sight H F))
      → padded ≡ [] → passes ≡ [] → IsLocking numbers states states (map padded_value padded) passes
  locking_begun numbers states padded passes none no_pass =
      subst (λ (xs : List (CachePadded (LockSight H))). IsLocking numbers states states (map padded_value xs) passes) (sym none)
      (subst (λ (xs : List (Sight H F)). IsLocking numbers states states [] xs) (sym no_pass) (locking_first numbers states))

  -- the same after a state is taken from the end of the list, and its lock and pass are put behind theirs
  pub locking_pushed : (numbers : ℕ) (states₀ all states : List H) (state : H) → all ≡ states ++ state ∷ []
      → (padded padded' : List (CachePadded (LockSight H))) (passes passes' : List (Sight H F))
      → IsLocking numbers states₀ all (map padded_value padded) passes
      → (made : CachePadded (LockSight H)) (lock : LockSight H) (pass : Sight H F) → padded_value made ≡ lock
      → padded' ≡ padded ++ made ∷ [] → passes' ≡ passes ++ pass ∷ []
      → lock.first ≡ state → lock.numbers ≡ numbers → pass ≡ first_of lock
      → IsLocking numbers states₀ states (map padded_value padded') passes'
  locking_pushed numbers states₀ all states state popped padded padded' passes passes' was made lock pass made_is locks_are passes_are first numbered is =
      let now = locking_more numbers states₀ states state (map padded_value padded) passes
      (subst (λ (xs : List H). IsLocking numbers states₀ xs (map padded_value padded) passes) popped was) lock pass first numbered is in
      subst (λ (xs : List (LockSight H)). IsLocking numbers states₀ states xs passes')
      (ap (λ (x : LockSight H). map padded_value padded ++ x ∷ []) (sym made_is)
      ∙ (sym (map-append padded_value padded (made ∷ [])) ∙ ap (map padded_value) (sym locks_are)))
      (subst (λ (xs : List (Sight H F)). IsLocking numbers states₀ states (map padded_value padded ++ lock ∷ []) xs) (sym passes_are) now)

  module _ (numbers : ℕ) (states₀ states : List H) (locks : List (LockSight H)) (passes : List (Sight H F))
      (was : IsLocking numbers states₀ states locks passes) where
    pub locking_last : states ≡ [] → IsFleetOf (reverse states₀) numbers locks
    locking_last none = record {
      firsts = sym (ap reverse (was.states_are ∙ ap (λ (xs : List H). xs ++ reverse (firsts locks)) none) ∙ reverse-reverse (firsts locks));
      numbers_are = was.numbers_are;
    }

    pub locking_whole : EachTwo IsWholePass locks passes
    locking_whole = record {
      as_many = ap length was.passes_are ∙ length-map locks first_of;
      each = λ place lock pass lock_is pass_is.
          (let made = image_at first_of locks place pass (ap (λ (xs : List (Sight H F)). slice_get xs place) (sym was.passes_are) ∙ pass_is) in
          let same : made.0 ≡ lock = same_Some made.0 lock (sym made.1 ∙ lock_is) in
          subst (λ (x : Sight H F). IsWholePass lock x) (ap first_of (sym same) ∙ made.2)
          record { belongs = record { lock_is = refl; first_is = refl }; lo_is = refl; hi_is = refl });
    }

  -- a fleet and its first passes
  module _ (fleet : FleetSight H) (numbers : ℕ) (of_them : (place : ℕ) (lock : LockSight H) → slice_get fleet place ≡ Some lock
      → lock.numbers ≡ numbers) where
    abbrev start : FleetPassSight H F
    start = first_passes numbers fleet

    pub start_of : IsPassOf start fleet
    start_of = record {
      as_many = length-map fleet first_of;
      each = λ place lock pass lock_is pass_is.
          (let made = image_at first_of fleet place pass pass_is in
          let same : made.0 ≡ lock = same_Some made.0 lock (sym made.1 ∙ lock_is) in
          subst (λ (x : Sight H F). IsOwnPass start lock x) (ap first_of (sym same) ∙ made.2)
          record { belongs = record { lock_is = refl; first_is = refl }; lo_is = refl; hi_is = of_them place lock lock_is });
    }

  pub start_is : (fleet : FleetSight H) (numbers : ℕ) (cones : List (Sight H F)) → cones ≡ map first_of fleet
      → record { lo = 0; hi = numbers; cones = cones } ≡ first_passes numbers fleet
  start_is fleet numbers cones is = λ i. record { lo = 0; hi = numbers; cones = is i }

  -- where there is room for the states, there is for their passes
  pub passes_fit : (fleet : FleetSight H) (numbers : ℕ) (states : List H) (passes : List (Sight H F)) (room : ℕ) → IsFleetOf (reverse states) numbers fleet
      → passes ≡ map first_of fleet → length states ≤ room → length passes ≤ room
  passes_fit fleet numbers states passes room made passes_are fits = omega (
    arith,
    ap (λ (xs : List (Sight H F)). length xs) passes_are,
    length-map fleet first_of,
    ap (λ (xs : List H). length xs) made.firsts,
    length-map fleet (λ (lock : LockSight H). lock.first),
    length-reverse states,
    fits,
  )

  -- the passes of a pass that is whole
  pub whole_each : (fleet : FleetSight H) (pass : FleetPassSight H F) → IsPassOf pass fleet → IsWhole pass fleet
      → EachTwo IsWholePass fleet pass.cones
  whole_each fleet pass is whole = record {
    as_many = is.as_many;
    each = λ place lock own lock_is own_is.
        (let part = is.each place lock own lock_is own_is in
        record {
          belongs = part.belongs;
          lo_is = part.lo_is ∙ whole.lo_is;
          hi_is = part.hi_is ∙ whole.hi_is place lock lock_is;
        });
  }

module _ {H T R F : Type 0} (held : HeldOf H T R F) where
  -- without a call each state is the first one itself
  untouched_each : (locks : List (LockSight H)) (closed : List H)
      → EachThree (Closed {F = F} held) locks (map first_of locks) closed → closed ≡ firsts locks
  untouched_each [] [] each = refl
  untouched_each [] (s ∷ closed) each = (let as_many = each.as_many.1 in absurd (omega arith))
  untouched_each (l ∷ locks) [] each = (let as_many = each.as_many.1 in absurd (omega arith))
  untouched_each (l ∷ locks) (s ∷ closed) each =
      let head : s ≡ l.first = (each.each 0 l (first_of l) s refl refl refl).untouched refl refl in
      let tail = untouched_each locks closed (three_tail (Closed held) l (first_of l) s locks (map first_of locks) closed each) in
      λ i. head i ∷ tail i

  -- after want of memory the state that was taken from the list lies in it again, and the others come back from their locks
  pub locking_back : (numbers : ℕ) (states₀ states : List H) (locks : List (LockSight H)) (passes : List (Sight H F)) (result : List H)
      → IsLocking numbers states₀ states locks passes → (left : List H) (state given : H) → states ≡ left ++ state ∷ [] → given ≡ state
      → (pushed : List H) → pushed ≡ left ++ given ∷ [] → WereClosed held locks passes pushed result → result ≡ reverse states₀
  locking_back numbers states₀ states locks passes result was left state given popped back pushed again were =
      let same : pushed ≡ states = again ∙ (ap (λ (x : H). left ++ x ∷ []) back ∙ sym popped) in
      let closed = untouched_each locks were.closed
      (subst (λ (xs : List (Sight H F)). EachThree (Closed held) locks xs were.closed) was.passes_are were.each) in
      were.result_is ∙ (ap (λ (xs : List H). xs ++ reverse pushed) (closed ∙ sym (reverse-reverse (firsts locks)))
      ∙ (sym (reverse-append pushed (reverse (firsts locks)))
      ∙ ap reverse (ap (λ (xs : List H). xs ++ reverse (firsts locks)) same ∙ sym was.states_are)))
