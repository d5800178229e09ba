-- A call on one cone: what it leaves of the fleet's pass.
use Rattle.std.proofs.{Common.{◌≡◌, ◌≢◌, ℕ, ◌<◌, List, length, set, get_or, map, Some, slice_get, refl, sym, ap, ◌∙◌, subst, ⊎_elim, arith}, lemmas.Bool.cases_eq, lemmas.List.{length-set, length-map}}
use Rattle.std.proofs.lemmas.Option.{same_Some, slice_get_within}
use Rattle.crossbeam_utils.specs.{declared.cache_padded.CachePadded.CachePadded, Padded.padded_value}
use Rattle.lert_conelock.specs.Sight.{Sight, LockSight, Keeps}
use Rattle.lert_fleet.specs.Cones.{FleetSight, FleetPassSight, IsOwnPass, IsPassOf, AtCone, ChangesOnly}
use Rattle.lert_fleet.proofs.Places.{slice_get-set_same, slice_get-set_other, read_at, seen_at}

module _ {H F : Type 0} where
  -- the cone's lock, and its own pass before a call
  pub record IsHere (fleet : FleetSight H) (cone lo hi : ℕ) (cones : List (Sight H F)) (old : FleetPassSight H F)
      (lock : LockSight H) (before : Sight H F) : Type 0 where
    pub lock_is : slice_get fleet cone ≡ Some lock
    pub before_is : slice_get cones cone ≡ Some before
    pub view_is : record { lo = lo; hi = hi; cones = cones } ≡ old

  pub here : (locks : List (CachePadded (LockSight H))) (fleet : FleetSight H) → map padded_value locks ≡ fleet
      → (cone : ℕ) (padded : CachePadded (LockSight H)) (lock : LockSight H) → cone < length fleet
      → padded ≡ get_or locks cone padded → lock ≡ padded_value padded
      → (lo hi : ℕ) (cones : List (Sight H F)) (old : FleetPassSight H F) → record { lo = lo; hi = hi; cones = cones } ≡ old
      → IsPassOf old fleet → (before : Sight H F) → before ≡ get_or cones cone before
      → IsHere fleet cone lo hi cones old lock before
  here locks fleet all cone padded lock within read seen lo hi cones old view is before own =
      let as_many : length cones ≡ length old.cones = ap (λ (x : FleetPassSight H F). length x.cones) view in
      let same : length (map padded_value locks) ≡ length fleet = ap (λ (x : List (LockSight H)). length x) all in
      let rows = is.as_many in
      record {
        lock_is = seen_at padded_value locks fleet all cone padded lock (omega (arith, length-map locks padded_value)) read seen;
        before_is = read_at cones cone before (omega arith) own;
        view_is = view;
      }

  module _ {fleet : FleetSight H} {cone lo hi : ℕ} {cones : List (Sight H F)} {old : FleetPassSight H F}
      {lock : LockSight H} {before : Sight H F} (at : IsHere fleet cone lo hi cones old lock before) where
    within : cone < length cones
    within = slice_get_within cones cone before at.before_is

    pub own : IsPassOf old fleet → IsOwnPass old lock before
    own is = is.each cone lock before at.lock_is
        (subst (λ (x : FleetPassSight H F). slice_get x.cones cone ≡ Some before) at.view_is at.before_is)

    module _ (after : Sight H F) where
      abbrev pub changed : FleetPassSight H F
      changed = record { lo = lo; hi = hi; cones = set cones cone after }

      pub changes_only : ChangesOnly cone old changed
      changes_only = subst (λ (x : FleetPassSight H F). ChangesOnly cone x changed) at.view_is record {
        lo_is = refl;
        hi_is = refl;
        as_many = length-set cones cone after;
        others = λ other apart. slice_get-set_other cones cone other after apart;
      }

      pub at_cone : (R : LockSight H → Sight H F → Sight H F → Type 0) → R lock before after → AtCone R fleet cone old changed
      at_cone R is = subst (λ (x : FleetPassSight H F). AtCone R fleet cone x changed) at.view_is
          (λ l b a l_is b_is a_is.
          subst (λ (x : Sight H F). R l b x) (same_Some after a (sym (slice_get-set_same cones cone after within) ∙ a_is))
          (subst (λ (x : Sight H F). R l x after) (same_Some before b (sym at.before_is ∙ b_is))
          (subst (λ (x : LockSight H). R x before after) (same_Some lock l (sym at.lock_is ∙ l_is)) is)))

      -- the pass is still one of the fleet
      own_still : Keeps before after → IsPassOf old fleet → IsOwnPass changed lock after
      own_still keeps is = let was = own is in record {
        belongs = record {
          lock_is = keeps.lock_is ∙ was.belongs.lock_is;
          first_is = keeps.first_is ∙ was.belongs.first_is;
        };
        lo_is = keeps.lo_is ∙ (was.lo_is ∙ ap (λ (x : FleetPassSight H F). x.lo) (sym at.view_is));
        hi_is = keeps.hi_is ∙ (was.hi_is ∙ ap (λ (x : FleetPassSight H F). x.hi) (sym at.view_is));
      }

      still_at : Keeps before after → IsPassOf old fleet → (place : ℕ) (l : LockSight H) (a : Sight H F)
          → slice_get fleet place ≡ Some l → slice_get (set cones cone after) place ≡ Some a → IsOwnPass changed l a
      still_at keeps is place l a l_is a_is = ⊎_elim
          (λ (e : place ≡ cone).
          subst (λ (x : Sight H F). IsOwnPass changed l x)
          (same_Some after a (sym (slice_get-set_same cones cone after within) ∙ (ap (slice_get (set cones cone after)) (sym e) ∙ a_is)))
          (subst (λ (x : LockSight H). IsOwnPass changed x after)
          (same_Some lock l (sym at.lock_is ∙ (ap (slice_get fleet) (sym e) ∙ l_is)))
          (own_still keeps is)))
          (λ (apart : place ≢ cone).
          let was = is.each place l a l_is (ap (λ (x : FleetPassSight H F). slice_get x.cones place) (sym at.view_is)
          ∙ (sym (slice_get-set_other cones cone place after apart) ∙ a_is)) in
          record {
            belongs = was.belongs;
            lo_is = was.lo_is ∙ ap (λ (x : FleetPassSight H F). x.lo) (sym at.view_is);
            hi_is = was.hi_is ∙ ap (λ (x : FleetPassSight H F). x.hi) (sym at.view_is);
          })
          (cases_eq place cone)

      pub still : Keeps before after → IsPassOf old fleet → IsPassOf changed fleet
      still keeps is = record {
        as_many = length-set cones cone after ∙ (ap (λ (x : FleetPassSight H F). length x.cones) at.view_is ∙ is.as_many);
        each = still_at keeps is;
      }
