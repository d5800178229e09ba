-- What a crew hands back: readers and states, as they were or as its run left them.
use Rattle.std.proofs.Common.{◌≡◌, ◌⊎◌, ℕ, ◌%◌, ◌^◌, ◌<◌, ◌≤◌, eqb, zero, suc, List, [], ◌∷◌, ◌++◌, length, drop, take, get_or, Some, None, slice_get, refl, ap, sym, ◌∙◌, subst, inl, inr, arith}
use Rattle.std.proofs.{Common.{lit<, min}, Math.Nat.{le-min, min-le_left, one-le-pow, pow-le-pow_right}}
use Rattle.std.proofs.{lemmas.Bool.eq-eqb, lemmas.List.{length-map, length-take, take-append-drop}, lemmas.List.Elements.Contains-get_or}
use Rattle.std.proofs.lemmas.Option.{none-some, same_Some, slice_get-get_or, slice_get_within}
use Rattle.std.specs.Prelude.{All, Contains}
use Rattle.lert_base.specs.{declared.held.Held.{Ghosts as HeldOf}, Packet.{Packet, own}, declared.cone_fault.ConeFault.ConeFault}
use Rattle.lert_conelock.proofs.Contained.{Contains-filter, Contains-filter_back}
use Rattle.lert_conelock.specs.Sight.{Closed, LockSight, Sight, own_refused}
use Rattle.lert_fleet.proofs.Places.{image_at, some_at}
use Rattle.lert_fleet.specs.Cones.{ClosesEach, FleetPassSight, FleetSight, IsFleetOf, IsPassOf, IsWhole, first_passes}
use Rattle.lert_spec.specs.{declared.numbers.Numbers.Numbers, Limits.IsValid}
use Rattle.lert_trace.specs.Reader.{Reading}
use Rattle.lert_worker.specs.{Brings.MayBring, Ran.{MayRun, Working}}
use Rattle.lert_worker.specs.crew.{Crewed.{IsBack, IsLeftOver}, Passes.{AllQuiet, Brought, EachShows, IsPassFrom, IsQuiet, Shows, Turned}, Ready.{AllFit, AreReady, firsts_of}}
use Rattle.lert_worker.specs.crew.Sharing.{AreManned, WereTaken}
use Rattle.lert_worker.proofs.crew.{Lists.{same_lists, taken_at}, Passing.quiet_first}

-- ---- before a run

-- the first pass of a fleet has all numbers, and was never used
module _ {H : Type 0} (workers : ℕ) (fleet : FleetSight H) (pass : FleetPassSight H ConeFault) (is : pass ≡ first_passes workers fleet) where
  pub first_from : IsPassOf pass fleet → IsPassFrom fleet 0 workers pass
  first_from belongs = record { belongs = belongs; lo_is = ap (λ (p : FleetPassSight H ConeFault). p.lo) is; hi_is = ap (λ (p : FleetPassSight H ConeFault). p.hi) is }

  pub first_quiet : IsQuiet pass
  first_quiet = subst IsQuiet (sym is) (quiet_first workers fleet)

-- there are 1 to 256 cones
pub few_cones : (s : Numbers) → IsValid s → (cones : ℕ) → cones ≡ 2 ^ s.cone_bits → (1 ≤ cones) × (cones ≤ 256)
few_cones s valid cones number = (
  let some = one-le-pow s.cone_bits 2 (omega arith) in omega (arith, number, some),
  let few = pow-le-pow_right {n = 2} (lit< tt) {i = s.cone_bits} {j = 8} valid.limits.cone_bits_to in omega (arith, number, few),
)

-- and 1 to 64 workers that have a trace
pub some_busy : (busy workers traces : ℕ) → busy ≡ min workers traces → 1 ≤ workers → 1 ≤ traces → 1 ≤ busy
some_busy busy workers traces is one some = let least = le-min one some in omega (arith, is, least)

pub few_busy : (busy workers traces : ℕ) → busy ≡ min workers traces → workers ≤ 64 → busy ≤ 64
few_busy busy workers traces is most = let less = min-le_left workers traces in omega (arith, is, less, most)

-- a fleet of some states
module _ {H T R F : Type 0} (held : HeldOf H T R F) (s : Numbers) (states : List H) (workers : ℕ) (fleet : FleetSight H) (of : IsFleetOf states workers fleet) where
  pub as_many : length fleet ≡ length states
  as_many = sym (length-map fleet (λ lock. lock.first)) ∙ ap (λ (xs : List H). length xs) of.firsts

  pub all_fit : AllFit held s states → AllFit held s (firsts_of fleet)
  all_fit = subst (AllFit held s) (sym of.firsts)

-- a fleet that was closed with no call made
pub closed_quiet : {H T R : Type 0} (held : HeldOf H T R ConeFault) (fleet : FleetSight H) (pass : FleetPassSight H ConeFault) (backs : List H) → ClosesEach held fleet pass backs
    → IsQuiet pass →
    backs ≡ firsts_of fleet
closed_quiet held fleet pass backs closes quiet =
    same_lists backs (firsts_of fleet) (closes.as_many.1 ∙ sym (length-map fleet (λ lock. lock.first))) (λ k x y is there.
    let lock = image_at (λ (l : LockSight _). l.first) fleet k y there in
    let own = some_at pass.cones k (let n = closes.as_many.0 in let w = slice_get_within fleet k lock.0 lock.1 in omega (arith, n, w)) in
    let closed = closes.each k lock.0 own.0 x lock.1 own.1 is in
    closed.untouched (quiet.calls k own.0 own.1) (quiet.refused k own.0 own.1) ∙ lock.2)

-- a pass of all numbers
pub is_whole : {H : Type 0} (fleet : FleetSight H) (workers : ℕ) (pass : FleetPassSight H ConeFault) → IsPassFrom fleet 0 workers pass →
    ((cone : ℕ) (lock : LockSight H) → slice_get fleet cone ≡ Some lock → lock.numbers ≡ workers) → IsWhole pass fleet
is_whole fleet workers pass is numbers = record { lo_is = is.lo_is; hi_is = λ cone lock there. is.hi_is ∙ sym (numbers cone lock there) }

-- readers that were given and taken back, and the others behind them
pub back_again : {S H : Type 0} (given : ℕ) (firsts : List (Reading S)) (olds mids news : List (Working S H)) (taken_back rest all : List (Reading S)) → 1 ≤ length olds → given < length firsts →
    AreManned given firsts olds mids → WereTaken given mids news taken_back → rest ≡ drop given firsts → all ≡ taken_back ++ rest → all ≡ firsts
back_again given firsts olds mids news taken_back rest all some less manned taken rest_is all_is =
    all_is ∙ (ap (λ xs. taken_back ++ xs) rest_is ∙ (ap (λ xs. xs ++ drop given firsts) fronts ∙ take-append-drop given firsts))
  where
    each : (k : ℕ) (x y : _) → slice_get taken_back k ≡ Some x → slice_get (take given firsts) k ≡ Some y → x ≡ y
    each k x y is there =
        let below : k < given = (let w = slice_get_within taken_back k x is in let n = taken.taken in omega (arith, w, n)) in
        let old = some_at olds (k % length olds) (omega (arith, some)) in
        let mid = some_at mids (k % length olds) (let n = manned.number in let w = slice_get_within olds (k % length olds) old.0 old.1 in omega (arith, n, w)) in
        let one = manned.each (k % length olds) old.0 mid.0 old.1 mid.1 in
        let place = one.share.all k below refl in
        let reader = one.readers place.0 k place.1 in
        let got = taken.readers_are (k % length olds) place.0 k mid.0 reader.0 mid.1 place.1 reader.2 in
        same_Some x reader.0 (sym is ∙ got) ∙ same_Some reader.0 y (sym reader.1 ∙ taken_at given firsts k y there)

    fronts : taken_back ≡ take given firsts
    fronts = same_lists taken_back (take given firsts) (let n = taken.taken in let m = length-take given firsts in omega (arith, n, m, less)) each

-- what puts the passes of a list together says it of the same list by another name
module _ {S H : Type 0} (fleet : FleetSight H) (workers : ℕ) (items news : List (Working S H)) (same : items ≡ news) (size : length news ≡ workers) (pass : FleetPassSight H ConeFault) where
  pub pass_all : IsPassFrom fleet 0 (length items) pass → IsPassFrom fleet 0 workers pass
  pass_all is = subst (λ n. IsPassFrom fleet 0 n pass) (ap (λ (xs : List (Working S H)). length xs) same ∙ size) is

  pub quiet_all : (AllQuiet items → IsQuiet pass) → AllQuiet news → IsQuiet pass
  quiet_all joins quiet = joins (subst AllQuiet (sym same) quiet)

  pub shows_all : (brought : Brought) (turned : Turned) → (EachShows brought turned items → Shows brought turned 0 (length items) pass) → EachShows brought turned news
      → Shows brought turned 0 workers pass
  shows_all brought turned joins shows = subst (λ n. Shows brought turned 0 n pass) (ap (λ (xs : List (Working S H)). length xs) same ∙ size)
      (joins (subst (EachShows brought turned) (sym same) shows))

-- ---- a run

-- each worker may run
module _ {S H T R : Type 0} (held : HeldOf H T R ConeFault) (fleet : FleetSight H) (s : Numbers) (count : ℕ) (all : List (Reading S)) (olds : List (Working S H))
    (are : AreReady fleet s count all olds) where
  pub may_run : length olds ≤ 64 → length fleet ≡ 2 ^ s.cone_bits → AllFit held s (firsts_of fleet) → All (MayRun held fleet) olds
  may_run most cones_are fits = λ k d below.
      let one = are k (get_or olds k d) (slice_get-get_or olds k d below) in
      record {
        belongs = one.pass_is.belongs;
        lo_is = one.pass_is.lo_is ∙ sym one.number_is;
        hi_is = (let h = one.pass_is.hi_is in let n = one.number_is in omega (arith, h, n));
        number_most = (let n = one.number_is in omega (arith, n, below, most));
        cones = cones_are ∙ ap (λ (t : Numbers). 2 ^ t.cone_bits) (sym one.settings_is);
        fits = λ cone lock lock_is packet may. fits.each cone lock.first (mapped fleet cone lock lock_is) packet (subst (λ (t : Numbers). MayBring t cone packet) one.settings_is may);
      }
    where
      mapped : (locks : FleetSight H) (k : ℕ) (l : LockSight H) → slice_get locks k ≡ Some l → slice_get (firsts_of locks) k ≡ Some l.first
      mapped [] k l is = absurd (none-some l is)
      mapped (x ∷ locks) zero l is = ap (λ (y : LockSight H). Some y.first) (same_Some x l is)
      mapped (x ∷ locks) (suc k) l is = mapped locks k l is

-- a state that came back from its lock
module _ {H T R : Type 0} (held : HeldOf H T R ConeFault) (workers : ℕ) (added : ℕ → List Packet) (turned : ℕ → List (Packet × ConeFault)) (closed : H)
    (lock : LockSight H) (numbers_are : lock.numbers ≡ workers) (pass : Sight H ConeFault)
    (calls : (by : ℕ) → by < workers → own pass.calls by ≡ added by) (refused : (by : ℕ) → by < workers → own_refused pass.refused by ≡ turned by)
    (closes : Closed held lock pass closed) where
  -- what the pass of all shows as refused is shown of its number
  turned_at : (e : Packet) (f : ConeFault) → Contains pass.refused (e, f) → e.by < workers → Contains (turned e.by) (e, f)
  turned_at e f has below = subst (λ (xs : List (Packet × ConeFault)). Contains xs (e, f)) (refused e.by below)
      (Contains-filter (λ r. eqb r.0.by e.by) pass.refused (e, f) has (eq-eqb e.by e.by refl))

  shown : (by : ℕ) → by < workers → (e : Packet) (f : ConeFault) → Contains (turned by) (e, f) → Contains pass.refused (e, f)
  shown by below e f has = (Contains-filter_back (λ r. eqb r.0.by by) pass.refused (e, f) (subst (λ (xs : List (Packet × ConeFault)). Contains xs (e, f)) (sym (refused by below)) has)).0

  left_over : (held.over closed ≡ None) ⊎ ((held.over closed ≡ held.over lock.first)
      ⊎ ((e : Packet) × (f : ConeFault) × (held.over closed ≡ Some e) × (e.by < lock.numbers) × Contains pass.refused (e, f))) →
      IsLeftOver held workers turned lock.first closed
  left_over (inl none) = inl none
  left_over (inr (inl same)) = inr (inl same)
  left_over (inr (inr left)) =
      let below : left.0.by < workers = subst (λ n. left.0.by < n) numbers_are left.3 in
      inr (inr (left.0, left.1, left.2, below, turned_at left.0 left.1 left.4 below))

  pub is_back : IsBack held workers added turned lock.first closed
  is_back = record {
    history = closes.history;
    own_are = λ by below. closes.calls by (subst (λ n. by < n) (sym numbers_are) below) ∙ calls by below;
    numbered = λ k d below. subst (λ n. (get_or closes.history k d).by < n) numbers_are (closes.numbered _ (Contains-get_or closes.history k d below));
    stands = closes.stands;
    terms_are = closes.terms_are;
    over_is = left_over closes.over_is;
    refusals = λ by below e f has. closes.refusals e f (shown by below e f has);
  }
