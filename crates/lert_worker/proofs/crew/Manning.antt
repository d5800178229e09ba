-- A crew before its run, and what a run leaves of it.
use Rattle.std.proofs.{Common.{◌≡◌, ℕ, ◌+◌, ◌≤◌, zero, suc, List, [], ◌∷◌, ◌++◌, length, take, Option, Some, slice_get, refl, ap, sym, ◌∙◌, subst, arith}, lemmas.Option.slice_get_within}
use Rattle.lert_fleet.proofs.Places.{some_at}
use Rattle.lert_fleet.specs.{Cones.FleetSight, Each.EachTwo}
use Rattle.lert_spec.specs.declared.numbers.Numbers.{Numbers}
use Rattle.lert_worker.specs.Ran.{HasRun, Working}
use Rattle.lert_trace.specs.Reader.{Reading}
use Rattle.lert_worker.specs.crew.{Passes.{AllQuiet, AreDone, AreInLine, IsPassFrom, IsQuiet}, Ready.AreReady, Shares.IsShare, Sharing.{AreFree, AreManned, AreShared, WereTaken}}

module _ {S H : Type 0} where
  -- workers that were hired have no trace
  pub free_in_line : (fleet : FleetSight H) (s : Numbers) (crew : List (Working S H)) → AreInLine fleet s crew → AreFree crew
  free_in_line fleet s crew hired = λ by worker is. let one = hired by worker is in (one.no_trace, one.no_reader)

  -- with their shares they are ready
  pub ready : (fleet : FleetSight H) (s : Numbers) (count : ℕ) (all : List (Reading S)) (olds news : List (Working S H)) → AreInLine fleet s olds → AreManned count all olds news →
      AreReady fleet s count all news
  ready fleet s count all olds news hired manned = λ by worker is.
      let old = some_at olds by (let n = manned.number in let w = slice_get_within news by worker is in omega (arith, n, w)) in
      let one = hired by old.0 old.1 in
      let has = manned.each by old.0 worker old.1 is in
      record {
        number_is = ap (λ (w : Working S H). w.number) has.kept ∙ one.number_is;
        settings_is = ap (λ (w : Working S H). w.settings) has.kept ∙ one.settings_is;
        pass_is = subst (λ (w : Working S H). IsPassFrom fleet by (by + 1) w.pass) (sym has.kept) one.pass_is;
        quiet = subst (λ (w : Working S H). IsQuiet w.pass) (sym has.kept) one.quiet;
        share = subst (λ n. IsShare n count by worker.traces) (sym manned.number) has.share;
        as_many = has.as_many;
        readers = has.readers;
      }

  pub ready_shared : (fleet : FleetSight H) (s : Numbers) (count : ℕ) (all : List (Reading S)) (crew : List (Working S H)) → AreReady fleet s count all crew → AreShared count crew
  ready_shared fleet s count all crew are = λ by worker is. let one = are by worker is in (one.share, one.as_many)

  -- a run leaves shares and readers
  pub shared_still : (remaining : S → Option (List ℕ)) (faults mark : S → ℕ) (fleet : FleetSight H) (count : ℕ) (olds mids : List (Working S H)) →
      EachTwo (HasRun remaining faults mark fleet) olds mids → AreShared count olds → AreShared count mids
  shared_still remaining faults mark fleet count olds mids ran shared = λ by worker is.
      let old = some_at olds by (let n = ran.as_many in let w = slice_get_within mids by worker is in omega (arith, n, w)) in
      let one = ran.each by old.0 worker old.1 is in
      let was = shared by old.0 old.1 in (
        subst (λ n. IsShare n count by worker.traces) (sym ran.as_many) (subst (IsShare (length olds) count by) (sym one.traces_are) was.0),
        one.read.as_many.0 ∙ (was.1 ∙ ap (λ (xs : List ℕ). length xs) (sym one.traces_are)),
      )

  -- once all readers are taken back, the passes can be put together
  pub done_taken : (fleet : FleetSight H) (count : ℕ) (olds news : List (Working S H)) (back : List (Reading S)) → WereTaken count olds news back →
      ((by : ℕ) (old : Working S H) → slice_get olds by ≡ Some old → IsPassFrom fleet by (by + 1) old.pass) → AreDone fleet news
  done_taken fleet count olds news back taken passes = λ by worker is.
      let old = some_at olds by (let n = taken.number in let w = slice_get_within news by worker is in omega (arith, n, w)) in (
        taken.none_left by worker is,
        subst (λ (w : Working S H). IsPassFrom fleet by (by + 1) w.pass) (sym (taken.kept by old.0 worker old.1 is)) (passes by old.0 old.1),
      )

  pub quiet_taken : (count : ℕ) (olds news : List (Working S H)) (back : List (Reading S)) → WereTaken count olds news back → AllQuiet olds → AllQuiet news
  quiet_taken count olds news back taken quiet = λ by worker is.
      let old = some_at olds by (let n = taken.number in let w = slice_get_within news by worker is in omega (arith, n, w)) in
      subst (λ (w : Working S H). IsQuiet w.pass) (sym (taken.kept by old.0 worker old.1 is)) (quiet by old.0 old.1)

  -- after a run each still has its pass
  pub ran_passes : (remaining : S → Option (List ℕ)) (faults mark : S → ℕ) (fleet : FleetSight H) (s : Numbers) (count : ℕ) (all : List (Reading S)) (olds mids : List (Working S H)) →
      EachTwo (HasRun remaining faults mark fleet) olds mids → AreReady fleet s count all olds → (by : ℕ) (mid : Working S H) → slice_get mids by ≡ Some mid
      → IsPassFrom fleet by (by + 1) mid.pass
  ran_passes remaining faults mark fleet s count all olds mids ran are = λ by mid is.
      let old = some_at olds by (let n = ran.as_many in let w = slice_get_within mids by mid is in omega (arith, n, w)) in
      let one = ran.each by old.0 mid old.1 is in
      let was = (are by old.0 old.1).pass_is in
      record { belongs = one.belongs; lo_is = one.lo_is ∙ was.lo_is; hi_is = one.hi_is ∙ was.hi_is }

-- a list whose front was written over, as far as it is shown
pub front_is : {A : Type 0} (xs ys : List A) (n : ℕ) → length xs ≡ n → take n (xs ++ ys) ≡ xs
front_is [] ys n long = ap (λ k. take k ys) (sym long) ∙ refl
front_is (x ∷ xs) ys zero long = absurd (omega (arith, long))
front_is (x ∷ xs) ys (suc n) long = ap (λ zs. x ∷ zs) (front_is xs ys n (omega (arith, long)))

module _ {S H : Type 0} (fleet : FleetSight H) (s : Numbers) (workers : ℕ) where
  -- workers that were hired and manned, as lists that are the same
  pub ready_now : (count : ℕ) (all : List (Reading S)) (lined olds news : List (Working S H)) → olds ≡ lined → AreInLine fleet s lined → AreManned count all olds news
      → AreReady fleet s count all news
  ready_now count all lined olds news same hired manned = ready fleet s count all olds news (subst (AreInLine fleet s) (sym same) hired) manned

  pub ready_passes : (count : ℕ) (all : List (Reading S)) (crew : List (Working S H)) → AreReady fleet s count all crew → (by : ℕ) (worker : Working S H) → slice_get crew by ≡ Some
      worker →
      IsPassFrom fleet by (by + 1) worker.pass
  ready_passes count all crew are by worker is = (are by worker is).pass_is

  pub ready_quiet : (count : ℕ) (all : List (Reading S)) (crew : List (Working S H)) → AreReady fleet s count all crew → AllQuiet crew
  ready_quiet count all crew are = λ by worker is. (are by worker is).quiet

pub some_front : {A : Type 0} (xs ys : List A) (n : ℕ) → length xs ≡ n → 1 ≤ length xs → 1 ≤ length (take n (xs ++ ys))
some_front xs ys n long some = let same = ap (λ zs. length zs) (front_is xs ys n long) in omega (arith, same, some)
