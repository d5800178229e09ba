-- What two workers bring and leave.
use Rattle.std.proofs.{Common.{◌≡◌, ℕ, ◌+◌, ◌^◌, List, [], ◌∷◌, length, Option, Some, None, All, refl, sym, ap, ◌∙◌, subst, arith}, lemmas.List.Elements.{All-nil, All-cons}}
use Rattle.std.specs.Prelude.{slice_get, MatchOption}
use Rattle.lert_base.specs.{declared.cone_fault.ConeFault.ConeFault, declared.held.Held.Ghosts as HeldOf, Packet.Packet}
use Rattle.lert_fleet.specs.{Cones.{FleetSight, FleetPassSight, IsPassOf, IsWhole, JoinsEach}, Each.EachTwo}
use Rattle.lert_spec.specs.declared.numbers.Numbers.{Numbers}
use Rattle.lert_trace.specs.Reader.{Reading}
use Rattle.lert_worker.specs.Ran.{HasRun, IsGivenBack, Working}
use Rattle.lert_worker_tests.specs.Pairs.{ArePasses, HaveBothRun, IsStarted, MayBothRun}

-- of two, each
pub both : {A : Type 0} (P : A → Type 0) (a b : A) → P a → P b → All P (a ∷ b ∷ [])
both P a b first second = All-cons P a (b ∷ []) first (All-cons P b [] second (All-nil P))

pub each_of_two : {S H : Type 0} (remaining : S → Option (List ℕ)) (faults mark : S → ℕ) (fleet : FleetSight H) (a b c d : Working S H) (after : List (Working S H))
    → after ≡ c ∷ d ∷ []
    → EachTwo (HasRun remaining faults mark fleet) (a ∷ b ∷ []) after → HaveBothRun remaining faults mark fleet a b c d
each_of_two remaining faults mark fleet a b c d after are all = record {
  ran = all.each 0 a c refl (ap (λ ws. slice_get ws 0) are);
  other_ran = all.each 1 b d refl (ap (λ ws. slice_get ws 1) are);
}

-- the first of one trace handed back, none is left
pub none_left : {S H : Type 0} (old new : Working S H) (result : Option (ℕ × Reading S)) → length old.traces ≡ 1
    → MatchOption result ((old.traces ≡ []) × (old.readers ≡ []) × (new ≡ old)) (λ first. IsGivenBack first.0 first.1 old new) → new.traces ≡ []
none_left old new None one given = absurd (omega (arith, one, ap (length {A = ℕ}) given.0))
none_left old new (Some first) one given = empty new.traces (omega (arith, one, ap (length {A = ℕ}) given.traces_are))
  where
    empty : (traces : List ℕ) → length traces ≡ 0 → traces ≡ []
    empty [] none = refl
    empty (trace ∷ traces) none = absurd (omega (arith, none))

-- which keeps all else
pub kept_back : {S H : Type 0} (old new : Working S H) (result : Option (ℕ × Reading S))
    → MatchOption result ((old.traces ≡ []) × (old.readers ≡ []) × (new ≡ old)) (λ first. IsGivenBack first.0 first.1 old new) → (new.end ≡ old.end) × (new.pass ≡ old.pass)
kept_back {S} {H} old new None given = (ap (λ (w : Working S H). w.end) given.2, ap (λ (w : Working S H). w.pass) given.2)
kept_back {S} {H} old new (Some first) given = (ap (λ (w : Working S H). w.end) given.others_are, ap (λ (w : Working S H). w.pass) given.others_are)

module _ {H T R : Type 0} (held : HeldOf H T R ConeFault) (fleet : FleetSight H) (first second : FleetPassSight H ConeFault) (passes : ArePasses fleet first second) where
  -- joined, they have all numbers
  pub whole : (joined : FleetPassSight H ConeFault) → JoinsEach first second joined → IsWhole joined fleet
  whole joined joins = record {
    lo_is = joins.lo_is ∙ passes.lo_is;
    hi_is = λ cone lock is. joins.hi_is ∙ passes.other_hi_is ∙ sym (passes.all cone lock is);
  }

  -- both may run where every packet fits every state
  pub may_run : {S : Type 0} (settings : Numbers) → length fleet ≡ 2 ^ settings.cone_bits → ((state : H) (packet : Packet) → held.fits (held.terms state) packet)
      → (worker other : Working S H) → IsStarted 0 settings first worker → IsStarted 1 settings second other → MayBothRun held fleet worker other
  may_run settings cones fits worker other started other_started = record {
    may = record {
      belongs = subst (λ (p : FleetPassSight H ConeFault). IsPassOf p fleet) (sym started.pass_is) passes.belongs;
      lo_is = ap (λ (p : FleetPassSight H ConeFault). p.lo) started.pass_is ∙ passes.lo_is ∙ sym started.number_is;
      hi_is = ap (λ (p : FleetPassSight H ConeFault). p.hi) started.pass_is ∙ passes.hi_is ∙ ap (λ n. n + 1) (sym started.number_is);
      number_most = omega (arith, started.number_is);
      cones = cones ∙ ap (λ (s : Numbers). 2 ^ s.cone_bits) (sym started.settings_is);
      fits = λ cone lock is packet journaled. fits lock.first packet;
    };
    other_may = record {
      belongs = subst (λ (p : FleetPassSight H ConeFault). IsPassOf p fleet) (sym other_started.pass_is) passes.other_belongs;
      lo_is = ap (λ (p : FleetPassSight H ConeFault). p.lo) other_started.pass_is ∙ passes.other_lo_is ∙ sym other_started.number_is;
      hi_is = ap (λ (p : FleetPassSight H ConeFault). p.hi) other_started.pass_is ∙ passes.other_hi_is ∙ ap (λ n. n + 1) (sym other_started.number_is);
      number_most = omega (arith, other_started.number_is);
      cones = cones ∙ ap (λ (s : Numbers). 2 ^ s.cone_bits) (sym other_started.settings_is);
      fits = λ cone lock is packet journaled. fits lock.first packet;
    };
  }

  -- and leave passes like those
  pub passes_after : {S : Type 0} (remaining : S → Option (List ℕ)) (faults mark : S → ℕ) (settings : Numbers) (worker other worker_after other_after : Working S H)
      → IsStarted 0 settings first worker → IsStarted 1 settings second other → HaveBothRun remaining faults mark fleet worker other worker_after other_after
      → ArePasses fleet worker_after.pass other_after.pass
  passes_after remaining faults mark settings worker other worker_after other_after started other_started both_ran = record {
    belongs = both_ran.ran.belongs;
    other_belongs = both_ran.other_ran.belongs;
    lo_is = both_ran.ran.lo_is ∙ ap (λ (p : FleetPassSight H ConeFault). p.lo) started.pass_is ∙ passes.lo_is;
    hi_is = both_ran.ran.hi_is ∙ ap (λ (p : FleetPassSight H ConeFault). p.hi) started.pass_is ∙ passes.hi_is;
    other_lo_is = both_ran.other_ran.lo_is ∙ ap (λ (p : FleetPassSight H ConeFault). p.lo) other_started.pass_is ∙ passes.other_lo_is;
    other_hi_is = both_ran.other_ran.hi_is ∙ ap (λ (p : FleetPassSight H ConeFault). p.hi) other_started.pass_is ∙ passes.other_hi_is;
    all = passes.all;
  }
