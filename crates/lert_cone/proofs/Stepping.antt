-- What a call that steps a cone on says of its refusals and of the bay: at each of its three exits.
use Rattle.std.proofs.{Common.{◌≡◌, ◌≤◌, ℕ, true, List, Result, Ok, Err, IsErrOf, refl, sym, ap, ◌∙◌, subst}, lemmas.Bool.false≢true}
use Rattle.std.specs.Prelude.{◌↔◌, ◌≢◌}
use Rattle.lert_base.specs.{Packet.Packet, declared.cone_fault.ConeFault.ConeFault, declared.cone_fault.ConeFault.TheVariants.{Closed, Broken}}
use Rattle.lert_bay.specs.{Files.{Files, IfTold, Turns}, Kept.{Bays, KeepsBay}, declared.bay.TheConstants.FRAMES}
use Rattle.lert_bay.proofs.KeptLaws.{IsLawful, keeps_as, keeps_none}
use Rattle.lert_io.specs.Fault.{HasRisen}
use Rattle.lert_io.proofs.Rising.{risen_since}
use Rattle.lert_spec.specs.declared.numbers.Numbers.{Numbers}
use Rattle.lert_cone.specs.{declared.state.ConeState.TheVariants.{Running, Finished}, declared.tally.TakeFault.TakeFault}
use Rattle.lert_cone.specs.declared.tally.TakeFault.TheVariants.{Failed as TakeFailed, Unsound as TakeUnsound}
use Rattle.lert_cone.specs.{Sound.{IsKept, IsSoundOver}, Stands.{Standing, IsSameCone, IsWhole, is_broken, is_refusal, broken_by, cone_fault}, Steps.StepsCone, Tally.Shows, Wrote.Anything}
use Rattle.lert_cone.proofs.{FaultLaws.{by_bay_of, by_read_of, failed_of, is_broken_by, kept_since, no_refusal, turns_as, unsound_of, untold}, SoundLaws.turns_back}
use Rattle.lert_cone.proofs.{Refusals.{fault_as, no_failed, no_fault, no_unsound, one_fault}, StandLaws.stands_broken, StateLaws.{broke_broken, broke_closed, passed_broken, passed_closed}}
use Rattle.lert_cone.specs.Stands.{StandsFor}

-- what a test says of its fault is so of that of the call
pub same_fault : {T U A : Type 0} {tested : Result T ConeFault} {fault y : ConeFault} → tested ≡ Err fault → ◌↔◌ (IsErrOf tested y) A → ◌↔◌ (IsErrOf {T = U} (Err fault) y) A
same_fault {A = A} {fault = fault} {y = y} is either = fault_as fault y (subst (λ (r : Result _ ConeFault). ◌↔◌ (IsErrOf r y) A) is either)

module _ {B : Type 0} {bays : Bays B} (lawful : IsLawful bays) {old : Standing B} where
  -- a refusal before the first step
  pub refuses : {T U : Type 0} {tested : Result T ConeFault} {fault : ConeFault} → tested ≡ Err fault → ◌↔◌ (IsErrOf tested Closed) (old.state ≡ Finished) →
      ◌↔◌ (IsErrOf tested Broken) (is_broken old.state ≡ true) → is_refusal fault ≡ true → StepsCone {T = U} bays old old (Err fault)
  refuses {fault = fault} is closed broken refusal = record {
    same_cone = record { settings = refl; cone = refl; made = refl; last = refl };
    stays = λ h stands. stands;
    unchanged = λ _. refl;
    closed = same_fault is closed;
    broken = same_fault is broken;
    bay_failed = λ same. absurd (no_failed fault refusal same);
    unsound = λ file at same. absurd (no_unsound fault refusal file at same);
    shows = λ file at same. absurd (no_unsound fault refusal file at same);
    seen = turns_as refl;
    kept = keeps_none bays lawful old.bay _ (no_failed fault refusal);
  }

  module _ {new : Standing B} (same : IsSameCone old new) (running : old.state ≡ Running) (seen : Turns Anything (bays.files old.bay) (bays.files new.bay)) where
    -- the call did all
    pub passes : {T Failed : Type 0} {value : T} → KeepsBay bays old.bay new.bay Failed → StepsCone bays old new (Ok value)
    passes kept = record {
      same_cone = same;
      stays = tt;
      unchanged = tt;
      closed = passed_closed old.state running;
      broken = passed_broken old.state running;
      bay_failed = λ given. absurd (no_fault given);
      unsound = λ file at given. absurd (no_fault given);
      shows = λ file at given. absurd (no_fault given);
      seen = seen;
      kept = keeps_as bays lawful old.bay new.bay _ _ (λ given. absurd (no_fault given)) kept;
    }

    -- it breaks off in the middle
    pub breaks : {T U : Type 0} {fault : TakeFault} {given : Result U ConeFault} → new.state ≡ broken_by fault → given ≡ Err (cone_fault fault) → new.events ≡ old.events →
        bays.faults old.made ≤ bays.faults old.bay → KeepsBay bays old.bay new.bay (IsErrOf {T = T} (Err fault) TakeFailed) →
        ((image : Files) → bays.leaves new.bay image → bays.left_since new.bay (bays.moment old.bay) image) →
        IfTold (bays.files old.bay) (λ was. (h : List Packet) → StandsFor bays.files bays.leaves bays.faults old h → IsWhole (bays.leaves old.bay) was old.listing old.rows old.reports old.gate
        old.log h →
        (file at : ℕ) → ◌≢◌ {A = Result T TakeFault} (Err fault) (Err (TakeUnsound file at))) →
        IfTold (bays.files old.bay) (λ was. (h : List Packet) → StandsFor bays.files bays.leaves bays.faults old h → IsWhole (bays.leaves old.bay) was old.listing old.rows old.reports old.gate
        old.log h →
        (image : Files) → bays.left_since new.bay (bays.moment old.bay) image → IsSoundOver old.listing.settings old.listing.cone h new.over image) →
        IfTold (bays.files new.bay) (λ then. (file at : ℕ) → IsErrOf {T = T} (Err fault) (TakeUnsound file at) →
        Shows new.listing.version new.listing.settings new.rows new.reports (then FRAMES) file at) →
        StepsCone bays old new given
    breaks {fault = fault} state_is given_is events_are risen kept now sound each shows = subst (StepsCone bays old new) (sym given_is) (record {
      same_cone = same;
      stays = λ h stands. stands_broken same (ap is_broken state_is ∙ is_broken_by fault) events_are
          (λ by_bay. subst (λ (made : B). HasRisen (bays.faults made) (bays.faults new.bay)) (sym same.made) (risen_since (bays.faults old.made) (bays.faults old.bay) (bays.faults new.bay)
          risen kept.never_falls (kept.failed (ap Err (by_bay_of fault (sym state_is ∙ by_bay))))))
          (λ file at by_read was_sound. seen.untold (untold (bays.files old.bay) (λ was told. sound was told h stands (stands.whole (ap is_broken running) was_sound was told) file at
          (ap Err (by_read_of fault file at (sym state_is ∙ by_read))))))
          (λ was_sound then told.
          let was = turns_back seen then told in
          subst (λ (s : Numbers). IsKept (bays.leaves new.bay) then (IsSoundOver s new.listing.cone h new.over)) (sym same.settings)
          (subst (λ (cone : ℕ). IsKept (bays.leaves new.bay) then (IsSoundOver old.listing.settings cone h new.over)) (sym same.cone)
          (kept_since (lawful.as_read new.bay then told) now (each was.0 was.1 h stands (stands.whole (ap is_broken running) was_sound was.0 was.1)))))
          stands;
      unchanged = λ refusal. absurd (false≢true (sym (no_refusal fault) ∙ refusal));
      closed = broke_closed (cone_fault fault) old.state (no_refusal fault) running;
      broken = broke_broken (cone_fault fault) old.state (no_refusal fault) running;
      bay_failed = λ given. let is = failed_of fault (one_fault given) in (state_is ∙ ap broken_by is, kept.failed (ap Err is));
      unsound = λ file at given.
          let is = unsound_of fault file at (one_fault given) in (
            state_is ∙ ap broken_by is,
            λ h stands was_sound. untold (bays.files old.bay) (λ was told. sound was told h stands (stands.whole (ap is_broken running) was_sound was told) file at (ap Err is)),
          );
      shows = λ file at given then told. shows then told file at (ap Err (unsound_of fault file at (one_fault given)));
      seen = seen;
      kept = keeps_as bays lawful old.bay new.bay _ _ (λ given. ap Err (failed_of fault (one_fault given))) kept;
    })
