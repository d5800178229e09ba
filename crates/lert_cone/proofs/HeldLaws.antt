-- What `admit` is under a lock: how it answers and refuses by the cone's terms.
use Rattle.std.proofs.Common.{◌≡◌, true, List, Some, Result, Ok, Err, sym, ap, refl, ◌∙◌, inl, inr, ◌⊎◌, arith}
use Rattle.std.specs.Prelude.{IfOk, IfErr, IsTrue}
use Rattle.lert_base.specs.{Packet.Packet, declared.cone_fault.ConeFault.ConeFault}
use Rattle.lert_base.specs.declared.cone_fault.ConeFault.TheVariants.{Closed, Broken, CapacityFull, WeightFull, OldJournal, BayFailed, Unsound}
use Rattle.lert_bay.specs.{Files.Turns, Kept.Bays}
use Rattle.lert_cone.specs.{declared.acked.Acked.Acked, declared.state.ConeState.ConeState, declared.state.ConeState.TheVariants.{Running, Finished, BrokenByBay, BrokenByRead}}
use Rattle.lert_cone.specs.{Locked.{AnswersUnder, RefusesUnder, is_stopped}, Stands.{Standing, StandsFor, Answers, is_broken, terms_of}, Wrote.Anything}
use Rattle.lert_cone.proofs.Admits.{Admits}

stopped_if : (state : ConeState) → is_broken state ≡ true → is_stopped state ≡ true
stopped_if Running broken = broken
stopped_if Finished broken = refl
stopped_if BrokenByBay broken = refl
stopped_if (BrokenByRead file at) broken = refl

module _ {B : Type 0} (bays : Bays B) (packet : Packet) (old new : Standing B) where
  pub answers_under : Turns Anything (bays.files old.made) (bays.files old.bay) → (result : Result Acked ConeFault)
      → IfOk result (λ acked. (h : List Packet) → StandsFor bays.files bays.leaves bays.faults old h → Answers bays.files old h packet acked)
      → IfOk result (λ acked. (h : List Packet) → StandsFor bays.files bays.leaves bays.faults old h → AnswersUnder bays.files (terms_of bays.faults bays.mark old) h packet acked)
  answers_under tells (Ok acked) answers = λ h stands.
      let at_bay = answers h stands in
      record {
        from_is = at_bay.from_is;
        to_is = at_bay.to_is;
        reports_are = λ sound first told. let now = tells.told first told in at_bay.reports_are sound now.0 now.1;
      }
  answers_under tells (Err fault) answers = tt

  -- what a refusal leaves of the state, and of what is left over
  abbrev Left : Type 0
  Left = IsTrue (is_stopped new.state) × ((new.over ≡ old.over) ⊎ (new.over ≡ Some packet))

  unchanged : new ≡ old → is_stopped old.state ≡ true → Left
  unchanged same stopped = (ap (λ (v : Standing B). is_stopped v.state) same ∙ stopped, inl (ap (λ (v : Standing B). v.over) same))

  broke : is_broken new.state ≡ true → new.over ≡ Some packet → Left
  broke broken over = (stopped_if new.state broken, inr over)

  pub refuses_under : (result : Result Acked ConeFault) → Admits bays packet old new result
      → IfErr result (λ fault. (h : List Packet) → StandsFor bays.files bays.leaves bays.faults old h →
      (RefusesUnder (terms_of bays.faults bays.mark old) h packet fault × (is_stopped new.state ≡ is_stopped old.state) × (new.over ≡ old.over))
      ⊎ (IsTrue (is_stopped new.state) × ((new.over ≡ old.over) ⊎ (new.over ≡ Some packet))))
  refuses_under (Ok acked) did = tt
  refuses_under (Err Closed) did = λ h stands. inr (unchanged (did.step.unchanged refl) (ap is_stopped (did.step.closed.0 refl)))
  refuses_under (Err Broken) did = λ h stands. inr (unchanged (did.step.unchanged refl) (stopped_if old.state (did.step.broken.0 refl)))
  refuses_under (Err (CapacityFull n len)) did = λ h stands.
      let why = (did.full n len).0 refl in
      inl (
        (why.1 ∙ sym stands.counted, why.2, omega (arith, why.1, why.2, why.3, stands.counted)),
        ap (λ (v : Standing B). is_stopped v.state) (did.step.unchanged refl),
        ap (λ (v : Standing B). v.over) (did.step.unchanged refl),
      )
  refuses_under (Err (WeightFull weight more)) did = λ h stands.
      let why = (did.weight_full weight more).0 refl in
      let weighs = stands.weighed (ap is_broken why.0) in
      inl (
        (why.1 ∙ sym weighs, why.2, omega (arith, why.3, stands.counted), omega (arith, why.1, why.2, why.4, weighs)),
        ap (λ (v : Standing B). is_stopped v.state) (did.step.unchanged refl),
        ap (λ (v : Standing B). v.over) (did.step.unchanged refl),
      )
  refuses_under (Err (OldJournal place)) did = λ h stands.
      let why = (did.old_journal place).0 refl in
      let weighs = stands.weighed (ap is_broken why.0) in
      inl (
        (omega (arith, why.1, stands.counted), omega (arith, why.2, weighs), why.3, why.4),
        ap (λ (v : Standing B). is_stopped v.state) (did.step.unchanged refl),
        ap (λ (v : Standing B). v.over) (did.step.unchanged refl),
      )
  refuses_under (Err BayFailed) did = λ h stands. inr (broke (ap is_broken (did.step.bay_failed refl).0) (ap (λ (v : Standing B). v.over) (did.broke refl)))
  refuses_under (Err (Unsound file at)) did = λ h stands. inr (broke (ap is_broken (did.step.unsound file at refl).0) (ap (λ (v : Standing B). v.over) (did.broke refl)))
