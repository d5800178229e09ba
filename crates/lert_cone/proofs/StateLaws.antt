-- What a test of a cone's state answers: whether the cone is finished, and whether it is broken.
use Rattle.std.proofs.{Common.{◌≡◌, ◌∙◌, true, false, Ok, Err, IsErrOf, ap, sym, refl}, lemmas.Bool.false≢true}
use Rattle.std.specs.Prelude.{◌↔◌}
use Rattle.lert_base.specs.{declared.cone_fault.ConeFault.ConeFault, declared.cone_fault.ConeFault.TheVariants.{Broken, Closed}}
use Rattle.lert_cone.specs.{declared.state.ConeState.ConeState, declared.state.ConeState.TheVariants.{Finished, Running}, Stands.{is_broken, is_finished, is_refusal}}
use Rattle.lert_cone.proofs.Refusals.{no_fault, one_fault}

abbrev Answer : ConeFault → ConeFault → Type 0
Answer x y = IsErrOf {T = Unit {0}} {E = ConeFault} (Err x) y

-- one that takes packets
pub passed_closed : {T : Type 0} {value : T} (state : ConeState) → state ≡ Running → ◌↔◌ (IsErrOf {T = T} {E = ConeFault} (Ok value) Closed) (state ≡ Finished)
passed_closed state is = ((λ same. absurd (no_fault same)), (λ ended. absurd (false≢true (ap is_finished (sym is ∙ ended)))))

pub passed_broken : {T : Type 0} {value : T} (state : ConeState) → state ≡ Running → ◌↔◌ (IsErrOf {T = T} {E = ConeFault} (Ok value) Broken) (is_broken state ≡ true)
passed_broken state is = ((λ same. absurd (no_fault same)), (λ broken. absurd (false≢true (sym (ap is_broken is) ∙ broken))))

-- one that is finished
closed_not_broken : Answer Closed Broken → ⊥
closed_not_broken same = (let never : ⊥ = cc in never)

pub ended_closed : (state : ConeState) → state ≡ Finished → ◌↔◌ (Answer Closed Closed) (state ≡ Finished)
ended_closed state is = ((λ _. is), (λ _. refl))

pub ended_broken : (state : ConeState) → state ≡ Finished → ◌↔◌ (Answer Closed Broken) (is_broken state ≡ true)
ended_broken state is = ((λ same. absurd (closed_not_broken same)), (λ broken. absurd (false≢true (sym (ap is_broken is) ∙ broken))))

-- one that is broken, or replays
broken_not_closed : Answer Broken Closed → ⊥
broken_not_closed same = (let never : ⊥ = cc in never)

pub broken_closed : (state : ConeState) → is_broken state ≡ true → ◌↔◌ (Answer Broken Closed) (state ≡ Finished)
broken_closed state broken = ((λ same. absurd (broken_not_closed same)), (λ ended. absurd (false≢true (sym (ap is_broken ended) ∙ broken))))

pub broken_broken : (state : ConeState) → is_broken state ≡ true → ◌↔◌ (Answer Broken Broken) (is_broken state ≡ true)
broken_broken state broken = ((λ _. broken), (λ _. refl))

-- one that took packets, and breaks in the middle of a call
refused_not : {T : Type 0} (x y : ConeFault) → is_refusal x ≡ false → is_refusal y ≡ true → IsErrOf {T = T} {E = ConeFault} (Err x) y → ⊥
refused_not x y broke refusal same = false≢true (sym broke ∙ ap is_refusal (one_fault same) ∙ refusal)

pub broke_closed : {T : Type 0} (x : ConeFault) (state : ConeState) → is_refusal x ≡ false → state ≡ Running →
    ◌↔◌ (IsErrOf {T = T} {E = ConeFault} (Err x) Closed) (state ≡ Finished)
broke_closed x state broke is = (
  (λ same. absurd (refused_not x Closed broke refl same)),
  (λ ended. absurd (false≢true (ap is_finished (sym is ∙ ended)))),
)

pub broke_broken : {T : Type 0} (x : ConeFault) (state : ConeState) → is_refusal x ≡ false → state ≡ Running →
    ◌↔◌ (IsErrOf {T = T} {E = ConeFault} (Err x) Broken) (is_broken state ≡ true)
broke_broken x state broke is = (
  (λ same. absurd (refused_not x Broken broke refl same)),
  (λ broken. absurd (false≢true (sym (ap is_broken is) ∙ broken))),
)
