-- What an answer says of its fault.
use Rattle.std.proofs.{Common.{◌≡◌, ◌≢◌, ◌∙◌, ℕ, Option, Result, Ok, Err, IsErrOf, ap, sym}, lemmas.Bool.false≢true}
use Rattle.std.specs.Prelude.{◌↔◌, true}
use Rattle.lert_base.specs.{declared.cone_fault.ConeFault.ConeFault, declared.cone_fault.ConeFault.TheVariants.{BayFailed, Unsound}}
use Rattle.lert_bay.specs.Files.{Files, Turns}
use Rattle.lert_gatelog.specs.Kept.{OthersStay}
use Rattle.lert_cone.specs.{Sound.FramesStay, Stands.is_refusal}

abbrev fault_or : {T E : Type 0} → E → Result T E → E
fault_or other (Ok value) = other
fault_or other (Err fault) = fault

-- an error has one fault
pub one_fault : {T E : Type 0} {x y : E} → IsErrOf {T = T} {E = E} (Err x) y → x ≡ y
one_fault {x = x} same = ap (fault_or x) same

-- Ok has none
pub no_fault : {T E : Type 0} {value : T} {y : E} → IsErrOf {T = T} {E = E} (Ok value) y → ⊥
no_fault same = (let never : ⊥ = cc in never)

-- an answer of another type with the same fault
pub fault_as : {T U E A : Type 0} (x y : E) → ◌↔◌ (IsErrOf {T = T} {E = E} (Err x) y) A → ◌↔◌ (IsErrOf {T = U} {E = E} (Err x) y) A
fault_as x y either = ((λ same. either.0 (ap Err (one_fault same))), (λ why. ap Err (one_fault (either.1 why))))

-- a refusal names neither a fault of the bay nor a byte of a file
pub no_failed : {T : Type 0} (x : ConeFault) → is_refusal x ≡ true → IsErrOf {T = T} {E = ConeFault} (Err x) BayFailed → ⊥
no_failed x refusal same = false≢true (sym (ap is_refusal (one_fault same)) ∙ refusal)

pub no_unsound : {T : Type 0} (x : ConeFault) → is_refusal x ≡ true → (file at : ℕ) → IsErrOf {T = T} {E = ConeFault} (Err x) (Unsound file at) → ⊥
no_unsound x refusal file at same = false≢true (sym (ap is_refusal (one_fault same)) ∙ refusal)

-- calls that change another file alone leave the frames
pub frames_stay : (file : ℕ) → 2 ≢ file → (before after : Option Files) → Turns (OthersStay file) before after → Turns FramesStay before after
frames_stay file other before after turns = record {
  told = λ old told.
      let came = turns.told old told in
      (came.0, came.1, came.2 2 other);
  untold = turns.untold;
}

pub frames_stay_on : (before between after : Option Files) → Turns FramesStay before between → Turns FramesStay between after → Turns FramesStay before after
frames_stay_on before between after first second = record {
  told = λ old told.
      let came = first.told old told in
      let went = second.told came.0 came.1 in
      (went.0, went.1, went.2 ∙ came.2);
  untold = λ none. second.untold (first.untold none);
}
