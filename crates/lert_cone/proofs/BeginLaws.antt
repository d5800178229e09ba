-- What the beginning of a cone says of its fault, and of the frames.
use Rattle.std.proofs.{Common.{◌≡◌, ◌∙◌, Option, Err, IsErrOf, ap, sym, refl}, lemmas.Bool.false≢true}
use Rattle.std.specs.Prelude.{Bool, true, false}
use Rattle.lert_bay.specs.Files.{Files, Turns}
use Rattle.lert_cone.specs.{Sound.FramesStay, declared.refusal.CreateFault.CreateFault}
use Rattle.lert_cone.proofs.Refusals.{one_fault}

abbrev is_not_fresh : CreateFault → Bool
is_not_fresh CreateFault.NotFresh = true
is_not_fresh CreateFault.Failed = false

-- a call of the bay that failed isn't a file that isn't empty
pub failed_not_fresh : {T : Type 0} → IsErrOf {T = T} {E = CreateFault} (Err CreateFault.Failed) CreateFault.NotFresh → ⊥
failed_not_fresh same = false≢true (ap is_not_fresh (one_fault same))

pub not_fresh_not_failed : {T : Type 0} → IsErrOf {T = T} {E = CreateFault} (Err CreateFault.NotFresh) CreateFault.Failed → ⊥
not_fresh_not_failed same = false≢true (sym (ap is_not_fresh (one_fault same)))

-- where no file changes, the frames stay
pub frames_same : (before after : Option Files) → after ≡ before → Turns FramesStay before after
frames_same before after same = record {
  told = λ old told. (old, same ∙ told, refl);
  untold = λ none. same ∙ none;
}
