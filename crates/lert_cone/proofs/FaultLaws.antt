-- What a fault in the middle of a call leaves of a cone and of its bay.
use Rattle.std.proofs.Common.{◌≡◌, ◌∙◌, ℕ, true, false, Option, Some, None, refl}
use Rattle.lert_bay.specs.Files.{Files, Turns}
use Rattle.lert_cone.specs.{declared.state.ConeState.TheVariants.{BrokenByBay, BrokenByRead}, declared.tally.TakeFault.TakeFault}
use Rattle.lert_cone.specs.{declared.tally.TakeFault.TheVariants.{Failed as TakeFailed, Unsound as TakeUnsound}, Sound.IsKept, Stands.{is_broken, is_refusal, broken_by, cone_fault}, Wrote.Anything}
use Rattle.lert_base.specs.declared.cone_fault.ConeFault.TheVariants.{BayFailed, Unsound}

-- a bay that never tells
pub untold : (told : Option Files) → ((seen : Files) → told ≡ Some seen → ⊥) → told ≡ None
untold None never = refl
untold (Some seen) never = absurd (never seen refl)

-- ---- a fault in the middle of a call

pub is_broken_by : (fault : TakeFault) → is_broken (broken_by fault) ≡ true
is_broken_by TakeFailed = refl
is_broken_by (TakeUnsound file at) = refl

pub by_bay_of : (fault : TakeFault) → broken_by fault ≡ BrokenByBay → fault ≡ TakeFailed
by_bay_of TakeFailed same = refl
by_bay_of (TakeUnsound file at) same = absurd (let never : ⊥ = cc in never)

pub by_read_of : (fault : TakeFault) (file at : ℕ) → broken_by fault ≡ BrokenByRead file at → fault ≡ TakeUnsound file at
by_read_of TakeFailed file at same = absurd (let never : ⊥ = cc in never)
by_read_of (TakeUnsound other place) file at same = (let is : TakeUnsound other place ≡ TakeUnsound file at = cc in is)

pub failed_of : (fault : TakeFault) → cone_fault fault ≡ BayFailed → fault ≡ TakeFailed
failed_of TakeFailed same = refl
failed_of (TakeUnsound file at) same = absurd (let never : ⊥ = cc in never)

pub unsound_of : (fault : TakeFault) (file at : ℕ) → cone_fault fault ≡ Unsound file at → fault ≡ TakeUnsound file at
unsound_of TakeFailed file at same = absurd (let never : ⊥ = cc in never)
unsound_of (TakeUnsound other place) file at same = (let is : TakeUnsound other place ≡ TakeUnsound file at = cc in is)

pub no_refusal : (fault : TakeFault) → is_refusal (cone_fault fault) ≡ false
no_refusal TakeFailed = refl
no_refusal (TakeUnsound file at) = refl

-- ---- what is left of a bay

-- files that are told stay told
pub any_turn : {step : Files → Files → Type 0} {before after : Option Files} → Turns step before after → Turns Anything before after
any_turn turns = record {
  told = λ old told.
      let came = turns.told old told in
      (came.0, came.1, tt);
  untold = turns.untold;
}

-- a bay that is the same tells the same
pub turns_as : {before after : Option Files} → after ≡ before → Turns Anything before after
turns_as same = record { told = λ old told. (old, same ∙ told, tt); untold = λ none. same ∙ none }

-- what holds in each image of each moment holds as the files read then, and in each image
pub kept_since : {after since : Files → Type 0} {seen : Files} {P : Files → Type 0} → after seen → ((image : Files) → after image → since image) →
    ((image : Files) → since image → P image) →
    IsKept after seen P
kept_since {seen = seen} read now each = record { as_read = each seen (now seen read); images = λ image may. each image (now image may) }

-- turns in a row
pub turns_on : {one two : Files → Files → Type 0} {before between after : Option Files} → Turns one before between → Turns two between after → Turns Anything before after
turns_on first second = record {
  told = λ old told.
      let came = first.told old told in
      let went = second.told came.0 came.1 in
      (went.0, went.1, tt);
  untold = λ none. second.untold (first.untold none);
}
