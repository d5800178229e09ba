-- Several writes one behind the other are one write of all their bytes.
use Rattle.std.proofs.Common.{◌≡◌, ◌≢◌, ℕ, ◌+◌, ◌-◌, ◌<◌, ◌≤◌, List, ◌++◌, length, take, drop, get_or, Option, Some, None, Result, replicate, refl, sym, ap, ◌∙◌, ◌⊎◌, subst, inl, inr, arith}
use Rattle.std.{proofs.Common.length-append, specs.Prelude.{OnOk, OnErr, Ok, Err, IsErrOf}, proofs.lemmas.Option.none-some, proofs.lemmas.Bool.{cases_eq}}
use Rattle.std.proofs.lemmas.List.{get_or_append_left, get_or-append_right, ext_get_or, length-take-le}
use Rattle.lert_bay.{specs.Files.{Files, Turns, Changes, Holds, padded, Torn}, specs.Images.{Follow, Elapses}, specs.Kept.{Bays}}
use Rattle.lert_bay.{specs.Settled.part, proofs.Laid.{length_held}, proofs.KeptLaws.IsLawful, proofs.Settling.{part_torn, part_at, length_part}}
use Rattle.lert_bay.proofs.Tearing.{comes_same}
use Rattle.lert_frames.specs.Kept.{Wrote, KeepsOutside}
use lib.ListN.{length-replicate}

-- ---- one file

padded_long : (at : ℕ) (old : List ℕ) → at ≤ length (padded old at)
padded_long at old = omega (arith, length-append old (replicate {A = ℕ} (at - length old) 0), length-replicate {A = ℕ} (at - length old) 0)

-- inside of the bytes laid over it a file reads as they do
pub inside_held : (at : ℕ) (bytes old new : List ℕ) → Holds at bytes old new → (k : ℕ) → k < length bytes → get_or new (at + k) 0 ≡ get_or bytes k 0
inside_held at bytes old new held k below =
    let front = take at (padded old at) in
    let long : length front ≡ at = length-take-le at (padded old at) (padded_long at old) in
    ap (λ xs. get_or xs (at + k) 0) held
    ∙ (get_or_append_left (front ++ bytes) (drop (at + length bytes) old) 0 (at + k) (omega (arith, length-append front bytes, long, below))
    ∙ (get_or-append_right front bytes at (at + k) 0 long (omega arith)
    ∙ ap (λ n. get_or bytes n 0) (omega arith)))

-- ---- all files

pub changes_on : (file : ℕ) (one two both : List ℕ → List ℕ → Type 0) (old middle new : Files) → ((a b c : List ℕ) → one a b → two b c → both a c) →
    Changes one file old middle →
    Changes two file middle new → Changes both file old new
changes_on file one two both old middle new join first second = record {
  here = join (old file) (middle file) (new file) first.here second.here;
  others = λ other apart. second.others other apart ∙ first.others other apart;
}

pub changes_weaker : (file : ℕ) (step weaker : List ℕ → List ℕ → Type 0) (old new : Files) → ((a b : List ℕ) → step a b → weaker a b) → Changes step file old new →
    Changes weaker file old new
changes_weaker file step weaker old new follows changed = record { here = follows (old file) (new file) changed.here; others = changed.others }

pub turns_on : (file : ℕ) (one two both : List ℕ → List ℕ → Type 0) (before middle after : Option Files) → ((a b c : List ℕ) → one a b → two b c → both a c) →
    Turns (Changes one file) before middle → Turns (Changes two file) middle after → Turns (Changes both file) before after
turns_on file one two both before middle after join first second = record {
  told = λ old told.
      let then = first.told old told in
      let last = second.told then.0 then.1 in
      (last.0, last.1, changes_on file one two both old then.0 last.0 join then.2 last.2);
  untold = λ untold. second.untold (first.untold untold);
}

pub turns_weaker : (file : ℕ) (step weaker : List ℕ → List ℕ → Type 0) (before after : Option Files) → ((a b : List ℕ) → step a b → weaker a b) →
    Turns (Changes step file) before after → Turns (Changes weaker file) before after
turns_weaker file step weaker before after follows turned = record {
  told = λ old told. let then = turned.told old told in (then.0, then.1, changes_weaker file step weaker old then.0 follows then.2);
  untold = turned.untold;
}

-- ---- images

module _ {B : Type 0} (bays : Bays B) where
  -- one write
  pub wrote_once : IsLawful bays → (step : List ℕ → List ℕ → Type 0) (file at count : ℕ) (before after : B) →
      Turns (Changes step file) (bays.files before) (bays.files after) → Follow (Changes (Torn at count) file) (bays.leaves before) (bays.leaves after) →
      Elapses (bays.moment before) (bays.moment after) (bays.left_since before) (bays.left_since after) (bays.leaves after) →
      Wrote bays step file at count before after
  wrote_once lawful step file at count before after turned follow elapsed = record {
    seen = turned;
    images = follow.comes;
    moments = λ image since. elim (elapsed.known (bays.moment before) image (omega arith) since) [
      | inl past ↦ comes_same (bays.leaves before) file at count image (lawful.only_now before image past)
      | inr now ↦ follow.comes image now
    ];
  }

  -- what is settled outside of the range stays settled
  pub kept_outside : (step : List ℕ → List ℕ → Type 0) (file at count end : ℕ) (before after : B) (seen : Files) →
      at + count ≤ end → Wrote bays step file at count before after → KeepsOutside bays before after seen file at end
  kept_outside step file at count end before after seen within wrote number from to clear settled image since =
      let came = wrote.moments image since in
      elim (cases_eq number file) [
        | inr other ↦ ap (λ bytes. part bytes from to) (came.2.others number other) ∙ settled.same came.0 came.1
        | inl same ↦ part_torn at count (came.0 number) (image number) (seen number) from to (subst (λ (n : ℕ). Torn at count (came.0 n) (image n)) (sym same) came.2.here)
            (settled.same came.0 came.1) settled.within (beside same clear)
      ]
    where
      beside : number ≡ file → (number ≢ file) ⊎ ((to ≤ at) ⊎ (end ≤ from)) → (to ≤ at) ⊎ (at + count ≤ from)
      beside same (inl other) = absurd (other same)
      beside same (inr (inl before)) = inl before
      beside same (inr (inr behind)) = inr (omega (arith, within, behind))

-- ---- what stands in the range

-- the bytes that were laid over a file are there
pub held_there : (at : ℕ) (bytes old new : List ℕ) → Holds at bytes old new → part new at (at + length bytes) ≡ bytes
held_there at bytes old new held =
    let long : length (part new at (at + length bytes)) ≡ length bytes = length_part new at (at + length bytes) (omega (arith, length_held at bytes old new held)) ∙ omega arith in
    ext_get_or 0 (part new at (at + length bytes)) bytes long (λ k below.
    part_at new at (at + length bytes) k (omega (arith, below, long)) ∙ inside_held at bytes old new held k (omega (arith, below, long)))

-- a bay that tells its files after calls told them before
pub turns_back : (step : Files → Files → Type 0) (before after : Option Files) (new : Files) → Turns step before after → after ≡ Some new →
    (old : Files) × (before ≡ Some old) × step old new
turns_back step None after new turned told = absurd (none-some new (sym (turned.untold refl) ∙ told))
turns_back step (Some old) after new turned told =
    let then = turned.told old refl in
    let both : Some then.0 ≡ Some new = sym then.1 ∙ told in
    let same : then.0 ≡ new = cc in
    (old, refl, subst (λ (files : Files). step old files) same then.2)

-- whichever answer came
pub if_ok : {T E : Type 0} (P : Type 0) (result : Result T E) → P → OnOk result P
if_ok P (Ok _) held = held
if_ok P (Err _) held = tt

pub on_err : {T E : Type 0} (P : Type 0) (result : Result T E) → P → OnErr result P
on_err P (Ok _) held = tt
on_err P (Err _) held = held

pub either_way : {T E : Type 0} (P A B : Type 0) (result : Result T E) → OnOk result A → OnErr result B → (A → P) → (B → P) → P
either_way P A B (Ok _) ok err from_ok from_err = from_ok ok
either_way P A B (Err _) ok err from_ok from_err = from_err err

pub on_ok : {T E : Type 0} (P Q : Type 0) (result : Result T E) → OnOk result P → (P → Q) → OnOk result Q
on_ok P Q (Ok _) held follows = follows held
on_ok P Q (Err _) held follows = tt

pub on_err_from : {T E : Type 0} (P Q : Type 0) (result : Result T E) → OnErr result P → (P → Q) → OnErr result Q
on_err_from P Q (Ok _) held follows = tt
on_err_from P Q (Err _) held follows = follows held

-- an error is the same in any result
pub same_err : {T U E : Type 0} (x y : E) → IsErrOf {T = T} {E = E} (Err x) y → IsErrOf {T = U} {E = E} (Err x) y
same_err x y is = let same : x ≡ y = cc in ap (λ e. Err e) same
